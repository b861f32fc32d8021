-- A line that writes an entry holds no line feed.
use Rattle.std.proofs.Common.{◌≡◌, ℕ, ◌≤◌, List, [], ◌∷◌, ◌++◌, map, decimal, refl, ap, ◌∙◌, arith}
use Rattle.terms.specs.Gate.{name}
use Rattle.terms.specs.declared.Gate.{Gate}
use Rattle.terms.specs.declared.Gate.TheVariants.{H, X, Z, S, Sdg, T, Tdg, Cx, Cz, Swap, Ccx}
use Rattle.terms.specs.declared.Kind.{Kind}
use Rattle.terms.specs.declared.Kind.TheVariants.{Variable, Wire, Constant, Gate as GateNode, New, Bang, Application, Tuple, Binder}
use Rattle.sheet.specs.Entry.{Entry, own, tabbed, written, Each, Proper}
use Rattle.sheet.specs.Sheet.{times}
use Rattle.sheet.proofs.Shaping.{byte, numbers, numeric, ranges}
use Rattle.sheet.proofs.Times.{times-append}
use Rattle.sheet.proofs.Uncut.{decimal_lacks}

fields_lack : (ns : List ℕ) → Each (λ n. n ≤ 4096) ns → times 10 (tabbed (map decimal ns)) ≡ 0
fields_lack [] r = refl
fields_lack (n ∷ ns) r = omega (arith, times-append 10 (decimal n) (tabbed (map decimal ns)), decimal_lacks 10 n (omega arith) r.0, fields_lack ns r.1)

numeric-lacks : (k : Kind) (ps : List ℕ) → (byte k ≡ 103 → ⊥) → Proper (k, ps) → times 10 (tabbed (own k ++ map decimal ps)) ≡ 0
numeric-lacks k ps o h = let n = numeric k ps o h in ap (λ fs. times 10 (tabbed fs)) n.fields ∙ fields_lack (numbers (k, ps)) n.range

name-lacks : (g : Gate) → times 10 (name g) ≡ 0
name-lacks H = refl
name-lacks X = refl
name-lacks Z = refl
name-lacks S = refl
name-lacks Sdg = refl
name-lacks T = refl
name-lacks Tdg = refl
name-lacks Cx = refl
name-lacks Cz = refl
name-lacks Swap = refl
name-lacks Ccx = refl

lacks : (k : Kind) (ps : List ℕ) → Proper (k, ps) → times 10 (written (k, ps)) ≡ 0
lacks (Variable p u) ps h = omega (arith, numeric-lacks (Variable p u) ps (λ b. omega arith) h)
lacks (Wire w) ps h = omega (arith, numeric-lacks (Wire w) ps (λ b. omega arith) h)
lacks (Constant c) ps h = omega (arith, numeric-lacks (Constant c) ps (λ b. omega arith) h)
lacks (GateNode g) ps h = omega (arith, times-append 10 (name g) (tabbed (map decimal ps)), name-lacks g, fields_lack ps (ranges ps h.part_range))
lacks New ps h = omega (arith, numeric-lacks New ps (λ b. omega arith) h)
lacks Bang ps h = omega (arith, numeric-lacks Bang ps (λ b. omega arith) h)
lacks Application ps h = omega (arith, numeric-lacks Application ps (λ b. omega arith) h)
lacks (Tuple n) ps h = omega (arith, numeric-lacks (Tuple n) ps (λ b. omega arith) h)
lacks (Binder n) ps h = omega (arith, numeric-lacks (Binder n) ps (λ b. omega arith) h)

pub written_unbroken : (e : Entry) → Proper e → times 10 (written e) ≡ 0
written_unbroken e h = lacks e.0 e.1 h
