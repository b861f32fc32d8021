-- A line writes one entry only, and entries write one term only.
use Rattle.std.proofs.Common.{◌≡◌, ℕ, ◌+◌, ◌*◌, cond, eqb, List, [], ◌∷◌, ◌++◌, Some, sym, refl, ap, ◌∙◌, inl, inr, arith}
use Rattle.std.proofs.lemmas.List.{nil_from_length}
use Rattle.std.proofs.lemmas.Bool.{cases_eq}
use Rattle.terms.specs.Gate.{name}
use Rattle.terms.specs.Term.{Term, var, wire, bit, gate, new, bang, app, tuple, abs, Terms, none, part, count}
use Rattle.terms.specs.Flat.{kind_of, parts}
use Rattle.terms.specs.Parse.{firsts, build, first}
use Rattle.terms.specs.declared.Gate.{Gate}
use Rattle.terms.specs.declared.Gate.TheVariants.{H, X, Z, S, Sdg, T, Tdg, Cx, Cz, Swap, Ccx}
use Rattle.terms.specs.declared.Kind.{Kind}
use Rattle.terms.specs.declared.Kind.TheVariants.{Variable, Wire, Constant, Gate as GateNode, New, Bang, Application, Tuple, Binder}
use Rattle.sheet.specs.Entry.{Entry, tabbed, written, Proper}
use Rattle.sheet.specs.Fields.{Fields, shape}
use Rattle.sheet.specs.Reading.{Line, first_line, later_line, Writes, Write, line, no_parts, more_parts}
use Rattle.sheet.proofs.Collecting.{one_list}
use Rattle.sheet.proofs.Parsing.{fields, written_byte}
use Rattle.sheet.proofs.Shaping.{byte, numbers, numeric, complete}
use Rattle.sheet.proofs.Writing.{line-range}

-- The gates' names as different numbers, and the gate of such a number.
abbrev name-number : List ℕ → ℕ
name-number [] = 0
name-number (b ∷ bs) = b + 2 * name-number bs

abbrev gate-numbered : ℕ → Gate
gate-numbered n =
    cond (eqb n (name-number (name H))) H
    (cond (eqb n (name-number (name X))) X
    (cond (eqb n (name-number (name Z))) Z
    (cond (eqb n (name-number (name S))) S
    (cond (eqb n (name-number (name Sdg))) Sdg
    (cond (eqb n (name-number (name T))) T
    (cond (eqb n (name-number (name Tdg))) Tdg
    (cond (eqb n (name-number (name Cx))) Cx
    (cond (eqb n (name-number (name Cz))) Cz
    (cond (eqb n (name-number (name Swap))) Swap Ccx)))))))))

name-gate : (g : Gate) → gate-numbered (name-number (name g ++ [])) ≡ g
name-gate H = refl
name-gate X = refl
name-gate Z = refl
name-gate S = refl
name-gate Sdg = refl
name-gate T = refl
name-gate Tdg = refl
name-gate Cx = refl
name-gate Cz = refl
name-gate Swap = refl
name-gate Ccx = refl

-- The gate node with what stands after its letter.
abbrev gate-node : List ℕ → Entry
gate-node [] = (GateNode Ccx, [])
gate-node (b ∷ bs) = (GateNode (gate-numbered (name-number bs)), [])

gate-entry : (k : Kind) (ps : List ℕ) → byte k ≡ 103 → Proper (k, ps) → gate-node (tabbed (fields (k, ps))) ≡ (k, ps)
gate-entry (Variable p u) ps e h = absurd (omega arith)
gate-entry (Wire w) ps e h = absurd (omega arith)
gate-entry (Constant c) ps e h = absurd (omega arith)
gate-entry (GateNode g) ps e h = rw (nil_from_length ps h.part_count) (ap (λ x. (GateNode x, [])) (name-gate g))
gate-entry New ps e h = absurd (omega arith)
gate-entry Bang ps e h = absurd (omega arith)
gate-entry Application ps e h = absurd (omega arith)
gate-entry (Tuple n) ps e h = absurd (omega arith)
gate-entry (Binder n) ps e h = absurd (omega arith)

its_numbers : (e : Entry) → (byte e.0 ≡ 103 → ⊥) → Proper e → Fields (tabbed (fields e)) (numbers e)
its_numbers e o h = let n = numeric e.0 e.1 o h in record { text = ap tabbed n.fields; range = n.range }

pub written_injective : (e d : Entry) → Proper e → Proper d → written e ≡ written d → e ≡ d
written_injective e d p q w =
    let s : byte e.0 ∷ tabbed (fields e) ≡ byte d.0 ∷ tabbed (fields d) = sym (written_byte e) ∙ w ∙ written_byte d in
    let b : byte e.0 ≡ byte d.0 = cc in
    let f : tabbed (fields e) ≡ tabbed (fields d) = cc in
    elim (cases_eq (byte e.0) 103) [
      | inl g ↦ sym (gate-entry e.0 e.1 g p) ∙ ap gate-node f ∙ gate-entry d.0 d.1 (sym b ∙ g) q
      | inr o ↦
          let n = its_numbers d (λ x. o (b ∙ x)) q in
          let m : numbers e ≡ numbers d = one_list (tabbed (fields e)) (numbers e) (numbers d) (its_numbers e o p) (record { text = f ∙ n.text; range = n.range }) in
          let x : Some e ≡ Some d = sym (complete e.0 e.1 o p) ∙ ap (λ l. shape l (numbers e)) b ∙ ap (λ ns. shape (byte d.0) ns) m ∙ complete d.0 d.1 (λ y. o (b ∙ y)) q in
          cc
    ]

-- A term is determined by its kind and its parts.
firsts_all : (ts : Terms) → firsts (count ts) ts ≡ ts
firsts_all none = refl
firsts_all (part t ts) = ap (λ x. part t x) (firsts_all ts)

build-parts : (t : Term) → first (build (kind_of t) (parts t)) ≡ t
build-parts (var u p) = refl
build-parts (wire w) = refl
build-parts (bit c) = refl
build-parts (gate g) = refl
build-parts (new t) = refl
build-parts (bang t) = refl
build-parts (app f a) = refl
build-parts (tuple ts) = ap tuple (firsts_all ts)
build-parts (abs n t) = refl

-- A number is that of one line.
one_line : {es ds : List Entry} {n m : ℕ} {e d : Entry} → Line es n e → Line ds m d → es ≡ ds → n ≡ m → e ≡ d
one_line first_line first_line q k = cc
one_line first_line (later_line l) q k = absurd (omega (arith, (line-range l).0))
one_line (later_line l) first_line q k = absurd (omega (arith, (line-range l).0))
one_line (later_line l) (later_line r) q k = one_line l r (cc) (omega arith)

-- A line writes one term, whose nodes stand on one row of lines.
mutual
  pub one_term : {es : List Entry} {n m : ℕ} {t u : Term} {ks ls : List ℕ} → Writes es n t ks → Writes es m u ls → n ≡ m → (t ≡ u) × (ks ≡ ls)
  one_term (line {t = t} {ps = ps} {ls = ks} l v) (line {t = u} {ps = qs} {ls = ls} r w) k =
      let s : ◌≡◌ {A = Entry} (kind_of t, ps) (kind_of u, qs) = one_line l r refl k in
      let o = one_row v w (ap (λ (e : Entry). e.1) s) in
      let d : ks ≡ ls = o.1 in
      (sym (build-parts t) ∙ ap (λ (e : Entry). first (build e.0 (parts t))) s ∙ ap (λ (ts : Terms). first (build (kind_of u) ts)) o.0 ∙ build-parts u, cc)

  one_row : {es : List Entry} {ps qs : List ℕ} {ts us : Terms} {ks ls : List ℕ} → Write es ps ts ks → Write es qs us ls → ps ≡ qs → (ts ≡ us) × (ks ≡ ls)
  one_row no_parts no_parts e = (refl, refl)
  one_row no_parts (more_parts w ws) e = absurd (let z : ◌≡◌ {A = ℕ} 0 1 = cc in omega arith)
  one_row (more_parts v vs) no_parts e = absurd (let z : ◌≡◌ {A = ℕ} 0 1 = cc in omega arith)
  one_row (more_parts {t = t} {ts = ts} {ls = hs} {ms = ks} v vs) (more_parts {t = u} {ts = us} {ls = is} {ms = ls} w ws) e =
      let o = one_term v w (cc) in
      let r = one_row vs ws (cc) in
      let a : t ≡ u = o.0 in
      let b : ts ≡ us = r.0 in
      let c : hs ≡ is = o.1 in
      let d : ks ≡ ls = r.1 in
      (cc, cc)
