-- That the wires of a chip are bounded, and that they can be taken one after another. These are proofs, for the prover and not
-- for the reader; they stand here since the ghost members of the chip name them.
use Rattle.std.specs.Prelude.{◌≡◌, ℕ, ◌/◌, ◌%◌, ◌^◌, Bool, List, [], ◌∷◌, ◌++◌, ◌==◌, nat_lt, refl}
use Rattle.std.proofs.Common.{sym, ap, subst, ◌∙◌, ltb-true, lt_of_lt_of_le, lit≤}
use Rattle.std.proofs.lemmas.Bool.{and_parts}
use Rattle.machines.specs.Machine.{with_wire}
use Rattle.machines.specs.Wires.{Bounded}
use Rattle.chip.specs.Chip.{in_mask, with_wires, EachHighest, chip_supply, Fills}
use Rattle.chip.specs.declared.Chip.{Chip}

pub chip_bounded : (c : Chip) → Bounded (chip_supply c)
chip_bounded c = record {
  wires = λ v e. lt_of_lt_of_le (ltb-true v 64 (and_parts (nat_lt v 64) (c.held.0 / 2 ^ v % 2 == 1) e).0) (lit≤ tt);
  limit = lit≤ tt;
}

pub fills_stay : (x : Chip) → Fills x [] x
fills_stay x = record { highest = tt; holds = refl }

with_append : (ws vs : List ℕ) (s : ℕ → Bool) → with_wires (ws ++ vs) s ≡ with_wires vs (with_wires ws s)
with_append [] vs s = refl
with_append (w ∷ ws) vs s = with_append ws vs (with_wire w s)

highest_append : (ws vs : List ℕ) (s : ℕ → Bool) → EachHighest s ws → EachHighest (with_wires ws s) vs → EachHighest s (ws ++ vs)
highest_append [] vs s a b = b
highest_append (w ∷ ws) vs s a b = (a.0, highest_append ws vs (with_wire w s) a.1 b)

pub fills_go : (x y z : Chip) (us vs : List ℕ) → Fills x us y → Fills y vs z → Fills x (us ++ vs) z
fills_go x y z us vs a b =
    let s = in_mask x.held.0 in
    record {
      highest = highest_append us vs s a.highest (subst (λ t. EachHighest t vs) a.holds b.highest);
      holds = b.holds ∙ ap (with_wires vs) a.holds ∙ sym (with_append us vs s);
    }
