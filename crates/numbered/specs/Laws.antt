-- That numbered wires are bounded, and that they can be taken one after another. These are proofs, for the prover and not for
-- the reader; they stand here since the ghost members of the wires name them.
use Rattle.std.specs.Prelude.{◌≡◌, ℕ, zero, suc, ◌+◌, min, List, [], ◌∷◌, ◌++◌, length, refl}
use Rattle.std.proofs.Common.{sym, ap, ap₂, ◌∙◌, add_assoc, add-zero, zero-add, suc-add, one-add, ltb-true, lt_of_lt_of_le, length-append}
use Rattle.std.proofs.Math.Nat.{min-le_right}
use Rattle.std.specs.List.{range_with_len}
use Rattle.machines.specs.Laws.{count_goes}
use Rattle.machines.specs.Machine.{wire_count}
use Rattle.machines.specs.Wires.{Bounded}
use Rattle.numbered.specs.Numbered.{supply_of, Numbers, NumbersTaken}
use Rattle.numbered.specs.declared.numbering.Numbering.{Numbering}

pub numbering_bounded : (n : Numbering) → Bounded (supply_of n)
numbering_bounded n = record {
  wires = λ v e. lt_of_lt_of_le (ltb-true v (min n.next wire_count) e) (min-le_right n.next wire_count);
  limit = min-le_right n.most wire_count;
}

counting_append : (a m n : ℕ) → range_with_len a (m + n) ≡ range_with_len a m ++ range_with_len (a + m) n
counting_append a zero n = ap (range_with_len a) (zero-add n) ∙ ap (λ k. range_with_len k n) (sym (add-zero a))
counting_append a (suc m) n =
    ap (range_with_len a) (suc-add m n)
    ∙ ap (λ l. a ∷ l) (counting_append (a + 1) m n ∙ ap (λ k. range_with_len (a + 1) m ++ range_with_len k n) (add_assoc a 1 m ∙ ap (λ k. a + k) (one-add m)))

pub numbers_stay : (n : Numbering) → Numbers n [] n
numbers_stay n = record { wires = refl; next = sym (add-zero n.next) }

pub numbers_go : (n m k : Numbering) (us vs : List ℕ) → Numbers n us m → Numbers m vs k → Numbers n (us ++ vs) k
numbers_go n m k us vs a b = record {
  wires =
      ap₂ (λ ws xs. ws ++ xs) a.wires (b.wires ∙ ap (λ x. range_with_len x (length vs)) a.next)
      ∙ sym (counting_append n.next (length us) (length vs))
      ∙ ap (range_with_len n.next) (sym (length-append us vs));
  next = count_goes n.next m.next k.next us vs a.next b.next;
}

pub numbers_taken_stay : (n : Numbering) → NumbersTaken n [] n
numbers_taken_stay n = record { numbers = numbers_stay n; most = refl; within = λ h. h }

pub numbers_taken_go : (n m k : Numbering) (us vs : List ℕ) → NumbersTaken n us m → NumbersTaken m vs k → NumbersTaken n (us ++ vs) k
numbers_taken_go n m k us vs a b = record {
  numbers = numbers_go n m k us vs a.numbers b.numbers;
  most = b.most ∙ a.most;
  within = λ h. b.within (a.within h);
}
