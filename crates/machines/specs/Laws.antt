-- That composed machines are lawful, and that operations can follow one another. These are proofs, for the prover and not for
-- the reader; they stand here since the ghost members of machines and journals name them.
use Rattle.std.specs.Prelude.{◌≡◌, ℕ, ◌+◌, List, [], ◌∷◌, ◌++◌, length, drop, None, Option, refl}
use Rattle.std.specs.Borrow.{MutBor}
use Rattle.std.specs.Option.{option_map}
use Rattle.std.proofs.Common.{sym, ap, ◌∙◌, subst, append-nil, append_assoc, add_assoc, add-zero, length-append, drop-drop}
use Rattle.machines.specs.Composed.{composed}
use Rattle.machines.specs.Kept.{kept}
use Rattle.machines.specs.Listing.{list_last, written, unwritten, Writes}
use Rattle.machines.specs.Machine.{Lawful}
use Rattle.machines.specs.Operation.{Operation, granted_by, granted_wires, told}
use Rattle.machines.specs.Wires.{Supply, Bounded}
use Rattle.machines.specs.declared.operation.Operation.{Operation as Record}
use Rattle.machines.specs.declared.journal.Last.{Last}

pub composed_lawful : (s : Supply) (made : ℕ) (last : Option Operation) (most : ℕ) → Bounded s → Lawful (composed s made last most)
composed_lawful s made last most b = record { wires = b.wires; limit = b.limit }

-- The wires that operations grant.
pub granted-append : (os ps : List Operation) → granted_wires (os ++ ps) ≡ granted_wires os ++ granted_wires ps
granted-append [] ps = refl
granted-append (o ∷ os) ps =
    ap (λ l. granted_by o.action o.wires ++ l) (granted-append os ps)
    ∙ sym (append_assoc (granted_by o.action o.wires) (granted_wires os) (granted_wires ps))

pub wires_go : (P : List ℕ → Type 0) (os ps : List Operation) → P (granted_wires os ++ granted_wires ps) → P (granted_wires (os ++ ps))
wires_go P os ps h = subst P (sym (granted-append os ps)) h

-- A number of operations, and operations after it.
pub count_stays : (n : ℕ) → n ≡ n + 0
count_stays n = sym (add-zero n)

pub count_goes : {A : Type 0} (a b c : ℕ) (xs ys : List A) → b ≡ a + length xs → c ≡ b + length ys → c ≡ a + length (xs ++ ys)
count_goes a b c xs ys e f =
    f ∙ ap (λ n. n + length ys) e ∙ add_assoc a (length xs) (length ys) ∙ ap (λ n. a + n) (sym (length-append xs ys))

pub last_fresh : (x : Last) → option_map told (kept 0 x.operation) ≡ None
last_fresh x = refl

pub last_stays : (x : Last) (n : ℕ) → x.most ≡ x.most
last_stays x n = refl

pub last_goes : (x y z : Last) (n m : ℕ) (os ps : List Operation) → m ≡ n + length os → y.most ≡ x.most → z.most ≡ y.most → z.most ≡ x.most
last_goes x y z n m os ps e a b = b ∙ a

pub writes_fresh : (x : MutBor (List Record)) → list_last x 0 ≡ None
writes_fresh x = refl

pub writes_stay : (x : MutBor (List Record)) (n : ℕ) → Writes x n [] x
writes_stay x n = record { adds = ap (written x) (add-zero n) ∙ sym (append-nil (written x n)); leaves = ap (unwritten x) (add-zero n); loan = refl }

pub writes_go : (x y z : MutBor (List Record)) (n m : ℕ) (os ps : List Operation) → m ≡ n + length os → Writes x n os y → Writes y m ps z → Writes x n (os ++ ps) z
writes_go x y z n m os ps e a b =
    let all = count_goes n m (m + length ps) os ps e refl in
    record {
      adds = ap (written z) (sym all) ∙ b.adds ∙ ap (λ k. written y k ++ ps) e ∙ ap (λ l. l ++ ps) a.adds ∙ append_assoc (written x n) os ps;
      leaves =
          ap (unwritten z) (sym all) ∙ b.leaves ∙ ap (λ k. drop (length ps) (unwritten y k)) e ∙ ap (drop (length ps)) a.leaves
          ∙ drop-drop (length ps) (length os) (unwritten x n)
          ∙ ap (λ k. drop k (unwritten x n)) (sym (length-append os ps));
      loan = b.loan ∙ a.loan;
    }
