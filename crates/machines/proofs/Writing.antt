-- What one more record does to a list.
use Rattle.std.proofs.Common.{◌≡◌, ℕ, ◌+◌, ◌<◌, List, [], ◌∷◌, ◌++◌, map, length, take, drop, set, Some, None, Option, sym, refl, ap, ◌∙◌, arith, drop-drop, drop-set-lt}
use Rattle.std.proofs.lemmas.List.{take_more_set, map_push}
use Rattle.std.specs.List.{last_or}
use Rattle.machines.specs.Operation.{told}
use Rattle.machines.specs.declared.operation.Operation.{Operation as Record}

last_push : {A : Type 0} (o : Option A) (xs : List A) (x : A) → last_or o (xs ++ (x ∷ [])) ≡ Some x
last_push o [] x = refl
last_push o (y ∷ ys) x = last_push (Some y) ys x

-- The record r is written behind the n that stand in the list.
module _ (n : ℕ) (xs : List Record) (r : Record) (room : n < length xs) where
  pub adds : map told (take (n + 1) (set xs n r)) ≡ map told (take n xs) ++ (told r ∷ [])
  adds = ap (map told) (take_more_set xs n r room) ∙ map_push told (take n xs) r

  pub leaves : drop (n + 1) (set xs n r) ≡ drop 1 (drop n xs)
  leaves = drop-set-lt (n + 1) xs n r (omega arith) ∙ sym (drop-drop 1 n xs)

  pub last : last_or None (map told (take (n + 1) (set xs n r))) ≡ Some (told r)
  last = ap (last_or None) adds ∙ last_push None (map told (take n xs)) (told r)
