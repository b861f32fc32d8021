-- How many numbers are in a set.
use Rattle.std.proofs.Common.{◌≡◌, ℕ, zero, suc, ◌+◌, ◌<◌, ◌≤◌, Bool, true, false, cond, ltb, refl, ap, ◌∙◌, ⊎_elim, arith, le-ltb, lt-ltb}
use Rattle.std.proofs.lemmas.Bool.{cases_lt}
use Rattle.machines.specs.Machine.{counted}

module _ (s : ℕ → Bool) (n : ℕ) where
  pub counted_in_lem : s n ≡ true → counted s (suc n) ≡ 1 + counted s n
  unfolding counted
  counted_in_lem e = ap (λ b. cond b 1 0 + counted s n) e

  pub counted_out : s n ≡ false → counted s (suc n) ≡ counted s n
  unfolding counted
  counted_out e = ap (λ b. cond b 1 0 + counted s n) e ∙ omega arith

-- Sets with the same numbers below n.
pub counted_same : (s t : ℕ → Bool) (n : ℕ) → ((v : ℕ) → v < n → s v ≡ t v) → counted s n ≡ counted t n
unfolding counted
counted_same s t zero h = refl
counted_same s t (suc n) h =
    ap (λ b. cond b 1 0 + counted s n) (h n (omega arith)) ∙ ap (λ k. cond (t n) 1 0 + k) (counted_same s t n (λ v l. h v (omega arith)))

-- No number from k on is in the set.
pub counted_past : (s : ℕ → Bool) (k n : ℕ) → k ≤ n → ((v : ℕ) → k ≤ v → s v ≡ false) → counted s n ≡ counted s k
counted_past s k zero h out = ap (counted s) (omega arith)
counted_past s k (suc n) h out =
    ⊎_elim (λ l. let e : n ≡ n = refl in ap (counted s) (omega arith))
    (λ l. counted_out s n (out n l) ∙ counted_past s k n l out)
    (cases_lt n k)

-- All numbers below n are in the set.
pub counted_all : (s : ℕ → Bool) (n : ℕ) → ((v : ℕ) → v < n → s v ≡ true) → counted s n ≡ n
unfolding counted
counted_all s zero all = refl
counted_all s (suc n) all = omega (arith, counted_in_lem s n (all n (omega arith)), counted_all s n (λ v h. all v (omega arith)))

-- The numbers below k, counted below n.
pub counted_below : (k n : ℕ) → k ≤ n → counted (λ v. ltb v k) n ≡ k
counted_below k n h =
    counted_past (λ v. ltb v k) k n h (λ v l. le-ltb v k l) ∙ counted_all (λ v. ltb v k) k (λ v l. lt-ltb v k l)
