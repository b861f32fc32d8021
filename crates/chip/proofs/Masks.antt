-- Words of 64 bits as sets of wires.
use Rattle.std.proofs.Common.{◌≡◌, ℕ, zero, suc, ◌+◌, ◌-◌, ◌*◌, ◌/◌, ◌%◌, ◌^◌, ◌<◌, ◌≤◌, Bool, true, false, cond, ◌&&◌, ◌||◌, eqb, ltb, ◌⊎◌, sym, refl, ap, ◌∙◌, inl, inr, ⊎_elim, add-zero, mod-eq_of_lt, add-mul, one-mul, pow-suc, one-add, arith, lit<, lit≤, pow_mono, le-ltb, lt-ltb, eq-eqb, ne_eqb, eqb-true}
use mathlib.Core.Path.{fun_ext}
use native.Mathlib.Nat.{mul-mod_left, div-eq_of_lt}
use lib.Bits.{bit_or, or_shr, or_mod}
use lib.Count.{ones, ones_cat, ones-ones, count_leading_zeros, leading_top}
use Rattle.std.proofs.lemmas.Nat.{pow_pos, pow-add, div-mul-add, mod-pow-add, pow_below, mod_below, mod-mul-add}
use Rattle.std.proofs.lemmas.Bool.{cases_order, cases_lt}
use Rattle.chip.specs.Chip.{in_mask, HighestFree}
use Rattle.machines.specs.Machine.{counted, with_wire}
use Rattle.machines.proofs.Counts.{counted_past, counted_same}

-- Bit v of a word.
abbrev bit_at : ℕ → ℕ → Bool
bit_at m v = eqb (m / 2 ^ v % 2) 1

digit : (m : ℕ) → (m % 2 ≡ 0) ⊎ (m % 2 ≡ 1)
digit m = ⊎_elim (λ h. inl (omega arith)) (λ h. inr (omega (arith, mod_below m 2 (lit< tt)))) (cases_lt (m % 2) 1)

-- The bits below n, counted.
bit_number : (m v : ℕ) → cond (bit_at m v) 1 0 ≡ m / 2 ^ v % 2
bit_number m v =
    ⊎_elim
    (λ (e : m / 2 ^ v % 2 ≡ 0). ap (λ x. cond (eqb x 1) 1 0) e ∙ sym e)
    (λ (e : m / 2 ^ v % 2 ≡ 1). ap (λ x. cond (eqb x 1) 1 0) e ∙ sym e)
    (digit (m / 2 ^ v))

ones_digit : (d : ℕ) → (d ≡ 0) ⊎ (d ≡ 1) → ones d ≡ d
unfolding ones
ones_digit d h = ⊎_elim (λ (e : d ≡ 0). ap ones e ∙ sym e) (λ (e : d ≡ 1). ap ones e ∙ sym e) h

counted_ones : (m n : ℕ) → counted (bit_at m) n ≡ ones (m % 2 ^ n)
unfolding counted ones
counted_ones m zero = let e : m % 1 ≡ 0 = omega (arith, mod_below m 1 (lit< tt)) in sym (ap ones e)
counted_ones m (suc n) =
    let d = m / 2 ^ n % 2 in
    let e : m % 2 ^ suc n ≡ d * 2 ^ n + m % 2 ^ n = ap (λ k. m % 2 ^ k) (sym (one-add n)) ∙ mod-pow-add m 1 n in
    let c : ones (m % 2 ^ suc n) ≡ ones d + ones (m % 2 ^ n) = ap ones e ∙ ones_cat n d (m % 2 ^ n) (mod_below m (2 ^ n) (pow_pos n)) in
    omega (arith, c, bit_number m n, ones_digit d (digit (m / 2 ^ n)), counted_ones m n)

in_word : (m v : ℕ) → v < 64 → in_mask m v ≡ bit_at m v
in_word m v h = ap (λ b. b && bit_at m v) (lt-ltb v 64 h)

-- The wires of a mask are as many as it has ones.
pub counted_mask : (m : ℕ) → m < 2 ^ 64 → counted (in_mask m) 4096 ≡ ones m
counted_mask m h =
    counted_past (in_mask m) 64 4096 (lit≤ tt) (λ v l. ap (λ b. b && bit_at m v) (le-ltb v 64 l))
    ∙ counted_same (in_mask m) (bit_at m) 64 (λ v l. in_word m v l)
    ∙ counted_ones m 64 ∙ ap ones (mod-eq_of_lt {n = m} {m = 2 ^ 64} h)

-- One bit more.
pow_bit : (j v : ℕ) → 2 ^ j / 2 ^ v % 2 ≡ cond (eqb v j) 1 0
pow_bit j v = ⊎_elim same (⊎_elim less more) (cases_order v j)
  where
    same : v ≡ j → 2 ^ j / 2 ^ v % 2 ≡ cond (eqb v j) 1 0
    same e =
        let q : 2 ^ j / 2 ^ v ≡ 1 = ap (λ x. 2 ^ x / 2 ^ v) (sym e) ∙ ap (λ x. x / 2 ^ v) (sym (add-zero (2 ^ v)) ∙ ap (λ x. x + 0) (sym (one-mul (2 ^ v)))) ∙ div-mul-add 1 (2 ^ v) 0 (pow_pos v) in
        ap (λ x. x % 2) q ∙ ap (λ b. cond b 1 0) (sym (eq-eqb v j e))

    less : v < j → 2 ^ j / 2 ^ v % 2 ≡ cond (eqb v j) 1 0
    less h =
        let d = j - (v + 1) in
        let e : j ≡ d + 1 + v = omega arith in
        let p : 2 ^ j ≡ 2 ^ d * 2 * 2 ^ v + 0 = ap (λ x. 2 ^ x) e ∙ pow-add 2 (d + 1) v ∙ ap (λ x. x * 2 ^ v) (pow-add 2 d 1) ∙ sym (add-zero (2 ^ d * 2 * 2 ^ v)) in
        let q : 2 ^ j / 2 ^ v ≡ 2 ^ d * 2 = ap (λ x. x / 2 ^ v) p ∙ div-mul-add (2 ^ d * 2) (2 ^ v) 0 (pow_pos v) in
        ap (λ x. x % 2) q ∙ mul-mod_left (2 ^ d) 2 ∙ ap (λ b. cond b 1 0) (sym (ne_eqb v j (λ x. omega arith)))

    more : j < v → 2 ^ j / 2 ^ v % 2 ≡ cond (eqb v j) 1 0
    more h = ap (λ x. x % 2) (div-eq_of_lt (pow_below j v h)) ∙ ap (λ b. cond b 1 0) (sym (ne_eqb v j (λ x. omega arith)))

digits_or : (a : ℕ) (b : Bool) → (a ≡ 0) ⊎ (a ≡ 1) → eqb (bit_or a (cond b 1 0)) 1 ≡ (b || eqb a 1)
digits_or a true h = ⊎_elim (λ (e : a ≡ 0). ap (λ x. eqb (bit_or x 1) 1) e) (λ (e : a ≡ 1). ap (λ x. eqb (bit_or x 1) 1) e) h
digits_or a false h = ⊎_elim (λ (e : a ≡ 0). ap (λ x. eqb (bit_or x 0) 1) e ∙ ap (λ x. eqb x 1) (sym e)) (λ (e : a ≡ 1). ap (λ x. eqb (bit_or x 0) 1) e ∙ ap (λ x. eqb x 1) (sym e)) h

bit_or_lem : (m j v : ℕ) → bit_at (bit_or m (2 ^ j)) v ≡ (eqb v j || bit_at m v)
bit_or_lem m j v =
    let x = m / 2 ^ v in
    let y = 2 ^ j / 2 ^ v in
    let e : bit_or m (2 ^ j) / 2 ^ v % 2 ≡ bit_or (x % 2) (cond (eqb v j) 1 0) = ap (λ z. z % 2) (or_shr m (2 ^ j) v) ∙ or_mod x y 1 ∙ ap (bit_or (x % 2)) (pow_bit j v) in
    ap (λ z. eqb z 1) e ∙ digits_or (x % 2) (eqb v j) (digit x)

swapped : (b e x : Bool) → (e ≡ true → b ≡ true) → (b && (e || x)) ≡ (e || (b && x))
swapped true e x h = refl
swapped false true x h = h refl
swapped false false x h = refl

-- The mask with one wire more.
pub mask_with : (m j : ℕ) → j < 64 → in_mask (bit_or m (2 ^ j)) ≡ with_wire j (in_mask m)
mask_with m j h =
    fun_ext (λ v. ap (λ b. ltb v 64 && b) (bit_or_lem m j v) ∙ swapped (ltb v 64) (eqb v j) (bit_at m v) (λ e. lt-ltb v 64 (omega (arith, eqb-true v j e))))

-- A word of 64 bits, cut above bit v.
word : (v : ℕ) → v < 64 → (2 ^ (63 - v) - 1) * 2 * 2 ^ v + 2 * 2 ^ v ≡ 18446744073709551616
word v h =
    let p = 2 ^ (63 - v) - 1 in
    let e : 2 ^ (63 - v) ≡ p + 1 = omega (arith, pow_pos (63 - v)) in
    let k : 64 ≡ 63 - v + 1 + v = omega arith in
    let w : 2 ^ 64 ≡ 2 ^ (63 - v) * 2 * 2 ^ v = ap (λ x. 2 ^ x) k ∙ pow-add 2 (63 - v + 1) v ∙ ap (λ x. x * 2 ^ v) (pow-add 2 (63 - v) 1) in
    sym (add-mul (p * 2) 2 (2 ^ v)) ∙ ap (λ x. x * 2 ^ v) (sym (add-mul p 1 2)) ∙ ap (λ x. x * 2 * 2 ^ v) (sym e) ∙ sym w

-- The highest bit of the inverted word is j: bit j of the word is not set, and all above it are.
module _ (m j : ℕ) (fits : m < 18446744073709551616) (low : 2 ^ j ≤ 18446744073709551615 - m) (high : 18446744073709551615 - m < 2 ^ suc j) where
  bit_free : j < 64 → bit_at m j ≡ false
  bit_free h =
      let q = 2 ^ j in
      let p = 2 ^ (63 - j) - 1 in
      let b = 2 * q - 1 - (18446744073709551615 - m) in
      let d : 2 ^ suc j ≡ q * 2 = pow-suc 2 j in
      let e : m ≡ p * 2 * q + b = omega (arith, word j h, d) in
      let l : b < q = omega (arith, pow_pos j) in
      ap (λ x. eqb (x % 2) 1) (ap (λ x. x / q) e ∙ div-mul-add (p * 2) q b l) ∙ ap (λ x. eqb x 1) (mul-mod_left p 2)

  bit_taken : (v : ℕ) → j < v → v < 64 → bit_at m v ≡ true
  bit_taken v h k =
      let q = 2 ^ v in
      let p = 2 ^ (63 - v) - 1 in
      let b = q - 1 - (18446744073709551615 - m) in
      let o : 2 ^ suc j ≤ q = pow_mono h in
      let s : (p * 2 + 1) * q ≡ p * 2 * q + 1 * q = add-mul (p * 2) 1 q in
      let e : m ≡ (p * 2 + 1) * q + b = omega (arith, word v k, s) in
      let l : b < q = omega (arith, pow_pos v) in
      ap (λ x. eqb (x % 2) 1) (ap (λ x. x / q) e ∙ div-mul-add (p * 2 + 1) q b l) ∙ ap (λ x. eqb x 1) (mod-mul-add p 2 1 (lit< tt))

-- What the leading zeros of the inverted word say.
pub highest_bit : (m : ℕ) → m < 18446744073709551615 → (j : ℕ) × (count_leading_zeros 64 (18446744073709551615 - m) + j ≡ 63) × HighestFree (in_mask m) j
highest_bit m h =
    let t = leading_top 64 (18446744073709551615 - m) (omega arith) (omega arith) in
    let j = t.0 in
    let l : j < 64 = omega (arith, t.1) in (
      j,
      omega (arith, t.1),
      record {
        wire = l;
        free = in_word m j l ∙ bit_free m j (omega arith) t.2 t.3 l;
        highest = λ v a b. in_word m v b ∙ bit_taken m j (omega arith) t.2 t.3 v a b;
      },
    )

-- A word with fewer than 64 ones is not the full one.
pub not_full : (m : ℕ) → m < 2 ^ 64 → ones m < 64 → m < 18446744073709551615
not_full m h k =
    ⊎_elim (λ a. a) (λ a. let e : m ≡ 2 ^ 64 - 1 = omega arith in let o : ones m ≡ 64 = ap ones e ∙ ones-ones 64 in absurd (omega arith)) (cases_lt m 18446744073709551615)
