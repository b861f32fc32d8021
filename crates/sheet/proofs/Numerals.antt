-- A field is read as a number exactly if it is that number's numeral.
use Rattle.std.proofs.Common.{◌≡◌, ℕ, ◌+◌, ◌-◌, ◌*◌, ◌<◌, ◌≤◌, Bool, true, false, cond, ◌&&◌, eqb, leb, ◌⊎◌, List, [], ◌∷◌, length, get_or, Some, None, decimal, Option, sym, refl, ap, ◌∙◌, subst, inl, inr, arith, rules}
use Rattle.std.specs.Char.{is_ascii_digit}
use Rattle.std.specs.Str.{all_ascii_digits}
use Rattle.std.proofs.lemmas.Bool.{le-leb, leb-true, and_parts, and_from, eq-eqb, ne_eqb, both_ways, cases_lt}
use Rattle.std.proofs.lemmas.Str.Parse.{IsNumeralModel, numerals_by_fold}
use Rattle.std.proofs.lemmas.Fmt.{digits_decimal, digits_value-decimal, decimal-digits_value, decimal_nonempty, first_decimal, decimal_digit}
use Rattle.sheet.specs.Numeral.{digits_from, Numbered, Numeral}

abbrev no_zero : List ℕ → Bool
no_zero [] = false
no_zero (d ∷ []) = true
no_zero (d ∷ e ∷ ds) = cond (eqb d 48) false true

abbrev pub numeral : List ℕ → Option ℕ
numeral ds = cond (no_zero ds) (digits_from 0 ds) None

abbrev read_on : ℕ → List ℕ → ℕ
read_on n [] = n
read_on n (c ∷ cs) = read_on (n * 10 + (c - 48)) cs

pub own : IsNumeralModel (λ ds. all_ascii_digits ds ≡ true) (read_on 0)
own = numerals_by_fold _ (search rules) read_on (search rules)

reads_up : (n : ℕ) (ds : List ℕ) → n ≤ read_on n ds
reads_up n [] = omega arith
reads_up n (d ∷ ds) = let h : n * 10 + (d - 48) ≤ read_on (n * 10 + (d - 48)) ds = reads_up (n * 10 + (d - 48)) ds in omega arith

record Written (b : ℕ) (ds : List ℕ) (n : ℕ) : Type 0 where
  digits : all_ascii_digits ds ≡ true
  value : read_on b ds ≡ n
  low : n ≤ 4096

written_more : (b d : ℕ) (ds : List ℕ) (n : ℕ) (p q : Bool) → (b * 10 + (d - 48) ≤ 4096 → digits_from (b * 10 + (d - 48)) ds ≡ Some n → Written (b * 10 + (d - 48)) ds n) → is_ascii_digit d ≡ p → leb (b * 10 + (d - 48)) 4096 ≡ q → cond (p && q) (digits_from (b * 10 + (d - 48)) ds) None ≡ Some n → Written b (d ∷ ds) n
written_more b d ds n true true f p q k = let w = f (leb-true _ _ q) k in record { digits = and_from _ _ p w.digits; value = w.value; low = w.low }
written_more b d ds n true false f p q k = absurd (let z : ◌≡◌ {A = ℕ} 0 1 = cc in omega arith)
written_more b d ds n false true f p q k = absurd (let z : ◌≡◌ {A = ℕ} 0 1 = cc in omega arith)
written_more b d ds n false false f p q k = absurd (let z : ◌≡◌ {A = ℕ} 0 1 = cc in omega arith)

from_some : (b : ℕ) (ds : List ℕ) (n : ℕ) → b ≤ 4096 → digits_from b ds ≡ Some n → Written b ds n
from_some b [] n h e = let k : b ≡ n = cc in record { digits = refl; value = k; low = omega arith }
from_some b (d ∷ ds) n h e = written_more b d ds n (is_ascii_digit d) (leb (b * 10 + (d - 48)) 4096) (λ l k. from_some (b * 10 + (d - 48)) ds n l k) refl refl e

to_some : (b : ℕ) (ds : List ℕ) → all_ascii_digits ds ≡ true → read_on b ds ≤ 4096 → digits_from b ds ≡ Some (read_on b ds)
to_some b [] a h = refl
to_some b (d ∷ ds) a h =
    let p = and_parts (is_ascii_digit d) (all_ascii_digits ds) a in
    let l : b * 10 + (d - 48) ≤ 4096 = omega (arith, reads_up (b * 10 + (d - 48)) ds) in
    let e = le-leb (b * 10 + (d - 48)) 4096 l in
    rw (p.0, e) (to_some (b * 10 + (d - 48)) ds p.1 h)

-- No leading zero: a numeral that begins with 0 has one digit.
record Plain (ds : List ℕ) : Type 0 where
  some : 0 < length ds
  one : get_or ds 0 0 ≡ 48 → length ds ≡ 1

plain_more : (d e : ℕ) (ds : List ℕ) (b : Bool) → eqb d 48 ≡ b → cond b false true ≡ true → Plain (d ∷ e ∷ ds)
plain_more d e ds true q h = absurd (both_ways true (sym h) refl)
plain_more d e ds false q h = record { some = omega arith; one = λ k. absurd (both_ways (eqb d 48) q (eq-eqb d 48 k)) }

plain : (ds : List ℕ) → no_zero ds ≡ true → Plain ds
plain [] h = absurd (both_ways true (sym h) refl)
plain (d ∷ []) h = record { some = omega arith; one = λ _. refl }
plain (d ∷ e ∷ ds) h = plain_more d e ds (eqb d 48) refl h

plain_back : (ds : List ℕ) → Plain ds → no_zero ds ≡ true
plain_back [] p = absurd (omega arith)
plain_back (d ∷ []) p = refl
plain_back (d ∷ e ∷ ds) p = let n : d ≡ 48 → ⊥ = λ k. let l : length (d ∷ e ∷ ds) ≡ 1 = p.one k in omega arith in rw (ne_eqb d 48 n) refl

plain_decimal : (n : ℕ) → n ≤ 4096 → Plain (decimal n)
plain_decimal n h = go (cases_lt 0 n)
  where
    go : (0 < n) ⊎ (n ≤ 0) → Plain (decimal n)
    go (inl p) = record { some = decimal_nonempty n (omega arith); one = λ e. absurd (omega (arith, first_decimal n p (omega arith))) }
    go (inr p) = let e : decimal n ≡ 48 ∷ [] = subst (λ m. decimal m ≡ 48 ∷ []) (let z : 0 ≡ n = omega arith in z) (decimal_digit 0 (omega arith)) in rw e (record { some = omega arith; one = λ _. refl })

known : (bs : List ℕ) (n : ℕ) → Numeral bs n → numeral bs ≡ Some n
known bs n k =
    let z : no_zero bs ≡ true = rw k.text (plain_back (decimal n) (plain_decimal n k.range)) in
    let a : all_ascii_digits bs ≡ true = rw k.text (digits_decimal own n (omega arith)) in
    let v : read_on 0 bs ≡ n = rw k.text (digits_value-decimal own n (omega arith)) in
    let d : digits_from 0 bs ≡ Some (read_on 0 bs) = to_some 0 bs a (omega arith) in
    rw z (d ∙ ap Some v)

shown : (bs : List ℕ) (n : ℕ) → no_zero bs ≡ true → digits_from 0 bs ≡ Some n → Numeral bs n
shown bs n z d =
    let w = from_some 0 bs n (omega arith) d in
    let p = plain bs z in
    let e = decimal-digits_value own bs w.digits p.some p.one (omega (arith, w.value, w.low)) in
    record { range = w.low; text = sym e ∙ ap decimal w.value }

numbers_of : (bs : List ℕ) (b : Bool) (o : Option ℕ) → no_zero bs ≡ b → digits_from 0 bs ≡ o → Numbered bs (cond b o None)
numbers_of bs true (Some n) z d = shown bs n z d
numbers_of bs true None z d = λ n k. let e : ◌≡◌ {A = Option ℕ} (Some n) None = sym (known bs n k) ∙ rw z d in let q : ◌≡◌ {A = ℕ} 0 1 = cc in omega arith
numbers_of bs false o z d = λ n k. let e : ◌≡◌ {A = Option ℕ} (Some n) None = sym (known bs n k) ∙ rw z refl in let q : ◌≡◌ {A = ℕ} 0 1 = cc in omega arith

pub numeral_exact : (bs : List ℕ) (r : Option ℕ) → r ≡ numeral bs → Numbered bs r
numeral_exact bs r e = subst (λ o. Numbered bs o) (sym e) (numbers_of bs (no_zero bs) (digits_from 0 bs) refl refl)
