-- What a text is cut into at its first stop, and that no numeral holds one.
use Rattle.std.proofs.Common.{◌≡◌, ℕ, ◌<◌, ◌≤◌, true, leb, List, [], ◌∷◌, ◌++◌, decimal, sym, refl, ◌∙◌, arith}
use Rattle.std.specs.Char.{is_ascii_digit}
use Rattle.std.specs.Str.{all_ascii_digits}
use Rattle.std.proofs.lemmas.Bool.{and_parts, leb-true}
use Rattle.std.proofs.lemmas.Fmt.{digits_decimal}
use Rattle.sheet.specs.Sheet.{times}
use Rattle.sheet.proofs.Numerals.{own}
use Rattle.sheet.proofs.Times.{times_other, times_none}

-- What can stand after a field or a line: nothing, or the stop that ends it.
pub data Tail (stop : ℕ) : List ℕ → Type 0 where
  end : Tail stop []
  more : (xs : List ℕ) → Tail stop (stop ∷ xs)

front_empty : (stop y : ℕ) (ys t u : List ℕ) → times stop (y ∷ ys) ≡ 0 → Tail stop t → t ≡ y ∷ u → ⊥
front_empty stop y ys t u h end e = let z : ◌≡◌ {A = ℕ} 0 1 = cc in omega arith
front_empty stop y ys t u h (more xs) e = times_none stop y ys h (cc)

-- A text has one beginning that lacks the stop and reaches up to it or to the end.
pub first_field : (stop : ℕ) (f g t u : List ℕ) → times stop f ≡ 0 → times stop g ≡ 0 → Tail stop t → Tail stop u → f ++ t ≡ g ++ u → (f ≡ g) × (t ≡ u)
first_field stop [] [] t u hf hg p q e = (refl, e)
first_field stop [] (y ∷ g) t u hf hg p q e = absurd (front_empty stop y g t (g ++ u) hg p e)
first_field stop (x ∷ f) [] t u hf hg p q e = absurd (front_empty stop x f u (f ++ t) hf q (sym e))
first_field stop (x ∷ f) (y ∷ g) t u hf hg p q e =
    let tails : f ++ t ≡ g ++ u = cc in
    let heads : x ≡ y = cc in
    let r = first_field stop f g t u (omega arith) (omega arith) p q tails in
    let front : f ≡ g = r.0 in
    (cc, r.1)

pub first_cut : (l m xs ys : List ℕ) → times 10 l ≡ 0 → times 10 m ≡ 0 → l ++ (10 ∷ xs) ≡ m ++ (10 ∷ ys) → (l ≡ m) × (xs ≡ ys)
first_cut l m xs ys hl hm e =
    let r = first_field 10 l m (10 ∷ xs) (10 ∷ ys) hl hm (more xs) (more ys) e in
    let rest : 10 ∷ xs ≡ 10 ∷ ys = r.1 in
    (r.0, cc)

digits_lack : (stop : ℕ) (ds : List ℕ) → stop < 48 → all_ascii_digits ds ≡ true → times stop ds ≡ 0
digits_lack stop [] l h = refl
digits_lack stop (d ∷ ds) l h =
    let p = and_parts (is_ascii_digit d) (all_ascii_digits ds) h in
    let low : 48 ≤ d = leb-true 48 d (and_parts (leb 48 d) (leb d 57) p.0).0 in
    times_other stop d ds (λ e. omega arith) ∙ digits_lack stop ds l p.1

-- A numeral holds neither a tab nor a line feed.
pub decimal_lacks : (stop n : ℕ) → stop < 48 → n ≤ 4096 → times stop (decimal n) ≡ 0
decimal_lacks stop n l h = digits_lack stop (decimal n) l (digits_decimal own n (omega arith))
