-- The smallest line that breaks a rule.
use Rattle.std.proofs.Common.{◌≡◌, ℕ, zero, suc, ◌<◌, ◌≤◌, min, Bool, true, false, cond, List, [], ◌∷◌, filter, length, get_or, Some, None, Option, sym, refl, ap, ◌∙◌, subst, inl, inr, arith, le_refl}
use Rattle.std.specs.List.{fold, reduce}
use Rattle.std.proofs.lemmas.Bool.{cases_lt}
use Rattle.checker.specs.declared.role.Role.{Role}
use Rattle.checker.specs.declared.role.Role.TheVariants.{Other}
use Rattle.checker.specs.declared.site.Site.{Site}
use Rattle.checker.specs.Found.{roles, site_lines, least_line, Found}
use Rattle.checker.specs.Firsts.{earlier}
use Rattle.checker.specs.Faults.{Nowhere, Least}

-- A site more at the front.
behind : (P : ℕ → Type 0) (l : ℕ) (lines : List ℕ) (r : Option ℕ) → (P 0 → ⊥) → Found (λ n. P (suc n)) lines r → Found P (l ∷ lines) r
behind P l lines None h f = none
  where
    none : (n : ℕ) → n < length (l ∷ lines) → P n → ⊥
    none zero lo p = h p
    none (suc n) lo p = f n (omega arith) p
behind P l lines (Some k) h f = record { node = suc f.node; low = omega (arith, f.low); breaks = f.breaks; line = f.line; first = first }
  where
    first : (n : ℕ) → n < length (l ∷ lines) → P n → k ≤ get_or (l ∷ lines) n 0
    first zero lo p = absurd (h p)
    first (suc n) lo p = f.first n (omega arith) p

before : (P : ℕ → Type 0) (l : ℕ) (lines : List ℕ) (r : Option ℕ) → P 0 → Found (λ n. P (suc n)) lines r → Found P (l ∷ lines) (Some (earlier r l))
before P l lines None h f = record { node = 0; low = omega arith; breaks = h; line = refl; first = first }
  where
    first : (n : ℕ) → n < length (l ∷ lines) → P n → l ≤ get_or (l ∷ lines) n 0
    first zero lo p = le_refl l
    first (suc n) lo p = absurd (f n (omega arith) p)
before P l lines (Some k) h f = elim (cases_lt k l) [
  | inl g ↦ record { node = suc f.node; low = omega (arith, f.low); breaks = f.breaks; line = omega (arith, f.line); first = first }
  | inr g ↦ record { node = 0; low = omega arith; breaks = h; line = omega arith; first = first }
]
  where
    first : (n : ℕ) → n < length (l ∷ lines) → P n → min k l ≤ get_or (l ∷ lines) n 0
    first zero lo p = omega arith
    first (suc n) lo p = omega (arith, f.first n (omega arith) p)

fold-min : (k l : ℕ) (ms : List ℕ) → fold min (min l k) ms ≡ min (fold min k ms) l
fold-min k l [] = omega arith
fold-min k l (m ∷ ms) = let e : min (min l k) m ≡ min l (min k m) = omega arith in rw e (fold-min (min k m) l ms)

reduce-cons : (l : ℕ) (ms : List ℕ) → reduce min (l ∷ ms) ≡ Some (earlier (reduce min ms) l)
reduce-cons l [] = refl
reduce-cons l (k ∷ ms) = ap Some (fold-min k l ms)

-- The least line of the sites that pass is the first at which the test breaks the rule.
abbrev pub Passes : (Role → ℕ → Bool) → List Site → ℕ → Type 0
Passes t xs n = t (get_or (roles xs) n Other) (get_or (site_lines xs) n 0) ≡ true

found_in : (t : Role → ℕ → Bool) (x : Site) (xs kept : List Site) (b : Bool) → t x.role x.line ≡ b → Found (Passes t xs) (site_lines xs) (reduce min (site_lines kept)) → Found (Passes t (x ∷ xs)) (site_lines (x ∷ xs)) (reduce min (site_lines (cond b (x ∷ kept) kept)))
found_in t x xs kept true e f = subst (Found (Passes t (x ∷ xs)) (site_lines (x ∷ xs))) (sym (reduce-cons x.line (site_lines kept))) (before (Passes t (x ∷ xs)) x.line (site_lines xs) _ e f)
found_in t x xs kept false e f = behind (Passes t (x ∷ xs)) x.line (site_lines xs) _ (λ p. let z : false ≡ true = sym e ∙ p in cc) f

pub least_found : (t : Role → ℕ → Bool) (xs : List Site) → Found (Passes t xs) (site_lines xs) (least_line (λ x. t x.role x.line) xs)
least_found t [] = λ n lo p. absurd (omega arith)
least_found t (x ∷ xs) = found_in t x xs (filter (λ y. t y.role y.line) xs) (t x.role x.line) refl (least_found t xs)

-- The same rule, said in another way.
pub found_same : (P Q : ℕ → Type 0) (lines : List ℕ) (r : Option ℕ) → ((n : ℕ) → n < length lines → P n → Q n) → ((n : ℕ) → n < length lines → Q n → P n) → Found P lines r → Found Q lines r
found_same P Q lines None to from f = λ n lo q. f n lo (from n lo q)
found_same P Q lines (Some l) to from f = record { node = f.node; low = f.low; breaks = to f.node f.low f.breaks; line = f.line; first = λ n lo q. f.first n lo (from n lo q) }

-- A fault of the term that the sites show.
pub record Shown (P Q : ℕ → Type 0) (k : ℕ) : Type 0 where
  pub low : (n : ℕ) → P n → n < k
  pub to : (n : ℕ) → P n → Q n
  pub from : (n : ℕ) → n < k → Q n → P n

pub nowhere : (P Q : ℕ → Type 0) (lines : List ℕ) → Shown P Q (length lines) → Found Q lines None → Nowhere P
nowhere P Q lines s f = λ n p. f n (s.low n p) (s.to n p)

pub least : (P Q : ℕ → Type 0) (lines : List ℕ) (l : ℕ) → Shown P Q (length lines) → Found Q lines (Some l) → Least P lines l
least P Q lines l s f = record { node = f.node; breaks = s.from f.node f.low f.breaks; line = f.line; first = λ n p. f.first n (s.low n p) (s.to n p) }
