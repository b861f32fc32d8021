-- The definition of reading gives a sheet one answer only.
use Rattle.std.proofs.Common.{◌≡◌, ℕ, ◌+◌, ◌<◌, ◌≤◌, List, [], ◌∷◌, ◌++◌, length, sym, refl, ap, ◌∙◌, subst, inl, inr, arith}
use Rattle.std.proofs.lemmas.Bool.{cases_lt}
use Rattle.sheet.specs.Entry.{Entry, written, Proper}
use Rattle.sheet.specs.Sheet.{times, used, Sized}
use Rattle.sheet.specs.Reading.{Writes, term_of, lines_of, HoldsSheet, Refuses, ReadingIsDetermined}
use Rattle.sheet.specs.declared.refusal.Rule.{Rule}
use Rattle.sheet.specs.declared.refusal.Rule.TheVariants.{Form, Size, Part, Unbound, Misused, Shut, Repeated}
use Rattle.sheet.specs.declared.program.Program.{Program}
use Rattle.sheet.proofs.Agreeing.{Final, one_final, no_line, malformed-final, misplaced-final, end-final}
use Rattle.sheet.proofs.Injective.{one_term}

-- What is wrong after the lines es, where the text `rest` stands.
data Wrong (es : List Entry) (rest : List ℕ) (r : Rule) (l : ℕ) : Type 0 where
  form : 0 < length rest → ((e : Entry) (more : List ℕ) → Proper e → rest ≡ written e ++ (10 ∷ more) → ⊥) → r ≡ Form → l ≡ length es + 1 → Wrong es rest r l
  place : (e : Entry) (more : List ℕ) → Proper e → rest ≡ written e ++ (10 ∷ more) → r ≡ Part → l ≡ length es + 1 → Wrong es rest r l
  free : rest ≡ [] → r ≡ Part → 1 ≤ l → l < length es → times l (used es) ≡ 0 → ((k : ℕ) → 1 ≤ k → k < l → times k (used es) ≡ 1) → Wrong es rest r l

same_wrong : (es : List Entry) (rest : List ℕ) (r s : Rule) (l m : ℕ) → Wrong es rest r l → Wrong es rest s m → (r ≡ s) × (l ≡ m)
same_wrong es rest r s l m (form _ _ a b) (form _ _ c d) = (cc, cc)
same_wrong es rest r s l m (form _ u _ _) (place e more p q _ _) = absurd (u e more p q)
same_wrong es rest r s l m (form o _ _ _) (free q _ _ _ _ _) = absurd (omega (arith, ap length q))
same_wrong es rest r s l m (place e more p q _ _) (form _ u _ _) = absurd (u e more p q)
same_wrong es rest r s l m (place _ _ _ _ a b) (place _ _ _ _ c d) = (cc, cc)
same_wrong es rest r s l m (place e more _ q _ _) (free z _ _ _ _ _) = absurd (no_line e more (sym z ∙ q))
same_wrong es rest r s l m (free q _ _ _ _ _) (form o _ _ _) = absurd (omega (arith, ap length q))
same_wrong es rest r s l m (free z _ _ _ _ _) (place e more _ q _ _) = absurd (no_line e more (sym z ∙ q))
same_wrong es rest r s l m (free _ a low _ none least) (free _ b low' _ none' least') = (
  cc,
  elim (cases_lt l m) [
    | inl h ↦ absurd (omega (arith, least' l low h))
    | inr h ↦ elim (cases_lt m l) [
      | inl g ↦ absurd (omega (arith, least m low' g))
      | inr g ↦ omega arith
    ]
  ],
)

not_wrong : (es : List Entry) (r : Rule) (l : ℕ) → ((k : ℕ) → 1 ≤ k → k < length es → times k (used es) ≡ 1) → Wrong es [] r l → ⊥
not_wrong es r l all (form o _ _ _) = omega arith
not_wrong es r l all (place e more _ q _ _) = no_line e more q
not_wrong es r l all (free _ _ low high none _) = omega (arith, all l low high)

-- Why a sheet is refused: by its size, or after its last good line.
data Why (bs : List ℕ) (r : Rule) (l : ℕ) : Type 0 where
  size : (Sized bs → ⊥) → r ≡ Size → l ≡ 0 → Why bs r l
  after : (es : List Entry) (rest : List ℕ) → Final bs es rest → Wrong es rest r l → Why bs r l

why : (bs : List ℕ) (r : Rule) (l : ℕ) → Refuses bs r l → Why bs r l
why bs Size l h = size h.0 refl h.1
why bs Form l h = after h.before h.rest (malformed-final bs l h) (form h.some h.unwritten refl h.number)
why bs Part l (inl h) = after h.before (written h.entry ++ (10 ∷ h.rest)) (misplaced-final bs l h) (place h.entry h.rest h.proper refl refl h.number)
why bs Part l (inr h) = after h.entries [] (end-final bs h.entries h.begins) (free refl refl h.low h.high h.free h.first)
why bs Unbound l h = absurd h
why bs Misused l h = absurd h
why bs Shut l h = absurd h
why bs Repeated l h = absurd h

moved_wrong : (es ds : List Entry) (xs ys : List ℕ) (r : Rule) (l : ℕ) → (es ≡ ds) × (xs ≡ ys) → Wrong es xs r l → Wrong ds ys r l
moved_wrong es ds xs ys r l e w = subst (λ (x : List ℕ). Wrong ds x r l) e.1 (subst (λ (es : List Entry). Wrong es xs r l) e.0 w)

same_why : (bs : List ℕ) (r s : Rule) (l m : ℕ) → Why bs r l → Why bs s m → (r ≡ s) × (l ≡ m)
same_why bs r s l m (size _ a b) (size _ c d) = (cc, cc)
same_why bs r s l m (size n _ _) (after es rest f _) = absurd (n f.begins.sized)
same_why bs r s l m (after es rest f _) (size n _ _) = absurd (n f.begins.sized)
same_why bs r s l m (after es xs f v) (after ds ys g w) = same_wrong ds ys r s l m (moved_wrong es ds xs ys r l (one_final bs es ds xs ys f g) v) w

read-final : (bs : List ℕ) (p : Program) (h : HoldsSheet bs p) → Final bs h.entries []
read-final bs p h = end-final bs h.entries h.says.begins

not_read : (bs : List ℕ) (r : Rule) (l : ℕ) (p : Program) → Why bs r l → HoldsSheet bs p → ⊥
not_read bs r l p (size n _ _) h = n h.says.begins.sized
not_read bs r l p (after es rest f w) h =
    not_wrong h.entries r l h.says.all_used (moved_wrong es h.entries rest [] r l (one_final bs es h.entries rest [] f (read-final bs p h)) w)

one_program : (bs : List ℕ) (p q : Program) → HoldsSheet bs p → HoldsSheet bs q → (term_of p ≡ term_of q) × (lines_of p ≡ lines_of q)
one_program bs p q g h =
    let e = (one_final bs g.entries h.entries [] [] (read-final bs p g) (read-final bs q h)).0 in
    one_term (subst (λ es. Writes es (length es) (term_of p) (lines_of p)) e g.writes) h.writes refl

pub reading_is_determined : ReadingIsDetermined
reading_is_determined bs = record {
  one_refusal = λ r s l m g h. same_why bs r s l m (why bs r l g) (why bs s m h);
  not_both = λ r l p g h. not_read bs r l p (why bs r l g) h;
  one_program = one_program bs;
}
