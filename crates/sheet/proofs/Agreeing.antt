-- Two beginnings of one sheet agree, as far as both go.
use Rattle.std.proofs.Common.{◌≡◌, ℕ, suc, List, [], ◌∷◌, ◌++◌, length, sym, refl, ap, ◌∙◌, subst, append_assoc, arith, length-append}
use mathlib.Core.List.{append_cancel_left}
use Rattle.sheet.specs.Entry.{Entry, written, Each, Proper}
use Rattle.sheet.specs.Sheet.{text, times, used, Earlier, Placed, Begins, Malformed, Misplaced}
use Rattle.sheet.proofs.Beginning.{text-append, used-append}
use Rattle.sheet.proofs.Injective.{written_injective}
use Rattle.sheet.proofs.Times.{times-append}
use Rattle.sheet.proofs.Unbroken.{written_unbroken}
use Rattle.sheet.proofs.Uncut.{first_cut}

-- The same lines, or one row of lines goes on after the other.
data Compared (es ds : List Entry) (xs ys : List ℕ) : Type 0 where
  same : es ≡ ds → xs ≡ ys → Compared es ds xs ys
  first_more : (e : Entry) (more : List Entry) → es ≡ ds ++ (e ∷ more) → Compared es ds xs ys
  second_more : (d : Entry) (more : List Entry) → ds ≡ es ++ (d ∷ more) → Compared es ds xs ys

compare_more : (e d : Entry) (es ds : List Entry) (xs ys : List ℕ) → e ≡ d → Compared es ds xs ys → Compared (e ∷ es) (d ∷ ds) xs ys
compare_more e d es ds xs ys q (same a b) = same (cc) b
compare_more e d es ds xs ys q (first_more f more a) = first_more f more (cc)
compare_more e d es ds xs ys q (second_more f more a) = second_more f more (cc)

same_line : (e d : Entry) (xs ys : List ℕ) → Proper e → Proper d → written e ++ (10 ∷ xs) ≡ written d ++ (10 ∷ ys) → (e ≡ d) × (xs ≡ ys)
same_line e d xs ys p q s =
    let c = first_cut (written e) (written d) xs ys (written_unbroken e p) (written_unbroken d q) s in
    (written_injective e d p q c.0, c.1)

compare : (es ds : List Entry) (xs ys : List ℕ) → Each Proper es → Each Proper ds → text es ++ xs ≡ text ds ++ ys → Compared es ds xs ys
compare [] [] xs ys p q s = same refl s
compare [] (d ∷ ds) xs ys p q s = second_more d ds refl
compare (e ∷ es) [] xs ys p q s = first_more e es refl
compare (e ∷ es) (d ∷ ds) xs ys p q s =
    let c = same_line e d (text es ++ xs) (text ds ++ ys) p.0 q.0 (sym (append_assoc (written e) (10 ∷ text es) xs) ∙ s ∙ append_assoc (written d) (10 ∷ text ds) ys) in
    compare_more e d es ds xs ys c.0 (compare es ds xs ys p.1 q.1 c.1)

-- One good line more.
pub record Next (es : List Entry) (rest : List ℕ) : Type 0 where
  pub entry : Entry
  pub more : List ℕ
  pub follows : rest ≡ written entry ++ (10 ∷ more)
  pub proper : Proper entry
  pub placed : Placed (es ++ (entry ∷ []))

each_at : (P : Entry → Type 0) (es : List Entry) (d : Entry) (ds : List Entry) → Each P (es ++ (d ∷ ds)) → P d
each_at P [] d ds h = h.0
each_at P (e ∷ es) d ds h = each_at P es d ds h.1

earlier-front : (n : ℕ) (es ds : List Entry) → Earlier n (es ++ ds) → Earlier n es
earlier-front n [] ds h = tt
earlier-front n (e ∷ es) ds h = (h.0, earlier-front (suc n) es ds h.1)

placed-front : (es ds : List Entry) → Placed (es ++ ds) → Placed es
placed-front es ds h = record {
  earlier = earlier-front 1 es ds h.earlier;
  once = λ p. omega (arith, h.once p, ap (times p) (used-append es ds), times-append p (used es) (used ds));
}

next : (bs : List ℕ) (es : List Entry) (d : Entry) (ds : List Entry) (xs ys : List ℕ) → Begins bs es xs → Begins bs (es ++ (d ∷ ds)) ys → Next es xs
next bs es d ds xs ys a b = record {
  entry = d;
  more = text ds ++ ys;
  follows = append_cancel_left (text es) xs (written d ++ (10 ∷ (text ds ++ ys))) (
      sym a.begin ∙ b.begin ∙ ap (λ l. l ++ ys) (text-append es (d ∷ ds))
      ∙ append_assoc (text es) (text (d ∷ ds)) ys ∙ ap (λ l. text es ++ l) (append_assoc (written d) (10 ∷ text ds) ys));
  proper = each_at Proper es d ds b.proper;
  placed = placed-front (es ++ (d ∷ [])) ds (subst Placed (sym (append_assoc es (d ∷ []) ds)) b.placed);
}

-- Lines after which no good line comes.
pub record Final (bs : List ℕ) (es : List Entry) (rest : List ℕ) : Type 0 where
  pub begins : Begins bs es rest
  pub no_more : Next es rest → ⊥

pub one_final : (bs : List ℕ) (es ds : List Entry) (xs ys : List ℕ) → Final bs es xs → Final bs ds ys → (es ≡ ds) × (xs ≡ ys)
one_final bs es ds xs ys f g =
    elim (compare es ds xs ys f.begins.proper g.begins.proper (sym f.begins.begin ∙ g.begins.begin)) [
      | same a b ↦ (a, b)
      | first_more e more a ↦ absurd (g.no_more (next bs ds e more ys xs g.begins (subst (λ l. Begins bs l xs) a f.begins)))
      | second_more d more a ↦ absurd (f.no_more (next bs es d more xs ys f.begins (subst (λ l. Begins bs l ys) a g.begins)))
    ]

pub no_line : (e : Entry) (rest : List ℕ) → [] ≡ written e ++ (10 ∷ rest) → ⊥
no_line e rest q = omega (arith, ap length q, length-append (written e) (10 ∷ rest))

pub malformed-final : (bs : List ℕ) (l : ℕ) (m : Malformed bs l) → Final bs m.before m.rest
malformed-final bs l m = record { begins = m.begins; no_more = λ n. m.unwritten n.entry n.more n.proper n.follows }

pub misplaced-final : (bs : List ℕ) (l : ℕ) (m : Misplaced bs l) → Final bs m.before (written m.entry ++ (10 ∷ m.rest))
misplaced-final bs l m = record {
  begins = m.begins;
  no_more = λ n. m.unplaced (subst (λ e. Placed (m.before ++ (e ∷ []))) (sym (same_line m.entry n.entry m.rest n.more m.proper n.proper n.follows).0) n.placed);
}

pub end-final : (bs : List ℕ) (es : List Entry) → Begins bs es [] → Final bs es []
end-final bs es b = record { begins = b; no_more = λ n. no_line n.entry n.more n.follows }
