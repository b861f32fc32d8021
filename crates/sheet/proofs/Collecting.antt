-- The numbers in the fields of a line: a line has one list of them.
use Rattle.std.proofs.Common.{◌≡◌, ℕ, ◌≤◌, List, [], ◌∷◌, ◌++◌, map, length, Some, None, decimal, Option, sym, refl, ap, ◌∙◌, subst, arith}
use Rattle.std.proofs.lemmas.List.{append-nil, append_assoc, length_push}
use Rattle.std.proofs.lemmas.Fmt.{decimal_injective}
use Rattle.sheet.specs.Entry.{tabbed}
use Rattle.sheet.specs.Fields.{Fields, Collected, Collects}
use Rattle.sheet.specs.Numeral.{Numeral, Numbered}
use Rattle.sheet.specs.Sheet.{times}
use Rattle.sheet.proofs.Cutting.{Field}
use Rattle.sheet.proofs.Uncut.{Tail, end, more, first_field, decimal_lacks}

tabs : (fs : List (List ℕ)) → Tail 9 (tabbed fs)
tabs [] = end
tabs (f ∷ fs) = more (f ++ tabbed fs)

-- The numbers of a text whose first field is f.
record Front (f t ns : List ℕ) : Type 0 where
  number : ℕ
  rest : List ℕ
  is : ns ≡ number ∷ rest
  numeral : Numeral f number
  fields : Fields t rest

front : (f t ns : List ℕ) → times 9 f ≡ 0 → Tail 9 t → Fields (9 ∷ (f ++ t)) ns → Front f t ns
front f t [] h p w = absurd (let e : 9 ∷ (f ++ t) ≡ [] = w.text in let z : ◌≡◌ {A = ℕ} 0 1 = cc in omega arith)
front f t (n ∷ ns) h p w =
    let e : 9 ∷ (f ++ t) ≡ 9 ∷ (decimal n ++ tabbed (map decimal ns)) = w.text in
    let d : f ++ t ≡ decimal n ++ tabbed (map decimal ns) = cc in
    let r = first_field 9 f (decimal n) t (tabbed (map decimal ns)) h (decimal_lacks 9 n (omega arith) w.range.0) p (tabs (map decimal ns)) d in
    record {
      number = n;
      rest = ns;
      is = refl;
      numeral = record { range = w.range.0; text = r.0 };
      fields = record { text = r.1; range = w.range.1 };
    }

pub one_list : (bs ms ns : List ℕ) → Fields bs ms → Fields bs ns → ms ≡ ns
one_list bs [] [] p q = refl
one_list bs [] (n ∷ ns) p q = absurd (let e : [] ≡ tabbed (map decimal (n ∷ ns)) = sym p.text ∙ q.text in let z : ◌≡◌ {A = ℕ} 0 1 = cc in omega arith)
one_list bs (m ∷ ms) ns p q =
    let w : Fields (9 ∷ (decimal m ++ tabbed (map decimal ms))) ns = record { text = sym p.text ∙ q.text; range = q.range } in
    let f = front (decimal m) (tabbed (map decimal ms)) ns (decimal_lacks 9 m (omega arith) p.range.0) (tabs (map decimal ms)) w in
    let i = one_list (tabbed (map decimal ms)) ms f.rest (record { text = refl; range = p.range.1 }) f.fields in
    let s = decimal_injective m f.number (omega (arith, p.range.0)) (omega (arith, f.numeral.range)) f.numeral.text in
    ap (λ x. x ∷ ms) s ∙ ap (λ x. f.number ∷ x) i ∙ sym f.is

-- No field is left.
pub collected : (before : List ℕ) → length before ≤ 8 → Collected before [] before
collected before few = record { numbers = []; fields = record { text = refl; range = tt }; together = sym (append-nil before); few = few }

-- The fields after the numbers `before` begin with the field f.
module _ (before text f left : List ℕ) (h : Field text f left) where
  fronts : (ns : List ℕ) → Fields text ns → Front f left ns
  fronts ns w = front f left ns h.whole h.tail (subst (λ x. Fields x ns) h.cut w)

  pub no_number : Numbered f None → Collects before text None
  no_number none = λ ns w room. none (fronts ns w).number (fronts ns w).numeral

  pub one_more : (n : ℕ) → Numeral f n → (r : Option (List ℕ)) → Collects (before ++ (n ∷ [])) left r → Collects before text r
  one_more n k (Some all) c = record {
    numbers = n ∷ c.numbers;
    fields = record { text = h.cut ∙ ap (λ x. 9 ∷ (x ++ left)) k.text ∙ ap (λ x. 9 ∷ (decimal n ++ x)) c.fields.text; range = (k.range, c.fields.range) };
    together = c.together ∙ append_assoc before (n ∷ []) c.numbers;
    few = c.few;
  }
  one_more n k None c = λ ns w room. c (fronts ns w).rest (fronts ns w).fields (omega (arith, length_push before n, ap length (fronts ns w).is))
