-- The bytes of a line write an entry exactly if they are parsed as that entry.
use Rattle.std.proofs.Common.{◌≡◌, ℕ, ◌-◌, ◌<◌, ◌≤◌, List, [], ◌∷◌, ◌++◌, map, length, get_or, take, drop, Some, None, decimal, Option, sym, refl, ap, ◌∙◌, subst, arith}
use Rattle.std.proofs.lemmas.List.{take_rest, length-map}
use Rattle.terms.specs.declared.Kind.{Kind}
use Rattle.terms.specs.declared.Kind.TheVariants.{Variable, Wire, Constant, Gate as GateNode, New, Bang, Application, Tuple, Binder}
use Rattle.sheet.specs.Entry.{Entry, own, tabbed, written, Each, Proper}
use Rattle.sheet.specs.Entries.{entry, Parses}
use Rattle.sheet.specs.Fields.{Fields, Collects, shape, Shapes}
use Rattle.sheet.specs.declared.line.Line.{Line}
use Rattle.sheet.proofs.Collecting.{one_list}
use Rattle.sheet.proofs.Shaping.{byte, letter-byte, numbers, Numeric, numeric, complete, sound}

-- The fields of an entry.
abbrev pub fields : Entry → List (List ℕ)
fields e = own e.0 ++ map decimal e.1

pub written_byte : (e : Entry) → written e ≡ byte e.0 ∷ tabbed (fields e)
written_byte e = ap (λ l. l ++ tabbed (fields e)) (letter-byte e.0)

-- An entry with a letter and the rest of its line.
record Splits (b : ℕ) (rest : List ℕ) (e : Entry) : Type 0 where
  initial : b ≡ byte e.0
  follows : rest ≡ tabbed (fields e)

splits : (b : ℕ) (rest : List ℕ) (e : Entry) → b ∷ rest ≡ written e → Splits b rest e
splits b rest e q =
    let p : b ∷ rest ≡ byte e.0 ∷ tabbed (fields e) = q ∙ written_byte e in
    record { initial = cc; follows = cc }

-- No line is a letter alone.
some_field : (k : Kind) (ps : List ℕ) → Proper (k, ps) → 0 < length (fields (k, ps))
some_field (Variable p u) ps h = omega arith
some_field (Wire w) ps h = omega arith
some_field (Constant c) ps h = omega arith
some_field (GateNode g) ps h = omega arith
some_field New ps h = omega (arith, length-map ps decimal, h.part_count)
some_field Bang ps h = omega (arith, length-map ps decimal, h.part_count)
some_field Application ps h = omega (arith, length-map ps decimal, h.part_count)
some_field (Tuple n) ps h = omega (arith, length-map ps decimal, h.part_count, h.own_range.0)
some_field (Binder n) ps h = omega arith

tab_first : (fs : List (List ℕ)) → 0 < length fs → (rest : List ℕ) × (tabbed fs ≡ 9 ∷ rest)
tab_first [] h = absurd (omega arith)
tab_first (f ∷ fs) h = (f ++ tabbed fs, refl)

-- The bytes after a letter and a tab.
abbrev after_tab : List ℕ → List ℕ
after_tab xs = take (length xs - 2) (drop 2 xs)

two_bytes : (xs : List ℕ) → 2 ≤ length xs → get_or xs 1 0 ≡ 9 → xs ≡ get_or xs 0 0 ∷ (9 ∷ after_tab xs)
two_bytes [] l e = absurd (omega arith)
two_bytes (x ∷ []) l e = absurd (omega arith)
two_bytes (x ∷ y ∷ xs) l e = rw (take_rest (x ∷ y ∷ xs) 2, e) refl

module _ (xs : List ℕ) (long : 2 ≤ length xs) (tab : get_or xs 1 0 ≡ 9) where
  opened : (e : Entry) → xs ≡ written e → Splits (get_or xs 0 0) (9 ∷ after_tab xs) e
  opened e q = splits (get_or xs 0 0) (9 ∷ after_tab xs) e (sym (two_bytes xs long tab) ∙ q)

  module _ (other : get_or xs 0 0 ≡ 103 → ⊥) where
    numeric-entry : (e : Entry) → Proper e → xs ≡ written e → Numeric e
    numeric-entry e h q = numeric e.0 e.1 (λ b. other ((opened e q).initial ∙ b)) h

    its_fields : (e : Entry) → Proper e → xs ≡ written e → Fields (9 ∷ after_tab xs) (numbers e)
    its_fields e h q = let n = numeric-entry e h q in record { text = (opened e q).follows ∙ ap tabbed n.fields; range = n.range }

    pub no_numbers : Collects [] (9 ∷ after_tab xs) None → Parses xs None
    no_numbers c = λ e h q. c (numbers e) (its_fields e h q) (omega (arith, (numeric-entry e h q).few))

    pub number-line : (m : List ℕ) → Collects [] (9 ∷ after_tab xs) (Some m) → (r : Option Line) → Shapes (shape (get_or xs 0 0) m) r → Parses xs r
    number-line m c (Some l) s =
        let made = sound (get_or xs 0 0) m (subst (λ x. Each (λ n. n ≤ 4096) x) (sym c.together) c.fields.range) c.few (entry l) s in
        let n = numeric l.kind (l.parts) (λ b. other (made.initial ∙ b)) made.proper in
        let follows : 9 ∷ after_tab xs ≡ tabbed (fields (entry l)) = c.fields.text ∙ ap (λ x. tabbed (map decimal x)) (sym c.together ∙ made.fields) ∙ ap tabbed (sym n.fields) in
        record {
          text = two_bytes xs long tab ∙ ap (λ x. get_or xs 0 0 ∷ x) follows ∙ ap (λ x. x ∷ tabbed (fields (entry l))) made.initial ∙ sym (written_byte (entry l));
          proper = made.proper;
        }
    number-line m c None s = λ e h q.
        let all : m ≡ numbers e = c.together ∙ one_list (9 ∷ after_tab xs) c.numbers (numbers e) c.fields (its_fields e h q) in
        let i = (opened e q).initial in
        let k : shape (get_or xs 0 0) m ≡ Some e = ap (λ b. shape b m) i ∙ ap (λ ns. shape (byte e.0) ns) all ∙ complete e.0 e.1 (λ b. other (i ∙ b)) h in
        let d : ◌≡◌ {A = ℕ} 0 1 = cc in omega arith

pub no_form : (xs : List ℕ) → (2 ≤ length xs → get_or xs 1 0 ≡ 9 → ⊥) → Parses xs None
no_form xs f = λ e h q.
    let t = tab_first (fields e) (some_field e.0 e.1 h) in
    let x : xs ≡ byte e.0 ∷ (9 ∷ t.0) = q ∙ written_byte e ∙ ap (λ r. byte e.0 ∷ r) t.1 in
    f (rw x (omega arith)) (rw x refl)
