-- A sheet read line by line.
use Rattle.std.proofs.Common.{◌≡◌, ℕ, suc, ◌+◌, ◌-◌, ◌<◌, ◌≤◌, true, false, eqb, List, [], ◌∷◌, ◌++◌, length, take, drop, Some, None, Option, Ok, Err, Result, MatchOption, sym, refl, ap, ◌∙◌, subst, inr, append_assoc, append-nil, arith, length-append}
use Rattle.std.proofs.lemmas.Bool.{both_ways, and_parts, eqb-true}
use Rattle.std.proofs.lemmas.List.{append_cancel_right, drop_at, length_push, take-append-drop}
use Rattle.std.specs.Borrow.{Bor}
use lib.Pointwise.{pointwise}
use Rattle.sheet.specs.Entry.{Entry, written, Each, Proper}
use Rattle.sheet.specs.Entries.{entry, Parses}
use Rattle.sheet.specs.declared.line.Line.{Line}
use Rattle.sheet.specs.Sheet.{text, times, Sized, used, Earlier, Begins, Malformed, Misplaced, Unused, Says}
use Rattle.sheet.specs.Uses.{Fits, FirstUnused, LeastUnused}
use Rattle.sheet.specs.Reading.{Refuses}
use Rattle.sheet.specs.Lines.{Lined}
use Rattle.sheet.specs.declared.refusal.Refusal.{Refusal}
use Rattle.sheet.specs.declared.refusal.Rule.TheVariants.{Part}
use Rattle.sheet.specs.Reader.{Ending, ended, unended, Piece}
use Rattle.sheet.proofs.Times.{times-append}
use Rattle.sheet.proofs.Unbroken.{written_unbroken}
use Rattle.sheet.proofs.Uncut.{first_cut}
use Rattle.sheet.proofs.Writing.{each_append, none_earlier}

pub text-append : (es ds : List Entry) → text (es ++ ds) ≡ text es ++ text ds
text-append [] ds = refl
text-append (e ∷ es) ds =
    ap (λ xs. written e ++ (10 ∷ xs)) (text-append es ds) ∙ sym (append_assoc (written e) (10 ∷ text es) (text ds))

pub used-append : (es ds : List Entry) → used (es ++ ds) ≡ used es ++ used ds
used-append [] ds = refl
used-append (e ∷ es) ds = ap (λ xs. e.1 ++ xs) (used-append es ds) ∙ sym (append_assoc e.1 (used es) (used ds))

pub used_push : (es : List Entry) (e : Entry) → used (es ++ (e ∷ [])) ≡ used es ++ e.1
used_push es e = used-append es (e ∷ []) ∙ ap (λ xs. used es ++ xs) (append-nil e.1)

earlier_push : (s m : ℕ) (es : List Entry) (e : Entry) → m ≡ s + length es → Earlier s es → Each (λ p. p < m) e.1 → Earlier s (es ++ (e ∷ []))
earlier_push s m [] e l g h = let q : m ≡ s = omega arith in (subst (λ x. Each (λ p. p < x) e.1) q h, tt)
earlier_push s m (d ∷ es) e l g h = (g.0, earlier_push (suc s) m es e (omega arith) g.1 h)

earlier_last : (s m : ℕ) (es : List Entry) (e : Entry) → m ≡ s + length es → Earlier s (es ++ (e ∷ [])) → Each (λ p. p < m) e.1
earlier_last s m [] e l g = let q : s ≡ m = omega arith in subst (λ x. Each (λ p. p < x) e.1) q g.0
earlier_last s m (d ∷ es) e l g = earlier_last (suc s) m es e (omega arith) g.1

pub begins : (bs : List ℕ) → Sized bs → Begins bs [] bs
begins bs s = record { sized = s; begin = refl; proper = tt; placed = record { earlier = tt; once = λ p. omega arith } }

-- One line more, whose parts fit.
pub goes_on : (bs : List ℕ) (es : List Entry) (rest rest' : List ℕ) (e : Entry) → Begins bs es rest → rest ≡ written e ++ (10 ∷ rest') → Proper e → Fits (length es + 1) (used es) e.1 → Begins bs (es ++ (e ∷ [])) rest'
goes_on bs es rest rest' e b d p f = record {
  sized = b.sized;
  begin =
      b.begin ∙ ap (λ xs. text es ++ xs) d
      ∙ ap (λ xs. text es ++ xs) (sym (append_assoc (written e) (10 ∷ []) rest'))
      ∙ sym (append_assoc (text es) (written e ++ (10 ∷ [])) rest')
      ∙ ap (λ xs. xs ++ rest') (sym (text-append es (e ∷ [])));
  proper = each_append Proper es (e ∷ []) b.proper (p, tt);
  placed = record {
    earlier = earlier_push 1 (length es + 1) es e (omega arith) b.placed.earlier f.earlier;
    once = λ q. subst (λ (xs : List ℕ). times q xs ≤ 1) (sym (used_push es e)) (f.once q);
  };
}

-- What comes next is no line that an entry writes and a line feed ends.
pub malformed : (bs : List ℕ) (es : List Entry) (rest l rest' : List ℕ) (n : ℕ) → Begins bs es rest → Piece rest l rest' → ((e : Entry) → Proper e → l ≡ written e ++ (10 ∷ []) → ⊥) → n ≡ length es + 1 → Malformed bs n
malformed bs es rest l rest' n b d h k = record {
  before = es;
  rest = rest;
  begins = b;
  some = piece_some d.ending;
  unwritten = unwritten d.ending;
  number = k;
}
  where
    piece_some : Ending l rest' → 0 < length rest
    piece_some (ended m e z) = omega (arith, ap length d.cut, length-append l rest', ap length e, length-append m (10 ∷ []))
    piece_some (unended z e o) = omega (arith, ap length d.cut, length-append l rest')

    unwritten : Ending l rest' → (e : Entry) (more : List ℕ) → Proper e → rest ≡ written e ++ (10 ∷ more) → ⊥
    unwritten (ended m q z) e more p w =
        let c : m ++ (10 ∷ rest') ≡ written e ++ (10 ∷ more) = sym (append_assoc m (10 ∷ []) rest') ∙ ap (λ x. x ++ rest') (sym q) ∙ sym d.cut ∙ w in
        h e p (q ∙ ap (λ x. x ++ (10 ∷ [])) (first_cut m (written e) rest' more z (written_unbroken e p) c).0)
    unwritten (unended z q o) e more p w =
        omega (arith, ap (times 10) w, ap (times 10) d.cut, ap (times 10) q, times-append 10 l rest', times-append 10 (written e) (10 ∷ more))

-- What a line says that stands here with the line feed that ends it.
abbrev pub Ended : List ℕ → Option Line → Type 0
Ended l (Some d) = (l ≡ written (entry d) ++ (10 ∷ [])) × Proper (entry d)
Ended l None = (e : Entry) → Proper e → l ≡ written e ++ (10 ∷ []) → ⊥

-- The text before a line feed at the end, if there is one.
abbrev pub Stripped : List ℕ → Option (Bor (List ℕ)) → Type 0
Stripped l s = MatchOption s (pointwise eqb (drop (length l - 1) l) (10 ∷ []) ≡ false) (λ x. (pointwise eqb (drop (length l - 1) l) (10 ∷ []) ≡ true) × (x.now ≡ take (length l - 1) l) × (length x.now + 1 ≡ length l))

one_byte : (xs : List ℕ) → pointwise eqb xs (10 ∷ []) ≡ true → xs ≡ 10 ∷ []
one_byte [] h = cc
one_byte (x ∷ []) h = ap (λ y. y ∷ []) (eqb-true x 10 (and_parts (eqb x 10) true h).0)
one_byte (x ∷ y ∷ xs) h = absurd (both_ways true (sym (and_parts (eqb x 10) false h).1) refl)

last_fed : (l m : List ℕ) → l ≡ m ++ (10 ∷ []) → drop (length l - 1) l ≡ 10 ∷ []
last_fed l m e = ap (λ x. drop (length l - 1) x) e ∙ drop_at m (10 ∷ []) (length l - 1) (omega (arith, ap length e, length_push m 10))

-- The text before the line feed is parsed exactly if the line is.
pub ended_line : (l : List ℕ) (s : Option (Bor (List ℕ))) (o : Option Line) → Stripped l s → MatchOption s (o ≡ None) (λ x. Parses x.now o) → Ended l o
ended_line l None o h p = subst (λ d. Ended l d) (sym p) (λ e q w. both_ways _ h (ap (λ r. pointwise eqb r (10 ∷ [])) (last_fed l (written e) w)))
ended_line l (Some x) o h p = go o p
  where
    cut : l ≡ x.now ++ (10 ∷ [])
    cut = sym (take-append-drop (length l - 1) l) ∙ ap (λ r. r ++ drop (length l - 1) l) (sym h.1) ∙ ap (λ r. x.now ++ r) (one_byte _ h.0)

    go : (o : Option Line) → Parses x.now o → Ended l o
    go (Some d) p = (cut ∙ ap (λ r. r ++ (10 ∷ [])) p.text, p.proper)
    go None p = λ e q w. p e q (append_cancel_right x.now (written e) (10 ∷ []) (sym cut ∙ w))

-- A line that an entry writes, before the rest.
pub line_first : (rest l rest' : List ℕ) (e : Entry) → Piece rest l rest' → l ≡ written e ++ (10 ∷ []) → rest ≡ written e ++ (10 ∷ rest')
line_first rest l rest' e d w = d.cut ∙ ap (λ x. x ++ rest') w ∙ append_assoc (written e) (10 ∷ []) rest'

-- The next line's parts do not fit.
pub misplaced : (bs : List ℕ) (es : List Entry) (rest rest' : List ℕ) (e : Entry) (n : ℕ) → Begins bs es rest → rest ≡ written e ++ (10 ∷ rest') → Proper e → (Fits (length es + 1) (used es) e.1 → ⊥) → n ≡ length es + 1 → Misplaced bs n
misplaced bs es rest rest' e n b d p h k = record {
  before = es;
  entry = e;
  rest = rest';
  begins = subst (λ (xs : List ℕ). Begins bs es xs) d b;
  proper = p;
  unplaced = λ g. h (record {
    earlier = earlier_last 1 (length es + 1) es e (omega arith) g.earlier;
    once = λ q. subst (λ (xs : List ℕ). times q xs ≤ 1) (used_push es e) (g.once q);
  });
  number = k;
}

-- All lines are good.
pub unused : (bs : List ℕ) (es : List Entry) (k : ℕ) → Begins bs es [] → LeastUnused (length es) k (used es) → Unused bs k
unused bs es k b f = record {
  entries = es;
  begins = b;
  low = f.low;
  high = f.high;
  free = f.free;
  first = λ j l h. omega (arith, f.first j l h, b.placed.once j);
}

pub says : (bs : List ℕ) (es : List Entry) → Begins bs es [] → ((j : ℕ) → 1 ≤ j → j < length es → 1 ≤ times j (used es)) → Says bs es
says bs es b f = record { begins = b; all_used = λ j l h. omega (arith, f j l h, b.placed.once j) }

-- There are no more lines than line ends.
text-ends : (es : List Entry) → length es ≤ times 10 (text es)
text-ends [] = omega arith
text-ends (e ∷ es) = omega (arith, text-ends es, times-append 10 (written e) (10 ∷ text es))

pub few-lines : (bs : List ℕ) (es : List Entry) (rest : List ℕ) → Begins bs es rest → length es + times 10 rest ≤ 4096
few-lines bs es rest b =
    omega (arith, text-ends es, ap (times 10) b.begin, times-append 10 (text es) rest, b.sized.ends)

pub some_lines : (bs : List ℕ) (es : List Entry) → Begins bs es [] → 0 < length es
some_lines bs [] b = omega (arith, b.sized.some, ap length b.begin)
some_lines bs (e ∷ es) b = omega arith

-- No line uses itself or a later one.
none_used : (s m : ℕ) (es : List Entry) → s + length es ≤ suc m → Earlier s es → times m (used es) ≡ 0
none_used s m [] l h = refl
none_used s m (e ∷ es) l h =
    omega (arith, times-append m e.1 (used es), none_earlier m s e.1 (omega arith) h.0, none_used (suc s) m es (omega arith) h.1)

pub last_unused : (bs : List ℕ) (es : List Entry) (rest : List ℕ) → Begins bs es rest → times (length es) (used es) ≡ 0
last_unused bs es rest b = none_used 1 (length es) es (omega arith) b.placed.earlier

-- The answer is this refusal.
pub refused : (bs : List ℕ) (es : List Entry) (r : Result (Unit {0}) Refusal) {f g : Refusal} → r ≡ Err f → f ≡ g → Refuses bs g.rule g.line → Lined bs r es
refused bs es r e d h = subst (λ q. Lined bs q es) (sym e) (subst (λ f. Refuses bs f.rule f.line) (sym d) h)

-- All lines are good: each is used, or the first that is not is refused.
pub all_lined : (bs : List ℕ) (es : List Entry) (o : Option ℕ) (r : Result (Unit {0}) Refusal) → MatchOption o (r ≡ Ok tt) (λ l. r ≡ Err (record { rule = Part; line = l })) → FirstUnused (length es) (used es) o → Begins bs es [] → Lined bs r es
all_lined bs es None r e f b = subst (λ q. Lined bs q es) (sym e) (says bs es b f)
all_lined bs es (Some l) r e f b = refused bs es r e refl (inr (unused bs es l b f))
