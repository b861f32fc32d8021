-- The term of a line: there is one, each line stands at most once in it, and its ranges are those of a shaped term.
use Rattle.std.proofs.Common.{◌≡◌, ℕ, zero, suc, ◌+◌, ◌<◌, ◌≤◌, cond, eqb, List, [], ◌∷◌, ◌++◌, length, get_or, sym, refl, ap, ◌∙◌, subst, inl, inr, arith}
use Rattle.std.proofs.lemmas.Bool.{eq-eqb, ne_eqb, cases_eq, cases_lt}
use Rattle.terms.specs.Term.{Term, var, wire, bit, gate, new, bang, app, tuple, abs, Terms, none, part, count}
use Rattle.terms.specs.Flat.{kind_of, kind_parts, parts}
use Rattle.terms.specs.Shape.{Shaped, Shapeds}
use Rattle.terms.specs.declared.Kind.{Kind}
use Rattle.terms.specs.declared.Kind.TheVariants.{Variable, Wire, Constant, Gate, New, Bang, Application, Tuple, Binder}
use Rattle.sheet.specs.Entry.{Entry, InRange, Each, Proper}
use Rattle.sheet.specs.Sheet.{times, used, Earlier, Placed}
use Rattle.sheet.specs.Reading.{Line, first_line, later_line, Writes, Write, line, no_parts, more_parts}
use Rattle.sheet.proofs.Times.{mark, mark_same, mark_other, times-append, span, span_same, over, over_le}

each_map : {A : Type 0} (P Q : A → Type 0) (xs : List A) → ((x : A) → P x → Q x) → Each P xs → Each Q xs
each_map P Q [] f h = tt
each_map P Q (x ∷ xs) f h = (f x h.0, each_map P Q xs f h.1)

pub each_append : {A : Type 0} (P : A → Type 0) (xs ys : List A) → Each P xs → Each P ys → Each P (xs ++ ys)
each_append P [] ys g h = h
each_append P (x ∷ xs) ys g h = (g.0, each_append P xs ys g.1 h)

pub each_at : (P : ℕ → Type 0) (xs : List ℕ) (n : ℕ) → Each P xs → n < length xs → P (get_or xs n 0)
each_at P [] n h l = absurd (omega arith)
each_at P (x ∷ xs) zero h l = h.0
each_at P (x ∷ xs) (suc n) h l = each_at P xs n h.1 (omega arith)

-- A line's number, its entry, and its parts.
pub line-range : {es : List Entry} {n : ℕ} {e : Entry} → Line es n e → (1 ≤ n) × (n ≤ length es)
line-range first_line = (omega arith, omega arith)
line-range (later_line l) = let h = line-range l in (omega arith, omega arith)

line-each : (P : Entry → Type 0) {es : List Entry} {n : ℕ} {e : Entry} → Line es n e → Each P es → P e
line-each P first_line h = h.0
line-each P (later_line l) h = line-each P l h.1

line-earlier : {es : List Entry} {n : ℕ} {e : Entry} → Line es n e → (s m : ℕ) → suc m ≡ n + s → Earlier s es → Each (λ p. p < m) e.1
line-earlier {e = e} first_line s m h g = let q : s ≡ m = omega arith in subst (λ x. Each (λ p. p < x) e.1) q g.0
line-earlier (later_line l) s m h g = line-earlier l (suc s) m (omega arith) g.1

pub line-there : (es : List Entry) (n : ℕ) → 1 ≤ n → n ≤ length es → (e : Entry) × Line es n e
line-there [] n g h = absurd (omega arith)
line-there (e ∷ es) zero g h = absurd (omega arith)
line-there (e ∷ es) (suc zero) g h = (e, first_line)
line-there (e ∷ es) (suc (suc n)) g h = let r = line-there es (suc n) (omega arith) (omega arith) in (r.0, later_line r.1)

-- The parts of line k, where the first of the lines has the number s.
parts_from : ℕ → List Entry → ℕ → List ℕ
parts_from s [] k = []
parts_from s (e ∷ es) k = cond (eqb k s) e.1 (parts_from (suc s) es k)

line-parts : {es : List Entry} {n : ℕ} {e : Entry} → Line es n e → (s k : ℕ) → suc k ≡ n + s → parts_from s es k ≡ e.1
unfolding parts_from
line-parts first_line s k h = rw (eq-eqb k s (omega arith)) refl
line-parts (later_line l) s k h = rw (ne_eqb k s (λ d. omega (arith, (line-range l).0))) (line-parts l (suc s) k (omega arith))

parts-sum : (m s : ℕ) (es : List Entry) → span s (length es) (λ k. times m (parts_from s es k)) ≡ times m (used es)
unfolding parts_from
parts-sum m s [] = refl
parts-sum m s (e ∷ es) =
    let a : times m (parts_from s (e ∷ es) s) ≡ times m e.1 = rw (eq-eqb s s refl) refl in
    let b = span_same (suc s) (length es) (λ k. times m (parts_from s (e ∷ es) k)) (λ k. times m (parts_from (suc s) es k)) (λ k l. rw (ne_eqb k s (λ d. omega arith)) refl) in
    omega (arith, parts-sum m (suc s) es, times-append m e.1 (used es))

pub none_earlier : (m n : ℕ) (ps : List ℕ) → n ≤ m → Each (λ p. p < n) ps → times m ps ≡ 0
none_earlier m n [] l h = refl
none_earlier m n (p ∷ ps) l h = omega (arith, mark_other m p (λ d. omega (arith, h.0)), none_earlier m n ps l h.1)

parts-earlier : (es : List Entry) (s : ℕ) → Earlier s es → (m k : ℕ) → k ≤ m → times m (parts_from s es k) ≡ 0
unfolding parts_from
parts-earlier [] s h m k l = refl
parts-earlier (e ∷ es) s h m k l = elim (cases_eq k s) [
  | inl d ↦ rw (eq-eqb k s d) (none_earlier m s e.1 (omega arith) h.0)
  | inr d ↦ rw (ne_eqb k s d) (parts-earlier es (suc s) h.1 m k l)
]

over-append : (f : ℕ → ℕ) (xs ys : List ℕ) → over f (xs ++ ys) ≡ over f xs + over f ys
over-append f [] ys = omega arith
over-append f (x ∷ xs) ys = omega (arith, over-append f xs ys)

-- How often lines use line m.
abbrev uses : List Entry → ℕ → ℕ → ℕ
uses es m k = times m (parts_from 1 es k)

-- A line stands in a term as often as lines of the term use it, and once more at the top.
mutual
  writes-times : {es : List Entry} {n : ℕ} {t : Term} {ls : List ℕ} → Writes es n t ls → (m : ℕ) → times m ls ≡ mark m n + over (uses es m) ls
  writes-times {es = es} (line {n = n} {ps = ps} {ls = ls} l w) m =
      let a : uses es m n ≡ times m ps = ap (times m) (line-parts l 1 n (omega arith)) in
      omega (arith, write_times w m)

  write_times : {es : List Entry} {ps : List ℕ} {ts : Terms} {ls : List ℕ} → Write es ps ts ls → (m : ℕ) → times m ls ≡ times m ps + over (uses es m) ls
  write_times no_parts m = refl
  write_times {es = es} (more_parts {ls = ls} {ms = ms} w ws) m =
      omega (arith, writes-times w m, write_times ws m, times-append m ls ms, over-append (uses es m) ls ms)

abbrev pub InLines : List Entry → ℕ → Type 0
InLines es k = (1 ≤ k) × (k < 1 + length es)

mutual
  pub writes-range : {es : List Entry} {n : ℕ} {t : Term} {ls : List ℕ} → Writes es n t ls → Each (InLines es) ls
  writes-range (line l w) = let h = line-range l in ((h.0, omega arith), write_range w)

  pub write_range : {es : List Entry} {ps : List ℕ} {ts : Terms} {ls : List ℕ} → Write es ps ts ls → Each (InLines es) ls
  write_range no_parts = tt
  write_range {es = es} (more_parts {ls = ls} {ms = ms} w ws) = each_append (InLines es) ls ms (writes-range w) (write_range ws)

over_none : (f : ℕ → ℕ) (n : ℕ) (xs : List ℕ) → Each (λ k. (1 ≤ k) × (k < 1 + n)) xs → ((k : ℕ) → k ≤ n → f k ≡ 0) → over f xs ≡ 0
over_none f n [] h g = refl
over_none f n (x ∷ xs) h g = omega (arith, g x (omega (arith, h.0.1)), over_none f n xs h.1 g)

-- No line uses the last one, or what comes after it.
stands_last : (es : List Entry) (t : Term) (ls : List ℕ) → Placed es → Writes es (length es) t ls → (m : ℕ) → length es ≤ m → times m ls ≤ 1
stands_last es t ls p w m h =
    let a = over_none (uses es m) (length es) ls (writes-range w) (λ k l. parts-earlier es 1 p.earlier m k (omega arith)) in
    let b = writes-times w m in
    elim (cases_eq m (length es)) [
      | inl e ↦ omega (arith, mark_same m (length es) e)
      | inr e ↦ omega (arith, mark_other m (length es) e)
    ]

-- From the last line down, each line stands at most once in the whole term.
stands-once : (d : ℕ) (es : List Entry) (t : Term) (ls : List ℕ) → Placed es → Writes es (length es) t ls → (m : ℕ) → length es ≤ m + d → times m ls ≤ 1
stands-once zero es t ls p w m h = stands_last es t ls p w m (omega arith)
stands-once (suc d) es t ls p w m h = elim (cases_lt m (length es)) [
  | inr l ↦ stands_last es t ls p w m l
  | inl l ↦
      let a = over_le (uses es m) 1 (length es) ls (writes-range w) (λ k. elim (cases_lt m k) [
        | inl g ↦ inr (stands-once d es t ls p w k (omega arith))
        | inr g ↦ inl (parts-earlier es 1 p.earlier m k g)
      ]) in
      let b = parts-sum m 1 es in
      omega (arith, writes-times w m, mark_other m (length es) (λ e. omega arith), p.once m)
]

pub writes-once : (es : List Entry) (t : Term) (ls : List ℕ) → Placed es → Writes es (length es) t ls → (m : ℕ) → times m ls ≤ 1
writes-once es t ls p w m = stands-once (length es) es t ls p w m (omega arith)

-- A kind and as many parts as it has make a term.
pub record Made (k : Kind) (ts : Terms) : Type 0 where
  pub term : Term
  pub kind : kind_of term ≡ k
  pub below : parts term ≡ ts

made : (t : Term) (k : Kind) (ts : Terms) → kind_of t ≡ k → parts t ≡ ts → Made k ts
made t k ts e d = record { term = t; kind = e; below = d }

make : (k : Kind) (ts : Terms) → count ts ≡ kind_parts k → Made k ts
make (Variable p u) none h = made (var u p) (Variable p u) none refl refl
make (Variable p u) (part t ts) h = absurd (omega arith)
make (Wire w) none h = made (wire w.number) (Wire w) none refl refl
make (Wire w) (part t ts) h = absurd (omega arith)
make (Constant c) none h = made (bit c) (Constant c) none refl refl
make (Constant c) (part t ts) h = absurd (omega arith)
make (Gate g) none h = made (gate g) (Gate g) none refl refl
make (Gate g) (part t ts) h = absurd (omega arith)
make New none h = absurd (omega arith)
make New (part t none) h = made (new t) New (part t none) refl refl
make New (part t (part u ts)) h = absurd (omega arith)
make Bang none h = absurd (omega arith)
make Bang (part t none) h = made (bang t) Bang (part t none) refl refl
make Bang (part t (part u ts)) h = absurd (omega arith)
make Application none h = absurd (omega arith)
make Application (part t none) h = absurd (omega arith)
make Application (part t (part u none)) h = made (app t u) Application (part t (part u none)) refl refl
make Application (part t (part u (part v ts))) h = absurd (omega arith)
make (Tuple n) ts h = made (tuple ts) (Tuple n) ts (ap Tuple h) refl
make (Binder n) none h = absurd (omega arith)
make (Binder n) (part t none) h = made (abs n t) (Binder n) (part t none) refl refl
make (Binder n) (part t (part u ts)) h = absurd (omega arith)

-- The term of a line, and the terms of lines in a row.
pub record WrittenTerm (es : List Entry) (n : ℕ) : Type 0 where
  pub term : Term
  pub lines : List ℕ
  pub writes : Writes es n term lines

record WrittenTerms (es : List Entry) (ps : List ℕ) : Type 0 where
  pub terms : Terms
  pub lines : List ℕ
  pub writes : Write es ps terms lines
  pub many : count terms ≡ length ps

in_row : (es : List Entry) (ps : List ℕ) → Each (λ p. WrittenTerm es p) ps → WrittenTerms es ps
in_row es [] h = record { terms = none; lines = []; writes = no_parts; many = refl }
in_row es (p ∷ ps) h =
    let w = h.0 in
    let r = in_row es ps h.1 in
    record { terms = part w.term r.terms; lines = w.lines ++ r.lines; writes = more_parts w.writes r.writes; many = omega (arith, r.many) }

each_both : {A : Type 0} (P Q : A → Type 0) (xs : List A) → Each P xs → Each Q xs → Each (λ x. P x × Q x) xs
each_both P Q [] g h = tt
each_both P Q (x ∷ xs) g h = ((g.0, h.0), each_both P Q xs g.1 h.1)

at_line : (es : List Entry) (n : ℕ) (e : Entry) → Line es n e → Proper e → WrittenTerms es e.1 → WrittenTerm es n
at_line es n e l p r =
    let m = make e.0 r.terms (r.many ∙ p.part_count) in
    let l' : Line es n (kind_of m.term, e.1) = subst (λ k. Line es n (k, e.1)) (sym m.kind) l in
    let w : Write es e.1 (parts m.term) r.lines = subst (λ ts. Write es e.1 ts r.lines) (sym m.below) r.writes in
    record { term = m.term; lines = n ∷ r.lines; writes = line l' w }

written_below : (d : ℕ) (es : List Entry) → Each Proper es → Earlier 1 es → (n : ℕ) → n ≤ d → 1 ≤ n → n ≤ length es → WrittenTerm es n
written_below zero es p g n l o h = absurd (omega arith)
written_below (suc d) es p g n l o h =
    let r = line-there es n o h in
    let q = line-each Proper r.1 p in
    let b = each_both (λ x. x < n) (λ x. (1 ≤ x) × (x ≤ 4096)) r.0.1 (line-earlier r.1 1 n (omega arith) g) q.part_range in
    at_line es n r.0 r.1 q (in_row es r.0.1 (each_map (λ x. (x < n) × ((1 ≤ x) × (x ≤ 4096))) (WrittenTerm es) r.0.1 (λ x f. written_below d es p g x (omega (arith, f.0)) f.1.0 (omega (arith, f.0))) b))

-- A sheet's lines write a term.
pub written-term : (es : List Entry) → Each Proper es → Placed es → 0 < length es → WrittenTerm es (length es)
written-term es p g h = written_below (length es) es p g.earlier (length es) (omega arith) (omega arith) (omega arith)

-- The ranges of lines are the ranges of their terms.
shaped-node : (t : Term) → InRange (kind_of t) → Shapeds (parts t) → Shaped t
shaped-node (var u p) r h = r
shaped-node (wire w) r h = r
shaped-node (bit c) r h = tt
shaped-node (gate g) r h = tt
shaped-node (new t) r h = h.0
shaped-node (bang t) r h = h.0
shaped-node (app f a) r h = (h.0, h.1.0)
shaped-node (tuple ts) r h = (h, r.0, r.1)
shaped-node (abs n t) r h = (r, h.0)

mutual
  pub writes-shaped : {es : List Entry} {n : ℕ} {t : Term} {ls : List ℕ} → Writes es n t ls → Each Proper es → Shaped t
  writes-shaped (line {t = t} l w) p = shaped-node t (line-each Proper l p).own_range (write_shaped w p)

  pub write_shaped : {es : List Entry} {ps : List ℕ} {ts : Terms} {ls : List ℕ} → Write es ps ts ls → Each Proper es → Shapeds ts
  write_shaped no_parts p = tt
  write_shaped (more_parts w ws) p = (writes-shaped w p, write_shaped ws p)
