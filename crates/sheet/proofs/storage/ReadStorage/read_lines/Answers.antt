use Rattle.std.proofs.Common.{◌≡◌, ℕ, ◌+◌, ◌-◌, ◌≤◌, Bool, false, List, [], ◌∷◌, ◌++◌, length, take, drop, vec_items, Some, Err, Option, sym, ap, ◌∙◌, subst, inl, arith, rules, of_calls, length-append}
use Rattle.std.proofs.lemmas.List.{length-map, map-append, take_all, take-append-le}
use Rattle.sheet.specs.Reader.{Piece, left}
use Rattle.sheet.specs.Entry.{Entry, written}
use Rattle.sheet.specs.Sheet.{used, times, Begins}
use Rattle.sheet.specs.Entries.{entry, entries}
use Rattle.sheet.specs.Uses.{Marks, Marked, FirstUnused}
use Rattle.sheet.specs.declared.line.Line.{Line}
use Rattle.sheet.proofs.Beginning.{goes_on, Ended, ended_line, line_first, malformed, misplaced, refused, all_lined, few-lines, last_unused, used_push}
use Rattle.sheet.proofs.Marking.{marks_push}
use Rattle.sheet.proofs.Times.{times-append}
use Rattle.sheet.proofs.storage.ReadStorage.read_lines.Goals as goal
use Rattle.sheet.proofs.storage.ReadStorage.read_lines.Goals.{After-mark, In-Some, In_ok-line, In-None, After-deref}

-- The next line, its number, and what it says.
line : (c : goal.In-Some) → Piece (left c.loop-number.number-iterator) c.in-Some.text.now (left c.next.new.self)
line c = c.in-Some.ensures.steps.piece

numbered : (c : goal.In-Some) → c.in-Some.number ≡ 1 + length (entries (vec_items c.loop-number.self.sheet_lines))
numbered c = omega (arith, c.in-Some.ensures.steps.number, c.loop-number.invariant.5, c.loop-number.self.sheet_lines.ok.0, length-map (vec_items c.loop-number.self.sheet_lines) entry)

few : (c : goal.In-Some) → c.in-Some.number ≤ 4097
few c = omega (arith, numbered c, few-lines c.args.sheet.now (entries (vec_items c.loop-number.self.sheet_lines)) _ c.loop-number.invariant.2)

pub overflow_cast-at : goal.overflow_cast-at
overflow_cast-at c = omega (arith, few (goal.at.overflow_cast-at c).In-Some)

pub returns-in_err-line : goal.returns-in_err-line
returns-in_err-line c =
    let i = (goal.at.returns-in_err-line c).In-Some in
    let s = subst (λ o. Ended c.in-Some.text.now o) c.in_err-line.ensures.ok_part (ended_line c.in-Some.text.now c.strip_suffix.result c.and_then.result c.strip_suffix.ensures.cases c.and_then.ensures) in
    let e : c.from_residual.result ≡ Err c.at-in-loop-number.result = search rules in
    refused _ _ _ e c.at-in-loop-number.ensures
    (malformed c.args.sheet.now _ _ c.in-Some.text.now _ _ c.loop-number.invariant.2 (line i) s (omega (arith, numbered i)))

-- What the line says, and that it comes first.
said : (c : goal.In_ok-line) → Ended c.in-Some.text.now (Some c.in_ok-line.line)
said c =
    subst (λ o. Ended c.in-Some.text.now o) c.in_ok-line.ensures.ok_part
    (ended_line c.in-Some.text.now c.strip_suffix.result c.and_then.result c.strip_suffix.ensures.cases c.and_then.ensures)

follows : (c : goal.In-Some) (l : Line) → Ended c.in-Some.text.now (Some l) → left c.loop-number.number-iterator ≡ written (entry l) ++ (10 ∷ left c.next.new.self)
follows c l s = line_first _ c.in-Some.text.now _ (entry l) (line c) s.0

fewer : (c : goal.In-Some) (l : Line) → Ended c.in-Some.text.now (Some l) → c.in-Some.number ≤ 4096
fewer c l s =
    omega (arith, numbered c, few-lines c.args.sheet.now (entries (vec_items c.loop-number.self.sheet_lines)) _ c.loop-number.invariant.2, ap (times 10) (follows c l s), times-append 10 (written (entry l)) (10 ∷ left c.next.new.self))

-- What marking the line's parts says of the lines so far.
marked : (c : goal.After-mark) → Marked (length (entries (vec_items c.loop-number.self.sheet_lines)) + 1) (used (entries (vec_items c.loop-number.self.sheet_lines))) c.in_ok-line.line.parts c.mark.new.used c.mark.result
marked c =
    let es : List Entry = entries (vec_items c.loop-number.self.sheet_lines) in
    let m : Marks c.deref_mut.result.now (used es) = subst (λ (us : List Bool). Marks us (used es)) (sym c.deref_mut.ensures.value) c.loop-number.invariant.3 in
    let n : length c.deref_mut.result.now ≡ length es + 1 = omega (arith, c.deref_mut.ensures.len, c.loop-number.invariant.4, c.loop-number.self.sheet_lines.ok.0, length-map (vec_items c.loop-number.self.sheet_lines) entry) in
    subst (λ (k : ℕ). Marked k (used es) c.in_ok-line.line.parts c.mark.new.used c.mark.result) n
    (subst (λ (ps : List ℕ). Marked (length c.deref_mut.result.now) (used es) ps c.mark.new.used c.mark.result) c.as_slice.ensures.numbers (c.mark.ensures (used es) m c.loop-number.invariant.2.placed.once))

pub returns-in_err-ok_or : goal.returns-in_err-ok_or
returns-in_err-ok_or c =
    let i = (goal.at.returns-in_err-ok_or c).In-Some in
    let s = said (goal.at.returns-in_err-ok_or c).In_ok-line in
    let es : List Entry = entries (vec_items c.loop-number.self.sheet_lines) in
    let k = subst (λ (o : Option (Unit {0})). Marked (length es + 1) (used es) c.in_ok-line.line.parts c.mark.new.used o) c.in_err-ok_or.ensures.ok_part (marked (goal.at.returns-in_err-ok_or c).After-mark) in
    let e : c.from_residual-in_err-ok_or.result ≡ Err c.at-in-loop-number-2.result = search rules in
    refused _ _ _ e c.at-in-loop-number-2.ensures
    (inl (misplaced c.args.sheet.now es _ _ (entry c.in_ok-line.line) _ c.loop-number.invariant.2 (follows i c.in_ok-line.line s) s.1 k (omega (arith, numbered i))))

pub push_reserved-requires-in-loop-number : goal.push_reserved-requires-in-loop-number
push_reserved-requires-in-loop-number c =
    let i = (goal.at.push_reserved-requires-in-loop-number c).In-Some in
    omega (arith, fewer i c.in_ok-line.line (said (goal.at.push_reserved-requires-in-loop-number c).In_ok-line), c.in-Some.ensures.steps.number, c.loop-number.invariant.5, c.loop-number.self.line_room)

pub push_reserved-requires-in-loop-number-2 : goal.push_reserved-requires-in-loop-number-2
push_reserved-requires-in-loop-number-2 c =
    let i = (goal.at.push_reserved-requires-in-loop-number-2 c).In-Some in
    omega (arith, fewer i c.in_ok-line.line (said (goal.at.push_reserved-requires-in-loop-number-2 c).In_ok-line), c.in-Some.ensures.steps.number, c.loop-number.invariant.4, c.loop-number.invariant.5, c.loop-number.self.mark_room)

-- A slice of a whole vector, put back into it.
put_back : (xs ys : List Bool) (n : ℕ) → length xs ≡ n → take n (xs ++ drop (length xs) ys) ≡ xs
put_back xs ys n e = take-append-le n xs (drop (length xs) ys) (omega arith) ∙ take_all n xs (omega arith)

pub loop-number-preserved : goal.loop-number-preserved
loop-number-preserved c =
    let i = (goal.at.loop-number-preserved c).In-Some in
    let s = said (goal.at.loop-number-preserved c).In_ok-line in
    let bs : List ℕ = c.args.sheet.now in
    let es : List Entry = entries (vec_items c.loop-number.self.sheet_lines) in
    let e : Entry = entry c.in_ok-line.line in
    let h = subst (λ (o : Option (Unit {0})). Marked (length es + 1) (used es) e.1 c.mark.new.used o) c.in_ok-ok_or.ensures.ok_part (marked (goal.at.loop-number-preserved c).After-mark) in
    let b = goes_on bs es _ _ e c.loop-number.invariant.2 (follows i c.in_ok-line.line s) s.1 h.0 in
    let g : entries (vec_items c.push_reserved-in-loop-number.new.self) ≡ es ++ (e ∷ []) = ap entries c.push_reserved-in-loop-number.ensures.items ∙ map-append entry (vec_items c.loop-number.self.sheet_lines) (c.in_ok-line.line ∷ []) in
    let k : length c.mark.new.used ≡ length (es ++ (e ∷ [])) = omega (arith, c.mark.auto.used, c.deref_mut.ensures.len, c.loop-number.invariant.4, c.loop-number.self.sheet_lines.ok.0, length-map (vec_items c.loop-number.self.sheet_lines) entry, length-append es (e ∷ [])) in
    let z : times (length c.mark.new.used) (used (es ++ (e ∷ []))) ≡ 0 = ap (λ j. times j (used (es ++ (e ∷ [])))) k ∙ last_unused bs (es ++ (e ∷ [])) _ b in
    let u = marks_push c.mark.new.used (used (es ++ (e ∷ []))) (subst (λ (ws : List ℕ). Marks c.mark.new.used ws) (sym (used_push es e)) h.1) z in (
      search of_calls,
      search of_calls,
      subst (λ (ds : List Entry). Begins bs ds (left c.next.new.self)) (sym g) b,
      subst (λ (us : List Bool). Marks us (used (entries (vec_items c.push_reserved-in-loop-number.new.self)))) (sym (c.push_reserved-in-loop-number-2.ensures.items ∙ ap (λ (xs : List Bool). xs ++ (false ∷ [])) (put_back c.mark.new.used c.loop-number.self.used.items c.loop-number.self.used.len (omega (arith, c.mark.auto.used, c.deref_mut.ensures.len)))))
          (subst (λ (ds : List Entry). Marks (c.mark.new.used ++ (false ∷ [])) (used ds)) (sym g) u),
      omega (arith, c.push_reserved-in-loop-number-2.ensures.len, c.push_reserved-in-loop-number.ensures.len, c.loop-number.invariant.4),
      omega (arith, c.in-Some.ensures.steps.number, c.in-Some.ensures.steps.counted, c.push_reserved-in-loop-number.ensures.len, c.loop-number.invariant.5),
    )

-- After the last line.
whole : (c : goal.In-None) → Begins c.args.sheet.now (entries (vec_items c.loop-number.self.sheet_lines)) []
whole c = subst (λ (xs : List ℕ). Begins c.args.sheet.now (entries (vec_items c.loop-number.self.sheet_lines)) xs) c.in-None.ensures.steps.0 c.loop-number.invariant.2

pub first_unused-requires : goal.first_unused-requires
first_unused-requires c =
    omega (arith, c.deref.ensures.len, c.loop-number.invariant.4, few-lines c.args.sheet.now (entries (vec_items c.loop-number.self.sheet_lines)) _ c.loop-number.invariant.2, c.loop-number.self.sheet_lines.ok.0, length-map (vec_items c.loop-number.self.sheet_lines) entry)

-- What the marks say in the end.
marks : (c : goal.After-deref) → Marks c.deref.result.now (used (entries (vec_items c.loop-number.self.sheet_lines)))
marks c = subst (λ (us : List Bool). Marks us (used (entries (vec_items c.loop-number.self.sheet_lines)))) (sym c.deref.ensures.value) c.loop-number.invariant.3

lines_marked : (c : goal.After-deref) → length c.deref.result.now - 1 ≡ length (entries (vec_items c.loop-number.self.sheet_lines))
lines_marked c = omega (arith, c.deref.ensures.len, c.loop-number.invariant.4, c.loop-number.self.sheet_lines.ok.0, length-map (vec_items c.loop-number.self.sheet_lines) entry)

pub returns : goal.returns
returns c =
    let d = (goal.at.returns c).After-deref in
    let es : List Entry = entries (vec_items c.loop-number.self.sheet_lines) in
    all_lined c.args.sheet.now es c.first_unused.result c.broken_at.result c.broken_at.ensures
    (subst (λ (n : ℕ). FirstUnused n (used es) c.first_unused.result) (lines_marked d) (c.first_unused.ensures (used es) (marks d)))
    (whole (goal.at.returns c).In-None)
