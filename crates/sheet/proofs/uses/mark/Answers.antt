use Rattle.std.proofs.Common.{◌≡◌, ℕ, ◌+◌, true, false, List, [], ◌∷◌, ◌++◌, length, get_or, take, set, sym, ap, ◌∙◌, subst, append_assoc, arith}
use Rattle.std.proofs.lemmas.List.{take_more}
use Rattle.sheet.specs.Uses.{Marks, Fits}
use Rattle.sheet.proofs.Marking.{seen, marked_once, unmarked_none, fits_more, marks_more, repeated}
use Rattle.sheet.proofs.uses.mark.Goals as goal

pub returns-in_default : goal.returns-in_default
returns-in_default c = λ ws m o.
    let ps : List ℕ = c.args.parts.now in
    let i : ℕ = c.loop-part.part-index in
    let s = seen c.loop-part.used (get_or ps i 0) c.get.result c.in_default.field-0 c.in_default.is c.get.ensures.lookup.3 in
    let t = marked_once c.loop-part.used (ws ++ take i ps) (get_or ps i 0) (c.loop-part.invariant ws m o).1 s.0 (s.1 ∙ (cc)) in
    repeated _ ws ps i (omega arith) t

pub loop-part-preserved : goal.loop-part-preserved
loop-part-preserved c = λ ws m o.
    let ps : List ℕ = c.args.parts.now in
    let i : ℕ = c.loop-part.part-index in
    let p : ℕ = get_or ps i 0 in
    let h = c.loop-part.invariant ws m o in
    let l = c.in-Some-false.ensures.lookup.3 in
    let z = unmarked_none c.loop-part.used (ws ++ take i ps) p h.1 l.0 (sym (l.1 false) ∙ c.in-Some-false.field-0-test) in
    let e : take (i + 1) ps ≡ take i ps ++ (p ∷ []) = take_more ps i 0 (omega arith) in
    let a : ws ++ take (i + 1) ps ≡ (ws ++ take i ps) ++ (p ∷ []) = ap (λ ys. ws ++ ys) e ∙ sym (append_assoc ws (take i ps) (p ∷ [])) in (
      subst (λ (ys : List ℕ). Fits (length c.args.used.now) ws ys) (sym e) (fits_more _ ws (take i ps) p h.0 (omega (arith, l.0, c.loop-part.auto.used)) z),
      subst (λ (ys : List ℕ). Marks (set c.loop-part.used p true) ys) (sym a) (marks_more c.loop-part.used (ws ++ take i ps) p h.1),
    )
