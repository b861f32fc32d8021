use Rattle.std.proofs.Common.{◌≡◌, ◌≤◌, length, take, drop, vec_len, refl, sym, subst, ap, ◌∙◌, append-nil, arith}
use Rattle.std.proofs.lemmas.List.{take_all, length-map}
use Rattle.terms.specs.Term.{none, part}
use Rattle.terms.specs.Parse.{term}
use Rattle.terms.proofs.Shaping.{shaped_is}
use Rattle.terms.proofs.Forests.{length-flat}
use Rattle.sheet.specs.Located.{nodes_in, lines_in}
use Rattle.checker.specs.Sites.{Forest}
use Rattle.checker.proofs.Tables.{whole}
use Rattle.checker.proofs.Walks as walks
use Rattle.checker.proofs.walk.Walk.note.Goals.{After-as_slice}
use Rattle.checker.proofs.walk.Walk.note.Goals as goal

-- The program's term stands in its table, where no site is noted yet.
forest : (c : After-as_slice) → Forest (drop (vec_len c.clear-2.new.self) (nodes_in c.as_slice.result.now)) (part (term (nodes_in c.args.program.now.table.items)) none)
forest c =
    let xs = nodes_in c.args.program.now.table.items in
    let e : c.as_slice.result.now ≡ c.args.program.now.table.items = c.as_slice.ensures.value ∙ ap (λ v. v.items) c.table.ensures in
    subst (λ l. Forest (drop (vec_len c.clear-2.new.self) (nodes_in l)) (part (term xs) none)) (sym e) (walks.forest_at xs _ _ (part (term xs) none) (sym c.clear-2.ensures.len) (whole xs c.args.program.now.tree))

pub note_terms-requires-clause-stand : goal.note_terms-requires-clause-stand
note_terms-requires-clause-stand c =
    let xs = nodes_in c.args.program.now.table.items in
    record { trees = part (term xs) none; many = refl; forest = forest c; formed = (shaped_is (term xs) c.args.program.now.formed, tt) }

pub returns-clause-roles : goal.returns-clause-roles
returns-clause-roles c =
    let xs = nodes_in c.args.program.now.table.items in
    let w = c.note_terms.ensures.walked (part (term xs) none) (forest (goal.at.returns-clause-roles c).After-as_slice) refl in
    w.as_roles ∙ rw (c.clear-2.ensures.items, c.clear-2.ensures.len, c.clear.ensures.items, append-nil) refl

pub returns-clause-lines : goal.returns-clause-lines
returns-clause-lines c =
    let p = c.args.program.now in
    let xs = nodes_in p.table.items in
    let e : c.as_slice.result.now ≡ p.table.items = c.as_slice.ensures.value ∙ ap (λ v. v.items) c.table.ensures in
    let w = c.note_terms.ensures.walked (part (term xs) none) (forest (goal.at.returns-clause-lines c).After-as_slice) refl in
    let k = vec_len c.note_terms.new.self.sites in
    let l : length (lines_in p.table.items) ≤ k = omega (arith, walks.walked_past _ _ _ (term xs) w, ap length p.tree, length-flat (term xs), length-map p.table.items (λ x. x.node), length-map p.table.items (λ x. x.line)) in
    c.note_terms.ensures.lines ∙ ap (λ l. take k (lines_in l)) e ∙ take_all k (lines_in p.table.items) l
