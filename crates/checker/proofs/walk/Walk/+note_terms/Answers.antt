use Rattle.std.proofs.Common.{◌≡◌, ℕ, ◌+◌, ◌<◌, length, reverse, take, vec_items, vec_len, sym, refl, ap, ◌∙◌, append-nil, arith}
use Rattle.terms.specs.Term.{bang, abs, none, part, size}
use Rattle.sheet.specs.Located.{nodes_in, lines_in}
use Rattle.checker.specs.declared.role.Role.TheVariants.{Other, Opening}
use Rattle.checker.specs.Found.{site_lines}
use Rattle.checker.proofs.Walks as walks
use Rattle.checker.proofs.walk.Walk.+note_terms.Goals.{After-len-at, After-push_reserved, In-Bang, In-Binder, After-pop-own}
use Rattle.checker.proofs.walk.Walk.+note_terms.Goals as goal

-- Where a term is left to read, the table goes on,
low : (t : ℕ) (c : After-len-at t) → c.len-at.result < length c.args.table.now
low t c =
    let s = walks.stand_at (sym c.len-at.ensures) c.requires.stand in
    walks.goes_on c.args.table.now c.len-at.result c.args.pending c.if-pending-eq0.false s.trees s.forest s.many

-- its node's site is the next,
next : (t : ℕ) (c : After-push_reserved t) → c.len-at.result + 1 ≡ vec_len c.push_reserved.new.self
next t c = omega (arith, c.len-at.ensures, c.push_reserved.ensures.len)

-- its line is noted,
lines : (t : ℕ) (c : After-push_reserved t) → c.len-at.result < length c.args.table.now → site_lines (vec_items c.push_reserved.new.self) ≡ take (vec_len c.push_reserved.new.self) (lines_in c.args.table.now)
lines t c l =
    let xs = lines_in c.args.table.now in
    walks.lines-more (vec_items c.args.self.now.sites) (vec_items c.push_reserved.new.self) _ c.args.table.now c.len-at.result _ l refl c.push_reserved.ensures.items (c.requires.lines ∙ ap (λ n. take n xs) (sym c.len-at.ensures)) ∙ ap (λ n. take n xs) (next t c)

-- and it is a bang, or a binder.
at_bang : (t : ℕ) (c : In-Bang t) → walks.Enclosed c.args.table.now c.len-at.result c.args.pending c.requires.stand.trees bang
at_bang t c = walks.banged c.args.table.now c.len-at.result c.args.pending _ c.if-pending-eq0.false c.requires.stand.trees (walks.forest_at (nodes_in c.args.table.now) _ _ c.requires.stand.trees (sym c.len-at.ensures) c.requires.stand.forest) c.requires.stand.many c.in-Bang.is

at_binder : (t : ℕ) (c : In-Binder t) → walks.Enclosed c.args.table.now c.len-at.result c.args.pending c.requires.stand.trees (abs c.in-Binder.pattern)
at_binder t c = walks.bound c.args.table.now c.len-at.result c.args.pending _ c.if-pending-eq0.false c.requires.stand.trees c.in-Binder.pattern (walks.forest_at (nodes_in c.args.table.now) _ _ c.requires.stand.trees (sym c.len-at.ensures) c.requires.stand.forest) c.requires.stand.many c.in-Binder.is

-- After a binder's body the frames are as they were.
same : (t : ℕ) (c : After-pop-own t) → walks.Same c.args.self.now.frames c.pop-own.new.self
same t c =
    let xs = nodes_in c.args.table.now in
    let o = walks.bound c.args.table.now c.len-at.result c.args.pending _ c.if-pending-eq0.false c.requires.stand.trees c.in-Binder.pattern (walks.forest_at xs _ _ c.requires.stand.trees (sym c.len-at.ensures) c.requires.stand.forest) c.requires.stand.many c.in-Binder.is in
    let n : c.len-at.result + 1 ≡ vec_len c.push_reserved.new.self = omega (arith, c.len-at.ensures, c.push_reserved.ensures.len) in
    walks.popped c.args.self.now.frames c.push_reserved-in-Binder.new.self c.note_terms-in-Binder.new.self.frames c.pop-own.new.self _ c.push_reserved-in-Binder.ensures.items c.push_reserved-in-Binder.ensures.len
    (walks.same_frames (c.note_terms-in-Binder.ensures.walked (part o.body none) (walks.forest_at xs _ _ (part o.body none) n o.inner) refl)) c.pop-own.ensures.rest

pub returns-then-pending-eq0-clause-walked : goal.returns-then-pending-eq0-clause-walked
returns-then-pending-eq0-clause-walked t c = λ ts f m.
    let e = walks.none_of ts (m ∙ c.if-pending-eq0.true) in
    rw e (record { as_roles = sym (append-nil _); len = omega arith; frames = refl; frames_len = refl })

pub bounds-table-at : goal.bounds-table-at
bounds-table-at t c = low t c

pub invariant_of-push_reserved : goal.invariant_of-push_reserved
invariant_of-push_reserved t c =
    let s = walks.stand_at (sym c.len-at.ensures) c.requires.stand in
    record { ranged = rw c.role_of-role.ensures (walks.ranged c.args.table.now c.len-at.result c.args.pending _ c.if-pending-eq0.false s.trees (vec_items c.args.self.now.frames) c.args.bangs s.forest s.many s.formed c.args.self.now.numbered c.requires.small) }

pub push_reserved-requires : goal.push_reserved-requires
push_reserved-requires t c =
    let l = low t (goal.at.push_reserved-requires t c).After-len-at in
    omega (arith, c.args.self.now.site_room, c.len-at.ensures, c.requires.small)

pub note_terms-requires : goal.note_terms-requires
note_terms-requires t c =
    let l = low t (goal.at.note_terms-requires t c).After-len-at in
    let n = next t (goal.at.note_terms-requires t c).After-push_reserved in
    let o = at_bang t (goal.at.note_terms-requires t c).In-Bang in
    (omega (arith, l, n, c.len-at.ensures, c.decreases), (c.requires.small, (walks.stand_at n (record { trees = part o.body none; many = refl; forest = o.inner; formed = o.inner_formed c.requires.stand.formed }), (omega (arith, n, c.len-at.ensures), (omega (arith, n, c.len-at.ensures), lines t (goal.at.note_terms-requires t c).After-push_reserved l)))))

pub note_terms-requires-in-Bang : goal.note_terms-requires-in-Bang
note_terms-requires-in-Bang t c =
    let l = low t (goal.at.note_terms-requires-in-Bang t c).After-len-at in
    let n = next t (goal.at.note_terms-requires-in-Bang t c).After-push_reserved in
    let o = at_bang t (goal.at.note_terms-requires-in-Bang t c).In-Bang in
    let e = c.note_terms.ensures.walked (part o.body none) (walks.forest_at (nodes_in c.args.table.now) _ _ (part o.body none) n o.inner) refl in
    let r : c.len-at.result + 1 + size o.body ≡ vec_len c.note_terms.new.self.sites = omega (arith, n, walks.walked_past _ _ _ o.body e) in
    (omega (arith, r, l, c.len-at.ensures, c.decreases), (c.requires.small, (walks.stand_at r (record { trees = o.others; many = o.fewer; forest = o.outer; formed = o.outer_formed c.requires.stand.formed }), (omega (arith, r, c.len-at.ensures), (omega (arith, r, e.frames_len, c.len-at.ensures), c.note_terms.ensures.lines)))))

pub note_terms-requires-in-Binder : goal.note_terms-requires-in-Binder
note_terms-requires-in-Binder t c =
    let l = low t (goal.at.note_terms-requires-in-Binder t c).After-len-at in
    let n = next t (goal.at.note_terms-requires-in-Binder t c).After-push_reserved in
    let o = at_binder t (goal.at.note_terms-requires-in-Binder t c).In-Binder in
    (omega (arith, l, n, c.len-at.ensures, c.decreases), (c.requires.small, (walks.stand_at n (record { trees = part o.body none; many = refl; forest = o.inner; formed = o.inner_formed c.requires.stand.formed }), (omega (arith, n, c.len-at.ensures), (omega (arith, n, c.len-at.ensures, c.push_reserved-in-Binder.ensures.len), lines t (goal.at.note_terms-requires-in-Binder t c).After-push_reserved l)))))

pub note_terms-requires-in-Binder-2 : goal.note_terms-requires-in-Binder-2
note_terms-requires-in-Binder-2 t c =
    let l = low t (goal.at.note_terms-requires-in-Binder-2 t c).After-len-at in
    let n = next t (goal.at.note_terms-requires-in-Binder-2 t c).After-push_reserved in
    let o = at_binder t (goal.at.note_terms-requires-in-Binder-2 t c).In-Binder in
    let s = same t (goal.at.note_terms-requires-in-Binder-2 t c).After-pop-own in
    let e = c.note_terms-in-Binder.ensures.walked (part o.body none) (walks.forest_at (nodes_in c.args.table.now) _ _ (part o.body none) n o.inner) refl in
    let r : c.len-at.result + 1 + size o.body ≡ vec_len c.note_terms-in-Binder.new.self.sites = omega (arith, n, walks.walked_past _ _ _ o.body e) in
    (omega (arith, r, l, c.len-at.ensures, c.decreases), (c.requires.small, (walks.stand_at r (record { trees = o.others; many = o.fewer; forest = o.outer; formed = o.outer_formed c.requires.stand.formed }), (omega (arith, r, c.len-at.ensures), (omega (arith, r, s.len, c.len-at.ensures), c.note_terms-in-Binder.ensures.lines)))))

pub invariant_of-self-in_default : goal.invariant_of-self-in_default
invariant_of-self-in_default t c =
    let l = low t (goal.at.invariant_of-self-in_default t c).After-len-at in
    record {
      frame_room = c.args.self.now.frame_room;
      site_room = omega (arith, c.args.self.now.site_room, c.push_reserved.ensures.capacity);
      few = omega (arith, c.push_reserved.ensures.len, c.len-at.ensures, c.requires.small);
      numbered = c.args.self.now.numbered;
    }

pub overflow_add-pending : goal.overflow_add-pending
overflow_add-pending t c =
    let s = walks.stand_at (sym c.len-at.ensures) c.requires.stand in
    let o = walks.plain c.args.table.now c.len-at.result c.args.pending _ c.if-pending-eq0.false s.trees s.forest s.many c.in_default.not-Bang c.in_default.not-Binder in
    omega (arith, o.fewer, o.held, c.parts.ensures, c.requires.small)

pub note_terms-requires-in_default : goal.note_terms-requires-in_default
note_terms-requires-in_default t c =
    let l = low t (goal.at.note_terms-requires-in_default t c).After-len-at in
    let n = next t (goal.at.note_terms-requires-in_default t c).After-push_reserved in
    let s = walks.stand_at (sym c.len-at.ensures) c.requires.stand in
    let o = walks.plain c.args.table.now c.len-at.result c.args.pending _ c.if-pending-eq0.false s.trees s.forest s.many c.in_default.not-Bang c.in_default.not-Binder in
    (omega (arith, l, n, c.len-at.ensures, c.decreases), (c.requires.small, (walks.stand_at n (record { trees = o.after; many = omega (arith, o.fewer, c.parts.ensures); forest = o.next; formed = o.formed s.formed }), (omega (arith, n, c.len-at.ensures), (omega (arith, n, c.len-at.ensures), lines t (goal.at.note_terms-requires-in_default t c).After-push_reserved l)))))

pub returns-in-Bang-clause-walked : goal.returns-in-Bang-clause-walked
returns-in-Bang-clause-walked t c = λ ts f m.
    let xs = nodes_in c.args.table.now in
    let n = next t (goal.at.returns-in-Bang-clause-walked t c).After-push_reserved in
    let o = walks.banged c.args.table.now c.len-at.result c.args.pending _ c.if-pending-eq0.false ts (walks.forest_at xs _ _ ts (sym c.len-at.ensures) f) m c.in-Bang.is in
    let e = c.note_terms.ensures.walked (part o.body none) (walks.forest_at xs _ _ (part o.body none) n o.inner) refl in
    let r : c.len-at.result + 1 + size o.body ≡ vec_len c.note_terms.new.self.sites = omega (arith, n, walks.walked_past _ _ _ o.body e) in
    let p = walks.noted _ Other c.args.self.now.sites c.push_reserved.new.self c.push_reserved.ensures.items c.push_reserved.ensures.len (c.role_of-role.ensures ∙ rw c.in-Bang.is refl) in
    walks.past-bang c.args.self.now.sites c.push_reserved.new.self c.note_terms.new.self.sites c.note_terms-in-Bang.new.self.sites c.args.bangs c.len-at.result o.body o.others ts c.len-at.ensures
    c.args.self.now.frames c.note_terms.new.self.frames c.note_terms-in-Bang.new.self.frames o.whole p e (c.note_terms-in-Bang.ensures.walked o.others (walks.forest_at xs _ _ o.others r o.outer) o.fewer)

pub returns-in-Binder-clause-walked : goal.returns-in-Binder-clause-walked
returns-in-Binder-clause-walked t c = λ ts f m.
    let xs = nodes_in c.args.table.now in
    let n = next t (goal.at.returns-in-Binder-clause-walked t c).After-push_reserved in
    let o = walks.bound c.args.table.now c.len-at.result c.args.pending _ c.if-pending-eq0.false ts c.in-Binder.pattern (walks.forest_at xs _ _ ts (sym c.len-at.ensures) f) m c.in-Binder.is in
    let e = c.note_terms-in-Binder.ensures.walked (part o.body none) (walks.forest_at xs _ _ (part o.body none) n o.inner) refl in
    let r : c.len-at.result + 1 + size o.body ≡ vec_len c.note_terms-in-Binder.new.self.sites = omega (arith, n, walks.walked_past _ _ _ o.body e) in
    let p = walks.noted _ (Opening c.len-at.result c.in-Binder.pattern) c.args.self.now.sites c.push_reserved.new.self c.push_reserved.ensures.items c.push_reserved.ensures.len (c.role_of-role.ensures ∙ rw c.in-Binder.is refl) in
    let s = same t (goal.at.returns-in-Binder-clause-walked t c).After-pop-own in
    walks.past_binder c.args.self.now.sites c.push_reserved.new.self c.note_terms-in-Binder.new.self.sites c.note_terms-in-Binder-2.new.self.sites c.args.bangs c.len-at.result o.body o.others ts c.len-at.ensures
    c.in-Binder.pattern c.args.self.now.frames c.push_reserved-in-Binder.new.self c.note_terms-in-Binder.new.self.frames c.pop-own.new.self c.note_terms-in-Binder-2.new.self.frames o.whole p c.push_reserved-in-Binder.ensures.items s e (c.note_terms-in-Binder-2.ensures.walked o.others (walks.forest_at xs _ _ o.others r o.outer) o.fewer)

pub returns-in_default : goal.returns-in_default
returns-in_default t c = record {
  walked = λ ts f m.
      let xs = nodes_in c.args.table.now in
      let n = next t (goal.at.returns-in_default t c).After-push_reserved in
      let o = walks.plain c.args.table.now c.len-at.result c.args.pending _ c.if-pending-eq0.false ts (walks.forest_at xs _ _ ts (sym c.len-at.ensures) f) m c.in_default.not-Bang c.in_default.not-Binder in
      let e = c.note_terms-in_default.ensures.walked o.after (walks.forest_at xs _ _ o.after n o.next) (omega (arith, o.fewer, c.parts.ensures)) in
      let p = walks.noted _ _ c.args.self.now.sites c.push_reserved.new.self c.push_reserved.ensures.items c.push_reserved.ensures.len c.role_of-role.ensures in
      walks.past-plain c.args.self.now.sites c.push_reserved.new.self c.note_terms-in_default.new.self.sites c.args.self.now.frames c.note_terms-in_default.new.self.frames c.args.bangs c.len-at.result _ ts o.after c.len-at.ensures
      (o.text (reverse (vec_items c.args.self.now.frames)) c.args.bangs) p e;
  lines = c.note_terms-in_default.ensures.lines;
}
