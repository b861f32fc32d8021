-- A table walked node by node.
use Rattle.std.proofs.Common.{◌≡◌, ℕ, suc, ◌+◌, ◌-◌, ◌<◌, ◌≤◌, List, [], ◌∷◌, ◌++◌, reverse, length, get_or, take, drop, vec_items, vec_len, Vec, sym, refl, ap, ◌∙◌, subst, append_assoc, append-nil, arith, length-append, inl, inr, All}
use Rattle.std.proofs.lemmas.List.{drop-drop, drop_at, take_at, take_more, reverse-append, map-append, length-map, get_or-map, get_or_default}
use Rattle.std.proofs.lemmas.Bool.{cases_lt}
use Rattle.std.specs.declared.alloc.Global.{Global}
use Rattle.terms.specs.Term.{Term, var, wire, bit, gate, new, bang, app, tuple, abs, Terms, none, part, size, sizes, count}
use Rattle.terms.specs.Flat.{part_count, flat, flats, kind_of, node, parts}
use Rattle.terms.specs.declared.Node.{Node}
use Rattle.terms.specs.declared.Kind.{Kind}
use Rattle.terms.specs.declared.Kind.TheVariants.{Bang, Binder}
use Rattle.terms.proofs.Forests.{join, length-flat}
use Rattle.checker.specs.declared.role.Frame.{Frame}
use Rattle.checker.specs.declared.role.Role.{Role}
use Rattle.checker.specs.declared.site.Site.{Site}
use Rattle.checker.specs.declared.role.Role.TheVariants.{Other, Opening}
use Rattle.checker.specs.Sites.{Forest, Stand, resolve, role_at, sites, sitess, Walked}
use Rattle.checker.specs.Faults.{Scope, frame}
use Rattle.checker.specs.Roles.{Ranged}
use Rattle.checker.specs.Found.{roles, site_lines}
use Rattle.sheet.specs.Located.{nodes_in, lines_in}
use Rattle.sheet.specs.declared.located.LocatedNode.{LocatedNode}
use Rattle.terms.specs.Shape.{Shaped, Shapeds}
use Rattle.terms.proofs.Forests.{size-parts}
use Rattle.checker.proofs.Resolve.{resolve_stack, resolve_none}
use Rattle.checker.proofs.Tables.{opened, fits-table, sizes_of_flats}

mutual
  pub length-sites : (G : Scope) (b m : ℕ) (t : Term) → length (sites G b m t) ≡ size t
  length-sites G b m (var u p) = refl
  length-sites G b m (wire w) = refl
  length-sites G b m (bit c) = refl
  length-sites G b m (gate g) = refl
  length-sites G b m (new t) = omega (arith, length-sites G b (m + 1) t)
  length-sites G b m (bang t) = omega (arith, length-sites G (b + 1) (m + 1) t)
  length-sites G b m (app f a) = omega (arith, length-append (sites G b (m + 1) f) (sites G b (m + 1 + size f) a), length-sites G b (m + 1) f, length-sites G b (m + 1 + size f) a)
  length-sites G b m (tuple ts) = omega (arith, length-sitess G b (m + 1) ts)
  length-sites G b m (abs k t) = omega (arith, length-sites (frame m k b ∷ G) b (m + 1) t)

  pub length-sitess : (G : Scope) (b m : ℕ) (ts : Terms) → length (sitess G b m ts) ≡ sizes ts
  length-sitess G b m none = refl
  length-sitess G b m (part t ts) = omega (arith, length-append (sites G b m t) (sitess G b (m + size t) ts), length-sites G b m t, length-sitess G b (m + size t) ts)

sites-join : (G : Scope) (b m : ℕ) (ts us : Terms) → sitess G b m (join ts us) ≡ sitess G b m ts ++ sitess G b (m + sizes ts) us
sites-join G b m none us = ap (λ (n : ℕ). sitess G b n us) (omega arith)
sites-join G b m (part t ts) us =
    let e : m + size t + sizes ts ≡ m + (size t + sizes ts) = omega arith in
    rw (sites-join G b (m + size t) ts us, e) (sym (append_assoc (sites G b m t) (sitess G b (m + size t) ts) (sitess G b (m + (size t + sizes ts)) us)))

-- A term that binds nothing and is no bang.
sites-node : (G : Scope) (b m : ℕ) (t : Term) → ((p : ℕ) → kind_of t ≡ Binder p → ⊥) → (kind_of t ≡ Bang → ⊥) → sites G b m t ≡ role_at G b m (kind_of t) ∷ sitess G b (m + 1) (parts t)
sites-node G b m (var u p) h k = refl
sites-node G b m (wire w) h k = refl
sites-node G b m (bit c) h k = refl
sites-node G b m (gate g) h k = refl
sites-node G b m (new t) h k = simp append-nil
sites-node G b m (bang t) h k = absurd (k refl)
sites-node G b m (app f a) h k = simp append-nil
sites-node G b m (tuple ts) h k = refl
sites-node G b m (abs n t) h k = absurd (h n refl)

binder_of : (t : Term) (p : ℕ) → kind_of t ≡ Binder p → (b : Term) × (t ≡ abs p b)
binder_of (var u v) p e = absurd cc
binder_of (wire w) p e = absurd cc
binder_of (bit c) p e = absurd cc
binder_of (gate g) p e = absurd cc
binder_of (new t) p e = absurd cc
binder_of (bang t) p e = absurd cc
binder_of (app f a) p e = absurd cc
binder_of (tuple ts) p e = absurd cc
binder_of (abs n t) p e = let z : n ≡ p = cc in (t, ap (λ (m : ℕ). abs m t) z)

bang_of : (t : Term) → kind_of t ≡ Bang → (b : Term) × (t ≡ bang b)
bang_of (var u v) e = absurd cc
bang_of (wire w) e = absurd cc
bang_of (bit c) e = absurd cc
bang_of (gate g) e = absurd cc
bang_of (new t) e = absurd cc
bang_of (bang t) e = (t, refl)
bang_of (app f a) e = absurd cc
bang_of (tuple ts) e = absurd cc
bang_of (abs n t) e = absurd cc

forest-after : (xs : List Node) (at : ℕ) (t : Term) (us : Terms) → Forest (drop at xs) (part t us) → Forest (drop (at + size t) xs) us
forest-after xs at t us f =
    let e : drop at xs ≡ flat t ++ (flats us ++ f.rest) = f.is ∙ append_assoc (flat t) (flats us) f.rest in
    record { rest = f.rest; is = sym (drop-drop (size t) at xs) ∙ ap (λ (ys : List Node). drop (size t) ys) e ∙ drop_at (flat t) (flats us ++ f.rest) (size t) (length-flat t) }

forest_first : (xs : List Node) (t : Term) (us : Terms) → Forest xs (part t us) → Forest xs (part t none)
forest_first xs t us f = record { rest = flats us ++ f.rest; is = f.is ∙ simp (append_assoc, append-nil) }

-- The node that is read at the first of some terms.
module _ (table : List LocatedNode) (at : ℕ) (t : Term) (us : Terms) (f : Forest (drop at (nodes_in table)) (part t us)) where
  low-table : at < length table
  low-table = omega (arith, (opened (nodes_in table) at t us f).low, length-map table (λ x. x.node))

  node_is : (d : LocatedNode) → (get_or table at d).node ≡ node t
  node_is d = sym (get_or-map (λ x. x.node) table at d d.node low-table) ∙ (opened (nodes_in table) at t us f).here d.node

  kind_is : (d : LocatedNode) → (get_or table at d).node.kind ≡ kind_of t
  kind_is d = ap (λ (x : Node). x.kind) (node_is d)

-- Terms in a row, the first of which encloses one term.
pub record Enclosed (table : List LocatedNode) (at n : ℕ) (ts : Terms) (enclose : Term → Term) : Type 0 where
  pub body : Term
  pub others : Terms
  pub whole : ts ≡ part (enclose body) others
  pub inner : Forest (drop (at + 1) (nodes_in table)) (part body none)
  pub outer : Forest (drop (at + 1 + size body) (nodes_in table)) others
  pub fewer : count others ≡ n - 1
  pub within : 1 + size body + sizes others ≤ length table - at
  pub inner_formed : Shapeds ts → Shapeds (part body none)
  pub outer_formed : Shapeds ts → Shapeds others

enclosed : (table : List LocatedNode) (at n : ℕ) (t : Term) (us : Terms) (enclose : Term → Term) (body : Term) → Forest (drop at (nodes_in table)) (part t us) → suc (count us) ≡ n → t ≡ enclose body → parts (enclose body) ≡ part body none → (Shaped (enclose body) → Shaped body) → Enclosed table at n (part t us) enclose
enclosed table at n t us enclose body f m e p q =
    let xs = nodes_in table in
    let g : Forest (drop at xs) (part (enclose body) us) = subst (λ (x : Term). Forest (drop at xs) (part x us)) e f in
    let o = opened xs at (enclose body) us g in
    let i : Forest (drop (at + 1) xs) (part body us) = subst (λ (x : Terms). Forest (drop (at + 1) xs) (join x us)) p o.next in
    record {
      body = body;
      others = us;
      whole = ap (λ (x : Term). part x us) e;
      inner = forest_first (drop (at + 1) xs) body us i;
      outer = forest-after xs (at + 1) body us i;
      fewer = omega (arith, m);
      within = omega (arith, fits-table xs (at + 1) (part body us) i, length-map table (λ x. x.node), o.low);
      inner_formed = λ h. (q (subst Shaped e h.0), tt);
      outer_formed = λ h. h.1;
    }

-- Terms in a row, the first of which is neither a binder nor a bang.
pub record Plain (table : List LocatedNode) (at n : ℕ) (k : Node) (ts : Terms) : Type 0 where
  pub after : Terms
  pub next : Forest (drop (at + 1) (nodes_in table)) after
  pub fewer : count after ≡ n - 1 + part_count k
  pub long : sizes ts ≡ 1 + sizes after
  pub held : count after ≤ length table
  pub text : (G : Scope) (b : ℕ) → sitess G b at ts ≡ role_at G b at k.kind ∷ sitess G b (at + 1) after
  pub formed : Shapeds ts → Shapeds after

shapeds-join : (ts us : Terms) → Shapeds ts → Shapeds us → Shapeds (join ts us)
shapeds-join none us h k = k
shapeds-join (part t ts) us h k = (h.0, shapeds-join ts us h.1 k)

shaped-parts : (t : Term) → Shaped t → Shapeds (parts t)
shaped-parts (var u p) h = tt
shaped-parts (wire w) h = tt
shaped-parts (bit c) h = tt
shaped-parts (gate g) h = tt
shaped-parts (new t) h = (h, tt)
shaped-parts (bang t) h = (h, tt)
shaped-parts (app f a) h = (h.0, (h.1, tt))
shaped-parts (tuple ts) h = h.0
shaped-parts (abs n t) h = (h.1, tt)

-- The role of a node is in range.
resolve-ranged : (F : List Frame) (b u p : ℕ) → All (λ f. f.number < 4096) F → p < 8 → Ranged (resolve (reverse F) b u p)
resolve-ranged F b u p a h = elim (cases_lt u (length F)) [
  | inl g ↦ rw (resolve_stack F (length F) b u p (get_or F (length F - 1 - u) (frame 0 0 0)) refl g (get_or_default F (length F - 1 - u) _ _ (omega arith))) (a (length F - 1 - u) (frame 0 0 0) (omega arith), h)
  | inr g ↦ rw (resolve_none F b u p g) tt
]

role-ranged : (F : List Frame) (b at : ℕ) (t : Term) → All (λ f. f.number < 4096) F → at < 4096 → Shaped t → Ranged (role_at (reverse F) b at (kind_of t))
role-ranged F b at (var u p) a l h = resolve-ranged F b u p a h.1
role-ranged F b at (wire w) a l h = h
role-ranged F b at (bit c) a l h = tt
role-ranged F b at (gate g) a l h = tt
role-ranged F b at (new t) a l h = tt
role-ranged F b at (bang t) a l h = tt
role-ranged F b at (app f x) a l h = tt
role-ranged F b at (tuple ts) a l h = tt
role-ranged F b at (abs n t) a l h = (l, h.0)

-- Where terms stand, by an equal number.
pub stand_at : {xs : List Node} {m n k : ℕ} → m ≡ n → Stand xs m k → Stand xs n k
stand_at {xs = xs} {k = k} e s = subst (λ i. Stand xs i k) e s

pub forest_at : (xs : List Node) (m n : ℕ) (ts : Terms) → m ≡ n → Forest (drop m xs) ts → Forest (drop n xs) ts
forest_at xs m n ts e f = subst (λ i. Forest (drop i xs) ts) e f

-- Where a term is left to read, the table goes on,
pub goes_on : (table : List LocatedNode) (at n : ℕ) → (n ≡ 0 → ⊥) → (ts : Terms) → Forest (drop at (nodes_in table)) ts → count ts ≡ n → at < length table
goes_on table at n z none f m = absurd (z (sym m))
goes_on table at n z (part t us) f m = low-table table at t us f

module _ (table : List LocatedNode) (at n : ℕ) (d : LocatedNode) (z : n ≡ 0 → ⊥) where
  -- the role of its node is in range,
  pub ranged : (ts : Terms) (F : List Frame) (b : ℕ) → Forest (drop at (nodes_in table)) ts → count ts ≡ n → Shapeds ts → All (λ f. f.number < 4096) F → length table ≤ 4096 → Ranged (role_at (reverse F) b at (get_or table at d).node.kind)
  ranged none F b f m s a l = absurd (z (sym m))
  ranged (part t us) F b f m s a l = rw (kind_is table at t us f d) (role-ranged F b at t a (omega (arith, low-table table at t us f)) s.0)

  -- and it is a binder,
  pub bound : (ts : Terms) (p : ℕ) → Forest (drop at (nodes_in table)) ts → count ts ≡ n → (get_or table at d).node.kind ≡ Binder p → Enclosed table at n ts (abs p)
  bound none p f m e = absurd (z (sym m))
  bound (part t us) p f m e =
      let s = binder_of t p (sym (kind_is table at t us f d) ∙ e) in
      enclosed table at n t us (abs p) s.0 f m s.1 refl (λ h. h.1)

  -- a bang,
  pub banged : (ts : Terms) → Forest (drop at (nodes_in table)) ts → count ts ≡ n → (get_or table at d).node.kind ≡ Bang → Enclosed table at n ts bang
  banged none f m e = absurd (z (sym m))
  banged (part t us) f m e =
      let s = bang_of t (sym (kind_is table at t us f d) ∙ e) in
      enclosed table at n t us bang s.0 f m s.1 refl (λ h. h)

  -- or neither.
  pub plain : (ts : Terms) → Forest (drop at (nodes_in table)) ts → count ts ≡ n → ((get_or table at d).node.kind ≡ Bang → ⊥) → ((p : ℕ) → (get_or table at d).node.kind ≡ Binder p → ⊥) → Plain table at n (get_or table at d).node ts
  plain none f m b e = absurd (z (sym m))
  plain (part t us) f m b e =
      let o = opened (nodes_in table) at t us f in
      let i = node_is table at t us f d in
      let j = kind_is table at t us f d in
      let w : at + size t ≡ at + 1 + sizes (parts t) = omega (arith, size-parts t) in
      record {
        after = join (parts t) us;
        next = o.next;
        fewer = rw i (omega (arith, o.fewer, m));
        long = o.long;
        held = omega (arith, fits-table (nodes_in table) (at + 1) (join (parts t) us) o.next, sizes_of_flats (join (parts t) us), length-map table (λ x. x.node));
        text = λ G c. rw (j, sites-node G c at t (λ p q. e p (j ∙ q)) (λ q. b (j ∙ q)), w, sites-join G c (at + 1) (parts t) us) refl;
        formed = λ h. shapeds-join (parts t) us (shaped-parts t h.0) h.1;
      }

pub none_of : (ts : Terms) → count ts ≡ 0 → ts ≡ none
none_of none e = refl
none_of (part t ts) e = absurd (omega arith)

bang-text : (G : Scope) (b m : ℕ) (body : Term) (us ts : Terms) → ts ≡ part (bang body) us → sitess G b m ts ≡ Other ∷ (sitess G (b + 1) (m + 1) (part body none) ++ sitess G b (m + 1 + size body) us)
bang-text G b m body us ts w =
    let z : m + (1 + size body) ≡ m + 1 + size body = omega arith in
    rw (w, append-nil, z) refl

abs-text : (G : Scope) (b m k : ℕ) (body : Term) (us ts : Terms) → ts ≡ part (abs k body) us → sitess G b m ts ≡ Opening m k ∷ (sitess (frame m k b ∷ G) b (m + 1) (part body none) ++ sitess G b (m + 1 + size body) us)
abs-text G b m k body us ts w =
    let z : m + (1 + size body) ≡ m + 1 + size body = omega arith in
    rw (w, append-nil, z) refl

-- What is done to the buffers, step by step: a site of this role is pushed.
pub record Noted (x : Role) (old new : Vec Site Global) : Type 0 where
  pub as_roles : roles (vec_items new) ≡ roles (vec_items old) ++ x ∷ []
  pub len : vec_len new ≡ vec_len old + 1

pub noted : (s : Site) (x : Role) (old last : Vec Site Global) → vec_items last ≡ vec_items old ++ s ∷ [] → vec_len last ≡ vec_len old + 1 → s.role ≡ x → Noted x old last
noted s x old last i l e = record { as_roles = rw (i, map-append, e) refl; len = l }

-- The frames are as they were.
pub record Same (old new : Vec Frame Global) : Type 0 where
  pub items : vec_items new ≡ vec_items old
  pub len : vec_len new ≡ vec_len old

pub same_frames : {ys : List Role} {old new : Vec Site Global} {F K : Vec Frame Global} → Walked ys old new F K → Same F K
same_frames e = record { items = e.frames; len = e.frames_len }

-- A frame is put on the stack, and taken off after a walk.
pub popped : (F F1 F2 F3 : Vec Frame Global) (f : Frame) → vec_items F1 ≡ vec_items F ++ f ∷ [] → vec_len F1 ≡ vec_len F + 1 → Same F1 F2 → vec_items F3 ≡ take (vec_len F2 - 1) (vec_items F2) → Same F F3
popped F F1 F2 F3 f p l s t =
    let n : vec_len F2 - 1 ≡ vec_len F = omega (arith, s.len) in
    let e : vec_items F3 ≡ vec_items F = t ∙ rw (n, s.items, p) (take_at (vec_items F) (f ∷ []) (vec_len F) (sym F.ok.0)) in
    record { items = e; len = omega (arith, ap length e, F.ok.0, F3.ok.0) }

after_push : {x : Role} {ys : List Role} {old mid last : Vec Site Global} {F K : Vec Frame Global} → Noted x old mid → Walked ys mid last F K → Walked (x ∷ ys) old last F K
after_push {ys = ys} {old = old} p e =
    record { as_roles = e.as_roles ∙ rw p.as_roles (append_assoc (roles (vec_items old)) _ ys); len = omega (arith, p.len, e.len); frames = e.frames; frames_len = e.frames_len }

after_walk : {ys zs : List Role} {old mid last : Vec Site Global} {F F1 F2 F3 K : Vec Frame Global} → Same F F3 → Walked ys old mid F1 F2 → Walked zs mid last F3 K → Walked (ys ++ zs) old last F K
after_walk {ys = ys} {zs = zs} {old = old} s p e =
    record { as_roles = e.as_roles ∙ rw p.as_roles (append_assoc (roles (vec_items old)) ys zs); len = omega (arith, p.len, e.len, length-append ys zs); frames = e.frames ∙ s.items; frames_len = e.frames_len ∙ s.len }

told : {ys zs : List Role} {old last : Vec Site Global} {F K : Vec Frame Global} → zs ≡ ys → Walked ys old last F K → Walked zs old last F K
told {old = old} {last = last} {F = F} {K = K} t e = subst (λ x. Walked x old last F K) (sym t) e

-- Where a walk over one term ends.
pub walked_past : {S0 S1 : Vec Site Global} {F K : Vec Frame Global} (G : Scope) (b m : ℕ) (body : Term) → Walked (sitess G b m (part body none)) S0 S1 F K → vec_len S1 ≡ vec_len S0 + size body
walked_past G b m body e = omega (arith, e.len, length-sitess G b m (part body none))

-- A walk over the parts of the first of some terms, and over the others.
pub past-plain : (S0 S1 S2 : Vec Site Global) (F F1 : Vec Frame Global) (b at : ℕ) (k : Kind) (ts after : Terms) → at ≡ vec_len S0
    → sitess (reverse (vec_items F)) b at ts ≡ role_at (reverse (vec_items F)) b at k ∷ sitess (reverse (vec_items F)) b (at + 1) after
    → Noted (role_at (reverse (vec_items F)) b at k) S0 S1 → Walked (sitess (reverse (vec_items F)) b (vec_len S1) after) S1 S2 F F1
    → Walked (sitess (reverse (vec_items F)) b (vec_len S0) ts) S0 S2 F F1
past-plain S0 S1 S2 F F1 b at k ts after q w p e =
    let G = reverse (vec_items F) in
    let n : at + 1 ≡ vec_len S1 = omega (arith, q, p.len) in
    told (ap (λ m. sitess G b m ts) (sym q) ∙ w) (after_push p (told (ap (λ m. sitess G b m after) n) e))

-- A walk over the body of the first of some terms, and then over the others.
module _ (S0 S1 S2 S3 : Vec Site Global) (b at : ℕ) (body : Term) (us ts : Terms) (q : at ≡ vec_len S0) where
  pub past-bang : (F F1 F2 : Vec Frame Global) → ts ≡ part (bang body) us → Noted Other S0 S1
      → Walked (sitess (reverse (vec_items F)) (b + 1) (vec_len S1) (part body none)) S1 S2 F F1
      → Walked (sitess (reverse (vec_items F1)) b (vec_len S2) us) S2 S3 F1 F2
      → Walked (sitess (reverse (vec_items F)) b (vec_len S0) ts) S0 S3 F F2
  past-bang F F1 F2 w p e g =
      let G = reverse (vec_items F) in
      let n : at + 1 ≡ vec_len S1 = omega (arith, q, p.len) in
      let z : at + 1 + size body ≡ vec_len S2 = omega (arith, n, walked_past G (b + 1) (vec_len S1) body e) in
      let i = told (ap (λ m. sitess G (b + 1) m (part body none)) n) e in
      let h = told (ap (λ m. sitess G b m us) z ∙ ap (λ x. sitess (reverse x) b (vec_len S2) us) (sym e.frames)) g in
      told (ap (λ m. sitess G b m ts) (sym q) ∙ bang-text G b at body us ts w) (after_push p (after_walk (same_frames e) i h))

  pub past_binder : (k : ℕ) (F F1 F2 F3 F4 : Vec Frame Global) → ts ≡ part (abs k body) us → Noted (Opening at k) S0 S1 → vec_items F1 ≡ vec_items F ++ frame at k b ∷ [] → Same F F3
      → Walked (sitess (reverse (vec_items F1)) b (vec_len S1) (part body none)) S1 S2 F1 F2
      → Walked (sitess (reverse (vec_items F3)) b (vec_len S2) us) S2 S3 F3 F4
      → Walked (sitess (reverse (vec_items F)) b (vec_len S0) ts) S0 S3 F F4
  past_binder k F F1 F2 F3 F4 w p f s e g =
      let G = reverse (vec_items F) in
      let n : at + 1 ≡ vec_len S1 = omega (arith, q, p.len) in
      let z : at + 1 + size body ≡ vec_len S2 = omega (arith, n, walked_past (reverse (vec_items F1)) b (vec_len S1) body e) in
      let x : reverse (vec_items F1) ≡ frame at k b ∷ G = ap reverse f ∙ reverse-append (vec_items F) (frame at k b ∷ []) in
      let i = told (ap (λ m. sitess (frame at k b ∷ G) b m (part body none)) n ∙ ap (λ y. sitess y b (vec_len S1) (part body none)) (sym x)) e in
      let h = told (ap (λ m. sitess G b m us) z ∙ ap (λ y. sitess (reverse y) b (vec_len S2) us) (sym s.items)) g in
      told (ap (λ m. sitess G b m ts) (sym q) ∙ abs-text G b at k body us ts w) (after_push p (after_walk s i h))

-- The lines of the sites are those of the table's nodes.
pub lines-more : (xs ys : List Site) (s : Site) (table : List LocatedNode) (at : ℕ) (d : LocatedNode) → at < length table → s.line ≡ (get_or table at d).line → ys ≡ xs ++ s ∷ [] → site_lines xs ≡ take at (lines_in table) → site_lines ys ≡ take (at + 1) (lines_in table)
lines-more xs ys s table at d lo l e h =
    let i : get_or (lines_in table) at d.line ≡ (get_or table at d).line = get_or-map (λ x. x.line) table at d d.line lo in
    let k : at < length (lines_in table) = omega (arith, length-map table (λ x. x.line)) in
    rw (e, map-append, h, take_more (lines_in table) at d.line k, i, l) refl
