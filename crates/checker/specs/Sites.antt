-- What a walk over a table notes of its nodes.
use Rattle.std.specs.Prelude.{◌≡◌, ℕ, zero, suc, ◌+◌, List, [], ◌∷◌, ◌++◌, length, drop, vec_items, vec_len, Vec, nat_lt}
use Rattle.std.specs.declared.alloc.Global.{Global}
use Rattle.terms.specs.Term.{Term, var, wire, bit, gate, new, bang, app, tuple, abs, Terms, none, part, count, size}
use Rattle.terms.specs.Flat.{flats, kind_of}
use Rattle.terms.specs.Shape.{Shapeds}
use Rattle.terms.specs.declared.Node.{Node}
use Rattle.terms.specs.declared.Kind.{Kind}
use Rattle.terms.specs.declared.Kind.TheVariants.{Variable, Wire, Binder}
use Rattle.checker.specs.declared.role.Frame.{Frame}
use Rattle.checker.specs.declared.role.Role.{Role}
use Rattle.checker.specs.declared.role.Role.TheVariants.{Other, Free, Use, Lead, Opening}
use Rattle.checker.specs.declared.site.Site.{Site}
use Rattle.checker.specs.Faults.{Scope, frame}
use Rattle.checker.specs.Found.{roles}

-- The list begins with the nodes of the terms ts.
pub record Forest (xs : List Node) (ts : Terms) : Type 0 where
  pub rest : List Node
  pub is : xs ≡ flats ts ++ rest

-- In the table n terms stand one after another from `at` on.
pub record Stand (xs : List Node) (at n : ℕ) : Type 0 where
  pub trees : Terms
  pub many : count trees ≡ n
  pub forest : Forest (drop at xs) trees
  pub formed : Shapeds trees

-- The role of a variable within the binders G and c bangs.
abbrev pub resolve : Scope → ℕ → ℕ → ℕ → Role
resolve [] c u p = Free
resolve (f ∷ G) c zero p = Use f.number f.pattern p (nat_lt f.depth c)
resolve (f ∷ G) c (suc u) p = resolve G c u p

-- The role of the node n there, by its kind, and as a subterm.
abbrev pub role_at : Scope → ℕ → ℕ → Kind → Role
role_at G c n (Variable p u) = resolve G c u p
role_at G c n (Wire w) = Lead w.number (nat_lt 0 c)
role_at G c n (Binder k) = Opening n k
role_at G c n _ = Other

abbrev pub role_of : Scope → ℕ → ℕ → Term → Role
role_of G c n t = role_at G c n (kind_of t)

abbrev mutual
  pub sites : Scope → ℕ → ℕ → Term → List Role
  sites G b m (var u p) = resolve G b u p ∷ []
  sites G b m (wire w) = Lead w (nat_lt 0 b) ∷ []
  sites G b m (bit x) = Other ∷ []
  sites G b m (gate g) = Other ∷ []
  sites G b m (new t) = Other ∷ sites G b (m + 1) t
  sites G b m (bang t) = Other ∷ sites G (b + 1) (m + 1) t
  sites G b m (app f a) = Other ∷ (sites G b (m + 1) f ++ sites G b (m + 1 + size f) a)
  sites G b m (tuple ts) = Other ∷ sitess G b (m + 1) ts
  sites G b m (abs k t) = Opening m k ∷ sites (frame m k b ∷ G) b (m + 1) t

  pub sitess : Scope → ℕ → ℕ → Terms → List Role
  sitess G b m none = []
  sitess G b m (part t ts) = sites G b m t ++ sitess G b (m + size t) ts

-- The walk has put sites with the roles `ys` at the end, and left the frames as they were.
pub record Walked (ys : List Role) (old new : Vec Site Global) (before after : Vec Frame Global) : Type 0 where
  pub as_roles : roles (vec_items new) ≡ roles (vec_items old) ++ ys
  pub len : vec_len new ≡ vec_len old + length ys
  pub frames : vec_items after ≡ vec_items before
  pub frames_len : vec_len after ≡ vec_len before
