-- The term that a table of nodes stands for.
use Rattle.std.specs.Prelude.{◌≡◌, ℕ, zero, suc, false, List, [], ◌∷◌}
use Rattle.terms.specs.Term.{Term, var, wire, bit, gate, new, bang, app, tuple, abs, Terms, none, part}
use Rattle.terms.specs.Flat.{flat}
use Rattle.terms.specs.declared.Kind.{Kind}
use Rattle.terms.specs.declared.Kind.TheVariants.{Variable, Wire as WireNode, Constant, Gate as GateNode, New, Bang, Application, Tuple, Binder}
use Rattle.terms.specs.declared.Node.{Node}

-- The first n terms of a row, and those after them.
abbrev pub firsts : ℕ → Terms → Terms
firsts zero ts = none
firsts (suc n) none = none
firsts (suc n) (part t ts) = part t (firsts n ts)

abbrev pub lasts : ℕ → Terms → Terms
lasts zero ts = ts
lasts (suc n) none = none
lasts (suc n) (part t ts) = lasts n ts

-- A node that stands before a row of terms takes its parts from the row's front.
abbrev pub build : Kind → Terms → Terms
build (Variable p u) ts = part (var u p) ts
build (WireNode w) ts = part (wire w.number) ts
build (Constant c) ts = part (bit c) ts
build (GateNode g) ts = part (gate g) ts
build New none = none
build New (part t ts) = part (new t) ts
build Bang none = none
build Bang (part t ts) = part (bang t) ts
build Application none = none
build Application (part f none) = none
build Application (part f (part a ts)) = part (app f a) ts
build (Tuple n) ts = part (tuple (firsts n ts)) (lasts n ts)
build (Binder p) none = none
build (Binder p) (part t ts) = part (abs p t) ts

abbrev pub parse : List Node → Terms
parse [] = none
parse (k ∷ xs) = build k.kind (parse xs)

abbrev pub first : Terms → Term
first none = bit false
first (part t ts) = t

-- The term of a table that holds one: there is no other term with these nodes.
abbrev pub term : List Node → Term
term xs = first (parse xs)

-- The table holds the nodes of a term, and of nothing else.
abbrev pub HoldsTerm : List Node → Type 0
HoldsTerm xs = xs ≡ flat (term xs)

-- The theorem: one table stands for at most one tree, the one that `term` gives.
pub record OneTree (xs : List Node) (t : Term) : Type 0 where
  pub is : term xs ≡ t
  pub only : (u : Term) → xs ≡ flat u → u ≡ t

abbrev pub TableHasOneTree : Type 0
TableHasOneTree = (xs : List Node) (t : Term) → xs ≡ flat t → OneTree xs t
