-- A term as the table of its nodes in the order of their numbers: each before its parts, parts from left to right,
-- the function before the argument.
use Rattle.std.specs.Prelude.{ℕ, List, [], ◌∷◌, ◌++◌}
use Rattle.terms.specs.Term.{Term, var, wire, bit, gate, new, bang, app, tuple, abs, Terms, none, part, count}
use Rattle.terms.specs.declared.Kind.{Kind}
use Rattle.terms.specs.declared.Kind.TheVariants.{Variable, Wire as WireNode, Constant, Gate as GateNode, New, Bang, Application, Tuple, Binder}
use Rattle.terms.specs.declared.Node.{Node}
use Rattle.terms.specs.declared.Wire.{Wire}

abbrev pub wire_of : ℕ → Wire
wire_of w = record { number = w }

abbrev pub node_of : Kind → Node
node_of k = record { kind = k }

abbrev pub kind_of : Term → Kind
kind_of (var u p) = Variable p u
kind_of (wire w) = WireNode (wire_of w)
kind_of (bit c) = Constant c
kind_of (gate g) = GateNode g
kind_of (new t) = New
kind_of (bang t) = Bang
kind_of (app f a) = Application
kind_of (tuple ts) = Tuple (count ts)
kind_of (abs n t) = Binder n

-- The node at the top of a term, and the parts below it.
abbrev pub node : Term → Node
node t = node_of (kind_of t)

abbrev pub parts : Term → Terms
parts (var u p) = none
parts (wire w) = none
parts (bit c) = none
parts (gate g) = none
parts (new t) = part t none
parts (bang t) = part t none
parts (app f a) = part f (part a none)
parts (tuple ts) = ts
parts (abs n t) = part t none

abbrev pub kind_parts : Kind → ℕ
kind_parts (Variable p u) = 0
kind_parts (WireNode w) = 0
kind_parts (Constant c) = 0
kind_parts (GateNode g) = 0
kind_parts New = 1
kind_parts Bang = 1
kind_parts Application = 2
kind_parts (Tuple n) = n
kind_parts (Binder p) = 1

abbrev pub part_count : Node → ℕ
part_count k = kind_parts k.kind

abbrev mutual
  pub flat : Term → List Node
  flat (var u p) = node_of (Variable p u) ∷ []
  flat (wire w) = node_of (WireNode (wire_of w)) ∷ []
  flat (bit c) = node_of (Constant c) ∷ []
  flat (gate g) = node_of (GateNode g) ∷ []
  flat (new t) = node_of New ∷ flat t
  flat (bang t) = node_of Bang ∷ flat t
  flat (app f a) = node_of Application ∷ (flat f ++ flat a)
  flat (tuple ts) = node_of (Tuple (count ts)) ∷ flats ts
  flat (abs n t) = node_of (Binder n) ∷ flat t

  pub flats : Terms → List Node
  flats none = []
  flats (part t ts) = flat t ++ flats ts
