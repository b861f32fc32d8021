-- The nodes of a table, and the lines that they stand on.
use Rattle.std.specs.Prelude.{ℕ, List, map}
use Rattle.terms.specs.declared.Node.{Node}
use Rattle.sheet.specs.declared.located.LocatedNode.{LocatedNode}

abbrev pub nodes_in : List LocatedNode → List Node
nodes_in ns = map (λ n. n.node) ns

abbrev pub lines_in : List LocatedNode → List ℕ
lines_in ns = map (λ n. n.line) ns
