-- The table that a sheet's lines make.
use Rattle.std.specs.Prelude.{◌≡◌, List, length}
use Rattle.terms.specs.Term.{Term}
use Rattle.terms.specs.Flat.{flat}
use Rattle.sheet.specs.Entry.{Entry}
use Rattle.sheet.specs.Located.{nodes_in, lines_in}
use Rattle.sheet.specs.Reading.{Writes}
use Rattle.sheet.specs.declared.located.LocatedNode.{LocatedNode}

-- The nodes are those of the last line's term, and stand on the lines that it is written on.
pub record Tabled (es : List Entry) (table : List LocatedNode) : Type 0 where
  pub term : Term
  pub writes : Writes es (length es) term (lines_in table)
  pub nodes_are : nodes_in table ≡ flat term
