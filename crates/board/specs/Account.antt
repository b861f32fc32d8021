-- The letters of the kinds, and how many nodes there are of each.
use Rattle.std.specs.Prelude.{ℕ, ◌==◌, List, map, count_by, codes, slice_index}
use Rattle.std.specs.List.{position_or_len}
use Rattle.terms.specs.declared.Kind.{Kind}
use Rattle.sheet.specs.declared.located.LocatedNode.{LocatedNode}
use Rattle.sheet.specs.Entry.{letter}

-- The letter of a kind's lines in a sheet, by its code.
abbrev pub letter_of : Kind → ℕ
letter_of k = slice_index (letter k) 0

-- The letters of the kinds, in the order in which they are printed.
abbrev pub letters : List ℕ
letters = codes "vwcgnbatl"

-- The place of a kind's letter among them.
abbrev pub place_of : Kind → ℕ
place_of k = position_or_len (λ l. l == letter_of k) letters

-- Each letter, with how many of the nodes are of its kind.
abbrev pub counted : List LocatedNode → List (ℕ × ℕ)
counted xs = map (λ k. (k, count_by (λ x. letter_of x.node.kind == k) xs)) letters
