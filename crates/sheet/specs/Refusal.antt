-- The numbers of the refusals that a sheet can meet.
use Rattle.std.specs.Prelude.{ℕ, List, ◌++◌, codes, decimal}
use Rattle.sheet.specs.declared.refusal.Rule.{Rule}
use Rattle.sheet.specs.declared.refusal.Rule.TheVariants.{Form, Size, Part, Unbound, Misused, Shut, Repeated}

abbrev pub number : Rule → ℕ
number Form = 11
number Size = 12
number Part = 13
number Unbound = 14
number Misused = 15
number Shut = 16
number Repeated = 17

-- What is wrong with a sheet that breaks the rule, in words.
abbrev pub reason : Rule → List ℕ
reason Form = codes "the line does not follow the form of a sheet"
reason Size = codes "the sheet is empty, has more than 65536 bytes, or has more than 4096 line ends"
reason Part = codes "a part is not an earlier line or is already used, or no line uses this one"
reason Unbound = codes "the variable has no binder, or a place outside its binder's pattern"
reason Misused = codes "a variable of this binder is used never or more than once"
reason Shut = codes "a linear variable or a wire stands in a bang"
reason Repeated = codes "the wire stands on an earlier line too"

-- The sentence that tells a refusal.
abbrev pub told : Rule → ℕ → List ℕ
told r l = codes "line " ++ (decimal l ++ (codes ": " ++ reason r))
