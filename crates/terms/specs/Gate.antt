-- The gate book: each gate's code, width and name.
use Rattle.std.specs.Prelude.{◌≡◌, ℕ, cond, List, Some, None, codes, Option, ◌==◌, ◌≢◌}
use Rattle.terms.specs.declared.Gate.{Gate}
use Rattle.terms.specs.declared.Gate.TheVariants.{H, X, Z, S, Sdg, T, Tdg, Cx, Cz, Swap, Ccx}

abbrev pub code : Gate → ℕ
code H = 0
code X = 1
code Z = 2
code S = 3
code Sdg = 4
code T = 5
code Tdg = 6
code Cx = 7
code Cz = 8
code Swap = 9
code Ccx = 10

-- How many wires a gate takes.
abbrev pub width : Gate → ℕ
width H = 1
width X = 1
width Z = 1
width S = 1
width Sdg = 1
width T = 1
width Tdg = 1
width Cx = 2
width Cz = 2
width Swap = 2
width Ccx = 3

-- One of three, by the width of a gate: 1, 2 or 3.
abbrev pub by_width : {A : Type 0} → A → A → A → Gate → A
by_width one two three g = cond (width g == 1) one (cond (width g == 2) two three)

abbrev pub name : Gate → List ℕ
name H = codes "H"
name X = codes "X"
name Z = codes "Z"
name S = codes "S"
name Sdg = codes "SDG"
name T = codes "T"
name Tdg = codes "TDG"
name Cx = codes "CX"
name Cz = codes "CZ"
name Swap = codes "SWAP"
name Ccx = codes "CCX"

-- `r` is the gate whose name `bs` is, and none if there is no such gate.
abbrev pub Named : List ℕ → Option Gate → Type 0
Named bs (Some g) = bs ≡ name g
Named bs None = (g : Gate) → bs ≢ name g
