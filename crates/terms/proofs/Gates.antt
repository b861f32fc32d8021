-- The gate book.
use Rattle.std.proofs.Common.{◌≤◌, lit≤}
use Rattle.terms.specs.Gate.{width}
use Rattle.terms.specs.declared.Gate.{Gate}
use Rattle.terms.specs.declared.Gate.TheVariants.{H, X, Z, S, Sdg, T, Tdg, Cx, Cz, Swap, Ccx}

-- A gate takes one to three wires.
pub width-range : (g : Gate) → (1 ≤ width g) × (width g ≤ 3)
width-range H = (lit≤ tt, lit≤ tt)
width-range X = (lit≤ tt, lit≤ tt)
width-range Z = (lit≤ tt, lit≤ tt)
width-range S = (lit≤ tt, lit≤ tt)
width-range Sdg = (lit≤ tt, lit≤ tt)
width-range T = (lit≤ tt, lit≤ tt)
width-range Tdg = (lit≤ tt, lit≤ tt)
width-range Cx = (lit≤ tt, lit≤ tt)
width-range Cz = (lit≤ tt, lit≤ tt)
width-range Swap = (lit≤ tt, lit≤ tt)
width-range Ccx = (lit≤ tt, lit≤ tt)
