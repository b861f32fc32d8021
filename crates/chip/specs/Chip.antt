-- The chip machine and its wires.
use Rattle.std.specs.Prelude.{◌≡◌, ℕ, ◌/◌, ◌%◌, ◌^◌, ◌<◌, min, Bool, true, false, ◌&&◌, ◌||◌, List, [], ◌∷◌, None, ◌==◌, nat_lt, slice_index}
use Rattle.terms.specs.Gate.{by_width}
use Rattle.terms.specs.declared.Gate.{Gate}
use Rattle.machines.specs.Machine.{Meaning, operation_limit, with_wire}
use Rattle.machines.specs.Wires.{Supply}
use Rattle.chip.specs.declared.Chip.{Chip}

-- Bit n of a mask, worth 2^n, is wire n. A mask has 64 bits.
abbrev pub in_mask : ℕ → ℕ → Bool
in_mask m v = nat_lt v 64 && m / 2 ^ v % 2 == 1

-- Two wires are coupled, in either order, if the mask of one has the other.
abbrev pub coupled : List ℕ → ℕ → ℕ → Bool
coupled table a b = in_mask (slice_index table a) b || in_mask (slice_index table b) a

-- There are two wires, and they are coupled.
abbrev pub both_coupled : List ℕ → List ℕ → Bool
both_coupled table [] = false
both_coupled table (a ∷ []) = false
both_coupled table (a ∷ (b ∷ [])) = coupled table a b
both_coupled table (a ∷ (b ∷ (c ∷ ws))) = false

-- A chip allows all gates of width 1, those of width 2 on two wires that are coupled, and none of width 3.
abbrev pub chip_allows : List ℕ → Gate → List ℕ → Bool
chip_allows table g ws = by_width true (both_coupled table ws) false g

abbrev pub chip_supply : Chip → Supply
chip_supply c = record { held = in_mask c.held.0; most = 64; allowed = chip_allows c.couplings }

-- A chip just made, with a mask of the wires held and at most o operations: at most 2,000,000.
abbrev pub fresh_chip : ℕ → ℕ → List ℕ → Meaning
fresh_chip mask o table = record { held = in_mask mask; made = 0; last = None; most_wires = 64; most_operations = min o operation_limit; allowed = chip_allows table }

-- The free wire with the largest number.
pub record HighestFree (held : ℕ → Bool) (w : ℕ) : Type 0 where
  pub wire : w < 64
  pub free : held w ≡ false
  pub highest : (v : ℕ) → w < v → v < 64 → held v ≡ true

-- A set of wires, and more wires besides.
abbrev pub with_wires : List ℕ → (ℕ → Bool) → ℕ → Bool
with_wires [] s = s
with_wires (w ∷ ws) s = with_wires ws (with_wire w s)

-- Each of the wires is the highest that is free when it is granted.
abbrev pub EachHighest : (ℕ → Bool) → List ℕ → Type 0
EachHighest held [] = Unit {0}
EachHighest held (w ∷ ws) = HighestFree held w × EachHighest (with_wire w held) ws

-- Of the wires that are taken each is the highest that is free then, and is held besides.
pub record Fills (x : Chip) (ws : List ℕ) (y : Chip) : Type 0 where
  pub highest : EachHighest (in_mask x.held.0) ws
  pub holds : in_mask y.held.0 ≡ with_wires ws (in_mask x.held.0)
