-- Machines that are composed of their wires and of a journal.
use Rattle.std.specs.Prelude.{ℕ, Option}
use Rattle.machines.specs.Machine.{Meaning}
use Rattle.machines.specs.Operation.{Operation}
use Rattle.machines.specs.Wires.{Supply}

-- What such a machine means, by its wires, by how many operations it has made, and by the last and the most operations that
-- its journal tells.
abbrev pub composed : Supply → ℕ → Option Operation → ℕ → Meaning
composed s made last most = record {
  held = s.held;
  made = made;
  last = last;
  most_wires = s.most;
  most_operations = most;
  allowed = s.allowed;
}
