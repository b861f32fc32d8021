-- Marks on the lines that are used.
use Rattle.std.specs.Prelude.{◌≡◌, ℕ, ◌<◌, ◌≤◌, Bool, false, List, ◌++◌, length, Some, None, Option, nat_lt, slice_index_or}
use Rattle.sheet.specs.Entry.{Each}
use Rattle.sheet.specs.Sheet.{times}

-- The lines ws are marked, and no others.
abbrev pub Marks : List Bool → List ℕ → Type 0
Marks us ws = (p : ℕ) → p < length us → slice_index_or us p false ≡ nat_lt 0 (times p ws)

-- Each part is a line before n, and with the lines ws that are used already none is used twice.
pub record Fits (n : ℕ) (ws ps : List ℕ) : Type 0 where
  pub earlier : Each (λ p. p < n) ps
  pub once : (p : ℕ) → times p (ws ++ ps) ≤ 1

abbrev pub Marked : ℕ → List ℕ → List ℕ → List Bool → Option (Unit {0}) → Type 0
Marked n ws ps us (Some u) = Fits n ws ps × Marks us (ws ++ ps)
Marked n ws ps us None = Fits n ws ps → ⊥

pub record LeastUnused (n k : ℕ) (ws : List ℕ) : Type 0 where
  pub low : 1 ≤ k
  pub high : k < n
  pub free : times k ws ≡ 0
  pub first : (j : ℕ) → 1 ≤ j → j < k → 1 ≤ times j ws

abbrev pub FirstUnused : ℕ → List ℕ → Option ℕ → Type 0
FirstUnused n ws (Some k) = LeastUnused n k ws
FirstUnused n ws None = (j : ℕ) → 1 ≤ j → j < n → 1 ≤ times j ws
