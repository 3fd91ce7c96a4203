use Rattle.std.specs.Prelude.{ℕ, ◌-◌, ◌≤◌, Bool, if◌then◌else◌, ◌&&◌, List, length, nat_le, nat_lt, slice_index, slice_set}
use Rattle.std.specs.List.{All}

-- Maxima that a board can have: 1 to 16 of them, each 64 at most.
pub record Fit (maxima : List ℕ) : Type 0 where
  pub some : 1 ≤ length maxima
  pub few : length maxima ≤ 16
  pub small : All (λ maximum. maximum ≤ 64) maxima

-- Whether a board with these maxima has the place, counted from 1, and the place can have the count.
abbrev pub settable : List ℕ → ℕ → ℕ → Bool
settable maxima place count =
    nat_lt 0 place && (nat_le place (length maxima) && nat_le count (slice_index maxima (place - 1)))

-- The counts after the place was set, if it could be.
abbrev pub counts_after : Bool → List ℕ → ℕ → ℕ → List ℕ
counts_after granted counts place count = if granted then slice_set counts (place - 1) count else counts
