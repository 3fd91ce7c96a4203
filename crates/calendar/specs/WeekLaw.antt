use Rattle.std.specs.Prelude.{◌≡◌, ℕ, ◌<◌, ◌≤◌, true, List}
use Rattle.calendar.specs.Week.{open_at, open_before, time_by}
use Rattle.calendar.specs.declared.shifts.Shift.{Shift}

-- At least x open minutes lie before t exactly if t is at or after the earliest minute by which x have passed.
pub record Adjoint (ss : List Shift) : Type 0 where
  pub up : (x t : ℕ) → x ≤ open_before ss t → time_by ss x ≤ t
  pub down : (x t : ℕ) → time_by ss x ≤ t → x ≤ open_before ss t

-- A week has an open minute, and the minutes that are open before a time are among those before it.
pub record Opens (ss : List Shift) : Type 0 where
  pub some : (m : ℕ) × (m < 10080) × (open_at ss m ≡ true)
  pub at_most : (t : ℕ) → open_before ss t ≤ t
