use Rattle.std.specs.Prelude.{ℕ, ◌+◌, List, [], ◌∷◌}
use Rattle.calendar.specs.Clock.{cut}
use Rattle.calendar.specs.Settings.{Setting}
use Rattle.calendar.specs.Week.{open_before, time_by}
use Rattle.calendar.specs.WeekOf.{shifts_of}
use Rattle.calendar.specs.declared.shifts.Shift.{Shift}
use Rattle.calendar.specs.declared.week.Week.{Week}
use Rattle.stations.specs.Layer.{Pass}

-- The settings of each piece in their order, with their ranges.
abbrev pub machine_settings : ℕ → ℕ → List Setting
machine_settings places minutes = record { low = 1; high = 8; value = places } ∷ (record { low = 1; high = 1440; value = minutes } ∷ [])

abbrev pub oven_settings : ℕ → ℕ → ℕ → List Setting
oven_settings cycle places bake =
    record { low = 1; high = 1440; value = cycle }
    ∷ (record { low = 1; high = 16; value = places } ∷ (record { low = 1; high = cycle; value = bake } ∷ []))

abbrev pub move_settings : ℕ → List Setting
move_settings minutes = record { low = 0; high = 1440; value = minutes } ∷ []

-- A move of t minutes: the part arrives below so much later.
abbrev pub moving : ℕ → Pass
moving t = record { down = λ a. cut (a + t); up = λ d. d }

-- In the open minutes of some shifts: a time goes down as the open minutes before it, and comes up as the earliest minute by which
-- so many have passed.
abbrev pub in_shifts : List Shift → Pass
in_shifts ss = record { down = open_before ss; up = λ x. cut (time_by ss x) }

-- Under a week.
abbrev pub weekly : Week → Pass
weekly w = in_shifts (shifts_of w)
