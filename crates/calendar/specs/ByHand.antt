use Rattle.std.specs.Prelude.{◌≡◌}
use Rattle.calendar.specs.Week.{open_before, time_by}
use Rattle.calendar.specs.WeekOf.{early_week}

-- Minutes of the early week, worked by hand.
abbrev pub EarlyByHand : Type 0
EarlyByHand =
    (open_before early_week 360 ≡ 0) × (open_before early_week 361 ≡ 1) × (time_by early_week 480 ≡ 840)
    × (time_by early_week 481 ≡ 1801) × (time_by early_week 2401 ≡ 10441)
