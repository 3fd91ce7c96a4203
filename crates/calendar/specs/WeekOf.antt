use Rattle.std.specs.Prelude.{List, [], ◌∷◌, take}
use Rattle.calendar.specs.declared.shifts.Shift.{Shift}
use Rattle.calendar.specs.declared.week.Week.{Week}

-- The shifts of a week.
abbrev pub shifts_of : Week → List Shift
shifts_of w = take w.count w.table

-- The house weeks: always open, and from 6:00 to 14:00 on the first five days.
abbrev pub all_week : List Shift
all_week = record { begin = 0; end = 10080 } ∷ []

abbrev pub early_week : List Shift
early_week =
    record { begin = 360; end = 840 }
    ∷ (record { begin = 1800; end = 2280 }
    ∷ (record { begin = 3240; end = 3720 } ∷ (record { begin = 4680; end = 5160 } ∷ (record { begin = 6120; end = 6600 } ∷ []))))
