use Rattle.std.specs.Prelude.{ℕ, List, codes}
use Rattle.calendar.specs.WeekOf.{all_week, early_week}
use Rattle.calendar.specs.declared.house.HouseWeek.{HouseWeek}
use Rattle.calendar.specs.declared.house.HouseWeek.TheVariants.{All, Early}
use Rattle.calendar.specs.declared.shifts.Shift.{Shift}

-- The name of a house week, and its shifts.
abbrev pub house_name : HouseWeek → List ℕ
house_name All = codes "all"
house_name Early = codes "early"

abbrev pub house_shifts : HouseWeek → List Shift
house_shifts All = all_week
house_shifts Early = early_week
