use Rattle.std.specs.Prelude.{ℕ, suc, cond, ◌&&◌, List, [], ◌∷◌, length, Some, None, Option, nat_le, nat_lt}
use Rattle.std.specs.Option.{option_or}
use Rattle.calendar.specs.Settings.{Told, off}
use Rattle.calendar.specs.declared.settings.Piece.TheVariants as pieces
use Rattle.calendar.specs.declared.shifts.Shift.{Shift}

-- A refusal of a week: its number, the position of the shift, and a value.
abbrev pub of_week : ℕ → ℕ → ℕ → Told
of_week number position value = record { number = number; piece = pieces.Week; position = position; value = value }

-- A shift that begins or ends past the week.
abbrev pub shift_past : ℕ → Shift → Option Told
shift_past position s =
    cond (off 0 10080 s.begin) (Some (of_week 1 position s.begin))
    (cond (off 0 10080 s.end) (Some (of_week 1 position s.end)) None)

-- The first such shift, where the first of the list stands at a position.
abbrev pub first_past : ℕ → List Shift → Option Told
first_past position [] = None
first_past position (s ∷ ss) = option_or (shift_past position s) (first_past (suc position) ss)

-- A shift that does not begin at low or later, or not below its end.
abbrev pub shift_unordered : ℕ → ℕ → Shift → Option Told
shift_unordered position low s =
    cond (nat_le low s.begin && nat_lt s.begin s.end) None (Some (of_week 2 position s.begin))

-- The first such shift, where each is to begin after the end of the one before.
abbrev pub first_unordered : ℕ → ℕ → List Shift → Option Told
first_unordered position low [] = None
first_unordered position low (s ∷ ss) = option_or (shift_unordered position low s) (first_unordered (suc position) (suc s.end) ss)

-- A week has 1 to 16 shifts. With none the first is at fault, with too many the seventeenth; the value is their number,
-- counted no further than 17.
abbrev pub count_off : ℕ → Option Told
count_off n = cond (nat_lt n 1) (Some (of_week 1 1 0)) (cond (nat_lt 16 n) (Some (of_week 1 17 17)) None)

-- Why the shifts are no week, if they are none: the smaller number first, and the first shift to which it applies.
abbrev pub week_refusal : List Shift → Option Told
week_refusal ss = option_or (count_off (length ss)) (option_or (first_past 1 ss) (first_unordered 1 0 ss))
