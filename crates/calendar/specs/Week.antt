use Rattle.std.specs.Prelude.{ℕ, zero, suc, ◌+◌, ◌-◌, ◌*◌, ◌/◌, ◌%◌, min, Bool, true, false, cond, ◌&&◌, ◌||◌, List, [], ◌∷◌, sum_by, nat_le, nat_lt}
use Rattle.calendar.specs.declared.shifts.Shift.{Shift}

-- The shifts are in rising order from the minute low on, none empty, none touching the next, all inside the week.
abbrev pub ordered : ℕ → List Shift → Bool
ordered low [] = true
ordered low (s ∷ ss) = nat_le low s.begin && (nat_lt s.begin s.end && (nat_le s.end 10080 && ordered (suc s.end) ss))

-- Whether a minute of the week lies in a shift.
abbrev pub open_at : List Shift → ℕ → Bool
open_at [] m = false
open_at (s ∷ ss) m = (nat_le s.begin m && nat_lt m s.end) || open_at ss m

-- The open minutes among 0 to t − 1, counted one by one, where the week of 10,080 minutes repeats.
abbrev pub open_before : List Shift → ℕ → ℕ
open_before ss zero = 0
open_before ss (suc t) = open_before ss t + cond (open_at ss (t % 10080)) 1 0

-- The same within one week, shift by shift: the open minutes before its minute m, and those of the whole week.
abbrev pub opened : List Shift → ℕ → ℕ
opened ss m = sum_by (λ s. min m s.end - s.begin) ss

abbrev pub total : List Shift → ℕ
total ss = sum_by (λ s. s.end - s.begin) ss

-- The minute of the week by which x open minutes have passed, for x from 1 to those of the whole week.
abbrev pub reached : List Shift → ℕ → ℕ
reached [] x = 0
reached (s ∷ ss) x = cond (nat_le x (s.end - s.begin)) (s.begin + x) (reached ss (x - (s.end - s.begin)))

-- The earliest minute by which x open minutes have passed: whole weeks, and then a minute of the week.
abbrev pub time_by : List Shift → ℕ → ℕ
time_by ss zero = 0
time_by ss (suc x) = x / total ss * 10080 + reached ss (suc (x % total ss))
