use Rattle.std.specs.Prelude.{ℕ, ◌+◌, ◌-◌, ◌*◌, List, take, drop}
use Rattle.controls.specs.declared.events.Event.{Event}
use Rattle.controls.specs.declared.events.Event.TheVariants.{Pass, Release, Completion, Delivery}
use Rattle.controls.specs.Times.{Table}

-- The row of an event on the sheet of a line of N stages: pass 1 to N, release 1 to N, completion 1 to N, delivery. Rows count
-- from 0.
abbrev pub row_of : ℕ → Event → ℕ
row_of N (Pass i) = i.0 - 1
row_of N (Release i) = N + (i.0 - 1)
row_of N (Completion i) = N + N + (i.0 - 1)
row_of N Delivery = N + N + N

-- How many numbers the rows of n parts take.
abbrev pub room : ℕ → ℕ → ℕ
room N n = (3 * N + 1) * n

-- The rows of a sheet for n parts: for each event its minutes, in part order.
abbrev pub rows : ℕ → ℕ → List ℕ → Table
rows N n sheet e = take n (drop (row_of N e * n) sheet)
