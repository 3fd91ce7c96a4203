use Rattle.std.specs.Prelude.{ℕ, ◌+◌, ◌-◌, ◌*◌, ◌/◌, ◌≤◌, max, List, [], ◌∷◌, Option, slice_index}
use Rattle.calendar.specs.Clock.{cut}
use Rattle.stations.specs.Rule.{Rule, Meaning, before}

-- How a station works on a part: from which minute on it may start, how long after the start its place is free again, and
-- how long after the start it leaves.
pub record Pace : Type 0 where
  pub from : ℕ → ℕ
  pub turn : ℕ
  pub stay : ℕ

-- What makes a pace lawful: a later arrival may not start earlier, no part starts before its arrival, and each stays for a while.
pub record Steady (w : Pace) : Type 0 where
  pub rises : (a b : ℕ) → a ≤ b → w.from a ≤ w.from b
  pub waits : (a : ℕ) → a ≤ w.from a
  pub stays : 1 ≤ w.stay

-- When a part that arrives at a starts at a station of k places. Free tells when the places taken before are free again, the one
-- taken last first; a place that was not taken is free at 0. The part takes the place that was taken k parts ago.
abbrev pub start : ℕ → Pace → List ℕ → ℕ → ℕ
start k w free a = max (w.from a) (slice_index free (k - 1))

-- The departures, part by part.
abbrev pub served : ℕ → Pace → List ℕ → Rule
served k w free [] = []
served k w free (a ∷ arrivals) =
    let s : ℕ = start k w free a in cut (s + w.stay) ∷ served k w (cut (s + w.turn) ∷ free) arrivals

-- What a station that serves so means, where last is its last arrival.
abbrev pub serving : ℕ → Pace → List ℕ → Option ℕ → Meaning
serving k w free last = record { rule = served k w free; fresh = served k w []; early = before last }

-- A machine on which a part stays for p minutes.
abbrev pub machine : ℕ → Pace
machine p = record { from = λ a. a; turn = p; stay = p }

-- The minute a rounded up to a multiple of t.
abbrev pub round_up : ℕ → ℕ → ℕ
round_up t a = (a + (t - 1)) / t * t

-- An oven of cycle t that bakes a part for p minutes: it starts at multiples of the cycle.
abbrev pub oven : ℕ → ℕ → Pace
oven t p = record { from = round_up t; turn = t; stay = p }
