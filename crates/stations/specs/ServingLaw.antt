use Rattle.std.specs.Prelude.{◌≡◌, ℕ, ◌+◌, ◌-◌, ◌%◌, ◌<◌, ◌≤◌, max, cond, List, length, nat_lt}
use Rattle.calendar.specs.Clock.{cut}
use Rattle.stations.specs.Lists.{at}
use Rattle.stations.specs.Rule.{Rule}
use Rattle.stations.specs.Serving.{round_up}

-- Of a machine of k places and p minutes each part leaves p minutes after the later of its arrival and the departure k parts
-- before, cut to the end; the first k parts have no departure before them.
abbrev pub LeavesInTurn : ℕ → ℕ → Rule → Type 0
LeavesInTurn k p rule =
    (arrivals : List ℕ) (n : ℕ) → 1 ≤ n → n ≤ length arrivals
    → at (rule arrivals) n ≡ cut (max (at arrivals n) (at (rule arrivals) (n - k)) + p)

-- The minute u is a rounded up to a multiple of t: the least multiple at or after a.
pub record RoundedUp (t a u : ℕ) : Type 0 where
  pub multiple : u % t ≡ 0
  pub not_before : a ≤ u
  pub least : u < a + t

-- Of an oven of cycle t, b places and p minutes of baking each part has a start: the later of its arrival, rounded up to a
-- multiple of the cycle, and, for all but the first b parts, the start b parts before plus the cycle, cut to the end. It
-- leaves p minutes after its start, cut to the end.
pub record Starts (t b p : ℕ) (arrivals departures starts : List ℕ) : Type 0 where
  pub one_each : length starts ≡ length arrivals
  pub in_turn :
      (n : ℕ) → 1 ≤ n → n ≤ length arrivals
      → at starts n ≡ cut (max (round_up t (at arrivals n)) (cond (nat_lt b n) (at starts (n - b) + t) 0))
  pub leaves : (n : ℕ) → 1 ≤ n → n ≤ length arrivals → at departures n ≡ cut (at starts n + p)

abbrev pub StartsInTurn : ℕ → ℕ → ℕ → Rule → Type 0
StartsInTurn t b p rule =
    ((a : ℕ) → RoundedUp t a (round_up t a)) × ((arrivals : List ℕ) → (starts : List ℕ) × Starts t b p arrivals (rule arrivals) starts)
