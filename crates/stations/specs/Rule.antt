use Rattle.std.specs.Prelude.{◌≡◌, ℕ, ◌<◌, ◌≤◌, Bool, false, ◌⊎◌, List, [], ◌∷◌, length, take, Some, None, Option, nat_lt}
use Rattle.calendar.specs.Clock.{E}

-- A rule gives the departures for each list of further arrivals.
abbrev pub Rule : Type 0
Rule = List ℕ → List ℕ

-- No minute is earlier than low or than the one before it, and none is past the end of the clock.
abbrev pub Rising : ℕ → List ℕ → Type 0
Rising low [] = Unit {0}
Rising low (a ∷ arrivals) = (low ≤ a) × (a ≤ E) × Rising a arrivals

-- Each minute of the first list is at or below the one in its place in the second.
abbrev pub Below : List ℕ → List ℕ → Type 0
Below [] bs = Unit {0}
Below (a ∷ arrivals) [] = ⊥
Below (a ∷ arrivals) (b ∷ bs) = (a ≤ b) × Below arrivals bs

-- Each departure is later than its arrival, or is the end of the clock.
abbrev pub Later : List ℕ → List ℕ → Type 0
Later [] ds = Unit {0}
Later (a ∷ arrivals) [] = ⊥
Later (a ∷ arrivals) (d ∷ ds) = ((a < d) ⊎ (d ≡ E)) × Later arrivals ds

-- The laws of a lawful station, on its fresh rule and the arrivals that it grants: departures never fall and are on the clock,
-- there is one for each arrival, it is later than its arrival or at the end, it depends on no later arrival, and
-- arrivals nowhere earlier give departures nowhere earlier.
pub record Lawful (fresh : Rule) : Type 0 where
  pub in_order : (arrivals : List ℕ) → Rising 0 arrivals → Rising 0 (fresh arrivals)
  pub one_each : (arrivals : List ℕ) → Rising 0 arrivals → length (fresh arrivals) ≡ length arrivals
  pub later : (arrivals : List ℕ) → Rising 0 arrivals → Later arrivals (fresh arrivals)
  pub causal : (arrivals : List ℕ) (n : ℕ) → Rising 0 arrivals → take n (fresh arrivals) ≡ fresh (take n arrivals)
  pub monotone :
      (arrivals later : List ℕ) → length arrivals ≡ length later → Rising 0 arrivals → Rising 0 later → Below arrivals later
      → Below (fresh arrivals) (fresh later)

-- The arrivals before the last one.
abbrev pub before : Option ℕ → ℕ → Bool
before None a = false
before (Some last) a = nat_lt a last

-- What a station means: the rule for the arrivals to come, the rule that fresh makes it, and which arrivals come too early.
pub record Meaning : Type 0 where
  pub rule : Rule
  pub fresh : Rule
  pub early : ℕ → Bool

-- A station that was freshened: its rule is the fresh one, and no arrival comes too early.
abbrev pub freshened : Meaning → Meaning
freshened m = record { rule = m.fresh; fresh = m.fresh; early = before None }
