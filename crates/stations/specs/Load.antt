use Rattle.std.specs.Prelude.{◌≡◌, ℕ, Bool, cond, codes, List, ◌∷◌, Some, None, Ok, Err, Option, Result, nat_lt}
use Rattle.calendar.specs.Clock.{E}
use Rattle.stations.specs.Rule.{Meaning, Rising, before}
use Rattle.stations.specs.declared.loading.LoadFault.{LoadFault}
use Rattle.stations.specs.declared.loading.LoadFault.TheVariants.{PastEnd, OutOfOrder}

-- Refusal 3 is an arrival past the end of the clock, refusal 4 one before the last arrival. They carry no value.
abbrev pub number : LoadFault → ℕ
number PastEnd = 3
number OutOfOrder = 4

-- Why a load is refused, in words.
abbrev pub load_reason : LoadFault → List ℕ
load_reason PastEnd = codes "past the end of the clock"
load_reason OutOfOrder = codes "before the last arrival"

-- The number that refuses a load of a, if any: 3 is tried first. Early tells which arrivals come too early.
abbrev pub refusal : (ℕ → Bool) → ℕ → Option ℕ
refusal early a = cond (nat_lt E a) (Some 3) (cond (early a) (Some 4) None)

-- What a load of a answers, r, and makes of a station that meant m. Granted, it answers the rule's first departure and leaves
-- the rule that remains; from then on what is before a comes too early. A refusal changes nothing, and neither ever
-- changes the fresh rule.
abbrev pub Loaded : Meaning → ℕ → Result ℕ LoadFault → Meaning → Type 0
Loaded m a (Ok d) m' =
    (refusal m.early a ≡ None) × (m'.early ≡ before (Some a)) × (m'.fresh ≡ m.fresh)
    × ((arrivals : List ℕ) → Rising a arrivals → m.rule (a ∷ arrivals) ≡ d ∷ m'.rule arrivals)
Loaded m a (Err e) m' = (refusal m.early a ≡ Some (number e)) × (m' ≡ m)
