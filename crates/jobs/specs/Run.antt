use Rattle.std.specs.Prelude.{◌≡◌, ℕ, List, [], ◌∷◌, ◌++◌, Some, None, Ok, Err, Option}
use Rattle.arrivals.specs.declared.lines.Entry.{Entry}
use Rattle.arrivals.specs.declared.lines.Entry.TheVariants.{Arrive, Fresh}
use Rattle.stations.specs.Load.{number, refusal, Loaded}
use Rattle.stations.specs.Rule.{Rule, Meaning, before, freshened}
use Rattle.jobs.specs.declared.answers.Answer.{Answer}
use Rattle.jobs.specs.declared.answers.Answer.TheVariants.{Leaves, Refused, Freshened}

-- What one entry makes of a station that means m, and how it is answered.
abbrev pub Step : Meaning → Entry → Answer → Meaning → Type 0
Step m (Arrive a) (Leaves b d) m' = (b ≡ a) × Loaded m a (Ok d) m'
Step m (Arrive a) (Refused b e) m' = (b ≡ a) × Loaded m a (Err e) m'
Step m (Arrive a) Freshened m' = ⊥
Step m Fresh (Leaves b d) m' = ⊥
Step m Fresh (Refused b e) m' = ⊥
Step m Fresh Freshened m' = m' ≡ freshened m

-- What the entries of a list, done one after the other, make of a station that means m.
abbrev pub Worked : Meaning → List Entry → List Answer → Meaning → Type 0
Worked m [] [] m' = m' ≡ m
Worked m [] (x ∷ xs) m' = ⊥
Worked m (e ∷ es) [] m' = ⊥
Worked m (e ∷ es) (x ∷ xs) m' = (n : Meaning) × (Step m e x n × Worked n es xs m')

-- How the entries of a list are answered by a station with that fresh rule, which since it was fresh has granted the arrivals
-- of granted, the last of them last. An arrival past the end of the clock or before the last is refused; any other leaves
-- as the fresh rule has it for the arrivals granted and this one. After fresh no arrival has been granted.
abbrev pub Answered : Rule → List ℕ → Option ℕ → List Entry → List Answer → Type 0
Answered rule granted last [] [] = Unit {0}
Answered rule granted last [] (x ∷ xs) = ⊥
Answered rule granted last (Arrive a ∷ es) [] = ⊥
Answered rule granted last (Arrive a ∷ es) (Leaves b d ∷ xs) =
    (b ≡ a) × (refusal (before last) a ≡ None) × (rule (granted ++ (a ∷ [])) ≡ rule granted ++ (d ∷ []))
    × Answered rule (granted ++ (a ∷ [])) (Some a) es xs
Answered rule granted last (Arrive a ∷ es) (Refused b e ∷ xs) =
    (b ≡ a) × (refusal (before last) a ≡ Some (number e)) × Answered rule granted last es xs
Answered rule granted last (Arrive a ∷ es) (Freshened ∷ xs) = ⊥
Answered rule granted last (Fresh ∷ es) [] = ⊥
Answered rule granted last (Fresh ∷ es) (Leaves b d ∷ xs) = ⊥
Answered rule granted last (Fresh ∷ es) (Refused b e ∷ xs) = ⊥
Answered rule granted last (Fresh ∷ es) (Freshened ∷ xs) = Answered rule [] None es xs
