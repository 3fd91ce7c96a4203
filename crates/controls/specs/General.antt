use Rattle.std.specs.Prelude.{ℕ, ◌+◌, if◌then◌else◌, List, [], ◌∷◌, nat_lt}
use Rattle.stations.specs.declared.numbers.StageNo.{StageNo}
use Rattle.stations.specs.Lists.{at}
use Rattle.controls.specs.declared.events.Event.TheVariants.{Pass, Completion}
use Rattle.controls.specs.declared.events.Wait.{Wait}
use Rattle.controls.specs.declared.events.Wait.TheVariants.{Call, After}
use Rattle.controls.specs.Control.{Meaning}
use Rattle.controls.specs.Stages.{stage, staged, carded}

-- Pass i waits on pass i + 1 of the same part, pass N on the call.
abbrev pub next_pass : ℕ → StageNo → Wait
next_pass N i = if nat_lt i.0 N then After (Pass (stage (i.0 + 1))) 0 else Call

-- Pass i waits besides on completion i with lag K(i).
abbrev pub general_pass : ℕ → List ℕ → StageNo → List Wait
general_pass N K i = next_pass N i ∷ (After (Completion i) (at K (N + i.0)) ∷ [])

-- Release i waits on pass i of the same part.
abbrev pub general_release : StageNo → List Wait
general_release i = After (Pass i) 0 ∷ []

-- Generalized kanban, with the counts S1..SN, K1..KN. Every K is 1 or more.
abbrev pub general : Meaning
general =
    record { per_stage = 2; lawful = λ N K. carded N K N; waits = λ N K. staged (general_pass N K) general_release N K }
