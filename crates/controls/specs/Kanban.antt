use Rattle.std.specs.Prelude.{ℕ, List, [], ◌∷◌}
use Rattle.stations.specs.declared.numbers.StageNo.{StageNo}
use Rattle.controls.specs.declared.events.Wait.{Wait}
use Rattle.controls.specs.declared.events.Wait.TheVariants.{After}
use Rattle.controls.specs.Control.{Meaning}
use Rattle.controls.specs.Stages.{on_call, staged, next_release, carded}

-- Release i waits on release i + 1 of the same part.
abbrev pub kanban_release : ℕ → StageNo → List Wait
kanban_release N i = After (next_release N i) 0 ∷ []

-- Kanban, with the counts K1..KN, which are the stocks too: pass i waits on the call. Every K is 1 or more.
abbrev pub kanban : Meaning
kanban = record { per_stage = 1; lawful = λ N K. carded 0 K N; waits = λ N K. staged on_call (kanban_release N) N K }
