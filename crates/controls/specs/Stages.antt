use Rattle.std.specs.Prelude.{ℕ, zero, suc, ◌+◌, Bool, if◌then◌else◌, ◌&&◌, List, [], ◌∷◌, ◌++◌, nat_le, nat_lt}
use Rattle.std.specs.List.{list_all, range_with_len}
use Rattle.stations.specs.declared.numbers.StageNo.{StageNo}
use Rattle.stations.specs.Lists.{at}
use Rattle.controls.specs.declared.events.Event.{Event}
use Rattle.controls.specs.declared.events.Event.TheVariants.{Pass, Release, Completion, Delivery}
use Rattle.controls.specs.declared.events.Wait.{Wait}
use Rattle.controls.specs.declared.events.Wait.TheVariants.{Call, After}

-- Stage i.
abbrev pub stage : ℕ → StageNo
stage i = record { 0 = i }

-- Whether a line of N stages has the stage.
abbrev pub is_stage : ℕ → StageNo → Bool
is_stage N i = nat_le 1 i.0 && nat_le i.0 N

-- The waits of an event of stage i, none where the line has no such stage.
abbrev pub at_stage : ℕ → StageNo → List Wait → List Wait
at_stage N i ws = if is_stage N i then ws else []

-- An event of a stage that waits on the call alone.
abbrev pub on_call : StageNo → List Wait
on_call i = Call ∷ []

-- Release i waits on completion i − 1 with lag S(i − 1), not so at stage 1. The stocks S are the first counts of every control.
abbrev pub before : List ℕ → ℕ → List Wait
before K zero = []
before K (suc zero) = []
before K (suc (suc p)) = After (Completion (stage (suc p))) (at K (suc p)) ∷ []

-- The delivery waits on the call and on completion N with lag S(N).
abbrev pub delivery : ℕ → List ℕ → List Wait
delivery N K = Call ∷ (After (Completion (stage N)) (at K N) ∷ [])

-- The waits of a control that gives those of pass i, and those of release i ahead of its wait on completion i − 1.
abbrev pub staged : (StageNo → List Wait) → (StageNo → List Wait) → ℕ → List ℕ → Event → List Wait
staged pass release N K (Pass i) = at_stage N i (pass i)
staged pass release N K (Release i) = at_stage N i (release i ++ before K i.0)
staged pass release N K (Completion i) = []
staged pass release N K Delivery = delivery N K

-- Release i + 1, after release N the delivery.
abbrev pub next_release : ℕ → StageNo → Event
next_release N i = if nat_lt i.0 N then Release (stage (i.0 + 1)) else Delivery

-- The test holds of stages 1 to n.
abbrev pub every : (ℕ → Bool) → ℕ → Bool
every test n = list_all test (range_with_len 1 n)

-- Each of the n counts that follow the first so many is 1 or more.
abbrev pub carded : ℕ → List ℕ → ℕ → Bool
carded first K n = every (λ i. nat_le 1 (at K (first + i))) n
