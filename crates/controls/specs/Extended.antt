use Rattle.std.specs.Prelude.{ℕ, ◌+◌, Bool, List, [], ◌∷◌, nat_le}
use Rattle.stations.specs.declared.numbers.StageNo.{StageNo}
use Rattle.stations.specs.Lists.{at}
use Rattle.controls.specs.declared.events.Wait.{Wait}
use Rattle.controls.specs.declared.events.Wait.TheVariants.{Call, After}
use Rattle.controls.specs.Control.{Meaning}
use Rattle.controls.specs.Stages.{on_call, staged, next_release, every}

-- Stage i has a card, in stock or spare.
abbrev pub has_card : ℕ → List ℕ → ℕ → Bool
has_card N K i = nat_le 1 (at K i + at K (N + i))

-- Release i waits on the call and on release i + 1 with lag F(i).
abbrev pub extended_release : ℕ → List ℕ → StageNo → List Wait
extended_release N K i = Call ∷ (After (next_release N i) (at K (N + i.0)) ∷ [])

-- Extended kanban, with the counts S1..SN, F1..FN: pass i waits on the call. Every S + F is 1 or more.
abbrev pub extended : Meaning
extended =
    record { per_stage = 2; lawful = λ N K. every (has_card N K) N; waits = λ N K. staged on_call (extended_release N K) N K }
