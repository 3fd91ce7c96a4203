use Rattle.std.specs.Prelude.{ℕ, zero, suc, List, ◌++◌, codes, decimal}
use Rattle.controls.specs.declared.events.Event.{Event}
use Rattle.controls.specs.declared.events.Event.TheVariants.{Pass, Release, Completion, Delivery}
use Rattle.controls.specs.declared.events.Wait.{Wait}
use Rattle.controls.specs.declared.events.Wait.TheVariants.{Call, After}

-- An event in plain words.
abbrev pub event_words : Event → List ℕ
event_words (Pass i) = codes "pass " ++ decimal i.0
event_words (Release i) = codes "release " ++ decimal i.0
event_words (Completion i) = codes "completion " ++ decimal i.0
event_words Delivery = codes "the delivery"

-- A wait in plain words.
abbrev pub wait_words : Wait → List ℕ
wait_words Call = codes "the call"
wait_words (After source zero) = event_words source
wait_words (After source (suc l)) = event_words source ++ (codes " of the part " ++ (decimal (suc l) ++ codes " before"))
