-- The waits that a control told are those of its meaning.
use Rattle.std.proofs.Common.{◌≡◌, ℕ, true, List, map, Option, sym, ap, ◌∙◌, subst}
use Rattle.controls.specs.declared.events.Event.{Event}
use Rattle.controls.specs.declared.events.Wait.{Wait}
use Rattle.controls.specs.Control.{Meaning, Fits, LawfulControl, StepFits}
use Rattle.controls.specs.Events.{SourceIn}
use Rattle.std.specs.List.{AllByRecursion}
use Rattle.controls.specs.Lists.{latest}
use Rattle.controls.specs.Times.{Row, Table, wait_end, Times}
use Rattle.lines.specs.Asked.{asked, Tells}
use Rattle.lines.specs.Order.{Orderly}

pub orderly :
    (C : Meaning) → LawfulControl C → (N : ℕ) (K : List ℕ) → Fits C N K → C.lawful N K ≡ true → (told : List (List (Option Wait)))
    → Tells N (C.waits N K) told → Orderly N told
orderly C laws N K fits lawful told tells =
    let s = laws.steps N K fits lawful in
    record {
      steps = record {
        step = s.step;
        fits = λ e e_in we. subst (AllByRecursion (StepFits s.step e)) (sym (tells.all e e_in)) (s.fits e e_in we);
        done = s.done;
      };
      inside = λ e e_in we. subst (AllByRecursion (SourceIn N)) (sym (tells.all e e_in)) (laws.inside N K fits e e_in we);
      few = tells.few;
    }

pub times_told :
    (N : ℕ) (waits : Event → List Wait) (told : List (List (Option Wait))) → Tells N waits told → (row : Row) (calls : List ℕ) (t : Table)
    → Times N (asked N told) row calls t → Times N waits row calls t
times_told N waits told tells row calls t times = record {
  sized = times.sized;
  waited = λ e e_in we n pos known. times.waited e e_in we n pos known ∙ ap (λ ws. latest (map (wait_end calls t n) ws)) (tells.all e e_in);
  completed = times.completed;
}
