-- What a run keeps while it works the parts out.
use Rattle.std.specs.Prelude.{◌≡◌, ℕ, suc, ◌<◌, ◌≤◌, Bool, true, cond, ◌⊎◌, List, length, take, drop, Some, None, Option}
use Rattle.stations.specs.declared.numbers.StageNo.{StageNo}
use Rattle.stations.specs.Rule.{Meaning as Station}
use Rattle.controls.specs.declared.events.Event.{Event}
use Rattle.controls.specs.declared.events.Event.TheVariants.{Release, Completion}
use Rattle.controls.specs.declared.events.Wait.{Wait}
use Rattle.controls.specs.Events.{IsStage}
use Rattle.controls.specs.Times.{Table, LawfulRow, wait_end, TimesOf}
use Rattle.ledger.specs.declared.bookings.Booking.{Booking}
use Rattle.lines.specs.declared.plans.Plan.{Plan}
use Rattle.lines.specs.Missed.{calls}
use Rattle.lines.specs.Order.{among}
use Rattle.lines.specs.Sheet.{rows, room}
use Rattle.lines.specs.Tables.{table_waits}
use Rattle.lines.specs.Stations.{station, fresh_rules, LoadedWith}

-- The minute that a wait of part n ends, 0 where there is no wait.
abbrev pub told_end : List ℕ → Table → ℕ → Option Wait → ℕ
told_end called t n None = 0
told_end called t n (Some w) = wait_end called t n w

-- The run began with fresh stations that mean begun and with the sheet first; m parts are done, and of part m + 1 the events p.
pub record Running
    (N : ℕ) (waits : Event → List Wait) (begun : List Station) (called first : List ℕ) (m : ℕ) (p : Event → Bool)
    (sheet : List ℕ) (ms : List Station) : Type 0 where
  pub lawful : LawfulRow N (fresh_rules begun)
  pub enough : N ≤ length begun
  pub times : TimesOf (λ e n. (n ≤ m) ⊎ ((n ≡ suc m) × (p e ≡ true))) N waits (fresh_rules begun) called (rows N (length called) sheet)
  pub as_long : length sheet ≡ length first
  pub others : drop (room N (length called)) sheet ≡ drop (room N (length called)) first
  pub stations : length ms ≡ length begun
  pub loaded :
      (i : StageNo) → IsStage N i
      → LoadedWith (fresh_rules begun i) (take (cond (p (Completion i)) (suc m) m) (rows N (length called) sheet (Release i))) (station ms i)
  pub idle : (i : StageNo) → N < i.0 → station ms i ≡ station begun i

-- The waits of a plan.
abbrev pub plan_waits : Plan → Event → List Wait
plan_waits plan = table_waits plan.table.now

-- The first k events of a plan.
abbrev pub placed : Plan → ℕ → Event → Bool
placed plan k = among plan.table.now.stages.count (take k plan.events.items)

-- The same of a plan and the booked parts.
abbrev pub Reached : Plan → List Booking → List Station → List ℕ → ℕ → (Event → Bool) → List ℕ → List Station → Type 0
Reached plan book begun first m p sheet ms = Running plan.table.now.stages.count (plan_waits plan) begun (calls book) first m p sheet ms

-- Whatever the run began with, if it had come to m and p with the sheet and the row as they were, it has come to m' and q with
-- them as they are.
abbrev pub Advances :
    Plan → List Booking → ℕ → (Event → Bool) → List ℕ → List Station → ℕ → (Event → Bool) → List ℕ → List Station → Type 0
Advances plan book m p sheet ms m' q sheet' ms' =
    (begun : List Station) (first : List ℕ) → Reached plan book begun first m p sheet ms → Reached plan book begun first m' q sheet' ms'
