-- Tables of one stage, and that they are the only ones.
use Rattle.std.proofs.Common.{◌≡◌, ℕ, zero, suc, ◌*◌, ◌≤◌, true, List, [], ◌∷◌, map, length, take, sym, refl, subst, arith}
use Rattle.stations.specs.declared.numbers.StageNo.{StageNo}
use Rattle.stations.specs.Lists.{at}
use Rattle.stations.specs.Rule.{Rising}
use Rattle.stations.specs.Serving.{served, machine}
use Rattle.stations.specs.Serves.{served_lawful, machine_steady}
use Rattle.controls.specs.declared.events.Event.{Event}
use Rattle.controls.specs.declared.events.Event.TheVariants.{Pass, Release, Completion, Delivery}
use Rattle.controls.specs.Base.{base}
use Rattle.controls.specs.Control.{Meaning, LawfulControl}
use Rattle.controls.specs.Events.{IsStage, InLine, Waits}
use Rattle.controls.specs.Extended.{extended}
use Rattle.controls.specs.General.{general}
use Rattle.controls.specs.Lists.{latest}
use Rattle.controls.specs.Stages.{stage}
use Rattle.controls.specs.Times.{Table, wait_end, Times}
use Rattle.controls.specs.BaseLaws.{base_laws}
use Rattle.controls.proofs.Consequences.{unique}
use Rattle.controls.specs.ExtendedLaws.{extended_laws}
use Rattle.controls.specs.GeneralLaws.{general_laws}
use Rattle.ledger.specs.declared.bookings.Booking.{Booking}
use Rattle.lines.specs.Missed.{calls}
use Rattle.line_tests.specs.ByHand.{called, Delivers}

-- the rows of a table of one stage
abbrev pub table : List ℕ → List ℕ → List ℕ → List ℕ → Table
table pass release completion delivery (Pass i) = pass
table pass release completion delivery (Release i) = release
table pass release completion delivery (Completion i) = completion
table pass release completion delivery Delivery = delivery

one : (i : StageNo) → IsStage 1 i → i ≡ stage 1
one i h = λ k. record { 0 = same k }
  where
    same : i.0 ≡ 1
    same = omega arith

-- what holds of stage 1 holds of every stage
at_one : (P : StageNo → Type 0) → P (stage 1) → (i : StageNo) → IsStage 1 i → P i
at_one P p i h = subst P (sym (one i h)) p

-- the event e of part n is at the latest of its waits
abbrev pub Waited : Meaning → List ℕ → List ℕ → Table → Event → ℕ → Type 0
Waited C K cs t e n = at (t e) n ≡ latest (map (wait_end cs t n) (C.waits 1 K e))

-- a table of one stage has the times if its rows do for each part
pub record Right (C : Meaning) (K cs pass release completion delivery : List ℕ) : Type 0 where
  pub sizes : (length pass ≡ length cs) × (length release ≡ length cs) × (length completion ≡ length cs) × (length delivery ≡ length cs)
  pub passes : (n : ℕ) → 1 ≤ n → n ≤ length cs → Waited C K cs (table pass release completion delivery) (Pass (stage 1)) n
  pub releases : (n : ℕ) → 1 ≤ n → n ≤ length cs → Waited C K cs (table pass release completion delivery) (Release (stage 1)) n
  pub deliveries : (n : ℕ) → 1 ≤ n → n ≤ length cs → Waited C K cs (table pass release completion delivery) Delivery n
  pub completions : (n : ℕ) → n ≤ length cs → take n completion ≡ served 1 (machine 10) [] (take n release)

right_times :
    (C : Meaning) (K cs pass release completion delivery : List ℕ) → Right C K cs pass release completion delivery
    → Times 1 (C.waits 1 K) (λ i. served 1 (machine 10) []) cs (table pass release completion delivery)
right_times C K cs pass release completion delivery r = record {
  sized = sized;
  waited = waited;
  completed = λ i i_in n h. r.completions n h;
}
  where
    t : Table
    t = table pass release completion delivery

    sized : (e : Event) → InLine 1 e → length (table pass release completion delivery e) ≡ length cs
    sized (Pass i) h = r.sizes.0
    sized (Release i) h = r.sizes.1
    sized (Completion i) h = r.sizes.2
    sized Delivery h = r.sizes.3

    waited : (e : Event) → InLine 1 e → Waits e → (n : ℕ) → 1 ≤ n → n ≤ length cs → Waited C K cs (table pass release completion delivery) e n
    waited (Pass i) h w n pos le = at_one (λ j. Waited C K cs (table pass release completion delivery) (Pass j) n) (r.passes n pos le) i h
    waited (Release i) h w n pos le = at_one (λ j. Waited C K cs (table pass release completion delivery) (Release j) n) (r.releases n pos le) i h
    waited (Completion i) h w n pos le = absurd w
    waited Delivery h w n pos le = r.deliveries n pos le

pub delivered :
    (C : Meaning) → LawfulControl C → (K : List ℕ) → length K ≡ C.per_stage * 1 → C.lawful 1 K ≡ true → (book : List Booking)
    → Rising 0 (calls book) → (pass release completion delivery : List ℕ) → Right C K (calls book) pass release completion delivery
    → Delivers C K book delivery
delivered C laws K fits lawful book rising pass release completion delivery r =
    let here = right_times C K (calls book) pass release completion delivery r in
    record {
      some = (table pass release completion delivery, here);
      every = λ t times. unique C laws 1 K (λ i. served 1 (machine 10) []) (calls book) t (table pass release completion delivery)
          (record {
            fits = record { stages = omega arith; count = fits };
            lawful = lawful;
            row_lawful = λ i h. served_lawful 1 (machine 10) (machine_steady 10 (omega arith));
            calls_lawful = rising;
          }) times here Delivery tt;
    }

-- one part
only : (P : ℕ → Type 0) → P 1 → (n : ℕ) → 1 ≤ n → n ≤ 1 → P n
only P p zero pos le = absurd (omega arith)
only P p (suc zero) pos le = p
only P p (suc (suc n)) pos le = absurd (omega arith)

-- two parts
two : (P : ℕ → Type 0) → P 1 → P 2 → (n : ℕ) → 1 ≤ n → n ≤ 2 → P n
two P p q zero pos le = absurd (omega arith)
two P p q (suc zero) pos le = p
two P p q (suc (suc zero)) pos le = q
two P p q (suc (suc (suc n))) pos le = absurd (omega arith)

abbrev Departs : List ℕ → List ℕ → ℕ → Type 0
Departs release completion n = take n completion ≡ served 1 (machine 10) [] (take n release)

from_none : (P : ℕ → Type 0) → P 0 → ((n : ℕ) → 1 ≤ n → P n) → (n : ℕ) → P n
from_none P z s zero = z
from_none P z s (suc n) = s (suc n) (omega arith)

rising_one : Rising 0 (5 ∷ [])
rising_one = (omega arith, omega arith, tt)

rising_two : Rising 0 (0 ∷ (0 ∷ []))
rising_two = (omega arith, omega arith, (omega arith, omega arith, tt))

pub base_none : Delivers base (0 ∷ []) (called 5 ∷ []) (15 ∷ [])
base_none =
    delivered base base_laws (0 ∷ []) refl refl (called 5 ∷ []) rising_one (5 ∷ []) (5 ∷ []) (15 ∷ []) (15 ∷ [])
    (record {
      sizes = (refl, refl, refl, refl);
      passes = only _ refl;
      releases = only _ refl;
      deliveries = only _ refl;
      completions = from_none (λ n. n ≤ 1 → Departs (5 ∷ []) (15 ∷ []) n) (λ le. refl) (only (Departs (5 ∷ []) (15 ∷ [])) refl);
    })

pub base_one : Delivers base (1 ∷ []) (called 5 ∷ []) (5 ∷ [])
base_one =
    delivered base base_laws (1 ∷ []) refl refl (called 5 ∷ []) rising_one (5 ∷ []) (5 ∷ []) (15 ∷ []) (5 ∷ [])
    (record {
      sizes = (refl, refl, refl, refl);
      passes = only _ refl;
      releases = only _ refl;
      deliveries = only _ refl;
      completions = from_none (λ n. n ≤ 1 → Departs (5 ∷ []) (15 ∷ []) n) (λ le. refl) (only (Departs (5 ∷ []) (15 ∷ [])) refl);
    })

pub general_two : Delivers general (1 ∷ (1 ∷ [])) (called 0 ∷ (called 0 ∷ [])) (0 ∷ (10 ∷ []))
general_two =
    delivered general general_laws (1 ∷ (1 ∷ [])) refl refl (called 0 ∷ (called 0 ∷ [])) rising_two
    (0 ∷ (10 ∷ [])) (0 ∷ (10 ∷ [])) (10 ∷ (20 ∷ [])) (0 ∷ (10 ∷ [])) (record {
      sizes = (refl, refl, refl, refl);
      passes = two _ refl refl;
      releases = two _ refl refl;
      deliveries = two _ refl refl;
      completions = from_none (λ n. n ≤ 2 → Departs (0 ∷ (10 ∷ [])) (10 ∷ (20 ∷ [])) n) (λ le. refl) (two (Departs (0 ∷ (10 ∷ [])) (10 ∷ (20 ∷ []))) refl refl);
    })

pub extended_two : Delivers extended (0 ∷ (1 ∷ [])) (called 0 ∷ (called 0 ∷ [])) (10 ∷ (20 ∷ []))
extended_two =
    delivered extended extended_laws (0 ∷ (1 ∷ [])) refl refl (called 0 ∷ (called 0 ∷ [])) rising_two
    (0 ∷ (0 ∷ [])) (0 ∷ (10 ∷ [])) (10 ∷ (20 ∷ [])) (10 ∷ (20 ∷ [])) (record {
      sizes = (refl, refl, refl, refl);
      passes = two _ refl refl;
      releases = two _ refl refl;
      deliveries = two _ refl refl;
      completions = from_none (λ n. n ≤ 2 → Departs (0 ∷ (10 ∷ [])) (10 ∷ (20 ∷ [])) n) (λ le. refl) (two (Departs (0 ∷ (10 ∷ [])) (10 ∷ (20 ∷ []))) refl refl);
    })
