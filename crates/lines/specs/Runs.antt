use Rattle.std.specs.Prelude.{◌≡◌, ℕ, ◌*◌, ◌<◌, Bool, false, ◌⊎◌, List, [], ◌∷◌, length, drop, Ok, Err, Option, Result}
use Rattle.stations.specs.declared.numbers.PartNo.{PartNo}
use Rattle.stations.specs.Rule.{Below, Meaning as Station}
use Rattle.controls.specs.declared.events.Event.TheVariants.{Release, Delivery}
use Rattle.controls.specs.Control.{Rise, Meaning as Controls}
use Rattle.controls.specs.Times.{Row, Table, Times}
use Rattle.ledger.specs.declared.bookings.Booking.{Booking}
use Rattle.lines.specs.declared.faults.LineFault.{LineFault}
use Rattle.lines.specs.Faults.{line_number}
use Rattle.lines.specs.Missed.{calls, FirstMissed, how_many_missed}
use Rattle.lines.specs.Refusals.{Conditions, RefusedBy, NoneHolds}
use Rattle.lines.specs.Sheet.{rows, room}
use Rattle.lines.specs.Stations.{fresh_rules, RowLoadedWith}

-- What no call on a line changes: what its control tells, the number of its stages, how many stations its row has, and their
-- fresh rules.
pub record Shop : Type 0 where
  pub control : Controls
  pub stages : ℕ
  pub stations : ℕ
  pub row : Row

-- The line of a control, so many stages and a row that means ms.
abbrev pub shop_of : Controls → ℕ → List Station → Shop
shop_of C N ms = record { control = C; stages = N; stations = length ms; row = fresh_rules ms }

-- Whether the line can work with the counts.
abbrev pub lawful : Shop → List ℕ → Bool
lawful shop K = shop.control.lawful shop.stages K

-- The table has the times of the booked parts for the counts K, from fresh stations.
abbrev pub TimesFor : Shop → List Booking → List ℕ → Table → Type 0
TimesFor shop book K t = Times shop.stages (shop.control.waits shop.stages K) shop.row (calls book) t

-- The delivery row of a sheet.
abbrev pub deliveries : Shop → List Booking → List ℕ → List ℕ
deliveries shop book sheet = rows shop.stages (length book) sheet Delivery

-- The rows of the sheet became the times for the counts K, and no other number was touched.
pub record Wrote (shop : Shop) (book : List Booking) (K sheet sheet' : List ℕ) : Type 0 where
  pub times : TimesFor shop book K (rows shop.stages (length book) sheet')
  pub as_long : length sheet' ≡ length sheet
  pub others : drop (room shop.stages (length book)) sheet' ≡ drop (room shop.stages (length book)) sheet

-- The stages are not 1 to 8, or more than there are stations.
abbrev pub NoLine : ℕ → ℕ → Type 0
NoLine stages stations = (stages < 1) ⊎ ((8 < stages) ⊎ (stations < stages))

-- There are not as many counts as the control has for the line.
abbrev pub Misfit : Shop → List ℕ → Type 0
Misfit shop K = length K ≡ shop.control.per_stage * shop.stages → ⊥

-- What refuses a run of so many parts with the counts K on a sheet of so many numbers.
abbrev pub against_run : Shop → ℕ → List ℕ → ℕ → Conditions
against_run shop parts K size =
    (5, NoLine shop.stages shop.stations)
    ∷ ((11, Misfit shop K) ∷ ((12, lawful shop K ≡ false) ∷ ((13, size < room shop.stages parts) ∷ [])))

-- What a run of the booked parts with the counts K answers, and makes of the sheet and of the row. Granted, it answers how many
-- parts are missed and the first of them; the sheet has the times, and the row is loaded with the sheet's releases. Refused, it
-- changes nothing.
abbrev pub Ran :
    Shop → List Booking → List ℕ → List ℕ → List Station → Result (ℕ × Option PartNo) LineFault → List ℕ → List Station → Type 0
Ran shop book K sheet ms (Ok a) sheet' ms' =
    NoneHolds (against_run shop (length book) K (length sheet)) × Wrote shop book K sheet sheet'
    × (a.0 ≡ how_many_missed book (deliveries shop book sheet')) × FirstMissed book (deliveries shop book sheet') a.1
    × RowLoadedWith shop.stages (λ i. rows shop.stages (length book) sheet' (Release i)) ms ms'
Ran shop book K sheet ms (Err f) sheet' ms' =
    RefusedBy (against_run shop (length book) K (length sheet)) (line_number f) × (sheet' ≡ sheet) × (ms' ≡ ms)

-- Of two granted runs with equal bookings, the one with nowhere fewer cards delivers no part later, by the delivery rows that the
-- two wrote: this run, which wrote the sheet with the counts K, beside any other.
abbrev pub MoreCardsNothingLater : Shop → List Booking → List ℕ → Result (ℕ × Option PartNo) LineFault → List ℕ → Type 0
MoreCardsNothingLater shop book K (Ok a) sheet' =
    (L other other' : List ℕ) (ms ms' : List Station) (b : ℕ × Option PartNo) → Ran shop book L other ms (Ok b) other' ms'
    → (Rise K L → Below (deliveries shop book other') (deliveries shop book sheet'))
    × (Rise L K → Below (deliveries shop book sheet') (deliveries shop book other'))
MoreCardsNothingLater shop book K (Err f) sheet' = Unit
