use Rattle.std.specs.Prelude.{◌≡◌, ℕ, List, [], ◌∷◌}
use Rattle.stations.specs.Serving.{served, machine}
use Rattle.controls.specs.declared.events.Event.TheVariants.{Delivery}
use Rattle.controls.specs.Base.{base}
use Rattle.controls.specs.Control.{Meaning}
use Rattle.controls.specs.Extended.{extended}
use Rattle.controls.specs.General.{general}
use Rattle.controls.specs.Times.{Table}
use Rattle.ledger.specs.declared.bookings.Booking.{Booking}
use Rattle.lines.specs.Runs.{Shop, TimesFor}

-- One stage, whose station is a machine of one place and 10 minutes.
abbrev pub one_stage : Meaning → Shop
one_stage C = record { control = C; stages = 1; stations = 1; row = λ i. served 1 (machine 10) [] }

-- A part that is called at that minute.
abbrev pub called : ℕ → Booking
called minute = record { call = minute; due = 999999 }

-- There are times of these parts with these counts, and in all such times the parts are delivered at these minutes.
pub record Delivers (C : Meaning) (K : List ℕ) (book : List Booking) (deliveries : List ℕ) : Type 0 where
  pub some : (t : Table) × TimesFor (one_stage C) book K t
  pub every : (t : Table) → TimesFor (one_stage C) book K t → t Delivery ≡ deliveries

-- Deliveries worked by hand.
abbrev pub LinesByHand : Type 0
LinesByHand =
    Delivers base (0 ∷ []) (called 5 ∷ []) (15 ∷ []) × Delivers base (1 ∷ []) (called 5 ∷ []) (5 ∷ [])
    × Delivers general (1 ∷ (1 ∷ [])) (called 0 ∷ (called 0 ∷ [])) (0 ∷ (10 ∷ []))
    × Delivers extended (0 ∷ (1 ∷ [])) (called 0 ∷ (called 0 ∷ [])) (10 ∷ (20 ∷ []))
