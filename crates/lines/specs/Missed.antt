use Rattle.std.specs.Prelude.{ℕ, ◌-◌, ◌<◌, ◌≤◌, List, map, length, Some, None, Option, nat_lt}
use Rattle.std.specs.List.{zip, count_by}
use Rattle.stations.specs.declared.numbers.PartNo.{PartNo}
use Rattle.stations.specs.Lists.{at}
use Rattle.ledger.specs.declared.bookings.Booking.{Booking}

-- The calls and the due minutes of the booked parts.
abbrev pub calls : List Booking → List ℕ
calls = map (λ b. b.call)

abbrev pub dues : List Booking → List ℕ
dues = map (λ b. b.due)

-- Part n is missed if its delivery is later than its due minute.
abbrev pub IsMissed : List Booking → List ℕ → ℕ → Type 0
IsMissed book deliveries n = at (dues book) n < at deliveries n

-- None of the first m parts is missed.
abbrev pub NoneMissed : ℕ → List Booking → List ℕ → Type 0
NoneMissed m book deliveries = (n : ℕ) → n ≤ m → at deliveries n ≤ at (dues book) n

-- The first missed part, or none.
abbrev pub FirstMissed : List Booking → List ℕ → Option PartNo → Type 0
FirstMissed book deliveries None = NoneMissed (length book) book deliveries
FirstMissed book deliveries (Some p) =
    (1 ≤ p.0) × (p.0 ≤ length book) × IsMissed book deliveries p.0 × NoneMissed (p.0 - 1) book deliveries

-- How many parts are missed.
abbrev pub how_many_missed : List Booking → List ℕ → ℕ
how_many_missed book deliveries = count_by (λ part. nat_lt part.0.due part.1) (zip book deliveries)
