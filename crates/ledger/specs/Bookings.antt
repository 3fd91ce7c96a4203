use Rattle.std.specs.Prelude.{ℕ, ◌-◌, if◌then◌else◌, ◌||◌, List, [], ◌∷◌, ◌++◌, length, take, Ok, Err, Result, ◌==◌, nat_le, nat_lt, slice_index_or}
use Rattle.calendar.specs.Clock.{E}
use Rattle.ledger.specs.declared.bookings.Booking.{Booking}
use Rattle.ledger.specs.declared.faults.BookFault.{BookFault}
use Rattle.ledger.specs.declared.faults.BookFault.TheVariants.{Full, Due, CallOrder, Empty}

-- The call of the last booking, 0 of an empty book.
abbrev pub last_call : List Booking → ℕ
last_call bs = (slice_index_or bs (length bs - 1) (record { call = 0; due = 0 })).call

-- What booking a part answers: the first refusal whose condition holds, if any.
abbrev pub booked : List Booking → ℕ → ℕ → Result Unit BookFault
booked bs call due =
    if nat_le 128 (length bs) then Err Full
    else if nat_le E due || nat_lt due call then Err Due
    else if nat_lt call (last_call bs) then Err CallOrder
    else Ok tt

-- The bookings after it: granted, the part is the last one.
abbrev pub with_booking : Result Unit BookFault → List Booking → ℕ → ℕ → List Booking
with_booking (Ok u) bs call due = bs ++ (record { call = call; due = due } ∷ [])
with_booking (Err e) bs call due = bs

-- What withdrawing the last booking answers, and the bookings after it.
abbrev pub withdrawn : List Booking → Result Unit BookFault
withdrawn bs = if length bs == 0 then Err Empty else Ok tt

abbrev pub without_last : List Booking → List Booking
without_last bs = take (length bs - 1) bs
