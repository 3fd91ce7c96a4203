use Rattle.std.specs.Prelude.{List}
use Rattle.ledger.specs.declared.bookings.Booking.{Booking}
use Rattle.lines.specs.declared.parts.Part.{Part}

-- The bookings of the book that a part stands in.
abbrev pub bookings : Part → List Booking
bookings part = part.book.now.parts.items
