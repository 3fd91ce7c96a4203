pub mod Faults
pub mod Bookings
pub mod Counts
