pub mod Ended
pub mod Held
