pub mod Read
pub mod Spelled
pub mod Ended
pub mod Listed
