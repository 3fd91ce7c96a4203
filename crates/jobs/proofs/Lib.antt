pub mod Answering
pub mod Stationing
