pub mod Names
pub mod Inquiry
