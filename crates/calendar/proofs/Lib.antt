pub mod Refusing
pub mod Weeks
