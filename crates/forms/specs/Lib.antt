pub mod Forms
pub mod Stages
pub mod Reading
pub mod Faults
pub mod Shown
