pub mod Run
pub mod Make
pub mod Job
pub mod Messages
