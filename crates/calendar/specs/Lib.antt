pub mod Clock
pub mod Settings
pub mod Week
pub mod WeekRefused
pub mod WeekOf
pub mod WeekLaw
pub mod ByHand
pub mod House
