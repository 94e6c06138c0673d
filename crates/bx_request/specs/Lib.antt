pub mod Uses
pub mod Locations
