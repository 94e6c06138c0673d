pub mod Midnights
pub mod Seconds
pub mod Shown
