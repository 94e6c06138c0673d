pub mod Plains
pub mod Clears
pub mod Joined
pub mod Lanes
