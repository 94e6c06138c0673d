pub mod Stepping
pub mod Never
pub mod Apart
pub mod Seconds
pub mod Joining
pub mod Alive
pub mod NearEnd
