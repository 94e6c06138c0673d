pub mod Kept
pub mod Losing
pub mod Putting
