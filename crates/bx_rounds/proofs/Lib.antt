pub mod Listing
pub mod Passes
pub mod Marking
pub mod Rounding
pub mod RoundSteps
