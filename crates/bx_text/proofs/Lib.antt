pub mod GatheringSteps
pub mod DigitSteps
mod Prefixes
pub mod MemberSteps
