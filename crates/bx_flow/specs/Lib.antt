pub mod Costs
pub mod Shorter
