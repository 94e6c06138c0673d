pub mod Steps
pub mod Through
pub mod Batches
pub mod Seconds
pub mod Logs
mod WrittenEvents
pub mod LastPlan
mod Totals
mod Eligible
mod AllPromised
mod OwnStays
mod StillThere
mod LeavingSteps
mod Chosen
mod BestBatch
mod Kept
mod KeptStays
mod MovedAway
mod Settled
mod Noted
mod Best
mod PlanDays
mod Untagged
