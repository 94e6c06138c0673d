pub mod Places
pub mod Beside
pub mod Keeping
mod Still
pub mod GoneOn
pub mod PlanDays
mod Told
mod Changes
pub mod Fitting
pub mod Rows
pub mod LeftOver
pub mod Journal
mod OneDay
mod Tags
mod RowLines
mod RowChanges
mod Again
mod FoundBeside
pub mod InTurn
pub mod Noting
