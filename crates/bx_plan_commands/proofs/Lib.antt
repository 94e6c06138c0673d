pub mod CallTimes
pub mod Fewer
pub mod Refusals
mod Readings
mod NotedRows
mod FoundEnds
mod NamedDays
mod SecondHalves
mod Drawing
