mod ToldDays
mod Refusals
mod LineRuns
mod ToldLines
pub mod KeptDays
