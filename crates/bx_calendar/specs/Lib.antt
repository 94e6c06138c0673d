pub mod Places
pub mod Dates
pub mod Days
pub mod DayParts
pub mod NamedDays
pub mod Clocks
pub mod Times
pub mod Inside
