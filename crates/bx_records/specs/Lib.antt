pub mod Records
pub mod Totals
pub mod Tallies
pub mod Writing
pub mod Inside
