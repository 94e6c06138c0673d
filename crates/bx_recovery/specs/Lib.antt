pub mod Days
pub mod Recovered
