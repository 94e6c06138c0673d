pub mod Nearness
pub mod Frontier
pub mod Searching
