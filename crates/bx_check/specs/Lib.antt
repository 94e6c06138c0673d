pub mod Before
pub mod Check
pub mod Seats
pub mod Faults
