pub mod ScriptFaults
pub mod Seats
pub mod Keeping
pub mod Kept
pub mod Passing
pub mod Standstill
pub mod LiveReceipts
pub mod AtOnce
