pub mod Packets
pub mod Starts
pub mod Captures
pub mod Keeping
pub mod Ends
