pub mod Turns
pub mod Replies
pub mod Built
pub mod CallTimes
pub mod Pieces
mod SoldLines
mod Keyings
mod Once
mod FreeSeconds
mod FreeIntervals
mod Rooms
pub mod Deals
