pub mod SumLemmas
pub mod Duality
pub mod Overlaps
pub mod ChannelLists
pub mod Orders
