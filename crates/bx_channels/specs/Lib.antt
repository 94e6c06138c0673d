pub mod ChannelNumbers
pub mod Numbers
pub mod NumberInside
pub mod Marks
