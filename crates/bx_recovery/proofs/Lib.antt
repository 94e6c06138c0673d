pub mod KnownText
pub mod Replays
