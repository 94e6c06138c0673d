pub mod Talking
pub mod Hearing
pub mod Days
pub mod BothEnds
pub mod Sessions
pub mod Kept
pub mod TalkingInside
