pub mod Frames
pub mod Reading
pub mod Writing
pub mod Inside
pub mod Courses
pub mod Talks
pub mod Heard
