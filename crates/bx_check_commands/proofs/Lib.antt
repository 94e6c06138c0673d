pub mod Judging
pub mod Unread
pub mod Options
pub mod Named
