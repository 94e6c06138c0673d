pub mod Lines
pub mod Gathering
pub mod Writing
pub mod Digits
pub mod Records
pub mod Forms
pub mod Rows
pub mod Inside
