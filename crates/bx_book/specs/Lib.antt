pub mod Rows
pub mod RowFaults
pub mod Inside
pub mod Texts
pub mod Passed
pub mod Metering
pub mod Streams
pub mod Told
