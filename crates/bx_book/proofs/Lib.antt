pub mod RowFaults
mod Passing
mod Streams
