mod Counted
pub mod Standing
pub mod GivenNumbers
pub mod KeptSums
pub mod Entered
pub mod Quiet
