pub mod Proved
pub mod Refusals
pub mod MessageLines
pub mod Decoding
pub mod Inside
pub mod PlanFiles
pub mod Inputs
