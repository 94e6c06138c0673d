pub mod Residual
pub mod Inside
pub mod Walks
pub mod Sending
pub mod Search
pub mod Tight
pub mod Passing
pub mod Fitting
