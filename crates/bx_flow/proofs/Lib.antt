pub mod Falls
pub mod Certificate
pub mod Depth
pub mod First
pub mod WholeLine
