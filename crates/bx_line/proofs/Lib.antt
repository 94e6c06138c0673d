pub mod MomentLemmas
pub mod Crossings
pub mod Limits
pub mod Chaining
pub mod CliqueLemmas
pub mod CliquesRise
pub mod Shortening
pub mod Spanning
