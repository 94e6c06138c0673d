mod ByRules
mod EveryState
mod Unlinked
pub mod Shifted
