pub mod Network
pub mod Moments
pub mod Flows
pub mod ByPlace
pub mod Cliques
