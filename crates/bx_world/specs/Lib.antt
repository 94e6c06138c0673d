pub mod Kept
pub mod Peers
pub mod Rehearsals
pub mod BothEnds
pub mod Captures
pub mod Laws
