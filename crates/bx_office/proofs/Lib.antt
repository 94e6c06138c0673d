pub mod Cuts
pub mod HeadFields
pub mod Verdicts
mod BodyReads
pub mod Taken
pub mod Sent
