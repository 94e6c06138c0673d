pub mod Results
pub mod NoOutput
pub mod Unkept
pub mod Going
mod ReadyJournals
