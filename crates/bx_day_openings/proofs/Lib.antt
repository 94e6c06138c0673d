pub mod LastTurns
mod Scripts
mod Recordings
mod Texts
pub mod ToldJournals
pub mod Replays
mod FollowedEvents
mod DayFaults
mod Takeovers
