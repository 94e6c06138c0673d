pub mod Sound
pub mod Rising
pub mod Before
pub mod One
pub mod SeatLemmas
