pub mod ExchangeTurns
pub mod BothEnds
