-- What the days of both ends go through.
use Rattle.std.specs.Prelude.{ℕ, List}
use Rattle.bx_events.specs.declared.amendment.Amendment.{Amendment}
use Rattle.bx_events.specs.declared.rules.Rules.{Rules}

-- what an end goes through on its link: a tick, that is a second which goes by, or octets that come
pub data Event : Type 0 where
  Tick : Event
  Receive : (octets : List ℕ) → Event

-- what a live exchange goes through: an event on its link, a second without one, by these rules, what amends its plan, as a line tells it,
-- by which the day of its last plan does not change, or octets that came to an exchange of the rules 2
pub data LiveEvent : Type 0 where
  OnLink : (event : Event) → LiveEvent
  WithoutLink : (rules : Rules) → LiveEvent
  Amended : (kind : Amendment) → (line : List ℕ) → LiveEvent
  HeardByRulesTwo : (octets : List ℕ) → LiveEvent
