-- What is noted of some events and then of more is noted of all of them.
use Rattle.std.proofs.Common.{◌≡◌, List, [], ◌∷◌, ◌++◌, Option, refl}
use Rattle.bx_day.specs.declared.outcome.GivenUp.{GivenUp}
use Rattle.bx_events.specs.Events.{LiveEvent}
use Rattle.bx_sales.specs.GivenUps.{noted_by, noted_event}

pub noted_on : (given_up : List (Option GivenUp)) (events more : List LiveEvent) → noted_by given_up (events ++ more) ≡ noted_by (noted_by given_up events) more
noted_on given_up [] more = refl
noted_on given_up (event ∷ events) more = noted_on (noted_event given_up event) events more
