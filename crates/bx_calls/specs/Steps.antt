-- Steps of a call, by what they say.
use Rattle.std.specs.Prelude.{Option, None}
use Rattle.bx_q931.specs.Outgoing.{Outgoing}
use Rattle.bx_calls.specs.declared.transition.Transition.{Transition}
use Rattle.bx_calls.specs.declared.transition.Next.TheVariants.{Live, Over, Broken}

-- it goes on as this call
abbrev pub goes_on : {A : Type 0} → A → Option Outgoing → Transition A
goes_on call reply = record { next = Live call; reply = reply }

-- it is over: channel and reference are free
abbrev pub ends : {A : Type 0} → Option Outgoing → Transition A
ends reply = record { next = Over; reply = reply }

-- it is over, and its channel goes into maintenance
abbrev pub breaks : {A : Type 0} → Transition A
breaks = record { next = Broken; reply = None }
