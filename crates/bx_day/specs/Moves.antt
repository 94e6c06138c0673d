-- What becomes of a booking by a step of its call.
use Rattle.std.specs.Prelude.{ℕ, Bool, true, false, Option, None}
use Rattle.bx_q931.specs.Outgoing.{Outgoing}
use Rattle.bx_calls.specs.declared.transition.Transition.{Transition}
use Rattle.bx_calls.specs.declared.transition.Next.{Next}
use Rattle.bx_calls.specs.declared.transition.Next.TheVariants.{Live, Over, Broken}
use Rattle.bx_calls.specs.PlainCalls.{PlainNetCall}
use Rattle.bx_calls.specs.declared.net_state.NetState.{NetState}
use Rattle.bx_calls.specs.declared.net_state.NetState.TheVariants.{Active, Enquiring}
use Rattle.bx_day.specs.declared.entry.Activity.{Activity}
use Rattle.bx_day.specs.declared.entry.Activity.TheVariants.{Never, Since, Was}
use Rattle.bx_day.specs.declared.entry.Standing.{Standing}
use Rattle.bx_day.specs.declared.entry.Standing.TheVariants.{OnCall, Carried, Unanswered}
use Rattle.bx_day.specs.declared.entry.Moved.{Moved}

abbrev pub becomes : Standing → Option Outgoing → Moved
becomes s said = record { standing = s; said = said; broken = false }

abbrev pub stays : Standing → Moved
stays s = becomes s None

abbrev pub is_active : NetState → Bool
is_active Active = true
is_active (Enquiring asked due) = true
is_active _ = false

-- by whether the call is Active now
abbrev pub activity_after : Activity → Bool → ℕ → Activity
activity_after Never true t = Since t
activity_after Never false t = Never
activity_after (Since from) true t = Since from
activity_after (Since from) false t = Was from t
activity_after (Was from until) _ t = Was from until

-- a call that is over at moment t
abbrev pub over_at : Activity → ℕ → Standing
over_at Never t = Unanswered
over_at (Since from) t = Carried from t
over_at (Was from until) t = Carried from until

-- a live booking whose call took this step at moment t
abbrev pub follow : Activity → ℕ → Option Outgoing → Next PlainNetCall → Moved
follow a t said (Live call) = becomes (OnCall call (activity_after a (is_active call.state) t)) said
follow a t said Over = becomes (over_at a t) said
follow a t said Broken = record { standing = over_at a t; said = said; broken = true }

abbrev pub follows : Activity → ℕ → Transition PlainNetCall → Moved
follows a t step = follow a t step.reply step.next
