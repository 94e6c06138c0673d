-- A call that is asked for, after seconds without a link: how long it is Active where no word comes of it, and that no call is
-- touched on a day without such seconds.
use Rattle.std.specs.Prelude.{◌≡◌, ℕ, zero, suc, ◌+◌, Bool, true, false}
use Rattle.std.specs.List.{AllByRecursion}
use Rattle.bx_calls.specs.declared.net_state.NetState.{NetState}
use Rattle.bx_calls.specs.declared.net_state.NetState.TheVariants.{CallPresent, Enquiring}
use Rattle.bx_calls.specs.declared.transition.Next.{Next}
use Rattle.bx_calls.specs.declared.transition.Next.TheVariants.{Live, Over, Broken}
use Rattle.bx_calls.specs.PlainCalls.{PlainNetCall}
use Rattle.bx_calls.specs.NetTable.{net_second, is_after_outage}
use Rattle.bx_day.specs.Day.{Day}
use Rattle.bx_day.specs.Moves.{is_active}
use Rattle.bx_day.specs.declared.entry.Entry.{Entry}
use Rattle.bx_day.specs.declared.entry.Standing.{Standing}
use Rattle.bx_day.specs.declared.entry.Standing.TheVariants.{OnCall}

-- a call of which no message comes, at a tick to moment t
abbrev pub next_second : ℕ → ℕ → Next PlainNetCall → Next PlainNetCall
next_second t end (Live call) = (net_second call t end).next
next_second t end Over = Over
next_second t end Broken = Broken

-- after n ticks, of which the first comes to moment t + 1
abbrev pub call_after : ℕ → ℕ → ℕ → Next PlainNetCall → Next PlainNetCall
call_after zero t end next = next
call_after (suc n) t end next = call_after n (t + 1) end (next_second (t + 1) end next)

abbrev pub is_call_up : Next PlainNetCall → Bool
is_call_up (Live call) = is_active call.state
is_call_up _ = false

-- the user is asked, or is to be
abbrev pub is_asked : NetState → Bool
is_asked (Enquiring asked due) = true
is_asked _ = false

abbrev pub StandingUnasked : Standing → Type 0
StandingUnasked (OnCall call activity) = is_asked call.state ≡ false
StandingUnasked _ = Unit {0}

-- a second without a link has left its mark on the call: the user is asked, or is to be, or its SETUP is one after an outage
abbrev pub is_touched : NetState → Bool
is_touched (Enquiring asked due) = true
is_touched (CallPresent offer due) = is_after_outage offer
is_touched _ = false

abbrev pub StandingUntouched : Standing → Type 0
StandingUntouched (OnCall call activity) = is_touched call.state ≡ false
StandingUntouched _ = Unit {0}

abbrev pub EntryUntouched : Entry → Type 0
EntryUntouched e = StandingUntouched e.standing

abbrev pub DayUntouched : Day → Type 0
DayUntouched d = AllByRecursion EntryUntouched d.entries
