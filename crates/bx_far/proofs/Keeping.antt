-- A call keeps its channel.
use Rattle.std.proofs.Common.{◌≡◌, ℕ, Bool, true, false, refl, ◌==◌, if◌then◌else◌, nat_le, ◌+◌, max}
use Rattle.bx_q931.specs.declared.kind.Kind.{Kind}
use Rattle.bx_q931.specs.declared.kind.Kind.TheVariants.{CallProceeding, Setup, Connect, Release, ReleaseComplete, StatusEnquiry, Status}
use Rattle.bx_calls.specs.PlainCalls.{PlainUserCall}
use Rattle.bx_calls.specs.declared.transition.Transition.{Transition}
use Rattle.bx_calls.specs.declared.transition.Next.{Next}
use Rattle.bx_calls.specs.declared.transition.Next.TheVariants.{Live, Over, Broken}
use Rattle.bx_calls.specs.declared.user_state.Policy.TheVariants.{Answer, Clear}
use Rattle.bx_calls.specs.declared.user_state.UserOrigin.{UserOrigin}
use Rattle.bx_calls.specs.declared.user_state.UserOrigin.TheVariants.{Offered}
use Rattle.bx_calls.specs.declared.times.Times.TheVariants.{NotYet, Once, Twice}
use Rattle.bx_calls.specs.declared.user_state.UserState.{UserState}
use Rattle.bx_calls.specs.declared.user_state.UserState.TheVariants.{CallInitiated, OutgoingCallProceeding, CallPresent, CallReceived, ConnectRequest, IncomingCallProceeding, Active, DisconnectRequest, ReleaseRequest}
use Rattle.bx_calls.specs.Hearing.{Heard, names_channel, reports_null}
use Rattle.bx_calls.specs.UserTable.{user_row, user_message, user_takes, user_answers, user_clears, user_second_row, user_second}
use Rattle.bx_channels.specs.ChannelNumbers.{IsChannel}
use Rattle.bx_far.specs.Seats.{IsCallSeat}
use Rattle.bx_far.specs.Inside.{live_call_of}

abbrev pub Keeps : ℕ → Next PlainUserCall → Type 0
Keeps n (Live call) = call.channel ≡ n
Keeps n Over = Unit {0}
Keeps n Broken = Unit {0}

pub seat_of : (n : ℕ) (next : Next PlainUserCall) → Keeps n next → IsChannel n → IsCallSeat n (live_call_of next)
seat_of n (Live call) keeps channel = (keeps, channel)
seat_of n Over keeps channel = tt
seat_of n Broken keeps channel = tt

either : (n : ℕ) (b : Bool) (x y : Transition PlainUserCall) → Keeps n x.next → Keeps n y.next → Keeps n (if b then x else y).next
either n true x y h k = h
either n false x y h k = k

row_keeps : (c : PlainUserCall) (m : Heard) (t : ℕ) (s : UserState) (k : Kind) → Keeps c.channel (user_row c m t s k).next
row_keeps c m t s ReleaseComplete = tt
row_keeps c m t s StatusEnquiry = refl
row_keeps c m t s Status = either c.channel (reports_null m.state) _ _ tt refl
row_keeps c m t s Setup = refl
row_keeps c m t (ReleaseRequest again cause due) Release = tt
row_keeps c m t s Release = tt
row_keeps c m t (CallInitiated again due) CallProceeding = either c.channel (names_channel m.channel c.channel) _ _ refl refl
row_keeps c m t (CallInitiated again due) Connect = either c.channel (names_channel m.channel c.channel) _ _ refl refl
row_keeps c m t (ReleaseRequest again cause due) k = refl
row_keeps c m t (DisconnectRequest cause due) k = refl
row_keeps c m t (ConnectRequest due) k = refl
row_keeps c m t (CallInitiated again due) k = refl
row_keeps c m t (OutgoingCallProceeding due) k = refl
row_keeps c m t CallPresent k = refl
row_keeps c m t CallReceived k = refl
row_keeps c m t IncomingCallProceeding k = refl
row_keeps c m t (Active since) k = refl

pub message_keeps : (c : PlainUserCall) (m : Heard) (t : ℕ) → Keeps c.channel (user_message c m t).next
message_keeps c m t = row_keeps c m t c.state m.kind

takes_keeps : (c : PlainUserCall) (t : ℕ) (o : UserOrigin) → Keeps c.channel (user_takes c t o).next
takes_keeps c t (Offered (Answer n) at) = either c.channel (n == 0) _ _ refl refl
takes_keeps c t o = refl

answers_keeps : (c : PlainUserCall) (t : ℕ) (o : UserOrigin) → Keeps c.channel (user_answers c t o).next
answers_keeps c t (Offered (Answer n) at) = either c.channel (nat_le (at + 1 + n) t) _ _ refl refl
answers_keeps c t o = refl

clears_keeps : (c : PlainUserCall) (t since : ℕ) (o : UserOrigin) → Keeps c.channel (user_clears c t since o).next
clears_keeps c t since (Offered (Clear n) at) = either c.channel (nat_le (since + max n 1) t) _ _ refl refl
clears_keeps c t since o = refl

second_row_keeps : (c : PlainUserCall) (t : ℕ) (s : UserState) → Keeps c.channel (user_second_row c t s).next
second_row_keeps c t CallPresent = takes_keeps c t c.origin
second_row_keeps c t CallReceived = answers_keeps c t c.origin
second_row_keeps c t (ConnectRequest due) = either c.channel (nat_le due t) _ _ refl refl
second_row_keeps c t (Active since) = clears_keeps c t since c.origin
second_row_keeps c t IncomingCallProceeding = refl
second_row_keeps c t (CallInitiated false due) = either c.channel (nat_le due t) _ _ refl refl
second_row_keeps c t (CallInitiated true due) = either c.channel (nat_le due t) _ _ tt refl
second_row_keeps c t (OutgoingCallProceeding due) = either c.channel (nat_le due t) _ _ refl refl
second_row_keeps c t (DisconnectRequest cause due) = either c.channel (nat_le due t) _ _ refl refl
second_row_keeps c t (ReleaseRequest Twice cause due) = either c.channel (nat_le due t) _ _ tt refl
second_row_keeps c t (ReleaseRequest NotYet cause due) = either c.channel (nat_le due t) _ _ refl refl
second_row_keeps c t (ReleaseRequest Once cause due) = either c.channel (nat_le due t) _ _ refl refl

pub second_keeps : (c : PlainUserCall) (t : ℕ) → Keeps c.channel (user_second c t).next
second_keeps c t = second_row_keeps c t c.state
