-- Private: a tick of the far end, as it goes on in memory.
use Rattle.std.specs.Prelude.{◌≡◌, ◌≤◌, ⊤, ℕ, suc, false, Bool, List, [], ◌∷◌, length, Option, Some, None}
use Rattle.bx_channels.specs.ChannelNumbers.{IsChannel}
use Rattle.bx_q931.specs.Outgoing.{Outgoing}
use Rattle.bx_calls.specs.PlainCalls.{PlainUserCall}
use Rattle.bx_calls.specs.UserTable.{user_second, user_unlinked}
use Rattle.bx_channels.specs.Marks.{is_marked}
use Rattle.bx_far.specs.Seats.{AreSeated}
use Rattle.bx_far.specs.Inside.{live_call_of, call_slot_at}

-- what a second leaves in a slot
abbrev pub after_slot : ℕ → Option PlainUserCall → Option PlainUserCall
after_slot t None = None
after_slot t (Some call) = live_call_of (user_second call t).next

-- and what one without a link does
abbrev pub later_slot : ℕ → Option PlainUserCall → Option PlainUserCall
later_slot t None = None
later_slot t (Some call) = Some (user_unlinked t call)

-- only on channels something is said
abbrev pub IsSpoken : ℕ → Option Outgoing → Type 0
IsSpoken k None = ⊤
IsSpoken k (Some o) = IsChannel k

abbrev pub AreSpoken : ℕ → List (Option Outgoing) → Type 0
AreSpoken k [] = ⊤
AreSpoken k (o ∷ os) = IsSpoken k o × AreSpoken (suc k) os

-- a channel that is not blocked is not held
abbrev pub IsFree : List (Option PlainUserCall) → List Bool → Type 0
IsFree calls blocked = (c : ℕ) → is_marked blocked c ≡ false → call_slot_at calls c ≡ None

pub record IsBegunTick (calls : List (Option PlainUserCall)) (said : List (Option Outgoing)) (blocked : List Bool) (next : ℕ) : Type 0 where
  pub size : length calls ≡ 32
  pub seated : AreSeated 0 calls
  pub slots : length said ≡ 32
  pub spoken : AreSpoken 0 said
  pub free : IsFree calls blocked
  pub first : 1 ≤ next
