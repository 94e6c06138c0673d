-- Private: the bookings of each channel in the order of their starts, as each one's follower.
use Rattle.std.specs.Prelude.{◌≡◌, ℕ, ◌<◌, false, true, List, length, Option, Some, is_some}
use Rattle.bx_base.specs.Orders.{AreListed, AreInOrder}
use Rattle.bx_day.specs.Day.{entry_at}
use Rattle.bx_day.specs.Invariant.{is_refused}
use Rattle.bx_day.specs.Slots.{slot_at, IsFollowing}
use Rattle.bx_day.specs.declared.entry.Entry.{Entry}

abbrev pub IsOffered : List Entry → ℕ → Type 0
IsOffered es i = is_refused (entry_at es i).standing ≡ false

abbrev pub begins : List Entry → ℕ → ℕ
begins es i = (entry_at es i).booking.start

-- each accepted booking of the first n with its start, in their order
abbrev pub AreStarts : List Entry → ℕ → List (ℕ × ℕ) → Type 0
AreStarts es n order = AreListed (length es) (IsOffered es) (begins es) n order

-- each accepted booking once, in the order of the starts
abbrev pub AreByStart : List Entry → List (ℕ × ℕ) → Type 0
AreByStart es order = AreInOrder (length es) (IsOffered es) (begins es) order

-- the first accepted booking of a channel, if it has one
pub record IsFirstOn (es : List Entry) (c : ℕ) (o : Option ℕ) : Type 0 where
  pub there : (r : ℕ) → o ≡ Some r → (r < length es) × (is_refused (entry_at es r).standing ≡ false) × ((entry_at es r).channel ≡ c)
  pub each : (i : ℕ) → i < length es → is_refused (entry_at es i).standing ≡ false → (entry_at es i).channel ≡ c → is_some o ≡ true
  pub first : (i r : ℕ) → i < length es → is_refused (entry_at es i).standing ≡ false → (entry_at es i).channel ≡ c → o ≡ Some r → (entry_at es i).booking.start < (entry_at es r).booking.end → i ≡ r

-- the first of each channel, and what follows each
pub record AreLinks (es : List Entry) (heads following : List (Option ℕ)) : Type 0 where
  pub head_size : length heads ≡ 32
  pub after_size : length following ≡ length es
  pub firsts : (c : ℕ) → IsFirstOn es c (slot_at heads c)
  pub followings : (r : ℕ) → r < length es → is_refused (entry_at es r).standing ≡ false → IsFollowing es r (slot_at following r)
