-- The door: who stands at it, and how many were let in.
use Rattle.std.specs.Prelude.{◌≡◌, ℕ, ◌≤◌, ◌<◌, nat_lt, Bool, List, ◌++◌, ◌+◌, min, is_some, None, if◌then◌else◌}
use Rattle.bx_office_door.specs.Guests.{first_asked, numbers_of, given_since, IsThinned, client_of}
use Rattle.bx_office_door.specs.declared.door.Door.{Door}
use Rattle.bx_office_door.specs.declared.guest.Guest.{Guest}

abbrev pub guests_of : Door → List Guest
guests_of door = door.guests.items

-- what stands when nobody comes, goes or is answered
pub record IsStill (old new : Door) : Type 0 where
  pub office : new.office ≡ old.office
  pub counter : new.counter ≡ old.counter
  pub answers : new.answers ≡ old.answers
  pub shown : new.shown ≡ old.shown
  pub heard : new.is_heard ≡ old.is_heard
  pub opens : new.opens ≡ old.opens
  pub figures : new.figures ≡ old.figures

-- the day has not begun by what the clock showed last
abbrev pub is_early : Door → Bool
is_early door = nat_lt door.shown door.opens

-- Who came stands after the others, by the numbers that are given next; some are gone, and all that stay do so in their order. The clock showed this then, the
-- other end of the line was heard of late or not, and no answer is counted
pub record IsAttended (now : ℕ) (is_heard : Bool) (old new : Door) : Type 0 where
  pub count : old.count ≤ new.count
  pub numbers : IsThinned (numbers_of (guests_of old) ++ given_since old.count new.count) (numbers_of (guests_of new))
  pub answers : new.answers ≡ old.answers
  pub shown : new.shown ≡ now
  pub heard : new.is_heard ≡ is_heard
  pub opens : new.opens ≡ old.opens
  pub figures : new.figures ≡ old.figures
  -- whoever waits for an answer has asked since the day began
  pub early : now < old.opens → first_asked (guests_of new) ≡ None

-- how many requests were answered, once the client of this number is: one more where it is there, up to the largest number of 64 bits
abbrev pub answers_after : ℕ → Door → ℕ
answers_after number door =
    if is_some (client_of number (guests_of door)) then min (door.answers + 1) 18446744073709551615 else door.answers
