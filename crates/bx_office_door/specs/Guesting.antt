-- Private: what one move does to a client at the door.
use Rattle.std.specs.Prelude.{◌≡◌, ◌⊎◌, ℕ, Bool, true, false, List, drop, Option, Some}
use Rattle.bx_office.specs.Clients.{IsLeft, AreOctetsTaken, IsReplySaid}
use Rattle.bx_office.specs.Early.{IsAtOnce}
use Rattle.bx_office.specs.declared.client.Client.{Client}
use Rattle.bx_office.specs.declared.client.Stage.TheVariants.{Asked}
use Rattle.bx_office.specs.declared.early.Eve.{Eve}
use Rattle.bx_office.specs.declared.gate.Route.{Route}
use Rattle.bx_office.specs.declared.reply.Reply.{Reply}
use Rattle.bx_office.specs.declared.reply.Status.TheVariants as statuses
use Rattle.bx_office_door.specs.Patience.{may_stand}
use Rattle.bx_office_door.specs.Received.{last_octets}
use Rattle.bx_office_door.specs.declared.guest.Guest.{Guest}
use Rattle.bx_office_door.specs.declared.stream.Came.{Came}
use Rattle.bx_office_door.specs.declared.stream.Came.TheVariants.{Nothing, Octets, End}

-- a client has just what was read, or has run out of memory for it
abbrev pub IsHeardAs : Came → List ℕ → Client → Client → Type 0
IsHeardAs Nothing octets old new = new ≡ old
IsHeardAs (Octets count) octets old new = IsLeft new ⊎ AreOctetsTaken octets old new
IsHeardAs End octets old new = new ≡ record old { has_ended = true }

-- of what a client has to be sent just what was written is gone
abbrev pub IsSentAs : Came → Client → Client → Type 0
IsSentAs (Octets count) old new = (new.out.items ≡ drop count old.out.items) × (new ≡ record old { out = new.out })
IsSentAs _ old new = new ≡ old

-- its socket was read once, or not at all
abbrev pub HasHeard : Guest → Guest → Type 0
HasHeard old new = (new ≡ old) ⊎ IsHeardAs new.stream.came (last_octets new.stream) old.client new.client

-- its socket was written to once, or not at all
abbrev pub HasSent : Guest → Guest → Type 0
HasSent old new = (new ≡ old) ⊎ IsSentAs new.stream.went old.client new.client

-- it is told that there is no place for it
pub record IsCrowdedOut (is_spare : Bool) (old new : Client) : Type 0 where
  pub beyond : may_stand is_spare old.stage ≡ false
  pub reply : Reply
  pub status : reply.status ≡ statuses.Unavailable
  pub said : IsReplySaid reply true old new

-- it is told what needs nothing of the day, or is told before it begins
pub record IsToldAtOnce (eve : Option Eve) (old new : Client) : Type 0 where
  pub route : Route
  pub asked : old.stage ≡ Asked route
  pub reply : Reply
  pub is : IsAtOnce route eve (Some reply)
  pub said : IsReplySaid reply false old new

-- nothing else is told here
abbrev pub IsToldHere : Option Eve → Bool → Client → Client → Type 0
IsToldHere eve is_spare old new = (new ≡ old) ⊎ (IsCrowdedOut is_spare old new ⊎ IsToldAtOnce eve old new)
