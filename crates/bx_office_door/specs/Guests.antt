-- Who stands at the door: clients with their numbers, in their order.
use Rattle.std.specs.Prelude.{◌≡◌, ◌⊎◌, ℕ, ◌+◌, ◌-◌, ◌==◌, ◌&&◌, ◌||◌, nat_le, not, if◌then◌else◌, Bool, true, false, List, [], ◌∷◌, ◌++◌, map, Option, Some, None, is_some}
use Rattle.std.specs.List.{range_with_len}
use Rattle.bx_office.specs.Clients.{IsReplySaid, IsAfterAnswer}
use Rattle.bx_office.specs.declared.client.Client.{Client}
use Rattle.bx_office.specs.declared.client.Stage.{Stage}
use Rattle.bx_office.specs.declared.client.Stage.TheVariants.{Asked}
use Rattle.bx_office.specs.declared.gate.Route.{Route}
use Rattle.bx_office.specs.declared.reply.Reply.{Reply}
use Rattle.bx_office_door.specs.declared.customer.Customer.{Customer}
use Rattle.bx_office_door.specs.declared.guest.Guest.{Guest}

-- ---- who is meant

-- what a client waits for, where its request waits for its answer
abbrev pub asked_at : Stage → Option Route
asked_at (Asked route) = Some route
asked_at _ = None

abbrev pub asked_or : Option Route → ℕ → Option (ℕ × Route) → Option (ℕ × Route)
asked_or (Some route) number later = Some (number, route)
asked_or None number later = later

-- the first client whose request waits: its number, and what it asks for
abbrev pub first_asked : List Guest → Option (ℕ × Route)
first_asked [] = None
first_asked (g ∷ more) = asked_or (asked_at g.client.stage) g.number (first_asked more)

-- the client of a number
abbrev pub client_of : ℕ → List Guest → Option Client
client_of number [] = None
client_of number (g ∷ more) = if g.number == number then Some g.client else client_of number more

-- ---- who is answered

-- what an answer makes of a client
pub record IsReplied (reply : Reply) (old new : Client) : Type 0 where
  pub said : IsReplySaid reply false old new
  pub next : IsAfterAnswer new.stage
  pub place : new.place ≡ old.place
  pub kept : new.kept ≡ 0

-- .. and of who stands at the door, and stays there
pub record IsGuestTold (reply : Reply) (old new : Guest) : Type 0 where
  pub number : new.number ≡ old.number
  pub is_shut : new.is_shut ≡ old.is_shut
  pub is_gone : new.is_gone ≡ old.is_gone
  pub stream : new.stream ≡ old.stream
  pub client : IsReplied reply old.client new.client

-- just the client of this number is answered: it stands after the others then, which are as they were
pub record IsAnswered (number : ℕ) (reply : Reply) (old new : List Guest) : Type 0 where
  pub before : List Guest
  pub guest : Guest
  pub following : List Guest
  pub told : Guest
  pub stood : old ≡ before ++ guest ∷ following
  pub first : client_of number before ≡ None
  pub named : guest.number ≡ number
  pub is : IsGuestTold reply guest told
  pub stands : new ≡ before ++ following ++ told ∷ []

-- .. where it is there; else all stand as they stood
abbrev pub IsAnsweredThere : ℕ → Reply → List Guest → List Guest → Type 0
IsAnsweredThere number reply old new = ((client_of number old ≡ None) × (new ≡ old)) ⊎ IsAnswered number reply old new

-- ---- who has hung up

-- just the client of this number is sent away, and has no answer
pub record IsSentAway (number : ℕ) (old new : List Guest) : Type 0 where
  pub before : List Guest
  pub guest : Guest
  pub following : List Guest
  pub stood : old ≡ before ++ guest ∷ following
  pub first : client_of number before ≡ None
  pub named : guest.number ≡ number
  pub stand : new ≡ before ++ following

-- who is there is the customer, and all stand as they stood; or who has hung up is sent away
abbrev pub IsLookedFor : ℕ → List Guest → List Guest → Option Customer → Type 0
IsLookedFor number old new (Some customer) = (customer.number ≡ number) × (is_some (client_of number old) ≡ true) × (new ≡ old)
IsLookedFor number old new None = ((client_of number old ≡ None) × (new ≡ old)) ⊎ IsSentAway number old new

-- ---- what is kept

-- how many octets are kept for all their bodies
abbrev pub kept_of : List Guest → ℕ
kept_of [] = 0
kept_of (g ∷ more) = g.client.kept + kept_of more

-- ---- which numbers are given

abbrev pub numbers_of : List Guest → List ℕ
numbers_of guests = map (λ g. g.number) guests

abbrev pub is_among : ℕ → List ℕ → Bool
is_among n [] = false
is_among n (m ∷ more) = (m == n) || is_among n more

-- each was given, and just once, where so many were
abbrev pub are_given : ℕ → List ℕ → Bool
are_given count [] = true
are_given count (n ∷ more) = nat_le n count && (not (is_among n more) && are_given count more)

-- the numbers that are given after the first so many, up to another
abbrev pub given_since : ℕ → ℕ → List ℕ
given_since old new = range_with_len (old + 1) (new - old)

-- some of these numbers, in their order
abbrev pub IsThinned : List ℕ → List ℕ → Type 0
IsThinned [] kept = kept ≡ []
IsThinned (n ∷ more) kept = IsThinned more kept ⊎ ((rest : List ℕ) × (kept ≡ n ∷ rest) × IsThinned more rest)
