-- Who waits at the door is answered, each in its turn.
use Rattle.std.specs.Prelude.{◌≡◌, ◌⊎◌, ℕ, ◌≤◌, nat_lt, ◌||◌, Bool, true, false, List, [], ◌∷◌, length, Option, Some, None}
use Rattle.bx_day.specs.Day.{Day}
use Rattle.bx_market.specs.declared.market.Request.{Request}
use Rattle.bx_market.specs.declared.market.Request.TheVariants as requests
use Rattle.bx_office.specs.declared.gate.Route.{Route}
use Rattle.bx_office.specs.declared.gate.Route.TheVariants as routes
use Rattle.bx_office_door.specs.Guests.{first_asked}
use Rattle.bx_office_door.specs.declared.guest.Guest.{Guest}
use Rattle.bx_office_world.specs.Changes.{IsNobody, IsChangeHindered, IsChangeOf, IsTakenChange}
use Rattle.bx_office_world.specs.Serving.{IsServed, IsNotSold, IsTakenBatch}
use Rattle.bx_office_world.specs.declared.ledger.Keyed.{Keyed}
use Rattle.bx_office_world.specs.declared.serving.Desk.{Desk}
use Rattle.bx_office_world.specs.declared.serving.Pending.{Pending}
use Rattle.bx_office_world.specs.declared.serving.Pending.TheVariants as pending

-- ---- whatever it asks for

-- it is answered, or its client is sent away, and nothing is sold or changed
abbrev pub IsTurn : Desk → List Keyed → Day → ℕ → Route → List Guest → List Guest → Type 0
IsTurn desk requests d number routes.Bookings old new = IsNotSold desk requests d number old new
IsTurn desk requests d number (routes.Cancel row) old new = IsNobody number old new
IsTurn desk requests d number (routes.Change row) old new = IsChangeHindered desk number old new
IsTurn desk requests d number route old new = IsServed desk d number route old new

-- what is wanted next is what the client of this number asks for, whose request goes there
abbrev pub IsRequestTaken : Desk → Day → ℕ → Route → List Guest → Pending → Request → Type 0
IsRequestTaken desk d number routes.Bookings guests (pending.Sale selling) (requests.Sell batch) = IsTakenBatch desk d number guests selling batch
IsRequestTaken desk d number (routes.Cancel row) guests (pending.Change changing) (requests.Cancel wanted) = (wanted ≡ row) × IsTakenChange number row true changing
IsRequestTaken desk d number (routes.Change row) guests (pending.Change changing) (requests.Change wanted booking) = (wanted ≡ row) × IsTakenChange number row false changing × IsChangeOf desk number guests booking
IsRequestTaken desk d number route guests who what = ⊥

-- ---- all who wait

-- what may cost a tenth of a second of the processor on a day of so many rows: a best plan is made for it, or the whole day is drawn
abbrev pub is_long : ℕ → Route → Bool
is_long rows routes.Plan = nat_lt 4_000 rows
is_long rows routes.Quote = nat_lt 4_000 rows
is_long rows routes.Chart = nat_lt 4_000 rows
is_long rows _ = false

abbrev pub has_long : ℕ → List (ℕ × Route) → Bool
has_long rows [] = false
has_long rows (turn ∷ more) = is_long rows turn.1 || has_long rows more

-- nobody stands after one whose answer takes long
abbrev pub EndsAtLong : ℕ → List (ℕ × Route) → Type 0
EndsAtLong rows [] = Unit {0}
EndsAtLong rows (turn ∷ more) = (is_long rows turn.1 ≡ true → more ≡ []) × EndsAtLong rows more

-- these were answered, each as the first whose request waited then, and nobody else
abbrev pub AreServed : Desk → List Keyed → Day → List (ℕ × Route) → List Guest → List Guest → Type 0
AreServed desk requests d [] old new = new ≡ old
AreServed desk requests d (turn ∷ more) old new =
    (first_asked old ≡ Some turn) × (next : List Guest) × IsTurn desk requests d turn.0 turn.1 old next × AreServed desk requests d more next new

-- what is wanted next is what the first asks for who waits then; nothing is, where nobody waits, enough were answered, or an answer took long
abbrev pub IsNextAsked : Desk → Day → List (ℕ × Route) → List Guest → Option (Pending × Request) → Type 0
IsNextAsked desk d told new None = (first_asked new ≡ None) ⊎ ((length told ≡ 16) ⊎ (has_long (length d.entries) told ≡ true))
IsNextAsked desk d told new (Some next) = (has_long (length d.entries) told ≡ false) × (number : ℕ) × (route : Route) × (first_asked new ≡ Some (number, route)) × IsRequestTaken desk d number route new next.0 next.1

pub record IsServing (desk : Desk) (requests : List Keyed) (d : Day) (old new : List Guest) (result : Option (Pending × Request)) : Type 0 where
  pub told : List (ℕ × Route)
  pub few : length told ≤ 16
  pub one_long : EndsAtLong (length d.entries) told
  pub served : AreServed desk requests d told old new
  pub next : IsNextAsked desk d told new result
