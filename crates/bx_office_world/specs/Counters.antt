-- What the office did at its door: each time the door was taken, used and put back. Who waits was answered, and customers were told.
use Rattle.std.specs.Prelude.{◌≡◌, ◌⊎◌, List, [], ◌∷◌, Option, Some, None, option_map, Result}
use Rattle.bx_day.specs.Day.{Day}
use Rattle.bx_market.specs.Deals.{Deal, Ran, Asked, Answered, ToldOfChange, Lost, Moved}
use Rattle.bx_market.specs.declared.market.Answer.{Answer}
use Rattle.bx_market.specs.declared.market.Request.{Request}
use Rattle.bx_office_door.specs.Doors.{guests_of}
use Rattle.bx_office_door.specs.Lending.{Lending, Taken, IsUsed, IsUsedWhereThere, WasLookedAt}
use Rattle.bx_office_door.specs.declared.door.Door.{Door}
use Rattle.bx_sales.specs.declared.changing.NoChange.{NoChange}
use Rattle.bx_office_world.specs.Changes.{IsToldChanged}
use Rattle.bx_office_world.specs.Offered.{terms_of}
use Rattle.bx_office_world.specs.Served.{IsServing}
use Rattle.bx_office_world.specs.Serving.{IsPrepared, IsToldSold}
use Rattle.bx_office_world.specs.declared.changes.Changing.{Changing}
use Rattle.bx_office_world.specs.declared.desk.Opened.{Opened}
use Rattle.bx_office_world.specs.declared.ledger.Keyed.{Keyed}
use Rattle.bx_office_world.specs.declared.serving.Desk.{Desk}
use Rattle.bx_office_world.specs.declared.serving.Pending.{Pending}
use Rattle.bx_office_world.specs.declared.serving.Pending.TheVariants.{Sale, Change}
use Rattle.bx_office_world.specs.declared.serving.Selling.{Selling}
use Rattle.bx_office_world.specs.declared.tariff.Terms.{Terms}

-- who waits at a door is answered of this day, up to the first that asks for a sale or a change: whose it is, and what is wanted; before the day
-- begins the figures are kept there first
pub record IsServedDoor (desk : Desk) (requests : List Keyed) (day : Day) (next : Option (Pending × Request)) (old new : Door) : Type 0 where
  pub mid : Door
  pub prepared : IsPrepared desk day old mid
  pub served : IsServing desk requests day (guests_of mid) (guests_of new) next

-- just the customer of a batch is told just these answers
abbrev pub TellsSold : Terms → Selling → List Answer → Door → Door → Type 0
TellsSold terms selling answers old new = IsToldSold terms selling.rows selling.wanted answers selling.customer.number (guests_of old) (guests_of new)

-- just the customer of a change is told just this
abbrev pub TellsChanged : Changing → Result (Unit {0}) NoChange → Door → Door → Type 0
TellsChanged changing answer old new = IsToldChanged changing answer changing.customer.number (guests_of old) (guests_of new)

-- where the door is not there nobody is answered, and nothing is wanted
abbrev pub IsServedAt : {S : Type 0} → (S → Lending → S → Type 0) → Desk → List Keyed → Day → Option (Pending × Request) → S → S → Type 0
IsServedAt lent desk requests day next old new = (lent old (Taken None) new × (next ≡ None)) ⊎ IsUsed lent (IsServedDoor desk requests day next) old new

abbrev pub IsSoldToldAt : {S : Type 0} → (S → Lending → S → Type 0) → Terms → Selling → List Answer → S → S → Type 0
IsSoldToldAt lent terms selling answers old new = IsUsedWhereThere lent (TellsSold terms selling answers) old new

abbrev pub IsChangeToldAt : {S : Type 0} → (S → Lending → S → Type 0) → Changing → Result (Unit {0}) NoChange → S → S → Type 0
IsChangeToldAt lent changing answer old new = IsUsedWhereThere lent (TellsChanged changing answer) old new

-- who waits was answered once, by an office that was opened with this, of this day
pub record IsServedOnce {S : Type 0} (lent : S → Lending → S → Type 0) (opened : Opened) (day : Day) (next : Option (Pending × Request)) (old new : S) : Type 0 where
  pub desk : Desk
  pub opened_is : desk.opened.now ≡ opened
  pub requests : List Keyed
  pub served : IsServedAt lent desk requests day next old new

-- just the customer who waits for it is told just these answers, and by the terms of the office
abbrev pub IsSaleTold : {S : Type 0} → (S → Lending → S → Type 0) → Opened → Option Pending → List Answer → S → S → Type 0
IsSaleTold lent opened (Some (Sale selling)) answers old new = IsSoldToldAt lent (terms_of opened) selling answers old new
IsSaleTold lent opened (Some (Change changing)) answers old new = new ≡ old
IsSaleTold lent opened None answers old new = new ≡ old

abbrev pub IsChangingTold : {S : Type 0} → (S → Lending → S → Type 0) → Option Pending → Result (Unit {0}) NoChange → S → S → Type 0
IsChangingTold lent (Some (Sale selling)) answer old new = new ≡ old
IsChangingTold lent (Some (Change changing)) answer old new = IsChangeToldAt lent changing answer old new
IsChangingTold lent None answer old new = new ≡ old

-- What was done at the door in these deals, from one state of it and of who is waited for to another: what a market is asked for is what
-- is wanted next by who is served then, all of it, and whoever is answered is the one who asked for it. Between these the door is only looked at
abbrev pub AtCounter : {S : Type 0} → (S → Lending → S → Type 0) → Opened → List Deal → S → Option Pending → S → Option Pending → Type 0
AtCounter lent opened [] old waits new waits_then = WasLookedAt lent old new × (waits_then ≡ waits)
AtCounter lent opened (Ran act ∷ deals) old waits new waits_then = AtCounter lent opened deals old waits new waits_then
AtCounter lent opened (Lost day ∷ deals) old waits new waits_then = AtCounter lent opened deals old waits new waits_then
AtCounter lent opened (Moved day whole ∷ deals) old waits new waits_then = AtCounter lent opened deals old waits new waits_then
AtCounter {S} lent opened (Asked day request ∷ deals) old waits new waits_then =
    (next : Option (Pending × Request)) × (seen : S) × (mid : S) × WasLookedAt lent old seen × IsServedOnce lent opened day next seen mid × (request ≡ option_map (λ n. n.1) next)
    × AtCounter lent opened deals mid (option_map (λ n. n.0) next) new waits_then
AtCounter {S} lent opened (Answered answers ∷ deals) old waits new waits_then =
    (seen : S) × (mid : S) × WasLookedAt lent old seen × IsSaleTold lent opened waits answers seen mid × AtCounter lent opened deals mid None new waits_then
AtCounter {S} lent opened (ToldOfChange answer ∷ deals) old waits new waits_then =
    (seen : S) × (mid : S) × WasLookedAt lent old seen × IsChangingTold lent waits answer seen mid × AtCounter lent opened deals mid None new waits_then
