-- Private: who waits was answered once.
use Rattle.std.specs.Prelude.{◌≡◌, Option, option_map}
use Rattle.bx_day.specs.Day.{Day}
use Rattle.bx_market.specs.declared.market.Request.{Request}
use Rattle.bx_office_door.specs.Lending.{Lending}
use Rattle.bx_office_world.specs.Counters.{IsServedOnce}
use Rattle.bx_office_world.specs.KeysTaken.{IsKeyTaken}
use Rattle.bx_office_world.specs.KnownKeys.{known_keys}
use Rattle.bx_office_world.specs.declared.serving.Pending.{Pending}
use Rattle.bx_office_world.specs.declared.world.Office.{Office}

-- what is wanted next is handed on, and whose it is is kept
pub record IsNextTaken {S : Type 0} (lent : S → Lending → S → Type 0) (day : Day) (old new : Office S) (request : Option Request) : Type 0 where
  pub next : Option (Pending × Request)
  pub asked : IsServedOnce lent old.desk.opened.now day next old.door new.door
  pub wanted : request ≡ option_map (λ n. n.1) next
  pub waits : new.pending ≡ option_map (λ n. n.0) next
  pub opened : new.desk.opened.now ≡ old.desk.opened.now
  pub keys : IsKeyTaken (known_keys old.ledger) next (known_keys new.ledger)
  pub given_up : new.desk.given_up.items ≡ old.desk.given_up.items
