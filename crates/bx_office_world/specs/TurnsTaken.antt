-- Private: what is taken of who waits at the door, in its turn.
use Rattle.std.specs.Prelude.{◌≡◌, ℕ, true, false, List, Option, Some, None}
use Rattle.bx_base.specs.Bookings.{Row}
use Rattle.bx_day.specs.Day.{Day}
use Rattle.bx_market.specs.declared.market.Batch.{Batch}
use Rattle.bx_market.specs.declared.market.Request.{Request}
use Rattle.bx_office.specs.declared.gate.Route.{Route}
use Rattle.bx_office_door.specs.declared.guest.Guest.{Guest}
use Rattle.bx_office_world.specs.Changes.{IsNobody, IsTakenChange, IsChangeHindered, IsChangeOf}
use Rattle.bx_office_world.specs.Served.{IsTurn, IsRequestTaken}
use Rattle.bx_office_world.specs.Serving.{IsNotSold, IsTakenBatch}
use Rattle.bx_office_world.specs.declared.changes.Changing.{Changing}
use Rattle.bx_office_world.specs.declared.ledger.Keyed.{Keyed}
use Rattle.bx_office_world.specs.declared.serving.Desk.{Desk}
use Rattle.bx_office_world.specs.declared.serving.Pending.{Pending}
use Rattle.bx_office_world.specs.declared.serving.Selling.{Selling}

abbrev pub IsBatchTaken : Desk → List Keyed → Day → ℕ → List Guest → List Guest → Option (Selling × Batch) → Type 0
IsBatchTaken desk requests d number old new None = IsNotSold desk requests d number old new
IsBatchTaken desk requests d number old new (Some next) = (new ≡ old) × IsTakenBatch desk d number old next.0 next.1

abbrev pub IsCancelTaken : ℕ → ℕ → List Guest → List Guest → Option Changing → Type 0
IsCancelTaken row number old new None = IsNobody number old new
IsCancelTaken row number old new (Some changing) = (new ≡ old) × IsTakenChange number row true changing

abbrev pub IsChangeTaken : Desk → ℕ → ℕ → List Guest → List Guest → Option (Changing × Row) → Type 0
IsChangeTaken desk row number old new None = IsChangeHindered desk number old new
IsChangeTaken desk row number old new (Some next) = (new ≡ old) × IsTakenChange number row false next.0 × IsChangeOf desk number old next.1

abbrev pub IsTurnTaken : Desk → List Keyed → Day → ℕ → Route → List Guest → List Guest → Option (Pending × Request) → Type 0
IsTurnTaken desk requests d number route old new None = IsTurn desk requests d number route old new
IsTurnTaken desk requests d number route old new (Some next) = (new ≡ old) × IsRequestTaken desk d number route old next.0 next.1
