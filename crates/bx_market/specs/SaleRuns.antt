-- How a run with sales ends.
use Rattle.std.specs.Prelude.{◌≡◌, ℕ, Bool, false, List, Result, Ok, Err}
use Rattle.bx_day.specs.Day.{Day}
use Rattle.bx_live.specs.declared.world.CannotLog.{CannotLog}
use Rattle.bx_live.specs.Acts.{logged_by, ended}
use Rattle.bx_live.specs.Held.{IsHeldOut}
use Rattle.bx_live.specs.Runs.{Between, Over, Done}
use Rattle.bx_planfile.specs.OneBooking.{row_on}
use Rattle.bx_sales.specs.Journal.{RunsThrough}
use Rattle.bx_market.specs.Deals.{Deal, acts_of}
use Rattle.bx_market.specs.Stands.{Within, IsHeldMarketRun, Deals}

-- A run up to a second, and after it on while a call is up: the day went through just the logged events and sales. Unless the world said that no second
-- begins any more it has reached that second and no call is up, or there are no more seconds
pub record IsWholeSaleRun {W : Type 0} (dealt : W → List Deal → W → Type 0) (channels : List Bool) (old new : W) (d d1 : Day) (last : ℕ) : Type 0 where
  pub run : Deals dealt channels old new (Within (Between d)) (Within (Done d1))
  pub through : RunsThrough channels row_on (logged_by (acts_of run.deals)) d d1
  pub held : IsHeldMarketRun channels last (Within (Between d)) run.deals (Within (Done d1))
  pub out : ended (acts_of run.deals) ≡ false → IsHeldOut last d1

-- a run that broke off: the day in the journal went through just the logged events and sales
pub record IsBrokenRun {W : Type 0} (dealt : W → List Deal → W → Type 0) (channels : List Bool) (old new : W) (d : Day) (last : ℕ) : Type 0 where
  pub over : Day
  pub run : Deals dealt channels old new (Within (Between d)) (Within (Over over))
  pub through : RunsThrough channels row_on (logged_by (acts_of run.deals)) d over
  pub held : IsHeldMarketRun channels last (Within (Between d)) run.deals (Within (Over over))

abbrev pub IsSaleRun : {W : Type 0} → (W → List Deal → W → Type 0) → List Bool → W → W → Day → Day → ℕ → Result (Unit {0}) CannotLog → Type 0
IsSaleRun dealt channels old new d d1 last (Ok done) = IsWholeSaleRun dealt channels old new d d1 last
IsSaleRun dealt channels old new d d1 last (Err fault) = IsBrokenRun dealt channels old new d last
