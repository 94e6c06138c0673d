use Rattle.bx_live.specs.Acts.{logged_by}
use Rattle.bx_live.specs.Runs.{Between}
use Rattle.bx_market.specs.Deals.{acts_of}
use Rattle.bx_market.specs.Stands.{Within, stand_day}
use Rattle.bx_market.proofs.Through.{run_through}
use Rattle.bx_market.proofs.LastPlan.{day_following}
use Rattle.bx_market.proofs.laws.day_of_the_last_plan.Goals as goal

pub returns : goal.returns
returns c channels rows accepted assigned earlier d deals to count bookings carries first is run left last fit =
    day_following channels rows accepted assigned earlier (logged_by (acts_of deals)) d (stand_day to) count bookings carries first is (run_through channels (Within (Between d)) to deals tt run) left last fit
