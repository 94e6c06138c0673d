-- How the answers begin that there are.
use Rattle.std.specs.Prelude.{Bool, true, false, Option, Some}
use Rattle.bx_day.specs.Day.{Day}
use Rattle.bx_live.specs.declared.world.Begin.{Begin}
use Rattle.bx_live.specs.declared.world.Begin.TheVariants as begins
use Rattle.bx_office.specs.declared.gate.Route.{Route}
use Rattle.bx_office.specs.declared.gate.Route.TheVariants as routes
use Rattle.bx_office.specs.declared.reply.Status.{Status}
use Rattle.bx_office.specs.declared.reply.Status.TheVariants as statuses
use Rattle.bx_office_world.specs.Health.{ready_now}
use Rattle.bx_office_world.specs.declared.desk.Opened.{Opened}
use Rattle.bx_office_world.specs.declared.health.Readiness.{Readiness}
use Rattle.bx_office_world.specs.declared.health.Readiness.TheVariants.{Ready}
use Rattle.bx_office_world.specs.declared.metrics.Figures.{Figures}

abbrev pub was_late : Option Begin → Bool
was_late (Some begins.Late) = true
was_late _ = false

abbrev pub health_status : Bool → Status
health_status true = statuses.Unavailable
health_status false = statuses.Fine

abbrev pub ready_status : Readiness → Status
ready_status Ready = statuses.Fine
ready_status _ = statuses.Unavailable

abbrev pub status_at : Opened → Day → Figures → Route → Status
status_at opened d figures routes.Health = health_status (was_late figures.begun)
status_at opened d figures routes.Ready = ready_status (ready_now opened d figures)
status_at opened d figures _ = statuses.Fine
