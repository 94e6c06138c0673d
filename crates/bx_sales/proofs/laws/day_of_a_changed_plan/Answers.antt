use Rattle.std.proofs.Common.{[], refl}
use Rattle.bx_day.specs.Day.{opening}
use Rattle.bx_day.proofs.ChangedPlan.{changed_day, changed_said}
use Rattle.bx_sales.proofs.Changes.{changes_day, changes_bookings, changes_carried}
use Rattle.bx_sales.proofs.laws.day_of_a_changed_plan.Goals as goal

pub returns-clause-day : goal.returns-clause-day
returns-clause-day c rows assigned rows' assigned' events bookings bookings' agrees = changed_day rows assigned rows' assigned' events bookings bookings' agrees

pub returns-clause-sent : goal.returns-clause-sent
returns-clause-sent c rows assigned rows' assigned' events bookings bookings' agrees = changed_said rows assigned rows' assigned' events bookings bookings' agrees

pub returns-clause-last : goal.returns-clause-last
returns-clause-last c channels rows assigned steps bookings changes = changes_day channels steps rows assigned [] (opening rows assigned) bookings refl changes

pub returns-clause-bookings : goal.returns-clause-bookings
returns-clause-bookings c channels rows assigned steps bookings changes = changes_bookings channels steps rows assigned (opening rows assigned) bookings changes

pub returns-clause-carried : goal.returns-clause-carried
returns-clause-carried c channels rows assigned steps carries changes = changes_carried channels steps rows assigned (opening rows assigned) carries changes
