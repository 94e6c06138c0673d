-- A day of both ends in one process is one in turns, and what holds of those holds of it.
use Rattle.std.proofs.Common.{◌≡◌, ◌+◌, sym, subst}
use Rattle.bx_day.specs.Day.{Day, opening}
use Rattle.bx_day.specs.Law.{standing_at}
use Rattle.bx_day.specs.Outages.{live_day_after}
use Rattle.bx_base.specs.Bookings.{row_at, pay_of}
use Rattle.bx_base.specs.Plans.{is_accepted}
use Rattle.bx_records.specs.Totals.{pays_of, is_carried}
use Rattle.bx_two_ends.specs.Earning.{events_of, IsCarriedBy}
use Rattle.bx_two_ends.specs.Lockstep.{turns_from, ends_opening}
use Rattle.bx_two_ends.proofs.EarnedDays.{stays_plan}
use Rattle.bx_two_ends.proofs.JoinedDays.{in_lockstep, answered_carries}
use Rattle.bx_two_ends.proofs.Paid.{carried_pay}
use Rattle.bx_two_ends.proofs.laws.one_process.Goals as goal

pub returns-clause-in_turns : goal.returns-clause-in_turns
returns-clause-in_turns g c rows channels assigned script turns near far b set h s few j = in_lockstep rows channels assigned script turns near far b set h s few j

pub returns-clause-carried : goal.returns-clause-carried
returns-clause-carried g c rows channels assigned script turns i near far b set h s once few j k =
    subst (λ (d : Day). IsCarriedBy ((row_at rows i).start + 1) (row_at rows i).end (standing_at d i)) (sym (in_lockstep rows channels assigned script turns near far b set h s few j)) (answered_carries rows channels assigned script turns b set h once few i k)

pub returns-clause-paid : goal.returns-clause-paid
returns-clause-paid g c rows channels assigned script turns near far b set h s once few j all =
    let day : Day = live_day_after (events_of (turns_from turns (ends_opening rows assigned script))) (opening rows assigned) in
    subst (λ (d : Day). pays_of is_carried d.entries ≡ pay_of rows (is_accepted assigned)) (sym (in_lockstep rows channels assigned script turns near far b set h s few j))
    (carried_pay rows assigned day (stays_plan rows channels assigned (events_of (turns_from turns (ends_opening rows assigned script))) b h) (λ i lt on. (_, (all i lt on).seconds, answered_carries rows channels assigned script turns b set h once few i (all i lt on))))
