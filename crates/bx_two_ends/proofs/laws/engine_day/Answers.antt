-- A day by the engine is one in turns, and what holds of those holds of it.
use Rattle.std.proofs.Common.{◌≡◌, ◌+◌, arith, sym, subst}
use Rattle.bx_base.specs.Bookings.{row_at, pay_of}
use Rattle.bx_base.specs.Plans.{is_accepted}
use Rattle.bx_day.specs.Day.{Day, opening}
use Rattle.bx_day.specs.Law.{standing_at}
use Rattle.bx_day.specs.Outages.{live_day_after}
use Rattle.bx_records.specs.Totals.{pays_of, is_carried}
use Rattle.bx_two_ends.specs.Earning.{events_of, IsCarriedBy}
use Rattle.bx_two_ends.specs.Lockstep.{turns_from, ends_opening}
use Rattle.bx_two_ends.proofs.EarnedDays.{stays_plan}
use Rattle.bx_two_ends.proofs.EngineDays.{engine_in_lockstep}
use Rattle.bx_two_ends.proofs.JoinedDays.{answered_carries}
use Rattle.bx_two_ends.proofs.Paid.{carried_pay}
use Rattle.bx_two_ends.proofs.laws.engine_day.Goals as goal

pub returns-clause-in_turns : goal.returns-clause-in_turns
returns-clause-in_turns g c rows channels assigned script old new reached b set h s j = engine_in_lockstep g.R.Read.remaining g.W.Write.contents g.S.Read.remaining g.T.Write.contents g.D.Disk.holds g.D.Disk.may_leave g.D.Disk.moment g.D.Disk.left_since g.D.Disk.has_failed rows channels assigned script old new reached b set h s j

pub returns-clause-carried : goal.returns-clause-carried
returns-clause-carried g c rows channels assigned script i old new reached b set h s once j k =
    let same = engine_in_lockstep g.R.Read.remaining g.W.Write.contents g.S.Read.remaining g.T.Write.contents g.D.Disk.holds g.D.Disk.may_leave g.D.Disk.moment g.D.Disk.left_since g.D.Disk.has_failed rows channels assigned script old new reached b set h s j in
    subst (λ (d : Day). IsCarriedBy ((row_at rows i).start + 1) (row_at rows i).end (standing_at d i)) (sym same) (answered_carries rows channels assigned script reached.moment b set h once (let e = j.early in omega (arith, e)) i k)

pub returns-clause-paid : goal.returns-clause-paid
returns-clause-paid g c rows channels assigned script old new reached b set h s once j all =
    let same = engine_in_lockstep g.R.Read.remaining g.W.Write.contents g.S.Read.remaining g.T.Write.contents g.D.Disk.holds g.D.Disk.may_leave g.D.Disk.moment g.D.Disk.left_since g.D.Disk.has_failed rows channels assigned script old new reached b set h s j in
    let day : Day = live_day_after (events_of (turns_from reached.moment (ends_opening rows assigned script))) (opening rows assigned) in
    subst (λ (d : Day). pays_of is_carried d.entries ≡ pay_of rows (is_accepted assigned)) (sym same)
    (carried_pay rows assigned day (stays_plan rows channels assigned (events_of (turns_from reached.moment (ends_opening rows assigned script))) b h) (λ i lt on. (_, (all i lt on).seconds, answered_carries rows channels assigned script reached.moment b set h once (let e = j.early in omega (arith, e)) i (all i lt on))))
