-- What the check says of a plan of lawful rows that has the prices of a best choice: they prove it where none pays more, and else they do not.
use Rattle.std.proofs.Common.{◌≡◌, ◌⊎◌, inl, inr, ℕ, ◌<◌, ◌≤◌, Bool, true, false, List, Option, Result, Ok, Err, refl, sym, subst, arith}
use Rattle.std.proofs.lemmas.Bool.{cases_lt}
use Rattle.bx_base.specs.Bookings.{Row, Carries, IsLawful, pay_of}
use Rattle.bx_base.specs.Bound.{Charge}
use Rattle.bx_base.specs.Channels.{count_of}
use Rattle.bx_base.specs.Plans.{is_accepted, channel_at}
use Rattle.bx_check.specs.Check.{IsOutcome, IsSound}
use Rattle.bx_check.specs.declared.checker.CheckFault.{CheckFault}
use Rattle.bx_check.specs.declared.checker.CheckFault.TheVariants.{NotProved}
use Rattle.bx_events.specs.Events.{LiveEvent}
use Rattle.bx_planner.specs.Choices.{ProvesBest, planned}
use Rattle.bx_planner.proofs.Checked.{plan_is_proved}
use Rattle.bx_audit.specs.LastPlans.{has_sales_alone, IsLastOutcome}
use Rattle.bx_audit.specs.PlansOfDays.{ArePrices}

not_both : (b : Bool) → b ≡ true → b ≡ false → ⊥
not_both b t f = cc

module _ (rows : List Row) (channels : List Bool) (assigned : List (Option ℕ)) (prices : List Charge) (total : ℕ) (carries : Carries rows channels (is_accepted assigned) (channel_at assigned)) (lawful : IsLawful rows channels (is_accepted assigned)) (paid : total ≡ pay_of rows (is_accepted assigned)) (p : ArePrices rows channels prices) where
  sound : IsSound rows channels (planned rows channels assigned prices total)
  sound = record {
    parts = record { bookings = refl; channels_too = refl };
    in_service = λ i h out. not_both _ (carries.in_service i h out.0) out.1;
    none_overlap = λ i k a b clash. carries.apart i k a b clash.first clash.second clash.overlap clash.channel;
    has_musts = λ i h left. not_both _ (lawful.has_musts i h left.0) left.1;
  }

  proved : pay_of rows p.set ≡ total → IsOutcome rows channels (planned rows channels assigned prices total) (Ok total)
  proved e = plan_is_proved rows channels assigned prices total carries lawful paid (subst (λ (t : ℕ). ProvesBest rows (count_of channels) prices t) e p.proves)

  not_proved : total < pay_of rows p.set → IsOutcome rows channels (planned rows channels assigned prices total) (Err (NotProved (pay_of rows p.set)))
  not_proved less = (sound, paid, p.proves.list.rising, sym p.proves.exact, λ e. absurd (omega (arith, less, e)))

  -- where no choice pays more after sales alone
  pub told : (events : List LiveEvent) → (has_sales_alone events ≡ true → pay_of rows p.set ≤ total) → (outcome : Result ℕ CheckFault) × IsOutcome rows channels (planned rows channels assigned prices total) outcome × IsLastOutcome events outcome
  told events most = by_pay (cases_lt total (pay_of rows p.set)) where
    never_alone : total < pay_of rows p.set → (alone : Bool) → has_sales_alone events ≡ alone → has_sales_alone events ≡ false
    never_alone less true alone = let all = most alone in absurd (omega (arith, less, all))
    never_alone less false e = e

    by_pay : (total < pay_of rows p.set) ⊎ (pay_of rows p.set ≤ total) → (outcome : Result ℕ CheckFault) × IsOutcome rows channels (planned rows channels assigned prices total) outcome × IsLastOutcome events outcome
    by_pay (inl less) = (Err (NotProved (pay_of rows p.set)), not_proved less, never_alone less (has_sales_alone events) refl)
    by_pay (inr ge) = let least = p.best (is_accepted assigned) lawful in (Ok total, proved (omega (arith, ge, least, paid)), tt)
