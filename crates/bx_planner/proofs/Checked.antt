-- What a plan promises is what the checker says yes to.
use Rattle.std.proofs.Common.{◌≡◌, ℕ, Bool, true, false, List, Option, Ok, refl}
use Rattle.bx_base.specs.Bookings.{Row, Carries, IsLawful, pay_of}
use Rattle.bx_base.specs.Bound.{Charge}
use Rattle.bx_base.specs.Channels.{count_of}
use Rattle.bx_base.specs.Plans.{is_accepted, channel_at}
use Rattle.bx_check.specs.Check.{IsOutcome, IsSound}
use Rattle.bx_planner.specs.Choices.{ProvesBest, planned}

not_both : (b : Bool) → b ≡ true → b ≡ false → ⊥
not_both b t f = cc

sound : (rows : List Row) (channels : List Bool) (assigned : List (Option ℕ)) (prices : List Charge) (total : ℕ) → Carries rows channels (is_accepted assigned) (channel_at assigned) → IsLawful rows channels (is_accepted assigned) → IsSound rows channels (planned rows channels assigned prices total)
sound rows channels assigned prices total carries lawful =
    record {
      parts = record { bookings = refl; channels_too = refl };
      in_service = λ i h out. not_both _ (carries.in_service i h out.0) out.1;
      none_overlap = λ i k a b clash. carries.apart i k a b clash.first clash.second clash.overlap clash.channel;
      has_musts = λ i h left. not_both _ (lawful.has_musts i h left.0) left.1;
    }

pub plan_is_proved : (rows : List Row) (channels : List Bool) (assigned : List (Option ℕ)) (prices : List Charge) (total : ℕ) → Carries rows channels (is_accepted assigned) (channel_at assigned) → IsLawful rows channels (is_accepted assigned) → total ≡ pay_of rows (is_accepted assigned) → ProvesBest rows (count_of channels) prices total → IsOutcome rows channels (planned rows channels assigned prices total) (Ok total)
plan_is_proved rows channels assigned prices total carries lawful paid proves = (sound rows channels assigned prices total carries lawful, paid, proves.list.rising, proves.exact, refl)
