use Rattle.std.proofs.Common.{ℕ, Option, refl, subst}
use Rattle.bx_records.specs.Records.{IsTimeText, IsTimeTextOf}
use Rattle.bx_records.proofs.Joined.{joined}
use Rattle.bx_records.proofs.lines.put_record.Goals as goal

pub returns-clause-done : goal.returns-clause-done
returns-clause-done c = (
  _,
  (
    record {
      start = c.in_ok-put_time.ensures.done.0;
      end = c.in_ok-put_time-2.ensures.done.0;
      from = c.in_ok-put_time_of.ensures.done.0;
      until = c.in_ok-put_time_of-2.ensures.done.0;
      start_of = subst (λ (m : ℕ). IsTimeText c.args.clock m c.in_ok-put_time.ensures.done.0) c.start.ensures.value c.in_ok-put_time.ensures.done.1;
      end_of = subst (λ (m : ℕ). IsTimeText c.args.clock m c.in_ok-put_time-2.ensures.done.0) c.end.ensures.value c.in_ok-put_time-2.ensures.done.1;
      from_of = subst (λ (m : Option ℕ). IsTimeTextOf c.args.clock m c.in_ok-put_time_of.ensures.done.0) c.active_from.ensures c.in_ok-put_time_of.ensures.done.1;
      until_of = subst (λ (m : Option ℕ). IsTimeTextOf c.args.clock m c.in_ok-put_time_of-2.ensures.done.0) c.active_until.ensures c.in_ok-put_time_of-2.ensures.done.1;
    },
    refl,
  ),
  joined _ _ _ _ _ _ _ _ _ _ _ _ _ _ _ c.in_ok-put_booked.ensures c.in_ok-put_time.ensures.done.2 c.in_ok-put_time-2.ensures.done.2 c.in_ok-put_outcome.ensures c.in_ok-put_time_of.ensures.done.2 c.in_ok-put_time_of-2.ensures.done.2 c.in_ok-put_seconds.ensures,
)
