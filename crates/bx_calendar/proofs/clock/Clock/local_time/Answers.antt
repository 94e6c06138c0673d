use Rattle.std.proofs.Common.{◌+ℤ◌, ◌∙◌, ap, ℤ}
use Rattle.jiff_core.specs.Timestamp.{nanos_of_seconds}
use Rattle.jiff_tz.specs.Zone.{offset_at}
use Rattle.bx_calendar.specs.Clocks.{clock_zone, whole_minutes}
use Rattle.bx_calendar.proofs.clock.Clock.local_time.Goals as goal

pub returns-clause-some : goal.returns-clause-some
returns-clause-some c =
    let instant = c.in_ok-at.ensures.some in
    record {
      at = c.display_with_offset.ensures.0;
      offset = c.in_minutes.result;
      offset_of = c.in_minutes.ensures ∙ ap whole_minutes (c.to_offset.ensures ∙ ap (λ (n : ℤ). offset_at (clock_zone c.args.self.now) n) instant);
      moved = c.display_with_offset.ensures.1 ∙ ap (λ (n : ℤ). n +ℤ nanos_of_seconds c.in_minutes.result.seconds) instant;
      text_of = c.display_with_offset.ensures.2;
    }
