use Rattle.std.proofs.Common.{◌≡◌, ◌∙◌, ap, sym, subst}
use Rattle.bx_day_openings.specs.Openings.{IsFarOpening}
use Rattle.bx_far.specs.FarDay.{FarDay}
use Rattle.bx_far_commands.specs.Kept.{IsFarKeptSoFar}
use Rattle.bx_far_commands.proofs.KeptDays.{kept_in, far_are_kept}
use Rattle.bx_far_commands.proofs.ToldDays.{run_far}
use Rattle.bx_far_commands.proofs.running.run_with_exchange.Goals as goal

pub returns-in-Ok-clause-ran : goal.returns-in-Ok-clause-ran
returns-in-Ok-clause-ran g c opening =
    let first = c.new-end.result.end.end in
    let same : c.args.far ≡ first = search (c.new-end.ensures.end, c.new.ensures) in
    let captured = c.run_far_day-done.new.far in
    run_far {r1 = c.run_far_day-done.new.reader} {w1 = c.run_far_day-done.new.writer} first captured.end.end _ c.reached.result (far_are_kept g.W.Write.contents c.args.file.now c.parted-far.result.1 c.args.first)
    (subst IsFarOpening same opening) c.in-Ok.ensures.0 (c.reached.ensures.value ∙ ap (λ (d : FarDay). d.moment) c.parted-far.ensures.end) (kept_in {closed = captured.file} {m = captured.first} {d1 = captured.end.end} c.in-Ok.ensures.0.talks.events (c.new-end.ensures.file ∙ c.take.ensures.value) c.new-end.ensures.first c.parted-far.ensures.file c.in-Ok.ensures.1.1)

pub returns-clause-stopped : goal.returns-clause-stopped
returns-clause-stopped g c =
    let first = c.new-end.result.end.end in
    let same : c.args.far ≡ first = search (c.new-end.ensures.end, c.new.ensures) in
    let captured = c.run_far_day-done.new.far in
    let closed = c.parted-far.result.1 in
    let events = c.in-Err.ensures.0.talks.events in (
      tt,
      subst (λ (d : FarDay). IsFarKeptSoFar g.W.Write.contents c.args.file.now closed c.args.first d) (sym same)
          (events, kept_in {closed = captured.file} {m = captured.first} {d1 = captured.end.end} events (c.new-end.ensures.file ∙ c.take.ensures.value) c.new-end.ensures.first c.parted-far.ensures.file c.in-Err.ensures.1.1),
    )
