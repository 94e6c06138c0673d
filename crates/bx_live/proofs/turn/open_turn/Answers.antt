use Rattle.std.proofs.Common.{[], ◌∷◌, ◌++◌, refl, true, false}
use Rattle.bx_events.specs.Events.{Tick}
use Rattle.bx_frames.specs.Frames.{frames_of, turn_frame}
use Rattle.bx_frames.specs.declared.fault.LinkFault.TheVariants.{WriteFailed}
use Rattle.bx_live.specs.declared.world.Loss.TheVariants as losses
use Rattle.bx_live.specs.Acts.{Wrote}
use Rattle.bx_live.specs.Runs.{Owing, Hearing, Over, Losing}
use Rattle.bx_live.specs.Inside.{or_stopped}
use Rattle.bx_live.proofs.Steps.{on_log, one_done, then_done, at_place, by_log, by_write}
use Rattle.bx_live.proofs.turn.open_turn.Goals as goal

pub returns-in_err-sync_before-clause-ran : goal.returns-in_err-sync_before-clause-ran
returns-in_err-sync_before-clause-ran g c =
    let d = c.args.exchange.now in
    let d1 = c.next_second-sent.new.self in
    let sent = c.next_second-sent.result.items in
    let text = frames_of sent ++ turn_frame d1.moment in
    let synced = rw c.as_slice-messages.ensures.value at c.in_err-sync_before.ensures d1 64 d1.moment in
    let r = c.from_residual-in_err-sync_before.result in
    at_place (Over d1) (or_stopped (Hearing d1 64) d1 r) (by_log (Hearing d1 64) d1 r c.from_residual-in_err-sync_before.ensures)
    (then_done g.met.W.World.did_more
    (on_log d d1 64 Tick sent text c.in_ok-log.ensures c.next_second-sent.ensures.day c.next_second-sent.ensures.sent c.next_second-sent.ensures.text)
    synced)

pub returns-in_err-write_turn-clause-ran : goal.returns-in_err-write_turn-clause-ran
returns-in_err-write_turn-clause-ran g c =
    let d = c.args.exchange.now in
    let d1 = c.next_second-sent.new.self in
    let sent = c.next_second-sent.result.items in
    let text = frames_of sent ++ turn_frame d1.moment in
    let synced = rw c.as_slice-messages.ensures.value at c.in_ok-sync_before.ensures d1 64 d1.moment in
    let written = rw (c.as_slice-messages.ensures.value, c.moment.ensures.value) at c.in_err-write_turn.ensures in
    let r = c.from_residual-in_err-write_turn.result in
    at_place (Losing d1 (losses.Fault WriteFailed)) (or_stopped (Hearing d1 64) d1 r) (by_write (Hearing d1 64) d1 r c.from_residual-in_err-write_turn.ensures)
    (then_done g.met.W.World.did_more
    (on_log d d1 64 Tick sent text c.in_ok-log.ensures c.next_second-sent.ensures.day c.next_second-sent.ensures.sent c.next_second-sent.ensures.text)
    (then_done g.met.W.World.did_more synced (one_done (Owing d1 64 false (text ∷ [])) (Wrote text false) refl written refl)))

pub returns-clause-ran : goal.returns-clause-ran
returns-clause-ran g c =
    let d = c.args.exchange.now in
    let d1 = c.next_second-sent.new.self in
    let sent = c.next_second-sent.result.items in
    let text = frames_of sent ++ turn_frame d1.moment in
    let synced = rw c.as_slice-messages.ensures.value at c.in_ok-sync_before.ensures d1 64 d1.moment in
    let written = rw (c.as_slice-messages.ensures.value, c.moment.ensures.value) at c.in_ok-write_turn.ensures in
    then_done g.met.W.World.did_more
    (on_log d d1 64 Tick sent text c.in_ok-log.ensures c.next_second-sent.ensures.day c.next_second-sent.ensures.sent c.next_second-sent.ensures.text)
    (then_done g.met.W.World.did_more synced (one_done (Owing d1 64 false (text ∷ [])) (Wrote text true) refl written refl))
