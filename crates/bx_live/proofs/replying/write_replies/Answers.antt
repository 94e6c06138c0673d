use Rattle.std.proofs.Common.{◌≡◌, [], refl, true}
use Rattle.bx_frames.specs.declared.fault.LinkFault.TheVariants.{WriteFailed}
use Rattle.bx_live.specs.declared.world.Loss.TheVariants as losses
use Rattle.bx_live.specs.Acts.{Synced}
use Rattle.bx_live.specs.Runs.{Owing, Hearing, Losing}
use Rattle.bx_live.specs.Inside.{or_stopped, texts_of}
use Rattle.bx_live.proofs.Steps.{one_done, then_done, at_place, by_write}
use Rattle.bx_live.proofs.Replies.{some_of, texts_some, owing_some, writing_some}
use Rattle.bx_live.proofs.replying.write_replies.Goals as goal

pub returns-in_err-write_all : goal.returns-in_err-write_all
returns-in_err-write_all g c = λ d room.
    let owed = texts_of c.args.replies.now in
    let some : ¬ (owed ≡ []) = texts_some c.args.replies.now (some_of c.args.replies.now c.is_empty.result c.is_empty.ensures c.if-is_empty.false) in
    let r = c.from_residual-in_err-write_all.result in
    at_place (Losing d (losses.Fault WriteFailed)) (or_stopped (Hearing d room) d r) (by_write (Hearing d room) d r c.from_residual-in_err-write_all.ensures)
    (then_done g.met.W.World.did_more (owing_some d room owed some (one_done (Owing d room true owed) (Synced true) refl c.in_ok-sync.ensures tt))
    (writing_some d room owed some (c.in_err-write_all.ensures d room)))

pub returns : goal.returns
returns g c = λ d room.
    let owed = texts_of c.args.replies.now in
    let some : ¬ (owed ≡ []) = texts_some c.args.replies.now (some_of c.args.replies.now c.is_empty.result c.is_empty.ensures c.if-is_empty.false) in
    then_done g.met.W.World.did_more (owing_some d room owed some (one_done (Owing d room true owed) (Synced true) refl c.in_ok-sync.ensures tt))
    (writing_some d room owed some (c.in_ok-write_all.ensures d room))
