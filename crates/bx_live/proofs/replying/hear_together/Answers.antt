use Rattle.std.proofs.lemmas.Result.{err_from_is_err_and}
use Rattle.bx_live.proofs.Steps.{then_done, at_place}
use Rattle.bx_live.proofs.Replies.{stopped_with}
use Rattle.bx_live.proofs.replying.hear_together.Goals as goal

pub returns-in_err-write_replies-clause-ran : goal.returns-in_err-write_replies-clause-ran
returns-in_err-write_replies-clause-ran g c =
    let p = err_from_is_err_and c.from_residual-in_err-write_replies.result c.from_residual-in_err-write_replies.ensures.1 in
    let d1 = c.gather.new.exchange in
    let written = rw c.as_slice.ensures.value at c.in_err-write_replies.ensures d1 c.in_ok-left.left in
    rw (p.1, p.2) (at_place _ _ (stopped_with d1 c.in_ok-left.left c.in_err-write_replies.field-0.0) (then_done g.met.W.World.did_more c.in_ok-left.ensures.ran written))

pub returns-clause-ran : goal.returns-clause-ran
returns-clause-ran g c =
    let written = rw c.as_slice.ensures.value at c.in_ok-write_replies.ensures c.gather.new.exchange c.in_ok-left.left in
    then_done g.met.W.World.did_more c.in_ok-left.ensures.ran written
