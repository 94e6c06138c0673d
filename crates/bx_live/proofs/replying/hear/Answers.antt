use Rattle.std.proofs.Common.{[], ◌∷◌, ◌++◌, refl, sym, ap, false}
use Rattle.std.proofs.lemmas.Result.{err_from_is_err_and}
use Rattle.bx_events.specs.Events.{Receive, OnLink}
use Rattle.bx_frames.specs.Frames.{frame_with}
use Rattle.bx_live.specs.Acts.{Logged}
use Rattle.bx_live.specs.Runs.{Receiving, replying}
use Rattle.bx_live.specs.Inside.{texts_of}
use Rattle.bx_live.proofs.Steps.{one_done, received_on, at_place}
use Rattle.bx_live.proofs.Moments.{hearing_stays}
use Rattle.bx_live.proofs.Replies.{texts_more}
use Rattle.bx_live.proofs.replying.hear.Goals as goal

pub returns-in_err-log-clause-ran : goal.returns-in_err-log-clause-ran
returns-in_err-log-clause-ran g c room =
    let p = err_from_is_err_and c.from_residual.result c.from_residual.ensures.1 in
    let octets = c.args.message.now.items in
    let logged = rw c.as_slice.ensures.value at c.in_err-log.ensures in
    rw p.1 (one_done (Receiving c.args.exchange.now room (texts_of c.args.replies.now.items) octets) (Logged (OnLink (Receive octets)) false) refl logged refl)

pub returns-in-Some-clause-ran : goal.returns-in-Some-clause-ran
returns-in-Some-clause-ran g c room =
    let d1 = c.hear.new.self in
    let owed = texts_of c.args.replies.now.items in
    let reply = c.in-Some.reply in
    let logged = rw c.as_slice.ensures.value at c.in_ok-log.ensures in
    at_place (replying d1 (owed ++ frame_with reply ∷ []) room) _ (ap (λ ts. replying d1 ts room) (sym (texts_more c.args.replies.now.items c.push.new.self.items reply c.push.ensures.items)))
    (received_on c.args.exchange.now d1 room owed c.args.message.now.items (frame_with reply) logged c.hear.ensures.day c.in-Some.ensures.text)

pub returns-in-None-clause-ran : goal.returns-in-None-clause-ran
returns-in-None-clause-ran g c room =
    let logged = rw c.as_slice.ensures.value at c.in_ok-log.ensures in
    received_on c.args.exchange.now c.hear.new.self room (texts_of c.args.replies.now.items) c.args.message.now.items [] logged c.hear.ensures.day c.in-None.ensures.text

pub returns-in-Some-clause-moment : goal.returns-in-Some-clause-moment
returns-in-Some-clause-moment g c = hearing_stays c.args.exchange.now c.hear.new.self c.args.message.now.items c.hear.ensures.day

pub returns-in-None-clause-moment : goal.returns-in-None-clause-moment
returns-in-None-clause-moment g c = hearing_stays c.args.exchange.now c.hear.new.self c.args.message.now.items c.hear.ensures.day
