use Rattle.std.proofs.Common.{◌≡◌, ◌-◌, length, inl, inr, refl, ap, ◌∙◌, subst, arith, true, Some, None}
use Rattle.std.proofs.lemmas.Result.{err_from_is_err_and}
use Rattle.bx_live.specs.Acts.{Took}
use Rattle.bx_live.specs.Runs.{Receiving, Taking, Owing, Over, replying}
use Rattle.bx_live.specs.Running.{RunsInside}
use Rattle.bx_live.specs.Inside.{texts_of, owing_replies}
use Rattle.bx_live.proofs.Steps.{one_done, then_done, at_place}
use Rattle.bx_live.proofs.Replies.{some_of, none_of, texts_some, texts_none, is_taking, is_owing, is_gathered}
use Rattle.bx_live.proofs.replying.gather.Goals as goal

pub loop-left-init : goal.loop-left-init
loop-left-init g c =
    let none : length c.args.replies.now.items ≡ 0 = ap length c.requires.none in
    record {
      fewer = omega arith;
      few = omega (arith, c.in_ok-hear.ensures.few, c.requires.room, none);
      moment = c.in_ok-hear.ensures.moment;
      so_far = subst (λ ts. RunsInside g.W.World.did c.args.world.now c.hear.new.world (Receiving c.args.exchange.now c.args.room ts c.args.first.now.items) (replying c.hear.new.exchange (texts_of c.hear.new.replies.items) c.args.room)) (ap texts_of c.requires.none) (c.in_ok-hear.ensures.ran c.args.room);
    }

pub returns-in_err-hear-clause-ran : goal.returns-in_err-hear-clause-ran
returns-in_err-hear-clause-ran g c =
    let p = err_from_is_err_and c.from_residual.result c.from_residual.ensures.1 in
    rw p.1 (subst (λ ts. RunsInside g.W.World.did c.args.world.now c.hear.new.world (Receiving c.args.exchange.now c.args.room ts c.args.first.now.items) (Over c.hear.new.exchange)) (ap texts_of c.requires.none) (c.in_err-hear.ensures.ran c.args.room))

pub returns-in_default-clause-ran : goal.returns-in_default-clause-ran
returns-in_default-clause-ran g c =
    let l = c.loop-left in
    let owed = texts_of l.replies.items in
    let some = texts_some l.replies.items (some_of l.replies.items c.is_empty.result c.is_empty.ensures c.if-not-is_empty.true) in
    let may : ¬ (l.left ≡ 0) = λ e. omega (arith, e, c.loop-left-test.true) in
    let took = rw c.in_default.is at c.take_waiting.ensures in
    at_place (Owing l.exchange l.left true owed) (owing_replies l.exchange l.left owed) (is_owing l.exchange owed l.left some)
    (then_done g.met.W.World.did_more
    (at_place (replying l.exchange owed l.left) (Taking l.exchange l.left owed) (is_taking l.exchange owed l.left some may) l.invariant.so_far)
    (one_done (Taking l.exchange l.left owed) (Took None) refl took tt))

pub loop-left-preserved : goal.loop-left-preserved
loop-left-preserved g c =
    let l = c.loop-left in
    let owed = texts_of l.replies.items in
    let some = texts_some l.replies.items (some_of l.replies.items c.is_empty.result c.is_empty.ensures c.if-not-is_empty.true) in
    let may : ¬ (l.left ≡ 0) = λ e. omega (arith, e, c.loop-left-test.true) in
    let took = rw c.in-Some.is at c.take_waiting.ensures in
    record {
      fewer = omega (arith, l.invariant.fewer);
      few = omega (arith, l.invariant.few, c.in_ok-hear-2.ensures.few, c.loop-left-test.true);
      moment = c.in_ok-hear-2.ensures.moment ∙ l.invariant.moment;
      so_far = then_done g.met.W.World.did_more
          (at_place (replying l.exchange owed l.left) (Taking l.exchange l.left owed) (is_taking l.exchange owed l.left some may) l.invariant.so_far)
          (then_done g.met.W.World.did_more (one_done (Taking l.exchange l.left owed) (Took (Some c.in-Some.message)) refl took tt) (c.in_ok-hear-2.ensures.ran (l.left - 1)));
    }

pub returns-in_err-hear-2-clause-ran : goal.returns-in_err-hear-2-clause-ran
returns-in_err-hear-2-clause-ran g c =
    let p = err_from_is_err_and c.from_residual-in_err-hear-2.result c.from_residual-in_err-hear-2.ensures.1 in
    let l = c.loop-left in
    let owed = texts_of l.replies.items in
    let some = texts_some l.replies.items (some_of l.replies.items c.is_empty.result c.is_empty.ensures c.if-not-is_empty.true) in
    let may : ¬ (l.left ≡ 0) = λ e. omega (arith, e, c.loop-left-test.true) in
    let took = rw c.in-Some.is at c.take_waiting.ensures in
    rw p.1
    (then_done g.met.W.World.did_more
    (at_place (replying l.exchange owed l.left) (Taking l.exchange l.left owed) (is_taking l.exchange owed l.left some may) l.invariant.so_far)
    (then_done g.met.W.World.did_more (one_done (Taking l.exchange l.left owed) (Took (Some c.in-Some.message)) refl took tt) (c.in_err-hear-2.ensures.ran (l.left - 1))))

pub returns-after-loop-left-clause-ran : goal.returns-after-loop-left-clause-ran
returns-after-loop-left-clause-ran g c =
    let l = c.loop-left in
    let owed = texts_of l.replies.items in
    at_place (replying l.exchange owed l.left) (owing_replies l.exchange l.left owed) (is_gathered l.exchange owed l.left (inl (omega (arith, c.loop-left-test.false)))) l.invariant.so_far

pub returns-else-not-is_empty-clause-ran : goal.returns-else-not-is_empty-clause-ran
returns-else-not-is_empty-clause-ran g c =
    let l = c.loop-left in
    let owed = texts_of l.replies.items in
    let none = texts_none l.replies.items (none_of l.replies.items c.is_empty.result c.is_empty.ensures c.if-not-is_empty.false) in
    at_place (replying l.exchange owed l.left) (owing_replies l.exchange l.left owed) (is_gathered l.exchange owed l.left (inr none)) l.invariant.so_far
