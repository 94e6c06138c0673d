use Rattle.std.proofs.Common.{◌≡◌, ◌+◌, List, Option, length, map, arith, sym, subst, ap, ◌∙◌}
use Rattle.bx_calls.specs.PlainCalls.{PlainUserCall}
use Rattle.bx_far.specs.BegunTicks.{later_slot}
use Rattle.bx_far.specs.FarDay.{FarDay, far_without_link}
use Rattle.bx_far.specs.Seats.{AreSeated, live_calls}
use Rattle.bx_far.proofs.Passing.{early, later_split}
use Rattle.bx_far.proofs.Standstill.{later_calls, later_seated, later_size, unlinked_is}
use Rattle.bx_far.proofs.far.Far.second_without_link.Goals as goal

pub invariant_of-self : goal.invariant_of-self
invariant_of-self c =
    let x = c.self.inside in
    let t = x.moment + 1 in
    let now : c.outlast.new.calls ≡ map (later_slot t) x.calls = c.outlast.ensures ∙ ap (map (later_slot t)) c.replace-calls.ensures.value in
    record {
      moment_limit = omega (arith, c.if-self-ge-LAST_MOMENT.false);
      size = ap length now ∙ later_size t x.calls ∙ c.self.invariant.size;
      seated = subst (AreSeated 0) (sym now) (later_seated t 0 x.calls c.self.invariant.seated);
      first = c.self.invariant.first;
      room = omega (arith, c.self.invariant.room, later_split x.moment x.script);
    }

pub returns : goal.returns
returns c =
    let x = c.self.inside in
    let t = x.moment + 1 in
    let v : FarDay = record { script = x.script; moment = x.moment; calls = live_calls x.calls; maintenance = x.maintenance; next = x.next } in
    let now : c.outlast.new.calls ≡ map (later_slot t) x.calls = c.outlast.ensures ∙ ap (map (later_slot t)) c.replace-calls.ensures.value in
    ap (λ (xs : List (Option PlainUserCall)). record v { moment = t; calls = live_calls xs }) now
    ∙ ap (λ (cs : List PlainUserCall). record v { moment = t; calls = cs }) (later_calls t x.calls)
    ∙ sym (unlinked_is v (early x.moment (omega (arith, c.if-self-ge-LAST_MOMENT.false))))
    ∙ ap far_without_link c.self.view_is
