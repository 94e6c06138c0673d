use Rattle.std.proofs.Common.{◌≡◌, ◌<◌, Bool, List, Some, None, length, arith, sym, subst, ap, ◌∙◌, slice_set}
use Rattle.bx_q931.specs.Messages.{PlainMessage}
use Rattle.bx_calls.specs.Said.{said_of}
use Rattle.bx_calls.specs.PlainCalls.{PlainUserCall}
use Rattle.bx_calls.specs.UserTable.{user_offered}
use Rattle.bx_far.specs.FarDay.{FarDay, insert_call}
use Rattle.bx_calls.specs.Sending.{Answered}
use Rattle.bx_far.specs.Seats.{live_calls}
use Rattle.bx_far.specs.Inside.{call_slot_at}
use Rattle.bx_far.proofs.Seats.{insert_is}
use Rattle.bx_far.proofs.Kept.{far_with, free_slot, takes_other}
use Rattle.bx_far.proofs.far.Far.take.Goals as goal

pub invariant_of-self : goal.invariant_of-self
invariant_of-self c =
    let x = c.self.inside in
    let on : c.offered-call.result.channel ≡ c.number.result = ap (λ (k : PlainUserCall). k.channel) c.offered-call.ensures ∙ sym c.number.ensures.value in
    far_with x.script x.moment x.next c.number.result x.calls (Some c.offered-call.result) (on, c.number.ensures.channel) c.self.invariant

pub returns-in_default : goal.returns-in_default
returns-in_default c =
    let d = c.args.self.now in
    let x = c.self.inside in
    let v : FarDay = record { script = x.script; moment = x.moment; calls = live_calls x.calls; maintenance = x.maintenance; next = x.next } in
    let call = c.offered-call.result in
    let on : call.channel ≡ c.number.result = ap (λ (k : PlainUserCall). k.channel) c.offered-call.ensures ∙ sym c.number.ensures.value in
    let lt : c.number.result < length x.calls = omega (arith, c.number.ensures.channel.1, c.self.invariant.size) in
    let free : call_slot_at x.calls c.number.result ≡ None = subst (λ n. call_slot_at x.calls n ≡ None) (sym c.number.ensures.value) (free_slot d x.calls c.args.channel (ap (λ (y : FarDay). y.calls) c.self.view_is) c.self.invariant.seated c.requires.free) in
    let inserted : live_calls (slice_set x.calls c.number.result (Some call)) ≡ insert_call call (live_calls x.calls) = insert_is 0 c.number.result call x.calls (omega (arith, on)) lt free c.self.invariant.seated in
    let other = λ (flag : Bool) (m : PlainMessage). takes_other d (said_of c.args.reference flag m) c.args.channel c.args.policy c.in_default.not-Busy c.in_default.not-Silent in
    record {
      day = λ flag m.
          ap (λ (cs : List PlainUserCall). record v { calls = cs }) inserted
          ∙ ap (λ (k : PlainUserCall). record v { calls = insert_call k (live_calls x.calls) }) c.offered-call.ensures
          ∙ ap (λ (y : FarDay). record y { calls = insert_call (user_offered c.args.reference c.args.channel c.args.policy y.moment) y.calls }) c.self.view_is
          ∙ sym (ap (λ (a : Answered FarDay). a.day) (other flag m));
      reply = λ flag m. sym (ap (λ (a : Answered FarDay). a.reply) (other flag m));
    }
