use Rattle.std.proofs.Common.{◌≡◌, List, map, sym, ap, ap₂, ◌∙◌, arith, refl}
use Rattle.bx_day.specs.Ticks.{after_in}
use Rattle.bx_day.specs.Slots.{slot_at}
use Rattle.bx_day.specs.SlotSteps.{follower, live_slot_of, waiting_of}
use Rattle.bx_day.specs.declared.entry.Entry.{Entry}
use Rattle.bx_day.proofs.SettleLemmas.{none_settled, one_settled, one_less, all_settled}
use Rattle.bx_day.proofs.settling.settle.Goals as goal

pub loop-number-init : goal.loop-number-init
loop-number-init c = record {
  left = record { live_size = c.told-live; waiting_size = c.told-waiting; live = λ k le. refl; waiting = λ k le. refl };
  settled = λ link d is. none_settled link d c.args.live.now c.args.waiting.now c.args.following.now;
}

pub follower-second-requires : goal.follower-second-requires
follower-second-requires c i is = omega (arith, c.requires.waiting c.loop-number.number i (sym (c.loop-number.invariant.left.waiting c.loop-number.number (omega arith)) ∙ is), c.requires.size)

pub live_of-requires-clause-first : goal.live_of-requires-clause-first
live_of-requires-clause-first c i is = c.requires.live c.loop-number.number i (sym (c.loop-number.invariant.left.live c.loop-number.number (omega arith)) ∙ is)

pub live_of-requires-clause-second : goal.live_of-requires-clause-second
live_of-requires-clause-second c i is = c.requires.waiting c.loop-number.number i (sym (c.loop-number.invariant.left.waiting c.loop-number.number (omega arith)) ∙ is)

pub waiting_of-requires-clause-first : goal.waiting_of-requires-clause-first
waiting_of-requires-clause-first c i is = c.requires.waiting c.loop-number.number i (sym (c.loop-number.invariant.left.waiting c.loop-number.number (omega arith)) ∙ is)

pub live_of-requires-clause-third : goal.live_of-requires-clause-third
live_of-requires-clause-third c i is = c.requires.second c.loop-number.number i (ap (follower c.args.following.now) (sym (c.loop-number.invariant.left.waiting c.loop-number.number (omega arith))) ∙ sym c.follower-second.ensures ∙ is)

pub waiting_of-requires-clause-second : goal.waiting_of-requires-clause-second
waiting_of-requires-clause-second c i is = c.requires.second c.loop-number.number i (ap (follower c.args.following.now) (sym (c.loop-number.invariant.left.waiting c.loop-number.number (omega arith))) ∙ sym c.follower-second.ensures ∙ is)

pub loop-number-preserved : goal.loop-number-preserved
loop-number-preserved c =
    let n = c.loop-number.number in
    let left = c.loop-number.invariant.left in
    let following = c.args.following.now in
    let a = slot_at c.args.live.now n in
    let w = slot_at c.args.waiting.now n in
    let live : slot_at c.loop-number.live n ≡ a = left.live n (omega arith) in
    let waiting : slot_at c.loop-number.waiting n ≡ w = left.waiting n (omega arith) in
    let second : c.follower-second.result ≡ follower following w = c.follower-second.ensures ∙ ap (follower following) waiting in
    record {
      left = one_less n c.args.live.now c.args.waiting.now c.loop-number.live c.loop-number.waiting c.live_of.result c.waiting_of.result left;
      settled = λ link d is.
          one_settled link d n c.args.live.now c.args.waiting.now following c.loop-number.live c.loop-number.waiting c.live_of.result c.waiting_of.result (omega (arith, c.loop-number-test.true, c.told-live)) (omega (arith, c.loop-number-test.true, c.told-waiting))
          (c.live_of.ensures ∙ ap (λ (es : List Entry). live_slot_of es (slot_at c.loop-number.live n) (slot_at c.loop-number.waiting n) c.follower-second.result) is ∙ ap₂ (λ x y. live_slot_of (map (after_in link d) d.entries) x y c.follower-second.result) live waiting ∙ ap (live_slot_of (map (after_in link d) d.entries) a w) second)
          (c.waiting_of.ensures ∙ ap (λ (es : List Entry). waiting_of es following (slot_at c.loop-number.waiting n) c.follower-second.result) is ∙ ap₂ (waiting_of (map (after_in link d) d.entries) following) waiting second)
          (c.loop-number.invariant.settled link d is);
    }

pub returns : goal.returns
returns c link d h early is s = all_settled link d c.loop-number.number c.args.live.now c.args.waiting.now c.args.following.now c.loop-number.live c.loop-number.waiting h (omega (arith, c.loop-number-test.false)) s (c.loop-number.invariant.settled link d is)
