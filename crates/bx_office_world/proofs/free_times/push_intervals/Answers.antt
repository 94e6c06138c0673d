use Rattle.std.proofs.Common.{◌≡◌, ◌+◌, ◌-◌, ◌<◌, ℕ, true, length, subst, rules, arith}
use Rattle.bx_office_world.specs.StartMarks.{is_marked_at}
use Rattle.bx_office_world.specs.FreeTimes.{IsNextInterval}
use Rattle.bx_office_world.proofs.FreeIntervals.{marked, SoFar, one_more, moves_on, next_interval}
use Rattle.bx_office_world.proofs.free_times.push_intervals.Goals as goal

pub loop-interval-preserved : goal.loop-interval-preserved
loop-interval-preserved c =
    let marks = c.args.marks.now in
    let from = c.next_mark-from.result in
    let past = c.next_mark-rest.result in
    let within : from < length marks = search rules in
    let here : is_marked_at marks from ≡ true = c.next_mark-from.ensures.there within in
    let later : from < past = moves_on marks from past within here c.next_mark-rest.ensures.from c.next_mark-rest.ensures.there in
    let is : past - 1 + 1 ≡ past = omega (arith, later) in
    let next : IsNextInterval (marked marks) c.loop-interval.rest (record { from = from; until = past - 1 }) =
    next_interval marks c.loop-interval.rest from past (past - 1) c.next_mark-from.ensures.from within here c.next_mark-from.ensures.before c.next_mark-rest.ensures.from c.next_mark-rest.ensures.size c.next_mark-rest.ensures.before c.next_mark-rest.ensures.there is in
    let done = c.in_ok-push_interval.ensures.done in
    record {
      within = c.next_mark-rest.ensures.size;
      told = subst (λ (n : ℕ). SoFar c.args.clock (marked marks) c.args.text.now.items c.push_interval.new.text.items (c.loop-interval._interval + 1) n) is
          (one_more c.args.clock (marked marks) c.args.text.now.items c.loop-interval.text.items c.push_interval.new.text.items done.0 c.loop-interval._interval c.loop-interval.rest (record { from = from; until = past - 1 })
          c.loop-interval.invariant.told next done.1 done.2);
    }
