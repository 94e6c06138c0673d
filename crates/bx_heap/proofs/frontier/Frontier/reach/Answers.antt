use Rattle.std.proofs.Common.{inr, arith}
use Rattle.bx_dist.proofs.Lists.{whole}
use Rattle.bx_heap.proofs.Searches.{shortened_medium}
use Rattle.bx_heap.proofs.frontier.Frontier.reach.Goals as goal

pub queue-requires-clause-lengths : goal.queue-requires-clause-lengths
queue-requires-clause-lengths c =
    let old = c.args.self.now.lengths in
    let new = c.shorten.new.lengths in
    let is_new = whole new old.items old.len (omega (arith, c.deref_mut.ensures.len, old.ok)) in
    rw is_new (omega (arith, c.requires.room.lengths_each, c.deref_mut.ensures.len, old.ok))

pub queue-requires-clause-medium : goal.queue-requires-clause-medium
queue-requires-clause-medium c =
    let old = c.args.self.now.lengths in
    let new = c.shorten.new.lengths in
    let is_new = whole new old.items old.len (omega (arith, c.deref_mut.ensures.len, old.ok)) in
    let shorter = rw c.deref_mut.ensures.value at (c.shorten.ensures.shorter c.if-shorten.true) in
    let ends = c.ends_of-to.ensures in
    rw is_new (shortened_medium c.args.line.now c.args.step old.items new c.ends_of-to.result.1 c.ends_of-to.result.2 c.requires.room.roomy shorter ends.to ends.cost ends.small (omega (arith, ends.to_within, c.requires.room.lengths_each)))

pub returns-in_ok-queue : goal.returns-in_ok-queue
returns-in_ok-queue c =
    let old = c.args.self.now.lengths in
    let new = c.shorten.new.lengths in
    let is_new = whole new old.items old.len (omega (arith, c.deref_mut.ensures.len, old.ok)) in
    let shorter = rw c.deref_mut.ensures.value at (c.shorten.ensures.shorter c.if-shorten.true) in
    λ part flow. inr (new, shorter, rw (is_new, c.ends_of-to.ensures.to) at (c.in_ok-queue.ensures part flow))
