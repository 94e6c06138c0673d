use Rattle.std.proofs.Common.{◌≡◌, ℕ, ◌+◌, Bool, true, false, cond, ◌∙◌, sym, arith, length}
use Rattle.bx_base.specs.Bookings.{row_at, is_running}
use Rattle.bx_colour.specs.Loads.{load_at}
use Rattle.bx_planner.specs.Musts.{musts_at}
use Rattle.bx_planner.proofs.Crowding.{add_after, first_full}
use Rattle.bx_planner.proofs.rooms.no_channel.Goals as goal
use Rattle.bx_planner.proofs.rooms.no_channel.Goals.{then-is_must, else-is_must}

pub loop-i-preserved : goal.loop-i-preserved
loop-i-preserved c =
    let rows = c.args.bookings.now in
    let i = c.loop-i.i in
    let here = c.nth-other.ensures.value in
    let own : ℕ → ℕ = (λ t. cond (is_running c.args.booking.now t) 1 0) in
    let marked : ℕ → Bool = (λ j. (row_at rows j).must) in
    elim c.if-is_must.branch [
      | then-is_must w ↦ record {
        each = λ t. rw w.load-is (add_after rows marked i t true (own t) (load_at c.loop-i.load t) (load_at w.add-then-is_must.new.self t) (rw here at (sym c.is_must.ensures ∙ w.if-is_must.true)) (c.loop-i.invariant.each t) (rw here at (w.add-then-is_must.ensures.each t)));
        few = rw w.load-is (omega (arith, w.add-then-is_must.ensures.size, c.loop-i.invariant.few));
      }
      | else-is_must w ↦ record {
        each = λ t. rw w.load-is (add_after rows marked i t false (own t) (load_at c.loop-i.load t) (load_at c.loop-i.load t) (rw here at (sym c.is_must.ensures ∙ w.if-is_must.false)) (c.loop-i.invariant.each t) (omega arith));
        few = rw w.load-is (omega (arith, c.loop-i.invariant.few));
      }
    ]

pub returns : goal.returns
returns c =
    let rows = c.args.bookings.now in
    let load = c.loop-i.load in
    let whole : c.loop-i.i ≡ length rows = omega (arith, c.loop-i-test.false, c.loop-i.auto.i-end, c.len-i-end.ensures.count) in
    let all : (m : ℕ) → load_at load m ≡ musts_at rows m + cond (is_running c.args.booking.now m) 1 0 = (λ m. rw whole at (c.loop-i.invariant.each m)) in
    let count = c.count.ensures.value in
    λ t. (
      λ e. let found = (c.first_above.ensures.first t).0 e in (first_full rows c.args.channels c.args.booking.now (load_at load) all c.requires t).0 (omega (arith, found.0, count), λ s h. omega (arith, found.1 s h, count)),
      λ h. let first = (first_full rows c.args.channels c.args.booking.now (load_at load) all c.requires t).1 h in (c.first_above.ensures.first t).1 (omega (arith, first.0, count), λ s b. omega (arith, first.1 s b, count)),
    )
