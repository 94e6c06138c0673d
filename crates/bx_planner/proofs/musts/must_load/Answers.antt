use Rattle.std.proofs.Common.{◌≡◌, ℕ, true, false, ◌∙◌, sym, arith, length, Bool}
use Rattle.bx_base.specs.Bookings.{row_at}
use Rattle.bx_colour.specs.Loads.{load_at}
use Rattle.bx_colour.proofs.LoadLemmas.{add_marked}
use Rattle.bx_planner.proofs.musts.must_load.Goals as goal
use Rattle.bx_planner.proofs.musts.must_load.Goals.{then-is_must, else-is_must}

pub loop-i-preserved : goal.loop-i-preserved
loop-i-preserved c =
    let rows = c.args.demand.now in
    let marked : ℕ → Bool = (λ j. (row_at rows j).must) in
    let i = c.loop-i.i in
    let here = c.nth-booking.ensures in
    elim c.if-is_must.branch [
      | then-is_must w ↦ record {
        each = λ t. rw w.load-is (add_marked rows marked i t true (load_at c.loop-i.load t) (load_at w.add.new.self t) (rw here at (sym c.is_must.ensures ∙ w.if-is_must.true)) (c.loop-i.invariant.each t) (rw here at (w.add.ensures.each t)));
        few = rw w.load-is (omega (arith, w.add.ensures.size, c.loop-i.invariant.few));
      }
      | else-is_must w ↦ record {
        each = λ t. rw w.load-is (add_marked rows marked i t false (load_at c.loop-i.load t) (load_at c.loop-i.load t) (rw here at (sym c.is_must.ensures ∙ w.if-is_must.false)) (c.loop-i.invariant.each t) (omega arith));
        few = rw w.load-is (omega (arith, c.loop-i.invariant.few));
      }
    ]

pub returns : goal.returns
returns c =
    let rows = c.args.demand.now in
    let whole : c.loop-i.i ≡ length rows = omega (arith, c.loop-i-test.false, c.loop-i.auto.i-end, c.len-i-end.ensures.count) in
    λ m. rw whole at (c.loop-i.invariant.each m)
