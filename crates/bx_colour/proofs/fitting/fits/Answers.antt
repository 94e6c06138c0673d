use Rattle.std.proofs.Common.{◌≡◌, ℕ, true, false, arith, length}
use Rattle.bx_colour.specs.Colouring.{is_in, running_at}
use Rattle.bx_colour.specs.Loads.{load_at}
use Rattle.bx_colour.proofs.LoadLemmas.{add_marked, none_found, if_none, all_rows}
use Rattle.bx_colour.proofs.fitting.fits.Goals as goal
use Rattle.bx_colour.proofs.fitting.fits.Goals.{then-accepted-i, else-accepted-i}

pub loop-i-preserved : goal.loop-i-preserved
loop-i-preserved c =
    let rows = c.args.bookings.now in
    let marked = is_in c.args.accepted.now in
    let i = c.loop-i.i in
    elim c.if-accepted-i.branch [
      | then-accepted-i w ↦ record {
        each = λ t. rw w.load-is (add_marked rows marked i t true (load_at c.loop-i.load t) (load_at w.add.new.self t) w.if-accepted-i.true (c.loop-i.invariant.each t) (rw w.nth.ensures.value at (w.add.ensures.each t)));
        few = rw w.load-is (omega (arith, w.add.ensures.size, c.loop-i.invariant.few));
      }
      | else-accepted-i w ↦ record {
        each = λ t. rw w.load-is (add_marked rows marked i t false (load_at c.loop-i.load t) (load_at c.loop-i.load t) w.if-accepted-i.false (c.loop-i.invariant.each t) (omega arith));
        few = rw w.load-is (omega (arith, c.loop-i.invariant.few));
      }
    ]

pub returns : goal.returns
returns c =
    let rows = c.args.bookings.now in
    let accepted = c.args.accepted.now in
    let load = c.loop-i.load in
    let i = c.loop-i.i in
    let whole : i ≡ length rows = omega (arith, c.loop-i-test.false, c.loop-i.auto.i-end, c.len.ensures.count, c.len-i-end.ensures.count) in
    let all : (m : ℕ) → load_at load m ≡ running_at rows accepted m = (λ m. all_rows rows accepted i m (load_at load m) whole (c.loop-i.invariant.each m)) in (
      λ t. record {
        one_each = omega (arith, c.if-accepted-len.false, c.len.ensures.count);
        enough = λ m. (let room = if_none c.first_above.result c.is_none.result _ c.is_none.ensures t c.first_above.ensures.none in omega (arith, room m, all m, c.count.ensures.value));
      },
      λ f. none_found c.first_above.result c.is_none.result c.count.result (load_at load) c.is_none.ensures (λ t e. ((c.first_above.ensures.first t).0 e).0) (λ m. omega (arith, f.enough m, all m, c.count.ensures.value)),
    )
