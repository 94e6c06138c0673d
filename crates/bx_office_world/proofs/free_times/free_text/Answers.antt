use Rattle.std.proofs.Common.{◌≡◌, Bool, ℕ, List, sym, subst, codes, rules}
use Rattle.bx_office_world.specs.FreeStarts.{IsFreeStart}
use Rattle.bx_office_world.specs.StartMarks.{AreStartMarks}
use Rattle.bx_office_world.specs.FreeTimes.{AreIntervalsTold}
use Rattle.bx_office_world.proofs.FreeIntervals.{told_so}
use Rattle.bx_office_world.proofs.free_times.free_text.Goals as goal

pub returns-clause-text : goal.returns-clause-text
returns-clause-text c =
    let Q = IsFreeStart c.args.opened.now c.args.exchange.now c.args.wish in
    let clock = c.args.opened.now.clock in
    let marks = subst (λ (ms : List Bool). AreStartMarks ms Q) (sym c.deref.ensures.value) c.in_ok-marks.ensures.marks in
    let head : c.extend_from_slice.new.self.items ≡ codes "from,until\n" = search rules in
    subst (λ (before : List ℕ). AreIntervalsTold clock Q before c.push_intervals.new.text.items) head
    (told_so clock c.deref.result.now Q c.extend_from_slice.new.self.items c.push_intervals.new.text.items marks c.in_ok-push_intervals.ensures.done)
