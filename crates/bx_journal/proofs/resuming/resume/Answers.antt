use Rattle.std.proofs.Common.{◌≤◌, Result, Ok, Err, OnOk, length, arith, ap, ◌∙◌, subst}
use Rattle.bx_journal.specs.Disk.{Only}
use Rattle.bx_journal.specs.Heads.{wanted_of}
use Rattle.bx_journal.specs.Reading.{Recovery, recovered}
use Rattle.bx_journal.specs.Resuming.{IsReadAs}
use Rattle.bx_journal.specs.Inside.{IsCutBack}
use Rattle.bx_journal.proofs.Moments.{weaker}
use Rattle.bx_journal.proofs.Spelled.{recovery_parts, own_spelled, recovered_cut, whole_within}
use Rattle.bx_journal.proofs.resuming.resume.Goals as goal

both : {P Q R E : Type 0} (r : Result (Unit {0}) E) → OnOk r P → OnOk r Q → (P → Q → R) → OnOk r R
both (Ok x) p q f = f p q
both (Err e) p q f = tt

pub returns-clause-resumed : goal.returns-clause-resumed
returns-clause-resumed g c = both c.cut_back.result c.cut_back.ensures.written c.cut_back.ensures.durable (λ written durable head text events read holds.
    let r : Recovery = record { events = events; whole = c.args.whole } in
    let parts = recovery_parts (wanted_of head) text r read in
    let spelled = own_spelled head text r read in
    let within : c.args.whole ≤ length text = omega (arith, parts.whole, whole_within text) in
    record {
      day_is = spelled.day;
      events_are = spelled.events;
      written = subst (g.D.Disk.holds c.cut_back.new.disk) spelled.text (written text holds within);
      durable = subst (λ t. Only t (g.D.Disk.may_leave c.cut_back.new.disk)) spelled.text (durable text holds within);
    })

pub returns-clause-any_moment : goal.returns-clause-any_moment
returns-clause-any_moment g c = λ wanted text events read only.
    let parts = recovery_parts wanted text (record { events = events; whole = c.args.whole }) read in
    weaker g.D.Disk.moment g.D.Disk.left_since c.args.disk.now c.cut_back.new.disk (IsCutBack c.args.whole text) (IsReadAs wanted text) (c.cut_back.ensures.any_moment text only)
    (λ f cut. ap (recovered wanted) cut.2 ∙ recovered_cut wanted text cut.0 (omega (arith, cut.1, parts.whole)))
