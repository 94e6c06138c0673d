use Rattle.std.proofs.Common.{◌≡◌, ◌∙◌, List, length, Option, Some, refl, ap, sym}
use Rattle.std.proofs.lemmas.List.{with_items_is}
use Rattle.bx_day.specs.declared.outcome.GivenUp.{GivenUp}
use Rattle.bx_sales.specs.GivenUps.{noted_of}
use Rattle.bx_audit.specs.Followed.{taken_of}
use Rattle.bx_audit.proofs.Audited.{amended_again, not_amended, noted_length}
use Rattle.bx_audit.proofs.following.Recaptured.take.Goals as goal

pub returns-in-Err : goal.returns-in-Err
returns-in-Err g c none =
    let x = c.args.self.now in
    let a = taken_of x.captured.end x.captured.file x.captured.first in
    let b = taken_of c.amend_again.new.exchange x.captured.file x.captured.first in
    (not_amended g.W.Write.contents x.channels x.channels x.fault (Some c.in-Err.fault) a b refl c.args.kind c.args.line.now c.in-Err.fault none refl c.in-Err.ensures.kept refl refl c.in-Err.ensures.refused, λ whole. absurd cc)

pub returns-in-Ok : goal.returns-in-Ok
returns-in-Ok g c none =
    let x = c.args.self.now in
    let a = taken_of x.captured.end x.captured.file x.captured.first in
    let b = taken_of c.amend_again.new.exchange x.captured.file x.captured.first in
    let noted : c.note.new.given_up ≡ noted_of x.given_up.items c.args.kind c.args.line.now = rw c.deref_mut.ensures.value at c.note.ensures in
    let size = ap (λ (l : List (Option GivenUp)). length l) noted ∙ noted_length x.given_up.items c.args.kind c.args.line.now ∙ sym x.given_up.ok.0 in (
      amended_again g.W.Write.contents x.channels x.channels x.fault x.fault a b refl c.args.kind c.args.line.now none refl c.in-Ok.ensures.amended refl refl,
      λ whole. with_items_is x.given_up c.note.new.given_up size ∙ noted,
    )
