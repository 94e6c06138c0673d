use Rattle.std.proofs.Common.{inl, inr, ⊎_elim, ◌++◌, ◌∷◌, [], ℕ, List, ap, sym, ◌∙◌, subst, append_assoc}
use Rattle.bx_events.specs.Told.{live_event_of}
use Rattle.bx_journal.specs.declared.version.Version.TheVariants.{Dated}
use Rattle.bx_journal.specs.Events.{AreEvents}
use Rattle.bx_journal.specs.Text.{journal_text}
use Rattle.bx_journal.specs.Logging.{IsPrefix}
use Rattle.bx_journal.proofs.Moments.{started, goes_on}
use Rattle.bx_journal.proofs.Logged.{write_leaves, longer, text_more, are_more, ok_then}
use Rattle.bx_journal.proofs.logging.write_event.Goals as goal

pub returns-clause-written : goal.returns-clause-written
returns-clause-written g c = ok_then c.append.result c.append.ensures.written (λ written head events more s.
    let e = live_event_of c.args.event in
    let line = c.deref.ensures.0 ∙ c.line_of-line.ensures.text in
    let text = ap (λ (l : List ℕ). journal_text head (events ++ more) ++ l) line ∙ sym (text_more head (events ++ more) e) ∙ ap (journal_text head) (append_assoc events more (e ∷ [])) in
    record {
      day_is = s.day_is;
      events_are = subst AreEvents (append_assoc events more (e ∷ [])) (are_more Dated (events ++ more) e s.events_are c.line_of-line.ensures.octets);
      written = subst (g.D.Disk.holds c.append.new.self) text (written (journal_text head (events ++ more)) s.written);
      left = λ f left. write_leaves head events more e c.deref.result.now s.day_is s.events_are c.line_of-line.ensures.octets line f (⊎_elim (λ was. inl (s.left f was)) (λ torn. inr (torn _ s.written)) (c.append.ensures.crash f left));
    })

pub returns-clause-any_moment : goal.returns-clause-any_moment
returns-clause-any_moment g c = λ head events more s.
    let e = live_event_of c.args.event in
    let P = IsPrefix head events (more ++ e ∷ []) in
    let line = c.deref.ensures.0 ∙ c.line_of-line.ensures.text in
    let here : (f : List ℕ) → g.D.Disk.may_leave c.append.new.self f → P f =
    λ f left. write_leaves head events more e c.deref.result.now s.day_is s.events_are c.line_of-line.ensures.octets line f (⊎_elim (λ was. inl (s.left f was)) (λ torn. inr (torn _ s.written)) (c.append.ensures.crash f left)) in
    let at_start = started g.D.Disk.moment g.D.Disk.left_since c.args.disk.now P (λ f left. longer head events more e f (s.left f (g.met.D.Disk.only_now c.args.disk.now f left))) in
    goes_on g.D.Disk.moment g.D.Disk.left_since c.args.disk.now c.args.disk.now c.append.new.self P _ at_start c.append.ensures.time here
