-- What the journal in memory has.
use Rattle.bx_events.specs.declared.rules.Rules.TheVariants.{Three}
use Rattle.std.specs.Prelude.{◌≡◌, List, [], ◌++◌, map}
use Rattle.std.proofs.Common.{sym, ap, ◌∙◌}
use Rattle.std.proofs.lemmas.List.{append-nil, append_assoc}
use Rattle.bx_events.specs.Events.{Tick, Receive, LiveEvent, OnLink, WithoutLink, Amended}
use Rattle.bx_live.specs.Acts.{Act, logged_by}
use Rattle.bx_live.proofs.Onward.{logged_on}
use Rattle.bx_link_tests.specs.declared.journal.Mark.{Mark}
use Rattle.bx_link_tests.specs.declared.journal.Mark.TheVariants as marks

abbrev pub event_in : Mark → LiveEvent
event_in marks.Tick = OnLink Tick
event_in (marks.Heard octets) = OnLink (Receive octets.items)
event_in marks.Down = WithoutLink Three
event_in (marks.Amended kind line) = Amended kind line.items

abbrev pub events_kept : List Mark → List LiveEvent
events_kept kept = map event_in kept

pub none_added : (before : List LiveEvent) → before ≡ before ++ logged_by []
none_added before = sym (append-nil before)

pub more_added : (first second third : List LiveEvent) (xs ys : List Act) → second ≡ first ++ logged_by xs → third ≡ second ++ logged_by ys → third ≡ first ++ logged_by (xs ++ ys)
more_added first second third xs ys e f =
    f ∙ (ap (λ es. es ++ logged_by ys) e ∙ (append_assoc first (logged_by xs) (logged_by ys) ∙ ap (λ es. first ++ es) (sym (logged_on xs ys))))
