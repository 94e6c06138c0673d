-- Lines of events that are read, one more each time.
use Rattle.std.proofs.Common.{codes, ◌≡◌, ℕ, ◌+◌, ◌<◌, ◌≤◌, Bool, List, [], ◌∷◌, ◌++◌, length, map, Option, Some, None, refl, ap, sym, ◌∙◌, subst, arith, length-append}
use Rattle.std.specs.List.{flat_map}
use Rattle.std.specs.Option.{option_map}
use Rattle.std.proofs.lemmas.List.{map_push, flat_map_more}
use Rattle.bx_events.specs.Events.{Tick, Receive, LiveEvent, OnLink, WithoutLink, Amended, HeardByRulesTwo}
use Rattle.bx_journal.specs.Hex.{hex_of}
use Rattle.bx_journal.proofs.Digits.{hex_length}
use Rattle.bx_journal.specs.declared.event.LoggedEvent.{LoggedEvent}
use Rattle.bx_journal.specs.Held.{Held}
use Rattle.bx_journal.specs.declared.version.Version.{Version}
use Rattle.bx_journal.specs.Events.{IsEventIn, logged_event}
use Rattle.bx_journal.specs.Lines.{line_ended}
use Rattle.bx_events.specs.declared.amendment.Amendment.{Amendment}
use Rattle.bx_events.specs.declared.amendment.Amendment.TheVariants.{Sold, Cancelled, Changed, SoldByRulesTwo, Delayed, Dropped, Out}
use Rattle.bx_journal.specs.Text.{amendment_word, line_of}
use Rattle.bx_journal.specs.Reading.{event_on}
use Rattle.bx_journal.specs.Taking.{Takes, TakesLine, TakesEvents, EventsEnd, EventsStop, EventsBreak, EndsInLine, Stops, lines_text}
use Rattle.bx_journal.proofs.Takings.{takes_then}
use Rattle.bx_journal.proofs.Spelled.{line_spelled}
use Rattle.bx_journal.proofs.Logged.{are_more}

pub text_on : (events : List LiveEvent) (e : LiveEvent) → lines_text (events ++ e ∷ []) ≡ lines_text events ++ line_ended (line_of e)
text_on events e = ap (flat_map line_ended) (map_push line_of events e) ∙ sym (flat_map_more line_ended [] (map line_of events) (line_of e))

read_as : (v : Version) (o : Option LoggedEvent) (r : LoggedEvent) (line : List ℕ) → option_map logged_event o ≡ event_on v line → o ≡ Some r → event_on v line ≡ Some (logged_event r)
read_as v o r line is some = sym is ∙ ap (option_map logged_event) some

pub no_event_on : (v : Version) (o : Option LoggedEvent) (line : List ℕ) → option_map logged_event o ≡ event_on v line → o ≡ None → event_on v line ≡ None
no_event_on v o line is none = sym is ∙ ap (option_map logged_event) none

module _ {F : Type 0} (followed : F → List LiveEvent → F → Type 0) (on : (s t u : F) (xs ys : List LiveEvent) → followed s xs t → followed t ys u → followed s (xs ++ ys) u)
    (f g h : F) (v : Version) (first : ℕ) (before middle after : Option (List ℕ)) (old mid new : Held) (n : ℕ) where
  pub event_more : (line : List ℕ) (o : Option LoggedEvent) (r : LoggedEvent) → TakesEvents followed f g v first n before middle old mid → TakesLine middle after mid new line → option_map logged_event o ≡ event_on v line → o ≡ Some r
      → followed g (logged_event r ∷ []) h → TakesEvents followed f h v first (n + 1) before after old new
  event_more line o r so_far next is some one =
      let e = logged_event r in
      let spelled = line_spelled v line e (read_as v o r line is some) in
      let text : lines_text so_far.events ++ line_ended line ≡ lines_text (so_far.events ++ e ∷ []) = ap (λ (l : List ℕ). lines_text so_far.events ++ line_ended l) spelled.spelled ∙ sym (text_on so_far.events e) in
      record {
        events = so_far.events ++ e ∷ [];
        are = are_more v so_far.events e so_far.are spelled.octets;
        takes = subst (Takes before after old new) text (takes_then before middle after old mid new (lines_text so_far.events) (line_ended line) so_far.takes next.takes);
        followed_all = on f g h so_far.events (e ∷ []) so_far.followed_all one;
        number = omega (arith, so_far.number, length-append so_far.events (e ∷ []));
      }

  pub ended_by : (whole : ℕ) → whole ≡ mid.taken → TakesEvents followed f g v first n before middle old mid → EndsInLine middle after mid new → EventsEnd followed f g v before after old new whole
  ended_by whole is so_far next = record {
    events = so_far.events;
    are = so_far.are;
    followed_all = so_far.followed_all;
    torn = next.torn;
    no_lf = next.part.no_lf;
    takes = takes_then before middle after old mid new (lines_text so_far.events) next.torn so_far.takes next.part.takes;
    over = next.over;
    whole_is = is ∙ so_far.takes.count;
  }

  pub stopped_by : (faulted : Bool) → TakesEvents followed f g v first n before middle old mid → Stops faulted middle after mid new → EventsStop followed f g v faulted before after old new
  stopped_by faulted so_far next = record {
    events = so_far.events;
    are = so_far.are;
    followed_all = so_far.followed_all;
    torn = next.torn;
    no_lf = next.part.no_lf;
    takes = takes_then before middle after old mid new (lines_text so_far.events) next.torn so_far.takes next.part.takes;
    stopped = next.stopped;
  }

  pub broken_by : (line : List ℕ) → TakesEvents followed f g v first n before middle old mid → TakesLine middle after mid new line → event_on v line ≡ None → EventsBreak followed f g v first n before after old new
  broken_by line so_far next bad = record {
    events = so_far.events;
    are = so_far.are;
    followed_all = so_far.followed_all;
    line = line;
    no_lf = next.no_lf;
    takes = takes_then before middle after old mid new (lines_text so_far.events) (line_ended line) so_far.takes next.takes;
    no_event = bad;
    number = so_far.number;
  }

word_short : (kind : Amendment) → length (amendment_word kind) ≤ 10
word_short Sold = omega arith
word_short Cancelled = omega arith
word_short Changed = omega arith
word_short SoldByRulesTwo = omega arith
word_short Delayed = omega arith
word_short Dropped = omega arith
word_short Out = omega arith

-- a line of more octets than any that is right has no event
short : (v : Version) (e : LiveEvent) → IsEventIn v e → length (line_of e) ≤ 526
short v (OnLink Tick) is = omega arith
short v (OnLink (Receive octets)) is = omega (arith, length-append (codes "heard ") (hex_of 65 octets), hex_length 65 octets, is.1.1)
short v (WithoutLink rules) is = omega arith
short v (Amended kind line) is = omega (arith, length-append (amendment_word kind) line, word_short kind, is.1.1)
short v (HeardByRulesTwo octets) is = omega (arith, length-append (codes "heard ") (hex_of 65 octets), hex_length 65 octets, is.1.1)

none_of : (v : Version) (line : List ℕ) (o : Option LiveEvent) → event_on v line ≡ o → 526 < length line → o ≡ None
none_of v line None is long = refl
none_of v line (Some e) is long =
    let spelled = line_spelled v line e is in
    absurd (omega (arith, long, ap length spelled.spelled, short v e spelled.octets))

pub too_long : (v : Version) (line : List ℕ) → 526 < length line → event_on v line ≡ None
too_long v line long = none_of v line (event_on v line) refl long
