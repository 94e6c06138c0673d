-- What is heard after a turn that has ended.
use Rattle.std.proofs.Common.{◌≡◌, ℕ, List, [], ◌++◌, refl, sym, ap, ◌∙◌, append-nil, Option, Some, Result, Ok, Err, Bool, true, false, ◌⊎◌, inl, inr}
use Rattle.std.specs.Io.KnownBytes.{Appends}
use Rattle.bx_devices.specs.declared.watched.Watched.{Watched}
use Rattle.bx_devices.specs.Watching.{device_of, is_faulted}
use Rattle.bx_events.specs.Events.{Event}
use Rattle.bx_frames.specs.Courses.{told, ticks_last}
use Rattle.bx_frames.specs.Frames.{is_far}
use Rattle.bx_frames.specs.Reading.{IsRead}
use Rattle.bx_frames.specs.Talks.{Talk, stop, with_events}
use Rattle.bx_link.specs.Talking.{follow_talk, follow_by}
use Rattle.bx_frames.specs.Heard.{IsWholeTalk, BreaksOff, IsTalkLeft, IsHeard, TalksThrough}
use Rattle.bx_frames.specs.declared.fault.LinkFault.{LinkFault}
use Rattle.bx_frames.specs.declared.fault.LinkFault.TheVariants.{ReadFailed, WriteFailed, EndedInFrame}
use Rattle.bx_frames.specs.declared.frame.Receiver.{Receiver}
use Rattle.bx_frames.proofs.ReadAnswers.{gave, faulty}
use Rattle.bx_frames.proofs.Composing.{IsBeyond, SoFar}
use Rattle.bx_frames.proofs.ReadingSteps.{not_faulted}
use Rattle.bx_frames.proofs.Turns.{IsLocalTalk}

-- done, or not
abbrev pub over : Result (Unit {0}) LinkFault
over = Ok tt

abbrev pub broken : LinkFault → Result (Unit {0}) LinkFault
broken fault = Err fault

-- what went well was heard whole
pub heard_whole : (receiver : Receiver) (finds : List ℕ → Talk) (text : List ℕ) (events : List Event) (b : Bool) (left : Option (List ℕ)) → IsHeard receiver finds text events (gave b) left → IsWholeTalk (finds text) events (gave b) left
heard_whole receiver finds text events b left (inl whole) = whole
heard_whole receiver finds text events b left (inr (inl (e, torn))) = cc
heard_whole receiver finds text events b left (inr (inr (e, unread))) = cc

pub written_whole : (x : Bool) (P : Type 0) → (gave x ≡ Err WriteFailed) ⊎ P → P
written_whole x P (inl e) = cc
written_whole x P (inr p) = p

pub still_written : (x : Bool) (P : Type 0) → P ⊎ (gave x ≡ Err WriteFailed) → P
still_written x P (inl p) = p
still_written x P (inr e) = cc

-- nothing happens where nothing comes
abbrev pub IsQuiet : Talk → Type 0
IsQuiet talk = (talk ≡ stop (Ok true) [] []) ⊎ (talk ≡ stop (Err EndedInFrame) [] [])

module _ (receiver : Receiver) (finds : List ℕ → Talk) (next : List Event → List ℕ → Talk) (over : List ℕ → Talk) where
  abbrev Follows : List ℕ → Talk
  Follows text = follow_talk (finds text) next (over text)

  by_fault : (text : List ℕ) (fault : LinkFault) → (finds text).ending ≡ Err fault → Follows text ≡ finds text
  by_fault text fault e = ap (λ (x : Result Bool LinkFault). follow_by x (finds text) next (over text)) e

  by_end : (text : List ℕ) → (finds text).ending ≡ Ok true → Follows text ≡ with_events (finds text).events (next (finds text).events (finds text).rest)
  by_end text e = ap (λ (x : Result Bool LinkFault). follow_by x (finds text) next (over text)) e

  by_day : (text : List ℕ) → (finds text).ending ≡ Ok false → Follows text ≡ over text
  by_day text e = ap (λ (x : Result Bool LinkFault). follow_by x (finds text) next (over text)) e

  -- a turn that has ended, and what comes after it
  beyond : (text : List ℕ) (events : List Event) (left : Option (List ℕ)) → IsLocalTalk finds → IsWholeTalk (finds text) events (gave true) left → IsBeyond Follows (next events) text events left
  beyond text events left is_local whole =
      let i = is_local text true whole.ending in
      record {
        read = i.read;
        is_read = record { rest = (finds text).rest; splits = i.splits; is_left = whole.rest };
        splits = λ more. ap (λ (t : Talk). follow_talk t next (over (i.read ++ more))) (i.onward more) ∙ ap (λ (l : List Event). with_events l (next l more)) (sym whole.all);
      }

  module _ (text : List ℕ) (events : List Event) (fault : LinkFault) (left : Option (List ℕ)) (quiet : ticks_last false events ≡ true → IsQuiet (next events [])) where
    unread_so : (read : List ℕ) → IsRead text read left → (talk : Talk) → Follows read ≡ talk → events ≡ talk.events → talk.following ≡ [] → talk.rest ≡ []
        → BreaksOff receiver talk.ending events → IsTalkLeft receiver Follows text events left
    unread_so read is_read talk e all following rest cut = record {
      read = read;
      is_read = is_read;
      all = all ∙ sym (ap (λ (t : Talk). t.events) e);
      following = ap (λ (t : Talk). t.following) e ∙ following;
      rest = ap (λ (t : Talk). t.rest) e ∙ rest;
      cut = cut_so cut;
    } where
      cut_so : BreaksOff receiver talk.ending events → BreaksOff receiver (Follows read).ending events
      cut_so (inl f) = inl (ap (λ (t : Talk). t.ending) e ∙ f)
      cut_so (inr (f, last, far)) = inr (ap (λ (t : Talk). t.ending) e ∙ f, last, far)

    after_tick : (u : IsTalkLeft receiver finds text events left) → (finds u.read).ending ≡ Ok true → ticks_last false events ≡ true → is_far receiver ≡ true → IsQuiet (next events []) → IsTalkLeft receiver Follows text events left
    after_tick u ended last far q =
        let e : Follows u.read ≡ with_events events (next events []) =
        by_end u.read ended ∙ ap (λ (l : List ℕ). with_events (finds u.read).events (next (finds u.read).events l)) u.rest ∙ ap (λ (l : List Event). with_events l (next l [])) (sym u.all) in
        by_quiet e q where
          by_quiet : Follows u.read ≡ with_events events (next events []) → IsQuiet (next events []) → IsTalkLeft receiver Follows text events left
          by_quiet e (inl q) = unread_so u.read u.is_read (with_events events (stop (Ok true) [] [])) (e ∙ ap (with_events events) q) (sym (append-nil events)) refl refl (inr (refl, last, far))
          by_quiet e (inr q) = unread_so u.read u.is_read (with_events events (stop (Err EndedInFrame) [] [])) (e ∙ ap (with_events events) q) (sym (append-nil events)) refl refl (inl refl)

    stopped : IsHeard receiver finds text events (faulty fault) left → IsHeard receiver Follows text events (faulty fault) left
    stopped (inl whole) =
        let e = by_fault text fault (sym whole.ending) in
        inl (record { all = whole.all ∙ sym (ap (λ (t : Talk). t.events) e); ending = whole.ending ∙ sym (ap (λ (t : Talk). t.ending) e); rest = whole.rest ∙ sym (ap (λ (t : Talk). Some t.rest) e) })
    stopped (inr (inl (failed, torn))) =
        let e = by_fault torn.read EndedInFrame torn.cut in
        inr (inl (failed, record { read = torn.read; is_read = torn.is_read; all = torn.all ∙ sym (ap (λ (t : Talk). t.events) e); cut = ap (λ (t : Talk). t.ending) e ∙ torn.cut }))
    stopped (inr (inr (failed, u))) = inr (inr (failed, by_cut u.cut)) where
      by_cut : BreaksOff receiver (finds u.read).ending events → IsTalkLeft receiver Follows text events left
      by_cut (inl cut) = unread_so u.read u.is_read (finds u.read) (by_fault u.read EndedInFrame cut) u.all u.following u.rest (inl cut)
      by_cut (inr (ended, last, far)) = after_tick u ended last far (quiet last)

  module _ {D R W : Type 0} (step : D → Event → D) (text : D → Event → List ℕ) (remaining : R → Option (List ℕ)) (contents : W → Option (List ℕ)) (r r1 : Watched R) (w w1 : Watched W) (d d1 : D) (events : List Event) where
    abbrev GoesBy : (List ℕ → Talk) → Result Bool LinkFault → Type 0
    GoesBy talk result = TalksThrough receiver step text talk remaining contents r r1 w w1 d d1 events result

    pub follow_on : IsLocalTalk finds → GoesBy finds (gave true) → SoFar step text Follows (next events) remaining contents r r1 w w1 d d1 events
    follow_on is_local p = record {
      day = p.day;
      talk = λ known e. beyond known events (remaining (device_of r1)) is_local (heard_whole receiver finds known events true (remaining (device_of r1)) (p.talk known e));
      written = written_whole true (Appends (contents (device_of w)) (contents (device_of w1)) (told step text events d)) p.written.whole;
      counted = p.counted;
      reader = not_faulted true (is_faulted r1 ≡ is_faulted r) p.unfaulted;
      writer = still_written true (is_faulted w1 ≡ is_faulted w) p.written.unfaulted;
    }

    pub follow_fault : (fault : LinkFault) → (ticks_last false events ≡ true → IsQuiet (next events [])) → GoesBy finds (faulty fault) → GoesBy Follows (faulty fault)
    follow_fault fault quiet p = record {
      day = p.day;
      talk = λ known e. stopped known events fault (remaining (device_of r1)) quiet (p.talk known e);
      written = p.written;
      faulted = p.faulted;
      counted = p.counted;
      unfaulted = p.unfaulted;
    }

    -- the day has ended
    pub follow_day : (result : Result Bool LinkFault) → (result ≡ Err ReadFailed → ⊥) → (result ≡ Err WriteFailed → ⊥)
        → ((known : List ℕ) → (finds known).ending ≡ Ok false → over known ≡ record { events = (finds known).events; ending = result; rest = (finds known).rest; following = (finds known).following })
        → GoesBy finds (gave false) → GoesBy Follows result
    follow_day result no_read no_write same p = record {
      day = p.day;
      talk = λ known e.
          let whole = heard_whole receiver finds known events false (remaining (device_of r1)) (p.talk known e) in
          let f = by_day known (sym whole.ending) ∙ same known (sym whole.ending) in
          inl (record { all = whole.all ∙ sym (ap (λ (t : Talk). t.events) f); ending = sym (ap (λ (t : Talk). t.ending) f); rest = whole.rest ∙ sym (ap (λ (t : Talk). Some t.rest) f) });
      written = record {
        whole = inr (written_whole false (Appends (contents (device_of w)) (contents (device_of w1)) (told step text events d)) p.written.whole);
        part = λ e. absurd (no_write e);
        faulted = λ e. absurd (no_write e);
        unfaulted = inl (still_written false (is_faulted w1 ≡ is_faulted w) p.written.unfaulted);
      };
      faulted = λ e. absurd (no_read e);
      counted = p.counted;
      unfaulted = inl (not_faulted false (is_faulted r1 ≡ is_faulted r) p.unfaulted);
    }
