-- What a journal is read as, by the parts that were taken.
use Rattle.std.proofs.Common.{◌≡◌, ◌⊎◌, inl, inr, ⊎_elim, ℕ, ◌+◌, Bool, List, [], ◌∷◌, ◌++◌, length, map, Option, None, Result, Ok, Err, refl, ap, sym, ◌∙◌, subst, append_assoc, arith, length-append}
use Rattle.std.specs.List.{flat_map}
use Rattle.std.proofs.lemmas.Grind.{flat_map-append}
use Rattle.std.proofs.lemmas.List.{append-nil, drop_at}
use Rattle.std.specs.Io.KnownBytes.{Consumes}
use Rattle.bx_events.specs.Events.{LiveEvent}
use Rattle.bx_journal.specs.declared.fault.JournalFault.{JournalFault}
use Rattle.bx_journal.specs.declared.fault.JournalFault.TheVariants.{BadLine, OtherPlan, OtherDay, OtherRules, NotBegun, ReadFailed}
use Rattle.bx_journal.specs.declared.head.Wanted.{Wanted}
use Rattle.bx_journal.specs.declared.version.Version.{Version}
use Rattle.bx_journal.specs.Versions.{head_size}
use Rattle.bx_journal.specs.Events.{AreEventsIn}
use Rattle.bx_journal.specs.Held.{Held}
use Rattle.bx_journal.specs.Inside.{HasNoLf, HaveNoLf}
use Rattle.bx_journal.specs.Lines.{line_ended, whole_lines, whole_text}
use Rattle.bx_journal.specs.Text.{line_of}
use Rattle.bx_journal.specs.Reading.{head_on, event_on, events_on, events_after, journal_events, recovered, journal_in, with_whole, events_to_fault, events_after_head, events_before}
use Rattle.bx_journal.specs.Taking.{Takes, IsOver, HasStopped, HeadTaken, HeadRefused, IsHead, AreEventLines, lines_text}
use Rattle.bx_journal.specs.Follows.{WasRead, WasRefused, WasNotBegun, WasCutOff, IsFollowed}
use Rattle.bx_journal.proofs.WholeLines.{line_first, lines_then, lines_whole, torn_line}
use Rattle.bx_journal.proofs.ReadAgain.{event_lines, event_read, events_read}
use Rattle.bx_journal.proofs.Takings.{takes_then, all_read}

-- ---- lines of events after a head

-- a line of no event, after those of events
break_after : (v : Version) (n : ℕ) (events : List LiveEvent) (line : List ℕ) (rest : List (List ℕ)) → AreEventsIn v events → event_on v line ≡ None → events_on v n (map line_of events ++ line ∷ rest) ≡ Err (BadLine (n + length events))
break_after v n [] line rest are bad = let z : n ≡ n + 0 = omega arith in rw bad (ap (λ k. Err (BadLine k)) z)
break_after v n (e ∷ events) line rest are bad =
    let next : n + 1 + length events ≡ n + length (e ∷ events) = omega arith in
    rw (event_read v e are.0, break_after v (n + 1) events line rest are.1 bad, next) refl

events_then_break : (v : Version) (events : List LiveEvent) (line : List ℕ) (rest : List (List ℕ)) → AreEventsIn v events → event_on v line ≡ None → events_to_fault v (map line_of events ++ line ∷ rest) ≡ events
events_then_break v [] line rest are bad = rw bad refl
events_then_break v (e ∷ events) line rest are bad = rw (event_read v e are.0, events_then_break v events line rest are.1 bad) refl

module _ (wanted : Wanted) (lines : List (List ℕ)) (none : HaveNoLf lines) where
  -- by the lines after it
  said_of : (r : Result Version JournalFault) (more : List ℕ) → head_on wanted (lines ++ whole_lines more) ≡ r → recovered wanted (flat_map line_ended lines ++ more) ≡ events_after r (lines ++ whole_lines more)
  said_of r more is = ap (journal_events wanted) (lines_then lines more none) ∙ ap (λ (x : Result Version JournalFault). events_after x (lines ++ whole_lines more)) is

  before_of : (r : Result Version JournalFault) (more : List ℕ) → head_on wanted (lines ++ whole_lines more) ≡ r → events_before wanted (flat_map line_ended lines ++ more) ≡ events_after_head r (lines ++ whole_lines more)
  before_of r more is = ap (λ (ls : List (List ℕ)). events_after_head (head_on wanted ls) ls) (lines_then lines more none) ∙ ap (λ (x : Result Version JournalFault). events_after_head x (lines ++ whole_lines more)) is

  -- inside of it
  pub torn_head : (torn : List ℕ) → HasNoLf torn → head_on wanted lines ≡ Err NotBegun → recovered wanted (flat_map line_ended lines ++ torn) ≡ Err NotBegun
  torn_head torn clean is = ap (journal_events wanted) (lines_whole lines torn none (torn_line torn clean)) ∙ ap (λ (r : Result Version JournalFault). events_after r lines) is

  pub fault_in_head : (fault : JournalFault) → ((rest : List (List ℕ)) → head_on wanted (lines ++ rest) ≡ Err fault) → (more : List ℕ) → recovered wanted (flat_map line_ended lines ++ more) ≡ Err fault
  fault_in_head fault is more = said_of (Err fault) more (is (whole_lines more))

  pub none_before : (fault : JournalFault) → ((rest : List (List ℕ)) → head_on wanted (lines ++ rest) ≡ Err fault) → (more : List ℕ) → events_before wanted (flat_map line_ended lines ++ more) ≡ []
  none_before fault is more = before_of (Err fault) more (is (whole_lines more))

  module _ (v : Version) (count : length lines ≡ head_size v) (is : (rest : List (List ℕ)) → head_on wanted (lines ++ rest) ≡ Ok v) where
    following_head : (more : List ℕ) → recovered wanted (flat_map line_ended lines ++ more) ≡ events_on v (head_size v + 1) (whole_lines more)
    following_head more = said_of (Ok v) more (is (whole_lines more)) ∙ ap (events_on v (head_size v + 1)) (drop_at lines (whole_lines more) (head_size v) count)

    events_of : (more : List ℕ) → events_before wanted (flat_map line_ended lines ++ more) ≡ events_to_fault v (whole_lines more)
    events_of more = before_of (Ok v) more (is (whole_lines more)) ∙ ap (events_to_fault v) (drop_at lines (whole_lines more) (head_size v) count)

    module _ (events : List LiveEvent) (are : AreEventsIn v events) where
      pub events_taken : (torn : List ℕ) → HasNoLf torn → recovered wanted (flat_map line_ended lines ++ (lines_text events ++ torn)) ≡ Ok events
      events_taken torn clean =
          following_head (lines_text events ++ torn) ∙ ap (events_on v (head_size v + 1)) (lines_whole (map line_of events) torn (event_lines v events are) (torn_line torn clean)) ∙ events_read v (head_size v + 1) events are

      pub journal_taken : (torn : List ℕ) → HasNoLf torn → journal_in wanted (flat_map line_ended lines ++ (lines_text events ++ torn)) ≡ Ok (record { events = events; whole = length (flat_map line_ended lines ++ lines_text events) })
      journal_taken torn clean =
          let text = flat_map line_ended lines ++ (lines_text events ++ torn) in
          let all : whole_lines text ≡ lines ++ map line_of events =
          lines_then lines (lines_text events ++ torn) none ∙ ap (λ (ls : List (List ℕ)). lines ++ ls) (lines_whole (map line_of events) torn (event_lines v events are) (torn_line torn clean)) in
          ap (with_whole (length (whole_text text))) (events_taken torn clean)
          ∙ ap (λ (ls : List (List ℕ)). Ok (record { events = events; whole = length (flat_map line_ended ls) })) all
          ∙ ap (λ (l : List ℕ). Ok (record { events = events; whole = length l })) (flat_map-append line_ended lines (map line_of events))

      module _ (line : List ℕ) (clean : HasNoLf line) (bad : event_on v line ≡ None) (more : List ℕ) where
        regroup : (flat_map line_ended lines ++ (lines_text events ++ line_ended line)) ++ more ≡ flat_map line_ended lines ++ (lines_text events ++ (line_ended line ++ more))
        regroup = append_assoc (flat_map line_ended lines) (lines_text events ++ line_ended line) more ∙ ap (λ (l : List ℕ). flat_map line_ended lines ++ l) (append_assoc (lines_text events) (line_ended line) more)

        broken_lines : whole_lines (lines_text events ++ (line_ended line ++ more)) ≡ map line_of events ++ line ∷ whole_lines more
        broken_lines = lines_then (map line_of events) (line_ended line ++ more) (event_lines v events are) ∙ ap (λ (ls : List (List ℕ)). map line_of events ++ ls) (line_first line more clean)

        pub broken : recovered wanted ((flat_map line_ended lines ++ (lines_text events ++ line_ended line)) ++ more) ≡ Err (BadLine (head_size v + 1 + length events))
        broken =
            ap (recovered wanted) regroup ∙ following_head (lines_text events ++ (line_ended line ++ more)) ∙ ap (events_on v (head_size v + 1)) broken_lines ∙ break_after v (head_size v + 1) events line (whole_lines more) are bad

        pub before_break : events_before wanted ((flat_map line_ended lines ++ (lines_text events ++ line_ended line)) ++ more) ≡ events
        before_break = ap (events_before wanted) regroup ∙ events_of (lines_text events ++ (line_ended line ++ more)) ∙ ap (events_to_fault v) broken_lines ∙ events_then_break v events line (whole_lines more) are bad

-- ---- the whole journal

module _ {F : Type 0} (followed : F → List LiveEvent → F → Type 0) (f g : F) (wanted : Wanted) (before after : Option (List ℕ)) (old new : Held) (none : old.octets ≡ []) (zero : old.taken ≡ 0) where
  -- taken in all, of a reader that held nothing
  module _ (xs : List ℕ) (t : Takes before after old new xs) where
    refused : (fault : JournalFault) (events : List LiveEvent) → ((more : List ℕ) → recovered wanted (xs ++ more) ≡ Err fault) → ((more : List ℕ) → events_before wanted (xs ++ more) ≡ events) → followed f events g → WasRefused followed before after wanted f g fault
    refused fault events is are all =
        let text : (more : List ℕ) → t.read ++ more ≡ xs ++ (new.octets ++ more) = λ more. ap (λ (l : List ℕ). l ++ more) (all_read before after old new xs none t) ∙ append_assoc xs new.octets more in
        record {
          read = t.read;
          consumed = t.consumed;
          events = events;
          followed_all = all;
          is = λ more. ap (recovered wanted) (text more) ∙ is (new.octets ++ more);
          are = λ more. ap (events_before wanted) (text more) ∙ are (new.octets ++ more);
        }

    all_taken : new.octets ≡ [] → t.read ≡ xs
    all_taken over = all_read before after old new xs none t ∙ ap (λ (l : List ℕ). xs ++ l) over ∙ append-nil xs

    not_begun : IsOver after new → recovered wanted xs ≡ Err NotBegun → followed f [] g → WasNotBegun followed before after wanted f g
    not_begun over is all = record { text = t.read; consumed = t.consumed; at_end = over.at_end; is = ap (recovered wanted) (all_taken over.none) ∙ is; followed_none = all }

    was_read : (events : List LiveEvent) (whole : ℕ) → IsOver after new → journal_in wanted xs ≡ Ok (record { events = events; whole = whole }) → followed f events g → WasRead followed before after wanted f g whole
    was_read events whole over is all =
        record { text = t.read; consumed = t.consumed; at_end = over.at_end; events = events; is = ap (journal_in wanted) (all_taken over.none) ∙ is; followed_all = all }

    cut_off : (faulted : Bool) (events : List LiveEvent) → HasStopped faulted new → (recovered wanted xs ≡ Ok events) ⊎ ((recovered wanted xs ≡ Err NotBegun) × (events ≡ [])) → followed f events g → WasCutOff followed faulted before after wanted f g
    cut_off faulted events stopped is all = record {
      read = xs;
      held = new.octets;
      consumed = subst (Consumes before after) (all_read before after old new xs none t) t.consumed;
      events = events;
      is = is;
      followed_all = all;
      cause = ⊎_elim (λ failed. inl failed) (λ full. inr (omega (arith, full, t.count, zero))) stopped;
    }

  -- the head has a fault, or was not read whole
  head_refused : (fault : JournalFault) → HeadRefused wanted before after old new fault → followed f [] g → WasRefused followed before after wanted f g fault
  head_refused fault h all =
      refused (flat_map line_ended h.lines) h.taken.takes fault [] (fault_in_head wanted h.lines h.taken.no_lf fault h.is) (none_before wanted h.lines h.taken.no_lf fault h.is) all

  pub head_failed : (faulted : Bool) (fault : JournalFault) → IsHead wanted faulted before after old new (Err fault) → followed f [] g → IsFollowed followed faulted before after wanted f g (Err fault)
  head_failed faulted (BadLine n) h all = head_refused (BadLine n) h all
  head_failed faulted OtherPlan h all = head_refused OtherPlan h all
  head_failed faulted OtherDay h all = head_refused OtherDay h all
  head_failed faulted OtherRules h all = head_refused OtherRules h all
  head_failed faulted NotBegun h all =
      not_begun (flat_map line_ended h.lines ++ h.taken.torn) h.taken.takes h.over (torn_head wanted h.lines h.taken.no_lf h.taken.torn h.taken.torn_no_lf h.is) all
  head_failed faulted ReadFailed h all =
      cut_off (flat_map line_ended h.lines ++ h.taken.torn) h.taken.takes faulted [] h.stopped (inr (torn_head wanted h.lines h.taken.no_lf h.taken.torn h.taken.torn_no_lf h.is, refl)) all

  module _ (middle : Option (List ℕ)) (mid : Held) (v : Version) (head : HeadTaken wanted before middle old mid v) where
    following : (xs : List ℕ) → Takes middle after mid new xs → Takes before after old new (flat_map line_ended head.lines ++ xs)
    following xs t = takes_then before middle after old mid new (flat_map line_ended head.lines) xs head.taken.takes t

    pub events_done : (faulted : Bool) (r : Result ℕ JournalFault) → AreEventLines followed f g v (head_size v + 1) faulted middle after mid new r → IsFollowed followed faulted before after wanted f g r
    events_done faulted (Ok whole) o =
        let count : length (flat_map line_ended head.lines ++ lines_text o.events) ≡ whole = omega (arith, o.whole_is, head.taken.takes.count, zero, length-append (flat_map line_ended head.lines) (lines_text o.events)) in
        was_read (flat_map line_ended head.lines ++ (lines_text o.events ++ o.torn)) (following (lines_text o.events ++ o.torn) o.takes) o.events whole o.over
        (journal_taken wanted head.lines head.taken.no_lf v head.count head.is o.events o.are o.torn o.no_lf ∙ ap (λ k. Ok (record { events = o.events; whole = k })) count) o.followed_all
    events_done faulted (Err (BadLine k)) o =
        refused (flat_map line_ended head.lines ++ (lines_text o.events ++ line_ended o.line)) (following (lines_text o.events ++ line_ended o.line) o.takes) (BadLine k) o.events
        (λ more. broken wanted head.lines head.taken.no_lf v head.count head.is o.events o.are o.line o.no_lf o.no_event more ∙ ap (λ m. Err (BadLine m)) (sym o.number))
        (λ more. before_break wanted head.lines head.taken.no_lf v head.count head.is o.events o.are o.line o.no_lf o.no_event more) o.followed_all
    events_done faulted (Err OtherPlan) o = absurd o
    events_done faulted (Err OtherDay) o = absurd o
    events_done faulted (Err OtherRules) o = absurd o
    events_done faulted (Err NotBegun) o = absurd o
    events_done faulted (Err ReadFailed) o =
        cut_off (flat_map line_ended head.lines ++ (lines_text o.events ++ o.torn)) (following (lines_text o.events ++ o.torn) o.takes) faulted o.events o.stopped
        (inl (events_taken wanted head.lines head.taken.no_lf v head.count head.is o.events o.are o.torn o.no_lf)) o.followed_all
