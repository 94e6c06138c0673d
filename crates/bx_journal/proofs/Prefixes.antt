-- One event after another, and what a crash leaves of them; and the head of a journal.
use Rattle.std.proofs.Common.{◌≡◌, inl, inr, ⊎_elim, ℕ, zero, suc, ◌+◌, ◌≤◌, ◌<◌, List, [], ◌∷◌, ◌++◌, length, take, map, get_or, Some, Result, refl, ap, ◌∙◌, arith}
use Rattle.std.proofs.lemmas.List.{take_more, get_or-map, length-map}
use Rattle.bx_events.specs.Events.{Tick, LiveEvent, OnLink}
use Rattle.bx_events.specs.declared.event.LiveEvent as rust_live
use Rattle.bx_events.specs.declared.event.LiveEvent.TheVariants as rust
use Rattle.bx_events.specs.declared.event.Event.TheVariants as plain
use Rattle.bx_journal.specs.Disk.{LeavesOnly}
use Rattle.bx_events.specs.Told.{live_event_of}
use Rattle.bx_journal.specs.Lines.{whole_lines}
use Rattle.bx_journal.specs.Heads.{IsJournalDay, wanted_of}
use Rattle.bx_journal.specs.Inside.{lines_of}
use Rattle.bx_journal.specs.Text.{journal_text}
use Rattle.bx_journal.specs.declared.fault.JournalFault.{JournalFault}
use Rattle.bx_journal.specs.declared.head.Head.{Head}
use Rattle.bx_journal.specs.declared.version.Version.{Version}
use Rattle.bx_journal.specs.declared.version.Version.TheVariants.{Dated}
use Rattle.bx_journal.specs.Reading.{events_after, journal_events}
use Rattle.bx_journal.specs.Logging.{IsUnbegun}
use Rattle.bx_journal.proofs.WholeLines.{prefix_of}
use Rattle.bx_journal.proofs.HeadLines.{one_line, two_lines}
use Rattle.bx_journal.proofs.ReadAgain.{own, read_anywhere, lines_without_lf, lines_read}

-- a run goes on by another
pub leaves_then : {D : Type 0} (moment : D → ℕ) (left_since : D → ℕ → List ℕ → Type 0) (old mid new : D) (P Q : List ℕ → Type 0) → LeavesOnly moment left_since old mid P → LeavesOnly moment left_since mid new Q
    → ((c : List ℕ) → Q c → P c) → LeavesOnly moment left_since old new P
leaves_then {D} moment left_since old mid new P Q first second so = record {
  later = omega (arith, first.later, second.later);
  each = λ c left. ⊎_elim (first.each c) (so c) (second.before (moment old) c first.later left);
  before = λ t c le left. ⊎_elim (first.before t c le) (λ q. inr (so c q)) (second.before t c (omega (arith, le, first.later)) left);
}

-- the events of the code, one more
pub more_of : (events : List rust_live.LiveEvent) (i : ℕ) → i < length events → take (i + 1) (map live_event_of events) ≡ take i (map live_event_of events) ++ live_event_of (get_or events i (rust.OnLink plain.Tick)) ∷ []
more_of events i lt =
    take_more (map live_event_of events) i (OnLink Tick) (omega (arith, length-map events live_event_of)) ∙ ap (λ (e : LiveEvent). take i (map live_event_of events) ++ e ∷ []) (get_or-map live_event_of events i (rust.OnLink plain.Tick) (OnLink Tick) lt)

-- the first lines of a head, or all of them
module _ (head : Head) (day : IsJournalDay head.day) where
  first_lines : (k : ℕ) (octets : List ℕ) → whole_lines octets ≡ take k (lines_of head []) → k ≤ 3 → IsUnbegun head octets
  first_lines zero octets are few = inl (ap (journal_events (wanted_of head)) are)
  first_lines (suc zero) octets are few = inl (ap (journal_events (wanted_of head)) are ∙ ap (λ (r : Result Version JournalFault). events_after r (take 1 (lines_of head []))) (one_line (wanted_of head) head (own head) day Dated (read_anywhere (Some head.day))))
  first_lines (suc (suc zero)) octets are few = inl (ap (journal_events (wanted_of head)) are ∙ ap (λ (r : Result Version JournalFault). events_after r (take 2 (lines_of head []))) (two_lines (wanted_of head) head (own head) day Dated (read_anywhere (Some head.day)) refl))
  first_lines (suc (suc (suc zero))) octets are few = inr (ap (journal_events (wanted_of head)) are ∙ lines_read Dated (wanted_of head) head [] (read_anywhere (Some head.day)) (own head) day tt)
  first_lines (suc (suc (suc (suc k)))) octets are few = absurd (omega (arith, few))

  pub head_prefix : (n : ℕ) → IsUnbegun head (take n (journal_text head []))
  head_prefix n =
      let f = prefix_of (lines_of head []) n (lines_without_lf Dated head [] day tt) in
      first_lines f.count (take n (journal_text head [])) f.are f.within
