-- The text of events is read as these events, whatever prefix of a line stands after it.
use Rattle.bx_events.specs.declared.amendment.Amendment.{Amendment}
use Rattle.bx_events.specs.declared.amendment.Amendment.TheVariants.{Sold, Cancelled, Changed, SoldByRulesTwo, Delayed, Dropped, Out}
use Rattle.bx_events.specs.declared.rules.Rules.TheVariants.{Two, Three}
use Rattle.std.proofs.Common.{◌≡◌, ◌==◌, ◌≤◌, nat_le, ℕ, ◌+◌, Bool, true, false, cond, arith, Option, drop, List, [], ◌∷◌, ◌++◌, length, map, Some, Result, Ok, refl, ap, sym, ◌∙◌, subst}
use Rattle.std.specs.List.{flat_map, list_all}
use Rattle.bx_events.specs.Events.{Tick, Receive, LiveEvent, OnLink, WithoutLink, Amended, HeardByRulesTwo}
use Rattle.bx_journal.specs.declared.version.Version.{Version}
use Rattle.bx_journal.specs.declared.version.Version.TheVariants.{Dated}
use Rattle.bx_journal.specs.Versions.{has_day, head_size, IsReadWhere}
use Rattle.bx_journal.specs.Events.{is_printable, IsEventIn, AreEvents, AreEventsIn}
use Rattle.bx_journal.specs.Lines.{whole_lines, whole_text, line_ended}
use Rattle.bx_journal.specs.Inside.{HasNoLf, HaveNoLf}
use Rattle.bx_journal.specs.Heads.{IsJournalDay, IsWanted, wanted_of}
use Rattle.bx_journal.specs.declared.head.JournalDay.{JournalDay}
use Rattle.bx_journal.specs.Text.{amendment_word, line_of, version_line, plan_line, day_line, lines_in, journal_text}
use Rattle.bx_journal.specs.Reading.{event_on, events_on, events_after, journal_events, recovered, journal_in, with_whole, IsJournalText}
use Rattle.bx_journal.specs.declared.fault.JournalFault.{JournalFault}
use Rattle.bx_journal.specs.declared.head.Head.{Head}
use Rattle.bx_journal.specs.declared.head.Wanted.{Wanted}
use Rattle.std.proofs.lemmas.Bool.{le-leb, leb-true, ne_eqb, and_parts}
use Rattle.bx_journal.specs.Hex.{hex_of}
use Rattle.bx_journal.proofs.Digits.{hex_without_lf, octets_read, hex_length}
use Rattle.bx_journal.proofs.WholeLines.{lines_whole}
use Rattle.bx_journal.proofs.DayLines.{first_without_lf, day_without_lf}
use Rattle.bx_journal.proofs.HeadLines.{head_read}

-- printable octets end no line
printable_clean : (octet : ℕ) → is_printable octet ≡ true → octet == 10 ≡ false
printable_clean octet h = let p = and_parts (nat_le 32 octet) (nat_le octet 126) h in let low : 32 ≤ octet = leb-true 32 octet p.0 in ne_eqb octet 10 (λ e. omega (arith, low, e))

printable_without_lf : (octets : List ℕ) → list_all is_printable octets ≡ true → HasNoLf octets
printable_without_lf [] h = tt
printable_without_lf (octet ∷ octets) h = let p = and_parts (is_printable octet) (list_all is_printable octets) h in (printable_clean octet p.0, printable_without_lf octets p.1)

-- a line that amends the plan, by what it has behind its word
amended_without_lf : (kind : Amendment) (line : List ℕ) → HasNoLf line → HasNoLf (amendment_word kind ++ line)
amended_without_lf Sold line none = (refl, (refl, (refl, (refl, (refl, none)))))
amended_without_lf Cancelled line none = (refl, (refl, (refl, (refl, (refl, (refl, (refl, (refl, (refl, (refl, none))))))))))
amended_without_lf Changed line none = (refl, (refl, (refl, (refl, (refl, (refl, (refl, (refl, none))))))))
amended_without_lf SoldByRulesTwo line none = (refl, (refl, (refl, (refl, (refl, none)))))
amended_without_lf Delayed line none = (refl, (refl, (refl, (refl, (refl, (refl, (refl, (refl, none))))))))
amended_without_lf Dropped line none = (refl, (refl, (refl, (refl, (refl, (refl, (refl, (refl, none))))))))
amended_without_lf Out line none = (refl, (refl, (refl, (refl, none))))

pub line_without_lf : (v : Version) (e : LiveEvent) → IsEventIn v e → HasNoLf (line_of e)
line_without_lf v (OnLink Tick) is = (refl, (refl, (refl, (refl, tt))))
line_without_lf v (OnLink (Receive octets)) is = (refl, (refl, (refl, (refl, (refl, (refl, hex_without_lf 65 (omega arith) octets))))))
line_without_lf v (WithoutLink rules) is = (refl, (refl, (refl, (refl, tt))))
line_without_lf v (Amended kind line) is = amended_without_lf kind line (printable_without_lf line is.1.1.1)
line_without_lf v (HeardByRulesTwo octets) is = (refl, (refl, (refl, (refl, (refl, (refl, hex_without_lf 65 (omega arith) octets))))))

pub event_lines : (v : Version) (es : List LiveEvent) → AreEventsIn v es → HaveNoLf (map line_of es)
event_lines v [] are = tt
event_lines v (e ∷ es) are = (line_without_lf v e are.0, event_lines v es are.1)

pub plan_without_lf : (plan : List ℕ) → HasNoLf (plan_line plan)
plan_without_lf plan = (refl, (refl, (refl, (refl, (refl, hex_without_lf 97 (omega arith) plan)))))

after_plan_without_lf : (t : Bool) (day : JournalDay) (lines : List (List ℕ)) → IsJournalDay day → HaveNoLf lines → HaveNoLf (cond t (day_line day ∷ []) [] ++ lines)
after_plan_without_lf true day lines is none = (day_without_lf day is, none)
after_plan_without_lf false day lines is none = none

pub lines_without_lf : (v : Version) (head : Head) (es : List LiveEvent) → IsJournalDay head.day → AreEventsIn v es → HaveNoLf (lines_in v head es)
lines_without_lf v head es day are = (first_without_lf v, (plan_without_lf head.plan, after_plan_without_lf (has_day v) head.day (map line_of es) day (event_lines v es are)))

pub event_read : (v : Version) (e : LiveEvent) → IsEventIn v e → event_on v (line_of e) ≡ Some e
event_read v (OnLink Tick) is = refl
event_read v (OnLink (Receive octets)) is =
    rw (le-leb (length (hex_of 65 octets)) 520 (omega (arith, hex_length 65 octets, is.1.1)), octets_read 65 (omega arith) octets is.0, is.1.0) refl
event_read v (WithoutLink Two) is = rw (is.1) refl
event_read v (WithoutLink Three) is = rw (is.1) refl
event_read v (Amended Sold line) is = rw (is.1.0, le-leb (length line) 200 is.1.1.0, is.1.1.1) refl
event_read v (Amended Cancelled line) is = rw (is.1.0, le-leb (length line) 200 is.1.1.0, is.1.1.1) refl
event_read v (Amended Changed line) is = rw (is.1.0, le-leb (length line) 200 is.1.1.0, is.1.1.1) refl
event_read v (Amended SoldByRulesTwo line) is = rw (is.1.0, le-leb (length line) 200 is.1.1.0, is.1.1.1) refl
event_read v (Amended Delayed line) is = rw (is.1.0, le-leb (length line) 200 is.1.1.0, is.1.1.1) refl
event_read v (Amended Dropped line) is = rw (is.1.0, le-leb (length line) 200 is.1.1.0, is.1.1.1) refl
event_read v (Amended Out line) is = rw (is.1.0, le-leb (length line) 200 is.1.1.0, is.1.1.1) refl
event_read v (HeardByRulesTwo octets) is =
    rw (le-leb (length (hex_of 65 octets)) 520 (omega (arith, hex_length 65 octets, is.1.1)), octets_read 65 (omega arith) octets is.0, is.1.0) refl

pub events_read : (v : Version) (n : ℕ) (es : List LiveEvent) → AreEventsIn v es → events_on v n (map line_of es) ≡ Ok es
events_read v n [] are = refl
events_read v n (e ∷ es) are = rw (event_read v e are.0, events_read v (n + 1) es are.1) refl

-- what lines are read as, whatever stands after them that no LF ends
module _ (wanted : Wanted) (lines : List (List ℕ)) (es : List LiveEvent) (torn : List ℕ) (none : HaveNoLf lines) (read : journal_events wanted lines ≡ Ok es) (t : whole_lines torn ≡ []) where
  pub lines_again : recovered wanted (flat_map line_ended lines ++ torn) ≡ Ok es
  lines_again = ap (journal_events wanted) (lines_whole lines torn none t) ∙ read

  pub journal_lines_again : journal_in wanted (flat_map line_ended lines ++ torn) ≡ Ok (record { events = es; whole = length (flat_map line_ended lines) })
  journal_lines_again =
      ap (with_whole (length (whole_text (flat_map line_ended lines ++ torn)))) lines_again
      ∙ ap (λ (ls : List (List ℕ)). Ok (record { events = es; whole = length (flat_map line_ended ls) })) (lines_whole lines torn none t)

-- what stands after the head
pub after_head : (t : Bool) (first plan day : List ℕ) (lines : List (List ℕ)) → drop (cond t 3 2) (first ∷ plan ∷ (cond t (day ∷ []) [] ++ lines)) ≡ lines
after_head true first plan day lines = refl
after_head false first plan day lines = refl

pub lines_read : (v : Version) (wanted : Wanted) (head : Head) (es : List LiveEvent) → IsReadWhere v wanted.day → IsWanted wanted head → IsJournalDay head.day → AreEventsIn v es → journal_events wanted (lines_in v head es) ≡ Ok es
lines_read v wanted head es read is day are =
    ap (λ (r : Result Version JournalFault). events_after r (lines_in v head es)) (head_read wanted head is day v read (map line_of es))
    ∙ ap (events_on v (head_size v + 1)) (after_head (has_day v) (version_line v) (plan_line head.plan) (day_line head.day) (map line_of es))
    ∙ events_read v (head_size v + 1) es are

-- its own head is wanted
pub own : (head : Head) → IsWanted (wanted_of head) head
own head = record { plan = refl; day = refl }

-- the journals that are written are read wherever one is
pub read_anywhere : (wanted : Option JournalDay) → IsReadWhere Dated wanted
read_anywhere wanted older = absurd cc

module _ (head : Head) (es : List LiveEvent) (torn : List ℕ) (day : IsJournalDay head.day) (are : AreEvents es) (t : whole_lines torn ≡ []) where
  lines_own : journal_events (wanted_of head) (lines_in Dated head es) ≡ Ok es
  lines_own = lines_read Dated (wanted_of head) head es (read_anywhere (Some head.day)) (own head) day are

  pub recovered_again : recovered (wanted_of head) (journal_text head es ++ torn) ≡ Ok es
  recovered_again = lines_again (wanted_of head) (lines_in Dated head es) es torn (lines_without_lf Dated head es day are) lines_own t

  pub journal_again : journal_in (wanted_of head) (journal_text head es ++ torn) ≡ Ok (record { events = es; whole = length (journal_text head es) })
  journal_again = journal_lines_again (wanted_of head) (lines_in Dated head es) es torn (lines_without_lf Dated head es day are) lines_own t

-- a text that is wanted
pub wanted_again : (wanted : Wanted) (text torn : List ℕ) (es : List LiveEvent) → IsJournalText wanted es text → whole_lines torn ≡ [] → journal_in wanted (text ++ torn) ≡ Ok (record { events = es; whole = length text })
wanted_again wanted text torn es of t =
    let lines = lines_in of.version of.head es in
    subst (λ (l : List ℕ). journal_in wanted (l ++ torn) ≡ Ok (record { events = es; whole = length l })) (sym of.is)
    (journal_lines_again wanted lines es torn (lines_without_lf of.version of.head es of.is_day of.events_are) (lines_read of.version wanted of.head es of.is_read of.is_wanted of.is_day of.events_are) t)
