-- One head and one list of events have one text, and no head is taken for another.
use Rattle.std.proofs.Common.{◌≡◌, ◌<◌, true, List, [], ◌++◌, ◌∷◌, ℕ, get_or, drop, map, Some, Ok, Err, Result, refl, arith, ap, sym, ◌∙◌}
use Rattle.std.proofs.lemmas.List.{append-nil}
use Rattle.bx_events.specs.Events.{LiveEvent}
use Rattle.bx_journal.specs.declared.fault.JournalFault.{JournalFault}
use Rattle.bx_journal.specs.declared.fault.JournalFault.TheVariants.{OtherRules}
use Rattle.bx_journal.specs.declared.head.Head.{Head}
use Rattle.bx_journal.specs.declared.head.JournalDay.{JournalDay}
use Rattle.bx_journal.specs.declared.head.Wanted.{Wanted}
use Rattle.bx_journal.specs.Events.{AreOctets, AreEvents}
use Rattle.bx_journal.specs.Heads.{IsJournalDay, IsWanted, wanted_of}
use Rattle.bx_journal.specs.Hex.{hex_of, octets_of_digits}
use Rattle.bx_journal.specs.declared.head.TheConstants.{RULES, OLDER_RULES}
use Rattle.bx_journal.specs.declared.version.Version.{Version}
use Rattle.bx_journal.specs.declared.version.Version.TheVariants.{Dated}
use Rattle.bx_journal.specs.Versions.{is_older}
use Rattle.bx_journal.specs.Inside.{HasNoLf, lines_of}
use Rattle.bx_journal.specs.Lines.{whole_lines, line_ended}
use Rattle.bx_journal.specs.Text.{line_of, rules_line, version_line, journal_text}
use Rattle.bx_journal.specs.Reading.{Recovery, day_on, version_on, after_version, events_on, events_after, recovered, journal_events, journal_in}
use Rattle.bx_journal.proofs.Digits.{octets_read}
use Rattle.bx_journal.proofs.DayLines.{rules_without_lf, first_without_lf, first_refused, rules_refused, day_read}
use Rattle.bx_journal.proofs.WholeLines.{lines_whole, line_first}
use Rattle.bx_journal.proofs.ReadAgain.{read_anywhere, lines_without_lf, lines_read, events_read}
use Rattle.bx_journal.proofs.Spelled.{own_lines, own_spelled}

whole : (head : Head) (es : List LiveEvent) → IsJournalDay head.day → AreEvents es → whole_lines (journal_text head es) ≡ lines_of head es
whole head es day are = ap whole_lines (sym (append-nil (journal_text head es))) ∙ lines_whole (lines_of head es) [] (lines_without_lf Dated head es day are) refl

abbrev the_ok : List LiveEvent → Result (List LiveEvent) JournalFault
the_ok es = Ok es

same_events : (a b : List LiveEvent) → the_ok a ≡ the_ok b → a ≡ b
same_events a b e = cc

same_plan : (p q : List ℕ) → Some p ≡ Some q → p ≡ q
same_plan p q e = cc

same_day : (p q : JournalDay) → Some p ≡ Some q → p ≡ q
same_day p q e = cc

same_head : (p q : Head) → p.plan ≡ q.plan → p.day ≡ q.day → p ≡ q
same_head p q plan day = ap (λ (l : List ℕ). record { plan = l; day = p.day }) plan ∙ ap (λ (d : JournalDay). record { plan = q.plan; day = d }) day

-- by their lines
one_by : (p q : Head) (a b : List LiveEvent) → AreOctets p.plan → AreOctets q.plan → IsJournalDay p.day → IsJournalDay q.day → AreEvents a → AreEvents b → lines_of p a ≡ lines_of q b → (p ≡ q) × (a ≡ b)
one_by p q a b p_are q_are p_day q_day a_are b_are lines =
    let digits : hex_of 97 p.plan ≡ hex_of 97 q.plan = ap (λ (ls : List (List ℕ)). drop 5 (get_or ls 1 [])) lines in
    let plan : p.plan ≡ q.plan = same_plan p.plan q.plan (sym (octets_read 97 (omega arith) p.plan p_are) ∙ ap (octets_of_digits 97) digits ∙ octets_read 97 (omega arith) q.plan q_are) in
    let day : p.day ≡ q.day = same_day p.day q.day (sym (day_read p.day p_day) ∙ ap (λ (ls : List (List ℕ)). day_on (get_or ls 2 [])) lines ∙ day_read q.day q_day) in
    let events : map line_of a ≡ map line_of b = ap (λ (ls : List (List ℕ)). drop 3 ls) lines in
    (same_head p q plan day, same_events a b (sym (events_read Dated 4 a a_are) ∙ ap (events_on Dated 4) events ∙ events_read Dated 4 b b_are))

pub one : (p q : Head) (a b : List LiveEvent) → AreOctets p.plan → AreOctets q.plan → IsJournalDay p.day → IsJournalDay q.day → AreEvents a → AreEvents b → journal_text p a ≡ journal_text q b → (p ≡ q) × (a ≡ b)
one p q a b p_are q_are p_day q_day a_are b_are same = one_by p q a b p_are q_are p_day q_day a_are b_are (sym (whole p a p_day a_are) ∙ ap whole_lines same ∙ whole q b q_day b_are)

-- what is read where a head is wanted was written with it
pub own_head : (p q : Head) (torn : List ℕ) (es : List LiveEvent) (r : Recovery) → AreOctets p.plan → AreOctets q.plan → IsJournalDay p.day → AreEvents es → whole_lines torn ≡ [] → journal_in (wanted_of q) (journal_text p es ++ torn) ≡ Ok r → p ≡ q
own_head p q torn es r p_are q_are p_day are t e =
    let read = own_spelled q (journal_text p es ++ torn) r e in
    let lines = lines_whole (lines_of p es) torn (lines_without_lf Dated p es p_day are) t in
    (one_by p q es r.events p_are q_are p_day read.day are read.events (sym lines ∙ read.lines)).0

-- a first line that is refused
refused : (wanted : Wanted) (line following : List ℕ) → HasNoLf line → version_on wanted.day line ≡ Err OtherRules → recovered wanted (line_ended line ++ following) ≡ Err OtherRules
refused wanted line following none is =
    ap (journal_events wanted) (line_first line following none)
    ∙ ap (λ (r : Result Version JournalFault). events_after (after_version wanted r (whole_lines following)) (line ∷ whole_lines following)) is

pub older_none : (wanted : Wanted) (day : JournalDay) (v : Version) (following : List ℕ) → wanted.day ≡ Some day → is_older v ≡ true → recovered wanted (line_ended (version_line v) ++ following) ≡ Err OtherRules
older_none wanted day v following some older = refused wanted (version_line v) following (first_without_lf v) (first_refused v wanted.day day some older)

pub known_rules : (wanted : Wanted) (rules : ℕ) (following : List ℕ) → rules < 4294967296 → (rules ≡ RULES → ⊥) → (rules ≡ OLDER_RULES → ⊥) → recovered wanted (line_ended (rules_line rules) ++ following) ≡ Err OtherRules
known_rules wanted rules following small other older = refused wanted (rules_line rules) following (rules_without_lf rules small) (rules_refused wanted.day rules small other older)

-- what is read where a head is wanted is read alike where less is
pub with_less : (head : Head) (wanted : Wanted) (left : List ℕ) (es : List LiveEvent) → IsWanted wanted head → recovered (wanted_of head) left ≡ Ok es → recovered wanted left ≡ Ok es
with_less head wanted left es is e =
    let own = own_lines head (whole_lines left) es e in
    ap (journal_events wanted) own.0 ∙ lines_read Dated wanted head es (read_anywhere wanted.day) is own.1 own.2
