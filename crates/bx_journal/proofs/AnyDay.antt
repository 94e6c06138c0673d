-- Where no day is wanted, no journal is of another day.
use Rattle.std.proofs.Common.{codes, ◌≡◌, ◌∙◌, ◌==◌, ℕ, ◌+◌, Bool, true, false, cond, List, [], ◌∷◌, take, drop, Option, Some, None, Result, Ok, Err, refl, ap, sym}
use Rattle.std.specs.Str.{bytes_eq}
use Rattle.bx_events.specs.Events.{LiveEvent}
use Rattle.bx_journal.specs.declared.fault.JournalFault.{JournalFault}
use Rattle.bx_journal.specs.declared.fault.JournalFault.TheVariants.{BadLine, OtherPlan, OtherDay, OtherRules}
use Rattle.bx_journal.specs.declared.head.JournalDay.{JournalDay}
use Rattle.bx_journal.specs.declared.head.TheConstants.{RULES, OLDER_RULES}
use Rattle.bx_journal.specs.declared.head.Wanted.{Wanted}
use Rattle.bx_journal.specs.declared.version.Version.{Version}
use Rattle.bx_journal.specs.declared.version.Version.TheVariants.{Undated, Older, Dated}
use Rattle.bx_journal.specs.Versions.{has_day, head_size}
use Rattle.bx_journal.specs.Lines.{whole_lines}
use Rattle.bx_journal.specs.Numbers.{number_on}
use Rattle.bx_journal.specs.Text.{plan_line}
use Rattle.bx_journal.specs.Reading.{event_on, with_event, events_on, older_version, dated_by, version_on, is_plan_line, plan_on, day_on, fits_day, after_day, dated_head, after_plan, after_version, head_on, events_after, recovered}

abbrev err_of : {T : Type 0} → JournalFault → Result T JournalFault
err_of f = Err f

of_old : (w : Version) (day : Option JournalDay) → older_version w day ≡ err_of OtherDay → ⊥
of_old w None e = absurd cc
of_old w (Some day) e = absurd cc

of_rules : (s t : Bool) (day : Option JournalDay) → cond s (Ok Dated) (cond t (older_version Older day) (Err OtherRules)) ≡ err_of OtherDay → ⊥
of_rules true t day e = absurd cc
of_rules false true day e = of_old Older day e
of_rules false false day e = absurd cc

by_tests : (a b : Bool) (day : Option JournalDay) (o : Option ℕ) → cond a (older_version Undated day) (cond b (dated_by day o) (Err (BadLine 1))) ≡ err_of OtherDay → ⊥
by_tests true b day o e = of_old Undated day e
by_tests false true day None e = absurd cc
by_tests false true day (Some n) e = of_rules (n == RULES) (n == OLDER_RULES) day e
by_tests false false day o e = absurd cc

version_other : (day : Option JournalDay) (line : List ℕ) → version_on day line ≡ err_of OtherDay → ⊥
version_other day line e = by_tests (bytes_eq line (codes "bx-journal 1")) (bytes_eq (take 19 line) (codes "bx-journal 2 rules ")) day (number_on (drop 19 line)) e

by_plan : (a b : Bool) → cond a (Ok tt) (Err (cond b OtherPlan (BadLine 2))) ≡ err_of {T = Unit {0}} OtherDay → ⊥
by_plan true b e = absurd cc
by_plan false true e = absurd cc
by_plan false false e = absurd cc

plan_other : (plan line : List ℕ) → plan_on plan line ≡ err_of OtherDay → ⊥
plan_other plan line e = by_plan (bytes_eq line (plan_line plan)) (is_plan_line line) e

any_fits : (o : Option JournalDay) → fits_day None o ≡ err_of OtherDay → ⊥
any_fits None e = absurd cc
any_fits (Some day) e = absurd cc

same_fault : (f g : JournalFault) → err_of {T = Version} f ≡ err_of g → f ≡ g
same_fault f g e = cc

module _ (wanted : Wanted) (any : wanted.day ≡ None) where
  third : (v : Version) (line : List ℕ) (r : Result (Unit {0}) JournalFault) → fits_day wanted.day (day_on line) ≡ r → after_day v r ≡ err_of OtherDay → ⊥
  third v line (Ok x) is e = absurd cc
  third v line (Err f) is e = any_fits (day_on line) (ap (λ (d : Option JournalDay). fits_day d (day_on line)) (sym any) ∙ is ∙ ap err_of (same_fault f OtherDay e))

  second : (v : Version) (line : List ℕ) (lines : List (List ℕ)) (r : Result (Unit {0}) JournalFault) → plan_on wanted.plan line ≡ r → after_plan wanted.day r v lines ≡ err_of OtherDay → ⊥
  second v line lines (Err f) is e = plan_other wanted.plan line (is ∙ ap err_of (same_fault f OtherDay e))
  second v line lines (Ok x) is e = told (has_day v) lines e where
    told : (t : Bool) (lines : List (List ℕ)) → cond t (dated_head v wanted.day lines) (Ok v) ≡ err_of OtherDay → ⊥
    told false lines e = absurd cc
    told true [] e = absurd cc
    told true (l3 ∷ rest) e = third v l3 (fits_day wanted.day (day_on l3)) refl e

  first : (line : List ℕ) (lines : List (List ℕ)) (r : Result Version JournalFault) → version_on wanted.day line ≡ r → after_version wanted r lines ≡ err_of OtherDay → ⊥
  first line lines (Err f) is e = version_other wanted.day line (is ∙ ap err_of (same_fault f OtherDay e))
  first line [] (Ok v) is e = absurd cc
  first line (l2 ∷ lines) (Ok v) is e = second v l2 lines (plan_on wanted.plan l2) refl e

  head_other : (lines : List (List ℕ)) → head_on wanted lines ≡ err_of OtherDay → ⊥
  head_other [] e = absurd cc
  head_other (line ∷ lines) e = first line lines (version_on wanted.day line) refl e

  one : (n : ℕ) (o : Option LiveEvent) (r : Result (List LiveEvent) JournalFault) → (r ≡ err_of OtherDay → ⊥) → with_event n o r ≡ err_of OtherDay → ⊥
  one n None r none e = absurd cc
  one n (Some event) (Ok events) none e = absurd cc
  one n (Some event) (Err f) none e = none e

  events_other : (v : Version) (n : ℕ) (lines : List (List ℕ)) → events_on v n lines ≡ err_of OtherDay → ⊥
  events_other v n [] e = absurd cc
  events_other v n (line ∷ lines) e = one n (event_on v line) (events_on v (n + 1) lines) (λ is. events_other v (n + 1) lines is) e

  by_head : (lines : List (List ℕ)) (r : Result Version JournalFault) → head_on wanted lines ≡ r → events_after r lines ≡ err_of OtherDay → ⊥
  by_head lines (Ok v) is e = events_other v (head_size v + 1) (drop (head_size v) lines) e
  by_head lines (Err f) is e = head_other lines (is ∙ ap err_of (same_events_fault f OtherDay e)) where
    same_events_fault : (f g : JournalFault) → err_of {T = List LiveEvent} f ≡ err_of g → f ≡ g
    same_events_fault f g e = cc

  pub never_other_day : (text : List ℕ) → recovered wanted text ≡ Err OtherDay → ⊥
  never_other_day text e = by_head (whole_lines text) (head_on wanted (whole_lines text)) refl e
