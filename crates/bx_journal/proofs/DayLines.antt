-- The lines of rules and of days are written and read without loss.
use Rattle.std.proofs.Common.{codes, ◌≡◌, ◌⊎◌, inl, inr, ℕ, ◌+◌, ◌<◌, ◌≤◌, ◌==◌, Bool, true, false, cond, leb, List, [], ◌∷◌, ◌++◌, length, take, drop, Option, Some, None, Result, Ok, Err, refl, ap, sym, ◌∙◌, subst, append_assoc, arith, length-append, take-append-drop}
use Rattle.std.specs.Prelude.{decimal}
use Rattle.std.specs.Str.{bytes_eq}
use Rattle.std.proofs.lemmas.List.{take_at, drop_at, length-drop}
use Rattle.std.proofs.lemmas.Bool.{eqb-true, eq-eqb, ne_eqb, leb-true, le-leb, and_parts}
use Rattle.std.proofs.lemmas.Slice.Eq.{bytes_eq-Decides}
use Rattle.bx_journal.specs.declared.fault.JournalFault.{JournalFault}
use Rattle.bx_journal.specs.declared.fault.JournalFault.TheVariants.{BadLine, OtherPlan, OtherDay, OtherRules, NotBegun, ReadFailed}
use Rattle.bx_journal.specs.declared.head.JournalDay.{JournalDay}
use Rattle.bx_journal.specs.declared.head.JournalDay.TheVariants.{Rehearsed, Live}
use Rattle.bx_journal.specs.declared.head.TheConstants.{RULES, OLDER_RULES}
use Rattle.bx_journal.specs.declared.version.Version.{Version}
use Rattle.bx_journal.specs.declared.version.Version.TheVariants.{Undated, Older, Dated}
use Rattle.bx_journal.specs.Versions.{is_older, IsReadWhere}
use Rattle.bx_journal.specs.Heads.{IsJournalDay, IsWantedDay}
use Rattle.bx_journal.specs.Inside.{HasNoLf}
use Rattle.bx_journal.specs.Numbers.{number_on, space_at}
use Rattle.bx_journal.specs.Hex.{hex_of}
use Rattle.bx_journal.specs.Text.{rules_line, version_line, plan_line, day_line}
use Rattle.bx_journal.specs.Reading.{older_version, dated_by, version_on, is_plan_line, plan_on, live_of, live_on, day_on, is_day, fits_day}
use Rattle.bx_journal.proofs.NumbersRead.{IsNumberOf, decimal_digits, number_read, number_spelled, decimal_short, none_long, decimal_without_lf, space_after, space_parts, decimal_some}
use Rattle.bx_journal.proofs.Digits.{hex_length}
use Rattle.bx_journal.proofs.Takings.{no_lf_on}

-- ---- rules

pub rules_without_lf : (rules : ℕ) → rules < 4294967296 → HasNoLf (rules_line rules)
rules_without_lf rules small = (refl, (refl, (refl, (refl, (refl, (refl, (refl, (refl, (refl, (refl, (refl, (refl, (refl, (refl, (refl, (refl, (refl, (refl, (refl, decimal_without_lf rules small)))))))))))))))))))

small_rules : RULES < 4294967296
small_rules = omega arith

small_older : OLDER_RULES < 4294967296
small_older = omega arith

pub first_without_lf : (v : Version) → HasNoLf (version_line v)
first_without_lf Undated = (refl, (refl, (refl, (refl, (refl, (refl, (refl, (refl, (refl, (refl, (refl, (refl, tt))))))))))))
first_without_lf Older = rules_without_lf OLDER_RULES small_older
first_without_lf Dated = rules_without_lf RULES small_rules

-- where it is read
pub first_read : (v : Version) (day : Option JournalDay) → IsReadWhere v day → version_on day (version_line v) ≡ Ok v
first_read Undated day read = ap (older_version Undated) (read refl)
first_read Older day read = ap (dated_by day) (number_read OLDER_RULES small_older) ∙ ap (older_version Older) (read refl)
first_read Dated day read = ap (dated_by day) (number_read RULES small_rules)

-- and where it is not
pub first_refused : (v : Version) (wanted : Option JournalDay) (day : JournalDay) → wanted ≡ Some day → is_older v ≡ true → version_on wanted (version_line v) ≡ Err OtherRules
first_refused Undated wanted day some older = ap (older_version Undated) some
first_refused Older wanted day some older = ap (dated_by wanted) (number_read OLDER_RULES small_older) ∙ ap (older_version Older) some
first_refused Dated wanted day some older = absurd cc

-- other rules
pub rules_refused : (day : Option JournalDay) (rules : ℕ) → rules < 4294967296 → (rules ≡ RULES → ⊥) → (rules ≡ OLDER_RULES → ⊥) → version_on day (rules_line rules) ≡ Err OtherRules
rules_refused day rules small other older = ap (dated_by day) (number_read rules small) ∙ (rw (ne_eqb rules RULES other, ne_eqb rules OLDER_RULES older) refl)

abbrev pub ok_version : Version → Result Version JournalFault
ok_version v = Ok v

version_inj : (v w : Version) → ok_version v ≡ ok_version w → v ≡ w
version_inj v w e = cc

-- what a first line is that has no fault
pub record IsFirstLine (day : Option JournalDay) (line : List ℕ) (v : Version) : Type 0 where
  pub is : line ≡ version_line v
  pub is_read : IsReadWhere v day

by_older : (w : Version) (day : Option JournalDay) (line : List ℕ) (v : Version) → line ≡ version_line w → older_version w day ≡ Ok v → IsFirstLine day line v
by_older w None line v is e = subst (IsFirstLine None line) (version_inj _ _ e) (record { is = is; is_read = λ older. refl })
by_older w (Some day) line v is e = absurd cc

spelled_by : (line : List ℕ) (n rules : ℕ) → n == rules ≡ true → number_on (drop 19 line) ≡ Some n → take 19 line ≡ codes "bx-journal 2 rules " → line ≡ rules_line rules
spelled_by line n rules same some word =
    let spelled : drop 19 line ≡ decimal rules = (number_spelled (drop 19 line) n some).spelled ∙ ap (λ (k : ℕ). decimal k) (eqb-true n rules same) in
    sym (take-append-drop 19 line) ∙ ap (λ (l : List ℕ). l ++ drop 19 line) word ∙ ap (λ (l : List ℕ). codes "bx-journal 2 rules " ++ l) spelled

by_number : (s t : Bool) (day : Option JournalDay) (line : List ℕ) (n : ℕ) (v : Version) → n == RULES ≡ s → n == OLDER_RULES ≡ t → number_on (drop 19 line) ≡ Some n → take 19 line ≡ codes "bx-journal 2 rules "
    → cond s (Ok Dated) (cond t (older_version Older day) (Err OtherRules)) ≡ Ok v → IsFirstLine day line v
by_number true t day line n v same older some word e = subst (IsFirstLine day line) (version_inj _ _ e) (record { is = spelled_by line n RULES same some word; is_read = λ none. absurd cc })
by_number false true day line n v other older some word e = by_older Older day line v (spelled_by line n OLDER_RULES older some word) e
by_number false false day line n v other unknown some word e = absurd cc

by_rules : (day : Option JournalDay) (line : List ℕ) (o : Option ℕ) (v : Version) → number_on (drop 19 line) ≡ o → take 19 line ≡ codes "bx-journal 2 rules " → dated_by day o ≡ Ok v → IsFirstLine day line v
by_rules day line None v is word e = absurd cc
by_rules day line (Some n) v is word e = by_number (n == RULES) (n == OLDER_RULES) day line n v refl refl is word e

by_words : (a b : Bool) (day : Option JournalDay) (line : List ℕ) (v : Version) → bytes_eq line (codes "bx-journal 1") ≡ a → bytes_eq (take 19 line) (codes "bx-journal 2 rules ") ≡ b
    → cond a (older_version Undated day) (cond b (dated_by day (number_on (drop 19 line))) (Err (BadLine 1))) ≡ Ok v → IsFirstLine day line v
by_words true b day line v first word e = by_older Undated day line v ((bytes_eq-Decides line (codes "bx-journal 1")).0 first) e
by_words false true day line v first word e = by_rules day line (number_on (drop 19 line)) v refl ((bytes_eq-Decides (take 19 line) (codes "bx-journal 2 rules ")).0 word) e
by_words false false day line v first word e = absurd cc

pub version_spelled : (day : Option JournalDay) (line : List ℕ) (v : Version) → version_on day line ≡ Ok v → IsFirstLine day line v
version_spelled day line v e = by_words (bytes_eq line (codes "bx-journal 1")) (bytes_eq (take 19 line) (codes "bx-journal 2 rules ")) day line v refl refl e

-- ---- days

pub day_without_lf : (day : JournalDay) → IsJournalDay day → HasNoLf (day_line day)
day_without_lf Rehearsed is = (refl, (refl, (refl, (refl, (refl, (refl, (refl, (refl, (refl, (refl, (refl, (refl, (refl, tt)))))))))))))
day_without_lf (Live first pace) is =
    no_lf_on (codes "day live " ++ decimal first ++ codes " ") (decimal pace)
    (no_lf_on (codes "day live " ++ decimal first) (codes " ") (no_lf_on (codes "day live ") (decimal first) (refl, (refl, (refl, (refl, (refl, (refl, (refl, (refl, (refl, tt))))))))) (decimal_without_lf first is.0)) (refl, tt))
    (decimal_without_lf pace is.2)

live_read : (first pace : ℕ) → first < 4294967296 → 1 ≤ pace → pace < 4294967296 → live_on (decimal first ++ 32 ∷ decimal pace) ≡ Some (Live first pace)
live_read first pace small some less =
    let at : space_at (decimal first ++ 32 ∷ decimal pace) ≡ length (decimal first) = space_after (decimal first) (decimal pace) (decimal_digits first small) in
    let prefix : take (length (decimal first)) (decimal first ++ 32 ∷ decimal pace) ≡ decimal first = take_at (decimal first) (32 ∷ decimal pace) (length (decimal first)) refl in
    let rest : drop (length (decimal first) + 1) (decimal first ++ 32 ∷ decimal pace) ≡ decimal pace =
    ap (drop (length (decimal first) + 1)) (sym (append_assoc (decimal first) (32 ∷ []) (decimal pace))) ∙ drop_at (decimal first ++ 32 ∷ []) (decimal pace) (length (decimal first) + 1) (length-append (decimal first) (32 ∷ [])) in
    rw (at, prefix, rest, number_read first small, number_read pace less, le-leb 1 pace some) refl

pub day_read : (day : JournalDay) → IsJournalDay day → day_on (day_line day) ≡ Some day
day_read Rehearsed is = refl
day_read (Live first pace) is = ap live_on (append_assoc (decimal first) (32 ∷ []) (decimal pace)) ∙ live_read first pace is.0 is.1 is.2

some_day : (d e : JournalDay) → Some d ≡ Some e → d ≡ e
some_day d e same = cc

-- what a third line is that has a day
pub record IsLineOfDay (line : List ℕ) (day : JournalDay) : Type 0 where
  pub spelled : line ≡ day_line day
  pub is : IsJournalDay day

record AreNumbers (text : List ℕ) (day : JournalDay) : Type 0 where
  first : ℕ
  pace : ℕ
  spelled : text ≡ decimal first ++ 32 ∷ decimal pace
  same : Live first pace ≡ day
  is : IsJournalDay (Live first pace)

live_by : (t : Bool) (first pace : ℕ) (text : List ℕ) (day : JournalDay) → leb 1 pace ≡ t → IsNumberOf (take (space_at text) text) first → IsNumberOf (drop (space_at text + 1) text) pace → cond t (Some (Live first pace)) None ≡ Some day → AreNumbers text day
live_by true first pace text day le a b e = record { first = first; pace = pace; spelled = parted (space_parts text); same = some_day _ _ e; is = (a.small, leb-true 1 pace le, b.small) } where
  parted : (drop (space_at text + 1) text ≡ []) ⊎ (text ≡ take (space_at text) text ++ 32 ∷ drop (space_at text + 1) text) → text ≡ decimal first ++ 32 ∷ decimal pace
  parted (inl none) = absurd (decimal_some pace b.small (sym none ∙ b.spelled))
  parted (inr is) = is ∙ ap (λ (l : List ℕ). l ++ 32 ∷ drop (space_at text + 1) text) a.spelled ∙ ap (λ (l : List ℕ). decimal first ++ 32 ∷ l) b.spelled
live_by false first pace text day le a b e = absurd cc

live_numbers : (o p : Option ℕ) (text : List ℕ) (day : JournalDay) → number_on (take (space_at text) text) ≡ o → number_on (drop (space_at text + 1) text) ≡ p → live_of o p ≡ Some day → AreNumbers text day
live_numbers None p text day a b e = absurd cc
live_numbers (Some first) None text day a b e = absurd cc
live_numbers (Some first) (Some pace) text day a b e =
    live_by (leb 1 pace) first pace text day refl (number_spelled (take (space_at text) text) first a) (number_spelled (drop (space_at text + 1) text) pace b) e

by_day : (a b : Bool) (line : List ℕ) (day : JournalDay) → bytes_eq line (codes "day rehearsed") ≡ a → bytes_eq (take 9 line) (codes "day live ") ≡ b → cond a (Some Rehearsed) (cond b (live_on (drop 9 line)) None) ≡ Some day → IsLineOfDay line day
by_day true b line day is word e = subst (IsLineOfDay line) (some_day _ _ e) (record { spelled = (bytes_eq-Decides line (codes "day rehearsed")).0 is; is = tt })
by_day false true line day is word e =
    let r = live_numbers (number_on (take (space_at (drop 9 line)) (drop 9 line))) (number_on (drop (space_at (drop 9 line) + 1) (drop 9 line))) (drop 9 line) day refl refl e in
    let prefix = (bytes_eq-Decides (take 9 line) (codes "day live ")).0 word in
    let text : line ≡ day_line (Live r.first r.pace) =
    sym (take-append-drop 9 line) ∙ ap (λ (l : List ℕ). l ++ drop 9 line) prefix ∙ ap (λ (l : List ℕ). codes "day live " ++ l) (r.spelled ∙ sym (append_assoc (decimal r.first) (32 ∷ []) (decimal r.pace))) in
    subst (IsLineOfDay line) r.same (record { spelled = text; is = r.is })
by_day false false line day is word e = absurd cc

pub day_spelled : (line : List ℕ) (day : JournalDay) → day_on line ≡ Some day → IsLineOfDay line day
day_spelled line day e = by_day (bytes_eq line (codes "day rehearsed")) (bytes_eq (take 9 line) (codes "day live ")) line day refl refl e

-- ---- which day is wanted

same_day : (day : JournalDay) → is_day day day ≡ true
same_day Rehearsed = refl
same_day (Live first pace) = rw (eq-eqb first first refl, eq-eqb pace pace refl) refl

pub day_fits : (wanted : Option JournalDay) (day : JournalDay) → IsWantedDay wanted day → fits_day wanted (Some day) ≡ Ok tt
day_fits None day is = refl
day_fits (Some wanted) day is = ap (λ (d : JournalDay). fits_day (Some wanted) (Some d)) (sym is) ∙ ap (λ (b : Bool). cond b (Ok tt) (Err OtherDay)) (same_day wanted)

one_day : (a b : JournalDay) → is_day a b ≡ true → a ≡ b
one_day Rehearsed Rehearsed e = refl
one_day Rehearsed (Live first pace) e = absurd cc
one_day (Live first pace) Rehearsed e = absurd cc
one_day (Live first pace) (Live second other) e =
    let p = and_parts (first == second) (pace == other) e in
    ap (λ (n : ℕ). Live n pace) (eqb-true first second p.0) ∙ ap (λ (n : ℕ). Live second n) (eqb-true pace other p.1)

abbrev the_ok : Result (Unit {0}) JournalFault
the_ok = Ok tt

wanted_by : (t : Bool) (wanted day : JournalDay) → is_day wanted day ≡ t → cond t (Ok tt) (Err OtherDay) ≡ the_ok → wanted ≡ day
wanted_by true wanted day is e = one_day wanted day is
wanted_by false wanted day is e = absurd cc

-- what a third line is that has no fault
pub record IsThirdLine (wanted : Option JournalDay) (line : List ℕ) : Type 0 where
  pub day : JournalDay
  pub spelled : line ≡ day_line day
  pub is : IsJournalDay day
  pub fits : IsWantedDay wanted day

third_by : (wanted o : Option JournalDay) (line : List ℕ) → day_on line ≡ o → fits_day wanted o ≡ the_ok → IsThirdLine wanted line
third_by None None line is e = absurd cc
third_by (Some wanted) None line is e = absurd cc
third_by None (Some day) line is e = let s = day_spelled line day is in record { day = day; spelled = s.spelled; is = s.is; fits = tt }
third_by (Some wanted) (Some day) line is e = let s = day_spelled line day is in record { day = day; spelled = s.spelled; is = s.is; fits = wanted_by (is_day wanted day) wanted day refl e }

pub third_spelled : (wanted : Option JournalDay) (line : List ℕ) → fits_day wanted (day_on line) ≡ Ok tt → IsThirdLine wanted line
third_spelled wanted line e = third_by wanted (day_on line) line refl e

-- ---- faults

-- a fault of a line that was read
abbrev pub IsLineFault : JournalFault → Type 0
IsLineFault (BadLine n) = Unit {0}
IsLineFault OtherPlan = Unit {0}
IsLineFault OtherDay = Unit {0}
IsLineFault OtherRules = Unit {0}
IsLineFault NotBegun = ⊥
IsLineFault ReadFailed = ⊥

abbrev the_version_err : JournalFault → Result Version JournalFault
the_version_err f = Err f

abbrev the_err : JournalFault → Result (Unit {0}) JournalFault
the_err f = Err f

version_err : (f g : JournalFault) → IsLineFault f → the_version_err f ≡ the_version_err g → IsLineFault g
version_err f g is e = let same : f ≡ g = cc in subst IsLineFault same is

line_err : (f g : JournalFault) → IsLineFault f → the_err f ≡ the_err g → IsLineFault g
line_err f g is e = let same : f ≡ g = cc in subst IsLineFault same is

pub version_fault : (day : Option JournalDay) (line : List ℕ) (f : JournalFault) → version_on day line ≡ Err f → IsLineFault f
version_fault day line f e = by_tests (bytes_eq line (codes "bx-journal 1")) (bytes_eq (take 19 line) (codes "bx-journal 2 rules ")) (number_on (drop 19 line)) e where
  of_old : (w : Version) (day : Option JournalDay) → older_version w day ≡ Err f → IsLineFault f
  of_old w None e = absurd cc
  of_old w (Some day) e = version_err OtherRules f tt e

  of_rules : (s t : Bool) → cond s (Ok Dated) (cond t (older_version Older day) (Err OtherRules)) ≡ the_version_err f → IsLineFault f
  of_rules true t e = absurd cc
  of_rules false true e = of_old Older day e
  of_rules false false e = version_err OtherRules f tt e

  by_tests : (a b : Bool) (o : Option ℕ) → cond a (older_version Undated day) (cond b (dated_by day o) (Err (BadLine 1))) ≡ Err f → IsLineFault f
  by_tests true b o e = of_old Undated day e
  by_tests false true None e = version_err (BadLine 1) f tt e
  by_tests false true (Some n) e = of_rules (n == RULES) (n == OLDER_RULES) e
  by_tests false false o e = version_err (BadLine 1) f tt e

pub plan_on_fault : (plan line : List ℕ) (f : JournalFault) → plan_on plan line ≡ Err f → IsLineFault f
plan_on_fault plan line f e = by_tests (bytes_eq line (plan_line plan)) (is_plan_line line) e where
  by_tests : (a b : Bool) → cond a (Ok tt) (Err (cond b OtherPlan (BadLine 2))) ≡ the_err f → IsLineFault f
  by_tests true b e = absurd cc
  by_tests false true e = line_err OtherPlan f tt e
  by_tests false false e = line_err (BadLine 2) f tt e

pub day_fault : (wanted : Option JournalDay) (line : List ℕ) (f : JournalFault) → fits_day wanted (day_on line) ≡ Err f → IsLineFault f
day_fault wanted line f e = by_day_of wanted (day_on line) e where
  by_test : (t : Bool) → cond t (Ok tt) (Err OtherDay) ≡ the_err f → IsLineFault f
  by_test true e = absurd cc
  by_test false e = line_err OtherDay f tt e

  by_day_of : (wanted o : Option JournalDay) → fits_day wanted o ≡ Err f → IsLineFault f
  by_day_of None None e = line_err (BadLine 3) f tt e
  by_day_of (Some w) None e = line_err (BadLine 3) f tt e
  by_day_of None (Some day) e = absurd cc
  by_day_of (Some w) (Some day) e = by_test (is_day w day) e

-- ---- a line of more octets than any that is right

other_line : (line right : List ℕ) (b : Bool) → bytes_eq line right ≡ b → 526 < length line → length right ≤ 526 → b ≡ false
other_line line right false is long few = refl
other_line line right true is long few = absurd (omega (arith, long, few, ap length ((bytes_eq-Decides line right).0 is)))

pub long_other : (line right : List ℕ) → 526 < length line → length right ≤ 526 → bytes_eq line right ≡ false
long_other line right long few = other_line line right (bytes_eq line right) refl long few

either_way : (b : Bool) → cond b (Err (BadLine 1)) (Err (BadLine 1)) ≡ the_version_err (BadLine 1)
either_way true = refl
either_way false = refl

pub version_long : (day : Option JournalDay) (line : List ℕ) → 526 < length line → version_on day line ≡ Err (BadLine 1)
version_long day line long =
    let other = long_other line (codes "bx-journal 1") long (omega arith) in
    let none = none_long (drop 19 line) (omega (arith, long, length-drop 19 line)) in
    rw (other, none) (either_way (bytes_eq (take 19 line) (codes "bx-journal 2 rules ")))

pub plan_long : (plan line : List ℕ) → 526 < length line → length plan ≤ 32 → plan_on plan line ≡ Err (BadLine 2)
plan_long plan line long few =
    let other = long_other line (plan_line plan) long (omega (arith, few, length-append (codes "plan ") (hex_of 97 plan), hex_length 97 plan)) in
    rw (other, ne_eqb (length line) 69 (λ e. omega (arith, e, long))) refl

no_day : (line : List ℕ) (o : Option JournalDay) → day_on line ≡ o → 526 < length line → o ≡ None
no_day line None is long = refl
no_day line (Some day) is long = absurd (omega (arith, long, ap length (day_spelled line day is).spelled, few day (day_spelled line day is).is)) where
  few : (day : JournalDay) → IsJournalDay day → length (day_line day) ≤ 526
  few Rehearsed is = omega arith
  few (Live first pace) is =
      omega (arith, decimal_short first is.0, decimal_short pace is.2, length-append (codes "day live " ++ decimal first ++ codes " ") (decimal pace), length-append (codes "day live " ++ decimal first) (codes " "), length-append (codes "day live ") (decimal first))

pub day_long : (wanted : Option JournalDay) (line : List ℕ) → 526 < length line → fits_day wanted (day_on line) ≡ Err (BadLine 3)
day_long wanted line long = ap (fits_day wanted) (no_day line (day_on line) refl long) ∙ none_fits wanted where
  none_fits : (wanted : Option JournalDay) → fits_day wanted None ≡ Err (BadLine 3)
  none_fits None = refl
  none_fits (Some day) = refl
