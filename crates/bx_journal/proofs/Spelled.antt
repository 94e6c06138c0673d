-- What is read is spelled so.
use Rattle.bx_events.specs.declared.amendment.Amendment.{Amendment}
use Rattle.bx_events.specs.declared.amendment.Amendment.TheVariants.{Sold, Cancelled, Changed, SoldByRulesTwo, Delayed, Dropped, Out}
use Rattle.bx_events.specs.declared.rules.Rules.TheVariants.{Two, Three}
use Rattle.std.proofs.Common.{codes, ◌≡◌, ℕ, zero, suc, ◌+◌, ◌-◌, ◌*◌, ◌/◌, ◌%◌, ◌≤◌, ◌<◌, ◌==◌, ◌&&◌, Bool, true, false, cond, leb, nat_le, List, [], ◌∷◌, ◌++◌, length, take, drop, get_or, map, Option, Some, None, Result, Ok, Err, refl, ap, sym, ◌∙◌, subst, arith, length-append, take-append-drop}
use Rattle.std.specs.Str.{bytes_eq}
use Rattle.std.specs.List.{flat_map, list_all}
use Rattle.std.specs.Option.{option_map}
use Rattle.std.proofs.lemmas.List.{take_at, drop_at}
use Rattle.std.proofs.lemmas.Bool.{eqb-true, leb-true, lt-ltb, le-ltb, and_parts}
use Rattle.std.proofs.lemmas.Slice.Eq.{bytes_eq-Decides}
use Rattle.bx_events.specs.Events.{Tick, Receive, LiveEvent, OnLink, WithoutLink, Amended, HeardByRulesTwo}
use Rattle.bx_journal.specs.declared.fault.JournalFault.{JournalFault}
use Rattle.bx_journal.specs.declared.version.Version.{Version}
use Rattle.bx_journal.specs.declared.version.Version.TheVariants.{Undated, Older, Dated}
use Rattle.bx_journal.specs.Versions.{has_day, head_size, is_older, rules_of, IsReadWhere}
use Rattle.bx_journal.specs.Events.{AreOctets, HasAmendments, IsEventIn, FitsVersion, AreEvents, AreEventsIn, is_printable}
use Rattle.bx_journal.specs.Hex.{hex_digit, hex_of, hex_value, octet_of_digits, octets_of_digits, after_octet}
use Rattle.bx_journal.specs.Lines.{whole_lines, whole_text, line_ended, onto}
use Rattle.bx_journal.specs.Inside.{HasNoLf, HaveNoLf, lines_of}
use Rattle.bx_journal.specs.Text.{amendment_word, line_of, version_line, plan_line, day_line, day_lines, lines_in, journal_text}
use Rattle.bx_journal.specs.Reading.{event_on, heard_on, heard_event, amended_on, begins_as, behind_word, sale_of, change_on, amendment_on, events_on, with_event, head_on, events_after, journal_events, recovered, Recovery, journal_in, with_whole, IsJournalText}
use Rattle.bx_journal.specs.Heads.{IsJournalDay, IsWanted, wanted_of}
use Rattle.bx_journal.specs.declared.head.Head.{Head}
use Rattle.bx_journal.specs.declared.head.JournalDay.{JournalDay}
use Rattle.bx_journal.specs.declared.head.Wanted.{Wanted}
use Rattle.bx_journal.proofs.Digits.{hex_length}
use Rattle.bx_journal.proofs.WholeLines.{lines_whole, torn_line, prefix_without_lf, take_past}
use Rattle.bx_journal.proofs.HeadLines.{IsHeadOf, head_spelled}
use Rattle.bx_journal.proofs.ReadAgain.{after_head}

-- a text is its whole lines, and octets without LF
pub record Split (bytes lines : List ℕ) : Type 0 where
  pub torn : List ℕ
  pub is : bytes ≡ lines ++ torn
  pub none : HasNoLf torn

grow : (b : ℕ) (bytes : List ℕ) (lines : List (List ℕ)) → b == 10 ≡ false → Split bytes (flat_map line_ended lines) → Split (b ∷ bytes) (flat_map line_ended (onto b lines))
grow b bytes [] e s = record { torn = b ∷ s.torn; is = ap (λ (l : List ℕ). b ∷ l) s.is; none = (e, s.none) }
grow b bytes (line ∷ lines) e s = record { torn = s.torn; is = ap (λ (l : List ℕ). b ∷ l) s.is; none = s.none }

split_step : (t : Bool) (b : ℕ) (bytes : List ℕ) → b == 10 ≡ t → Split bytes (whole_text bytes) → Split (b ∷ bytes) (flat_map line_ended (cond t ([] ∷ whole_lines bytes) (onto b (whole_lines bytes))))
split_step true b bytes e s = record { torn = s.torn; is = ap (λ (x : ℕ). x ∷ bytes) (eqb-true b 10 e) ∙ ap (λ (l : List ℕ). 10 ∷ l) s.is; none = s.none }
split_step false b bytes e s = grow b bytes (whole_lines bytes) e s

pub split : (bytes : List ℕ) → Split bytes (whole_text bytes)
split [] = record { torn = []; is = refl; none = tt }
split (b ∷ bytes) = split_step (b == 10) b bytes refl (split bytes)

-- digits
pub record IsDigitOf (ten d v : ℕ) : Type 0 where
  pub spelled : hex_digit ten v ≡ d
  pub small : v < 16

some_inj : {A : Type 0} (x y : A) → Some x ≡ Some y → x ≡ y
some_inj x y e = cc

letters : (c d : Bool) (ten digit v : ℕ) → leb ten digit ≡ c → leb digit (ten + 5) ≡ d → cond (c && d) (Some (digit - ten + 10)) None ≡ Some v → IsDigitOf ten digit v
letters true true ten digit v c d e =
    let a = leb-true ten digit c in
    let b = leb-true digit (ten + 5) d in
    let is : digit - ten + 10 ≡ v = some_inj _ _ e in
    record { spelled = rw (le-ltb v 10 (omega arith)) (omega arith); small = omega arith }
letters true false ten digit v c d e = absurd cc
letters false d ten digit v c e f = absurd cc

digits : (a b : Bool) (ten digit v : ℕ) → leb 48 digit ≡ a → leb digit 57 ≡ b → cond (a && b) (Some (digit - 48)) (cond (leb ten digit && leb digit (ten + 5)) (Some (digit - ten + 10)) None) ≡ Some v → IsDigitOf ten digit v
digits true true ten digit v a b e =
    let c = leb-true 48 digit a in
    let d = leb-true digit 57 b in
    let is : digit - 48 ≡ v = some_inj _ _ e in
    record { spelled = rw (lt-ltb v 10 (omega arith)) (omega arith); small = omega arith }
digits true false ten digit v a b e = letters (leb ten digit) (leb digit (ten + 5)) ten digit v refl refl e
digits false b ten digit v a c e = letters (leb ten digit) (leb digit (ten + 5)) ten digit v refl refl e

pub digit_spelled : (ten digit v : ℕ) → hex_value ten digit ≡ Some v → IsDigitOf ten digit v
digit_spelled ten digit v e = digits (leb 48 digit) (leb digit 57) ten digit v refl refl e

pub record AreDigitsOf (ten : ℕ) (ds os : List ℕ) : Type 0 where
  pub spelled : ds ≡ hex_of ten os
  pub octets : AreOctets os

two : (ten h l : ℕ) (ds : List ℕ) (os : List ℕ) (a b : ℕ) → IsDigitOf ten h a → IsDigitOf ten l b → AreDigitsOf ten ds os → AreDigitsOf ten (h ∷ l ∷ ds) ((a * 16 + b) ∷ os)
two ten h l ds os a b high low rest =
    let s = high.small in
    let t = low.small in
    let x : (a * 16 + b) / 16 ≡ a = omega arith in
    let y : (a * 16 + b) % 16 ≡ b = omega arith in
    record {
      spelled = rw (x, y, high.spelled, low.spelled, ← rest.spelled) refl;
      octets = λ i. elim i as (λ k. get_or ((a * 16 + b) ∷ os) k 0 < 256) [ zero ↦ omega arith | suc k ↦ rest.octets k ];
    }

pair : (ten h l : ℕ) (ds os : List ℕ) (o p : Option ℕ) (r : Option (List ℕ)) → hex_value ten h ≡ o → hex_value ten l ≡ p → ((xs : List ℕ) → r ≡ Some xs → AreDigitsOf ten ds xs)
    → after_octet (octet_of_digits o p) r ≡ Some os → AreDigitsOf ten (h ∷ l ∷ ds) os
pair ten h l ds os None p r eh el more e = absurd cc
pair ten h l ds os (Some a) None r eh el more e = absurd cc
pair ten h l ds os (Some a) (Some b) None eh el more e = absurd cc
pair ten h l ds os (Some a) (Some b) (Some xs) eh el more e =
    subst (AreDigitsOf ten (h ∷ l ∷ ds)) (some_inj _ _ e) (two ten h l ds xs a b (digit_spelled ten h a eh) (digit_spelled ten l b el) (more xs refl))

pub octets_spelled : (ten : ℕ) (ds os : List ℕ) → octets_of_digits ten ds ≡ Some os → AreDigitsOf ten ds os
octets_spelled ten [] os e = subst (AreDigitsOf ten []) (some_inj _ _ e) (record { spelled = refl; octets = λ i. omega arith })
octets_spelled ten (d ∷ []) os e = absurd cc
octets_spelled ten (h ∷ l ∷ ds) os e = pair ten h l ds os (hex_value ten h) (hex_value ten l) (octets_of_digits ten ds) refl refl (λ xs is. octets_spelled ten ds xs is) e

pub record IsLineOf (v : Version) (line : List ℕ) (e : LiveEvent) : Type 0 where
  pub spelled : line ≡ line_of e
  pub octets : IsEventIn v e

heard_by : (t : Bool) (v : Version) (line os : List ℕ) → is_older v ≡ t → line ≡ codes "heard " ++ hex_of 65 os → AreOctets os → length os ≤ 260 → IsLineOf v line (cond t (HeardByRulesTwo os) (OnLink (Receive os)))
heard_by true v line os older text octets short = record { spelled = text; octets = (octets, (older, short)) }
heard_by false v line os newer text octets short = record { spelled = text; octets = (octets, (newer, short)) }

heard : (v : Version) (line : List ℕ) (o : Option (List ℕ)) (e : LiveEvent) → length (drop 6 line) ≤ 520 → octets_of_digits 65 (drop 6 line) ≡ o → take 6 line ≡ codes "heard " → option_map (heard_event v) o ≡ Some e → IsLineOf v line e
heard v line None e few is word some = absurd cc
heard v line (Some os) e few is word some =
    let ds = octets_spelled 65 (drop 6 line) os is in
    let short : length os ≤ 260 = omega (arith, few, ap length ds.spelled, hex_length 65 os) in
    let text : line ≡ codes "heard " ++ hex_of 65 os = sym (take-append-drop 6 line) ∙ ap (λ (l : List ℕ). l ++ drop 6 line) word ∙ ap (λ (l : List ℕ). codes "heard " ++ l) ds.spelled in
    subst (IsLineOf v line) (some_inj _ _ some) (heard_by (is_older v) v line os refl text ds.octets short)

limited : (v : Version) (few : Bool) (line : List ℕ) (e : LiveEvent) → leb (length (drop 6 line)) 520 ≡ few → take 6 line ≡ codes "heard " → cond few (option_map (heard_event v) (octets_of_digits 65 (drop 6 line))) None ≡ Some e → IsLineOf v line e
limited v true line e few word some = heard v line (octets_of_digits 65 (drop 6 line)) e (leb-true _ _ few) refl word some
limited v false line e few word some = absurd cc

fine_amended : (v : Version) (kind : Amendment) (line text : List ℕ) (e : LiveEvent) (fine : Bool) → (nat_le (length text) 200 && list_all is_printable text) ≡ fine → HasAmendments v kind → line ≡ amendment_word kind ++ text → cond fine (Some (Amended kind text)) None ≡ Some e → IsLineOf v line e
fine_amended v kind line text e true fine has is some =
    let p = and_parts (nat_le (length text) 200) (list_all is_printable text) fine in
    subst (IsLineOf v line) (some_inj _ _ some) (record { spelled = is; octets = (tt, (has, (leb-true _ _ p.0, p.1))) })
fine_amended v kind line text e false fine has is some = absurd cc

-- a line that begins with the word of a kind that a journal of this version has
amended : (v : Version) (kind : Amendment) (line : List ℕ) (e : LiveEvent) → HasAmendments v kind → begins_as kind line ≡ true → amended_on kind (behind_word kind line) ≡ Some e → IsLineOf v line e
amended v kind line e has begins some =
    let n = length (amendment_word kind) in
    let word : take n line ≡ amendment_word kind = (bytes_eq-Decides (take n line) (amendment_word kind)).0 begins in
    let spelled : line ≡ amendment_word kind ++ behind_word kind line = sym (take-append-drop n line) ∙ ap (λ (l : List ℕ). l ++ behind_word kind line) word in
    fine_amended v kind line (behind_word kind line) e (nat_le (length (behind_word kind line)) 200 && list_all is_printable (behind_word kind line)) refl has spelled some

-- a sale, by the rules of the journal
sale : (v : Version) (o : Bool) (line : List ℕ) (e : LiveEvent) → is_older v ≡ o → begins_as Sold line ≡ true → amended_on (cond o SoldByRulesTwo Sold) (behind_word Sold line) ≡ Some e → IsLineOf v line e
sale v true line e older begins some = amended v SoldByRulesTwo line e older begins some
sale v false line e newer begins some = amended v Sold line e newer begins some

-- a line that begins with such a word, or is read by the words after it
by_word : (v : Version) (kind : Amendment) (begins : Bool) (rest : Option LiveEvent) (line : List ℕ) (e : LiveEvent) → HasAmendments v kind → begins_as kind line ≡ begins → (rest ≡ Some e → IsLineOf v line e)
    → cond begins (amended_on kind (behind_word kind line)) rest ≡ Some e → IsLineOf v line e
by_word v kind true rest line e has begins more some = amended v kind line e has begins some
by_word v kind false rest line e has begins more some = more some

change : (v : Version) (line : List ℕ) (e : LiveEvent) → is_older v ≡ false → change_on line ≡ Some e → IsLineOf v line e
change v line e newer =
    by_word v Cancelled (begins_as Cancelled line) _ line e newer refl
    (by_word v Changed (begins_as Changed line) _ line e newer refl
    (by_word v Delayed (begins_as Delayed line) _ line e newer refl
    (by_word v Dropped (begins_as Dropped line) _ line e newer refl
    (by_word v Out (begins_as Out line) _ line e newer refl (λ some. absurd cc)))))

amendment : (v : Version) (s o : Bool) (line : List ℕ) (e : LiveEvent) → begins_as Sold line ≡ s → is_older v ≡ o
    → cond s (amended_on (sale_of v) (behind_word Sold line)) (cond o None (change_on line)) ≡ Some e → IsLineOf v line e
amendment v true o line e sells rules some = sale v (is_older v) line e refl sells some
amendment v false true line e sells older some = absurd cc
amendment v false false line e sells newer some = change v line e newer some

down_fits : (t : Bool) (v : Version) → is_older v ≡ t → FitsVersion v (WithoutLink (cond t Two Three))
down_fits true v older = older
down_fits false v newer = newer

forms : (v : Version) (t d h : Bool) (line : List ℕ) (e : LiveEvent) → bytes_eq line (codes "tick") ≡ t → bytes_eq line (codes "down") ≡ d → bytes_eq (take 6 line) (codes "heard ") ≡ h
    → cond t (Some (OnLink Tick)) (cond d (Some (WithoutLink (rules_of v))) (cond h (heard_on v (drop 6 line)) (amendment_on v line))) ≡ Some e → IsLineOf v line e
forms v true d h line e is down word some = subst (IsLineOf v line) (some_inj _ _ some) (record { spelled = (bytes_eq-Decides line (codes "tick")).0 is; octets = (tt, tt) })
forms v false true h line e is down word some = subst (IsLineOf v line) (some_inj _ _ some) (record { spelled = (bytes_eq-Decides line (codes "down")).0 down; octets = (tt, down_fits (is_older v) v refl) })
forms v false false true line e is down word some = limited v (leb (length (drop 6 line)) 520) line e refl ((bytes_eq-Decides (take 6 line) (codes "heard ")).0 word) some
forms v false false false line e is down word some = amendment v (begins_as Sold line) (is_older v) line e refl refl some

pub line_spelled : (v : Version) (line : List ℕ) (e : LiveEvent) → event_on v line ≡ Some e → IsLineOf v line e
line_spelled v line e some = forms v (bytes_eq line (codes "tick")) (bytes_eq line (codes "down")) (bytes_eq (take 6 line) (codes "heard ")) line e refl refl refl some

abbrev the_ok : List LiveEvent → Result (List LiveEvent) JournalFault
the_ok x = Ok x

pub record AreLinesOf (v : Version) (lines : List (List ℕ)) (es : List LiveEvent) : Type 0 where
  pub spelled : lines ≡ map line_of es
  pub octets : AreEventsIn v es

ok_inj : (x y : List LiveEvent) → the_ok x ≡ the_ok y → x ≡ y
ok_inj x y e = cc

one : (v : Version) (n : ℕ) (line : List ℕ) (lines : List (List ℕ)) (es : List LiveEvent) (o : Option LiveEvent) (r : Result (List LiveEvent) JournalFault) → event_on v line ≡ o → ((xs : List LiveEvent) → r ≡ Ok xs → AreLinesOf v lines xs) → with_event n o r ≡ Ok es
    → AreLinesOf v (line ∷ lines) es
one v n line lines es None r is more e = absurd cc
one v n line lines es (Some x) (Err f) is more e = absurd cc
one v n line lines es (Some x) (Ok xs) is more e =
    let first = line_spelled v line x is in
    let rest = more xs refl in
    subst (AreLinesOf v (line ∷ lines)) (ok_inj _ _ e) (record { spelled = rw (first.spelled, rest.spelled) refl; octets = (first.octets, rest.octets) })

pub lines_spelled : (v : Version) (n : ℕ) (lines : List (List ℕ)) (es : List LiveEvent) → events_on v n lines ≡ Ok es → AreLinesOf v lines es
lines_spelled v n [] es e = subst (AreLinesOf v []) (ok_inj _ _ e) (record { spelled = refl; octets = tt })
lines_spelled v n (line ∷ lines) es e = one v n line lines es (event_on v line) (events_on v (n + 1) lines) refl (λ xs is. lines_spelled v (n + 1) lines xs is) e

-- the lines of a head that is wanted, and of these events
pub record AreLines (wanted : Wanted) (lines : List (List ℕ)) (es : List LiveEvent) : Type 0 where
  pub version : Version
  pub is_read : IsReadWhere version wanted.day
  pub head : Head
  pub is_wanted : IsWanted wanted head
  pub day : IsJournalDay head.day
  pub events : AreEventsIn version es
  pub are : lines ≡ lines_in version head es

following_head : (wanted : Wanted) (lines : List (List ℕ)) (es : List LiveEvent) (v : Version) → IsHeadOf wanted lines v → events_on v (head_size v + 1) (drop (head_size v) lines) ≡ Ok es → AreLines wanted lines es
following_head wanted lines es v d e =
    let past : drop (head_size v) lines ≡ d.rest = ap (drop (head_size v)) d.are ∙ after_head (has_day v) (version_line v) (plan_line d.head.plan) (day_line d.head.day) d.rest in
    let rest = lines_spelled v (head_size v + 1) d.rest es (ap (events_on v (head_size v + 1)) (sym past) ∙ e) in
    record {
      version = v;
      is_read = d.is_read;
      head = d.head;
      is_wanted = d.is_wanted;
      day = d.day;
      events = rest.octets;
      are = d.are ∙ ap (λ (ls : List (List ℕ)). version_line v ∷ plan_line d.head.plan ∷ (day_lines v d.head.day ++ ls)) rest.spelled;
    }

by_head : (wanted : Wanted) (lines : List (List ℕ)) (es : List LiveEvent) (r : Result Version JournalFault) → head_on wanted lines ≡ r → events_after r lines ≡ Ok es → AreLines wanted lines es
by_head wanted lines es (Err f) is e = absurd cc
by_head wanted lines es (Ok v) is e = following_head wanted lines es v (head_spelled wanted v lines is) e

pub all_lines : (wanted : Wanted) (lines : List (List ℕ)) (es : List LiveEvent) → journal_events wanted lines ≡ Ok es → AreLines wanted lines es
all_lines wanted lines es e = by_head wanted lines es (head_on wanted lines) refl e

-- ---- the same where a head is wanted

-- no exchange goes on by the older rules
newest : (v : Version) (day : JournalDay) → IsReadWhere v (Some day) → v ≡ Dated
newest Undated day read = absurd (some_is_none day (read refl)) where
  some_is_none : (day : JournalDay) → Some day ≡ None → ⊥
  some_is_none day e = absurd cc
newest Older day read = absurd (some_is_none day (read refl)) where
  some_is_none : (day : JournalDay) → Some day ≡ None → ⊥
  some_is_none day e = absurd cc
newest Dated day read = refl

one_head : (p q : Head) → p.plan ≡ q.plan → p.day ≡ q.day → q ≡ p
one_head p q plan day = sym (ap (λ (l : List ℕ). record { plan = l; day = p.day }) plan ∙ ap (λ (d : JournalDay). record { plan = q.plan; day = d }) day)

pub own_lines : (head : Head) (lines : List (List ℕ)) (es : List LiveEvent) → journal_events (wanted_of head) lines ≡ Ok es → (lines ≡ lines_of head es) × IsJournalDay head.day × AreEvents es
own_lines head lines es e =
    let d = all_lines (wanted_of head) lines es e in
    let new : d.version ≡ Dated = newest d.version head.day d.is_read in
    let same : d.head ≡ head = one_head head d.head d.is_wanted.plan d.is_wanted.day in
    (d.are ∙ ap (λ (v : Version). lines_in v d.head es) new ∙ ap (λ (h : Head). lines_of h es) same, subst (λ (h : Head). IsJournalDay h.day) same d.day, subst (λ (v : Version). AreEventsIn v es) new d.events)

-- the text of what is read, and octets without LF after it
pub recovered_text : (wanted : Wanted) (bytes : List ℕ) (es : List LiveEvent) → recovered wanted bytes ≡ Ok es → IsJournalText wanted es (whole_text bytes)
recovered_text wanted bytes es e =
    let d = all_lines wanted (whole_lines bytes) es e in
    record { version = d.version; is_read = d.is_read; head = d.head; is_wanted = d.is_wanted; is_day = d.day; events_are = d.events; is = ap (flat_map line_ended) d.are }

-- ---- cutting off what is torn

clean_onto : (b : ℕ) (lines : List (List ℕ)) → b == 10 ≡ false → HaveNoLf lines → HaveNoLf (onto b lines)
clean_onto b [] e none = tt
clean_onto b (line ∷ lines) e none = ((e, none.0), none.1)

clean_step : (t : Bool) (b : ℕ) (bytes : List ℕ) → b == 10 ≡ t → HaveNoLf (whole_lines bytes) → HaveNoLf (cond t ([] ∷ whole_lines bytes) (onto b (whole_lines bytes)))
clean_step true b bytes e none = (tt, none)
clean_step false b bytes e none = clean_onto b (whole_lines bytes) e none

clean : (bytes : List ℕ) → HaveNoLf (whole_lines bytes)
clean [] = tt
clean (b ∷ bytes) = clean_step (b == 10) b bytes refl (clean bytes)

cut_lines : (bytes : List ℕ) (n : ℕ) → length (whole_text bytes) ≤ n → whole_lines (take n bytes) ≡ whole_lines bytes
cut_lines bytes n le =
    let s = split bytes in
    let m = n - length (whole_text bytes) in
    let e : length (whole_text bytes) + m ≡ n = omega arith in
    let prefix : take n bytes ≡ whole_text bytes ++ take m s.torn = ap (λ k. take k bytes) (sym e) ∙ ap (take (length (whole_text bytes) + m)) s.is ∙ take_past (whole_text bytes) s.torn m in
    ap whole_lines prefix ∙ lines_whole (whole_lines bytes) (take m s.torn) (clean bytes) (torn_line _ (prefix_without_lf m s.torn s.none))

-- what is cut off is in no line
pub recovered_cut : (wanted : Wanted) (bytes : List ℕ) (n : ℕ) → length (whole_text bytes) ≤ n → recovered wanted (take n bytes) ≡ recovered wanted bytes
recovered_cut wanted bytes n le = ap (journal_events wanted) (cut_lines bytes n le)

pub whole_prefix : (bytes : List ℕ) → take (length (whole_text bytes)) bytes ≡ whole_text bytes
whole_prefix bytes = let s = split bytes in ap (take (length (whole_text bytes))) s.is ∙ take_at (whole_text bytes) s.torn (length (whole_text bytes)) refl

pub torn_after : (bytes : List ℕ) → whole_lines (drop (length (whole_text bytes)) bytes) ≡ []
torn_after bytes =
    let s = split bytes in
    ap whole_lines (ap (drop (length (whole_text bytes))) s.is ∙ drop_at (whole_text bytes) s.torn (length (whole_text bytes)) refl) ∙ torn_line s.torn s.none

pub whole_within : (bytes : List ℕ) → length (whole_text bytes) ≤ length bytes
whole_within bytes = let s = split bytes in omega (arith, ap length s.is, length-append (whole_text bytes) s.torn)

-- the pieces of a recovery
pub record IsRecovery (wanted : Wanted) (bytes : List ℕ) (r : Recovery) : Type 0 where
  pub events : recovered wanted bytes ≡ the_ok r.events
  pub whole : r.whole ≡ length (whole_text bytes)

recovery : (n : ℕ) (wanted : Wanted) (bytes : List ℕ) (read : Result (List LiveEvent) JournalFault) (r : Recovery) → recovered wanted bytes ≡ read → n ≡ length (whole_text bytes) → with_whole n read ≡ Ok r → IsRecovery wanted bytes r
recovery n wanted bytes (Err f) r is len e = absurd cc
recovery n wanted bytes (Ok es) r is len e =
    let same : record { events = es; whole = n } ≡ r = cc in
    subst (IsRecovery wanted bytes) same (record { events = is; whole = len })

pub recovery_parts : (wanted : Wanted) (bytes : List ℕ) (r : Recovery) → journal_in wanted bytes ≡ Ok r → IsRecovery wanted bytes r
recovery_parts wanted bytes r e = recovery (length (whole_text bytes)) wanted bytes (recovered wanted bytes) r refl refl e

taken_whole : (wanted : Wanted) (bytes : List ℕ) (r : Recovery) → IsRecovery wanted bytes r → take r.whole bytes ≡ whole_text bytes
taken_whole wanted bytes r p = ap (λ k. take k bytes) p.whole ∙ whole_prefix bytes

pub prefix_spelled : (wanted : Wanted) (bytes : List ℕ) (r : Recovery) → journal_in wanted bytes ≡ Ok r → IsJournalText wanted r.events (take r.whole bytes) × (whole_lines (drop r.whole bytes) ≡ [])
prefix_spelled wanted bytes r e =
    let p = recovery_parts wanted bytes r e in
    let t = recovered_text wanted bytes r.events p.events in
    (subst (IsJournalText wanted r.events) (sym (taken_whole wanted bytes r p)) t, ap (λ k. whole_lines (drop k bytes)) p.whole ∙ torn_after bytes)

-- the same where a head is wanted
pub record IsOwn (head : Head) (bytes : List ℕ) (r : Recovery) : Type 0 where
  pub text : take r.whole bytes ≡ journal_text head r.events
  pub lines : whole_lines bytes ≡ lines_of head r.events
  pub day : IsJournalDay head.day
  pub events : AreEvents r.events

pub own_spelled : (head : Head) (bytes : List ℕ) (r : Recovery) → journal_in (wanted_of head) bytes ≡ Ok r → IsOwn head bytes r
own_spelled head bytes r e =
    let p = recovery_parts (wanted_of head) bytes r e in
    let own = own_lines head (whole_lines bytes) r.events p.events in
    record { text = taken_whole (wanted_of head) bytes r p ∙ ap (flat_map line_ended) own.0; lines = own.0; day = own.1; events = own.2 }
