-- What is read of a head: lines of it, one after another.
use Rattle.std.proofs.Common.{codes, ◌≡◌, inl, inr, ℕ, ◌+◌, ◌<◌, ◌≤◌, Bool, true, false, cond, List, [], ◌∷◌, ◌++◌, length, Option, Result, Ok, Err, refl, ap, sym, ◌∙◌, subst, append_assoc, arith, length-append}
use Rattle.std.specs.Prelude.{decimal}
use Rattle.std.specs.Str.{bytes_eq}
use Rattle.std.specs.List.{flat_map}
use Rattle.std.proofs.lemmas.List.{append-nil, flat_map_more}
use Rattle.std.proofs.lemmas.Slice.Eq.{bytes_eq-Decides}
use Rattle.bx_journal.specs.declared.fault.JournalFault.{JournalFault}
use Rattle.bx_journal.specs.declared.fault.JournalFault.TheVariants.{BadLine, OtherPlan, OtherDay, OtherRules, NotBegun, ReadFailed}
use Rattle.bx_journal.specs.declared.head.Head.{Head}
use Rattle.bx_journal.specs.declared.head.JournalDay.{JournalDay}
use Rattle.bx_journal.specs.declared.head.TheConstants.{RULES, OLDER_RULES}
use Rattle.bx_journal.specs.declared.head.Wanted.{Wanted}
use Rattle.bx_journal.specs.declared.head.JournalDay.TheVariants.{Rehearsed}
use Rattle.bx_journal.specs.declared.version.Version.{Version}
use Rattle.bx_journal.specs.declared.version.Version.TheVariants.{Undated, Older, Dated}
use Rattle.bx_journal.specs.Versions.{has_day, head_size, IsReadWhere}
use Rattle.bx_journal.specs.Heads.{IsJournalDay, IsWanted, IsWantedDay}
use Rattle.bx_journal.specs.Held.{Held}
use Rattle.bx_journal.specs.Lines.{line_ended}
use Rattle.bx_journal.specs.Inside.{HasNoLf, HaveNoLf}
use Rattle.bx_journal.specs.Text.{version_line, plan_line, day_line, day_lines}
use Rattle.bx_journal.specs.Reading.{version_on, plan_on, plan_fault, day_on, fits_day, after_day, dated_head, after_plan, after_version, head_on}
use Rattle.bx_journal.specs.Taking.{Takes, TakesLine, TakesLines, TakesTorn, IsJudged, IsNoneTaken, IsHeadLine, HeadTaken, HeadRefused, IsHead}
use Rattle.bx_journal.proofs.DayLines.{first_read, day_read, day_fits, IsFirstLine, ok_version, version_spelled, third_spelled, IsLineFault, version_fault, plan_on_fault, day_fault}
use Rattle.bx_journal.proofs.Takings.{takes_then, takes_none}

-- ---- lines that were taken

lines_more : (before middle after : Option (List ℕ)) (old mid new : Held) (lines : List (List ℕ)) (line : List ℕ) → TakesLines before middle old mid lines → TakesLine middle after mid new line → TakesLines before after old new (lines ++ line ∷ [])
lines_more before middle after old mid new lines line first next = record {
  takes = subst (Takes before after old new) (flat_map_more line_ended [] lines line) (takes_then before middle after old mid new (flat_map line_ended lines) (line_ended line) first.takes next.takes);
  no_lf = both lines first.no_lf;
} where
  both : (lines : List (List ℕ)) → HaveNoLf lines → HaveNoLf (lines ++ line ∷ [])
  both [] none = (next.no_lf, tt)
  both (l ∷ ls) none = (none.0, both ls none.1)

torn_after : (before middle after : Option (List ℕ)) (old mid new : Held) (lines : List (List ℕ)) (torn : List ℕ) → TakesLines before middle old mid lines → Takes middle after mid new torn → HasNoLf torn → TakesTorn before after old new lines
torn_after before middle after old mid new lines torn first next none =
    record { torn = torn; takes = takes_then before middle after old mid new (flat_map line_ended lines) torn first.takes next; no_lf = first.no_lf; torn_no_lf = none }

-- Lines of the head were taken, and this says what the head is by those after them.
pub record SoFar (wanted : Wanted) (before after : Option (List ℕ)) (old new : Held) (n : ℕ) (said : List (List ℕ) → Result Version JournalFault) : Type 0 where
  pub lines : List (List ℕ)
  pub taken : TakesLines before after old new lines
  pub count : length lines ≡ n
  pub is : (rest : List (List ℕ)) → head_on wanted (lines ++ rest) ≡ said rest

pub none_yet : (wanted : Wanted) (now : Option (List ℕ)) (held : Held) → SoFar wanted now now held held 0 (head_on wanted)
none_yet wanted now held = record { lines = []; taken = record { takes = takes_none now held; no_lf = tt }; count = refl; is = λ rest. refl }

as_fault : (wanted : Wanted) (faulted : Bool) (before after : Option (List ℕ)) (old new : Held) (f : JournalFault) → IsLineFault f → HeadRefused wanted before after old new f → IsHead wanted faulted before after old new (Err f)
as_fault wanted faulted before after old new (BadLine n) is r = r
as_fault wanted faulted before after old new OtherPlan is r = r
as_fault wanted faulted before after old new OtherDay is r = r
as_fault wanted faulted before after old new OtherRules is r = r
as_fault wanted faulted before after old new NotBegun is r = absurd is
as_fault wanted faulted before after old new ReadFailed is r = absurd is

module _ {T : Type 0} (wanted : Wanted) (before middle after : Option (List ℕ)) (old mid new : Held) (n : ℕ) (said : List (List ℕ) → Result Version JournalFault) (judge : List ℕ → Result T JournalFault) (following : Result T JournalFault → List (List ℕ) → Result Version JournalFault)
    (so_far : SoFar wanted before middle old mid n said) (next : (line : List ℕ) (rest : List (List ℕ)) → said (line ∷ rest) ≡ following (judge line) rest) where
  pub one_more : (r : Result T JournalFault) → IsJudged judge middle after mid new r → SoFar wanted before after old new (n + 1) (following r)
  one_more r j = record {
    lines = so_far.lines ++ j.line ∷ [];
    taken = lines_more before middle after old mid new so_far.lines j.line so_far.taken j.takes;
    count = omega (arith, so_far.count, length-append so_far.lines (j.line ∷ []));
    is = λ rest. ap (head_on wanted) (append_assoc so_far.lines (j.line ∷ []) rest) ∙ so_far.is (j.line ∷ rest) ∙ next j.line rest ∙ ap (λ (s : Result T JournalFault). following s rest) j.is;
  }

  cut_short : (faulted : Bool) (f : JournalFault) → said [] ≡ Err NotBegun → IsNoneTaken {T = T} faulted middle after mid new (Err f) → IsHead wanted faulted before after old new (Err f)
  cut_short faulted (BadLine k) none cut = absurd cut
  cut_short faulted OtherPlan none cut = absurd cut
  cut_short faulted OtherDay none cut = absurd cut
  cut_short faulted OtherRules none cut = absurd cut
  cut_short faulted NotBegun none cut = record {
    lines = so_far.lines;
    taken = torn_after before middle after old mid new so_far.lines cut.torn so_far.taken cut.part.takes cut.part.no_lf;
    over = cut.over;
    is = ap (head_on wanted) (sym (append-nil so_far.lines)) ∙ so_far.is [] ∙ none;
  }
  cut_short faulted ReadFailed none cut = record {
    lines = so_far.lines;
    taken = torn_after before middle after old mid new so_far.lines cut.torn so_far.taken cut.part.takes cut.part.no_lf;
    stopped = cut.stopped;
    is = ap (head_on wanted) (sym (append-nil so_far.lines)) ∙ so_far.is [] ∙ none;
  }

  -- the next line is not right, or is not there
  pub failed : (faulted : Bool) (f : JournalFault) → said [] ≡ Err NotBegun → ((rest : List (List ℕ)) → following (Err f) rest ≡ Err f) → ((line : List ℕ) → judge line ≡ Err f → IsLineFault f) → IsHeadLine judge faulted middle after mid new (Err f)
      → IsHead wanted faulted before after old new (Err f)
  failed faulted f none stays fault (inl j) =
      let more = one_more (Err f) j in
      as_fault wanted faulted before after old new f (fault j.line j.is) (record { lines = more.lines; taken = more.taken; is = λ rest. more.is rest ∙ stays rest })
  failed faulted f none stays fault (inr cut) = cut_short faulted f none cut

  pub passed : (faulted : Bool) (x : T) → IsHeadLine judge faulted middle after mid new (Ok x) → SoFar wanted before after old new (n + 1) (following (Ok x))
  passed faulted x (inl j) = one_more (Ok x) j
  passed faulted x (inr none) = absurd none

-- ---- the three lines

module _ (wanted : Wanted) (faulted : Bool) where
  module _ (before after : Option (List ℕ)) (old new : Held) where
    start : SoFar wanted before before old old 0 (head_on wanted)
    start = none_yet wanted before old

    pub version_failed : (f : JournalFault) → IsHeadLine (version_on wanted.day) faulted before after old new (Err f) → IsHead wanted faulted before after old new (Err f)
    version_failed f line =
        failed wanted before before after old old new 0 (head_on wanted) (version_on wanted.day) (after_version wanted) start (λ l rest. refl) faulted f refl (λ rest. refl) (λ l e. version_fault wanted.day l f e) line

    pub version_passed : (v : Version) → IsHeadLine (version_on wanted.day) faulted before after old new (Ok v) → SoFar wanted before after old new 1 (after_version wanted (Ok v))
    version_passed v line = passed wanted before before after old old new 0 (head_on wanted) (version_on wanted.day) (after_version wanted) start (λ l rest. refl) faulted v line

  module _ (before middle after : Option (List ℕ)) (old mid new : Held) where
    pub plan_failed : (v : Version) (f : JournalFault) → SoFar wanted before middle old mid 1 (after_version wanted (Ok v)) → IsHeadLine (plan_on wanted.plan) faulted middle after mid new (Err f) → IsHead wanted faulted before after old new (Err f)
    plan_failed v f so_far line =
        failed wanted before middle after old mid new 1 (after_version wanted (Ok v)) (plan_on wanted.plan) (λ r. after_plan wanted.day r v) so_far (λ l rest. refl) faulted f refl (λ rest. refl) (λ l e. plan_on_fault wanted.plan l f e) line

    pub plan_passed : (v : Version) → SoFar wanted before middle old mid 1 (after_version wanted (Ok v)) → IsHeadLine (plan_on wanted.plan) faulted middle after mid new (Ok tt) → SoFar wanted before after old new 2 (after_plan wanted.day (Ok tt) v)
    plan_passed v so_far line = passed wanted before middle after old mid new 1 (after_version wanted (Ok v)) (plan_on wanted.plan) (λ r. after_plan wanted.day r v) so_far (λ l rest. refl) faulted tt line

    pub day_failed : (v : Version) (f : JournalFault) → SoFar wanted before middle old mid 2 (dated_head v wanted.day) → IsHeadLine (λ l. fits_day wanted.day (day_on l)) faulted middle after mid new (Err f) → IsHead wanted faulted before after old new (Err f)
    day_failed v f so_far line =
        failed wanted before middle after old mid new 2 (dated_head v wanted.day) (λ l. fits_day wanted.day (day_on l)) (λ r rest. after_day v r) so_far (λ l rest. refl) faulted f refl (λ rest. refl) (λ l e. day_fault wanted.day l f e) line

    pub day_passed : (v : Version) → has_day v ≡ true → SoFar wanted before middle old mid 2 (dated_head v wanted.day) → IsHeadLine (λ l. fits_day wanted.day (day_on l)) faulted middle after mid new (Ok tt) → HeadTaken wanted before after old new v
    day_passed v told so_far line =
        let all = passed wanted before middle after old mid new 2 (dated_head v wanted.day) (λ l. fits_day wanted.day (day_on l)) (λ r rest. after_day v r) so_far (λ l rest. refl) faulted tt line in
        record { lines = all.lines; taken = all.taken; count = all.count ∙ ap (λ (b : Bool). cond b 3 2) (sym told); is = all.is }

    -- the head tells a day, or it does not
    pub day_follows : (v : Version) → has_day v ≡ true → SoFar wanted before after old new 2 (after_plan wanted.day (Ok tt) v) → SoFar wanted before after old new 2 (dated_head v wanted.day)
    day_follows v told all = subst (λ (b : Bool). SoFar wanted before after old new 2 (λ lines. cond b (dated_head v wanted.day lines) (Ok v))) told all

    pub undated_taken : (v : Version) → has_day v ≡ false → SoFar wanted before after old new 2 (after_plan wanted.day (Ok tt) v) → HeadTaken wanted before after old new v
    undated_taken v none all = record {
      lines = all.lines;
      taken = all.taken;
      count = all.count ∙ ap (λ (b : Bool). cond b 3 2) (sym none);
      is = λ rest. all.is rest ∙ ap (λ (b : Bool). cond b (dated_head v wanted.day rest) (Ok v)) none;
    }

-- ---- a head that was written

same : (xs : List ℕ) → bytes_eq xs xs ≡ true
same xs = (bytes_eq-Decides xs xs).1 refl

pub plan_read : (wanted plan : List ℕ) → wanted ≡ plan → plan_on wanted (plan_line plan) ≡ Ok tt
plan_read wanted plan is = ap (λ (p : List ℕ). plan_on p (plan_line plan)) is ∙ ap (λ (b : Bool). cond b (Ok tt) (Err (plan_fault (plan_line plan)))) (same (plan_line plan))

module _ (wanted : Wanted) (head : Head) (is : IsWanted wanted head) (day : IsJournalDay head.day) (v : Version) (read : IsReadWhere v wanted.day) where
  fits : fits_day wanted.day (day_on (day_line head.day)) ≡ Ok tt
  fits = ap (fits_day wanted.day) (day_read head.day day) ∙ day_fits wanted.day head.day is.day

  pub one_line : head_on wanted (version_line v ∷ []) ≡ Err NotBegun
  one_line = ap (λ (r : Result Version JournalFault). after_version wanted r []) (first_read v wanted.day read)

  two_read : (lines : List (List ℕ)) → head_on wanted (version_line v ∷ plan_line head.plan ∷ lines) ≡ after_plan wanted.day (Ok tt) v lines
  two_read lines =
      ap (λ (r : Result Version JournalFault). after_version wanted r (plan_line head.plan ∷ lines)) (first_read v wanted.day read)
      ∙ ap (λ (r : Result (Unit {0}) JournalFault). after_plan wanted.day r v lines) (plan_read wanted.plan head.plan is.plan)

  pub two_lines : has_day v ≡ true → head_on wanted (version_line v ∷ plan_line head.plan ∷ []) ≡ Err NotBegun
  two_lines told = two_read [] ∙ ap (λ (b : Bool). cond b (Err NotBegun) (Ok v)) told

  day_there : (t : Bool) (rest : List (List ℕ)) → cond t (dated_head v wanted.day (cond t (day_line head.day ∷ []) [] ++ rest)) (Ok v) ≡ Ok v
  day_there true rest = ap (after_day v) fits
  day_there false rest = refl

  pub head_read : (rest : List (List ℕ)) → head_on wanted (version_line v ∷ plan_line head.plan ∷ (day_lines v head.day ++ rest)) ≡ Ok v
  head_read rest = two_read (day_lines v head.day ++ rest) ∙ day_there (has_day v) rest

-- ---- a head that was read

pub record IsHeadOf (wanted : Wanted) (lines : List (List ℕ)) (v : Version) : Type 0 where
  pub is_read : IsReadWhere v wanted.day
  pub head : Head
  pub is_wanted : IsWanted wanted head
  pub day : IsJournalDay head.day
  pub rest : List (List ℕ)
  pub are : lines ≡ version_line v ∷ plan_line head.plan ∷ (day_lines v head.day ++ rest)

version_inj : (v w : Version) → ok_version v ≡ ok_version w → v ≡ w
version_inj v w e = cc

abbrev the_ok : Result (Unit {0}) JournalFault
the_ok = Ok tt

plan_by : (t : Bool) (plan line : List ℕ) → bytes_eq line (plan_line plan) ≡ t → cond t (Ok tt) (Err (plan_fault line)) ≡ the_ok → line ≡ plan_line plan
plan_by true plan line is e = (bytes_eq-Decides line (plan_line plan)).0 is
plan_by false plan line is e = absurd cc

pub plan_spelled : (plan line : List ℕ) → plan_on plan line ≡ Ok tt → line ≡ plan_line plan
plan_spelled plan line e = plan_by (bytes_eq line (plan_line plan)) plan line refl e

-- a journal whose head tells no day is read where none is wanted
any_day : (w : Version) (wanted : Option JournalDay) (day : JournalDay) → has_day w ≡ false → IsReadWhere w wanted → IsWantedDay wanted day
any_day Undated wanted day none read = subst (λ (o : Option JournalDay). IsWantedDay o day) (sym (read refl)) tt
any_day Older wanted day none read = absurd cc
any_day Dated wanted day none read = absurd cc

module _ (wanted : Wanted) (v : Version) where
  by_day : (w : Version) (l1 l2 l3 : List ℕ) (rest : List (List ℕ)) (r : Result (Unit {0}) JournalFault) → has_day w ≡ true → IsFirstLine wanted.day l1 w → l2 ≡ plan_line wanted.plan → fits_day wanted.day (day_on l3) ≡ r → after_day w r ≡ Ok v
      → IsHeadOf wanted (l1 ∷ l2 ∷ l3 ∷ rest) v
  by_day w l1 l2 l3 rest (Err f) told first second is e = absurd cc
  by_day w l1 l2 l3 rest (Ok x) told first second is e =
      let third = third_spelled wanted.day l3 is in
      subst (IsHeadOf wanted (l1 ∷ l2 ∷ l3 ∷ rest)) (version_inj _ _ e) (record {
        is_read = first.is_read;
        head = record { plan = wanted.plan; day = third.day };
        is_wanted = record { plan = refl; day = third.fits };
        day = third.is;
        rest = rest;
        are = ap (λ (l : List ℕ). l ∷ l2 ∷ l3 ∷ rest) first.is
            ∙ ap (λ (l : List ℕ). version_line w ∷ l ∷ l3 ∷ rest) second
            ∙ ap (λ (l : List ℕ). version_line w ∷ plan_line wanted.plan ∷ l ∷ rest) third.spelled
            ∙ ap (λ (b : Bool). version_line w ∷ plan_line wanted.plan ∷ (cond b (day_line third.day ∷ []) [] ++ rest)) (sym told);
      })

  by_two : (t : Bool) (w : Version) (l1 l2 : List ℕ) (lines : List (List ℕ)) → has_day w ≡ t → IsFirstLine wanted.day l1 w → l2 ≡ plan_line wanted.plan → cond t (dated_head w wanted.day lines) (Ok w) ≡ Ok v → IsHeadOf wanted (l1 ∷ l2 ∷ lines) v
  by_two false w l1 l2 lines none first second e = subst (IsHeadOf wanted (l1 ∷ l2 ∷ lines)) (version_inj _ _ e) (record {
    is_read = first.is_read;
    head = record { plan = wanted.plan; day = Rehearsed };
    is_wanted = record { plan = refl; day = any_day w wanted.day Rehearsed none first.is_read };
    day = tt;
    rest = lines;
    are = ap (λ (l : List ℕ). l ∷ l2 ∷ lines) first.is
        ∙ ap (λ (l : List ℕ). version_line w ∷ l ∷ lines) second
        ∙ ap (λ (b : Bool). version_line w ∷ plan_line wanted.plan ∷ (cond b (day_line Rehearsed ∷ []) [] ++ lines)) (sym none);
  })
  by_two true w l1 l2 [] told first second e = absurd cc
  by_two true w l1 l2 (l3 ∷ rest) told first second e = by_day w l1 l2 l3 rest (fits_day wanted.day (day_on l3)) told first second refl e

  by_version : (w : Version) (l1 l2 : List ℕ) (lines : List (List ℕ)) (r : Result (Unit {0}) JournalFault) → version_on wanted.day l1 ≡ Ok w → plan_on wanted.plan l2 ≡ r → after_plan wanted.day r w lines ≡ Ok v → IsHeadOf wanted (l1 ∷ l2 ∷ lines) v
  by_version w l1 l2 lines (Err f) first second e = absurd cc
  by_version w l1 l2 lines (Ok x) first second e = by_two (has_day w) w l1 l2 lines refl (version_spelled wanted.day l1 w first) (plan_spelled wanted.plan l2 second) e

  by_first : (l1 : List ℕ) (lines : List (List ℕ)) (r : Result Version JournalFault) → version_on wanted.day l1 ≡ r → after_version wanted r lines ≡ Ok v → IsHeadOf wanted (l1 ∷ lines) v
  by_first l1 lines (Err f) is e = absurd cc
  by_first l1 [] (Ok w) is e = absurd cc
  by_first l1 (l2 ∷ lines) (Ok w) is e = by_version w l1 l2 lines (plan_on wanted.plan l2) is refl e

  pub head_spelled : (lines : List (List ℕ)) → head_on wanted lines ≡ Ok v → IsHeadOf wanted lines v
  head_spelled [] e = absurd cc
  head_spelled (l1 ∷ lines) e = by_first l1 lines (version_on wanted.day l1) refl e

-- it has more octets than lines
few_lines : (v : Version) → head_size v ≤ 3
few_lines Undated = omega arith
few_lines Older = omega arith
few_lines Dated = omega arith

first_long : (v : Version) → 3 ≤ length (version_line v)
first_long Undated = omega arith
first_long Older = omega (arith, length-append (codes "bx-journal 2 rules ") (decimal OLDER_RULES))
first_long Dated = omega (arith, length-append (codes "bx-journal 2 rules ") (decimal RULES))

count_by : (wanted : Wanted) (lines : List (List ℕ)) (v : Version) → IsHeadOf wanted lines v → head_size v < length (flat_map line_ended lines)
count_by wanted lines v d =
    let following = flat_map line_ended (plan_line d.head.plan ∷ (day_lines v d.head.day ++ d.rest)) in
    let long : length (flat_map line_ended lines) ≡ length (line_ended (version_line v) ++ following) = ap (λ (ls : List (List ℕ)). length (flat_map line_ended ls)) d.are in
    omega (arith, few_lines v, first_long v, long, length-append (line_ended (version_line v)) following, length-append (version_line v) (10 ∷ []))

pub past_head : (wanted : Wanted) (before after : Option (List ℕ)) (old new : Held) (v : Version) → HeadTaken wanted before after old new v → head_size v < new.taken
past_head wanted before after old new v head =
    let past = count_by wanted head.lines v (head_spelled wanted v head.lines (ap (head_on wanted) (sym (append-nil head.lines)) ∙ head.is [])) in
    omega (arith, past, head.taken.takes.count)
