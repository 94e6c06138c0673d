-- What is so of each turn of a day whose plan is amended is so of each turn of the day of its last plan: a booking that was not yet live in the one waits, or
-- is refused, in the other, and what is live is the same in both.
use Rattle.std.proofs.Common.{◌≡◌, ◌≤◌, ◌<◌, ◌⊎◌, inl, inr, ℕ, zero, suc, ◌+◌, Bool, true, false, List, [], ◌∷◌, ◌++◌, map, length, is_some, arith, refl, sym, subst, ap, ◌∙◌}
use Rattle.std.specs.List.{AllByRecursion}
use Rattle.std.proofs.lemmas.Bool.{true≢false, false≢true}
use Rattle.std.proofs.lemmas.List.{get_or_past}
use Rattle.bx_base.specs.Bookings.{Row, row_at, pay_of}
use Rattle.bx_base.specs.Plans.{is_accepted}
use Rattle.bx_calls.specs.PlainCalls.{PlainNetCall}
use Rattle.bx_channels.specs.Marks.{is_marked}
use Rattle.bx_day.specs.Changed.{with_past, changed, AgreesWith}
use Rattle.bx_day.specs.Day.{Day, entry_at, no_entry, entries_from, is_live, opening}
use Rattle.bx_day.specs.Law.{OnLive, standing_at}
use Rattle.bx_day.specs.Outages.{without_link, live_day_after}
use Rattle.bx_day.specs.Run.{receive_octets}
use Rattle.bx_day.specs.Ticks.{tick}
use Rattle.bx_day.specs.declared.entry.Activity.{Activity}
use Rattle.bx_day.specs.declared.entry.Entry.{Entry}
use Rattle.bx_day.specs.declared.entry.Standing.{Standing}
use Rattle.bx_day.specs.declared.entry.Standing.TheVariants.{OnCall}
use Rattle.bx_day.proofs.Changed.{AreShared, idle_kept, alike_kept, idle_unheld, onto, run_onto}
use Rattle.bx_day.proofs.ChangedPlan.{shared_now, opening_onto, changed_day}
use Rattle.bx_day.proofs.Resting.{IsToCome, rests_unheld}
use Rattle.bx_day.proofs.Staying.{run_later}
use Rattle.bx_events.specs.Events.{LiveEvent, Tick, Receive, OnLink, WithoutLink}
use Rattle.bx_events.specs.declared.amendment.Amendment.{Amendment}
use Rattle.bx_events.specs.declared.rules.Rules.TheVariants.{Three}
use Rattle.bx_records.specs.Totals.{is_carried, pays_of}
use Rattle.bx_sales.specs.Amending.{AmendsDay, rows_amended, marks_amended}
use Rattle.bx_sales.specs.Journal.{rows_after, marks_after, RunsThrough, IsOneDayByJournal}
use Rattle.bx_sales.proofs.Journal.{plan_of}
use Rattle.bx_sales.proofs.Places.{nothing_more, joined}
use Rattle.bx_two_ends.specs.AmendedDays.{AmendedSecond, Passes, Amends, SecondsLead, seconds_in, logged_in, IsDayByTurns, TurnsStay, IsEarnedDay, IsEarnedAmended}
use Rattle.bx_two_ends.specs.Asking.{StandingUnasked}
use Rattle.bx_two_ends.specs.Earned.{IsPaidAsPlanned, IsPaidUnbroken}
use Rattle.bx_two_ends.specs.Earning.{LiveSecond, Linked, Unlinked, events_of, heard_in, second_after, seconds_after, is_going, IsAllAnswered, IsCleared, EachTurn, IsLongEnough, AreLongEnough, IsCarriedBy}
use Rattle.bx_two_ends.proofs.EarnedDays.{heard_is, seconds_are, carried_in, carried_unbroken, in_service, cleared_from, on_link, on_link_size}
use Rattle.bx_two_ends.proofs.NextPlan.{next_plan}

-- ---- what has become of one booking in both days

-- the same, or it is live in neither
abbrev AreAlike : Standing → Standing → Type 0
AreAlike s s' = (s' ≡ s) ⊎ ((is_live s ≡ false) × (is_live s' ≡ false))

come_unheld : (m : ℕ) (ns : List Entry) (i : ℕ) → AllByRecursion (IsToCome m) ns → is_live (entry_at ns i).standing ≡ false
come_unheld m [] i h = ap (λ (e : Entry). is_live e.standing) (get_or_past [] i no_entry (omega arith))
come_unheld m (n ∷ ns) zero h = rests_unheld m n.booking.start n.standing h.0.rests
come_unheld m (n ∷ ns) (suc i) h = come_unheld m ns i h.1

alike_at : (m : ℕ) (es ns : List Entry) (i : ℕ) → AreShared m es ns → AreAlike (entry_at es i).standing (entry_at (with_past es ns) i).standing
alike_at m [] ns i h = inr (ap (λ (e : Entry). is_live e.standing) (get_or_past [] i no_entry (omega arith)), come_unheld m ns i h)
alike_at m (e ∷ es) [] i h = absurd h
alike_at m (e ∷ es) (n ∷ ns) zero h = elim h.0 [
  | inl idle ↦ inr (idle_unheld e.standing idle.0, ap (λ (x : Entry). is_live x.standing) (idle_kept e n idle.0) ∙ rests_unheld m n.booking.start n.standing idle.1.rests)
  | inr same ↦ inl (ap (λ (x : Entry). x.standing) (alike_kept m e n same))
]
alike_at m (e ∷ es) (n ∷ ns) (suc i) h = alike_at m es ns i h.1

unlive : (s : Standing) (Q : PlainNetCall → Activity → Type 0) → is_live s ≡ false → OnLive s Q
unlive (OnCall call a) Q h = absurd (true≢false h)
unlive s Q h = tt

on_live : (s s' : Standing) (Q : PlainNetCall → Activity → Type 0) → AreAlike s s' → OnLive s Q → OnLive s' Q
on_live s s' Q (inl same) h = subst (λ (x : Standing). OnLive x Q) (sym same) h
on_live s s' Q (inr none) h = unlive s' Q none.1

unasked_none : (s : Standing) → is_live s ≡ false → StandingUnasked s
unasked_none (OnCall call a) h = absurd (true≢false h)
unasked_none s h = tt

unasked : (s s' : Standing) → AreAlike s s' → StandingUnasked s → StandingUnasked s'
unasked s s' (inl same) h = subst StandingUnasked (sym same) h
unasked s s' (inr none) h = unasked_none s' none.1

going_live : (s : Standing) → is_going s ≡ true → is_live s ≡ true
going_live (OnCall call a) h = refl
going_live s h = absurd (false≢true h)

going : (s s' : Standing) → AreAlike s s' → is_going s' ≡ true → is_going s ≡ true
going s s' (inl same) h = ap is_going (sym same) ∙ h
going s s' (inr none) h = absurd (true≢false (sym (going_live s' h) ∙ none.1))

lives : (s s' : Standing) → AreAlike s s' → is_live s ≡ true → is_live s' ≡ true
lives s s' (inl same) h = ap is_live same ∙ h
lives s s' (inr none) h = absurd (true≢false (sym h ∙ none.0))

-- ---- of a turn

-- it is so of a day over the entries of another plan where it is so of the day
abbrev StaysOnto : (Day → Day → Type 0) → Type 0
StaysOnto P = (m : ℕ) (ns : List Entry) (called left : Day) → AreShared m called.entries ns → AreShared m left.entries ns → P called left → P (onto ns called) (onto ns left)

kept_onto : (m : ℕ) (ns : List Entry) (called left : Day) (i : ℕ) → AreShared m called.entries ns → AreShared m left.entries ns → (is_going (standing_at called i) ≡ true → is_live (standing_at left i) ≡ true) → is_going (standing_at (onto ns called) i) ≡ true → is_live (standing_at (onto ns left) i) ≡ true
kept_onto m ns called left i before after kept h =
    lives (standing_at left i) (standing_at (onto ns left) i) (alike_at m left.entries ns i after)
    (kept (going (standing_at called i) (standing_at (onto ns called) i) (alike_at m called.entries ns i before) h))

pub answered_onto : StaysOnto IsAllAnswered
answered_onto m ns called left before after h = record {
  settled = λ i. on_live (standing_at left i) (standing_at (onto ns left) i) _ (alike_at m left.entries ns i after) (h.settled i);
  kept = λ i. kept_onto m ns called left i before after (h.kept i);
}

pub cleared_onto : StaysOnto IsCleared
cleared_onto m ns called left before after h = record {
  cleared = λ i. on_live (standing_at left i) (standing_at (onto ns left) i) _ (alike_at m left.entries ns i after) (h.cleared i);
  awake = λ i. unasked (standing_at left i) (standing_at (onto ns left) i) (alike_at m left.entries ns i after) (h.awake i);
  kept = λ i. kept_onto m ns called left i before after (h.kept i);
}

-- ---- of all turns

-- the events of a turn after its tick
abbrev heard_events : List (List ℕ) → List LiveEvent
heard_events received = map (λ (octets : List ℕ). OnLink (Receive octets)) received

module _ (P : Day → Day → Type 0) (stays : StaysOnto P) (m : ℕ) (ns : List Entry) where
  -- what is shared at the end was shared before
  shared_at : (ss : List LiveSecond) (d : Day) → AreShared m (seconds_after ss d).entries ns → (seconds_after ss d).moment < m → AreShared m d.entries ns
  shared_at ss d after early =
      (run_onto m (events_of ss) d ns (subst (λ (x : Day). AreShared m x.entries ns) (sym (seconds_are ss d)) after) (subst (λ (x : Day). x.moment < m) (sym (seconds_are ss d)) early)).shared

  before_then : (ss : List LiveSecond) (d : Day) → (seconds_after ss d).moment < m → d.moment < m
  before_then ss d early =
      let later = run_later (events_of ss) d in
      let same = ap (λ (x : Day). x.moment) (seconds_are ss d) in
      omega (arith, early, later, same)

  turns_onto : (ss : List LiveSecond) (d : Day) → AreShared m (seconds_after ss d).entries ns → (seconds_after ss d).moment < m → EachTurn P ss d → EachTurn P ss (onto ns d)
  turns_onto [] d after early h = h
  turns_onto (Unlinked ∷ ss) d after early h =
      let d1 = without_link d in
      let there = run_onto m (WithoutLink Three ∷ []) d ns (shared_at ss d1 after early) (before_then ss d1 early) in
      subst (EachTurn P ss) (sym there.day) (turns_onto ss d1 after early h)
  turns_onto (Linked received ∷ ss) d after early h =
      let called = (tick d).day in
      let left = heard_in received called in
      let shared_left = shared_at ss left after early in
      let before_left = before_then ss left early in
      let heard = run_onto m (heard_events received) called ns (subst (λ (x : Day). AreShared m x.entries ns) (sym (heard_is received called)) shared_left) (subst (λ (x : Day). x.moment < m) (sym (heard_is received called)) before_left) in
      let heard_there : heard_in received (onto ns called) ≡ onto ns left = sym (heard_is received (onto ns called)) ∙ heard.day ∙ ap (onto ns) (heard_is received called) in
      let before_called : called.moment < m = (
      let later = run_later (heard_events received) called in
      let same = ap (λ (x : Day). x.moment) (heard_is received called) in
      omega (arith, before_left, later, same)) in
      let ticked = run_onto m (OnLink Tick ∷ []) d ns heard.shared before_called in
      subst (λ (x : Day). P x (heard_in received x) × EachTurn P ss (heard_in received x)) (sym ticked.day)
      (subst (λ (y : Day). P (onto ns called) y × EachTurn P ss y) (sym heard_there)
      (stays m ns called left heard.shared shared_left h.0, turns_onto ss left after early h.1))

-- ---- one second more

after_more : (ss : List LiveSecond) (s : LiveSecond) (d : Day) → seconds_after (ss ++ s ∷ []) d ≡ second_after s (seconds_after ss d)
after_more [] s d = refl
after_more (x ∷ ss) s d = after_more ss s (second_after x d)

turn_more : (P : Day → Day → Type 0) (ss : List LiveSecond) (s : LiveSecond) (d : Day) → EachTurn P ss d → EachTurn P (s ∷ []) (seconds_after ss d) → EachTurn P (ss ++ s ∷ []) d
turn_more P [] s d h more = more
turn_more P (Unlinked ∷ ss) s d h more = turn_more P ss s (without_link d) h more
turn_more P (Linked received ∷ ss) s d h more = (h.0, turn_more P ss s (heard_in received (tick d).day) h.1 more)

module _ (P : Day → Day → Type 0) (stays : StaysOnto P) (channels : List Bool) (row_on : List ℕ → Row) where
  happened : (rows : List Row) (marks : List Bool) (seconds : List LiveSecond) (d : Day) (s : LiveSecond) → IsDayByTurns P channels rows marks seconds d → EachTurn P (s ∷ []) d → IsDayByTurns P channels rows marks (seconds ++ s ∷ []) (second_after s d)
  happened rows marks seconds d s h turn =
      let u = opening rows h.last in
      let is : d ≡ seconds_after seconds u = h.day ∙ seconds_are seconds u in
      record {
        bookings = h.bookings;
        last = h.last;
        one_each = h.one_each;
        accepted = h.accepted;
        carried = h.carried;
        day = ap (second_after s) is ∙ sym (after_more seconds s u) ∙ sym (seconds_are (seconds ++ s ∷ []) u);
        turns = turn_more P seconds s u h.turns (subst (EachTurn P (s ∷ [])) is turn);
      }

  amended : (rows : List Row) (marks : List Bool) (seconds : List LiveSecond) (d d1 : Day) (kind : Amendment) (line : List ℕ) → IsDayByTurns P channels rows marks seconds d → AmendsDay channels row_on kind line d d1
      → IsDayByTurns P channels (rows_amended row_on kind line rows) (marks_amended kind line marks) seconds d1
  amended rows marks seconds d d1 kind line h is =
      let events = events_of seconds in
      let rows' = rows_amended row_on kind line rows in
      let p = plan_of channels rows marks h.last events d h.one_each h.accepted h.bookings h.carried h.day in
      let n = next_plan channels rows marks events row_on kind line d d1 p is in
      let u = opening rows h.last in
      let now = live_day_after events u in
      let agrees : AgreesWith now rows' n.assigned = subst (λ (x : Day). AgreesWith x rows' n.assigned) h.day n.agrees in
      let new = entries_from 1 rows' n.assigned in
      let shared : AreShared (now.moment + 1) now.entries new = shared_now rows h.last rows' n.assigned events h.bookings n.bookings agrees in
      let there : onto new u ≡ opening rows' n.assigned = opening_onto rows h.last rows' n.assigned events h.bookings n.bookings agrees in
      record {
        bookings = n.bookings;
        last = n.assigned;
        one_each = n.one_each;
        accepted = n.accepted;
        carried = n.carried;
        day = n.day ∙ ap (changed rows' n.assigned) h.day ∙ sym (changed_day rows h.last rows' n.assigned events h.bookings n.bookings agrees);
        turns = subst (EachTurn P seconds) there
            (turns_onto P stays (now.moment + 1) new seconds u
            (subst (λ (x : Day). AreShared (now.moment + 1) x.entries new) (seconds_are seconds u) shared)
            (subst (λ (x : Day). x.moment < now.moment + 1) (seconds_are seconds u) (omega arith)) h.turns);
      }

  -- what comes in a second amends nothing
  rows_heard : (received : List (List ℕ)) (later : List LiveEvent) (rows : List Row) → rows_after row_on (heard_events received ++ later) rows ≡ rows_after row_on later rows
  rows_heard [] later rows = refl
  rows_heard (octets ∷ rest) later rows = rows_heard rest later rows

  marks_heard : (received : List (List ℕ)) (later : List LiveEvent) (marks : List Bool) → marks_after (heard_events received ++ later) marks ≡ marks_after later marks
  marks_heard [] later marks = refl
  marks_heard (octets ∷ rest) later marks = marks_heard rest later marks

  through_heard : (received : List (List ℕ)) (later : List LiveEvent) (d now : Day) → RunsThrough channels row_on later (heard_in received d) now → RunsThrough channels row_on (heard_events received ++ later) d now
  through_heard [] later d now rest = rest
  through_heard (octets ∷ more) later d now rest = through_heard more later (receive_octets d octets).day now rest

  -- the bookings of a plan and which are accepted, and a day of it
  abbrev Reached : List LiveSecond → Day → List Row → List Bool → Type 0
  Reached seconds now rows marks = IsDayByTurns P channels rows marks seconds now

  along : (steps : List AmendedSecond) (before : List LiveSecond) (rows : List Row) (marks : List Bool) (d now : Day) → IsDayByTurns P channels rows marks before d → SecondsLead P channels row_on steps d now
      → IsDayByTurns P channels (rows_after row_on (logged_in steps) rows) (marks_after (logged_in steps) marks) (before ++ seconds_in steps) now
  along [] before rows marks d now h same =
      subst (λ (ss : List LiveSecond). IsDayByTurns P channels rows marks ss now) (sym (nothing_more before)) (subst (IsDayByTurns P channels rows marks before) (sym same) h)
  along (Passes Unlinked ∷ steps) before rows marks d now h rest =
      subst (λ (ss : List LiveSecond). IsDayByTurns P channels (rows_after row_on (logged_in steps) rows) (marks_after (logged_in steps) marks) ss now) (joined before (seconds_in steps) Unlinked)
      (along steps (before ++ Unlinked ∷ []) rows marks (without_link d) now (happened rows marks before d Unlinked h tt) rest)
  along (Passes (Linked received) ∷ steps) before rows marks d now h (turn, rest) =
      let there = along steps (before ++ Linked received ∷ []) rows marks (heard_in received (tick d).day) now (happened rows marks before d (Linked received) h (turn, tt)) rest in
      let all = before ++ Linked received ∷ seconds_in steps in
      subst (λ (ms : List Bool). Reached all now (rows_after row_on (heard_events received ++ logged_in steps) rows) ms) (sym (marks_heard received (logged_in steps) marks))
      (subst (λ (rs : List Row). Reached all now rs (marks_after (logged_in steps) marks)) (sym (rows_heard received (logged_in steps) rows))
      (subst (λ (ss : List LiveSecond). Reached ss now (rows_after row_on (logged_in steps) rows) (marks_after (logged_in steps) marks)) (joined before (seconds_in steps) (Linked received)) there))
  along (Amends kind line ∷ steps) before rows marks d now h (d1, is, rest) =
      along steps before (rows_amended row_on kind line rows) (marks_amended kind line marks) d1 now (amended rows marks before d d1 kind line h is) rest

  -- the day goes through what is logged
  through : (steps : List AmendedSecond) (d now : Day) → SecondsLead P channels row_on steps d now → RunsThrough channels row_on (logged_in steps) d now
  through [] d now same = same
  through (Passes Unlinked ∷ steps) d now rest = through steps (without_link d) now rest
  through (Passes (Linked received) ∷ steps) d now (turn, rest) = through_heard received (logged_in steps) (tick d).day now (through steps (heard_in received (tick d).day) now rest)
  through (Amends kind line ∷ steps) d now (d1, is, rest) = (d1, is, through steps d1 now rest)

pub turns_stay : IsOneDayByJournal → (P : Day → Day → Type 0) → StaysOnto P → TurnsStay P
turns_stay one_day P stays rows channels assigned row_on steps d bookings carries count lead = (
  along P stays channels row_on steps [] rows (map is_some assigned) (opening rows assigned) d
      (record { bookings = bookings; last = assigned; one_each = count; accepted = refl; carried = carries; day = refl; turns = tt }) lead,
  λ other run. one_day channels row_on (logged_in steps) (opening rows assigned) d other (through P stays channels row_on steps (opening rows assigned) d lead) run,
)

-- ---- what is earned

module _ (paid : IsPaidAsPlanned) (unbroken_paid : IsPaidUnbroken) (channels : List Bool) (rows : List Row) (marks : List Bool) (seconds : List LiveSecond) (d : Day) (few : length seconds ≤ 300000) (h : IsDayByTurns IsAllAnswered channels rows marks seconds d) where
  abbrev begun : Day
  begun = opening rows h.last

  unbroken : (turns : List (List (List ℕ))) (i : ℕ) → seconds ≡ on_link turns → IsLongEnough rows h.last i (length turns) → IsCarriedBy ((row_at rows i).start + 1) (row_at rows i).end (standing_at d i)
  unbroken turns i same long =
      subst (λ (x : Day). IsCarriedBy ((row_at rows i).start + 1) (row_at rows i).end (standing_at x i)) (sym (h.day ∙ ap (λ (ss : List LiveSecond). live_day_after (events_of ss) begun) same))
      (carried_unbroken rows channels h.last turns i h.bookings h.carried (let n = ap length same in let size = on_link_size turns in omega (arith, few, n, size))
      (subst (λ (ss : List LiveSecond). EachTurn IsAllAnswered ss begun) same h.turns) long)

  paid_unbroken : (turns : List (List (List ℕ))) → seconds ≡ on_link turns → AreLongEnough rows h.last (length turns) → pays_of is_carried d.entries ≡ pay_of rows (is_accepted h.last)
  paid_unbroken turns same long =
      ap (λ (x : Day). pays_of is_carried x.entries) (h.day ∙ ap (λ (ss : List LiveSecond). live_day_after (events_of ss) begun) same)
      ∙ unbroken_paid rows channels h.last turns h.bookings h.carried (let n = ap length same in let size = on_link_size turns in omega (arith, few, n, size))
      (subst (λ (ss : List LiveSecond). EachTurn IsAllAnswered ss begun) same h.turns) long

  pub earned : IsEarnedDay channels rows marks seconds d
  earned = record {
    plan = h;
    carried = λ i cleared offered ended has.
        subst (λ (x : Day). IsCarriedBy offered (row_at rows i).end (standing_at x i)) (sym h.day) (carried_in rows channels h.last seconds i cleared offered ended h.bookings h.carried few h.turns has);
    unbroken = unbroken;
    paid = λ have. ap (λ (x : Day). pays_of is_carried x.entries) h.day ∙ paid rows channels h.last seconds h.bookings h.carried few h.turns have;
    paid_unbroken = paid_unbroken;
    in_service = λ c.
        subst (λ (x : Day). is_marked x.maintenance c ≡ false) (sym h.day) (in_service rows channels h.last seconds c h.bookings h.carried few (cleared_from seconds begun h.turns));
  }

pub earned_amended : IsOneDayByJournal → IsPaidAsPlanned → IsPaidUnbroken → IsEarnedAmended
earned_amended one_day paid unbroken_paid rows channels assigned row_on steps d bookings carries count few lead =
    earned paid unbroken_paid channels (rows_after row_on (logged_in steps) rows) (marks_after (logged_in steps) (map is_some assigned)) (seconds_in steps) d few
    (turns_stay one_day IsAllAnswered answered_onto rows channels assigned row_on steps d bookings carries count lead).0
