-- The next tick that does something: none before does, and it does.
use Rattle.std.proofs.Common.{◌≡◌, ℕ, suc, min, ◌+◌, ◌≤◌, ◌<◌, ◌&&◌, not, Bool, true, false, [], length, arith, refl, sym, subst, ap, ◌∙◌, nat_le, nat_lt, if◌then◌else◌}
use Rattle.std.proofs.Math.Nat.{le-min}
use Rattle.std.proofs.lemmas.Bool.{true≢false, leb-true, leb-false, le-leb, lt-ltb, and_from, or_right}
use Rattle.bx_base.specs.Bookings.{is_running}
use Rattle.bx_calls.specs.PlainCalls.{PlainNetCall}
use Rattle.bx_calls.specs.declared.transition.Transition.{Transition}
use Rattle.bx_calls.specs.declared.net_state.Offer.TheVariants.{First, Second, Anew, PutOff, Unlinked, Asked}
use Rattle.bx_calls.specs.declared.times.Times.TheVariants.{NotYet, Once, Twice}
use Rattle.bx_calls.specs.declared.net_state.NetState.{NetState}
use Rattle.bx_calls.specs.declared.net_state.NetState.TheVariants.{OutgoingCallProceeding, CallPresent, IncomingCallProceeding, CallReceived, Active, Enquiring, DisconnectIndication, ReleaseRequest}
use Rattle.bx_calls.specs.NetTable.{first_offer, net_second}
use Rattle.bx_day.specs.Day.{is_back, Day, is_free, entry_at}
use Rattle.bx_day.specs.Ticks.{second_at, waits, tick, ticked, second_in, after_in}
use Rattle.bx_day.specs.Moves.{stays, over_at, follows}
use Rattle.bx_calls.specs.Sending.{Sent}
use Rattle.bx_day.specs.Invariant.{EntryFits}
use Rattle.bx_day.specs.Quiet.{call_due}
use Rattle.bx_day.specs.QuietSeconds.{later_by, IsQuietTick, tick_due, due_at, IsFirstDue}
use Rattle.bx_day.specs.Reading.{IsExchange}
use Rattle.bx_day.specs.declared.entry.Moved.{Moved}
use Rattle.bx_day.specs.declared.entry.Entry.{Entry}
use Rattle.bx_day.specs.declared.entry.Standing.{Standing}
use Rattle.bx_day.specs.declared.entry.Activity.{Activity}
use Rattle.bx_day.specs.declared.entry.Standing.TheVariants.{Refused, Unoffered, OnCall}
use Rattle.bx_day.specs.declared.entry.Activity.TheVariants.{Was}
use Rattle.bx_day.proofs.Tick.{with_standing, offers, by_cases}
use Rattle.bx_day.proofs.Once.{decide, each_at}
use Rattle.bx_day.proofs.Passing.{tick_is}
use Rattle.bx_day.proofs.Law.{at_map}
use Rattle.bx_day.proofs.Quiet.{quiet_tick, all_at, booking_quiet, waits_on, not_offered}
use Rattle.bx_day.specs.declared.entry.Link.TheVariants.{Up}

-- ---- before it is due, a booking stays as it is

due_quiet : (moment t : ℕ) (back free : Bool) (e : Entry) (s : Standing) → EntryFits moment (with_standing e s) → e.booking.start ≤ e.booking.end → t < tick_due e free s → second_at e t back free s ≡ stays s
due_quiet moment t back true e Unoffered h order lt = booking_quiet moment t back true e Unoffered h order lt
due_quiet moment t back false e Unoffered h order lt = waits_on e t back false (not_offered (is_running e.booking t) e.booking.inward false (or_right e.booking.inward true refl)) lt
due_quiet moment t back free e (OnCall c a) h order lt = booking_quiet moment t back free e (OnCall c a) h order lt
due_quiet moment t back free e s h order lt = refl

pub quiet_until : (d : Day) (due k : ℕ) → IsExchange d → IsFirstDue d (length d.entries) due → d.moment + k + 1 < due → IsQuietTick (later_by k d)
quiet_until d due k h is lt =
    tick_is (later_by k d) (let limit : due ≤ 300001 = is.limit in omega (arith, lt, limit))
    ∙ quiet_tick (later_by k d) (all_at (λ e. second_in Up (later_by k d) e ≡ stays e.standing) d.entries (λ i inside.
    let e = entry_at d.entries i in
    let before : due ≤ due_at d i = is.before i inside in
    due_quiet d.moment (d.moment + k + 1) (is_back (later_by k d)) (is_free d e.channel) e e.standing (each_at (EntryFits d.moment) d.entries i inside h.day.each) (is.ordered i inside) (omega (arith, lt, before))))

-- ---- a tick that does something to a booking shows in its stage

abbrev pub state_stage : NetState → ℕ
state_stage OutgoingCallProceeding = 2
state_stage (CallPresent Unlinked due) = 3
state_stage (CallPresent Asked due) = 4
state_stage (CallPresent PutOff due) = 5
state_stage (CallPresent First due) = 6
state_stage (CallPresent Anew due) = 7
state_stage (CallPresent Second due) = 8
state_stage (IncomingCallProceeding due) = 9
state_stage (CallReceived due) = 10
state_stage Active = 11
state_stage (Enquiring NotYet due) = 12
state_stage (Enquiring Once due) = 13
state_stage (Enquiring Twice due) = 14
state_stage (DisconnectIndication cause due) = 15
state_stage (ReleaseRequest NotYet cause due) = 16
state_stage (ReleaseRequest Once cause due) = 17
state_stage (ReleaseRequest Twice cause due) = 18

abbrev pub stage : Standing → ℕ
stage Refused = 0
stage Unoffered = 1
stage (OnCall call activity) = state_stage call.state
stage s = 19

over_stage : (a : Activity) (t : ℕ) → stage (over_at a t) ≡ 19
over_stage (Was from until) t = refl
over_stage a t = refl

-- a step of a call at moment t to a later stage than n
abbrev pub Rises : ℕ → Activity → ℕ → Transition PlainNetCall → Type 0
Rises t a n step = n < stage (follows a t step).standing

neither : (due end t : ℕ) → min due end ≤ t → nat_le end t ≡ false → nat_le due t ≡ false → ⊥
neither due end t le early waiting =
    let a : t < end = leb-false end t early in
    let b : t < due = leb-false due t waiting in
    let c : suc t ≤ min due end = le-min (omega (arith, b)) (omega (arith, a)) in
    omega (arith, le, c)

-- past its end, or where its timer fires, and one of both has come
timed_rises : (due end t k : ℕ) (a : Activity) (x y z : Transition PlainNetCall) → min due end ≤ t → Rises t a k x → Rises t a k y → Rises t a k (if nat_le end t then x else (if nat_le due t then y else z))
timed_rises due end t k a x y z le ended fires =
    by_cases (nat_le end t) _ _ (Rises t a k) (λ past. ended)
    (λ early. by_cases (nat_le due t) _ _ (Rises t a k) (λ now. fires) (λ waiting. absurd (neither due end t le early waiting)))

call_rises : (c : PlainNetCall) (s : NetState) (a : Activity) (t end : ℕ) → call_due s end ≤ t → Rises t a (state_stage s) (net_second (record c { state = s }) t end)
call_rises c OutgoingCallProceeding a t end le = by_cases (nat_le end t) _ _ (Rises t a 2) (λ ended. let lt : 2 < 15 = omega arith in lt) (λ _. let lt : 2 < 11 = omega arith in lt)
call_rises c (CallPresent Unlinked due) a t end le = timed_rises due end t 3 a _ _ _ le (let lt : 3 < 15 = omega arith in lt) (let lt : 3 < 4 = omega arith in lt)
call_rises c (CallPresent Asked due) a t end le = timed_rises due end t 4 a _ _ _ le (let lt : 4 < 15 = omega arith in lt) (let lt : 4 < 6 = omega arith in lt)
call_rises c (CallPresent PutOff due) a t end le = timed_rises due end t 5 a _ _ _ le (let lt : 5 < 15 = omega arith in lt) (let lt : 5 < 6 = omega arith in lt)
call_rises c (CallPresent First due) a t end le = timed_rises due end t 6 a _ _ _ le (let lt : 6 < 15 = omega arith in lt) (let lt : 6 < 8 = omega arith in lt)
call_rises c (CallPresent Anew due) a t end le = timed_rises due end t 7 a _ _ _ le (let lt : 7 < 15 = omega arith in lt) (let lt : 7 < 8 = omega arith in lt)
call_rises c (CallPresent Second due) a t end le = timed_rises due end t 8 a _ _ _ le (let lt : 8 < 15 = omega arith in lt) (subst (λ n. 8 < n) (sym (over_stage a t)) (let lt : 8 < 19 = omega arith in lt))
call_rises c (IncomingCallProceeding due) a t end le = timed_rises due end t 9 a _ _ _ le (let lt : 9 < 15 = omega arith in lt) (let lt : 9 < 15 = omega arith in lt)
call_rises c (CallReceived due) a t end le = timed_rises due end t 10 a _ _ _ le (let lt : 10 < 15 = omega arith in lt) (let lt : 10 < 15 = omega arith in lt)
call_rises c Active a t end le =
    by_cases (nat_le end t) _ _ (Rises t a 11) (λ ended. let lt : 11 < 15 = omega arith in lt) (λ early. absurd (true≢false (sym (le-leb end t le) ∙ early)))
call_rises c (Enquiring NotYet due) a t end le = timed_rises due end t 12 a _ _ _ le (let lt : 12 < 15 = omega arith in lt) (let lt : 12 < 13 = omega arith in lt)
call_rises c (Enquiring Once due) a t end le = timed_rises due end t 13 a _ _ _ le (let lt : 13 < 15 = omega arith in lt) (let lt : 13 < 14 = omega arith in lt)
call_rises c (Enquiring Twice due) a t end le = timed_rises due end t 14 a _ _ _ le (let lt : 14 < 15 = omega arith in lt) (let lt : 14 < 15 = omega arith in lt)
call_rises c (DisconnectIndication cause due) a t end le =
    by_cases (nat_le due t) _ _ (Rises t a 15) (λ fires. let lt : 15 < 17 = omega arith in lt) (λ early. absurd (true≢false (sym (le-leb due t le) ∙ early)))
call_rises c (ReleaseRequest NotYet cause due) a t end le =
    by_cases (nat_le due t) _ _ (Rises t a 16) (λ fires. let lt : 16 < 17 = omega arith in lt) (λ early. absurd (true≢false (sym (le-leb due t le) ∙ early)))
call_rises c (ReleaseRequest Once cause due) a t end le =
    by_cases (nat_le due t) _ _ (Rises t a 17) (λ fires. let lt : 17 < 18 = omega arith in lt) (λ early. absurd (true≢false (sym (le-leb due t le) ∙ early)))
call_rises c (ReleaseRequest Twice cause due) a t end le =
    by_cases (nat_le due t) _ _ (Rises t a 18) (λ fires. subst (λ n. 18 < n) (sym (over_stage a t)) (let lt : 18 < 19 = omega arith in lt)) (λ early. absurd (true≢false (sym (le-leb due t le) ∙ early)))

-- one that is due before its end is offered
must_offer : (start end t : ℕ) (inward free : Bool) → (if free then (if inward then end else start) else end) ≤ t → t < end → (nat_le start t && nat_lt t end && not inward && free) ≡ true
must_offer start end t inward false h early = absurd (omega (arith, h, early))
must_offer start end t true true h early = absurd (omega (arith, h, early))
must_offer start end t false true h early = and_from (nat_le start t && nat_lt t end && true) true (and_from (nat_le start t && nat_lt t end) true (and_from (nat_le start t) (nat_lt t end) (le-leb start t h) (lt-ltb t end early)) refl) refl

first_stage : (back : Bool) (due : ℕ) → 1 < state_stage (CallPresent (first_offer back) due)
first_stage true due = omega arith
first_stage false due = omega arith

waits_rises : (t : ℕ) (back free : Bool) (e : Entry) → tick_due e free Unoffered ≤ t → 1 < stage (waits e t back free).standing
waits_rises t back free e le =
    by_cases (offers e t free) _ _ (λ (m : Moved). 1 < stage m.standing)
    (λ offered. first_stage back (t + 4))
    (λ kept. by_cases (nat_le e.booking.end t) _ _ (λ (m : Moved). 1 < stage m.standing)
    (λ ended. let lt : 1 < 19 = omega arith in lt)
    (λ going. absurd (true≢false (sym (must_offer e.booking.start e.booking.end t e.booking.inward free le (leb-false e.booking.end t going)) ∙ kept))))

due_rises : (t : ℕ) (back free : Bool) (e : Entry) (s : Standing) → t ≤ 300000 → tick_due e free s ≤ t → stage s < stage (second_at e t back free s).standing
due_rises t back free e Unoffered low le = waits_rises t back free e le
due_rises t back free e (OnCall c a) low le = call_rises c c.state a t e.booking.end le
due_rises t back free e s low le = absurd (let late : 4294967295 ≤ t = le in omega (arith, low, late))

-- ---- a quiet tick comes before anything is due

pub quiet_early : (d : Day) → IsQuietTick d → d.moment < 300000
quiet_early d quiet = decide (nat_le 300000 d.moment)
    (λ last.
    let still : tick d ≡ record { day = d; sent = [] } = ap (λ b. if b then (record { day = d; sent = [] }) else ticked d) last in
    let same : d.moment ≡ d.moment + 1 = ap (λ (s : Sent Day). s.day.moment) (sym still ∙ quiet) in
    absurd (omega (arith, same)))
    (λ going. leb-false 300000 d.moment going)

quiet_booking : (d : Day) (i : ℕ) → IsQuietTick d → d.moment + 2 ≤ due_at d i
quiet_booking d i quiet =
    let early = quiet_early d quiet in
    let e = entry_at d.entries i in
    let same : after_in Up d e ≡ e = sym (at_map d d.entries i) ∙ ap (λ (s : Sent Day). entry_at s.day.entries i) (sym (tick_is d early) ∙ quiet) in
    decide (nat_le (due_at d i) (d.moment + 1))
    (λ due.
    let le : due_at d i ≤ d.moment + 1 = leb-true (due_at d i) (d.moment + 1) due in
    let rises : stage e.standing < stage (second_in Up d e).standing = due_rises (d.moment + 1) (is_back d) (is_free d e.channel) e e.standing (omega (arith, early)) le in
    let kept : stage (second_in Up d e).standing ≡ stage e.standing = ap (λ (x : Entry). stage x.standing) same in
    absurd (omega (arith, rises, kept)))
    (λ later. let lt : d.moment + 1 < due_at d i = leb-false (due_at d i) (d.moment + 1) later in omega (arith, lt))

-- after the quiet seconds a tick is not quiet
pub not_quiet : (d : Day) (due k : ℕ) → IsFirstDue d (length d.entries) due → due ≤ d.moment + k + 1 → IsQuietTick (later_by k d) → ⊥
not_quiet d due k is le quiet =
    let early : d.moment + k < 300000 = quiet_early (later_by k d) quiet in
    let late : d.moment + k + 2 ≤ due = is.latest (d.moment + k + 2) (omega (arith, early)) (λ i inside. quiet_booking (later_by k d) i quiet) in
    omega (arith, le, late)
