-- When a tick does nothing to a booking, and nothing at all.
use Rattle.std.proofs.Common.{◌≡◌, ◌==◌, ℕ, suc, ◌+◌, ◌≤◌, ◌<◌, ◌&&◌, ◌||◌, not, Bool, true, false, List, [], ◌∷◌, ◌++◌, map, length, Some, None, arith, refl, subst, ap, ap₂, ◌∙◌, nat_le, nat_lt, if◌then◌else◌, flat_map}
use Rattle.std.specs.List.{AllByRecursion, list_any}
use Rattle.std.proofs.Math.Nat.{min-le_left, min-le_right}
use Rattle.std.proofs.lemmas.Bool.{true≢false, false≢true, leb-true}
use Rattle.bx_base.specs.Bookings.{Row, is_running}
use Rattle.bx_calls.specs.PlainCalls.{PlainNetCall}
use Rattle.bx_calls.specs.declared.times.Times.TheVariants.{Twice}
use Rattle.bx_calls.specs.declared.net_state.NetState.{NetState}
use Rattle.bx_calls.specs.declared.net_state.NetState.TheVariants.{OutgoingCallProceeding, CallPresent, IncomingCallProceeding, CallReceived, Active, Enquiring, DisconnectIndication, ReleaseRequest}
use Rattle.bx_calls.specs.NetTable.{net_second, net_same, net_offered}
use Rattle.bx_calls.specs.Saying.{setup_of}
use Rattle.bx_day.specs.Day.{Day, every_channel, entry_at}
use Rattle.bx_day.specs.Ticks.{second_at, waits, said_on, ticked, second_in, after_in, maintained_in, breaks_in}
use Rattle.bx_day.specs.Moves.{is_active, activity_after, stays, becomes, follows}
use Rattle.bx_day.specs.Invariant.{phase_of, ActivityFits, EntryFits, CallFits}
use Rattle.bx_q931.specs.Outgoing.{Outgoing}
use Rattle.bx_calls.specs.Shared.{cons_some}
use Rattle.bx_day.specs.Quiet.{call_due, booking_due}
use Rattle.bx_day.specs.QuietSeconds.{later_by}
use Rattle.bx_day.specs.declared.entry.Moved.{Moved}
use Rattle.bx_day.specs.declared.entry.Entry.{Entry}
use Rattle.bx_day.specs.declared.entry.Standing.{Standing}
use Rattle.bx_day.specs.declared.entry.Activity.{Activity}
use Rattle.bx_day.specs.declared.entry.Standing.TheVariants.{Unoffered, OnCall, Missed}
use Rattle.bx_day.specs.declared.entry.Activity.TheVariants.{Never, Since}
use Rattle.bx_day.proofs.Tick.{by_cases, with_standing, offers}
use Rattle.bx_day.proofs.Once.{decide}
use Rattle.bx_day.specs.declared.entry.Link.TheVariants.{Up}

-- ---- a day of which each booking is quiet

quiet_entries : (d : Day) (es : List Entry) → AllByRecursion (λ e. second_in Up d e ≡ stays e.standing) es → map (after_in Up d) es ≡ es
quiet_entries d [] h = refl
quiet_entries d (e ∷ es) h = ap₂ (λ (m : Moved) xs. record e { standing = m.standing } ∷ xs) h.0 (quiet_entries d es h.1)

none_breaks : (d : Day) (c : ℕ) (es : List Entry) → AllByRecursion (λ e. second_in Up d e ≡ stays e.standing) es → list_any (breaks_in Up d c) es ≡ false
none_breaks d c [] h = refl
none_breaks d c (e ∷ es) h = ap₂ (λ (m : Moved) b. (m.broken && (e.channel == c)) || b) h.0 (none_breaks d c es h.1)

pub or_false : (b : Bool) → (b || false) ≡ b
or_false true = refl
or_false false = refl

quiet_marks : (d : Day) (c : ℕ) (bs : List Bool) → AllByRecursion (λ e. second_in Up d e ≡ stays e.standing) d.entries → maintained_in Up d c bs ≡ bs
quiet_marks d c [] h = refl
quiet_marks d c (b ∷ bs) h = ap₂ (λ x xs. x ∷ xs) (ap (λ x. b || x) (none_breaks d c d.entries h) ∙ or_false b) (quiet_marks d (c + 1) bs h)

quiet_on : (d : Day) (c : ℕ) (es : List Entry) → AllByRecursion (λ e. second_in Up d e ≡ stays e.standing) es → said_on d c es ≡ []
quiet_on d c [] h = refl
quiet_on d c (e ∷ es) h = by_cases (e.channel == c) _ _ (λ (os : List Outgoing). os ≡ []) (λ _. ap (λ (m : Moved). cons_some m.said (said_on d c es)) h.0 ∙ quiet_on d c es h.1) (λ _. quiet_on d c es h.1)

quiet_all : (d : Day) → AllByRecursion (λ e. second_in Up d e ≡ stays e.standing) d.entries → (cs : List ℕ) → flat_map (λ c. said_on d c d.entries) cs ≡ []
quiet_all d h [] = refl
quiet_all d h (c ∷ cs) = ap₂ (λ xs ys. xs ++ ys) (quiet_on d c d.entries h) (quiet_all d h cs)

pub quiet_tick : (d : Day) → AllByRecursion (λ e. second_in Up d e ≡ stays e.standing) d.entries → ticked d ≡ record { day = later_by 1 d; sent = [] }
quiet_tick d h =
    let entries = quiet_entries d d.entries h in
    let maintenance : maintained_in Up d 0 d.maintenance ≡ d.maintenance = quiet_marks d 0 d.maintenance h in
    ap₂ (λ es ms. record { day = record { moment = d.moment + 1; unlinked = d.unlinked; entries = es; maintenance = ms }; sent = flat_map (λ c. said_on d c d.entries) every_channel }) entries maintenance ∙ ap (λ os. record { day = later_by 1 d; sent = os }) (quiet_all d h every_channel)

pub all_at : (P : Entry → Type 0) (es : List Entry) → ((i : ℕ) → i < length es → P (entry_at es i)) → AllByRecursion P es
all_at P [] h = tt
all_at P (e ∷ es) h = (h 0 (omega arith), all_at P es (λ i lt. h (suc i) (omega (arith, lt))))

-- ---- the first due moment of one booking

pub late : (m t : ℕ) → t < m → nat_le m t ≡ false
late m t h = decide (nat_le m t) (λ yes. absurd (let le : m ≤ t = leb-true m t yes in omega (arith, le, h))) (λ less. less)

-- a call in its state stays in its activity
pub activity_stays : (t u : ℕ) (b : Row) (s : NetState) (a : Activity) → ActivityFits t b (phase_of s) a → activity_after a (is_active s) u ≡ a
activity_stays t u b Active (Since from) h = refl
activity_stays t u b (Enquiring asked due) (Since from) h = refl
activity_stays t u b Active a h = absurd h
activity_stays t u b (Enquiring asked due) a h = absurd h
activity_stays t u b s (Since from) h = absurd h
activity_stays t u b s a h = refl

running_late : (b : Row) (t : ℕ) → t < b.start → is_running b t ≡ false
running_late b t h = ap (λ x. x && nat_lt t b.end) (late b.start t h)

-- before its first due moment a call rests
at_rest : (c : PlainNetCall) (s : NetState) (t end : ℕ) → t < call_due s end → net_second (record c { state = s }) t end ≡ net_same (record c { state = s }) None
at_rest c OutgoingCallProceeding t end lt = absurd (omega (arith, lt))
at_rest c (CallPresent offer due) t end lt = rw (late end t (omega (arith, lt, min-le_right due end))) (rw (late due t (omega (arith, lt, min-le_left due end))) refl)
at_rest c (IncomingCallProceeding due) t end lt = rw (late end t (omega (arith, lt, min-le_right due end))) (rw (late due t (omega (arith, lt, min-le_left due end))) refl)
at_rest c (CallReceived due) t end lt = rw (late end t (omega (arith, lt, min-le_right due end))) (rw (late due t (omega (arith, lt, min-le_left due end))) refl)
at_rest c Active t end lt = rw (late end t lt) refl
at_rest c (Enquiring Twice due) t end lt = rw (late end t (omega (arith, lt, min-le_right due end))) (rw (late due t (omega (arith, lt, min-le_left due end))) refl)
at_rest c (DisconnectIndication cause due) t end lt = rw (late due t lt) refl
at_rest c (ReleaseRequest sent cause due) t end lt = rw (late due t lt) refl
at_rest c (Enquiring x due) t end lt = rw (late end t (omega (arith, lt, min-le_right due end))) (rw (late due t (omega (arith, lt, min-le_left due end))) refl)

call_quiet : (moment t : ℕ) (back free : Bool) (e : Entry) (c : PlainNetCall) (a : Activity) → CallFits moment e c a → t < call_due c.state e.booking.end → second_at e t back free (OnCall c a) ≡ stays (OnCall c a)
call_quiet moment t back free e c a fits lt = ap (follows a t) (at_rest c c.state t e.booking.end lt) ∙ ap (λ b. stays (OnCall c b)) (activity_stays moment t e.booking c.state a fits.activity)

-- one that is not offered and not missed goes on waiting
pub waits_on : (e : Entry) (t : ℕ) (back free : Bool) → offers e t free ≡ false → t < e.booking.end → waits e t back free ≡ stays Unoffered
waits_on e t back free unoffered early = ap (λ b. if b then (becomes (OnCall (net_offered e.reference e.channel e.booking.number back t) Never) (Some (setup_of e.reference e.channel e.booking.number))) else (if nat_le e.booking.end t then stays Missed else stays Unoffered)) unoffered ∙ ap (λ b. if b then stays Missed else stays Unoffered) (late e.booking.end t early)

pub not_offered : (a b c : Bool) → (b || not c) ≡ true → (a && not b && c) ≡ false
not_offered true true c h = refl
not_offered true false true h = absurd (false≢true h)
not_offered true false false h = refl
not_offered false b c h = refl

not_begun : (a b c : Bool) → a ≡ false → (a && not b && c) ≡ false
not_begun true b c h = absurd (true≢false h)
not_begun false b c h = refl

waits_quiet : (t : ℕ) (back free : Bool) (e : Entry) → e.booking.start ≤ e.booking.end → t < booking_due e Unoffered → waits e t back free ≡ stays Unoffered
waits_quiet t back free e order lt = decide e.booking.inward
    (λ inward. waits_on e t back free (not_offered (is_running e.booking t) e.booking.inward free (ap (λ b. b || not free) inward)) (subst (λ b. t < (if b then e.booking.end else e.booking.start)) inward lt))
    (λ outward.
    let early : t < e.booking.start = subst (λ b. t < (if b then e.booking.end else e.booking.start)) outward lt in
    waits_on e t back free (not_begun (is_running e.booking t) e.booking.inward free (running_late e.booking t early)) (omega (arith, early, order)))

pub booking_quiet : (moment t : ℕ) (back free : Bool) (e : Entry) (s : Standing) → EntryFits moment (with_standing e s) → e.booking.start ≤ e.booking.end → t < booking_due e s → second_at e t back free s ≡ stays s
booking_quiet moment t back free e Unoffered h order lt = waits_quiet t back free e order lt
booking_quiet moment t back free e (OnCall c a) h order lt = call_quiet moment t back free (with_standing e (OnCall c a)) c a h lt
booking_quiet moment t back free e s h order lt = refl
