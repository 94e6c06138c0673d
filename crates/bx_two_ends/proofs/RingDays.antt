-- Where the far end answers each call in its own time, an outward booking goes on from its second second with a link at the latest, and is
-- Active when the seconds that it may ring are over. What goes on from there is the law of a call that is Active.
use Rattle.bx_events.specs.declared.rules.Rules.TheVariants.{Three}
use Rattle.std.proofs.Common.{◌≡◌, ◌≢◌, ℕ, zero, suc, ◌+◌, ◌-◌, ◌≤◌, ◌<◌, not, Bool, true, false, List, [], ◌∷◌, length, take, Option, arith, refl, sym, subst, ap, ◌∙◌, nat_le, inl, inr, ◌⊎◌, if◌then◌else◌}
use Rattle.std.proofs.lemmas.Bool.{false≢true, true≢false, leb-true, false_from_ne_true, cases_lt}
use Rattle.bx_base.specs.Bookings.{Row, row_at, is_running, AreBookings, Carries}
use Rattle.bx_base.specs.Plans.{is_accepted, channel_at}
use Rattle.bx_calls.specs.NetTable.{net_second, net_unlinked, net_is_clearing}
use Rattle.bx_calls.specs.PlainCalls.{PlainNetCall}
use Rattle.bx_calls.specs.declared.net_state.NetOrigin.{NetOrigin}
use Rattle.bx_calls.specs.declared.net_state.NetState.{NetState}
use Rattle.bx_calls.specs.declared.net_state.NetState.TheVariants.{OutgoingCallProceeding, CallPresent, IncomingCallProceeding, CallReceived, Active, Enquiring, DisconnectIndication, ReleaseRequest}
use Rattle.bx_calls.specs.declared.net_state.Offer.TheVariants.{Second}
use Rattle.bx_calls.specs.declared.times.Times.TheVariants.{NotYet, Once, Twice}
use Rattle.bx_calls.specs.declared.transition.Transition.{Transition}
use Rattle.bx_day.specs.Day.{Day, opening, entry_at, is_back, is_free, is_held, is_live}
use Rattle.bx_day.specs.Law.{OnLive, standing_at}
use Rattle.bx_day.specs.Moves.{follows, is_active}
use Rattle.bx_day.specs.Outages.{without_link, live_day_after}
use Rattle.bx_day.specs.Ticks.{second_at, unlinked_at, waits, passed_in, tick}
use Rattle.bx_day.specs.declared.entry.Activity.{Activity}
use Rattle.bx_day.specs.declared.entry.Entry.{Entry}
use Rattle.bx_day.specs.declared.entry.Link.TheVariants.{Up, Down}
use Rattle.bx_day.specs.declared.entry.Moved.{Moved}
use Rattle.bx_day.specs.declared.entry.Standing.{Standing}
use Rattle.bx_day.specs.declared.entry.Standing.TheVariants.{Unoffered, OnCall}
use Rattle.bx_day.proofs.Once.{decide}
use Rattle.bx_day.proofs.Second.{call_of}
use Rattle.bx_day.proofs.Tick.{by_cases, offers, runs_at}
use Rattle.bx_two_ends.specs.Earning.{LiveSecond, Linked, Unlinked, events_of, heard_in, second_after, seconds_after, has_link, is_settled, is_going, IsCleared, AreCleared, IsTalking, IsCarriedBy}
use Rattle.bx_two_ends.specs.Ringing.{is_given_up, IsInTime, AreInTime, AreAnsweredWithin, HasRingingSeconds, IsLongEnoughToRing, IsPunctualToRing}
use Rattle.bx_two_ends.proofs.Answering.{going_live}
use Rattle.bx_two_ends.proofs.Calm.{IsCalm, IsBooked, Stands, IsDueIn, IsLink, following, after_standing, without_is, called_turn, calm_linked, calm_unlinked, link_free, free_from, offers_from, offers_none, unoffered_live, down_held, due_after, not_due, day_linked, turn_linked}
use Rattle.bx_two_ends.proofs.Carrying.{IsUp, IsQuietCall, is_pressed, waits_offered, waits_stays, up_going}
use Rattle.bx_two_ends.proofs.EarnedDays.{opening_stands, talking_in, link_inside, all_linked, on_link, on_link_size, linked_or_first, free_from_start, alone_in, runs_from}
use Rattle.bx_two_ends.proofs.Turning.{heard_turn, heard_waits, up_of, fits_at}

-- ---- a call that goes on: a second

-- no timer gives it up at moment t
abbrev IsPatient : ℕ → Standing → Type 0
IsPatient t s = OnLive s (λ call a. is_given_up t call.state ≡ false)

by_going : (b : Bool) (a : Activity) (t : ℕ) (x y : Transition PlainNetCall) → (b ≡ true → is_going (follows a t x).standing ≡ true) → (b ≡ false → is_going (follows a t y).standing ≡ true) → is_going (follows a t (if b then x else y)).standing ≡ true
by_going true a t x y f g = f refl
by_going false a t x y f g = g refl

late : (t end : ℕ) (P : Type 0) → t < end → nat_le end t ≡ true → P
late t end P lt ended = let le : end ≤ t = leb-true end t ended in absurd (omega (arith, le, lt))

going_second : (t end r ch : ℕ) (o : NetOrigin) (s : NetState) (a : Activity) → not (net_is_clearing s) ≡ true → is_pressed s ≡ false → is_given_up t s ≡ false → t < end → is_going (follows a t (net_second (call_of r ch o s) t end)).standing ≡ true
going_second t end r ch o OutgoingCallProceeding a g q w lt = by_going (nat_le end t) a t _ _ (late t end _ lt) (λ _. refl)
going_second t end r ch o (CallPresent Second due) a g q w lt = by_going (nat_le end t) a t _ _ (late t end _ lt) (λ _. by_going (nat_le due t) a t _ _ (λ is. absurd (true≢false (sym is ∙ w))) (λ _. refl))
going_second t end r ch o (CallPresent offer due) a g q w lt = by_going (nat_le end t) a t _ _ (late t end _ lt) (λ _. by_going (nat_le due t) a t _ _ (λ _. refl) (λ _. refl))
going_second t end r ch o (IncomingCallProceeding due) a g q w lt = by_going (nat_le end t) a t _ _ (late t end _ lt) (λ _. by_going (nat_le due t) a t _ _ (λ is. absurd (true≢false (sym is ∙ w))) (λ _. refl))
going_second t end r ch o (CallReceived due) a g q w lt = by_going (nat_le end t) a t _ _ (late t end _ lt) (λ _. by_going (nat_le due t) a t _ _ (λ is. absurd (true≢false (sym is ∙ w))) (λ _. refl))
going_second t end r ch o Active a g q w lt = by_going (nat_le end t) a t _ _ (late t end _ lt) (λ _. refl)
going_second t end r ch o (Enquiring NotYet due) a g q w lt = by_going (nat_le end t) a t _ _ (late t end _ lt) (λ _. by_going (nat_le due t) a t _ _ (λ _. refl) (λ _. refl))
going_second t end r ch o (Enquiring Once due) a g q w lt = absurd (true≢false q)
going_second t end r ch o (Enquiring Twice due) a g q w lt = absurd (true≢false q)
going_second t end r ch o (DisconnectIndication cause due) a g q w lt = absurd (false≢true g)
going_second t end r ch o (ReleaseRequest again cause due) a g q w lt = absurd (false≢true g)

going_tick : (t : ℕ) (e : Entry) (back free : Bool) (s : Standing) → is_going s ≡ true → IsQuietCall s → IsPatient t s → t < e.booking.end → is_going (second_at e t back free s).standing ≡ true
going_tick t e back free (OnCall c a) g q w lt = going_second t e.booking.end c.reference c.channel c.origin c.state a g q w lt
going_tick t e back free s g q w lt = absurd (false≢true g)

-- and one without a link
going_still : (t end r ch : ℕ) (o : NetOrigin) (s : NetState) (a : Activity) → not (net_is_clearing s) ≡ true → t < end → is_going (follows a t (net_unlinked Three 1 (call_of r ch o s) t end)).standing ≡ true
going_still t end r ch o (DisconnectIndication cause due) a g lt = absurd (false≢true g)
going_still t end r ch o (ReleaseRequest again cause due) a g lt = absurd (false≢true g)
going_still t end r ch o s a g lt = by_going (nat_le end t) a t _ _ (late t end _ lt) (λ _. refl)

going_unlinked : (t : ℕ) (e : Entry) (s : Standing) → is_going s ≡ true → t < e.booking.end → is_going (unlinked_at Three e t s).standing ≡ true
going_unlinked t e (OnCall c a) g lt = going_still t e.booking.end c.reference c.channel c.origin c.state a g lt
going_unlinked t e s g lt = absurd (false≢true g)

by_patient : (b : Bool) (a : Activity) (t u : ℕ) (x y : Transition PlainNetCall) → IsPatient u (follows a t x).standing → IsPatient u (follows a t y).standing → IsPatient u (follows a t (if b then x else y)).standing
by_patient true a t u x y f g = f
by_patient false a t u x y f g = g

patient_still : (t end r ch : ℕ) (o : NetOrigin) (s : NetState) (a : Activity) → is_given_up t s ≡ false → IsPatient (t + 1) (follows a t (net_unlinked Three 1 (call_of r ch o s) t end)).standing
patient_still t end r ch o (DisconnectIndication cause due) a w = refl
patient_still t end r ch o (ReleaseRequest again cause due) a w = refl
patient_still t end r ch o s a w = by_patient (nat_le end t) a t (t + 1) _ _ refl refl

patient_waits : (t : ℕ) (e : Entry) → IsPatient (t + 1) (waits e t false false).standing
patient_waits t e = by_cases (offers e t false) _ _ (λ (m : Moved). IsPatient (t + 1) m.standing) (λ _. refl) (λ _. by_cases (nat_le e.booking.end t) _ _ (λ (m : Moved). IsPatient (t + 1) m.standing) (λ _. tt) (λ _. tt))

patient_unlinked : (t : ℕ) (e : Entry) (s : Standing) → IsPatient t s → IsPatient (t + 1) (unlinked_at Three e t s).standing
patient_unlinked t e (OnCall c a) w = patient_still t e.booking.end c.reference c.channel c.origin c.state a w
patient_unlinked t e Unoffered w = patient_waits t e
patient_unlinked t e s w = tt

-- ---- a turn: what goes on after the tick goes on after it

live_going : (s : Standing) → is_live s ≡ true → OnLive s (λ call a. net_is_clearing call.state ≡ false) → is_going s ≡ true
live_going (OnCall c a) live h = ap not h
live_going s live h = absurd (false≢true live)

turn_going : (called left : Day) (i : ℕ) → IsCleared called left → is_going (standing_at called i) ≡ true → is_going (standing_at left i) ≡ true
turn_going called left i ok g = live_going (standing_at left i) (ok.kept i g) (ok.cleared i)

-- ---- how far the booking has come

-- a day between two turns: the booking waits, or its call goes on, from moment offered on at the latest
pub record Rings (rows : List Row) (assigned : List (Option ℕ)) (i cleared offered : ℕ) (d : Day) : Type 0 where
  pub calm : IsCalm rows assigned d
  pub patient : IsPatient (d.moment + 1) (standing_at d i)
  pub early : d.moment < offered → (standing_at d i ≡ Unoffered) ⊎ (is_going (standing_at d i) ≡ true)
  pub free : cleared ≤ d.moment → d.moment < offered → is_held d.entries (channel_at assigned i) ≡ true → is_going (standing_at d i) ≡ true
  pub on : offered ≤ d.moment → d.moment < (row_at rows i).end → is_going (standing_at d i) ≡ true

up_patient : (u t : ℕ) (s : Standing) → IsUp u s → IsPatient t s
up_patient u t (OnCall c a) up = at c.state a up
  where
    at : (s : NetState) (a : Activity) → IsUp u (OnCall (record c { state = s }) a) → is_given_up t s ≡ false
    at Active a h = refl
    at (Enquiring asked due) a h = refl
    at s a h = absurd h
up_patient u t s up = absurd up

waits_patient : (t : ℕ) (s : Standing) → s ≡ Unoffered → IsPatient t s
waits_patient t s is = subst (IsPatient t) (sym is) tt

-- from a day on which the booking waits, or talks
rings_from : (rows : List Row) (assigned : List (Option ℕ)) (i cleared offered ended : ℕ) (d : Day) → d.moment < offered → Stands rows assigned i cleared offered ended d → Rings rows assigned i cleared offered d
rings_from rows assigned i cleared offered ended d before s = record {
  calm = s.calm;
  patient = elim (s.early before) [ inl waits ↦ waits_patient (d.moment + 1) (standing_at d i) waits | inr up ↦ up_patient offered (d.moment + 1) (standing_at d i) up ];
  early = λ less. elim (s.early less) [ inl waits ↦ inl waits | inr up ↦ inr (up_going offered (standing_at d i) up) ];
  free = λ low less held. up_going offered (standing_at d i) (s.free low less held);
  on = λ past less. absurd (omega (arith, past, before));
}

module _ (rows : List Row) (assigned : List (Option ℕ)) (i cleared offered ended : ℕ) (b : IsBooked rows assigned i cleared offered ended) where
  abbrev End : ℕ
  End = (row_at rows i).end

  -- ---- a second with a link

  module _ (d : Day) (received : List (List ℕ)) (early : d.moment < 300000) (s : Rings rows assigned i cleared offered d) (ok : IsInTime (passed_in Up d).day (following d received)) where
    abbrev Called : Day
    Called = (passed_in Up d).day

    abbrev Left : Day
    Left = following d received

    link : IsLink rows assigned i d received
    link = record { inside = b.inside; fits = s.calm.fits; quiet = s.calm.quiet i; first = called_turn rows assigned d early s.calm; last = heard_turn rows assigned (d.moment + 1) received Called (called_turn rows assigned d early s.calm); ok = ok.cleared }

    book : (entry_at d.entries i).booking ≡ row_at rows i
    book = (s.calm.fits.framed.0 i b.inside).booking

    going_on : d.moment + 1 < End → is_going (standing_at d i) ≡ true → is_going (standing_at Left i) ≡ true
    going_on less g =
        let e = entry_at d.entries i in
        turn_going Called Left i ok.cleared (subst (λ x. is_going x ≡ true) (sym (after_standing Up d i))
        (going_tick (d.moment + 1) e (is_back d) (is_free d e.channel) e.standing g (s.calm.quiet i) s.patient (subst (λ (r : Row). d.moment + 1 < r.end) (sym book) less)))

    -- one that waits is offered, or could not be
    waited : d.moment + 1 < End → standing_at d i ≡ Unoffered → ((standing_at Left i ≡ Unoffered) × (offers (entry_at d.entries i) (d.moment + 1) (is_free d (entry_at d.entries i).channel) ≡ false)) ⊎ (is_going (standing_at Left i) ≡ true)
    waited less is =
        let e = entry_at d.entries i in
        let n = d.moment + 1 in
        let back = is_back d in
        let free = is_free d e.channel in
        let now : standing_at Called i ≡ (waits e n back free).standing = after_standing Up d i ∙ ap (λ x. (second_at e n back free x).standing) is in
        decide (offers e n free)
        (λ yes. inr (turn_going Called Left i ok.cleared (ap is_going now ∙ waits_offered n e back free yes)))
        (λ stays.
        let waiting : standing_at Called i ≡ Unoffered = now ∙ waits_stays n e back free stays (subst (λ (r : Row). n < r.end) (sym book) less) in
        let outward : (entry_at Called.entries i).booking.inward ≡ false = ap (λ (r : Row). r.inward) (link.first.fits.framed.0 i b.inside).booking ∙ b.outward in
        inl ((heard_waits n i received Called refl (outward, waiting)).1, stays))

    before_offer : d.moment + 1 ≤ offered → ((standing_at Left i ≡ Unoffered) × (offers (entry_at d.entries i) (d.moment + 1) (is_free d (entry_at d.entries i).channel) ≡ false) × (standing_at d i ≡ Unoffered)) ⊎ (is_going (standing_at Left i) ≡ true)
    before_offer le =
        let less : d.moment + 1 < End = omega (arith, le, b.late) in
        elim (s.early (omega (arith, le))) [
          | inl waits ↦ elim (waited less waits) [
            | inl still ↦ inl (still.0, still.1, waits)
            | inr g ↦ inr g
          ]
          | inr g ↦ inr (going_on less g)
        ]

    unoffered_going : (x : Standing) → x ≡ Unoffered → is_going x ≡ true → ⊥
    unoffered_going x is g = false≢true (sym (ap is_going is) ∙ g)

    at_offer : d.moment + 1 ≡ offered → is_going (standing_at Left i) ≡ true
    at_offer is = elim (before_offer (omega (arith, is))) [
      | inl still ↦ absurd (
          let e = entry_at d.entries i in
          let f = s.calm.fits.framed.0 i b.inside in
          let runs : is_running e.booking (d.moment + 1) ≡ true = subst (λ (r : Row). is_running r (d.moment + 1) ≡ true) (sym f.booking) (subst (λ t. is_running (row_at rows i) t ≡ true) (sym is) b.runs) in
          let out : e.booking.inward ≡ false = ap (λ (r : Row). r.inward) f.booking ∙ b.outward in
          let held : is_held d.entries (channel_at assigned i) ≡ false = false_from_ne_true (is_held d.entries (channel_at assigned i)) (λ yes. unoffered_going (standing_at d i) still.2 (s.free (omega (arith, is, b.before)) (omega (arith, is)) yes)) in
          let free : is_free d e.channel ≡ true = free_from d e.channel (subst (λ c. is_held d.entries c ≡ false) (sym f.channel) held) (s.calm.clean e.channel) in
          true≢false (sym (offers_from e (d.moment + 1) (is_free d e.channel) runs out free) ∙ still.1))
      | inr g ↦ g
    ]

    ring_linked : Rings rows assigned i cleared offered Left
    ring_linked =
        let at : Left.moment ≡ d.moment + 1 = link.last.moment in
        record {
          calm = calm_linked rows assigned d received early s.calm ok.cleared;
          patient = ok.waits i;
          early = λ less. elim (before_offer (omega (arith, less, at))) [ inl still ↦ inl still.0 | inr g ↦ inr g ];
          free = λ low less held. elim (before_offer (omega (arith, less, at))) [
            | inl still ↦ absurd (unoffered_live (standing_at Left i) still.0 (link_free rows assigned i cleared offered d received link b.alone (omega (arith, low, at)) (omega (arith, less, at)) held))
            | inr g ↦ g
          ];
          on = λ past less. elim (cases_lt d.moment offered) [
            | inl before ↦ at_offer (omega (arith, before, past, at))
            | inr on ↦ going_on (omega (arith, less, at)) (s.on on (omega (arith, less, at)))
          ];
        }

    moment_linked : Left.moment ≡ d.moment + 1
    moment_linked = link.last.moment

  -- ---- a second without one

  ring_unlinked : (d : Day) → d.moment < 300000 → Rings rows assigned i cleared offered d → (cleared ≢ d.moment + 1) → (offered ≢ d.moment + 1) → Rings rows assigned i cleared offered (passed_in (Down Three) d).day
  ring_unlinked d early s nc nf =
      let e = entry_at d.entries i in
      let n = d.moment + 1 in
      let book : e.booking ≡ row_at rows i = (s.calm.fits.framed.0 i b.inside).booking in
      let here = after_standing (Down Three) d i in
      let goes : n < End → is_going e.standing ≡ true → is_going (standing_at (passed_in (Down Three) d).day i) ≡ true =
      λ less g. subst (λ x. is_going x ≡ true) (sym here) (going_unlinked n e e.standing g (subst (λ (r : Row). n < r.end) (sym book) less)) in
      record {
        calm = calm_unlinked rows assigned d early s.calm;
        patient = subst (IsPatient (n + 1)) (sym here) (patient_unlinked n e e.standing s.patient);
        early = λ less. elim (s.early (omega (arith, less))) [
          | inl waits ↦ inl (here ∙ ap (λ x. (unlinked_at Three e n x).standing) waits ∙ waits_stays n e false false (offers_none e n) (subst (λ (r : Row). n < r.end) (sym book) (omega (arith, less, b.late))))
          | inr g ↦ inr (goes (omega (arith, less, b.late)) g)
        ];
        free = λ low less held. goes (omega (arith, less, b.late)) (s.free (below cleared d.moment low nc) (omega (arith, less)) (down_held d (channel_at assigned i) held));
        on = λ past less. goes less (s.on (below offered d.moment past nf) (omega (arith, less)));
      }
    where
      below : (t m : ℕ) → t ≤ m + 1 → t ≢ m + 1 → t ≤ m
      below t m le ne = omega (arith, le, ne)

  -- ---- so many seconds

  pub record Reached (k : ℕ) (seconds : List LiveSecond) (d : Day) : Type 0 where
    pub moment : (seconds_after (take k seconds) d).moment ≡ d.moment + k
    pub rings : Rings rows assigned i cleared offered (seconds_after (take k seconds) d)

  ring_run : (k : ℕ) (seconds : List LiveSecond) (d : Day) → Rings rows assigned i cleared offered d → AreInTime seconds d → d.moment + length seconds ≤ 300000 → k ≤ length seconds → IsDueIn seconds d.moment cleared → IsDueIn seconds d.moment offered → Reached k seconds d
  ring_run zero seconds d s ok few size dc do_ = record { moment = omega arith; rings = s }
  ring_run (suc k) [] d s ok few size dc do_ = absurd (omega (arith, size))
  ring_run (suc k) (Linked received ∷ ss) d s ok few size dc do_ =
      let early : d.moment < 300000 = omega (arith, few) in
      let left : Day = following d received in
      let is : second_after (Linked received) d ≡ left = day_linked d received early in
      let now : IsInTime (passed_in Up d).day left = turn_linked IsInTime d received early ok.0 in
      let at : left.moment ≡ d.moment + 1 = moment_linked d received early s now in
      let rest = ring_run k ss left (ring_linked d received early s now) (subst (AreInTime ss) is ok.1) (omega (arith, few, at)) (omega (arith, size))
      (subst (λ m. IsDueIn ss m cleared) (sym at) (due_after (Linked received) ss d.moment cleared dc))
      (subst (λ m. IsDueIn ss m offered) (sym at) (due_after (Linked received) ss d.moment offered do_)) in
      record {
        moment = subst (λ (x : Day). (seconds_after (take k ss) x).moment ≡ d.moment + suc k) (sym is) (let same = rest.moment in omega (arith, same, at));
        rings = subst (λ (x : Day). Rings rows assigned i cleared offered (seconds_after (take k ss) x)) (sym is) rest.rings;
      }
  ring_run (suc k) (Unlinked ∷ ss) d s ok few size dc do_ =
      let early : d.moment < 300000 = omega (arith, few) in
      let is : without_link d ≡ (passed_in (Down Three) d).day = without_is d early in
      let rest = ring_run k ss (passed_in (Down Three) d).day (ring_unlinked d early s (not_due ss d.moment cleared dc) (not_due ss d.moment offered do_)) (subst (AreInTime ss) is ok) (omega (arith, few)) (omega (arith, size)) (due_after Unlinked ss d.moment cleared dc) (due_after Unlinked ss d.moment offered do_) in
      record {
        moment = subst (λ (x : Day). (seconds_after (take k ss) x).moment ≡ d.moment + suc k) (sym is) (let same = rest.moment in omega (arith, same));
        rings = subst (λ (x : Day). Rings rows assigned i cleared offered (seconds_after (take k ss) x)) (sym is) rest.rings;
      }

-- ---- its call is Active when it was answered

in_time_cleared : (seconds : List LiveSecond) (d : Day) → AreInTime seconds d → AreCleared seconds d
in_time_cleared [] d h = tt
in_time_cleared (Unlinked ∷ ss) d h = in_time_cleared ss (without_link d) h
in_time_cleared (Linked received ∷ ss) d h = (h.0.cleared, in_time_cleared ss (heard_in received (tick d).day) h.1)

up_active : (u : ℕ) (s : Standing) → IsUp u s → OnLive s (λ call a. is_active call.state ≡ true)
up_active u (OnCall c a) up = at c.state a up
  where
    at : (s : NetState) (a : Activity) → IsUp u (OnCall (record c { state = s }) a) → is_active s ≡ true
    at Active a h = refl
    at (Enquiring asked due) a h = refl
    at s a h = absurd h
up_active u s up = absurd up

due_from : (seconds : List LiveSecond) (t : ℕ) → (t ≡ 0) ⊎ (has_link 0 seconds t ≡ true) → IsDueIn seconds 0 t
due_from seconds t (inl none) = inl (omega (arith, none))
due_from seconds t (inr h) = inr h

module _ (rows : List Row) (channels : List Bool) (assigned : List (Option ℕ)) (within : ℕ → ℕ) (seconds : List LiveSecond) (i cleared offered answered ended : ℕ) (b : AreBookings rows) (h : Carries rows channels (is_accepted assigned) (channel_at assigned)) (few : length seconds ≤ 300000) (ok : AreAnsweredWithin within seconds (opening rows assigned)) (s : HasRingingSeconds rows assigned within seconds i cleared offered answered ended) where
  abbrev Opened : Day
  Opened = opening rows assigned

  booked : IsBooked rows assigned i cleared offered ended
  booked = record { inside = s.inside; outward = s.outward; alone = s.alone; before = s.before; runs = s.runs; late = (runs_at (row_at rows i) offered s.runs).1; over = s.over }

  size : answered ≤ length seconds
  size = let le : answered ≤ 0 + length seconds = link_inside seconds 0 answered s.connects in omega (arith, le)

  reached : (k : ℕ) → k ≤ answered → Reached rows assigned i cleared offered ended booked k seconds Opened
  reached k le = ring_run rows assigned i cleared offered ended booked k seconds Opened
      (rings_from rows assigned i cleared offered ended Opened (let lt = s.before in omega (arith, lt)) (opening_stands rows channels assigned i cleared offered ended b h s.accepted booked))
      ok.in_time (omega (arith, few)) (let all = size in omega (arith, le, all)) (due_from seconds cleared s.clears) (inr s.offers)

  going_at : (k : ℕ) → offered ≤ k → k ≤ answered → is_going (standing_at (seconds_after (take k seconds) Opened) i) ≡ true
  going_at k low le =
      let r = reached k le in
      let at : (seconds_after (take k seconds) Opened).moment ≡ 0 + k = r.moment in
      r.rings.on (omega (arith, low, at)) (let lt = s.runs_on in omega (arith, le, at, lt))

  abbrev Last : Day
  Last = seconds_after (take answered seconds) Opened

  settled_then : (n : ℕ) → n + within i ≡ answered → OnLive (standing_at Last i) (λ call a. is_settled call ≡ true)
  settled_then n is = subst (λ k. OnLive (standing_at (seconds_after (take k seconds) Opened) i) (λ call a. is_settled call ≡ true)) is
      (ok.answers i n (going_live (standing_at (seconds_after (take n seconds) Opened) i) (going_at n (let le = s.rings in omega (arith, le, is)) (omega (arith, is))))
      (subst (λ t. has_link 0 seconds t ≡ true) (let same : answered ≡ 0 + (n + within i) = omega (arith, is) in same) s.connects))

  talks : IsTalking rows assigned seconds i answered ended
  talks =
      let r = reached answered (omega arith) in
      let live : is_live (standing_at Last i) ≡ true = going_live (standing_at Last i) (going_at answered (let le = s.rings in omega (arith, le)) (omega arith)) in
      let settled = settled_then (answered - within i) (let le = s.rings in omega (arith, le)) in
      let inward : (entry_at Last.entries i).booking.inward ≡ false = ap (λ (x : Row). x.inward) (r.rings.calm.fits.framed.0 i s.inside).booking ∙ s.outward in
      record {
        inside = s.inside;
        live = live;
        active = up_active Last.moment (standing_at Last i) (up_of Last.moment Last.moment (entry_at Last.entries i) (standing_at Last i) (fits_at Last i r.rings.calm.fits.day) live settled inward (omega arith));
        runs = s.runs_on;
        over = s.over;
        ends = s.ends;
      }

  pub rung_in : IsCarriedBy answered (row_at rows i).end (standing_at (live_day_after (events_of seconds) Opened) i)
  rung_in = talking_in rows channels assigned seconds i answered ended b h few (in_time_cleared seconds Opened ok.in_time) talks

-- ---- a link that is never lost

pub rung_unbroken : (rows : List Row) (channels : List Bool) (assigned : List (Option ℕ)) (within : ℕ → ℕ) (turns : List (List (List ℕ))) (i : ℕ) → AreBookings rows → Carries rows channels (is_accepted assigned) (channel_at assigned) → length turns ≤ 300000 → AreAnsweredWithin within (on_link turns) (opening rows assigned) → IsLongEnoughToRing rows assigned within i (length turns)
    → IsCarriedBy ((row_at rows i).start + 1 + within i) (row_at rows i).end (standing_at (live_day_after (events_of (on_link turns)) (opening rows assigned)) i)
rung_unbroken rows channels assigned within turns i b h few ok k =
    let s = (row_at rows i).start in
    let end = (row_at rows i).end in
    let long : s + 1 + within i < end = k.seconds in
    rung_in rows channels assigned within (on_link turns) i s (s + 1) (s + 1 + within i) end b h (omega (arith, few, on_link_size turns)) ok (record {
      inside = k.inside;
      accepted = k.accepted;
      outward = k.outward;
      alone = alone_in rows channels assigned i s (s + 1) h k.inside k.accepted (omega arith) (omega (arith, long));
      clears = linked_or_first turns s (omega (arith, long, k.over));
      before = omega arith;
      runs = runs_from (row_at rows i) (s + 1) (omega arith) (omega (arith, long));
      offers = all_linked turns 0 (s + 1) (omega arith) (omega (arith, long, k.over));
      rings = omega arith;
      runs_on = long;
      connects = all_linked turns 0 (s + 1 + within i) (omega arith) (omega (arith, long, k.over));
      over = omega arith;
      ends = all_linked turns 0 end (omega (arith, long)) (omega (arith, k.over));
    })

pub rung_punctual : (rows : List Row) (channels : List Bool) (assigned : List (Option ℕ)) (within : ℕ → ℕ) (turns : List (List (List ℕ))) (i : ℕ) → AreBookings rows → Carries rows channels (is_accepted assigned) (channel_at assigned) → length turns ≤ 300000 → AreAnsweredWithin within (on_link turns) (opening rows assigned) → IsPunctualToRing rows assigned within i (length turns)
    → IsCarriedBy ((row_at rows i).start + within i) (row_at rows i).end (standing_at (live_day_after (events_of (on_link turns)) (opening rows assigned)) i)
rung_punctual rows channels assigned within turns i b h few ok k = at (row_at rows i).start refl k.first
  where
    end : ℕ
    end = (row_at rows i).end

    order : (row_at rows i).start < end
    order = (b.each i k.inside).in_order

    at : (s : ℕ) → (row_at rows i).start ≡ s → 1 ≤ s → IsCarriedBy ((row_at rows i).start + within i) end (standing_at (live_day_after (events_of (on_link turns)) (opening rows assigned)) i)
    at zero is one = absurd (omega (arith, one))
    at (suc s) is one =
        let long : (row_at rows i).start + within i < end = k.seconds in
        subst (λ u. IsCarriedBy u end (standing_at (live_day_after (events_of (on_link turns)) (opening rows assigned)) i)) (let same : suc s + within i ≡ (row_at rows i).start + within i = omega (arith, is) in same)
        (rung_in rows channels assigned within (on_link turns) i s (suc s) (suc s + within i) end b h (omega (arith, few, on_link_size turns)) ok (record {
          inside = k.inside;
          accepted = k.accepted;
          outward = k.outward;
          alone = free_from_start rows channels assigned i b h k.inside k.accepted k.after_none s is;
          clears = linked_or_first turns s (omega (arith, is, order, k.over));
          before = omega arith;
          runs = runs_from (row_at rows i) (suc s) (omega (arith, is)) (omega (arith, is, order));
          offers = all_linked turns 0 (suc s) (omega arith) (omega (arith, is, order, k.over));
          rings = omega arith;
          runs_on = omega (arith, is, long);
          connects = all_linked turns 0 (suc s + within i) (omega arith) (omega (arith, is, long, k.over));
          over = omega arith;
          ends = all_linked turns 0 end (omega (arith, order)) (omega (arith, k.over));
        }))
