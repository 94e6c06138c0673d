-- A far end that clears by its messages, and connects each call within its seconds, answers each within them.
use Rattle.bx_events.specs.declared.rules.Rules.TheVariants.{Three}
use Rattle.std.proofs.Common.{◌≡◌, ℕ, zero, suc, ◌+◌, ◌≤◌, ◌<◌, Bool, true, false, List, [], ◌∷◌, length, take, Option, arith, refl, sym, subst, ap, ◌∙◌, inl, inr, if◌then◌else◌, slice_index_or}
use Rattle.std.proofs.lemmas.Bool.{false≢true, eq-eqb}
use Rattle.bx_base.specs.Bookings.{Row, AreBookings, Carries}
use Rattle.bx_base.specs.Channels.{IsChannelSet}
use Rattle.bx_base.specs.Plans.{is_accepted, channel_at}
use Rattle.bx_calls.specs.Sending.{Sent}
use Rattle.bx_day.specs.Day.{Day, entry_at, opening, is_live}
use Rattle.bx_day.specs.Law.{OnLive, standing_at}
use Rattle.bx_day.specs.Outages.{without_link}
use Rattle.bx_day.specs.Ticks.{passed_in, tick}
use Rattle.bx_day.specs.declared.entry.Link.TheVariants.{Up, Down}
use Rattle.bx_day.proofs.Passing.{tick_is}
use Rattle.bx_two_ends.specs.Answering.{Clears, ClearsAll, is_connect, is_ringing, is_told}
use Rattle.bx_two_ends.specs.Earning.{LiveSecond, Linked, Unlinked, heard_in, second_after, seconds_after, is_linked, has_link, is_settled, AreCleared, EachTurn}
use Rattle.bx_two_ends.specs.Ringing.{AreInTime, AreAnsweredWithin, ConnectsWithin, IsBeforeTimers}
use Rattle.bx_two_ends.proofs.Answering.{IsLeft}
use Rattle.bx_two_ends.proofs.AnsweringDays.{IsBetween, linked_between, unlinked_between, opening_between, cleared_turn, left_turn, cleared_by}
use Rattle.bx_two_ends.proofs.Calm.{called_turn, day_linked, due_after, without_is}
use Rattle.bx_two_ends.proofs.FromNow.{link_after}
use Rattle.bx_two_ends.proofs.Turning.{heard_turn}

-- ---- each turn

with_patience : (seconds : List LiveSecond) (d : Day) → AreCleared seconds d → EachTurn IsBeforeTimers seconds d → AreInTime seconds d
with_patience [] d h w = tt
with_patience (Unlinked ∷ ss) d h w = with_patience ss (without_link d) h w
with_patience (Linked received ∷ ss) d h w = (record { cleared = h.0; waits = w.0.waits }, with_patience ss (heard_in received (tick d).day) h.1 w.1)

-- ---- the turn after so many seconds

abbrev received_of : LiveSecond → List (List ℕ)
received_of (Linked received) = received
received_of Unlinked = []

not_linked : (received : List (List ℕ)) → Unlinked ≡ Linked received → ⊥
not_linked received is = false≢true (ap is_linked is)

pub record TurnAt (rows : List Row) (assigned : List (Option ℕ)) (k : ℕ) (seconds : List LiveSecond) (d : Day) (received : List (List ℕ)) : Type 0 where
  pub between : IsBetween rows assigned (seconds_after (take k seconds) d)
  pub early : (seconds_after (take k seconds) d).moment < 300000
  pub clears : Clears (tick (seconds_after (take k seconds) d)).day received
  pub next : seconds_after (take (suc k) seconds) d ≡ heard_in received (tick (seconds_after (take k seconds) d)).day

turn_at : (rows : List Row) (assigned : List (Option ℕ)) (k : ℕ) (seconds : List LiveSecond) (d : Day) (received : List (List ℕ)) → IsBetween rows assigned d → ClearsAll seconds d → d.moment + length seconds ≤ 300000 → slice_index_or seconds k Unlinked ≡ Linked received → TurnAt rows assigned k seconds d received
turn_at rows assigned zero [] d received h ok few is = absurd (not_linked received is)
turn_at rows assigned (suc k) [] d received h ok few is = absurd (not_linked received is)
turn_at rows assigned zero (Unlinked ∷ ss) d received h ok few is = absurd (not_linked received is)
turn_at rows assigned zero (Linked r ∷ ss) d received h ok few is = subst (TurnAt rows assigned zero (Linked r ∷ ss) d) (ap received_of is)
    (record { between = h; early = omega (arith, few); clears = ok.0; next = refl })
turn_at rows assigned (suc k) (Linked r ∷ ss) d received h ok few is =
    let early : d.moment < 300000 = omega (arith, few) in
    let left : Day = heard_in r (passed_in Up d).day in
    let same : second_after (Linked r) d ≡ left = day_linked d r early in
    let next = linked_between rows assigned d r early h (cleared_turn rows assigned d r early h (subst (λ x. Clears x.day r) (tick_is d early) ok.0)) in
    let at : left.moment ≡ d.moment + 1 = (ap (λ x. x) (heard_turn rows assigned (d.moment + 1) r (passed_in Up d).day (called_turn rows assigned d early h.calm)).moment) in
    let rest = turn_at rows assigned k ss left received next (subst (ClearsAll ss) same ok.1) (omega (arith, few, at)) is in
    record {
      between = subst (λ x. IsBetween rows assigned (seconds_after (take k ss) x)) (sym same) rest.between;
      early = subst (λ x. (seconds_after (take k ss) x).moment < 300000) (sym same) rest.early;
      clears = subst (λ x. Clears (tick (seconds_after (take k ss) x)).day received) (sym same) rest.clears;
      next = subst (λ x. seconds_after (take (suc k) ss) x ≡ heard_in received (tick (seconds_after (take k ss) x)).day) (sym same) rest.next;
    }
turn_at rows assigned (suc k) (Unlinked ∷ ss) d received h ok few is =
    let early : d.moment < 300000 = omega (arith, few) in
    let same : without_link d ≡ (passed_in (Down Three) d).day = without_is d early in
    let rest = turn_at rows assigned k ss (passed_in (Down Three) d).day received (unlinked_between rows assigned d early h) (subst (ClearsAll ss) same ok) (omega (arith, few)) is in
    record {
      between = subst (λ x. IsBetween rows assigned (seconds_after (take k ss) x)) (sym same) rest.between;
      early = subst (λ x. (seconds_after (take k ss) x).moment < 300000) (sym same) rest.early;
      clears = subst (λ x. Clears (tick (seconds_after (take k ss) x)).day received) (sym same) rest.clears;
      next = subst (λ x. seconds_after (take (suc k) ss) x ≡ heard_in received (tick (seconds_after (take k ss) x)).day) (sym same) rest.next;
    }

-- a second with a link is one of these
linked_at : (seconds : List LiveSecond) (m k : ℕ) → has_link m seconds (m + suc k) ≡ true → (received : List (List ℕ)) × (slice_index_or seconds k Unlinked ≡ Linked received)
linked_at [] m k h = absurd (false≢true h)
linked_at (Linked r ∷ ss) m zero h = (r, refl)
linked_at (Unlinked ∷ ss) m zero h = absurd (false≢true (sym (ap (λ b. if b then false else has_link (m + 1) ss (m + 1)) (eq-eqb (m + 1) (m + 1) refl)) ∙ h))
linked_at (s ∷ ss) m (suc k) h = linked_at ss (m + 1) k (elim (due_after s ss m (m + suc (suc k)) (inr h)) [
  | inl le ↦ absurd (omega (arith, le))
  | inr more ↦ subst (λ t. has_link (m + 1) ss t ≡ true) (let same : m + suc (suc k) ≡ (m + 1) + suc k = omega arith in same) more
])

module _ (rows : List Row) (channels : List Bool) (assigned : List (Option ℕ)) (within : ℕ → ℕ) (seconds : List LiveSecond) (b : AreBookings rows) (set : IsChannelSet channels) (h : Carries rows channels (is_accepted assigned) (channel_at assigned)) (few : length seconds ≤ 300000) (ok : ClearsAll seconds (opening rows assigned)) (connects : ConnectsWithin within seconds (opening rows assigned)) where
  abbrev Opened : Day
  Opened = opening rows assigned

  settled_at : (i n t : ℕ) → n + within i ≡ t → is_live (standing_at (seconds_after (take n seconds) Opened) i) ≡ true → has_link 0 seconds (0 + t) ≡ true → OnLive (standing_at (seconds_after (take t seconds) Opened) i) (λ call a. is_settled call ≡ true)
  settled_at i n zero is live link = absurd (let after = link_after seconds 0 (0 + 0) link in omega (arith, after))
  settled_at i n (suc k) is live link =
      let p = linked_at seconds 0 k link in
      let received : List (List ℕ) = p.0 in
      let turn = turn_at rows assigned k seconds Opened received (opening_between rows channels assigned b set h) ok (omega (arith, few)) p.1 in
      let d : Day = seconds_after (take k seconds) Opened in
      let same : tick d ≡ passed_in Up d = tick_is d turn.early in
      let clears : Clears (passed_in Up d).day received = subst (λ (s : Sent Day). Clears s.day received) same turn.clears in
      let connected : is_ringing (standing_at (passed_in Up d).day i) ≡ true → is_told (λ m. is_connect m.kind) (entry_at (passed_in Up d).day.entries i) received ≡ true =
      subst (λ (s : Sent Day). is_ringing (standing_at s.day i) ≡ true → is_told (λ m. is_connect m.kind) (entry_at s.day.entries i) received ≡ true) same (connects i n k received is live p.1) in
      let left : IsLeft (passed_in Up d).day (heard_in received (passed_in Up d).day) i = left_turn rows assigned d received i turn.early turn.between clears connected in
      subst (λ (x : Day). OnLive (standing_at x i) (λ call a. is_settled call ≡ true)) (sym (turn.next ∙ ap (λ (s : Sent Day). heard_in received s.day) same)) left.settled

  pub connects_within : EachTurn IsBeforeTimers seconds Opened → AreAnsweredWithin within seconds Opened
  connects_within patient = record {
    in_time = with_patience seconds Opened (cleared_by rows channels assigned seconds b set h few ok) patient;
    answers = λ i n live link. settled_at i n (n + within i) refl live link;
  }
