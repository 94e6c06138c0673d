-- The exchange's day over messages of a far end that never begins a call, channel by channel: what `near_meets` says.
use Rattle.std.proofs.Common.{◌≡◌, ◌≢◌, ℕ, zero, suc, ◌+◌, ◌≤◌, ◌<◌, ◌==◌, not, Bool, true, false, List, [], ◌∷◌, ◌++◌, length, map, Option, Some, None, refl, sym, ap, subst, ◌∙◌, arith, if◌then◌else◌, inl, inr}
use Rattle.std.specs.List.{AllByRecursion, position}
use Rattle.std.proofs.lemmas.Bool.{false≢true, true≢false, and_from, and_parts, eq-eqb, ne_eqb, cases_eq, false_from_ne_true}
use Rattle.std.proofs.lemmas.List.{get_or-set_same}
use Rattle.bx_base.specs.Bookings.{Row, row_at, AreBookings, Carries}
use Rattle.bx_base.specs.Channels.{IsChannelSet}
use Rattle.bx_base.specs.Plans.{is_accepted, channel_at}
use Rattle.bx_channels.specs.ChannelNumbers.{IsChannel}
use Rattle.bx_channels.specs.Marks.{is_marked}
use Rattle.bx_q931.specs.Outgoing.{Outgoing, IsCallReference, out_octets}
use Rattle.bx_q931.specs.declared.kind.Kind.{Kind}
use Rattle.bx_q931.specs.declared.kind.Kind.TheVariants.{Alerting, CallProceeding, Progress, Setup, Connect, ConnectAcknowledge, Disconnect, Release, ReleaseComplete, Notify, StatusEnquiry, Information, Status, Other}
use Rattle.bx_calls.specs.Hearing.{Heard, names_channel, reports_null}
use Rattle.bx_calls.specs.NetTable.{net_awake_state, net_flag, net_heard, net_message, net_row}
use Rattle.bx_calls.specs.Said.{Said}
use Rattle.bx_calls.specs.Sending.{Answered, unchanged, reply_list}
use Rattle.bx_calls.specs.Shared.{bool_eq}
use Rattle.bx_calls.specs.UnknownTable.{unknown_row}
use Rattle.bx_calls.specs.declared.net_state.NetOrigin.{NetOrigin}
use Rattle.bx_calls.specs.declared.net_state.NetOrigin.TheVariants.{Outward, Inward}
use Rattle.bx_calls.specs.declared.net_state.NetState.{NetState}
use Rattle.bx_calls.specs.declared.net_state.NetState.TheVariants as net
use Rattle.bx_calls.specs.declared.transition.Next.{Next}
use Rattle.bx_calls.specs.declared.transition.Next.TheVariants.{Live, Over, Broken}
use Rattle.bx_calls.specs.declared.transition.Transition.{Transition}
use Rattle.bx_calls.specs.declared.unknown_reference.Side.TheVariants.{Network}
use Rattle.bx_calls.specs.PlainCalls.{PlainNetCall}
use Rattle.bx_day.specs.Day.{Day, entry_at, is_live, entries_from, opening, no_entry}
use Rattle.bx_day.specs.Invariant.{StandingFits}
use Rattle.bx_day.specs.Law.{standing_at}
use Rattle.bx_day.specs.Moves.{activity_after, follow, follows, is_active, over_at}
use Rattle.bx_day.specs.Reading.{IsExchange}
use Rattle.bx_day.specs.Receipts.{hears, names, names_call, received_at, stray, with_moved}
use Rattle.bx_day.specs.Run.{receive_octets}
use Rattle.bx_day.specs.declared.entry.Activity.{Activity}
use Rattle.bx_day.specs.declared.entry.Activity.TheVariants.{Never}
use Rattle.bx_day.specs.declared.entry.Moved.{Moved}
use Rattle.bx_day.specs.declared.entry.Standing.{Standing}
use Rattle.bx_day.specs.declared.entry.Standing.TheVariants.{OnCall}
use Rattle.bx_day.proofs.Law.{RunFits, referred_by_row}
use Rattle.bx_day.proofs.LiveTurns.{live_once}
use Rattle.bx_day.proofs.Hear.{heard_by}
use Rattle.bx_day.proofs.Once.{decide}
use Rattle.bx_day.proofs.OpeningDay.{opening_is}
use Rattle.bx_day.proofs.Said.{OfSaid}
use Rattle.bx_day.proofs.Second.{call_of}
use Rattle.bx_day.proofs.SlotLemmas.{holds_from}
use Rattle.bx_day.proofs.Tick.{with_standing}
use Rattle.bx_two_ends.specs.Earning.{heard_in}
use Rattle.bx_two_ends.specs.Lockstep.{exchange_says}
use Rattle.bx_two_ends.proofs.OneChannel.{heard_from, messages_on, near_left, near_stepped, near_strays, near_meets, near_meets_all}
use Rattle.bx_two_ends.proofs.Answering.{IsHearing, hears_next, over_idle}
use Rattle.bx_two_ends.proofs.AnsweringDays.{idle_at}
use Rattle.bx_two_ends.proofs.ChannelMessages.{IsToFar, IsToNear, on_joined, on_all, on_none}
use Rattle.bx_two_ends.proofs.Delivery.{Sendable, said_from, receive_sent}
use Rattle.bx_two_ends.proofs.EarnedDays.{opening_calm}
use Rattle.bx_two_ends.proofs.ExchangeHears.{Unknown, unknown_says}
use Rattle.bx_two_ends.proofs.History.{listed, said_both, said_map, is_setup_kind, all_joined, all_map}
use Rattle.bx_two_ends.proofs.MessageLimits.{NumberOf, heard_ok, unknown_ok}
use Rattle.bx_two_ends.proofs.NetworkRows.{OnNext, Goes, OfCall, heard_goes, heard_says, shows_connected}
use Rattle.bx_two_ends.proofs.ExchangeLimits.{CallWithin, StandingWithin, ExchangeWithin}
use Rattle.bx_two_ends.proofs.Naming.{IsNamedOnce, live_inside, named_found, names_live, outward_none, set_at}
use Rattle.bx_two_ends.proofs.Turning.{fits_at}

-- ---- by the index of its booking

abbrev pub chan_of : List (Option ℕ) → ℕ → ℕ
chan_of assigned zero = 0
chan_of assigned (suc i) = channel_at assigned i

abbrev pub ends_of : List Row → ℕ → ℕ
ends_of rows zero = 0
ends_of rows (suc i) = (row_at rows i).end

-- a live call is one that the exchange began for its booking
abbrev pub IsOutward : ℕ → Standing → Type 0
IsOutward i (OnCall c a) = (c.reference ≡ suc i) × (net_flag c.origin ≡ false)
IsOutward i _ = Unit {0}

pub record NearFits (rows : List Row) (assigned : List (Option ℕ)) (t : ℕ) (d : Day) : Type 0 where
  pub bookings : AreBookings rows
  pub fits : RunFits rows assigned d
  pub size : length d.entries ≡ length rows
  pub exchange : IsExchange d
  pub clean : (c : ℕ) → is_marked d.maintenance c ≡ false
  pub moment : d.moment ≡ t
  pub outward : (i : ℕ) → IsOutward i (standing_at d i)
  pub within : ExchangeWithin d

-- the call on channel k
abbrev pub NearIs : Day → ℕ → Option PlainNetCall → Type 0
NearIs d k None = (i : ℕ) → is_live (standing_at d i) ≡ true → (entry_at d.entries i).channel ≢ k
NearIs d k (Some c) = (i : ℕ) × (a : Activity) × (standing_at d i ≡ OnCall c a) × ((entry_at d.entries i).channel ≡ k)

-- ---- who is live

-- a live booking
pub record LiveAt (rows : List Row) (assigned : List (Option ℕ)) (d : Day) (i : ℕ) (c : PlainNetCall) : Type 0 where
  pub inside : i < length rows
  pub there : i < length d.entries
  pub live : is_live (standing_at d i) ≡ true
  pub booking : (entry_at d.entries i).booking ≡ row_at rows i
  pub channel : (entry_at d.entries i).channel ≡ channel_at assigned i
  pub reference : c.reference ≡ suc i
  pub origin : net_flag c.origin ≡ false
  pub on : c.channel ≡ channel_at assigned i
  pub within : CallWithin c

pub live_at : (rows : List Row) (assigned : List (Option ℕ)) (t : ℕ) (d : Day) (i : ℕ) (c : PlainNetCall) (a : Activity) → NearFits rows assigned t d → standing_at d i ≡ OnCall c a → LiveAt rows assigned d i c
live_at rows assigned t d i c a h is =
    let live : is_live (standing_at d i) ≡ true = ap is_live is in
    let lt : i < length d.entries = live_inside d.entries i live in
    let inside : i < length rows = subst (λ n. i < n) h.size lt in
    let frame = h.fits.framed.0 i inside in
    let out = subst (IsOutward i) is (h.outward i) in
    record {
      inside = inside;
      there = lt;
      live = live;
      booking = frame.booking;
      channel = frame.channel;
      reference = out.0;
      origin = out.1;
      on = (subst (λ s. StandingFits d.moment (entry_at d.entries i) s) is (fits_at d i h.fits.day)).channel ∙ frame.channel;
      within = subst StandingWithin is (h.within i);
    }

-- two live ones of one channel are one
pub one_live : (rows : List Row) (assigned : List (Option ℕ)) (t : ℕ) (d : Day) (k i j : ℕ) → NearFits rows assigned t d → is_live (standing_at d i) ≡ true → is_live (standing_at d j) ≡ true → (entry_at d.entries i).channel ≡ k → (entry_at d.entries j).channel ≡ k → i ≡ j
one_live rows assigned t d k i j h li lj ci cj =
    live_once d.entries k i j h.fits.day.pairs (live_inside d.entries i li) (live_inside d.entries j lj) (holds_from k (entry_at d.entries i) li ci) (holds_from k (entry_at d.entries j) lj cj)

abbrev call_in : Standing → Option PlainNetCall
call_in (OnCall c a) = Some c
call_in _ = None

pub near_unique : (rows : List Row) (assigned : List (Option ℕ)) (t : ℕ) (d : Day) (k i : ℕ) (v : Option PlainNetCall) (c : PlainNetCall) (a : Activity) → NearFits rows assigned t d → NearIs d k v → standing_at d i ≡ OnCall c a → (entry_at d.entries i).channel ≡ k → v ≡ Some c
near_unique rows assigned t d k i None c a h near is on = absurd (near i (ap is_live is) on)
near_unique rows assigned t d k i (Some x) c a h near is on =
    let same : near.0 ≡ i = one_live rows assigned t d k near.0 i h (ap is_live near.2) (ap is_live is) near.3 on in
    ap call_in (sym near.2 ∙ ap (standing_at d) same ∙ is)

pub call_at : (s : Standing) → is_live s ≡ true → (c : PlainNetCall) × (a : Activity) × (s ≡ OnCall c a)
call_at (OnCall c a) h = (c, a, refl)
call_at s h = absurd (false≢true h)

-- ---- the opening

pub idle_outward : (i : ℕ) (s : Standing) → is_live s ≡ false → IsOutward i s
idle_outward i (OnCall c a) h = absurd (true≢false h)
idle_outward i s h = tt

pub idle_within : (s : Standing) → is_live s ≡ false → StandingWithin s
idle_within (OnCall c a) h = absurd (true≢false h)
idle_within s h = tt

pub record NearOpens (rows : List Row) (assigned : List (Option ℕ)) (d : Day) : Type 0 where
  pub fits : NearFits rows assigned 0 d
  pub here : (k : ℕ) → NearIs d k None

pub near_opens : (rows : List Row) (channels : List Bool) (assigned : List (Option ℕ)) → AreBookings rows → IsChannelSet channels → Carries rows channels (is_accepted assigned) (channel_at assigned) → NearOpens rows assigned (opening rows assigned)
near_opens rows channels assigned b set h =
    let calm = opening_calm rows channels assigned b h in
    record {
      fits = record {
        bookings = b;
        fits = calm.fits;
        size = calm.size;
        exchange = opening_is rows channels assigned b set h;
        clean = calm.clean;
        moment = refl;
        outward = λ i. idle_outward i (entry_at (entries_from 1 rows assigned) i).standing (idle_at 1 rows assigned i);
        within = λ i. idle_within (entry_at (entries_from 1 rows assigned) i).standing (idle_at 1 rows assigned i);
      };
      here = λ k i live on. absurd (true≢false (sym live ∙ idle_at 1 rows assigned i));
    }

-- ---- a step of the call of booking i

-- what is said for booking i
abbrev pub SaidFor : (ℕ → ℕ) → ℕ → Outgoing → Type 0
SaidFor chan r p = IsToFar chan p × (p.reference ≡ r)

-- the step keeps whose call it is
pub record StepKeeps (chan : ℕ → ℕ) (i : ℕ) (step : Transition PlainNetCall) : Type 0 where
  pub next : OnNext (λ c. IsOutward i (OnCall c Never) × CallWithin c) step.next
  pub says : OfSaid (SaidFor chan (suc i)) step.reply

pub follow_outward : (i : ℕ) (a : Activity) (t : ℕ) (said : Option Outgoing) (n : Next PlainNetCall) → OnNext (λ c. IsOutward i (OnCall c Never) × CallWithin c) n → IsOutward i (follow a t said n).standing × StandingWithin (follow a t said n).standing
follow_outward i a t said (Live c) h = h
follow_outward i a t said Over h = (idle_outward i (over_at a t) (over_idle a t), idle_within (over_at a t) (over_idle a t))
follow_outward i a t said Broken h = (idle_outward i (over_at a t) (over_idle a t), idle_within (over_at a t) (over_idle a t))

pub follow_said : (a : Activity) (t : ℕ) (said : Option Outgoing) (n : Next PlainNetCall) → (follow a t said n).said ≡ said
follow_said a t said (Live c) = refl
follow_said a t said Over = refl
follow_said a t said Broken = refl

pub none_left : (d : Day) (k i j : ℕ) (s : Standing) → standing_at d i ≡ s → is_live s ≡ false → ((n : ℕ) → n ≢ i → is_live (standing_at d n) ≡ true → (entry_at d.entries n).channel ≢ k) → is_live (standing_at d j) ≡ true → (entry_at d.entries j).channel ≢ k
none_left d k i j s is idle others live = elim (cases_eq j i) [
  | inl same ↦ absurd (true≢false (sym live ∙ ap (λ n. is_live (standing_at d n)) same ∙ ap is_live is ∙ idle))
  | inr other ↦ others j other live
]

-- what is left of the call on its channel, where no other is live there
pub followed : (d : Day) (k i : ℕ) (a : Activity) (t : ℕ) (said : Option Outgoing) (n : Next PlainNetCall) → standing_at d i ≡ (follow a t said n).standing → (entry_at d.entries i).channel ≡ k → ((j : ℕ) → j ≢ i → is_live (standing_at d j) ≡ true → (entry_at d.entries j).channel ≢ k) → NearIs d k (near_left n)
followed d k i a t said (Live c) is on others = (i, activity_after a (is_active c.state) t, is, on)
followed d k i a t said Over is on others = λ j live. none_left d k i j (over_at a t) is (over_idle a t) others live
followed d k i a t said Broken is on others = λ j live. none_left d k i j (over_at a t) is (over_idle a t) others live

-- ---- a message to the call of booking i

-- the answer is no SETUP
abbrev NoSetup : Outgoing → Type 0
NoSetup o = is_setup_kind o.kind ≡ false

abbrev NoSetups : Transition PlainNetCall → Type 0
NoSetups step = OfSaid NoSetup step.reply

either_none : (b : Bool) (x y : Transition PlainNetCall) → NoSetups x → NoSetups y → NoSetups (if b then x else y)
either_none true x y f g = f
either_none false x y f g = g

row_none : (r ch : ℕ) (o : NetOrigin) (t : ℕ) (m : Heard) (s : NetState) (k : Kind) → NoSetups (net_row (call_of r ch o s) m t s k)
row_none r ch o t m s ReleaseComplete = tt
row_none r ch o t m s StatusEnquiry = refl
row_none r ch o t m s Status = either_none (reports_null m.state) _ _ tt tt
row_none r ch o t m s Setup = tt
row_none r ch o t m (net.ReleaseRequest again cause due) Release = tt
row_none r ch o t m s Release = refl
row_none r ch o t m (net.ReleaseRequest again cause due) k = tt
row_none r ch o t m s Disconnect = refl
row_none r ch o t m (net.DisconnectIndication cause due) k = tt
row_none r ch o t m (net.CallPresent again due) CallProceeding = either_none (names_channel m.channel ch) _ _ tt refl
row_none r ch o t m (net.CallPresent again due) Alerting = either_none (names_channel m.channel ch) _ _ tt refl
row_none r ch o t m (net.CallPresent again due) Connect = either_none (names_channel m.channel ch) _ _ refl refl
row_none r ch o t m (net.IncomingCallProceeding due) Alerting = tt
row_none r ch o t m (net.IncomingCallProceeding due) Connect = refl
row_none r ch o t m (net.CallReceived due) Connect = refl
row_none r ch (Outward called) t m net.Active ConnectAcknowledge = refl
row_none r ch Inward t m net.Active ConnectAcknowledge = tt
row_none r ch o t m s Progress = tt
row_none r ch o t m s Notify = tt
row_none r ch o t m s Information = tt
row_none r ch o t m s (Other octet) = refl
row_none r ch o t m s k = refl

heard_none : (r ch : ℕ) (o : NetOrigin) (t : ℕ) (m : Heard) (s : NetState) (k : Kind) → NoSetups (net_heard (call_of r ch o s) m t s k)
heard_none r ch o t m s k = heard_by NoSetups (call_of r ch o s) m t s k
    (record { contradicted = λ asked due is q. refl; unacknowledged = λ asked due is q. refl; connected = λ due is q. refl; put_off = λ offer due is q. tt; unconnected = λ asked due is q. refl; ringing = λ due is q. tt })
    (row_none r ch o t m (net_awake_state s) k)

-- what is said to a message goes to the far end
pub never_setup : (chan : ℕ → ℕ) (p : Outgoing) → Sendable p → p.flag ≡ false → is_setup_kind p.kind ≡ false → IsToFar chan p
never_setup chan p ok flag kind = record { sendable = ok; flag = flag; setup = λ is. absurd (true≢false (sym (ap is_setup_kind is) ∙ kind)) }

-- it keeps whose call it is
pub goes_keeps : (i : ℕ) (c : PlainNetCall) (s : NetState) (k : Bool) (reply : Option Outgoing) (n : Next PlainNetCall) → IsOutward i (OnCall c Never) → CallWithin c → OnNext (Goes c.reference c.channel c.origin s k reply) n → OnNext (λ x. IsOutward i (OnCall x Never) × CallWithin x) n
goes_keeps i c s k reply (Live x) out w g = (
  (g.reference ∙ out.0, ap net_flag g.origin ∙ out.1),
  record { reference = subst IsCallReference (sym g.reference) w.reference; channel = subst IsChannel (sym g.channel) w.channel; number = subst NumberOf (sym g.origin) w.number },
)
goes_keeps i c s k reply Over out w g = tt
goes_keeps i c s k reply Broken out w g = tt

message_keeps : (chan : ℕ → ℕ) (i t : ℕ) (c : PlainNetCall) (m : Heard) → IsOutward i (OnCall c Never) → CallWithin c → StepKeeps chan i (net_message c m t)
message_keeps chan i t c m out w =
    let step : Transition PlainNetCall = net_message c m t in
    record {
      next = goes_keeps i c c.state (shows_connected m.kind m.state) step.reply step.next out w (heard_goes c.reference c.channel c.origin t m c.state m.kind);
      says = said_both (OfCall c.reference c.origin) (λ p. Sendable p × NoSetup p) (SaidFor chan (suc i)) (λ p of ok. (never_setup chan p ok.0 (of.1 ∙ out.1) ok.1, of.0 ∙ out.0)) step.reply
          (heard_says c.reference c.channel c.origin t m c.state m.kind)
          (said_both Sendable NoSetup (λ p. Sendable p × NoSetup p) (λ p a b. (a, b)) step.reply (heard_ok c.reference c.channel c.origin t m c.state m.kind w.reference w.channel) (heard_none c.reference c.channel c.origin t m c.state m.kind));
    }

-- what is said to a message that names no live call
unknown_keeps : (chan : ℕ → ℕ) (r : ℕ) (m : Heard) (k : Kind) → IsCallReference r → OfSaid (SaidFor chan r) (unknown_row Network r false m k)
unknown_keeps chan r m k ok = said_both (λ p. (p.reference ≡ r) × (p.flag ≡ false) × NoSetup p) Sendable (SaidFor chan r) (λ p of s. (never_setup chan p s of.1 of.2, of.0)) (unknown_row Network r false m k)
    (said_map (Unknown r false) (λ p. (p.reference ≡ r) × (p.flag ≡ false) × NoSetup p) (λ p u. (u.reference, u.flag, u.other)) (unknown_row Network r false m k) (unknown_says Network r false m k))
    (unknown_ok Network r false m k ok)

-- ---- a day after a message

abbrev SetAt : Day → ℕ → Moved → Day
SetAt d i m = (with_moved d i m).day

here_set : (d : Day) (i : ℕ) (m : Moved) → i < length d.entries → standing_at (SetAt d i m) i ≡ m.standing
here_set d i m lt = ap (λ e. e.standing) (get_or-set_same d.entries i (with_standing (entry_at d.entries i) m.standing) no_entry lt)

other_set : (d : Day) (i j : ℕ) (m : Moved) → j ≢ i → standing_at (SetAt d i m) j ≡ standing_at d j
other_set d i j m other = set_at (λ e. e.standing ≡ standing_at d j) d.entries i j (with_standing (entry_at d.entries i) m.standing) (λ same lt. absurd (other (sym same))) refl

channel_set : (d : Day) (i j : ℕ) (m : Moved) → (entry_at (SetAt d i m).entries j).channel ≡ (entry_at d.entries j).channel
channel_set d i j m = set_at (λ e. e.channel ≡ (entry_at d.entries j).channel) d.entries i j (with_standing (entry_at d.entries i) m.standing) (λ same lt. ap (λ n. (entry_at d.entries n).channel) same) refl

-- a call on another channel
other_stands : (d x : Day) (i k : ℕ) (w : Option PlainNetCall) → ((j : ℕ) → j ≢ i → standing_at x j ≡ standing_at d j) → ((j : ℕ) → (entry_at x.entries j).channel ≡ (entry_at d.entries j).channel) → (entry_at d.entries i).channel ≢ k → NearIs d k w → NearIs x k w
other_stands d x i k None same chans off near = λ j live on. elim (cases_eq j i) [
  | inl here ↦ off (sym (ap (λ n. (entry_at d.entries n).channel) here) ∙ sym (chans j) ∙ on)
  | inr other ↦ near j (sym (ap is_live (same j other)) ∙ live) (sym (chans j) ∙ on)
]
other_stands d x i k (Some c) same chans off near =
    let away : near.0 ≢ i = λ here. off (sym (ap (λ n. (entry_at d.entries n).channel) here) ∙ near.3) in
    (near.0, near.1, same near.0 away ∙ near.2, chans near.0 ∙ near.3)

-- what a message leaves and says
pub record NearMet (rows : List Row) (assigned : List (Option ℕ)) (t : ℕ) (d : Day) (o : Outgoing) (a : Answered Day) : Type 0 where
  pub outward : (i : ℕ) → IsOutward i (standing_at a.day i)
  pub within : ExchangeWithin a.day
  pub here : (v : Option PlainNetCall) → NearIs d (chan_of assigned o.reference) v → NearIs a.day (chan_of assigned o.reference) (near_meets t v o).call
  pub others : (k : ℕ) (w : Option PlainNetCall) → k ≢ chan_of assigned o.reference → NearIs d k w → NearIs a.day k w
  pub said : (v : Option PlainNetCall) → NearIs d (chan_of assigned o.reference) v → reply_list a.reply ≡ (near_meets t v o).said
  pub idle : (j : ℕ) → is_live (standing_at d j) ≡ false → standing_at a.day j ≡ standing_at d j
  pub channels : (j : ℕ) → (entry_at a.day.entries j).channel ≡ (entry_at d.entries j).channel
  pub says : AllByRecursion (SaidFor (chan_of assigned) o.reference) (reply_list a.reply)

-- it was for the call of booking i
met_call : (rows : List Row) (assigned : List (Option ℕ)) (t : ℕ) (d : Day) (o : Outgoing) (i : ℕ) (c : PlainNetCall) (a : Activity) → NearFits rows assigned t d → o.reference ≡ suc i → standing_at d i ≡ OnCall c a → NearMet rows assigned t d o (with_moved d i (follows a t (net_message c (heard_from o) t)))
met_call rows assigned t d o i c a h ref is =
    let k : ℕ = chan_of assigned o.reference in
    let step : Transition PlainNetCall = net_message c (heard_from o) t in
    let mv : Moved = follows a t step in
    let at : LiveAt rows assigned d i c = live_at rows assigned t d i c a h is in
    let keeps : StepKeeps (chan_of assigned) i step = message_keeps (chan_of assigned) i t c (heard_from o) (at.reference, at.origin) at.within in
    let left = follow_outward i a t step.reply step.next keeps.next in
    let on : (entry_at d.entries i).channel ≡ k = at.channel ∙ sym (ap (chan_of assigned) ref) in
    let met : (v : Option PlainNetCall) → NearIs d k v → near_meets t v o ≡ near_stepped step = λ v near.
    ap (λ x. near_meets t x o) (near_unique rows assigned t d k i v c a h near is on)
    ∙ ap (λ b. if b then near_stepped step else near_strays (Some c) o) (eq-eqb c.reference o.reference (at.reference ∙ sym ref)) in
    record {
      outward = λ j. set_at (λ e. IsOutward j e.standing) d.entries i j (with_standing (entry_at d.entries i) mv.standing) (λ same lt. subst (λ n. IsOutward n mv.standing) same left.0) (h.outward j);
      within = λ j. set_at (λ e. StandingWithin e.standing) d.entries i j (with_standing (entry_at d.entries i) mv.standing) (λ same lt. left.1) (h.within j);
      here = λ v near. subst (λ x. NearIs (SetAt d i mv) k x) (sym (ap (λ l. l.call) (met v near)))
          (followed (SetAt d i mv) k i a t step.reply step.next (here_set d i mv at.there) (channel_set d i i mv ∙ on)
          (λ j other live there. other (one_live rows assigned t d k j i h (sym (ap is_live (other_set d i j mv other)) ∙ live) at.live (sym (channel_set d i j mv) ∙ there) on)));
      others = λ n w away near. other_stands d (SetAt d i mv) i n w (λ j. other_set d i j mv) (λ j. channel_set d i j mv) (λ there. away (sym there ∙ on)) near;
      said = λ v near. ap reply_list (follow_said a t step.reply step.next) ∙ sym (ap (λ l. l.said) (met v near));
      idle = λ j idle. other_set d i j mv (λ same. true≢false (sym at.live ∙ ap (λ n. is_live (standing_at d n)) (sym same) ∙ idle));
      channels = λ j. channel_set d i j mv;
      says = subst (λ x. AllByRecursion (SaidFor (chan_of assigned) o.reference) (reply_list x)) (sym (follow_said a t step.reply step.next)) (subst (λ r. AllByRecursion (SaidFor (chan_of assigned) r) (reply_list step.reply)) (sym ref) (listed (SaidFor (chan_of assigned) (suc i)) step.reply keeps.says));
    }

-- it was for no live call
strays_is : (rows : List Row) (assigned : List (Option ℕ)) (t : ℕ) (d : Day) (o : Outgoing) (i k : ℕ) (v : Option PlainNetCall) → NearFits rows assigned t d → o.reference ≡ suc i → is_live (standing_at d i) ≡ false → NearIs d k v → near_meets t v o ≡ near_strays v o
strays_is rows assigned t d o i k None h ref over near = refl
strays_is rows assigned t d o i k (Some c) h ref over near =
    let at : LiveAt rows assigned d near.0 c = live_at rows assigned t d near.0 c near.1 h near.2 in
    ap (λ b. if b then near_stepped (net_message c (heard_from o) t) else near_strays (Some c) o) (ne_eqb c.reference o.reference (λ same.
    let q : suc near.0 ≡ suc i = sym at.reference ∙ same ∙ ref in
    let here : near.0 ≡ i = omega (arith, q) in
    true≢false (sym at.live ∙ ap (λ n. is_live (standing_at d n)) here ∙ over)))

met_stray : (rows : List Row) (assigned : List (Option ℕ)) (t : ℕ) (d : Day) (o : Outgoing) (i : ℕ) → NearFits rows assigned t d → IsCallReference o.reference → o.reference ≡ suc i → is_live (standing_at d i) ≡ false → NearMet rows assigned t d o (unchanged d (unknown_row Network o.reference false (heard_from o) o.kind))
met_stray rows assigned t d o i h ok ref over =
    let k : ℕ = chan_of assigned o.reference in
    record {
      outward = h.outward;
      within = h.within;
      here = λ v near. subst (λ x. NearIs d k x) (sym (ap (λ l. l.call) (strays_is rows assigned t d o i k v h ref over near))) near;
      others = λ n w away near. near;
      said = λ v near. sym (ap (λ l. l.said) (strays_is rows assigned t d o i k v h ref over near));
      idle = λ j idle. refl;
      channels = λ j. refl;
      says = listed (SaidFor (chan_of assigned) o.reference) (unknown_row Network o.reference false (heard_from o) o.kind) (unknown_keeps (chan_of assigned) o.reference (heard_from o) o.kind ok);
    }

-- no message of such a far end begins a call
stray_is : (d : Day) (m : Said) (k : Kind) → k ≢ Setup → m.flag ≡ true → stray d m k ≡ unchanged d (unknown_row Network m.reference false m.heard k)
stray_is d m Setup never flag = absurd (never refl)
stray_is d m k never flag = ap (λ b. unchanged d (unknown_row Network m.reference (not b) m.heard k)) flag

-- each call was begun here, so none is named by the other flag
near_once : (rows : List Row) (assigned : List (Option ℕ)) (t : ℕ) (d : Day) → NearFits rows assigned t d → IsNamedOnce d
near_once rows assigned t d h m i j flag one two = absurd (never (standing_at d i) (h.outward i) one)
  where
    never : (s : Standing) → IsOutward i s → names_call m s ≡ true → ⊥
    never (OnCall c a) out named = false≢true (sym (ap (λ b. bool_eq b (not m.flag)) out.1 ∙ ap (λ b. bool_eq false (not b)) flag) ∙ (and_parts (c.reference == m.reference) (bool_eq (net_flag c.origin) (not m.flag)) named).1)
    never s out named = false≢true named

pub near_hearing : (rows : List Row) (assigned : List (Option ℕ)) (t : ℕ) (d : Day) → NearFits rows assigned t d → IsHearing rows assigned t d
near_hearing rows assigned t d h = record {
  turn = record { fits = h.fits; size = h.size; moment = h.moment; clean = h.clean };
  exchange = h.exchange;
  once = near_once rows assigned t d h;
}

-- a message
near_met : (rows : List Row) (assigned : List (Option ℕ)) (t : ℕ) (d : Day) (o : Outgoing) → NearFits rows assigned t d → IsToNear o → NearMet rows assigned t d o (receive_octets d (out_octets o))
near_met rows assigned t d o h m = at o.reference refl m.sendable.out.reference.0
  where
    live : (i : ℕ) → o.reference ≡ suc i → is_live (standing_at d i) ≡ true → NearMet rows assigned t d o (receive_octets d (out_octets o))
    live i ref up =
        let z = call_at (standing_at d i) up in
        let l : LiveAt rows assigned d i z.0 = live_at rows assigned t d i z.0 z.1 h z.2 in
        let named : names (said_from o) (entry_at d.entries i) ≡ true = subst (λ s. names_call (said_from o) s ≡ true) (sym z.2)
        (and_from (z.0.reference == o.reference) (bool_eq (net_flag z.0.origin) (not o.flag)) (eq-eqb z.0.reference o.reference (l.reference ∙ sym ref)) (ap (λ b. bool_eq b (not o.flag)) l.origin ∙ ap (λ b. bool_eq false (not b)) m.flag)) in
        let eq : receive_octets d (out_octets o) ≡ with_moved d i (follows z.1 t (net_message z.0 (heard_from o) t)) =
        receive_sent d o m.sendable
        ∙ ap (received_at d (said_from o)) (named_found d i (said_from o) h.exchange (referred_by_row rows assigned d h.fits) (near_once rows assigned t d h) named)
        ∙ ap (λ n. with_moved d i (hears (said_from o) n (standing_at d i))) h.moment
        ∙ ap (λ s. with_moved d i (hears (said_from o) t s)) z.2 in
        subst (NearMet rows assigned t d o) (sym eq) (met_call rows assigned t d o i z.0 z.1 h ref z.2)

    over : (i : ℕ) → o.reference ≡ suc i → is_live (standing_at d i) ≡ false → NearMet rows assigned t d o (receive_octets d (out_octets o))
    over i ref down =
        let place : o.reference ≡ i + 1 = omega (arith, ref) in
        let none : position (names (said_from o)) d.entries ≡ None = outward_none d (said_from o) i h.exchange (referred_by_row rows assigned d h.fits) m.flag place (λ lt. false_from_ne_true (names (said_from o) (entry_at d.entries i)) (λ named. true≢false (sym (names_live (said_from o) (standing_at d i) named) ∙ down))) in
        let eq : receive_octets d (out_octets o) ≡ unchanged d (unknown_row Network o.reference false (heard_from o) o.kind) =
        receive_sent d o m.sendable ∙ ap (received_at d (said_from o)) none ∙ stray_is d (said_from o) o.kind m.kind m.flag in
        subst (NearMet rows assigned t d o) (sym eq) (met_stray rows assigned t d o i h m.sendable.out.reference ref down)

    at : (r : ℕ) → o.reference ≡ r → 1 ≤ o.reference → NearMet rows assigned t d o (receive_octets d (out_octets o))
    at zero ref ok = absurd (omega (arith, ref, ok))
    at (suc i) ref ok = decide (is_live (standing_at d i)) (live i ref) (over i ref)

pub near_next : (rows : List Row) (assigned : List (Option ℕ)) (t : ℕ) (d : Day) (o : Outgoing) → NearFits rows assigned t d → IsToNear o → NearFits rows assigned t (receive_octets d (out_octets o)).day
near_next rows assigned t d o h m =
    let x : NearMet rows assigned t d o (receive_octets d (out_octets o)) = near_met rows assigned t d o h m in
    let z = hears_next rows assigned t d (out_octets o) (near_hearing rows assigned t d h) in
    record { bookings = h.bookings; fits = z.turn.fits; size = z.turn.size; exchange = z.exchange; clean = z.turn.clean; moment = z.turn.moment; outward = x.outward; within = x.within }

-- ---- all messages of a turn

pub record NearRun (rows : List Row) (assigned : List (Option ℕ)) (t : ℕ) (d : Day) (os : List Outgoing) : Type 0 where
  pub fits : NearFits rows assigned t (heard_in (map (λ o. out_octets o) os) d)
  pub here : (k : ℕ) (v : Option PlainNetCall) → NearIs d k v → NearIs (heard_in (map (λ o. out_octets o) os) d) k (near_meets_all t v (messages_on (chan_of assigned) k os)).call
  pub said : (k : ℕ) (v : Option PlainNetCall) → NearIs d k v → messages_on (chan_of assigned) k (exchange_says os d) ≡ (near_meets_all t v (messages_on (chan_of assigned) k os)).said
  pub idle : (j : ℕ) → is_live (standing_at d j) ≡ false → standing_at (heard_in (map (λ o. out_octets o) os) d) j ≡ standing_at d j
  pub channels : (j : ℕ) → (entry_at (heard_in (map (λ o. out_octets o) os) d).entries j).channel ≡ (entry_at d.entries j).channel
  pub says : AllByRecursion (IsToFar (chan_of assigned)) (exchange_says os d)

-- one message more, by whether it is of the channel
run_step : (rows : List Row) (assigned : List (Option ℕ)) (t : ℕ) (d : Day) (o : Outgoing) (os : List Outgoing) → NearMet rows assigned t d o (receive_octets d (out_octets o)) → NearRun rows assigned t (receive_octets d (out_octets o)).day os → (k : ℕ) (v : Option PlainNetCall) → NearIs d k v
    → NearIs (heard_in (map (λ x. out_octets x) os) (receive_octets d (out_octets o)).day) k (near_meets_all t v (messages_on (chan_of assigned) k (o ∷ os))).call × (messages_on (chan_of assigned) k (exchange_says (o ∷ os) d) ≡ (near_meets_all t v (messages_on (chan_of assigned) k (o ∷ os))).said)
run_step rows assigned t d o os x rest k v near = elim (cases_eq (chan_of assigned o.reference) k) [
  | inl same ↦
      let eq : messages_on chan k (o ∷ os) ≡ o ∷ messages_on chan k os = ap (λ b. if b then o ∷ messages_on chan k os else messages_on chan k os) (eq-eqb (chan o.reference) k same) in
      let mine : NearIs d (chan o.reference) v = subst (λ n. NearIs d n v) (sym same) near in
      let next : NearIs a.day k (near_meets t v o).call = subst (λ n. NearIs a.day n (near_meets t v o).call) same (x.here v mine) in
      let all : messages_on chan k (reply_list a.reply) ≡ (near_meets t v o).said = on_all chan k (reply_list a.reply) (all_map (SaidFor chan o.reference) (λ p. chan p.reference ≡ k) (λ p q. ap chan q.1 ∙ same) (reply_list a.reply) x.says) ∙ x.said v mine in (
        subst (λ zs. NearIs (heard_in (map (λ y. out_octets y) os) a.day) k (near_meets_all t v zs).call) (sym eq) (rest.here k (near_meets t v o).call next),
        on_joined chan k (reply_list a.reply) (exchange_says os a.day)
            ∙ ap (λ zs. zs ++ messages_on chan k (exchange_says os a.day)) all
            ∙ ap (λ zs. (near_meets t v o).said ++ zs) (rest.said k (near_meets t v o).call next)
            ∙ ap (λ zs. (near_meets_all t v zs).said) (sym eq),
      )
  | inr other ↦
      let eq : messages_on chan k (o ∷ os) ≡ messages_on chan k os = ap (λ b. if b then o ∷ messages_on chan k os else messages_on chan k os) (ne_eqb (chan o.reference) k other) in
      let next : NearIs a.day k v = x.others k v (λ q. other (sym q)) near in
      let all : messages_on chan k (reply_list a.reply) ≡ [] = on_none chan k (reply_list a.reply) (all_map (SaidFor chan o.reference) (λ p. chan p.reference ≢ k) (λ p q there. other (sym (ap chan q.1) ∙ there)) (reply_list a.reply) x.says) in (
        subst (λ zs. NearIs (heard_in (map (λ y. out_octets y) os) a.day) k (near_meets_all t v zs).call) (sym eq) (rest.here k v next),
        on_joined chan k (reply_list a.reply) (exchange_says os a.day)
            ∙ ap (λ zs. zs ++ messages_on chan k (exchange_says os a.day)) all
            ∙ rest.said k v next
            ∙ ap (λ zs. (near_meets_all t v zs).said) (sym eq),
      )
]
  where
    chan : ℕ → ℕ
    chan = chan_of assigned

    a : Answered Day
    a = receive_octets d (out_octets o)

pub near_run : (rows : List Row) (assigned : List (Option ℕ)) (t : ℕ) (os : List Outgoing) (d : Day) → NearFits rows assigned t d → AllByRecursion IsToNear os → NearRun rows assigned t d os
near_run rows assigned t [] d h all = record { fits = h; here = λ k v near. near; said = λ k v near. refl; idle = λ j idle. refl; channels = λ j. refl; says = tt }
near_run rows assigned t (o ∷ os) d h all =
    let a : Answered Day = receive_octets d (out_octets o) in
    let x : NearMet rows assigned t d o a = near_met rows assigned t d o h all.0 in
    let rest : NearRun rows assigned t a.day os = near_run rows assigned t os a.day (near_next rows assigned t d o h all.0) all.1 in
    record {
      fits = rest.fits;
      here = λ k v near. (run_step rows assigned t d o os x rest k v near).0;
      said = λ k v near. (run_step rows assigned t d o os x rest k v near).1;
      idle = λ j idle. rest.idle j (ap is_live (x.idle j idle) ∙ idle) ∙ x.idle j idle;
      channels = λ j. rest.channels j ∙ x.channels j;
      says = all_joined (IsToFar (chan_of assigned)) (reply_list a.reply) (exchange_says os a.day) (all_map (SaidFor (chan_of assigned) o.reference) (IsToFar (chan_of assigned)) (λ p q. q.0) (reply_list a.reply) x.says) rest.says;
    }
