-- A far end that answers each call and calls nobody, channel by channel: what it makes of messages and of seconds.
use Rattle.std.proofs.Common.{◌≡◌, ◌≢◌, ℕ, zero, suc, ◌+◌, ◌≤◌, ◌<◌, ◌==◌, ◌&&◌, ◌||◌, not, Bool, true, false, List, [], ◌∷◌, ◌++◌, Option, Some, None, refl, sym, ap, subst, ◌∙◌, arith, is_some, map, nat_le, replicate, slice_set, slice_index_or, if◌then◌else◌}
use Rattle.std.specs.List.{AllByRecursion}
use Rattle.std.proofs.lemmas.Bool.{true≢false, false≢true, eq-eqb, eqb-true, ne_eqb, leb-true, false_from_ne_true}
use Rattle.std.proofs.lemmas.List.{get_or-set_other}
use Rattle.bx_channels.specs.ChannelNumbers.{IsChannel}
use Rattle.bx_channels.specs.Marks.{is_marked}
use Rattle.bx_q931.specs.Outgoing.{Outgoing, IsCallReference, out_octets}
use Rattle.bx_q931.specs.declared.kind.Kind.{Kind}
use Rattle.bx_q931.specs.declared.kind.Kind.TheVariants.{CallProceeding, Progress, Setup, Connect, ConnectAcknowledge, Disconnect, Release, ReleaseComplete, Notify, StatusEnquiry, Information, Status, Other}
use Rattle.bx_calls.specs.Hearing.{Heard, names_channel, reports_null}
use Rattle.bx_calls.specs.PlainCalls.{PlainUserCall}
use Rattle.bx_calls.specs.Said.{Said}
use Rattle.bx_calls.specs.Saying.{setup_of}
use Rattle.bx_calls.specs.Sending.{Answered, Sent, in_order, reply_list, unchanged}
use Rattle.bx_calls.specs.Shared.{bool_eq}
use Rattle.bx_calls.specs.UnknownTable.{refusal_of, unknown_row, unknown_status}
use Rattle.bx_calls.specs.UserTable.{user_flag, user_message, user_offered, user_releases, user_row, user_second, user_second_row, user_setup_again, user_takes, user_answers, user_clears, user_unlinked}
use Rattle.bx_calls.specs.declared.times.Times.{Times}
use Rattle.bx_calls.specs.declared.times.Times.TheVariants.{NotYet, Once, Twice}
use Rattle.bx_calls.specs.declared.transition.Next.{Next}
use Rattle.bx_calls.specs.declared.transition.Next.TheVariants.{Live, Over, Broken}
use Rattle.bx_calls.specs.declared.transition.Transition.{Transition}
use Rattle.bx_calls.specs.declared.unknown_reference.Side.TheVariants.{User}
use Rattle.bx_calls.specs.declared.user_state.Policy.TheVariants.{Answer}
use Rattle.bx_calls.specs.declared.user_state.UserOrigin.{UserOrigin}
use Rattle.bx_calls.specs.declared.user_state.UserOrigin.TheVariants.{Offered, Calling}
use Rattle.bx_calls.specs.declared.user_state.UserState.{UserState}
use Rattle.bx_calls.specs.declared.user_state.UserState.TheVariants.{CallInitiated, OutgoingCallProceeding, CallPresent, CallReceived, ConnectRequest, IncomingCallProceeding, Active, DisconnectRequest, ReleaseRequest}
use Rattle.bx_day.proofs.Once.{decide}
use Rattle.bx_day.proofs.Said.{OfSaid}
use Rattle.bx_day.proofs.Tick.{by_cases}
use Rattle.bx_day.proofs.TouchLemmas.{empty_at}
use Rattle.bx_far.specs.FarDay.{FarDay, Begun, first_call, is_taken, holder, insert_call, next_then, settle_maintenance, no_messages, second_calls, second_maintenance, second_said, with_held, begin_rows, far_after, far_ticked, far_tick, far_names, far_follow, far_refuses, far_takes, far_stray, far_received_by, far_opening, far_unlinked, far_without_link}
use Rattle.bx_far.specs.FarRun.{far_receive_octets}
use Rattle.bx_far.specs.Policies.{policy_of}
use Rattle.bx_far.specs.declared.row.ScriptRow.{ScriptRow}
use Rattle.bx_far.specs.declared.row.ScriptRow.TheVariants.{Follows, Calls}
use Rattle.bx_two_ends.specs.Lockstep.{far_heard, far_says}
use Rattle.bx_two_ends.proofs.OneChannel.{Left, heard_from, far_left, messages_on, far_stepped, far_strays_by, far_meets_by, far_meets_all_by, far_passes, far_outlasts}
use Rattle.bx_two_ends.specs.TwoEnds.{AreOnTheirOwn, is_acknowledge}
use Rattle.bx_two_ends.proofs.ChannelMessages.{IsToFar, IsToNear, on_joined, on_all, on_none}
use Rattle.bx_two_ends.proofs.ChannelStates.{IsUnbrokenFar}
use Rattle.bx_two_ends.proofs.Delivery.{Sendable, said_from, far_receive_sent}
use Rattle.bx_two_ends.proofs.FarCalls.{OnLive, all_calls, first_found, insert_all, insert_apart, none_on, settle_all, settle_apart}
use Rattle.bx_two_ends.proofs.FarHears.{on_channel}
use Rattle.bx_two_ends.proofs.FarTicks.{both_calls, live_map, none_said, ordered, second_all, second_apart, second_said_all}
use Rattle.bx_two_ends.proofs.History.{all_joined, all_map, is_setup_kind, listed, said_map}
use Rattle.bx_two_ends.proofs.Holders.{held_by, insert_same, insert_other, settle_live, settle_gone, settle_other, slot_said}
use Rattle.bx_two_ends.proofs.MessageLimits.{CalledBy, refusal_ok, unknown_ok, user_row_ok, user_second_ok}
use Rattle.bx_two_ends.proofs.NetworkRows.{clears_as}
use Rattle.bx_two_ends.proofs.UserRows.{Moves, UserSpeaks, row_moves, row_speaks, second_moves, second_speaks}

-- a call that this side was offered, and answers by the script
abbrev pub IsTaken : UserOrigin → Type 0
IsTaken (Offered (Answer n) at) = Unit {0}
IsTaken _ = ⊥

taken_flag : (o : UserOrigin) → IsTaken o → user_flag o ≡ true
taken_flag (Offered (Answer n) at) h = refl
taken_flag o h = absurd h

-- a row of the script that calls nobody
abbrev pub IsFollowed : ScriptRow → Type 0
IsFollowed (Follows number policy) = Unit {0}
IsFollowed (Calls number moment channel) = ⊥

-- a call of the far end: of a reference with this channel
pub record IsFarOf (chan : ℕ → ℕ) (x : PlainUserCall) : Type 0 where
  pub reference : IsCallReference x.reference
  pub channel : x.channel ≡ chan x.reference
  pub in_service : IsChannel x.channel
  pub origin : IsTaken x.origin

pub record FarFits (wait : Option (List ℕ) → ℕ) (chan : ℕ → ℕ) (t : ℕ) (f : FarDay) : Type 0 where
  pub moment : f.moment ≡ t
  pub script : (called : Option (List ℕ)) → policy_of f.script called ≡ Answer (wait called)
  pub follows : AllByRecursion IsFollowed f.script
  pub clean : (k : ℕ) → is_marked f.maintenance k ≡ false
  pub own : AreOnTheirOwn f.calls
  pub each : AllByRecursion (IsFarOf chan) f.calls

-- ---- the opening

no_mark : (n k : ℕ) → is_marked (replicate n false) k ≡ false
no_mark zero k = refl
no_mark (suc n) zero = refl
no_mark (suc n) (suc k) = no_mark n k

pub far_opens : (wait : Option (List ℕ) → ℕ) (chan : ℕ → ℕ) (script : List ScriptRow) → ((called : Option (List ℕ)) → policy_of script called ≡ Answer (wait called)) → AllByRecursion IsFollowed script → FarFits wait chan 0 (far_opening script) × ((k : ℕ) → holder (far_opening script) k ≡ None)
far_opens wait chan script h follows = (record { moment = refl; script = h; follows = follows; clean = no_mark 32; own = tt; each = tt }, λ k. refl)

-- ---- a second without a link

-- g is the day after it
pub record FarOutlasts (wait : Option (List ℕ) → ℕ) (chan : ℕ → ℕ) (t : ℕ) (f g : FarDay) : Type 0 where
  pub fits : FarFits wait chan (t + 1) g
  pub held : (k : ℕ) → holder g k ≡ far_outlasts (t + 1) (holder f k)

module _ (u : ℕ) where
  all_later : (P Q : PlainUserCall → Type 0) → ((c : PlainUserCall) → P c → Q (user_unlinked u c)) → (cs : List PlainUserCall) → AllByRecursion P cs → AllByRecursion Q (map (user_unlinked u) cs)
  all_later P Q f [] h = tt
  all_later P Q f (c ∷ cs) h = (f c h.0, all_later P Q f cs h.1)

  apart_later : (cs : List PlainUserCall) → AreOnTheirOwn cs → AreOnTheirOwn (map (user_unlinked u) cs)
  apart_later [] own = tt
  apart_later (c ∷ cs) own = (all_later (λ (o : PlainUserCall). c.channel ≢ o.channel) (λ (o : PlainUserCall). c.channel ≢ o.channel) (λ o p. p) cs own.0, apart_later cs own.1)

  held_later : (k : ℕ) (cs : List PlainUserCall) → held_by k (map (user_unlinked u) cs) ≡ far_outlasts u (held_by k cs)
  held_later k [] = refl
  held_later k (x ∷ xs) = at (x.channel == k) (held_later k xs)
    where
      at : (b : Bool) → held_by k (map (user_unlinked u) xs) ≡ far_outlasts u (held_by k xs) → (if b then Some (user_unlinked u x) else held_by k (map (user_unlinked u) xs)) ≡ far_outlasts u (if b then Some x else held_by k xs)
      at true h = refl
      at false h = h

-- before the last moment
not_last : (t : ℕ) → t < 300000 → nat_le 300000 t ≡ false
not_last t early = false_from_ne_true (nat_le 300000 t) (λ late. let le : 300000 ≤ t = leb-true 300000 t late in omega (arith, le, early))

pub far_unlinked_on : (wait : Option (List ℕ) → ℕ) (chan : ℕ → ℕ) (t : ℕ) (f : FarDay) → FarFits wait chan t f → t < 300000 → FarOutlasts wait chan t f (far_without_link f)
far_unlinked_on wait chan t f h early =
    let u = f.moment + 1 in
    let un : u ≡ t + 1 = ap (λ n. n + 1) h.moment in
    let eq : far_without_link f ≡ far_unlinked f = ap (λ b. if b then f else far_unlinked f) (not_last f.moment (subst (λ n. n < 300000) (sym h.moment) early)) in
    subst (FarOutlasts wait chan t f) (sym eq) (record {
      fits = record {
        moment = un;
        script = h.script;
        follows = h.follows;
        clean = h.clean;
        own = apart_later u f.calls h.own;
        each = all_later u (IsFarOf chan) (IsFarOf chan) (λ c p. record { reference = p.reference; channel = p.channel; in_service = p.in_service; origin = p.origin }) f.calls h.each;
      };
      held = λ k. held_later u k f.calls ∙ ap (λ n. far_outlasts n (holder f k)) un;
    })

-- ---- what it says

abbrev pub SaysNear : ℕ → Outgoing → Type 0
SaysNear r p = IsToNear p × (p.reference ≡ r)

not_setup : (k : Kind) → is_setup_kind k ≡ false → k ≢ Setup
not_setup k h e = false≢true (sym h ∙ ap is_setup_kind e)

-- one that is no SETUP
abbrev NoSetup : Option Outgoing → Type 0
NoSetup said = OfSaid (λ p. is_setup_kind p.kind ≡ false) said

-- a step that breaks nothing, and says no SETUP
abbrev IsCalm : Transition PlainUserCall → Type 0
IsCalm step = IsUnbrokenFar step.next × NoSetup step.reply

row_calm : (c : PlainUserCall) (m : Heard) (t : ℕ) (s : UserState) (k : Kind) → IsCalm (user_row c m t s k)
row_calm c m t s ReleaseComplete = (tt, tt)
row_calm c m t s StatusEnquiry = (tt, refl)
row_calm c m t s Status = by_cases (reports_null m.state) _ _ IsCalm (λ _. (tt, tt)) (λ _. (tt, tt))
row_calm c m t s Setup = (tt, tt)
row_calm c m t (ReleaseRequest again cause due) Release = (tt, tt)
row_calm c m t s Release = (tt, refl)
row_calm c m t (ReleaseRequest again cause due) k = (tt, tt)
row_calm c m t s Disconnect = (tt, refl)
row_calm c m t (DisconnectRequest cause due) k = (tt, tt)
row_calm c m t (ConnectRequest due) ConnectAcknowledge = (tt, tt)
row_calm c m t (CallInitiated again due) CallProceeding = by_cases (names_channel m.channel c.channel) _ _ IsCalm (λ _. (tt, tt)) (λ _. (tt, refl))
row_calm c m t (CallInitiated again due) Connect = by_cases (names_channel m.channel c.channel) _ _ IsCalm (λ _. (tt, tt)) (λ _. (tt, refl))
row_calm c m t (OutgoingCallProceeding due) Connect = (tt, tt)
row_calm c m t s Progress = (tt, tt)
row_calm c m t s Notify = (tt, tt)
row_calm c m t s Information = (tt, tt)
row_calm c m t s (Other octet) = (tt, refl)
row_calm c m t s k = (tt, refl)

-- of a call
near_said : (c : PlainUserCall) (next : Next PlainUserCall) (said : Option Outgoing) → IsTaken c.origin → OfSaid Sendable said → OfSaid (UserSpeaks c.reference c.origin next) said → NoSetup said → OfSaid (SaysNear c.reference) said
near_said c next None a ok speaks no_setup = tt
near_said c next (Some p) a ok speaks no_setup = (record { sendable = ok; flag = speaks.flag ∙ taken_flag c.origin a; kind = not_setup p.kind no_setup }, speaks.reference)

-- of no call
unknown_near : (r : ℕ) (m : Heard) (k : Kind) → IsCallReference r → OfSaid (SaysNear r) (unknown_row User r true m k)
unknown_near r m k h = both (unknown_row User r true m k) (unknown_ok User r true m k h) (plain_of k)
  where
    Plain : Outgoing → Type 0
    Plain p = (is_setup_kind p.kind ≡ false) × ((p.flag ≡ true) × (p.reference ≡ r))

    state_of : (state : Option ℕ) → OfSaid Plain (unknown_status User r true state)
    state_of None = tt
    state_of (Some n) = by_cases (n == 0) _ _ (λ (o : Option Outgoing). OfSaid Plain o) (λ _. tt) (λ _. (refl, (refl, refl)))

    plain_of : (kind : Kind) → OfSaid Plain (unknown_row User r true m kind)
    plain_of ReleaseComplete = tt
    plain_of Status = state_of m.state
    plain_of Setup = tt
    plain_of StatusEnquiry = (refl, (refl, refl))
    plain_of kind = (refl, (refl, refl))

    both : (said : Option Outgoing) → OfSaid Sendable said → OfSaid Plain said → OfSaid (SaysNear r) said
    both None ok p = tt
    both (Some o) ok p = (record { sendable = ok; flag = p.1.0; kind = not_setup o.kind p.0 }, p.1.1)

-- ---- whom a message names

-- the call, if it has this reference
abbrev of_reference : ℕ → Option PlainUserCall → Option PlainUserCall
of_reference r None = None
of_reference r (Some x) = if x.reference == r then Some x else None

-- a message of the exchange names the call of its reference
names_by : (chan : ℕ → ℕ) (m : Said) (x : PlainUserCall) → m.flag ≡ false → IsFarOf chan x → far_names m x ≡ (x.reference == m.reference)
names_by chan m x bare h =
    ap (λ b. (x.reference == m.reference) && bool_eq b (not m.flag)) (taken_flag x.origin h.origin)
    ∙ ap (λ b. (x.reference == m.reference) && bool_eq true (not b)) bare
    ∙ with_true (x.reference == m.reference)
  where
    with_true : (b : Bool) → (b && true) ≡ b
    with_true true = refl
    with_true false = refl

-- those after a call are on other channels
none_after : (ch : ℕ) (xs : List PlainUserCall) → AllByRecursion (λ (x : PlainUserCall). ch ≢ x.channel) xs → held_by ch xs ≡ None
none_after ch [] h = refl
none_after ch (x ∷ xs) h = ap (λ b. if b then Some x else held_by ch xs) (ne_eqb x.channel ch (λ e. h.0 (sym e))) ∙ none_after ch xs h.1

-- which is the one that holds its channel
names_holder : (chan : ℕ → ℕ) (m : Said) (cs : List PlainUserCall) → m.flag ≡ false → AreOnTheirOwn cs → AllByRecursion (IsFarOf chan) cs → first_call (far_names m) cs ≡ of_reference m.reference (held_by (chan m.reference) cs)
names_holder chan m [] bare own each = refl
names_holder chan m (z ∷ zs) bare own each =
    let rest = names_holder chan m zs bare own.1 each.1 in
    ap (λ b. if b then Some z else first_call (far_names m) zs) (names_by chan m z bare each.0)
    ∙ decide (z.channel == chan m.reference)
    (λ on.
    let is : z.channel ≡ chan m.reference = eqb-true z.channel (chan m.reference) on in
    let gone : held_by (chan m.reference) zs ≡ None = none_after (chan m.reference) zs (subst (λ k. AllByRecursion (λ (y : PlainUserCall). k ≢ y.channel) zs) is own.0) in
    ap (λ r. if z.reference == m.reference then Some z else r) (rest ∙ ap (of_reference m.reference) gone)
    ∙ ap (λ b. of_reference m.reference (if b then Some z else held_by (chan m.reference) zs)) (sym on))
    (λ off.
    ap (λ b. if b then Some z else first_call (far_names m) zs) (ne_eqb z.reference m.reference (λ e. true≢false (sym (eq-eqb z.channel (chan m.reference) (each.0.channel ∙ ap chan e)) ∙ off)))
    ∙ rest
    ∙ ap (λ b. of_reference m.reference (if b then Some z else held_by (chan m.reference) zs)) (sym off))

-- ---- a message: what is left, and what it becomes

pub record FarStepped (wait : Option (List ℕ) → ℕ) (chan : ℕ → ℕ) (t : ℕ) (f : FarDay) (o : Outgoing) (l : Left PlainUserCall) (a : Answered FarDay) : Type 0 where
  pub fits : FarFits wait chan t a.day
  pub held : holder a.day (chan o.reference) ≡ l.call
  pub others : (k : ℕ) → k ≢ chan o.reference → holder a.day k ≡ holder f k
  pub said : reply_list a.reply ≡ l.said
  pub says : AllByRecursion (SaysNear o.reference) (reply_list a.reply)

-- the day stays
stays_as : (wait : Option (List ℕ) → ℕ) (chan : ℕ → ℕ) (t : ℕ) (f : FarDay) (o : Outgoing) (v : Option PlainUserCall) (reply : Option Outgoing) → FarFits wait chan t f → holder f (chan o.reference) ≡ v → OfSaid (SaysNear o.reference) reply → FarStepped wait chan t f o (record { call = v; said = reply_list reply }) (unchanged f reply)
stays_as wait chan t f o v reply h is says = record { fits = h; held = is; others = λ k ne. refl; said = refl; says = listed (SaysNear o.reference) reply says }

-- a call is taken
taken_as : (wait : Option (List ℕ) → ℕ) (chan : ℕ → ℕ) (t : ℕ) (f : FarDay) (o : Outgoing) (y : PlainUserCall) → FarFits wait chan t f → holder f (chan o.reference) ≡ None → IsFarOf chan y → y.channel ≡ chan o.reference → FarStepped wait chan t f o (record { call = Some y; said = [] }) (record { day = record f { calls = insert_call y f.calls }; reply = None })
taken_as wait chan t f o y h free is on = record {
  fits = record {
    moment = h.moment;
    script = h.script;
    follows = h.follows;
    clean = h.clean;
    own = insert_apart y f.calls (subst (λ k. AllByRecursion (λ (x : PlainUserCall). x.channel ≢ k) f.calls) (sym on) (none_on (chan o.reference) f.calls (ap is_some free))) h.own;
    each = insert_all (IsFarOf chan) y f.calls is h.each;
  };
  held = insert_same (chan o.reference) y f.calls on free;
  others = λ k ne. insert_other k y f.calls (λ e. ne (sym e ∙ on));
  said = refl;
  says = tt;
}

-- a step of the call on the channel
follows_as : (wait : Option (List ℕ) → ℕ) (chan : ℕ → ℕ) (t : ℕ) (f : FarDay) (o : Outgoing) (x : PlainUserCall) (step : Transition PlainUserCall) → FarFits wait chan t f → holder f (chan o.reference) ≡ Some x → x.channel ≡ chan o.reference → IsUnbrokenFar step.next → OnLive (λ y. IsFarOf chan y × (y.channel ≡ chan o.reference)) step.next → OfSaid (SaysNear o.reference) step.reply
    → FarStepped wait chan t f o (far_stepped step) (far_follow f x.channel step)
follows_as wait chan t f o x step h is on whole live says = subst (λ ch. FarStepped wait chan t f o (far_stepped step) (far_follow f ch step)) (sym on) (go step.next whole live)
  where
    ch : ℕ
    ch = chan o.reference

    go : (n : Next PlainUserCall) → IsUnbrokenFar n → OnLive (λ y. IsFarOf chan y × (y.channel ≡ ch)) n → FarStepped wait chan t f o (record { call = far_left n; said = reply_list step.reply }) (far_follow f ch (record { next = n; reply = step.reply }))
    go (Live y) w p = record {
      fits = record {
        moment = h.moment;
        script = h.script;
        follows = h.follows;
        clean = h.clean;
        own = settle_apart ch (Live y) f.calls p.1 h.own;
        each = settle_all (IsFarOf chan) ch (Live y) f.calls p.0 h.each;
      };
      held = settle_live ch y x f.calls is p.1;
      others = λ k ne. settle_other ch k (Live y) f.calls ne p.1;
      said = refl;
      says = listed (SaysNear o.reference) step.reply says;
    }
    go Over w p = record {
      fits = record {
        moment = h.moment;
        script = h.script;
        follows = h.follows;
        clean = h.clean;
        own = settle_apart ch Over f.calls tt h.own;
        each = settle_all (IsFarOf chan) ch Over f.calls tt h.each;
      };
      held = settle_gone ch f.calls h.own;
      others = λ k ne. settle_other ch k Over f.calls ne tt;
      said = refl;
      says = listed (SaysNear o.reference) step.reply says;
    }
    go Broken w p = absurd w

-- ---- a message with the reference of no call, or of another

-- what came of the call stays one of its reference
stays_far : (chan : ℕ → ℕ) (x : PlainUserCall) (ack cleared : Bool) (n : Next PlainUserCall) → IsFarOf chan x → Moves x.reference x.channel x.origin x.state ack cleared n → OnLive (λ y. IsFarOf chan y × (y.channel ≡ x.channel)) n
stays_far chan x ack cleared (Live y) h g = (
  record { reference = subst IsCallReference (sym g.reference) h.reference; channel = g.channel ∙ h.channel ∙ ap chan (sym g.reference); in_service = subst IsChannel (sym g.channel) h.in_service; origin = subst IsTaken (sym g.origin) h.origin },
  g.channel,
)
stays_far chan x ack cleared Over h g = tt
stays_far chan x ack cleared Broken h g = tt

-- a SETUP
setup_strays : (wait : Option (List ℕ) → ℕ) (chan : ℕ → ℕ) (t : ℕ) (f : FarDay) (r : ℕ) (number : List ℕ) (v : Option PlainUserCall) → FarFits wait chan t f → Sendable (setup_of r (chan r) number) → holder f (chan r) ≡ v
    → FarStepped wait chan t f (setup_of r (chan r) number) (far_strays_by wait t (chan r) v (setup_of r (chan r) number) Setup) (far_stray f (said_from (setup_of r (chan r) number)) (Some number) Setup)
setup_strays wait chan t f r number None h ok free =
    let o : Outgoing = setup_of r (chan r) number in
    let m : Said = said_from o in
    let y : PlainUserCall = user_offered r (chan r) (Answer (wait (Some number))) f.moment in
    let taken : is_taken f (chan r) ≡ false = ap (λ v. is_some v || is_marked f.maintenance (chan r)) free ∙ h.clean (chan r) in
    subst (λ b. FarStepped wait chan t f o (far_strays_by wait t (chan r) None o Setup) (if b then far_refuses f m 44 else far_takes f m (chan r) (policy_of f.script (Some number)))) (sym taken)
    (subst (λ policy. FarStepped wait chan t f o (far_strays_by wait t (chan r) None o Setup) (far_takes f m (chan r) policy)) (sym (h.script (Some number)))
    (subst (λ u. FarStepped wait chan t f o (record { call = Some (user_offered r (chan r) (Answer (wait (Some number))) u); said = [] }) (far_takes f m (chan r) (Answer (wait (Some number))))) h.moment
    (taken_as wait chan t f o y h free (record { reference = ok.out.reference; channel = refl; in_service = ok.channel; origin = tt }) refl)))
setup_strays wait chan t f r number (Some x) h ok is =
    let o : Outgoing = setup_of r (chan r) number in
    let m : Said = said_from o in
    subst (λ v. FarStepped wait chan t f o (far_strays_by wait t (chan r) (Some x) o Setup) (if is_some v || is_marked f.maintenance (chan r) then far_refuses f m 44 else far_takes f m (chan r) (policy_of f.script (Some number)))) (sym is)
    (stays_as wait chan t f o (Some x) (Some (refusal_of User r true 44)) h is (record { sendable = refusal_ok User r 44 ok.out.reference; flag = refl; kind = not_setup ReleaseComplete refl }, refl))

strays : (wait : Option (List ℕ) → ℕ) (chan : ℕ → ℕ) (t : ℕ) (f : FarDay) (o : Outgoing) (v : Option PlainUserCall) → FarFits wait chan t f → IsToFar chan o → holder f (chan o.reference) ≡ v → FarStepped wait chan t f o (far_strays_by wait t (chan o.reference) v o o.kind) (far_stray f (said_from o) o.called o.kind)
strays wait chan t f o v h m is = at o.kind refl v is
  where
    r : ℕ
    r = o.reference

    other : (k : Kind) (w : Option PlainUserCall) → holder f (chan r) ≡ w → FarStepped wait chan t f o (record { call = w; said = reply_list (unknown_row User r true (heard_from o) k) }) (unchanged f (unknown_row User r (not o.flag) (heard_from o) k))
    other k w is' = subst (λ b. FarStepped wait chan t f o (record { call = w; said = reply_list (unknown_row User r true (heard_from o) k) }) (unchanged f (unknown_row User r (not b) (heard_from o) k))) (sym m.flag)
        (stays_as wait chan t f o w (unknown_row User r true (heard_from o) k) h is' (unknown_near r (heard_from o) k m.sendable.out.reference))

    set_up : (w : Option PlainUserCall) → holder f (chan r) ≡ w → o.kind ≡ Setup → FarStepped wait chan t f o (far_strays_by wait t (chan r) w o Setup) (far_stray f (said_from o) o.called Setup)
    set_up w is' kind =
        let p = m.setup kind in
        subst (λ z. FarStepped wait chan t f z (far_strays_by wait t (chan z.reference) w z Setup) (far_stray f (said_from z) z.called Setup)) (sym p.1) (setup_strays wait chan t f r p.0 w h (subst Sendable p.1 m.sendable) is')

    at : (k : Kind) → o.kind ≡ k → (w : Option PlainUserCall) → holder f (chan r) ≡ w → FarStepped wait chan t f o (far_strays_by wait t (chan r) w o k) (far_stray f (said_from o) o.called k)
    at Setup kind w is' = set_up w is' kind
    at k kind None is' = other k None is'
    at k kind (Some x) is' = other k (Some x) is'

-- ---- a message

met : (wait : Option (List ℕ) → ℕ) (chan : ℕ → ℕ) (t : ℕ) (f : FarDay) (o : Outgoing) (v : Option PlainUserCall) → FarFits wait chan t f → IsToFar chan o → holder f (chan o.reference) ≡ v → FarStepped wait chan t f o (far_meets_by wait t (chan o.reference) v o) (far_received_by f (said_from o) o.called (of_reference o.reference v))
met wait chan t f o None h m is = strays wait chan t f o None h m is
met wait chan t f o (Some x) h m is = go (x.reference == o.reference) refl
  where
    found : ((x.channel == chan o.reference) ≡ true) × IsFarOf chan x
    found = first_found (IsFarOf chan) (λ y. y.channel == chan o.reference) f.calls x is h.each

    on : x.channel ≡ chan o.reference
    on = eqb-true x.channel (chan o.reference) found.0

    go : (b : Bool) → (x.reference == o.reference) ≡ b → FarStepped wait chan t f o (if b then far_stepped (user_message x (heard_from o) t) else far_strays_by wait t (chan o.reference) (Some x) o o.kind) (far_received_by f (said_from o) o.called (if b then Some x else None))
    go true same =
        let step : Transition PlainUserCall = user_message x (heard_from o) t in
        let calm : IsCalm step = row_calm x (heard_from o) t x.state o.kind in
        let ok : OfSaid Sendable step.reply = user_row_ok x.reference x.channel x.origin t (heard_from o) x.state o.kind found.1.reference in
        let speaks : OfSaid (UserSpeaks x.reference x.origin step.next) step.reply = row_speaks x.reference x.channel x.origin t (heard_from o) x.state o.kind in
        let moves = row_moves x.reference x.channel x.origin t (heard_from o) x.state o.kind in
        subst (λ u. FarStepped wait chan t f o (far_stepped step) (far_follow f x.channel (user_message x (heard_from o) u))) (sym h.moment)
        (follows_as wait chan t f o x step h is on calm.0
        (subst (λ ch. OnLive (λ y. IsFarOf chan y × (y.channel ≡ ch)) step.next) on (stays_far chan x (is_acknowledge o.kind) (clears_as o.kind o.state) step.next found.1 moves))
        (subst (λ r. OfSaid (SaysNear r) step.reply) (eqb-true x.reference o.reference same) (near_said x step.next step.reply found.1.origin ok speaks calm.1)))
    go false other = strays wait chan t f o (Some x) h m is

pub far_step : (wait : Option (List ℕ) → ℕ) (chan : ℕ → ℕ) (t : ℕ) (f : FarDay) (o : Outgoing) → FarFits wait chan t f → IsToFar chan o → FarStepped wait chan t f o (far_meets_by wait t (chan o.reference) (holder f (chan o.reference)) o) (far_receive_octets f (out_octets o))
far_step wait chan t f o h m = subst (FarStepped wait chan t f o (far_meets_by wait t (chan o.reference) (holder f (chan o.reference)) o))
    (sym (far_receive_sent f o m.sendable ∙ ap (far_received_by f (said_from o) o.called) (names_holder chan (said_from o) f.calls m.flag h.own h.each)))
    (met wait chan t f o (holder f (chan o.reference)) h m refl)

-- ---- messages, one after another

-- what a message on channel k makes of the call there
record FarMetOn (wait : Option (List ℕ) → ℕ) (t k : ℕ) (v : Option PlainUserCall) (o : Outgoing) (a : Answered FarDay) : Type 0 where
  held : holder a.day k ≡ (far_meets_by wait t k v o).call
  said : reply_list a.reply ≡ (far_meets_by wait t k v o).said

-- g is the day after them, and out is what is said to them
pub record FarRuns (wait : Option (List ℕ) → ℕ) (chan : ℕ → ℕ) (t : ℕ) (f : FarDay) (os : List Outgoing) (g : FarDay) (out : List Outgoing) : Type 0 where
  pub fits : FarFits wait chan t g
  pub held : (k : ℕ) → holder g k ≡ (far_meets_all_by wait t k (holder f k) (messages_on chan k os)).call
  pub said : (k : ℕ) → messages_on chan k out ≡ (far_meets_all_by wait t k (holder f k) (messages_on chan k os)).said
  pub says : AllByRecursion IsToNear out

pub far_run : (wait : Option (List ℕ) → ℕ) (chan : ℕ → ℕ) (t : ℕ) (os : List Outgoing) (f : FarDay) → AllByRecursion (IsToFar chan) os → FarFits wait chan t f → FarRuns wait chan t f os (far_heard os f) (far_says os f)
far_run wait chan t [] f all h = record { fits = h; held = λ k. refl; said = λ k. refl; says = tt }
far_run wait chan t (o ∷ os) f all h =
    let a : Answered FarDay = far_receive_octets f (out_octets o) in
    let one = far_step wait chan t f o h all.0 in
    let rest = far_run wait chan t os a.day all.1 one.fits in
    let met_on : (k : ℕ) → chan o.reference ≡ k → FarMetOn wait t k (holder f k) o a = λ k is. subst (λ c. FarMetOn wait t c (holder f c) o a) is (record { held = one.held; said = one.said }) in
    record {
      fits = rest.fits;
      held = λ k. decide (chan o.reference == k)
          (λ on. rest.held k
          ∙ ap (λ v. (far_meets_all_by wait t k v (messages_on chan k os)).call) (met_on k (eqb-true (chan o.reference) k on)).held
          ∙ ap (λ b. (far_meets_all_by wait t k (holder f k) (if b then o ∷ messages_on chan k os else messages_on chan k os)).call) (sym on))
          (λ off. rest.held k
          ∙ ap (λ v. (far_meets_all_by wait t k v (messages_on chan k os)).call) (one.others k (λ e. true≢false (sym (eq-eqb (chan o.reference) k (sym e)) ∙ off)))
          ∙ ap (λ b. (far_meets_all_by wait t k (holder f k) (if b then o ∷ messages_on chan k os else messages_on chan k os)).call) (sym off));
      said = λ k. on_joined chan k (reply_list a.reply) (far_says os a.day) ∙ decide (chan o.reference == k)
          (λ on.
          let is : chan o.reference ≡ k = eqb-true (chan o.reference) k on in
          let here = met_on k is in
          ap (λ ms. ms ++ messages_on chan k (far_says os a.day)) (on_all chan k (reply_list a.reply) (all_map (SaysNear o.reference) (λ p. chan p.reference ≡ k) (λ p q. ap chan q.1 ∙ is) (reply_list a.reply) one.says) ∙ here.said)
          ∙ ap (λ ms. (far_meets_by wait t k (holder f k) o).said ++ ms) (rest.said k ∙ ap (λ v. (far_meets_all_by wait t k v (messages_on chan k os)).said) here.held)
          ∙ ap (λ b. (far_meets_all_by wait t k (holder f k) (if b then o ∷ messages_on chan k os else messages_on chan k os)).said) (sym on))
          (λ off.
          let other : chan o.reference ≢ k = λ e. true≢false (sym (eq-eqb (chan o.reference) k e) ∙ off) in
          ap (λ ms. ms ++ messages_on chan k (far_says os a.day)) (on_none chan k (reply_list a.reply) (all_map (SaysNear o.reference) (λ p. chan p.reference ≢ k) (λ p q e. other (ap chan (sym q.1) ∙ e)) (reply_list a.reply) one.says))
          ∙ rest.said k
          ∙ ap (λ v. (far_meets_all_by wait t k v (messages_on chan k os)).said) (one.others k (λ e. other (sym e)))
          ∙ ap (λ b. (far_meets_all_by wait t k (holder f k) (if b then o ∷ messages_on chan k os else messages_on chan k os)).said) (sym off));
      says = all_joined IsToNear (reply_list a.reply) (far_says os a.day) (all_map (SaysNear o.reference) IsToNear (λ p q. q.0) (reply_list a.reply) one.says) rest.says;
    }

-- ---- a tick: what a second of a call says

takes_plain : (c : PlainUserCall) (t : ℕ) (o : UserOrigin) → IsTaken o → NoSetup (user_takes c t o).reply
takes_plain c t (Offered (Answer n) at) h = by_cases (n == 0) _ _ (λ (step : Transition PlainUserCall). NoSetup step.reply) (λ _. refl) (λ _. refl)
takes_plain c t o h = absurd h

answers_plain : (c : PlainUserCall) (t : ℕ) (o : UserOrigin) → IsTaken o → NoSetup (user_answers c t o).reply
answers_plain c t (Offered (Answer n) at) h = by_cases (nat_le (at + 1 + n) t) _ _ (λ (step : Transition PlainUserCall). NoSetup step.reply) (λ _. refl) (λ _. tt)
answers_plain c t o h = absurd h

clears_plain : (c : PlainUserCall) (t since : ℕ) (o : UserOrigin) → IsTaken o → NoSetup (user_clears c t since o).reply
clears_plain c t since (Offered (Answer n) at) h = tt
clears_plain c t since o h = absurd h

again_plain : (c : PlainUserCall) (o : UserOrigin) → IsTaken o → NoSetup (user_setup_again c o)
again_plain c (Offered policy at) h = tt
again_plain c o h = absurd h

releases_plain : (c : PlainUserCall) (sent : Times) (cause : Option ℕ) (t : ℕ) → NoSetup (user_releases c sent cause t).reply
releases_plain c sent None t = refl
releases_plain c sent (Some cause) t = refl

second_plain : (c : PlainUserCall) (t : ℕ) (s : UserState) → IsTaken c.origin → NoSetup (user_second_row c t s).reply
second_plain c t CallPresent h = takes_plain c t c.origin h
second_plain c t CallReceived h = answers_plain c t c.origin h
second_plain c t (ConnectRequest due) h = by_cases (nat_le due t) _ _ (λ (step : Transition PlainUserCall). NoSetup step.reply) (λ _. refl) (λ _. tt)
second_plain c t (Active since) h = clears_plain c t since c.origin h
second_plain c t IncomingCallProceeding h = tt
second_plain c t (CallInitiated false due) h = by_cases (nat_le due t) _ _ (λ (step : Transition PlainUserCall). NoSetup step.reply) (λ _. again_plain c c.origin h) (λ _. tt)
second_plain c t (CallInitiated true due) h = by_cases (nat_le due t) _ _ (λ (step : Transition PlainUserCall). NoSetup step.reply) (λ _. refl) (λ _. tt)
second_plain c t (OutgoingCallProceeding due) h = by_cases (nat_le due t) _ _ (λ (step : Transition PlainUserCall). NoSetup step.reply) (λ _. refl) (λ _. tt)
second_plain c t (DisconnectRequest cause due) h = by_cases (nat_le due t) _ _ (λ (step : Transition PlainUserCall). NoSetup step.reply) (λ _. refl) (λ _. tt)
second_plain c t (ReleaseRequest Twice cause due) h = by_cases (nat_le due t) _ _ (λ (step : Transition PlainUserCall). NoSetup step.reply) (λ _. tt) (λ _. tt)
second_plain c t (ReleaseRequest NotYet cause due) h = by_cases (nat_le due t) _ _ (λ (step : Transition PlainUserCall). NoSetup step.reply) (λ _. releases_plain c Once cause t) (λ _. tt)
second_plain c t (ReleaseRequest Once cause due) h = by_cases (nat_le due t) _ _ (λ (step : Transition PlainUserCall). NoSetup step.reply) (λ _. releases_plain c Twice cause t) (λ _. tt)

called_by : (o : UserOrigin) → IsTaken o → CalledBy o
called_by (Offered policy at) h = tt
called_by (Calling called) h = absurd h

second_near : (chan : ℕ → ℕ) (t : ℕ) (c : PlainUserCall) → IsFarOf chan c → OfSaid (SaysNear c.reference) (user_second c t).reply
second_near chan t c h = near_said c (user_second c t).next (user_second c t).reply h.origin (user_second_ok c.reference c.channel c.origin t c.state h.reference h.in_service (called_by c.origin h.origin)) (second_speaks c.reference c.channel c.origin t c.state) (second_plain c t c.state h.origin)

-- ---- who holds a channel after it

second_on : (c : PlainUserCall) (t : ℕ) → OnLive (λ x. x.channel ≡ c.channel) (user_second c t).next
second_on c t = on_channel c.reference c.channel c.origin c.state false false (user_second c t).next (second_moves c.reference c.channel c.origin t c.state)

next_here : (k : ℕ) (n : Next PlainUserCall) (rest : List PlainUserCall) → OnLive (λ y. y.channel ≡ k) n → held_by k rest ≡ None → held_by k (next_then n rest) ≡ far_left n
next_here k (Live y) rest on none = ap (λ b. if b then Some y else held_by k rest) (eq-eqb y.channel k on)
next_here k Over rest on none = none
next_here k Broken rest on none = none

next_there : (k : ℕ) (n : Next PlainUserCall) (rest : List PlainUserCall) → OnLive (λ y. y.channel ≢ k) n → held_by k (next_then n rest) ≡ held_by k rest
next_there k (Live y) rest off = ap (λ b. if b then Some y else held_by k rest) (ne_eqb y.channel k off)
next_there k Over rest off = refl
next_there k Broken rest off = refl

passes_held : (u k : ℕ) (cs : List PlainUserCall) → AreOnTheirOwn cs → held_by k (second_calls u cs) ≡ (far_passes u (held_by k cs)).call
passes_held u k [] own = refl
passes_held u k (z ∷ zs) own =
    let n : Next PlainUserCall = (user_second z u).next in
    let rest = passes_held u k zs own.1 in
    decide (z.channel == k)
    (λ on.
    let is : z.channel ≡ k = eqb-true z.channel k on in
    let gone : held_by k zs ≡ None = none_after k zs (subst (λ c. AllByRecursion (λ (y : PlainUserCall). c ≢ y.channel) zs) is own.0) in
    next_here k n (second_calls u zs) (live_map (λ y. y.channel ≡ z.channel) (λ y. y.channel ≡ k) (λ y p. p ∙ is) n (second_on z u)) (rest ∙ ap (λ v. (far_passes u v).call) gone)
    ∙ ap (λ b. (far_passes u (if b then Some z else held_by k zs)).call) (sym on))
    (λ off.
    next_there k n (second_calls u zs) (live_map (λ y. y.channel ≡ z.channel) (λ y. y.channel ≢ k) (λ y p e. true≢false (sym (eq-eqb z.channel k (sym p ∙ e)) ∙ off)) n (second_on z u))
    ∙ rest
    ∙ ap (λ b. (far_passes u (if b then Some z else held_by k zs)).call) (sym off))

-- each call holds its channel
each_holds : (cs : List PlainUserCall) → AreOnTheirOwn cs → AllByRecursion (λ (x : PlainUserCall). held_by x.channel cs ≡ Some x) cs
each_holds [] own = tt
each_holds (z ∷ zs) own = (
  ap (λ b. if b then Some z else held_by z.channel zs) (eq-eqb z.channel z.channel refl),
  all_calls (λ x. (z.channel ≢ x.channel) × (held_by x.channel zs ≡ Some x)) (λ x. held_by x.channel (z ∷ zs) ≡ Some x)
      (λ x p. ap (λ b. if b then Some z else held_by x.channel zs) (ne_eqb z.channel x.channel p.0) ∙ p.1) zs
      (both_calls (λ x. z.channel ≢ x.channel) (λ x. held_by x.channel zs ≡ Some x) zs own.0 (each_holds zs own.1)),
)

-- ---- and no channel goes into maintenance

settle_whole : (c : ℕ) (n : Next PlainUserCall) (ms : List Bool) → IsUnbrokenFar n → settle_maintenance c n ms ≡ ms
settle_whole c (Live y) ms h = refl
settle_whole c Over ms h = refl
settle_whole c Broken ms h = absurd h

maintenance_whole : (u : ℕ) (cs : List PlainUserCall) (ms : List Bool) → AllByRecursion (λ (x : PlainUserCall). IsUnbrokenFar (user_second x u).next) cs → second_maintenance u cs ms ≡ ms
maintenance_whole u [] ms h = refl
maintenance_whole u (x ∷ xs) ms h = ap (second_maintenance u xs) (settle_whole x.channel (user_second x u).next ms h.0) ∙ maintenance_whole u xs ms h.1

-- ---- what is said stands by its channel

-- these are the slots of the channels from n on
abbrev AreSlots : (ℕ → ℕ) → ℕ → List (Option Outgoing) → Type 0
AreSlots chan n [] = Unit {0}
AreSlots chan n (v ∷ vs) = OfSaid (λ p. chan p.reference ≡ n) v × AreSlots chan (suc n) vs

empty_slots : (chan : ℕ → ℕ) (n size : ℕ) → AreSlots chan n (replicate size None)
empty_slots chan n zero = tt
empty_slots chan n (suc size) = (tt, empty_slots chan (suc n) size)

set_slot : (chan : ℕ → ℕ) (n k i : ℕ) (vs : List (Option Outgoing)) (v : Option Outgoing) → k ≡ n + i → OfSaid (λ p. chan p.reference ≡ k) v → AreSlots chan n vs → AreSlots chan n (slice_set vs i v)
set_slot chan n k i [] v is p h = h
set_slot chan n k zero (x ∷ xs) v is p h = (let same : k ≡ n = omega (arith, is) in subst (λ c. OfSaid (λ q. chan q.reference ≡ c) v) same p, h.1)
set_slot chan n k (suc i) (x ∷ xs) v is p h = (h.0, set_slot chan (suc n) k i xs v (omega (arith, is)) p h.1)

second_slots : (chan : ℕ → ℕ) (u : ℕ) (cs : List PlainUserCall) (vs : List (Option Outgoing)) → AllByRecursion (IsFarOf chan) cs → AreSlots chan 0 vs → AreSlots chan 0 (second_said u cs vs)
second_slots chan u [] vs each h = h
second_slots chan u (c ∷ cs) vs each h = second_slots chan u cs (slice_set vs c.channel (user_second c u).reply) each.1
    (set_slot chan 0 c.channel c.channel vs (user_second c u).reply (omega arith) (said_map (SaysNear c.reference) (λ p. chan p.reference ≡ c.channel) (λ p q. ap chan q.1 ∙ sym each.0.channel) (user_second c u).reply (second_near chan u c each.0)) h)

none_before : (chan : ℕ → ℕ) (n k : ℕ) (vs : List (Option Outgoing)) → k < n → AreSlots chan n vs → messages_on chan k (in_order vs) ≡ []
none_before chan n k [] lt h = refl
none_before chan n k (None ∷ vs) lt h = none_before chan (suc n) k vs (omega (arith, lt)) h.1
none_before chan n k (Some p ∷ vs) lt h =
    let at = h.0 in
    ap (λ b. if b then p ∷ messages_on chan k (in_order vs) else messages_on chan k (in_order vs)) (ne_eqb (chan p.reference) k (λ e. absurd (omega (arith, lt, at, e)))) ∙ none_before chan (suc n) k vs (omega (arith, lt)) h.1

in_slot : (chan : ℕ → ℕ) (n k i : ℕ) (vs : List (Option Outgoing)) → k ≡ n + i → AreSlots chan n vs → messages_on chan k (in_order vs) ≡ reply_list (slice_index_or vs i None)
in_slot chan n k i [] is h = refl
in_slot chan n k zero (None ∷ vs) is h = none_before chan (suc n) k vs (omega (arith, is)) h.1
in_slot chan n k zero (Some p ∷ vs) is h =
    let at = h.0 in
    ap (λ b. if b then p ∷ messages_on chan k (in_order vs) else messages_on chan k (in_order vs)) (eq-eqb (chan p.reference) k (omega (arith, at, is)))
    ∙ ap (λ os. p ∷ os) (none_before chan (suc n) k vs (omega (arith, is)) h.1)
in_slot chan n k (suc i) (None ∷ vs) is h = in_slot chan (suc n) k i vs (omega (arith, is)) h.1
in_slot chan n k (suc i) (Some p ∷ vs) is h =
    let at = h.0 in
    ap (λ b. if b then p ∷ messages_on chan k (in_order vs) else messages_on chan k (in_order vs)) (ne_eqb (chan p.reference) k (λ e. absurd (omega (arith, at, is, e))))
    ∙ in_slot chan (suc n) k i vs (omega (arith, is)) h.1

-- a slot on whose channel no call is
slot_stays : (u k : ℕ) (cs : List PlainUserCall) (vs : List (Option Outgoing)) → AllByRecursion (λ (x : PlainUserCall). x.channel ≢ k) cs → slice_index_or (second_said u cs vs) k None ≡ slice_index_or vs k None
slot_stays u k [] vs h = refl
slot_stays u k (c ∷ cs) vs h = slot_stays u k cs (slice_set vs c.channel (user_second c u).reply) h.1 ∙ get_or-set_other vs c.channel k (user_second c u).reply None (λ e. h.0 (sym e))

slot_passes : (chan : ℕ → ℕ) (u k : ℕ) (cs : List PlainUserCall) (v : Option PlainUserCall) → AreOnTheirOwn cs → AllByRecursion (IsFarOf chan) cs → held_by k cs ≡ v → reply_list (slice_index_or (second_said u cs no_messages) k None) ≡ (far_passes u v).said
slot_passes chan u k cs None own each is = ap reply_list (slot_stays u k cs no_messages (none_on k cs (ap is_some is)) ∙ empty_at 32 k)
slot_passes chan u k cs (Some x) own each is =
    let found = first_found (IsFarOf chan) (λ y. y.channel == k) cs x is each in
    let on : x.channel ≡ k = eqb-true x.channel k found.0 in
    let few : x.channel ≤ 31 = found.1.in_service.1 in
    ap reply_list (slot_said u k x cs no_messages own is (omega (arith, on, few)))

-- ---- the tick

begins_none : (t : ℕ) (rows : List ScriptRow) (b : Begun) → AllByRecursion IsFollowed rows → begin_rows t rows b ≡ b
begins_none t [] b h = refl
begins_none t (Follows number policy ∷ rows) b h = begins_none t rows b h.1
begins_none t (Calls number moment channel ∷ rows) b h = absurd h.0

pub record FarTicksOn (wait : Option (List ℕ) → ℕ) (chan : ℕ → ℕ) (t : ℕ) (f : FarDay) (s : Sent FarDay) : Type 0 where
  pub fits : FarFits wait chan (t + 1) s.day
  pub held : (k : ℕ) → holder s.day k ≡ (far_passes (t + 1) (holder f k)).call
  pub said : (k : ℕ) → messages_on chan k s.sent ≡ (far_passes (t + 1) (holder f k)).said
  pub says : AllByRecursion IsToNear s.sent

pub far_tick_on : (wait : Option (List ℕ) → ℕ) (chan : ℕ → ℕ) (t : ℕ) (f : FarDay) → FarFits wait chan t f → t < 300000 → ((k : ℕ) (x : PlainUserCall) → holder f k ≡ Some x → IsUnbrokenFar (user_second x (t + 1)).next) → FarTicksOn wait chan t f (far_tick f)
far_tick_on wait chan t f h early whole =
    let u = f.moment + 1 in
    let un : u ≡ t + 1 = ap (λ n. n + 1) h.moment in
    let start : Begun = record { calls = second_calls u f.calls; said = second_said u f.calls no_messages; blocked = with_held f.calls f.maintenance; next = f.next } in
    let eq : far_tick f ≡ far_after f u start =
    ap (λ b. if b then (record { day = f; sent = [] }) else far_ticked f) (not_last f.moment (subst (λ n. n < 300000) (sym h.moment) early))
    ∙ ap (far_after f u) (begins_none u f.script start h.follows) in
    let steps : AllByRecursion (λ (x : PlainUserCall). IsUnbrokenFar (user_second x u).next) f.calls = all_calls (λ x. held_by x.channel f.calls ≡ Some x) (λ x. IsUnbrokenFar (user_second x u).next)
    (λ x is. subst (λ n. IsUnbrokenFar (user_second x n).next) (sym un) (whole x.channel x is)) f.calls (each_holds f.calls h.own) in
    subst (FarTicksOn wait chan t f) (sym eq) (record {
      fits = record {
        moment = un;
        script = h.script;
        follows = h.follows;
        clean = λ k. ap (λ ms. is_marked ms k) (maintenance_whole u f.calls f.maintenance steps) ∙ h.clean k;
        own = second_apart u f.calls h.own;
        each = second_all (IsFarOf chan) (IsFarOf chan) u
            (λ x p. live_map (λ y. IsFarOf chan y × (y.channel ≡ x.channel)) (IsFarOf chan) (λ y q. q.0) (user_second x u).next (stays_far chan x false false (user_second x u).next p (second_moves x.reference x.channel x.origin u x.state))) f.calls h.each;
      };
      held = λ k. passes_held u k f.calls h.own ∙ ap (λ n. (far_passes n (holder f k)).call) un;
      said = λ k. in_slot chan 0 k k (second_said u f.calls no_messages) (omega arith) (second_slots chan u f.calls no_messages h.each (empty_slots chan 0 32))
          ∙ slot_passes chan u k f.calls (holder f k) h.own h.each refl
          ∙ ap (λ n. (far_passes n (holder f k)).said) un;
      says = ordered IsToNear (second_said u f.calls no_messages) (second_said_all IsToNear u f.calls no_messages
          (all_calls (IsFarOf chan) (λ x. OfSaid IsToNear (user_second x u).reply) (λ x p. said_map (SaysNear x.reference) IsToNear (λ o q. q.0) (user_second x u).reply (second_near chan u x p)) f.calls h.each)
          (none_said IsToNear 32));
    })
