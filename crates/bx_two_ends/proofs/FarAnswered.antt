-- The far end in a turn: it ticks, and hears what the exchange says to its messages.
use Rattle.std.proofs.Common.{◌≡◌, ◌≢◌, ◌⊎◌, inl, inr, ℕ, suc, ◌+◌, ◌≤◌, ◌<◌, ◌&&◌, ◌%◌, Bool, true, false, List, [], ◌∷◌, Option, Some, None, refl, sym, ap, subst, ◌∙◌, arith, nat_le, if◌then◌else◌}
use Rattle.std.specs.List.{AllByRecursion, list_any}
use Rattle.std.proofs.lemmas.Bool.{false≢true, and_from, eq-eqb, leb-true, false_from_ne_true, cases_eq}
use Rattle.bx_channels.specs.ChannelNumbers.{IsChannel}
use Rattle.bx_channels.specs.Marks.{is_marked}
use Rattle.bx_q931.specs.declared.kind.Kind.{Kind}
use Rattle.bx_q931.specs.declared.kind.Kind.TheVariants.{Alerting, Connect, ConnectAcknowledge, ReleaseComplete, Status}
use Rattle.bx_q931.specs.Outgoing.{Outgoing, IsCallReference, out_octets}
use Rattle.bx_calls.specs.Hearing.{Heard, reports_null}
use Rattle.bx_calls.specs.PlainCalls.{PlainUserCall}
use Rattle.bx_calls.specs.Sending.{Sent, Answered, reply_list}
use Rattle.bx_calls.specs.States.{state_value, user_state}
use Rattle.bx_calls.specs.UserTable.{user_release_due, user_flag, user_row, user_second, user_second_row, user_takes, user_clears, user_says_channel, user_same, user_to, user_connects, user_status}
use Rattle.bx_calls.specs.Steps.{ends}
use Rattle.bx_calls.specs.declared.transition.Next.TheVariants.{Live}
use Rattle.bx_calls.specs.declared.transition.Transition.{Transition}
use Rattle.bx_calls.specs.declared.user_state.Policy.TheVariants.{Answer}
use Rattle.bx_calls.specs.declared.user_state.UserOrigin.{UserOrigin}
use Rattle.bx_calls.specs.declared.user_state.UserOrigin.TheVariants.{Offered}
use Rattle.bx_calls.specs.declared.user_state.UserState.{UserState}
use Rattle.bx_calls.specs.declared.user_state.UserState.TheVariants.{CallPresent, CallReceived, ConnectRequest, Active, ReleaseRequest}
use Rattle.bx_two_ends.specs.Answering.{is_ringing, is_clearing}
use Rattle.bx_day.specs.Day.{Day, is_live}
use Rattle.bx_day.specs.Law.{standing_at}
use Rattle.bx_two_ends.proofs.Answering.{is_up}
use Rattle.bx_day.proofs.Said.{OfSaid}
use Rattle.bx_far.specs.FarDay.{FarDay, Begun, holder, settle_maintenance, far_received_by, far_follow, far_stray, begin_rows, far_after, far_tick, far_ticked, second_calls, second_said, second_maintenance, with_held, no_messages}
use Rattle.bx_far.specs.FarRun.{far_receive_octets}
use Rattle.bx_far.specs.declared.row.ScriptRow.{ScriptRow}
use Rattle.bx_far.specs.declared.row.ScriptRow.TheVariants.{Follows, Calls}
use Rattle.bx_two_ends.specs.Lockstep.{AnswersAtOnce, far_heard, far_says}
use Rattle.bx_two_ends.proofs.Delivery.{Sendable, said_from, far_receive_sent}
use Rattle.bx_two_ends.proofs.FarCalls.{all_calls, OnLive}
use Rattle.bx_two_ends.proofs.FarTicks.{second_all, second_apart, second_said_all, none_said, ordered}
use Rattle.bx_two_ends.proofs.FarTurns.{IsCalledDay, channel_of, In6, In8, In10, In19, Has, IsAnswering, IsFor, FarIs, named_holder, holder_for, After, option_of}
use Rattle.bx_two_ends.proofs.FarCalled.{FromFar, Connects, connects_as, InS, AtS, ring_not_clear, ring_not_up, clear_not_up, ring_live, clear_live, answering_flag, reference_ok, held_option, step_is, skip, and_off, off_and, other_from}
use Rattle.bx_two_ends.proofs.History.{from_beginner, from_other, is_from_other, all_joined}
use Rattle.bx_two_ends.proofs.Holders.{held_by, GoesOnIn, second_held, slot_said, order_has}
use Rattle.bx_two_ends.proofs.MessageLimits.{channel_ok, user_row_ok}

abbrev pub Is19 : UserState → Type 0
Is19 (ReleaseRequest again cause due) = Unit {0}
Is19 _ = ⊥

-- ---- states after its tick

abbrev pub InT : Day → ℕ → UserState → Type 0
InT c j s = (In8 s × (is_ringing (standing_at c j) ≡ true)) ⊎ (In10 s ⊎ (Is19 s × (is_clearing (standing_at c j) ≡ true)))

pub record AtT (c : Day) (j : ℕ) (v : Option PlainUserCall) : Type 0 where
  pub ringing : is_ringing (standing_at c j) ≡ true → Has In8 v
  pub clearing : is_clearing (standing_at c j) ≡ true → Has Is19 v
  pub settled : is_up (standing_at c j) ≡ true → Has In10 v

-- ---- a second of a call

takes_it : (x : PlainUserCall) (t : ℕ) (o : UserOrigin) → IsAnswering o → user_takes x t o ≡ user_connects x (user_says_channel x Connect) t
takes_it x t (Offered (Answer n) at) h = ap (λ b. if b then user_connects x (user_says_channel x Connect) t else user_to x (Some (user_says_channel x Alerting)) CallReceived) (eq-eqb n 0 h)
takes_it x t o h = absurd h

clears_not : (x : PlainUserCall) (t since : ℕ) (o : UserOrigin) → IsAnswering o → user_clears x t since o ≡ user_same x None
clears_not x t since (Offered (Answer n) at) h = refl
clears_not x t since o h = absurd h

second6 : (x : PlainUserCall) (t : ℕ) (s : UserState) → In6 s → IsAnswering x.origin → user_second_row x t s ≡ user_connects x (user_says_channel x Connect) t
second6 x t CallPresent h a = takes_it x t x.origin a
second6 x t s h a = absurd h

second10 : (x : PlainUserCall) (t : ℕ) (s : UserState) → In10 s → IsAnswering x.origin → user_second_row x t s ≡ user_same x None
second10 x t (Active since) h a = clears_not x t since x.origin a
second10 x t s h a = absurd h

not_late : (t due : ℕ) → t < due → nat_le due t ≡ false
not_late t due lt = false_from_ne_true (nat_le due t) (λ h. let le : due ≤ t = leb-true due t h in omega (arith, le, lt))

second19 : (x : PlainUserCall) (m t : ℕ) (s : UserState) → In19 m s → t ≡ m + 1 → user_second_row x t s ≡ user_same x None
second19 x m t (ReleaseRequest sent cause due) h is = ap (λ b. if b then user_release_due x t sent cause else user_same x None) (not_late t due (omega (arith, h, is)))
second19 x m t s h is = absurd h

still19 : (m : ℕ) (s : UserState) → In19 m s → Is19 s
still19 m (ReleaseRequest again cause due) h = tt
still19 m s h = absurd h

-- the call with CONNECT sent
abbrev connected : PlainUserCall → ℕ → PlainUserCall
connected x t = record x { state = ConnectRequest (t + 4) }

-- what a second makes of a call, and what is said
record Stepped (c : Day) (t : ℕ) (x : PlainUserCall) : Type 0 where
  goes : GoesOnIn t x
  live : OnLive (IsFor c (InT c)) (user_second x t).next
  said : OfSaid (FromFar c) (user_second x t).reply

stepped_by : (c : Day) (t : ℕ) (x y : PlainUserCall) (step : Transition PlainUserCall) → user_second x t ≡ step → step.next ≡ Live y → y.channel ≡ x.channel → IsFor c (InT c) y → OfSaid (FromFar c) step.reply → Stepped c t x
stepped_by c t x y step is next on h said = record {
  goes = (y, ap (λ (z : Transition PlainUserCall). z.next) is ∙ next, on);
  live = subst (OnLive (IsFor c (InT c))) (sym (ap (λ (z : Transition PlainUserCall). z.next) is ∙ next)) h;
  said = subst (λ (z : Transition PlainUserCall). OfSaid (FromFar c) z.reply) (sym is) said;
}

second_of : (c : Day) (m t : ℕ) (x : PlainUserCall) → IsCalledDay c → t ≡ m + 1 → IsFor c (InS c m) x → Stepped c t x
second_of c m t x day is h = elim h.state [
  | inl p ↦ stepped_by c t x (connected x t) (user_connects x (user_says_channel x Connect) t) (second6 x t x.state p.0 h.origin) refl refl
      (record { index = h.index; live = h.live; reference = h.reference; channel = h.channel; origin = h.origin; state = inl (tt, p.1) })
      (record {
        sendable = channel_ok x.reference x.channel (user_flag x.origin) Connect (subst IsCallReference (sym h.reference) (reference_ok c h.index day h.live)) tt (subst IsChannel (sym h.channel) (day.in_service h.index h.live));
        flag = answering_flag x.origin h.origin;
        says = Connects h.index p.1 h.reference refl (ap (λ n. Some (n, true)) h.channel);
      })
  | inr more ↦ elim more [
    | inl ten ↦ stepped_by c t x x (user_same x None) (second10 x t x.state ten h.origin) refl refl
        (record { index = h.index; live = h.live; reference = h.reference; channel = h.channel; origin = h.origin; state = inr (inl ten) }) tt
    | inr p ↦ stepped_by c t x x (user_same x None) (second19 x m t x.state p.0 is) refl refl
        (record { index = h.index; live = h.live; reference = h.reference; channel = h.channel; origin = h.origin; state = inr (inr (still19 m x.state p.0, p.1)) }) tt
  ]
]

-- ---- the tick

begins_none : (t : ℕ) (rows : List ScriptRow) (b : Begun) → AnswersAtOnce rows → begin_rows t rows b ≡ b
begins_none t [] b h = refl
begins_none t (Follows number policy ∷ rows) b h = begins_none t rows b h.1
begins_none t (Calls number moment channel ∷ rows) b h = absurd h.0

maintenance_kept : (t : ℕ) (cs : List PlainUserCall) (ms : List Bool) → AllByRecursion (GoesOnIn t) cs → second_maintenance t cs ms ≡ ms
maintenance_kept t [] ms h = refl
maintenance_kept t (x ∷ xs) ms h = ap (λ n. second_maintenance t xs (settle_maintenance x.channel n ms)) h.0.1 ∙ maintenance_kept t xs ms h.1

pub record FarTicks (c : Day) (t : ℕ) (s : Sent FarDay) : Type 0 where
  pub far : FarIs c t (InT c) (AtT c) s.day
  pub sent : AllByRecursion (FromFar c) s.sent
  pub connects : (i : ℕ) → is_ringing (standing_at c i) ≡ true → list_any (connects_as (suc i)) s.sent ≡ true

pub far_ticks : (c : Day) (m t : ℕ) (said : List Outgoing) (f : FarDay) → IsCalledDay c → m < 300000 → t ≡ m + 1 → FarIs c m (InS c m) (AtS c m [] said) f → FarTicks c t (far_tick f)
far_ticks c m t said f day early next h =
    let u = f.moment + 1 in
    let un : u ≡ m + 1 = omega (arith, h.moment) in
    let start : Begun = record { calls = second_calls u f.calls; said = second_said u f.calls no_messages; blocked = with_held f.calls f.maintenance; next = f.next } in
    let eq : far_tick f ≡ far_after f u start =
    ap (λ b. if b then (record { day = f; sent = [] }) else far_ticked f) (false_from_ne_true (nat_le 300000 f.moment) (λ late. let le : 300000 ≤ f.moment = leb-true 300000 f.moment late in omega (arith, le, h.moment, early)))
    ∙ ap (far_after f u) (begins_none u f.script start h.script) in
    let steps : AllByRecursion (Stepped c u) f.calls = all_calls (IsFor c (InS c m)) (Stepped c u) (λ x p. second_of c m u x day un p) f.calls h.each in
    let goes : AllByRecursion (GoesOnIn u) f.calls = all_calls (Stepped c u) (GoesOnIn u) (λ x p. p.goes) f.calls steps in
    let six : (i : ℕ) → is_ringing (standing_at c i) ≡ true → (x : PlainUserCall) × ((holder f (channel_of c i) ≡ Some x) × In6 x.state) = λ i r. elim ((h.calls i (ring_live (standing_at c i) r)).ringing r) [
      | inl p ↦ absurd (false≢true p.1)
      | inr has ↦ held_option (holder f (channel_of c i)) In6 has
    ] in
    let held : (i : ℕ) (x y : PlainUserCall) → holder f (channel_of c i) ≡ Some x → (user_second x u).next ≡ Live y → held_by (channel_of c i) (second_calls u f.calls) ≡ Some y = λ i x y is n. second_held u (channel_of c i) x y f.calls goes is n in
    let answering : (i : ℕ) (x : PlainUserCall) → is_live (standing_at c i) ≡ true → holder f (channel_of c i) ≡ Some x → IsAnswering x.origin = λ i x live is. (holder_for c m (InS c m) (AtS c m [] said) f i x day h live is).1.1.0 in
    subst (FarTicks c t) (sym eq) (record {
      far = record {
        moment = omega (arith, un, next);
        script = h.script;
        clean = λ k. ap (λ ms. is_marked ms k) (maintenance_kept u f.calls f.maintenance goes) ∙ h.clean k;
        own = second_apart u f.calls h.own;
        each = second_all (IsFor c (InT c)) (Stepped c u) u (λ x p. p.live) f.calls steps;
        calls = λ i live. record {
          ringing = λ r. (let x = six i r in subst (Has In8) (sym (held i x.0 (connected x.0 u) x.1.0 (ap (λ (z : Transition PlainUserCall). z.next) (second6 x.0 u x.0.state x.1.1 (answering i x.0 live x.1.0))))) tt);
          clearing = λ r. elim ((h.calls i live).clearing r) [
            | inl p ↦ absurd (false≢true p.1)
            | inr p ↦ (let x = held_option (holder f (channel_of c i)) (In19 m) p.0 in subst (Has Is19) (sym (held i x.0 x.0 x.1.0 (ap (λ (z : Transition PlainUserCall). z.next) (second19 x.0 m u x.0.state x.1.1 un)))) (still19 m x.0.state x.1.1))
          ];
          settled = λ r. (let x = held_option (holder f (channel_of c i)) In10 ((h.calls i live).settled r) in subst (Has In10) (sym (held i x.0 x.0 x.1.0 (ap (λ (z : Transition PlainUserCall). z.next) (second10 x.0 u x.0.state x.1.1 (answering i x.0 live x.1.0))))) x.1.1);
        };
      };
      sent = ordered (FromFar c) (second_said u f.calls no_messages) (second_said_all (FromFar c) u f.calls no_messages (all_calls (Stepped c u) (λ x. OfSaid (FromFar c) (user_second x u).reply) (λ x p. p.said) f.calls steps) (none_said (FromFar c) 32));
      connects = λ i r.
          (let live = ring_live (standing_at c i) r in
          let x = six i r in
          let w = holder_for c m (InS c m) (AtS c m [] said) f i x.0 day h live x.1.0 in
          let o : Outgoing = user_says_channel x.0 Connect in
          let lt : channel_of c i < 32 = (let p = day.in_service i live in omega (arith, p.1)) in
          order_has (connects_as (suc i)) (second_said u f.calls no_messages) (channel_of c i) o
          (slot_said u (channel_of c i) x.0 f.calls no_messages h.own x.1.0 lt ∙ ap (λ (z : Transition PlainUserCall). z.reply) (second6 x.0 u x.0.state x.1.1 w.1.1.0))
          (and_from (from_other (suc i) o) true (is_from_other (suc i) o w.0 (answering_flag x.0.origin w.1.1.0)) refl));
    })

-- ---- what the exchange says to it

pub data Replies (c : Day) (o : Outgoing) : Type 0 where
  Completes : (i : ℕ) → is_clearing (standing_at c i) ≡ true → o.reference ≡ suc i → o.kind ≡ ReleaseComplete → Replies c o
  Acks : (i : ℕ) → is_ringing (standing_at c i) ≡ true → o.reference ≡ suc i → o.kind ≡ ConnectAcknowledge → Replies c o
  Tells : (i : ℕ) → is_ringing (standing_at c i) ≡ true → o.reference ≡ suc i → o.kind ≡ Status → reports_null o.state ≡ false → Replies c o

pub record FromExchange (c : Day) (o : Outgoing) : Type 0 where
  pub sendable : Sendable o
  pub flag : o.flag ≡ false
  pub says : Replies c o

abbrev pub is_complete : Kind → Bool
is_complete ReleaseComplete = true
is_complete _ = false

abbrev pub is_ack : Kind → Bool
is_ack ConnectAcknowledge = true
is_ack _ = false

abbrev pub completes_as : ℕ → Outgoing → Bool
completes_as r o = from_beginner r o && is_complete o.kind

abbrev pub acks_as : ℕ → Outgoing → Bool
acks_as r o = from_beginner r o && is_ack o.kind

pub record AtQ (c : Day) (rest : List Outgoing) (j : ℕ) (v : Option PlainUserCall) : Type 0 where
  pub ringing : is_ringing (standing_at c j) ≡ true → (Has In8 v × (list_any (acks_as (suc j)) rest ≡ true)) ⊎ Has In10 v
  pub clearing : is_clearing (standing_at c j) ≡ true → (Has Is19 v × (list_any (completes_as (suc j)) rest ≡ true)) ⊎ (v ≡ None)
  pub settled : is_up (standing_at c j) ≡ true → Has In10 v

-- what it says to that: reports of calls that were connected
pub record IsReport (c : Day) (o : Outgoing) : Type 0 where
  pub sendable : Sendable o
  pub flag : o.flag ≡ true
  pub index : ℕ
  pub ringing : is_ringing (standing_at c index) ≡ true
  pub reference : o.reference ≡ suc index
  pub kind : o.kind ≡ Status
  pub state : reports_null o.state ≡ false

abbrev HeardQ : Day → ℕ → List Outgoing → Answered FarDay → Type 0
HeardQ c t rest a = FarIs c t (InT c) (AtQ c rest) a.day × AllByRecursion (IsReport c) (reply_list a.reply)

rest_stays : (c : Day) (i j : ℕ) (o : Outgoing) (rest : List Outgoing) (v : Option PlainUserCall) → o.reference ≡ suc i → j ≢ i → AtQ c (o ∷ rest) j v → AtQ c rest j v
rest_stays c i j o rest v ref ne h = record {
  ringing = λ r. elim (h.ringing r) [ inl p ↦ inl (p.0, skip (acks_as (suc j)) o rest (and_off (from_beginner (suc j) o) (is_ack o.kind) (other_from i j o ref ne)) p.1) | inr q ↦ inr q ];
  clearing = λ r. elim (h.clearing r) [ inl p ↦ inl (p.0, skip (completes_as (suc j)) o rest (and_off (from_beginner (suc j) o) (is_complete o.kind) (other_from i j o ref ne)) p.1) | inr q ↦ inr q ];
  settled = h.settled;
}

ack8 : (x : PlainUserCall) (m : Heard) (t : ℕ) (s : UserState) → In8 s → user_row x m t s ConnectAcknowledge ≡ user_to x None (Active t)
ack8 x m t (ConnectRequest due) h = refl
ack8 x m t s h = absurd h

ack10 : (x : PlainUserCall) (m : Heard) (t : ℕ) (s : UserState) → In10 s → user_row x m t s ConnectAcknowledge ≡ user_same x (Some (user_status x 101))
ack10 x m t (Active since) h = refl
ack10 x m t s h = absurd h

not_null : (s : UserState) → In10 s → reports_null (Some (state_value (user_state s) % 64)) ≡ false
not_null (Active since) h = refl
not_null s h = absurd h

status_row : (x : PlainUserCall) (m : Heard) (t : ℕ) (s : UserState) → reports_null m.state ≡ false → user_row x m t s Status ≡ user_same x None
status_row x m t s is = ap (λ b. if b then ends None else user_same x None) is

heard_as : (c : Day) (t i : ℕ) (o : Outgoing) (rest : List Outgoing) (f : FarDay) → IsCalledDay c → o.reference ≡ suc i → o.flag ≡ false → Sendable o → FarIs c t (InT c) (AtQ c (o ∷ rest)) f → is_live (standing_at c i) ≡ true → far_receive_octets f (out_octets o) ≡ far_received_by f (said_from o) o.called (holder f (channel_of c i))
heard_as c t i o rest f day ref bare ok h live = far_receive_sent f o ok ∙ ap (far_received_by f (said_from o) o.called) (named_holder c t (InT c) (AtQ c (o ∷ rest)) f i (said_from o) day h live ref bare)

-- a step of the call that holds the channel
q_follow : (c : Day) (t i : ℕ) (o : Outgoing) (rest : List Outgoing) (f : FarDay) (x : PlainUserCall) (step : Transition PlainUserCall) → IsCalledDay c → o.reference ≡ suc i → FarIs c t (InT c) (AtQ c (o ∷ rest)) f → is_live (standing_at c i) ≡ true → holder f (channel_of c i) ≡ Some x
    → user_row x (said_from o).heard f.moment x.state o.kind ≡ step → After c i (InT c) step.next → AtQ c rest i (option_of step.next) → AllByRecursion (IsReport c) (reply_list step.reply) → HeardQ c t rest (far_received_by f (said_from o) o.called (holder f (channel_of c i)))
q_follow c t i o rest f x step day ref h live is row after mine said =
    subst (λ v. HeardQ c t rest (far_received_by f (said_from o) o.called v)) (sym is)
    (subst (λ s. HeardQ c t rest (far_follow f x.channel s)) (sym row)
    (step_is c t (InT c) (InT c) (AtQ c (o ∷ rest)) (AtQ c rest) f i x step.next day h live is (holder_for c t (InT c) (AtQ c (o ∷ rest)) f i x day h live is).1.0 (λ j s e. e) after mine (λ j v ne q. rest_stays c i j o rest v ref ne q), said))

q_completes : (c : Day) (t i : ℕ) (o : Outgoing) (rest : List Outgoing) (f : FarDay) → IsCalledDay c → is_clearing (standing_at c i) ≡ true → o.reference ≡ suc i → o.flag ≡ false → o.kind ≡ ReleaseComplete → Sendable o → FarIs c t (InT c) (AtQ c (o ∷ rest)) f → HeardQ c t rest (far_receive_octets f (out_octets o))
q_completes c t i o rest f day r ref bare kind ok h =
    let live = clear_live (standing_at c i) r in
    let gone : AtQ c rest i None = record { ringing = λ q. absurd (ring_not_clear (standing_at c i) q r); clearing = λ _. inr refl; settled = λ q. absurd (clear_not_up (standing_at c i) r q) } in
    subst (HeardQ c t rest) (sym (heard_as c t i o rest f day ref bare ok h live)) (elim ((h.calls i live).clearing r) [
      | inl p ↦ (let x = held_option (holder f (channel_of c i)) Is19 p.0 in
          q_follow c t i o rest f x.0 (ends None) day ref h live x.1.0 (ap (user_row x.0 (said_from o).heard f.moment x.0.state) kind) tt gone tt)
      | inr none ↦ subst (λ v. HeardQ c t rest (far_received_by f (said_from o) o.called v)) (sym none)
          (subst (λ k. HeardQ c t rest (far_stray f (said_from o) o.called k)) (sym kind) (
            record {
              moment = h.moment;
              script = h.script;
              clean = h.clean;
              own = h.own;
              each = h.each;
              calls = λ j lj. elim (cases_eq j i) [
                | inl same ↦ subst (λ k. AtQ c rest k (holder f (channel_of c k))) (sym same) (subst (AtQ c rest i) (sym none) gone)
                | inr other ↦ rest_stays c i j o rest (holder f (channel_of c j)) ref other (h.calls j lj)
              ];
            },
            tt,
          ))
    ])

q_acks : (c : Day) (t i : ℕ) (o : Outgoing) (rest : List Outgoing) (f : FarDay) → IsCalledDay c → is_ringing (standing_at c i) ≡ true → o.reference ≡ suc i → o.flag ≡ false → o.kind ≡ ConnectAcknowledge → Sendable o → FarIs c t (InT c) (AtQ c (o ∷ rest)) f → HeardQ c t rest (far_receive_octets f (out_octets o))
q_acks c t i o rest f day r ref bare kind ok h =
    let live = ring_live (standing_at c i) r in
    let talks : (v : Option PlainUserCall) → Has In10 v → AtQ c rest i v = λ v has. record { ringing = λ _. inr has; clearing = λ q. absurd (ring_not_clear (standing_at c i) r q); settled = λ q. has } in
    subst (HeardQ c t rest) (sym (heard_as c t i o rest f day ref bare ok h live)) (elim ((h.calls i live).ringing r) [
      | inl p ↦ (let x = held_option (holder f (channel_of c i)) In8 p.0 in
          let w = holder_for c t (InT c) (AtQ c (o ∷ rest)) f i x.0 day h live x.1.0 in
          q_follow c t i o rest f x.0 (user_to x.0 None (Active f.moment)) day ref h live x.1.0 (ap (user_row x.0 (said_from o).heard f.moment x.0.state) kind ∙ ack8 x.0 (said_from o).heard f.moment x.0.state x.1.1)
          (w.0, (w.1.0, (w.1.1.0, inr (inl tt)))) (talks (Some (record x.0 { state = Active f.moment })) tt) tt)
      | inr has ↦ (let x = held_option (holder f (channel_of c i)) In10 has in
          let w = holder_for c t (InT c) (AtQ c (o ∷ rest)) f i x.0 day h live x.1.0 in
          let row = ack10 x.0 (said_from o).heard f.moment x.0.state x.1.1 in
          q_follow c t i o rest f x.0 (user_same x.0 (Some (user_status x.0 101))) day ref h live x.1.0 (ap (user_row x.0 (said_from o).heard f.moment x.0.state) kind ∙ row)
          w (talks (Some x.0) x.1.1) (
            record {
              sendable = subst (λ (z : Transition PlainUserCall). OfSaid Sendable z.reply) row (user_row_ok x.0.reference x.0.channel x.0.origin f.moment (said_from o).heard x.0.state ConnectAcknowledge (subst IsCallReference (sym w.0) (reference_ok c i day live)));
              flag = answering_flag x.0.origin w.1.1.0;
              index = i;
              ringing = r;
              reference = w.0;
              kind = refl;
              state = not_null x.0.state x.1.1;
            },
            tt,
          ))
    ])

q_tells : (c : Day) (t i : ℕ) (o : Outgoing) (rest : List Outgoing) (f : FarDay) → IsCalledDay c → is_ringing (standing_at c i) ≡ true → o.reference ≡ suc i → o.flag ≡ false → o.kind ≡ Status → reports_null o.state ≡ false → Sendable o → FarIs c t (InT c) (AtQ c (o ∷ rest)) f → HeardQ c t rest (far_receive_octets f (out_octets o))
q_tells c t i o rest f day r ref bare kind state ok h =
    let live = ring_live (standing_at c i) r in
    let row : (x : PlainUserCall) → user_row x (said_from o).heard f.moment x.state o.kind ≡ user_same x None = λ x. ap (user_row x (said_from o).heard f.moment x.state) kind ∙ status_row x (said_from o).heard f.moment x.state state in
    subst (HeardQ c t rest) (sym (heard_as c t i o rest f day ref bare ok h live)) (elim ((h.calls i live).ringing r) [
      | inl p ↦ (let x = held_option (holder f (channel_of c i)) In8 p.0 in
          q_follow c t i o rest f x.0 (user_same x.0 None) day ref h live x.1.0 (row x.0) (holder_for c t (InT c) (AtQ c (o ∷ rest)) f i x.0 day h live x.1.0)
          (record { ringing = λ _. inl (x.1.1, skip (acks_as (suc i)) o rest (off_and (from_beginner (suc i) o) (is_ack o.kind) (ap is_ack kind)) p.1); clearing = λ q. absurd (ring_not_clear (standing_at c i) r q); settled = λ q. absurd (ring_not_up (standing_at c i) r q) }) tt)
      | inr has ↦ (let x = held_option (holder f (channel_of c i)) In10 has in
          q_follow c t i o rest f x.0 (user_same x.0 None) day ref h live x.1.0 (row x.0) (holder_for c t (InT c) (AtQ c (o ∷ rest)) f i x.0 day h live x.1.0)
          (record { ringing = λ _. inr x.1.1; clearing = λ q. absurd (ring_not_clear (standing_at c i) r q); settled = λ q. x.1.1 }) tt)
    ])

q_step : (c : Day) (t : ℕ) (o : Outgoing) (rest : List Outgoing) (f : FarDay) → IsCalledDay c → FromExchange c o → FarIs c t (InT c) (AtQ c (o ∷ rest)) f → HeardQ c t rest (far_receive_octets f (out_octets o))
q_step c t o rest f day m h = at m.says
  where
    at : Replies c o → HeardQ c t rest (far_receive_octets f (out_octets o))
    at (Completes i r ref kind) = q_completes c t i o rest f day r ref m.flag kind m.sendable h
    at (Acks i r ref kind) = q_acks c t i o rest f day r ref m.flag kind m.sendable h
    at (Tells i r ref kind state) = q_tells c t i o rest f day r ref m.flag kind state m.sendable h

pub q_all : (c : Day) (t : ℕ) (os : List Outgoing) (f : FarDay) → IsCalledDay c → AllByRecursion (FromExchange c) os → FarIs c t (InT c) (AtQ c os) f → FarIs c t (InT c) (AtQ c []) (far_heard os f) × AllByRecursion (IsReport c) (far_says os f)
q_all c t [] f day all h = (h, tt)
q_all c t (o ∷ os) f day all h =
    let a : Answered FarDay = far_receive_octets f (out_octets o) in
    let one = q_step c t o os f day all.0 h in
    let rest = q_all c t os a.day day all.1 one.0 in
    (rest.0, all_joined (IsReport c) (reply_list a.reply) (far_says os a.day) one.1 rest.1)
