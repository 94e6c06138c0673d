-- The far end in a turn: it hears what the exchange says at its tick, and ticks.
use Rattle.std.proofs.Common.{◌≡◌, ◌≢◌, ◌⊎◌, inl, inr, ℕ, suc, ◌+◌, ◌<◌, ◌&&◌, ◌||◌, Bool, true, false, List, [], ◌∷◌, ◌++◌, Option, Some, None, refl, sym, ap, subst, ◌∙◌, arith, is_some, unwrap_or, if◌then◌else◌}
use Rattle.std.specs.List.{AllByRecursion, list_any}
use Rattle.std.proofs.lemmas.Bool.{false≢true, true≢false, and_from, or_left, false_from_ne_true}
use Rattle.bx_channels.specs.Marks.{is_marked}
use Rattle.bx_q931.specs.declared.kind.Kind.{Kind}
use Rattle.bx_q931.specs.declared.kind.Kind.TheVariants.{Connect, Disconnect, Release, Status}
use Rattle.bx_q931.specs.Outgoing.{Outgoing, IsCallReference, out_octets, plain}
use Rattle.bx_calls.specs.Hearing.{Heard, reports_null}
use Rattle.bx_calls.specs.PlainCalls.{PlainUserCall}
use Rattle.bx_calls.specs.Said.{Said}
use Rattle.bx_calls.specs.Saying.{setup_of}
use Rattle.bx_calls.specs.Sending.{Answered, reply_list}
use Rattle.bx_calls.specs.UserTable.{user_flag, user_message, user_row, user_offered, user_releases, user_same}
use Rattle.bx_calls.specs.declared.transition.Next.{Next}
use Rattle.bx_calls.specs.declared.transition.Next.TheVariants.{Live, Over, Broken}
use Rattle.bx_calls.specs.declared.times.Times.TheVariants.{Once}
use Rattle.bx_calls.specs.declared.user_state.Policy.{Policy}
use Rattle.bx_calls.specs.declared.user_state.Policy.TheVariants.{Answer}
use Rattle.bx_calls.specs.declared.user_state.UserOrigin.{UserOrigin}
use Rattle.bx_calls.specs.declared.user_state.UserOrigin.TheVariants.{Offered, Calling}
use Rattle.bx_calls.specs.declared.user_state.UserState.{UserState}
use Rattle.bx_calls.specs.declared.user_state.UserState.TheVariants.{Active, ReleaseRequest}
use Rattle.bx_calls.specs.NetTable.{net_is_clearing}
use Rattle.bx_calls.specs.declared.net_state.NetOrigin.{NetOrigin}
use Rattle.bx_calls.specs.declared.net_state.NetState.{NetState}
use Rattle.bx_calls.specs.declared.net_state.NetState.TheVariants as net
use Rattle.bx_two_ends.specs.Answering.{is_ringing_in, is_ringing, is_clearing}
use Rattle.bx_two_ends.specs.Earning.{is_settled_in}
use Rattle.bx_day.specs.declared.entry.Standing.{Standing}
use Rattle.bx_day.specs.declared.entry.Standing.TheVariants.{OnCall}
use Rattle.std.proofs.lemmas.List.{append-nil, append_assoc}
use Rattle.bx_day.specs.Day.{Day, is_live}
use Rattle.bx_day.specs.Law.{standing_at}
use Rattle.bx_two_ends.proofs.Answering.{is_up}
use Rattle.bx_day.proofs.Tick.{by_cases}
use Rattle.bx_far.specs.FarDay.{FarDay, is_taken, holder, settle_calls, settle_maintenance, far_received_by, far_follow, far_takes, far_refuses}
use Rattle.bx_far.specs.FarRun.{far_receive_octets}
use Rattle.bx_far.specs.Policies.{policy_of, fits_number}
use Rattle.bx_far.specs.declared.row.ScriptRow.{ScriptRow}
use Rattle.bx_far.specs.declared.row.ScriptRow.TheVariants.{Follows, Calls}
use Rattle.bx_two_ends.specs.Lockstep.{AnswersAtOnce, far_heard, far_says}
use Rattle.bx_two_ends.proofs.Delivery.{Sendable, said_from, far_receive_sent}
use Rattle.bx_two_ends.proofs.FarTurns.{IsCalledDay, channel_of, In6, In10, In19, Has, IsAnswering, FarIs, named_holder, holder_for, After, option_of, follow_is, takes_is}
use Rattle.bx_two_ends.proofs.History.{from_beginner, from_other, is_setup_kind, sets_up, all_joined, has_more, has_new, beginner_parts, is_from_other}

-- ---- what the exchange says at its tick

pub data ToFar (c : Day) (o : Outgoing) : Type 0 where
  Sets : (i : ℕ) (number : List ℕ) → is_ringing (standing_at c i) ≡ true → o ≡ setup_of (suc i) (channel_of c i) number → ToFar c o
  Ends : (i : ℕ) → is_clearing (standing_at c i) ≡ true → o.reference ≡ suc i → o.flag ≡ false → o.kind ≡ Disconnect → ToFar c o

abbrev pub is_disconnect : Kind → Bool
is_disconnect Disconnect = true
is_disconnect _ = false

abbrev pub ends_as : ℕ → Outgoing → Bool
ends_as r o = from_beginner r o && is_disconnect o.kind

-- ---- what the far end says

pub data SaysBack (c : Day) (o : Outgoing) : Type 0 where
  Releases : (i : ℕ) → is_clearing (standing_at c i) ≡ true → o.reference ≡ suc i → o.kind ≡ Release → SaysBack c o
  Connects : (i : ℕ) → is_ringing (standing_at c i) ≡ true → o.reference ≡ suc i → o.kind ≡ Connect → o.channel ≡ Some (channel_of c i, true) → SaysBack c o
  Reports : (i : ℕ) → is_live (standing_at c i) ≡ true → o.reference ≡ suc i → o.kind ≡ Status → reports_null o.state ≡ false → SaysBack c o

pub record FromFar (c : Day) (o : Outgoing) : Type 0 where
  pub sendable : Sendable o
  pub flag : o.flag ≡ true
  pub says : SaysBack c o

abbrev pub is_connect_of : Kind → Bool
is_connect_of Connect = true
is_connect_of _ = false

abbrev pub is_release_of : Kind → Bool
is_release_of Release = true
is_release_of _ = false

abbrev pub connects_as : ℕ → Outgoing → Bool
connects_as r o = from_other r o && is_connect_of o.kind

abbrev pub releases_as : ℕ → Outgoing → Bool
releases_as r o = from_other r o && is_release_of o.kind

-- ---- states while it hears them

abbrev pub InS : Day → ℕ → ℕ → UserState → Type 0
InS c t j s = (In6 s × (is_ringing (standing_at c j) ≡ true)) ⊎ (In10 s ⊎ (In19 t s × (is_clearing (standing_at c j) ≡ true)))

-- by what is still to come to it, and what it has said
pub record AtS (c : Day) (t : ℕ) (rest said : List Outgoing) (j : ℕ) (v : Option PlainUserCall) : Type 0 where
  pub ringing : is_ringing (standing_at c j) ≡ true → ((v ≡ None) × (list_any (sets_up (suc j)) rest ≡ true)) ⊎ Has In6 v
  pub clearing : is_clearing (standing_at c j) ≡ true → (Has In10 v × (list_any (ends_as (suc j)) rest ≡ true)) ⊎ (Has (In19 t) v × (list_any (releases_as (suc j)) said ≡ true))
  pub settled : is_up (standing_at c j) ≡ true → Has In10 v

-- a message of one booking is none of another's
pub other_from : (i j : ℕ) (o : Outgoing) → o.reference ≡ suc i → j ≢ i → from_beginner (suc j) o ≡ false
other_from i j o ref ne = false_from_ne_true (from_beginner (suc j) o) (λ h. let p : suc i ≡ suc j = sym ref ∙ (beginner_parts (suc j) o h).0 in ne (omega (arith, p)))

pub skip : (p : Outgoing → Bool) (o : Outgoing) (rest : List Outgoing) → p o ≡ false → list_any p (o ∷ rest) ≡ true → list_any p rest ≡ true
skip p o rest off h = sym (ap (λ b. b || list_any p rest) off) ∙ h

pub and_off : (x y : Bool) → x ≡ false → (x && y) ≡ false
and_off x y h = ap (λ b. b && y) h

pub off_and : (x y : Bool) → y ≡ false → (x && y) ≡ false
off_and true y h = h
off_and false y h = refl

other_stays : (c : Day) (t i j : ℕ) (o : Outgoing) (rest said more : List Outgoing) (v : Option PlainUserCall) → o.reference ≡ suc i → j ≢ i → AtS c t (o ∷ rest) said j v → AtS c t rest (said ++ more) j v
other_stays c t i j o rest said more v ref ne h = record {
  ringing = λ r. elim (h.ringing r) [ inl p ↦ inl (p.0, skip (sets_up (suc j)) o rest (and_off (from_beginner (suc j) o) (is_setup_kind o.kind) (other_from i j o ref ne)) p.1) | inr q ↦ inr q ];
  clearing = λ r. elim (h.clearing r) [ inl p ↦ inl (p.0, skip (ends_as (suc j)) o rest (and_off (from_beginner (suc j) o) (is_disconnect o.kind) (other_from i j o ref ne)) p.1) | inr q ↦ inr (q.0, has_more (releases_as (suc j)) said more q.1) ];
  settled = h.settled;
}

-- ---- ringing, clearing and settled are three things

pub ring_not_clear : (s : Standing) → is_ringing s ≡ true → is_clearing s ≡ true → ⊥
ring_not_clear (OnCall call a) r h = at call.state r h
  where
    at : (x : NetState) → is_ringing_in x ≡ true → net_is_clearing x ≡ true → ⊥
    at (net.CallPresent again due) p q = false≢true q
    at (net.IncomingCallProceeding due) p q = false≢true q
    at (net.CallReceived due) p q = false≢true q
    at net.OutgoingCallProceeding p q = false≢true p
    at net.Active p q = false≢true p
    at (net.Enquiring asked due) p q = false≢true p
    at (net.DisconnectIndication cause due) p q = false≢true p
    at (net.ReleaseRequest again cause due) p q = false≢true p
ring_not_clear s r h = false≢true r

up_alone : (s : Standing) → is_up s ≡ true → (is_ringing s ≡ false) × (is_clearing s ≡ false)
up_alone (OnCall call a) u = at call.state call.origin u
  where
    at : (x : NetState) (o : NetOrigin) → is_settled_in x o ≡ true → (is_ringing_in x ≡ false) × (net_is_clearing x ≡ false)
    at net.Active o p = (refl, refl)
    at net.OutgoingCallProceeding o p = (refl, refl)
    at x o p = absurd (false≢true p)
up_alone s u = absurd (false≢true u)

pub ring_not_up : (s : Standing) → is_ringing s ≡ true → is_up s ≡ true → ⊥
ring_not_up s r u = true≢false (sym r ∙ (up_alone s u).0)

pub clear_not_up : (s : Standing) → is_clearing s ≡ true → is_up s ≡ true → ⊥
clear_not_up s r u = true≢false (sym r ∙ (up_alone s u).1)

pub ring_live : (s : Standing) → is_ringing s ≡ true → is_live s ≡ true
ring_live (OnCall call a) r = refl
ring_live s r = absurd (false≢true r)

pub clear_live : (s : Standing) → is_clearing s ≡ true → is_live s ≡ true
clear_live (OnCall call a) r = refl
clear_live s r = absurd (false≢true r)

pub at_once : (script : List ScriptRow) (called : Option (List ℕ)) → AnswersAtOnce script → policy_of script called ≡ Answer 0
at_once [] called h = refl
at_once (Follows number policy ∷ rows) called h = by_cases (fits_number number called) _ _ (λ (p : Option Policy). unwrap_or p (policy_of rows called) ≡ Answer 0) (λ _. h.0) (λ _. at_once rows called h.1)
at_once (Calls number moment channel ∷ rows) called h = absurd h.0

-- ---- one message

-- the call of the booking took a step
pub step_is : (c : Day) (t : ℕ) (E E' : ℕ → UserState → Type 0) (Q Q' : ℕ → Option PlainUserCall → Type 0) (f : FarDay) (i : ℕ) (x : PlainUserCall) (n : Next PlainUserCall) → IsCalledDay c → FarIs c t E Q f → is_live (standing_at c i) ≡ true → holder f (channel_of c i) ≡ Some x → x.channel ≡ channel_of c i
    → ((j : ℕ) (s : UserState) → E j s → E' j s) → After c i E' n → Q' i (option_of n) → ((j : ℕ) (v : Option PlainUserCall) → j ≢ i → Q j v → Q' j v)
    → FarIs c t E' Q' (record f { calls = settle_calls x.channel n f.calls; maintenance = settle_maintenance x.channel n f.maintenance })
step_is c t E E' Q Q' f i x n day h live is on weaker after mine others = go n after mine
  where
    go : (m : Next PlainUserCall) → After c i E' m → Q' i (option_of m) → FarIs c t E' Q' (record f { calls = settle_calls x.channel m f.calls; maintenance = settle_maintenance x.channel m f.maintenance })
    go (Live y) a q = subst (λ ch. FarIs c t E' Q' (record f { calls = settle_calls ch (Live y) f.calls; maintenance = f.maintenance })) (sym on) (follow_is c t E E' Q Q' f i x (Live y) day h live is weaker a q others)
    go Over a q = subst (λ ch. FarIs c t E' Q' (record f { calls = settle_calls ch Over f.calls; maintenance = f.maintenance })) (sym on) (follow_is c t E E' Q Q' f i x Over day h live is weaker a q others)
    go Broken a q = absurd a

same_is : (E : ℕ → UserState → Type 0) (j : ℕ) (s : UserState) → E j s → E j s
same_is E j s h = h

disc_row : (x : PlainUserCall) (m : Heard) (t : ℕ) (s : UserState) → In10 s → user_row x m t s Disconnect ≡ user_releases x Once None t
disc_row x m t (Active since) h = refl
disc_row x m t s h = absurd h

pub disc_again : (x : PlainUserCall) (m : Heard) (t u : ℕ) (s : UserState) → In19 u s → user_row x m t s Disconnect ≡ user_same x None
disc_again x m t u (ReleaseRequest again cause due) h = refl
disc_again x m t u s h = absurd h

pub answering_flag : (o : UserOrigin) → IsAnswering o → user_flag o ≡ true
answering_flag (Offered policy at) h = refl
answering_flag (Calling called) h = absurd h

release_ok : (r : ℕ) (f : Bool) → IsCallReference r → Sendable (plain r f Release)
release_ok r f h = record { out = record { reference = h; kind = tt; cause = tt; state = tt }; channel = tt; called = tt }

pub reference_ok : (c : Day) (i : ℕ) → IsCalledDay c → is_live (standing_at c i) ≡ true → IsCallReference (suc i)
reference_ok c i day live = let few = day.few i live in (omega arith, omega (arith, few))

-- who holds it
pub held_option : (v : Option PlainUserCall) (P : UserState → Type 0) → Has P v → (x : PlainUserCall) × ((v ≡ Some x) × P x.state)
held_option None P h = absurd h
held_option (Some x) P h = (x, (refl, h))

-- what is left of hearing one message
abbrev HeardS : Day → ℕ → List Outgoing → List Outgoing → Answered FarDay → Type 0
HeardS c t rest said a = FarIs c t (InS c t) (AtS c t rest (said ++ reply_list a.reply)) a.day × AllByRecursion (FromFar c) (reply_list a.reply)

-- ---- SETUP

sets_step : (c : Day) (t i : ℕ) (number : List ℕ) (rest said : List Outgoing) (f : FarDay) → IsCalledDay c → is_ringing (standing_at c i) ≡ true → Sendable (setup_of (suc i) (channel_of c i) number) → FarIs c t (InS c t) (AtS c t (setup_of (suc i) (channel_of c i) number ∷ rest) said) f → HeardS c t rest said (far_receive_octets f (out_octets (setup_of (suc i) (channel_of c i) number)))
sets_step c t i number rest said f day r ok h =
    let ch = channel_of c i in
    let o : Outgoing = setup_of (suc i) ch number in
    let m : Said = said_from o in
    let live = ring_live (standing_at c i) r in
    let eq : far_receive_octets f (out_octets o) ≡ far_received_by f m (Some number) (holder f ch) = far_receive_sent f o ok ∙ ap (far_received_by f m (Some number)) (named_holder c t (InS c t) (AtS c t (o ∷ rest) said) f i m day h live refl refl) in
    let taken : holder f ch ≡ None → is_taken f ch ≡ false = λ free. ap (λ v. is_some v || is_marked f.maintenance ch) free ∙ h.clean ch in
    let y : PlainUserCall = user_offered (suc i) ch (Answer 0) f.moment in
    let mine : (v : Option PlainUserCall) → Has In6 v → AtS c t rest (said ++ []) i v = λ v has. record { ringing = λ _. inr has; clearing = λ q. absurd (ring_not_clear (standing_at c i) r q); settled = λ q. absurd (ring_not_up (standing_at c i) r q) } in
    subst (HeardS c t rest said) (sym eq) (elim ((h.calls i live).ringing r) [
      | inl p ↦ subst (λ v. HeardS c t rest said (far_received_by f m (Some number) v)) (sym p.0)
          (subst (λ b. HeardS c t rest said (if b then far_refuses f m 44 else far_takes f m ch (policy_of f.script (Some number)))) (sym (taken p.0))
          (subst (λ pol. HeardS c t rest said (far_takes f m ch pol)) (sym (at_once f.script (Some number) h.script))
          (takes_is c t (InS c t) (InS c t) (AtS c t (o ∷ rest) said) (AtS c t rest (said ++ [])) f i y day h live p.0 (λ j s e. e) (refl, (refl, (refl, inl (tt, r)))) (mine (Some y) tt) (λ j v ne q. other_stays c t i j o rest said [] v refl ne q), tt)))
      | inr has ↦ (let x = held_option (holder f ch) In6 has in
          subst (λ v. HeardS c t rest said (far_received_by f m (Some number) v)) (sym x.1.0) (
            step_is c t (InS c t) (InS c t) (AtS c t (o ∷ rest) said) (AtS c t rest (said ++ [])) f i x.0 (Live x.0) day h live x.1.0 (holder_for c t (InS c t) (AtS c t (o ∷ rest) said) f i x.0 day h live x.1.0).1.0 (λ j s e. e)
                (holder_for c t (InS c t) (AtS c t (o ∷ rest) said) f i x.0 day h live x.1.0) (mine (Some x.0) x.1.1) (λ j v ne q. other_stays c t i j o rest said [] v refl ne q),
            tt,
          ))
    ])

-- ---- DISCONNECT

ends_step : (c : Day) (t i : ℕ) (o : Outgoing) (rest said : List Outgoing) (f : FarDay) → IsCalledDay c → is_clearing (standing_at c i) ≡ true → o.reference ≡ suc i → o.flag ≡ false → o.kind ≡ Disconnect → Sendable o → FarIs c t (InS c t) (AtS c t (o ∷ rest) said) f → HeardS c t rest said (far_receive_octets f (out_octets o))
ends_step c t i o rest said f day r ref bare kind ok h =
    let ch = channel_of c i in
    let m : Said = said_from o in
    let live = clear_live (standing_at c i) r in
    let eq : far_receive_octets f (out_octets o) ≡ far_received_by f m o.called (holder f ch) = far_receive_sent f o ok ∙ ap (far_received_by f m o.called) (named_holder c t (InS c t) (AtS c t (o ∷ rest) said) f i m day h live ref bare) in
    subst (HeardS c t rest said) (sym eq) (elim ((h.calls i live).clearing r) [
      | inl p ↦ (let x = held_option (holder f ch) In10 p.0 in
          let w = holder_for c t (InS c t) (AtS c t (o ∷ rest) said) f i x.0 day h live x.1.0 in
          let step : user_message x.0 m.heard f.moment ≡ user_releases x.0 Once None f.moment = ap (user_row x.0 m.heard f.moment x.0.state) kind ∙ disc_row x.0 m.heard f.moment x.0.state x.1.1 in
          let out : Outgoing = plain x.0.reference (user_flag x.0.origin) Release in
          let late : t + 1 < f.moment + 4 = omega (arith, h.moment) in
          let flag : user_flag x.0.origin ≡ true = answering_flag x.0.origin w.1.1.0 in
          let y : PlainUserCall = record x.0 { state = ReleaseRequest Once None (f.moment + 4) } in
          let there : list_any (releases_as (suc i)) (said ++ out ∷ []) ≡ true = has_new (releases_as (suc i)) said (out ∷ []) (or_left (releases_as (suc i) out) false (and_from (from_other (suc i) out) true (is_from_other (suc i) out w.0 flag) refl)) in
          subst (λ v. HeardS c t rest said (far_received_by f m o.called v)) (sym x.1.0)
          (subst (λ s. HeardS c t rest said (far_follow f x.0.channel s)) (sym step) (
            step_is c t (InS c t) (InS c t) (AtS c t (o ∷ rest) said) (AtS c t rest (said ++ out ∷ [])) f i x.0 (Live y) day h live x.1.0 w.1.0 (λ j s e. e)
                (w.0, (w.1.0, (w.1.1.0, inr (inr (late, r)))))
                (record { ringing = λ q. absurd (ring_not_clear (standing_at c i) q r); clearing = λ _. inr (late, there); settled = λ q. absurd (clear_not_up (standing_at c i) r q) })
                (λ j v ne q. other_stays c t i j o rest said (out ∷ []) v ref ne q),
            (record { sendable = release_ok x.0.reference (user_flag x.0.origin) (subst IsCallReference (sym w.0) (reference_ok c i day live)); flag = flag; says = Releases i r w.0 refl }, tt),
          )))
      | inr p ↦ (let x = held_option (holder f ch) (In19 t) p.0 in
          let w = holder_for c t (InS c t) (AtS c t (o ∷ rest) said) f i x.0 day h live x.1.0 in
          let step : user_message x.0 m.heard f.moment ≡ user_same x.0 None = ap (user_row x.0 m.heard f.moment x.0.state) kind ∙ disc_again x.0 m.heard f.moment t x.0.state x.1.1 in
          subst (λ v. HeardS c t rest said (far_received_by f m o.called v)) (sym x.1.0)
          (subst (λ s. HeardS c t rest said (far_follow f x.0.channel s)) (sym step) (
            step_is c t (InS c t) (InS c t) (AtS c t (o ∷ rest) said) (AtS c t rest (said ++ [])) f i x.0 (Live x.0) day h live x.1.0 w.1.0 (λ j s e. e) w
                (record { ringing = λ q. absurd (ring_not_clear (standing_at c i) q r); clearing = λ _. inr (x.1.1, has_more (releases_as (suc i)) said [] p.1); settled = λ q. absurd (clear_not_up (standing_at c i) r q) })
                (λ j v ne q. other_stays c t i j o rest said [] v ref ne q),
            tt,
          )))
    ])

s_step : (c : Day) (t : ℕ) (o : Outgoing) (rest said : List Outgoing) (f : FarDay) → IsCalledDay c → ToFar c o → Sendable o → FarIs c t (InS c t) (AtS c t (o ∷ rest) said) f → HeardS c t rest said (far_receive_octets f (out_octets o))
s_step c t o rest said f day (Sets i number r is) ok h = subst (λ x. HeardS c t rest said (far_receive_octets f (out_octets x))) (sym is) (sets_step c t i number rest said f day r (subst Sendable is ok) (subst (λ x. FarIs c t (InS c t) (AtS c t (x ∷ rest) said) f) is h))
s_step c t o rest said f day (Ends i r ref bare kind) ok h = ends_step c t i o rest said f day r ref bare kind ok h

-- ---- all that the exchange says at its tick

pub s_all : (c : Day) (t : ℕ) (os said : List Outgoing) (f : FarDay) → IsCalledDay c → AllByRecursion (λ (o : Outgoing). ToFar c o × Sendable o) os → FarIs c t (InS c t) (AtS c t os said) f → FarIs c t (InS c t) (AtS c t [] (said ++ far_says os f)) (far_heard os f) × AllByRecursion (FromFar c) (far_says os f)
s_all c t [] said f day all h = (subst (λ xs. FarIs c t (InS c t) (AtS c t [] xs) f) (sym (append-nil said)) h, tt)
s_all c t (o ∷ os) said f day all h =
    let a : Answered FarDay = far_receive_octets f (out_octets o) in
    let one = s_step c t o os said f day all.0.0 all.0.1 h in
    let rest = s_all c t os (said ++ reply_list a.reply) a.day day all.1 one.0 in (
      subst (λ xs. FarIs c t (InS c t) (AtS c t [] xs) (far_heard os a.day)) (append_assoc said (reply_list a.reply) (far_says os a.day)) rest.0,
      all_joined (FromFar c) (reply_list a.reply) (far_says os a.day) one.1 rest.1,
    )
