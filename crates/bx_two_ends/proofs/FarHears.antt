-- A message that comes to the far end keeps what is true of calls that the exchange began.
use Rattle.std.proofs.Common.{◌≡◌, ◌⊎◌, inl, inr, ℕ, zero, suc, ◌-◌, ◌<◌, ◌==◌, ◌&&◌, not, Bool, true, false, List, [], ◌∷◌, ◌++◌, length, Option, Some, None, refl, sym, ap, subst, ◌∙◌, arith, if◌then◌else◌, is_some, slice_set, length-set}
use Rattle.std.specs.List.{AllByRecursion, list_any}
use Rattle.std.proofs.lemmas.Bool.{false≢true, and_parts, and_from, eq-eqb, eqb-true, not-true, or_parts, or_left, or_right}
use Rattle.bx_channels.specs.ChannelNumbers.{IsChannel}
use Rattle.bx_base.specs.Plans.{channel_at}
use Rattle.bx_q931.specs.declared.kind.Kind.{Kind}
use Rattle.bx_q931.specs.declared.kind.Kind.TheVariants.{Setup}
use Rattle.bx_q931.specs.Outgoing.{Outgoing}
use Rattle.bx_q931.specs.Parts.{channel_part}
use Rattle.bx_calls.specs.PlainCalls.{PlainUserCall}
use Rattle.bx_calls.specs.UserTable.{user_flag, user_message, user_offered}
use Rattle.bx_calls.specs.UnknownTable.{unknown_row}
use Rattle.bx_calls.specs.declared.unknown_reference.Side.TheVariants.{User}
use Rattle.bx_calls.specs.declared.transition.Transition.{Transition}
use Rattle.bx_calls.specs.declared.transition.Next.{Next}
use Rattle.bx_calls.specs.declared.transition.Next.TheVariants.{Live, Over, Broken}
use Rattle.bx_calls.specs.declared.user_state.Policy.{Policy}
use Rattle.bx_calls.specs.declared.user_state.Policy.TheVariants.{Answer, Busy, Silent, Alert, Proceed, Clear}
use Rattle.bx_calls.specs.declared.user_state.UserOrigin.{UserOrigin}
use Rattle.bx_calls.specs.declared.user_state.UserState.{UserState}
use Rattle.bx_calls.specs.Shared.{bool_eq}
use Rattle.bx_channels.specs.Marks.{is_marked}
use Rattle.bx_day.specs.Day.{Day}
use Rattle.bx_calls.specs.Sending.{reply_list, Answered, unchanged}
use Rattle.bx_day.proofs.Said.{OfSaid}
use Rattle.bx_far.specs.FarDay.{FarDay, far_names, far_follow, far_refuses, far_takes, far_called_on, far_called, far_stray, far_received_by, far_receive, first_call, is_taken, holder, insert_call, settle_maintenance}
use Rattle.bx_far.specs.Policies.{policy_of}
use Rattle.bx_two_ends.specs.TwoEnds.{offered_as, acknowledges_call, is_acknowledge, AreOnTheirOwn}
use Rattle.bx_two_ends.proofs.Delivery.{said_from}
use Rattle.bx_two_ends.proofs.NetworkRows.{shows_connected, clears_as}
use Rattle.bx_two_ends.proofs.UserRows.{Moves, UserSpeaks, row_moves, row_speaks, is_talking, is_calling}
use Rattle.bx_two_ends.proofs.History.{from_beginner, sets_up, clears, IsIn, all_joined, all_map, is_from_beginner, listed, implied_false, said_map, or_three, or_first}
use Rattle.bx_two_ends.proofs.Outward.{OutwardSent, Kept, Holds, Maintained, Cleared, OutwardReply, OutwardReplies, OfferedCall, OfferedCalls}
use Rattle.bx_two_ends.proofs.ExchangeHears.{Unknown, unknown_says}
use Rattle.bx_two_ends.proofs.FarCalls.{insert_all, insert_apart, insert_any, none_on, first_found, only_one, OnLive, settle_all, settle_apart, settle_any, next_passes}
use Rattle.bx_day.proofs.Tick.{by_cases}

pub record FarKeeps (assigned : List (Option ℕ)) (sent far_sent : List Outgoing) (f : FarDay) (x : Answered FarDay) : Type 0 where
  pub replies : OutwardReplies assigned sent x.day (far_sent ++ reply_list x.reply)
  pub calls : OfferedCalls assigned sent x.day.calls
  pub apart : AreOnTheirOwn x.day.calls
  pub size : length x.day.maintenance ≡ 32
  pub places : AllByRecursion (λ (c : PlainUserCall). IsChannel c.channel) x.day.calls
  pub script : x.day.script ≡ f.script

pub record FarBefore (assigned : List (Option ℕ)) (sent far_sent : List Outgoing) (f : FarDay) : Type 0 where
  pub replies : OutwardReplies assigned sent f far_sent
  pub calls : OfferedCalls assigned sent f.calls
  pub apart : AreOnTheirOwn f.calls
  pub size : length f.maintenance ≡ 32
  pub places : AllByRecursion (λ (c : PlainUserCall). IsChannel c.channel) f.calls

pub saids_grow : (assigned : List (Option ℕ)) (sent far_sent more : List Outgoing) (f f' : FarDay) → ((r : ℕ) → Kept assigned sent f r → Kept assigned sent f' r) → OutwardReplies assigned sent f far_sent → OutwardReplies assigned sent f' more → OutwardReplies assigned sent f' (far_sent ++ more)
saids_grow assigned sent far_sent more f f' kept h k = all_joined (λ o. o.flag ≡ true → OutwardReply assigned sent f' o) far_sent more
    (all_map (λ o. o.flag ≡ true → OutwardReply assigned sent f o) (λ o. o.flag ≡ true → OutwardReply assigned sent f' o) (λ o p q. record { known = (p q).known; kept = λ c. kept o.reference ((p q).kept c) }) far_sent h) k

-- ---- an answer that changes nothing

unchanged_keeps : (assigned : List (Option ℕ)) (sent far_sent : List Outgoing) (f : FarDay) (reply : Option Outgoing) → FarBefore assigned sent far_sent f
    → OfSaid (λ o. o.flag ≡ true → (list_any (sets_up o.reference) sent ≡ true) × (shows_connected o.kind o.state ≡ false)) reply → FarKeeps assigned sent far_sent f (unchanged f reply)
unchanged_keeps assigned sent far_sent f reply b h = record {
  replies = saids_grow assigned sent far_sent (reply_list reply) f f (λ r k. k) b.replies
      (listed (λ o. o.flag ≡ true → OutwardReply assigned sent f o) reply (said_map (λ o. o.flag ≡ true → (list_any (sets_up o.reference) sent ≡ true) × (shows_connected o.kind o.state ≡ false)) (λ o. o.flag ≡ true → OutwardReply assigned sent f o) (λ o p q. record { known = (p q).0; kept = λ c. absurd (false≢true (sym (p q).1 ∙ c)) }) reply h));
  calls = b.calls;
  apart = b.apart;
  size = b.size;
  places = b.places;
  script = refl;
}

-- ---- a call that is taken

taken_keeps : (assigned : List (Option ℕ)) (sent far_sent : List Outgoing) (f : FarDay) (r : ℕ) (policy : Policy) → FarBefore assigned sent far_sent f → list_any (sets_up r) sent ≡ true → IsChannel (channel_at assigned (r - 1)) → is_taken f (channel_at assigned (r - 1)) ≡ false
    → FarKeeps assigned sent far_sent f (record { day = record f { calls = insert_call (user_offered r (channel_at assigned (r - 1)) policy f.moment) f.calls }; reply = None })
taken_keeps assigned sent far_sent f r policy b known on free =
    let new = user_offered r (channel_at assigned (r - 1)) policy f.moment in
    let f' : FarDay = record f { calls = insert_call new f.calls } in
    record {
      replies = saids_grow assigned sent far_sent [] f f' kept b.replies tt;
      calls = insert_all (λ c. user_flag c.origin ≡ true → OfferedCall assigned sent c) new f.calls (λ _. record { known = known; channel = refl; in_service = on; offered = refl; active = λ q. absurd (false≢true q) }) b.calls;
      apart = insert_apart new f.calls (none_on (channel_at assigned (r - 1)) f.calls (or_parts (is_some (holder f (channel_at assigned (r - 1)))) (is_marked f.maintenance (channel_at assigned (r - 1))) free).0) b.apart;
      size = b.size;
      places = insert_all (λ c. IsChannel c.channel) new f.calls on b.places;
      script = refl;
    }
  where
    kept : (n : ℕ) → Kept assigned sent f n → Kept assigned sent (record f { calls = insert_call (user_offered r (channel_at assigned (r - 1)) policy f.moment) f.calls }) n
    kept n (Holds h) = Holds (insert_any (offered_as n (channel_at assigned (n - 1))) (user_offered r (channel_at assigned (r - 1)) policy f.moment) f.calls h)
    kept n (Maintained h) = Maintained h
    kept n (Cleared h) = Cleared h

-- ---- a live call hears a message

pub set_stays : (ms : List Bool) (c k : ℕ) → is_marked ms k ≡ true → is_marked (slice_set ms c true) k ≡ true
set_stays (m ∷ ms) zero zero h = refl
set_stays (m ∷ ms) (suc c) (suc k) h = set_stays ms c k h
set_stays ms c k h = h

pub set_now : (ms : List Bool) (c : ℕ) → c < length ms → is_marked (slice_set ms c true) c ≡ true
set_now [] c lt = absurd (omega (arith, lt))
set_now (m ∷ ms) zero lt = refl
set_now (m ∷ ms) (suc c) lt = set_now ms c (omega (arith, lt))

pub settle_stays : (c : ℕ) (next : Next PlainUserCall) (ms : List Bool) (k : ℕ) → is_marked ms k ≡ true → is_marked (settle_maintenance c next ms) k ≡ true
settle_stays c (Live x) ms k h = h
settle_stays c Over ms k h = h
settle_stays c Broken ms k h = set_stays ms c k h

pub settle_size : (c : ℕ) (next : Next PlainUserCall) (ms : List Bool) → length (settle_maintenance c next ms) ≡ length ms
settle_size c (Live x) ms = refl
settle_size c Over ms = refl
settle_size c Broken ms = length-set ms c true

-- what is known of a step of a call of the far end; ack and cleared say what came
pub record CallStep (sent : List Outgoing) (call : PlainUserCall) (ack cleared : Bool) (step : Transition PlainUserCall) : Type 0 where
  pub moves : Moves call.reference call.channel call.origin call.state ack cleared step.next
  pub acked : user_flag call.origin ≡ true → ack ≡ true → list_any (acknowledges_call call.reference) sent ≡ true
  pub over : user_flag call.origin ≡ true → cleared ≡ true → list_any (clears call.reference) sent ≡ true

pub after_call : (assigned : List (Option ℕ)) (sent : List Outgoing) (call : PlainUserCall) (ack cleared : Bool) (step : Transition PlainUserCall) → CallStep sent call ack cleared step → (user_flag call.origin ≡ true → OfferedCall assigned sent call) → (n : Next PlainUserCall) → Moves call.reference call.channel call.origin call.state ack cleared n → OnLive (λ c. user_flag c.origin ≡ true → OfferedCall assigned sent c) n
after_call assigned sent call ack cleared step s old (Live c) g = λ f.
    let f' : user_flag call.origin ≡ true = ap user_flag (sym g.origin) ∙ f in
    let h = old f' in
    record {
      known = subst (λ n. list_any (sets_up n) sent ≡ true) (sym g.reference) h.known;
      channel = g.channel ∙ h.channel ∙ ap (λ x. channel_at assigned (x - 1)) (sym g.reference);
      in_service = subst IsChannel (sym g.channel) h.in_service;
      offered = implied_false (is_calling c.state) (is_calling call.state) g.calling h.offered;
      active = λ q. subst (λ n. list_any (acknowledges_call n) sent ≡ true) (sym g.reference) (elim (or_three (is_talking call.state) ack (is_calling call.state) (g.active q) h.offered) [
        | inl k ↦ h.active k
        | inr k ↦ s.acked f' k
      ]);
    }
after_call assigned sent call ack cleared step s old Over g = tt
after_call assigned sent call ack cleared step s old Broken g = tt

pub on_channel : (r ch : ℕ) (o : UserOrigin) (st : UserState) (ack cleared : Bool) (n : Next PlainUserCall) → Moves r ch o st ack cleared n → OnLive (λ c. c.channel ≡ ch) n
on_channel r ch o st ack cleared (Live c) g = g.channel
on_channel r ch o st ack cleared Over g = tt
on_channel r ch o st ack cleared Broken g = tt

pub placed : (r ch : ℕ) (o : UserOrigin) (st : UserState) (ack cleared : Bool) → IsChannel ch → (n : Next PlainUserCall) → Moves r ch o st ack cleared n → OnLive (λ c. IsChannel c.channel) n
placed r ch o st ack cleared on (Live c) g = subst IsChannel (sym g.channel) on
placed r ch o st ack cleared on Over g = tt
placed r ch o st ack cleared on Broken g = tt

-- what is held stays, or goes into maintenance, or was cleared
pub still : (assigned : List (Option ℕ)) (sent : List Outgoing) (f' : FarDay) (r : ℕ) (call : PlainUserCall) (ack cleared : Bool) (step : Transition PlainUserCall) → CallStep sent call ack cleared step → (user_flag call.origin ≡ true → OfferedCall assigned sent call)
    → (n : Next PlainUserCall) → Moves call.reference call.channel call.origin call.state ack cleared n → (n ≡ Broken → IsChannel call.channel → is_marked f'.maintenance call.channel ≡ true)
    → offered_as r (channel_at assigned (r - 1)) call ≡ true → (next_passes (offered_as r (channel_at assigned (r - 1))) n ≡ true) ⊎ Kept assigned sent f' r
still assigned sent f' r call ack cleared step s old (Live c) g broken h = inl (
    ap (λ n. ((n == r) && user_flag c.origin) && (c.channel == channel_at assigned (r - 1))) g.reference
    ∙ ap (λ o. ((call.reference == r) && user_flag o) && (c.channel == channel_at assigned (r - 1))) g.origin
    ∙ ap (λ n. ((call.reference == r) && user_flag call.origin) && (n == channel_at assigned (r - 1))) g.channel
    ∙ h)
still assigned sent f' r call ack cleared step s old Over g broken h =
    let p = and_parts ((call.reference == r) && user_flag call.origin) (call.channel == channel_at assigned (r - 1)) h in
    let q = and_parts (call.reference == r) (user_flag call.origin) p.0 in
    inr (Cleared (subst (λ n. list_any (clears n) sent ≡ true) (eqb-true call.reference r q.0) (s.over q.1 (or_first cleared (is_calling call.state) g (old q.1).offered))))
still assigned sent f' r call ack cleared step s old Broken g broken h =
    let p = and_parts ((call.reference == r) && user_flag call.origin) (call.channel == channel_at assigned (r - 1)) h in
    let q = and_parts (call.reference == r) (user_flag call.origin) p.0 in
    inr (Maintained (subst (λ n. is_marked f'.maintenance n ≡ true) (eqb-true call.channel (channel_at assigned (r - 1)) p.1) (broken refl (old q.1).in_service)))

pub first_any : (test p : PlainUserCall → Bool) (cs : List PlainUserCall) (call : PlainUserCall) → first_call test cs ≡ Some call → p call ≡ true → list_any p cs ≡ true
first_any test p [] call q h = absurd (false≢true (ap is_some q))
first_any test p (c ∷ cs) call q h = go (test c) q (λ r. first_any test p cs call r h)
  where
    OfIt : Option PlainUserCall → Type 0
    OfIt None = Unit {0}
    OfIt (Some x) = p x ≡ true → list_any p (c ∷ cs) ≡ true

    go : (b : Bool) → (if b then Some c else first_call test cs) ≡ Some call → (first_call test cs ≡ Some call → list_any p cs ≡ true) → list_any p (c ∷ cs) ≡ true
    go true q' f = subst OfIt q' (λ k. or_left (p c) (list_any p cs) k) h
    go false q' f = or_right (p c) (list_any p cs) (f q')

abbrev pub is_broken : Next PlainUserCall → Bool
is_broken Broken = true
is_broken _ = false

follow_keeps : (assigned : List (Option ℕ)) (sent far_sent : List Outgoing) (f : FarDay) (test : PlainUserCall → Bool) (call : PlainUserCall) (ack cleared : Bool) (step : Transition PlainUserCall) → FarBefore assigned sent far_sent f → first_call test f.calls ≡ Some call
    → CallStep sent call ack cleared step → OfSaid (λ o. (o.reference ≡ call.reference) × (o.flag ≡ user_flag call.origin)) step.reply → FarKeeps assigned sent far_sent f (far_follow f call.channel step)
follow_keeps assigned sent far_sent f test call ack cleared step b first s speaks =
    let f' : FarDay = (far_follow f call.channel step).day in
    let old : user_flag call.origin ≡ true → OfferedCall assigned sent call = (first_found (λ c. user_flag c.origin ≡ true → OfferedCall assigned sent c) test f.calls call first b.calls).1 in
    let kept : (r : ℕ) → Kept assigned sent f r → Kept assigned sent f' r = λ r k. keep old r k in
    record {
      replies = saids_grow assigned sent far_sent (reply_list step.reply) f f' kept b.replies
          (listed (λ o. o.flag ≡ true → OutwardReply assigned sent f' o) step.reply (said_map (λ o. (o.reference ≡ call.reference) × (o.flag ≡ user_flag call.origin)) (λ o. o.flag ≡ true → OutwardReply assigned sent f' o)
          (λ o p q. let h = old (sym p.1 ∙ q) in record {
            known = subst (λ n. list_any (sets_up n) sent ≡ true) (sym p.0) h.known;
            kept = λ _. subst (Kept assigned sent f') (sym p.0) (kept call.reference (Holds (first_any test (offered_as call.reference (channel_at assigned (call.reference - 1))) f.calls call first
                (and_from ((call.reference == call.reference) && user_flag call.origin) (call.channel == channel_at assigned (call.reference - 1)) (and_from (call.reference == call.reference) (user_flag call.origin) (eq-eqb call.reference call.reference refl) (sym p.1 ∙ q)) (eq-eqb call.channel (channel_at assigned (call.reference - 1)) h.channel)))));
          }) step.reply speaks));
      calls = settle_all (λ c. user_flag c.origin ≡ true → OfferedCall assigned sent c) call.channel step.next f.calls (after_call assigned sent call ack cleared step s old step.next s.moves) b.calls;
      apart = settle_apart call.channel step.next f.calls (on_channel call.reference call.channel call.origin call.state ack cleared step.next s.moves) b.apart;
      size = settle_size call.channel step.next f.maintenance ∙ b.size;
      places = settle_all (λ c. IsChannel c.channel) call.channel step.next f.calls (placed call.reference call.channel call.origin call.state ack cleared (first_found (λ c. IsChannel c.channel) test f.calls call first b.places).1 step.next s.moves) b.places;
      script = refl;
    }
  where
    broke : (n : Next PlainUserCall) → n ≡ Broken → IsChannel call.channel → is_marked (settle_maintenance call.channel n f.maintenance) call.channel ≡ true
    broke (Live x) e on = absurd (false≢true (ap is_broken e))
    broke Over e on = absurd (false≢true (ap is_broken e))
    broke Broken e on = set_now f.maintenance call.channel (omega (arith, b.size, on.1))

    keep : (user_flag call.origin ≡ true → OfferedCall assigned sent call) → (r : ℕ) → Kept assigned sent f r → Kept assigned sent (far_follow f call.channel step).day r
    keep old r (Maintained h) = Maintained (settle_stays call.channel step.next f.maintenance (channel_at assigned (r - 1)) h)
    keep old r (Cleared h) = Cleared h
    keep old r (Holds h) = elim (settle_any (Kept assigned sent (far_follow f call.channel step).day r) (offered_as r (channel_at assigned (r - 1))) call step.next f.calls (only_one test f.calls call first b.apart)
        (still assigned sent (far_follow f call.channel step).day r call ack cleared step s old step.next s.moves (broke step.next)) h) [
          | inl k ↦ Holds k
          | inr k ↦ k
        ]

flags_meet : (a f : Bool) → bool_eq a (not f) ≡ true → a ≡ true → f ≡ false
flags_meet true true h q = absurd (false≢true h)
flags_meet true false h q = refl
flags_meet false f h q = absurd (false≢true q)

heard_keeps : (assigned : List (Option ℕ)) (sent far_sent : List Outgoing) (f : FarDay) (o : Outgoing) (call : PlainUserCall) → FarBefore assigned sent far_sent f → first_call (far_names (said_from o)) f.calls ≡ Some call → IsIn sent o
    → FarKeeps assigned sent far_sent f (far_follow f call.channel (user_message call (said_from o).heard f.moment))
heard_keeps assigned sent far_sent f o call b first is_in =
    let named = (first_found (λ c. user_flag c.origin ≡ true → OfferedCall assigned sent c) (far_names (said_from o)) f.calls call first b.calls).0 in
    let p = and_parts (call.reference == o.reference) (bool_eq (user_flag call.origin) (not o.flag)) named in
    let r : o.reference ≡ call.reference = sym (eqb-true call.reference o.reference p.0) in
    follow_keeps assigned sent far_sent f (far_names (said_from o)) call (is_acknowledge o.kind) (clears_as o.kind o.state) (user_message call (said_from o).heard f.moment) b first
    (record {
      moves = row_moves call.reference call.channel call.origin f.moment (said_from o).heard call.state o.kind;
      acked = λ u k. is_in (acknowledges_call call.reference) (and_from (from_beginner call.reference o) (is_acknowledge o.kind) (is_from_beginner call.reference o r (flags_meet (user_flag call.origin) o.flag p.1 u)) k);
      over = λ u k. is_in (clears call.reference) (and_from (from_beginner call.reference o) (clears_as o.kind o.state) (is_from_beginner call.reference o r (flags_meet (user_flag call.origin) o.flag p.1 u)) k);
    })
    (said_map (UserSpeaks call.reference call.origin (user_message call (said_from o).heard f.moment).next) (λ x. (x.reference ≡ call.reference) × (x.flag ≡ user_flag call.origin)) (λ x u. (u.reference, u.flag)) (user_message call (said_from o).heard f.moment).reply (row_speaks call.reference call.channel call.origin f.moment (said_from o).heard call.state o.kind))

-- ---- a message that names no live call

stray_keeps : (assigned : List (Option ℕ)) (sent far_sent : List Outgoing) (d : Day) (f : FarDay) (o : Outgoing) (called : Option (List ℕ)) (k : Kind) → o.kind ≡ k → FarBefore assigned sent far_sent f → (o.flag ≡ false → OutwardSent assigned d sent o) → FarKeeps assigned sent far_sent f (far_stray f (said_from o) called k)
stray_keeps assigned sent far_sent d f o called Setup kind b outward = by_cases o.flag _ _ (FarKeeps assigned sent far_sent f) (λ _. unchanged_keeps assigned sent far_sent f None b tt) (λ flag. asked flag (said_from o).refused)
  where
    refused : o.flag ≡ false → (cause : ℕ) → FarKeeps assigned sent far_sent f (far_refuses f (said_from o) cause)
    refused flag cause = unchanged_keeps assigned sent far_sent f _ b (λ _. ((outward flag).known, refl))

    taken : o.flag ≡ false → is_taken f (channel_at assigned (o.reference - 1)) ≡ false → (p : Policy) → FarKeeps assigned sent far_sent f (far_takes f (said_from o) (channel_at assigned (o.reference - 1)) p)
    taken flag free Silent = unchanged_keeps assigned sent far_sent f None b tt
    taken flag free Busy = refused flag 17
    taken flag free (Answer n) = taken_keeps assigned sent far_sent f o.reference (Answer n) b (outward flag).known ((outward flag).in_service kind) free
    taken flag free Alert = taken_keeps assigned sent far_sent f o.reference Alert b (outward flag).known ((outward flag).in_service kind) free
    taken flag free Proceed = taken_keeps assigned sent far_sent f o.reference Proceed b (outward flag).known ((outward flag).in_service kind) free
    taken flag free (Clear n) = taken_keeps assigned sent far_sent f o.reference (Clear n) b (outward flag).known ((outward flag).in_service kind) free

    asked : o.flag ≡ false → (cause : Option ℕ) → FarKeeps assigned sent far_sent f (far_called f (said_from o) called cause)
    asked flag (Some cause) = refused flag cause
    asked flag None = subst (λ ch. FarKeeps assigned sent far_sent f (far_called_on f (said_from o) called (channel_part ch))) (sym ((outward flag).channel kind))
        (by_cases (is_taken f (channel_at assigned (o.reference - 1))) _ _ (FarKeeps assigned sent far_sent f) (λ _. refused flag 44) (λ free. taken flag free (policy_of f.script called)))
stray_keeps assigned sent far_sent d f o called k kind b outward = unchanged_keeps assigned sent far_sent f _ b
    (said_map (Unknown o.reference (not o.flag)) (λ x. x.flag ≡ true → (list_any (sets_up x.reference) sent ≡ true) × (shows_connected x.kind x.state ≡ false)) (λ x u q. (subst (λ n. list_any (sets_up n) sent ≡ true) (sym u.reference) (outward (not-true o.flag (sym u.flag ∙ q))).known, u.unshown)) (unknown_row User o.reference (not o.flag) (said_from o).heard k) (unknown_says User o.reference (not o.flag) (said_from o).heard k))

received_keeps : (assigned : List (Option ℕ)) (sent far_sent : List Outgoing) (d : Day) (f : FarDay) (o : Outgoing) (called : Option (List ℕ)) (x : Option PlainUserCall) → first_call (far_names (said_from o)) f.calls ≡ x → FarBefore assigned sent far_sent f → (o.flag ≡ false → OutwardSent assigned d sent o) → IsIn sent o → FarKeeps assigned sent far_sent f (far_received_by f (said_from o) called x)
received_keeps assigned sent far_sent d f o called None q b outward is_in = stray_keeps assigned sent far_sent d f o called o.kind refl b outward
received_keeps assigned sent far_sent d f o called (Some call) q b outward is_in = heard_keeps assigned sent far_sent f o call b q is_in

pub far_receive_keeps : (assigned : List (Option ℕ)) (sent far_sent : List Outgoing) (d : Day) (f : FarDay) (o : Outgoing) (called : Option (List ℕ)) → FarBefore assigned sent far_sent f → (o.flag ≡ false → OutwardSent assigned d sent o) → IsIn sent o → FarKeeps assigned sent far_sent f (far_receive f (said_from o) called)
far_receive_keeps assigned sent far_sent d f o called b outward is_in = received_keeps assigned sent far_sent d f o called (first_call (far_names (said_from o)) f.calls) refl b outward is_in
