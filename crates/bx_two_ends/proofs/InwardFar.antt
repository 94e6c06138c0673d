-- A message that comes to the far end keeps what is true of calls that it began.
use Rattle.std.proofs.Common.{◌≡◌, ◌≢◌, inl, inr, ℕ, ◌<◌, ◌==◌, not, Bool, true, false, List, [], ◌∷◌, ◌++◌, Option, Some, None, refl, sym, ap, subst, ◌∙◌, if◌then◌else◌, is_some}
use Rattle.std.specs.List.{AllByRecursion, list_any}
use Rattle.std.proofs.lemmas.Bool.{false≢true, true≢false, and_parts, and_from, eq-eqb, eqb-true, not-true}
use Rattle.bx_q931.specs.declared.kind.Kind.{Kind}
use Rattle.bx_q931.specs.declared.kind.Kind.TheVariants.{Setup}
use Rattle.bx_q931.specs.declared.channel_field.ChannelField.{ChannelField}
use Rattle.bx_q931.specs.declared.channel_field.ChannelField.TheVariants.{Absent, Named, AnyChannel, Unread}
use Rattle.bx_q931.specs.Outgoing.{Outgoing}
use Rattle.bx_calls.specs.PlainCalls.{PlainUserCall}
use Rattle.bx_calls.specs.UserTable.{user_flag, user_message, user_offered}
use Rattle.bx_calls.specs.UnknownTable.{unknown_row, refusal_of}
use Rattle.bx_calls.specs.declared.unknown_reference.Side.TheVariants.{User}
use Rattle.bx_calls.specs.declared.transition.Transition.{Transition}
use Rattle.bx_calls.specs.declared.transition.Next.{Next}
use Rattle.bx_calls.specs.declared.transition.Next.TheVariants.{Live, Over, Broken}
use Rattle.bx_calls.specs.declared.user_state.Policy.{Policy}
use Rattle.bx_calls.specs.declared.user_state.Policy.TheVariants.{Answer, Busy, Silent, Alert, Proceed, Clear}
use Rattle.bx_calls.specs.Sending.{reply_list, Answered, unchanged}
use Rattle.bx_day.proofs.Said.{OfSaid}
use Rattle.bx_day.proofs.Tick.{by_cases}
use Rattle.bx_calls.specs.Shared.{bool_eq}
use Rattle.bx_far.specs.FarDay.{FarDay, far_names, far_follow, far_takes, far_called_on, far_called, far_stray, far_received_by, far_receive, first_call, is_taken, insert_call, settle_calls}
use Rattle.bx_far.specs.Policies.{policy_of}
use Rattle.bx_two_ends.specs.TwoEnds.{AreOnTheirOwn}
use Rattle.bx_two_ends.specs.TwoEndsInward.{connects, is_connect_kind}
use Rattle.bx_two_ends.proofs.Delivery.{said_from}
use Rattle.bx_two_ends.proofs.NetworkRows.{Mild, clears_as}
use Rattle.bx_two_ends.proofs.UserRows.{is_talking}
use Rattle.bx_two_ends.proofs.InwardRows.{is_user_clearing, is_answering, OwnMoves, OwnSpeaks, own_row, own_row_says}
use Rattle.bx_two_ends.proofs.History.{from_beginner, from_other, clears, is_setup_kind, IsIn, has_none, none_all, all_joined, said_map, listed, implied_false, or_three, beginner_parts, is_from_other, not_both}
use Rattle.bx_two_ends.proofs.Inward.{InwardSent, InwardSents, InwardCall, InwardCalls}
use Rattle.bx_two_ends.proofs.ExchangeHears.{Unknown, unknown_says}
use Rattle.bx_two_ends.proofs.FarCalls.{all_calls, insert_all, first_found, OnLive, next_all}
use Rattle.bx_two_ends.proofs.FarTicks.{both_calls}

abbrev pub Own : (ℕ → ℕ) → ℕ → List Outgoing → List Outgoing → PlainUserCall → Type 0
Own named next sent far_sent c = user_flag c.origin ≡ false → InwardCall named next sent far_sent c

-- what an answer of the far end leaves
pub record InwardAfter (named : ℕ → ℕ) (next : ℕ) (sent far_sent : List Outgoing) (x : Answered FarDay) : Type 0 where
  pub sents : InwardSents named next (far_sent ++ reply_list x.reply)
  pub calls : InwardCalls named next sent (far_sent ++ reply_list x.reply) x.day.calls
  pub next_stays : x.day.next ≡ next

-- nothing among these clears a call
abbrev pub Quiet : List Outgoing → PlainUserCall → Type 0
Quiet more c = user_flag c.origin ≡ false → list_any (clears c.reference) more ≡ false

call_grows : (named : ℕ → ℕ) (next : ℕ) (sent far_sent more : List Outgoing) (c : PlainUserCall) → InwardCall named next sent far_sent c → list_any (clears c.reference) more ≡ false → InwardCall named next sent (far_sent ++ more) c
call_grows named next sent far_sent more c h quiet = record {
  given = h.given;
  channel = h.channel;
  began = h.began;
  calm = λ q. has_none (clears c.reference) far_sent more (h.calm q) quiet;
  active = h.active;
}

pub calls_grow : (named : ℕ → ℕ) (next : ℕ) (sent far_sent more : List Outgoing) (cs : List PlainUserCall) → AllByRecursion (Quiet more) cs → InwardCalls named next sent far_sent cs → InwardCalls named next sent (far_sent ++ more) cs
calls_grow named next sent far_sent more cs quiet h = all_calls (λ c. Own named next sent far_sent c × Quiet more c) (Own named next sent (far_sent ++ more)) (λ c p u. call_grows named next sent far_sent more c (p.0 u) (p.1 u)) cs (both_calls (Own named next sent far_sent) (Quiet more) cs h quiet)

pub all_true : (P : PlainUserCall → Type 0) → ((c : PlainUserCall) → P c) → (cs : List PlainUserCall) → AllByRecursion P cs
all_true P f [] = tt
all_true P f (c ∷ cs) = (f c, all_true P f cs)

-- a message to the other end clears nothing
pub to_other : (r : ℕ) (o : Outgoing) → o.flag ≡ true → clears r o ≡ false
to_other r o f = not_both (from_beginner r o) (clears_as o.kind o.state) (λ n c. true≢false (sym f ∙ (beginner_parts r o n).1))

none_clears : (r : ℕ) (reply : Option Outgoing) → OfSaid (λ o. clears r o ≡ false) reply → list_any (clears r) (reply_list reply) ≡ false
none_clears r reply h = none_all (clears r) (reply_list reply) (listed (λ o. clears r o ≡ false) reply h)

-- ---- an answer that changes nothing

abbrev Plain : ℕ → Outgoing → Type 0
Plain next o = o.flag ≡ false → (o.reference < next) × (is_setup_kind o.kind ≡ false)

plain_sent : (named : ℕ → ℕ) (next : ℕ) (o : Outgoing) → Plain next o → o.flag ≡ false → InwardSent named next o
plain_sent named next o h f = record { given = (h f).0; channel = λ k. absurd (false≢true (sym (h f).1 ∙ ap is_setup_kind k)) }

unchanged_inward : (named : ℕ → ℕ) (sent far_sent : List Outgoing) (f : FarDay) (reply : Option Outgoing) → InwardSents named f.next far_sent → InwardCalls named f.next sent far_sent f.calls → OfSaid (Plain f.next) reply → AllByRecursion (Quiet (reply_list reply)) f.calls → InwardAfter named f.next sent far_sent (unchanged f reply)
unchanged_inward named sent far_sent f reply sents calls plain quiet = record {
  sents = all_joined (λ o. o.flag ≡ false → InwardSent named f.next o) far_sent (reply_list reply) sents (listed (λ o. o.flag ≡ false → InwardSent named f.next o) reply (said_map (Plain f.next) (λ o. o.flag ≡ false → InwardSent named f.next o) (plain_sent named f.next) reply plain));
  calls = calls_grow named f.next sent far_sent (reply_list reply) f.calls quiet calls;
  next_stays = refl;
}

pub silent_inward : (named : ℕ → ℕ) (sent far_sent : List Outgoing) (f : FarDay) → InwardSents named f.next far_sent → InwardCalls named f.next sent far_sent f.calls → InwardAfter named f.next sent far_sent (unchanged f None)
silent_inward named sent far_sent f sents calls = unchanged_inward named sent far_sent f None sents calls tt (all_true (Quiet []) (λ c u. refl) f.calls)

refused_inward : (named : ℕ → ℕ) (sent far_sent : List Outgoing) (f : FarDay) (r cause : ℕ) → InwardSents named f.next far_sent → InwardCalls named f.next sent far_sent f.calls → InwardAfter named f.next sent far_sent (unchanged f (Some (refusal_of User r true cause)))
refused_inward named sent far_sent f r cause sents calls = unchanged_inward named sent far_sent f (Some (refusal_of User r true cause)) sents calls (λ q. absurd (true≢false q))
    (all_true (Quiet (refusal_of User r true cause ∷ [])) (λ c u. none_clears c.reference (Some (refusal_of User r true cause)) (to_other c.reference (refusal_of User r true cause) refl)) f.calls)

-- ---- a call of the exchange's is taken

offered_inward : (named : ℕ → ℕ) (sent far_sent : List Outgoing) (f : FarDay) (r c : ℕ) (policy : Policy) → InwardSents named f.next far_sent → InwardCalls named f.next sent far_sent f.calls → InwardAfter named f.next sent far_sent (record { day = record f { calls = insert_call (user_offered r c policy f.moment) f.calls }; reply = None })
offered_inward named sent far_sent f r c policy sents calls =
    let same = silent_inward named sent far_sent f sents calls in
    record {
      sents = same.sents;
      calls = insert_all (Own named f.next sent (far_sent ++ [])) (user_offered r c policy f.moment) f.calls (λ u. absurd (true≢false u)) same.calls;
      next_stays = refl;
    }

-- ---- a live call hears a message

-- the call goes on, and is not being cleared
abbrev pub stays_calm : Next PlainUserCall → Bool
stays_calm (Live c) = not (is_user_clearing c.state)
stays_calm _ = false

pub calm_mild : (r ch : ℕ) (c : PlainUserCall) (connected : Bool) (reply : Option Outgoing) (n : Next PlainUserCall) → OwnMoves r ch c.origin c.state connected reply n → stays_calm n ≡ true → OfSaid Mild reply
calm_mild r ch c connected reply (Live x) g h = (g.mild (not-true (is_user_clearing x.state) h)).1
calm_mild r ch c connected reply Over g h = absurd (false≢true h)
calm_mild r ch c connected reply Broken g h = absurd (false≢true h)

pub own_after : (named : ℕ → ℕ) (next : ℕ) (sent far_sent more : List Outgoing) (call : PlainUserCall) (connected : Bool) (reply : Option Outgoing) (n : Next PlainUserCall) → Own named next sent far_sent call → OwnMoves call.reference call.channel call.origin call.state connected reply n
    → (user_flag call.origin ≡ false → connected ≡ true → list_any (connects call.reference) sent ≡ true) → (user_flag call.origin ≡ false → stays_calm n ≡ true → list_any (clears call.reference) more ≡ false) → OnLive (Own named next sent (far_sent ++ more)) n
own_after named next sent far_sent more call connected reply (Live c) h g has quiet = λ f.
    let u : user_flag call.origin ≡ false = ap user_flag (sym g.origin) ∙ f in
    let old = h u in
    record {
      given = subst (λ r. r < next) (sym g.reference) old.given;
      channel = g.channel ∙ old.channel ∙ ap named (sym g.reference);
      began = implied_false (is_answering c.state) (is_answering call.state) g.answering old.began;
      calm = λ q. subst (λ r. list_any (clears r) (far_sent ++ more) ≡ false) (sym g.reference) (has_none (clears call.reference) far_sent more (old.calm (g.mild q).0) (quiet u (ap not q)));
      active = λ q. subst (λ r. list_any (connects r) sent ≡ true) (sym g.reference) (elim (or_three (is_talking call.state) connected (is_answering call.state) (g.active q) old.began) [
        | inl k ↦ old.active k
        | inr k ↦ has u k
      ]);
    }
own_after named next sent far_sent more call connected reply Over h g has quiet = tt
own_after named next sent far_sent more call connected reply Broken h g has quiet = tt

-- where the call on a channel became something else, the others are on other channels
settle_map : (P Q : PlainUserCall → Type 0) (c : ℕ) (next : Next PlainUserCall) (cs : List PlainUserCall) → ((x : PlainUserCall) → x.channel ≢ c → P x → Q x) → AreOnTheirOwn cs → OnLive Q next → AllByRecursion P cs → AllByRecursion Q (settle_calls c next cs)
settle_map P Q c next [] f own p h = tt
settle_map P Q c next (x ∷ xs) f own p h = by_cases (x.channel == c) _ _ (AllByRecursion Q)
    (λ q. next_all Q next xs p (all_calls (λ y. (x.channel ≢ y.channel) × P y) Q (λ y k. f y (λ e. k.0 (eqb-true x.channel c q ∙ sym e)) k.1) xs (both_calls (λ y. x.channel ≢ y.channel) P xs own.0 h.1)))
    (λ q. (f x (λ e. false≢true (sym q ∙ eq-eqb x.channel c e)) h.0, settle_map P Q c next xs f own.1 p h.1))

flags_meet : (a f : Bool) → bool_eq a (not f) ≡ true → a ≡ false → f ≡ true
flags_meet true f h q = absurd (true≢false q)
flags_meet false true h q = refl
flags_meet false false h q = absurd (false≢true h)

heard_inward : (named : ℕ → ℕ) (sent far_sent : List Outgoing) (f : FarDay) (o : Outgoing) (call : PlainUserCall) → InwardSents named f.next far_sent → InwardCalls named f.next sent far_sent f.calls → AreOnTheirOwn f.calls → first_call (far_names (said_from o)) f.calls ≡ Some call → IsIn sent o
    → InwardAfter named f.next sent far_sent (far_follow f call.channel (user_message call (said_from o).heard f.moment))
heard_inward named sent far_sent f o call sents calls apart first is_in =
    let step : Transition PlainUserCall = user_message call (said_from o).heard f.moment in
    let found = first_found (Own named f.next sent far_sent) (far_names (said_from o)) f.calls call first calls in
    let p = and_parts (call.reference == o.reference) (bool_eq (user_flag call.origin) (not o.flag)) found.0 in
    let moves = own_row call.reference call.channel call.origin f.moment (said_from o).heard call.state o.kind in
    let says : OfSaid (OwnSpeaks call.reference call.channel call.origin) step.reply = own_row_says call.reference call.channel call.origin f.moment (said_from o).heard call.state o.kind in
    record {
      sents = all_joined (λ x. x.flag ≡ false → InwardSent named f.next x) far_sent (reply_list step.reply) sents (listed (λ x. x.flag ≡ false → InwardSent named f.next x) step.reply
          (said_map (OwnSpeaks call.reference call.channel call.origin) (λ x. x.flag ≡ false → InwardSent named f.next x) (λ x s q.
          let old = found.1 (sym s.flag ∙ q) in
          record {
            given = subst (λ r. r < f.next) (sym s.reference) old.given;
            channel = λ k. s.setup k ∙ ap (λ (n : ℕ). Some (n, true)) (old.channel ∙ ap named (sym s.reference));
          }) step.reply says));
      calls = settle_map (Own named f.next sent far_sent) (Own named f.next sent (far_sent ++ reply_list step.reply)) call.channel step.next f.calls
          (λ x ne h u. call_grows named f.next sent far_sent (reply_list step.reply) x (h u) (none_clears x.reference step.reply (said_map (OwnSpeaks call.reference call.channel call.origin) (λ y. clears x.reference y ≡ false)
          (λ y s. not_both (from_beginner x.reference y) (clears_as y.kind y.state) (λ n c.
          let q = beginner_parts x.reference y n in
          ne ((h u).channel ∙ ap named (sym q.0 ∙ s.reference) ∙ sym (found.1 (sym s.flag ∙ q.1)).channel))) step.reply says)))
          apart
          (own_after named f.next sent far_sent (reply_list step.reply) call (is_connect_kind o.kind) step.reply step.next found.1 moves
          (λ u k. is_in (connects call.reference) (and_from (from_other call.reference o) (is_connect_kind o.kind) (is_from_other call.reference o (sym (eqb-true call.reference o.reference p.0)) (flags_meet (user_flag call.origin) o.flag p.1 u)) k))
          (λ u k. none_clears call.reference step.reply (said_map Mild (λ y. clears call.reference y ≡ false) (λ y mild. not_both (from_beginner call.reference y) (clears_as y.kind y.state) (λ n c. false≢true (sym mild ∙ c))) step.reply
          (calm_mild call.reference call.channel call (is_connect_kind o.kind) step.reply step.next moves k))))
          calls;
      next_stays = refl;
    }

-- ---- a message that names no live call

none_named : (test : PlainUserCall → Bool) (cs : List PlainUserCall) → first_call test cs ≡ None → AllByRecursion (λ c. test c ≡ false) cs
none_named test [] q = tt
none_named test (c ∷ cs) q = go (test c) refl q (λ r. none_named test cs r)
  where
    go : (b : Bool) → test c ≡ b → (if b then Some c else first_call test cs) ≡ None → (first_call test cs ≡ None → AllByRecursion (λ x. test x ≡ false) cs) → AllByRecursion (λ x. test x ≡ false) (c ∷ cs)
    go true e h f = absurd (true≢false (ap is_some h))
    go false e h f = (e, f h)

-- a call of its own with the reference of a message to it is named by it
own_named : (o : Outgoing) (c : PlainUserCall) → c.reference ≡ o.reference → user_flag c.origin ≡ false → o.flag ≡ true → far_names (said_from o) c ≡ true
own_named o c r u f = and_from (c.reference == o.reference) (bool_eq (user_flag c.origin) (not o.flag)) (eq-eqb c.reference o.reference r) (meet (user_flag c.origin) o.flag u f)
  where
    meet : (a b : Bool) → a ≡ false → b ≡ true → bool_eq a (not b) ≡ true
    meet false true p q = refl
    meet false false p q = absurd (false≢true q)
    meet true b p q = absurd (true≢false p)

stray_inward : (named : ℕ → ℕ) (sent far_sent : List Outgoing) (f : FarDay) (o : Outgoing) (number : Option (List ℕ)) (k : Kind) → InwardSents named f.next far_sent → InwardCalls named f.next sent far_sent f.calls → first_call (far_names (said_from o)) f.calls ≡ None → (o.flag ≡ true → o.reference < f.next)
    → InwardAfter named f.next sent far_sent (far_stray f (said_from o) number k)
stray_inward named sent far_sent f o number Setup sents calls none given = by_cases o.flag _ _ (InwardAfter named f.next sent far_sent) (λ _. silent_inward named sent far_sent f sents calls) (λ _. asked (said_from o).refused)
  where
    taken : (c : ℕ) (p : Policy) → InwardAfter named f.next sent far_sent (far_takes f (said_from o) c p)
    taken c Silent = silent_inward named sent far_sent f sents calls
    taken c Busy = refused_inward named sent far_sent f o.reference 17 sents calls
    taken c (Answer n) = offered_inward named sent far_sent f o.reference c (Answer n) sents calls
    taken c Alert = offered_inward named sent far_sent f o.reference c Alert sents calls
    taken c Proceed = offered_inward named sent far_sent f o.reference c Proceed sents calls
    taken c (Clear n) = offered_inward named sent far_sent f o.reference c (Clear n) sents calls

    on : (field : ChannelField) → InwardAfter named f.next sent far_sent (far_called_on f (said_from o) number field)
    on Absent = refused_inward named sent far_sent f o.reference 96 sents calls
    on AnyChannel = refused_inward named sent far_sent f o.reference 44 sents calls
    on Unread = refused_inward named sent far_sent f o.reference 44 sents calls
    on (Named c exclusive) = by_cases (is_taken f c) _ _ (InwardAfter named f.next sent far_sent) (λ _. refused_inward named sent far_sent f o.reference 44 sents calls) (λ _. taken c (policy_of f.script number))

    asked : (cause : Option ℕ) → InwardAfter named f.next sent far_sent (far_called f (said_from o) number cause)
    asked (Some cause) = refused_inward named sent far_sent f o.reference cause sents calls
    asked None = on (said_from o).heard.channel
stray_inward named sent far_sent f o number k sents calls none given =
    let reply : Option Outgoing = unknown_row User o.reference (not o.flag) (said_from o).heard k in
    let says : OfSaid (Unknown o.reference (not o.flag)) reply = unknown_says User o.reference (not o.flag) (said_from o).heard k in
    unchanged_inward named sent far_sent f reply sents calls
    (said_map (Unknown o.reference (not o.flag)) (Plain f.next) (λ x u q. (subst (λ r. r < f.next) (sym u.reference) (given (turned o.flag (sym u.flag ∙ q))), u.other)) reply says)
    (all_calls (λ c. far_names (said_from o) c ≡ false) (Quiet (reply_list reply)) (λ c unnamed u. none_clears c.reference reply (said_map (Unknown o.reference (not o.flag)) (λ x. clears c.reference x ≡ false)
    (λ x v. not_both (from_beginner c.reference x) (clears_as x.kind x.state) (λ n q.
    let w = beginner_parts c.reference x n in
    false≢true (sym unnamed ∙ own_named o c (sym w.0 ∙ v.reference) u (turned o.flag (sym v.flag ∙ w.1))))) reply says)) f.calls (none_named (far_names (said_from o)) f.calls none))
  where
    turned : (b : Bool) → not b ≡ false → b ≡ true
    turned true h = refl
    turned false h = absurd (true≢false h)

received_inward : (named : ℕ → ℕ) (sent far_sent : List Outgoing) (f : FarDay) (o : Outgoing) (number : Option (List ℕ)) (x : Option PlainUserCall) → first_call (far_names (said_from o)) f.calls ≡ x → InwardSents named f.next far_sent → InwardCalls named f.next sent far_sent f.calls → AreOnTheirOwn f.calls → (o.flag ≡ true → o.reference < f.next) → IsIn sent o
    → InwardAfter named f.next sent far_sent (far_received_by f (said_from o) number x)
received_inward named sent far_sent f o number None q sents calls apart given is_in = stray_inward named sent far_sent f o number o.kind sents calls q given
received_inward named sent far_sent f o number (Some call) q sents calls apart given is_in = heard_inward named sent far_sent f o call sents calls apart q is_in

pub far_receive_inward : (named : ℕ → ℕ) (sent far_sent : List Outgoing) (f : FarDay) (o : Outgoing) (number : Option (List ℕ)) → InwardSents named f.next far_sent → InwardCalls named f.next sent far_sent f.calls → AreOnTheirOwn f.calls → (o.flag ≡ true → o.reference < f.next) → IsIn sent o → InwardAfter named f.next sent far_sent (far_receive f (said_from o) number)
far_receive_inward named sent far_sent f o number sents calls apart given is_in = received_inward named sent far_sent f o number (first_call (far_names (said_from o)) f.calls) refl sents calls apart given is_in
