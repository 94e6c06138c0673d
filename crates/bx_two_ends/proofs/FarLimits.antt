-- What the far end sends is within the limits of a message, at each event.
use Rattle.std.proofs.Common.{◌≡◌, ℕ, ◌+◌, ◌≤◌, ◌==◌, ◌&&◌, not, Bool, true, false, List, [], ◌∷◌, Option, Some, None, refl, sym, ap, subst, arith, nat_le, if◌then◌else◌}
use Rattle.std.specs.Option.{IfSome}
use Rattle.std.specs.List.{AllByRecursion}
use Rattle.std.proofs.lemmas.Bool.{and_parts}
use Rattle.bx_channels.specs.ChannelNumbers.{IsChannel}
use Rattle.bx_q931.specs.declared.kind.Kind.{Kind}
use Rattle.bx_q931.specs.declared.kind.Kind.TheVariants.{Setup}
use Rattle.bx_q931.specs.Outgoing.{Outgoing, IsCallReference}
use Rattle.bx_q931.specs.Parts.{channel_part}
use Rattle.bx_calls.specs.PlainCalls.{PlainUserCall}
use Rattle.bx_calls.specs.Saying.{setup_of}
use Rattle.bx_calls.specs.UserTable.{user_second, user_message, user_calling, user_offered}
use Rattle.bx_calls.specs.declared.user_state.Policy.{Policy}
use Rattle.bx_calls.specs.declared.user_state.Policy.TheVariants.{Answer, Busy, Silent, Alert, Proceed, Clear}
use Rattle.bx_calls.specs.declared.transition.Transition.{Transition}
use Rattle.bx_calls.specs.declared.transition.Next.{Next}
use Rattle.bx_calls.specs.declared.transition.Next.TheVariants.{Live, Over, Broken}
use Rattle.bx_calls.specs.declared.unknown_reference.Side.TheVariants.{User}
use Rattle.bx_day.proofs.Said.{OfSaid}
use Rattle.bx_channels.specs.Marks.{is_marked}
use Rattle.bx_far.specs.FarDay.{FarDay, Begun, begin_row, begin_rows, far_begun, far_ticked, far_tick, second_calls, second_said, with_held, no_messages, far_follow, far_takes, far_called_on, far_called, far_stray, far_received_by, far_receive, far_names, first_call, is_taken}
use Rattle.bx_calls.specs.Sending.{Sent, Answered}
use Rattle.bx_far.specs.Policies.{policy_of}
use Rattle.bx_far.specs.Seats.{calls_later}
use Rattle.bx_far.specs.Inside.{calls_now}
use Rattle.bx_far.specs.declared.row.ScriptRow.{ScriptRow}
use Rattle.bx_far.specs.declared.row.ScriptRow.TheVariants.{Follows, Calls}
use Rattle.bx_far.proofs.Passing.{now_split, row_room, rows_room, later_split}
use Rattle.bx_two_ends.specs.Scripts.{IsScriptRow}
use Rattle.bx_two_ends.specs.TwoEnds.{is_acknowledge}
use Rattle.bx_two_ends.proofs.NetworkRows.{clears_as}
use Rattle.bx_two_ends.proofs.Delivery.{Sendable, said_from}
use Rattle.bx_two_ends.proofs.UserRows.{Moves, row_moves, second_moves}
use Rattle.bx_two_ends.proofs.FarCalls.{all_calls, insert_all, OnLive, settle_all, first_found}
use Rattle.bx_two_ends.proofs.FarTicks.{second_all, set_all, none_said, second_said_all, ordered}
use Rattle.bx_two_ends.proofs.MessageLimits.{CalledBy, user_row_ok, user_second_ok, unknown_ok, refusal_ok, setup_ok}
use Rattle.bx_day.proofs.Tick.{by_cases}

pub record UserCallWithin (c : PlainUserCall) : Type 0 where
  pub reference : IsCallReference c.reference
  pub channel : IsChannel c.channel
  pub number : CalledBy c.origin

live_within : (c : PlainUserCall) (ack cleared : Bool) (n : Next PlainUserCall) → Moves c.reference c.channel c.origin c.state ack cleared n → UserCallWithin c → OnLive UserCallWithin n
live_within c ack cleared (Live x) g h = record { reference = subst IsCallReference (sym g.reference) h.reference; channel = subst IsChannel (sym g.channel) h.channel; number = subst CalledBy (sym g.origin) h.number }
live_within c ack cleared Over g h = tt
live_within c ack cleared Broken g h = tt

-- ---- rows that call

pub record BeginsOk (b : Begun) : Type 0 where
  pub calls : AllByRecursion UserCallWithin b.calls
  pub said : AllByRecursion (OfSaid Sendable) b.said
  pub first : 1 ≤ b.next

one_now : (t moment : ℕ) (number : List ℕ) (c : ℕ) → (moment == t) ≡ true → calls_now t (Calls number moment c ∷ []) ≡ 1
one_now t moment number c q = ap (λ (b : Bool). if b then 1 else 0) q

row_ok : (t : ℕ) (row : ScriptRow) (b : Begun) → IsScriptRow row → b.next + calls_now t (row ∷ []) ≤ 16001 → BeginsOk b → BeginsOk (begin_row t row b)
row_ok t (Follows number policy) b is room h = h
row_ok t (Calls number moment c) b is room h = by_cases ((moment == t) && not (is_marked b.blocked c)) _ _ BeginsOk
    (λ q. let r : IsCallReference b.next = (h.first, bound b.next (calls_now t (Calls number moment c ∷ [])) room (one_now t moment number c (and_parts (moment == t) (not (is_marked b.blocked c)) q).0)) in record {
      calls = insert_all UserCallWithin (user_calling b.next c number t) b.calls (record { reference = r; channel = is.1; number = is.0 }) h.calls;
      said = set_all (OfSaid Sendable) b.said c (Some (setup_of b.next c number)) (setup_ok b.next c number r is.1 is.0) h.said;
      first = omega arith;
    })
    (λ _. h)
  where
    bound : (x y : ℕ) → x + y ≤ 16001 → y ≡ 1 → x ≤ 32767
    bound x y l q = omega (arith, l, q)

rows_ok : (t : ℕ) (rows : List ScriptRow) (b : Begun) → AllByRecursion IsScriptRow rows → b.next + calls_now t rows ≤ 16001 → BeginsOk b → BeginsOk (begin_rows t rows b)
rows_ok t [] b is room h = h
rows_ok t (row ∷ rows) b is room h = rows_ok t rows (begin_row t row b) is.1 (omega (arith, room, now_split t row rows, row_room t row b)) (row_ok t row b is.0 (omega (arith, room, now_split t row rows)) h)

pub record FarWithin (f : FarDay) : Type 0 where
  pub calls : AllByRecursion UserCallWithin f.calls
  pub first : 1 ≤ f.next
  pub room : f.next + calls_later f.moment f.script ≤ 16001

pub record FarTickOk (x : Sent FarDay) : Type 0 where
  pub sent : AllByRecursion Sendable x.sent
  pub lims : FarWithin x.day

pub far_ticked_ok : (f : FarDay) → AllByRecursion IsScriptRow f.script → FarWithin f → FarTickOk (far_ticked f)
far_ticked_ok f script h =
    let t = f.moment + 1 in
    let start : Begun = record { calls = second_calls t f.calls; said = second_said t f.calls no_messages; blocked = with_held f.calls f.maintenance; next = f.next } in
    let begun : BeginsOk (far_begun f t) = rows_ok t f.script start script (omega (arith, h.room, later_split f.moment f.script)) (record {
      calls = second_all UserCallWithin UserCallWithin t (λ c l. live_within c false false (user_second c t).next (second_moves c.reference c.channel c.origin t c.state) l) f.calls h.calls;
      said = second_said_all Sendable t f.calls no_messages (all_calls UserCallWithin (λ c. OfSaid Sendable (user_second c t).reply) (λ c l. user_second_ok c.reference c.channel c.origin t c.state l.reference l.channel l.number) f.calls h.calls) (none_said Sendable 32);
      first = h.first;
    }) in
    record {
      sent = ordered Sendable (far_begun f t).said begun.said;
      lims = record { calls = begun.calls; first = begun.first; room = omega (arith, h.room, later_split f.moment f.script, rows_room t f.script start) };
    }

pub far_tick_ok : (f : FarDay) → AllByRecursion IsScriptRow f.script → FarWithin f → FarTickOk (far_tick f)
far_tick_ok f script h = by_cases (nat_le 300000 f.moment) _ _ FarTickOk (λ _. record { sent = tt; lims = h }) (λ _. far_ticked_ok f script h)

-- ---- messages

pub record FarAnswerOk (x : Answered FarDay) : Type 0 where
  pub reply : OfSaid Sendable x.reply
  pub lims : FarWithin x.day

with_calls : (f : FarDay) (cs : List PlainUserCall) (ms : List Bool) → FarWithin f → AllByRecursion UserCallWithin cs → FarWithin (record f { calls = cs; maintenance = ms })
with_calls f cs ms h k = record { calls = k; first = h.first; room = h.room }

heard_ok : (f : FarDay) (o : Outgoing) (call : PlainUserCall) → FarWithin f → first_call (far_names (said_from o)) f.calls ≡ Some call → FarAnswerOk (far_follow f call.channel (user_message call (said_from o).heard f.moment))
heard_ok f o call h first =
    let l : UserCallWithin call = (first_found UserCallWithin (far_names (said_from o)) f.calls call first h.calls).1 in
    let step : Transition PlainUserCall = user_message call (said_from o).heard f.moment in
    record {
      reply = user_row_ok call.reference call.channel call.origin f.moment (said_from o).heard call.state o.kind l.reference;
      lims = with_calls f _ _ h (settle_all UserCallWithin call.channel step.next f.calls (live_within call (is_acknowledge o.kind) (clears_as o.kind o.state) step.next (row_moves call.reference call.channel call.origin f.moment (said_from o).heard call.state o.kind) l) h.calls);
    }

taken_ok : (f : FarDay) (o : Outgoing) (c : ℕ) (policy : Policy) → FarWithin f → IsCallReference o.reference → IsChannel c → FarAnswerOk (far_takes f (said_from o) c policy)
taken_ok f o c Silent h r on = record { reply = tt; lims = h }
taken_ok f o c Busy h r on = record { reply = refusal_ok User o.reference 17 r; lims = h }
taken_ok f o c (Answer n) h r on = record { reply = tt; lims = with_calls f _ _ h (insert_all UserCallWithin (user_offered o.reference c (Answer n) f.moment) f.calls (record { reference = r; channel = on; number = tt }) h.calls) }
taken_ok f o c Alert h r on = record { reply = tt; lims = with_calls f _ _ h (insert_all UserCallWithin (user_offered o.reference c Alert f.moment) f.calls (record { reference = r; channel = on; number = tt }) h.calls) }
taken_ok f o c Proceed h r on = record { reply = tt; lims = with_calls f _ _ h (insert_all UserCallWithin (user_offered o.reference c Proceed f.moment) f.calls (record { reference = r; channel = on; number = tt }) h.calls) }
taken_ok f o c (Clear n) h r on = record { reply = tt; lims = with_calls f _ _ h (insert_all UserCallWithin (user_offered o.reference c (Clear n) f.moment) f.calls (record { reference = r; channel = on; number = tt }) h.calls) }

on_ok : (f : FarDay) (o : Outgoing) (called : Option (List ℕ)) (ch : Option (ℕ × Bool)) → FarWithin f → IsCallReference o.reference → IfSome ch (λ c. IsChannel c.0) → FarAnswerOk (far_called_on f (said_from o) called (channel_part ch))
on_ok f o called None h r on = record { reply = refusal_ok User o.reference 96 r; lims = h }
on_ok f o called (Some (c, exclusive)) h r on = by_cases (is_taken f c) _ _ FarAnswerOk (λ _. record { reply = refusal_ok User o.reference 44 r; lims = h }) (λ _. taken_ok f o c (policy_of f.script called) h r on)

called_ok : (f : FarDay) (o : Outgoing) (called : Option (List ℕ)) (cause : Option ℕ) → FarWithin f → Sendable o → FarAnswerOk (far_called f (said_from o) called cause)
called_ok f o called (Some cause) h s = record { reply = refusal_ok User o.reference cause s.out.reference; lims = h }
called_ok f o called None h s = on_ok f o called o.channel h s.out.reference s.channel

stray_ok : (f : FarDay) (o : Outgoing) (called : Option (List ℕ)) (k : Kind) → FarWithin f → Sendable o → FarAnswerOk (far_stray f (said_from o) called k)
stray_ok f o called Setup h s = by_cases o.flag _ _ FarAnswerOk (λ _. record { reply = tt; lims = h }) (λ _. called_ok f o called (said_from o).refused h s)
stray_ok f o called k h s = record { reply = unknown_ok User o.reference (not o.flag) (said_from o).heard k s.out.reference; lims = h }

received_ok : (f : FarDay) (o : Outgoing) (called : Option (List ℕ)) (x : Option PlainUserCall) → first_call (far_names (said_from o)) f.calls ≡ x → FarWithin f → Sendable o → FarAnswerOk (far_received_by f (said_from o) called x)
received_ok f o called None q h s = stray_ok f o called o.kind h s
received_ok f o called (Some call) q h s = heard_ok f o call h q

pub far_receive_ok : (f : FarDay) (o : Outgoing) (called : Option (List ℕ)) → FarWithin f → Sendable o → FarAnswerOk (far_receive f (said_from o) called)
far_receive_ok f o called h s = received_ok f o called (first_call (far_names (said_from o)) f.calls) refl h s
