-- A tick of the far end keeps what is true of calls that the exchange began.
use Rattle.std.proofs.Common.{◌≡◌, ◌≢◌, ◌⊎◌, inl, inr, ℕ, zero, suc, ◌+◌, ◌-◌, ◌==◌, ◌&&◌, ◌||◌, not, Bool, true, false, List, [], ◌∷◌, ◌++◌, length, Option, Some, None, refl, sym, ap, subst, ◌∙◌, arith, slice_set, length-set, replicate}
use Rattle.std.specs.List.{AllByRecursion, list_any}
use Rattle.std.proofs.lemmas.Bool.{false≢true, true≢false, and_parts, and_from, eq-eqb, or_left, or_right}
use Rattle.bx_channels.specs.ChannelNumbers.{IsChannel}
use Rattle.bx_base.specs.Plans.{channel_at}
use Rattle.bx_q931.specs.Outgoing.{Outgoing}
use Rattle.bx_calls.specs.PlainCalls.{PlainUserCall}
use Rattle.bx_calls.specs.UserTable.{user_flag, user_second, user_calling}
use Rattle.bx_calls.specs.Saying.{setup_of}
use Rattle.bx_calls.specs.declared.transition.Next.{Next}
use Rattle.bx_calls.specs.declared.transition.Next.TheVariants.{Live, Over, Broken}
use Rattle.bx_channels.specs.Marks.{is_marked}
use Rattle.bx_day.proofs.Said.{OfSaid}
use Rattle.bx_far.specs.FarDay.{FarDay, Begun, begin_row, begin_rows, far_begun, far_ticked, second_calls, second_maintenance, second_said, with_held, no_messages, next_then, settle_maintenance}
use Rattle.bx_calls.specs.Sending.{Sent, in_order}
use Rattle.bx_far.specs.declared.row.ScriptRow.{ScriptRow}
use Rattle.bx_far.specs.declared.row.ScriptRow.TheVariants.{Follows, Calls}
use Rattle.bx_two_ends.specs.Scripts.{IsScriptRow}
use Rattle.bx_two_ends.specs.TwoEnds.{offered_as, AreOnTheirOwn}
use Rattle.bx_two_ends.proofs.UserRows.{UserSpeaks, second_moves, second_speaks}
use Rattle.bx_two_ends.proofs.History.{sets_up, said_map}
use Rattle.bx_two_ends.proofs.Outward.{Kept, Holds, Maintained, Cleared, OutwardReply, OutwardReplies, OfferedCall, OfferedCalls}
use Rattle.bx_two_ends.proofs.FarCalls.{all_calls, insert_all, insert_apart, insert_any, OnLive, next_all, next_apart, next_has, next_rest}
use Rattle.bx_two_ends.proofs.FarHears.{FarBefore, CallStep, after_call, on_channel, placed, still, saids_grow, set_now, set_stays, settle_stays, settle_size, is_broken}
use Rattle.bx_day.proofs.Tick.{by_cases}

-- a second of a call
call_step : (sent : List Outgoing) (c : PlainUserCall) (t : ℕ) → CallStep sent c false false (user_second c t)
call_step sent c t = record { moves = second_moves c.reference c.channel c.origin t c.state; acked = λ u k. absurd (false≢true k); over = λ u k. absurd (false≢true k) }

pub second_all : (P Q : PlainUserCall → Type 0) (t : ℕ) → ((c : PlainUserCall) → Q c → OnLive P (user_second c t).next) → (cs : List PlainUserCall) → AllByRecursion Q cs → AllByRecursion P (second_calls t cs)
second_all P Q t f [] h = tt
second_all P Q t f (c ∷ cs) h = next_all P (user_second c t).next (second_calls t cs) (f c h.0) (second_all P Q t f cs h.1)

pub live_map : (P Q : PlainUserCall → Type 0) → ((c : PlainUserCall) → P c → Q c) → (n : Next PlainUserCall) → OnLive P n → OnLive Q n
live_map P Q f (Live c) h = f c h
live_map P Q f Over h = h
live_map P Q f Broken h = h

second_on : (c : PlainUserCall) (t : ℕ) → OnLive (λ x. x.channel ≡ c.channel) (user_second c t).next
second_on c t = on_channel c.reference c.channel c.origin c.state false false (user_second c t).next (second_moves c.reference c.channel c.origin t c.state)

pub second_apart : (t : ℕ) (cs : List PlainUserCall) → AreOnTheirOwn cs → AreOnTheirOwn (second_calls t cs)
second_apart t [] h = tt
second_apart t (c ∷ cs) h = next_apart c.channel (user_second c t).next (second_calls t cs) (second_on c t)
    (second_all (λ x. c.channel ≢ x.channel) (λ x. c.channel ≢ x.channel) t (λ x ne. live_map (λ y. y.channel ≡ x.channel) (λ y. c.channel ≢ y.channel) (λ y on e. ne (e ∙ on)) (user_second x t).next (second_on x t)) cs h.0)
    (second_apart t cs h.1)

-- ---- maintenance

second_stays : (t : ℕ) (cs : List PlainUserCall) (ms : List Bool) (k : ℕ) → is_marked ms k ≡ true → is_marked (second_maintenance t cs ms) k ≡ true
second_stays t [] ms k h = h
second_stays t (c ∷ cs) ms k h = second_stays t cs (settle_maintenance c.channel (user_second c t).next ms) k (settle_stays c.channel (user_second c t).next ms k h)

second_size : (t : ℕ) (cs : List PlainUserCall) (ms : List Bool) → length (second_maintenance t cs ms) ≡ length ms
second_size t [] ms = refl
second_size t (c ∷ cs) ms = second_size t cs (settle_maintenance c.channel (user_second c t).next ms) ∙ settle_size c.channel (user_second c t).next ms

broke_now : (c : ℕ) (n : Next PlainUserCall) (ms : List Bool) → n ≡ Broken → IsChannel c → length ms ≡ 32 → is_marked (settle_maintenance c n ms) c ≡ true
broke_now c (Live x) ms e on size = absurd (false≢true (ap is_broken e))
broke_now c Over ms e on size = absurd (false≢true (ap is_broken e))
broke_now c Broken ms e on size = set_now ms c (omega (arith, size, on.1))

abbrev Breaks : ℕ → List Bool → PlainUserCall → Type 0
Breaks t after c = (user_second c t).next ≡ Broken → IsChannel c.channel → is_marked after c.channel ≡ true

breaks : (t : ℕ) (cs : List PlainUserCall) (ms : List Bool) → length ms ≡ 32 → AllByRecursion (Breaks t (second_maintenance t cs ms)) cs
breaks t [] ms size = tt
breaks t (c ∷ cs) ms size =
    let ms' = settle_maintenance c.channel (user_second c t).next ms in (
      (λ e on. second_stays t cs ms' c.channel (broke_now c.channel (user_second c t).next ms e on size)),
      breaks t cs ms' (settle_size c.channel (user_second c t).next ms ∙ size),
    )

-- ---- what is held

abbrev Old : List (Option ℕ) → List Outgoing → PlainUserCall → Type 0
Old assigned sent c = user_flag c.origin ≡ true → OfferedCall assigned sent c

second_any : (assigned : List (Option ℕ)) (sent : List Outgoing) (f' : FarDay) (t r : ℕ) (cs : List PlainUserCall) → AllByRecursion (Old assigned sent) cs → AllByRecursion (Breaks t f'.maintenance) cs → list_any (offered_as r (channel_at assigned (r - 1))) cs ≡ true
    → (list_any (offered_as r (channel_at assigned (r - 1))) (second_calls t cs) ≡ true) ⊎ Kept assigned sent f' r
second_any assigned sent f' t r [] old broken h = absurd (false≢true h)
second_any assigned sent f' t r (c ∷ cs) old broken h =
    go (offered_as r (channel_at assigned (r - 1)) c) refl h (λ q. second_any assigned sent f' t r cs old.1 broken.1 q)
  where
    go : (b : Bool) → offered_as r (channel_at assigned (r - 1)) c ≡ b → (b || list_any (offered_as r (channel_at assigned (r - 1))) cs) ≡ true
        → (list_any (offered_as r (channel_at assigned (r - 1))) cs ≡ true → (list_any (offered_as r (channel_at assigned (r - 1))) (second_calls t cs) ≡ true) ⊎ Kept assigned sent f' r)
        → (list_any (offered_as r (channel_at assigned (r - 1))) (next_then (user_second c t).next (second_calls t cs)) ≡ true) ⊎ Kept assigned sent f' r
    go true q h' k = elim (still assigned sent f' r c false false (user_second c t) (call_step sent c t) old.0 (user_second c t).next (second_moves c.reference c.channel c.origin t c.state) broken.0 q) [
      | inl p ↦ inl (next_has (offered_as r (channel_at assigned (r - 1))) (user_second c t).next (second_calls t cs) p)
      | inr p ↦ inr p
    ]
    go false q h' k = elim (k h') [
      | inl p ↦ inl (next_rest (offered_as r (channel_at assigned (r - 1))) (user_second c t).next (second_calls t cs) p)
      | inr p ↦ inr p
    ]

-- ---- rows that call

abbrev Covers : List Bool → PlainUserCall → Type 0
Covers blocked c = is_marked blocked c.channel ≡ true

held_stays : (cs : List PlainUserCall) (ms : List Bool) (k : ℕ) → is_marked ms k ≡ true → is_marked (with_held cs ms) k ≡ true
held_stays [] ms k h = h
held_stays (c ∷ cs) ms k h = held_stays cs (slice_set ms c.channel true) k (set_stays ms c.channel k h)

held_size : (cs : List PlainUserCall) (ms : List Bool) → length (with_held cs ms) ≡ length ms
held_size [] ms = refl
held_size (c ∷ cs) ms = held_size cs (slice_set ms c.channel true) ∙ length-set ms c.channel true

held_covers : (cs : List PlainUserCall) (ms : List Bool) → length ms ≡ 32 → AllByRecursion (λ (c : PlainUserCall). IsChannel c.channel) cs → AllByRecursion (Covers (with_held cs ms)) cs
held_covers [] ms size h = tt
held_covers (c ∷ cs) ms size h = (
  held_stays cs (slice_set ms c.channel true) c.channel (set_now ms c.channel (omega (arith, size, h.0.1))),
  held_covers cs (slice_set ms c.channel true) (length-set ms c.channel true ∙ size) h.1,
)

-- what stays true while rows call
pub record Begins (assigned : List (Option ℕ)) (sent : List Outgoing) (P : Outgoing → Type 0) (b : Begun) : Type 0 where
  pub calls : AllByRecursion (Old assigned sent) b.calls
  pub apart : AreOnTheirOwn b.calls
  pub places : AllByRecursion (λ (c : PlainUserCall). IsChannel c.channel) b.calls
  pub covers : AllByRecursion (Covers b.blocked) b.calls
  pub size : length b.blocked ≡ 32
  pub said : AllByRecursion (OfSaid P) b.said

pub set_all : (P : Option Outgoing → Type 0) (xs : List (Option Outgoing)) (i : ℕ) (x : Option Outgoing) → P x → AllByRecursion P xs → AllByRecursion P (slice_set xs i x)
set_all P [] i x p h = h
set_all P (y ∷ ys) zero x p h = (p, h.1)
set_all P (y ∷ ys) (suc i) x p h = (h.0, set_all P ys i x p h.1)

row_begins : (assigned : List (Option ℕ)) (sent : List Outgoing) (P : Outgoing → Type 0) → ((o : Outgoing) → o.flag ≡ false → P o) → (t : ℕ) (row : ScriptRow) (b : Begun) → IsScriptRow row → Begins assigned sent P b → Begins assigned sent P (begin_row t row b)
row_begins assigned sent P outward t (Follows number policy) b is h = h
row_begins assigned sent P outward t (Calls number moment c) b is h = by_cases ((moment == t) && not (is_marked b.blocked c)) _ _ (Begins assigned sent P)
    (λ q. let free : not (is_marked b.blocked c) ≡ true = (and_parts (moment == t) (not (is_marked b.blocked c)) q).1 in
    let new : PlainUserCall = user_calling b.next c number t in
    record {
      calls = insert_all (Old assigned sent) new b.calls (λ u. absurd (false≢true u)) h.calls;
      apart = insert_apart new b.calls (all_calls (Covers b.blocked) (λ x. x.channel ≢ c) (λ x on e. both (is_marked b.blocked c) free (subst (λ n. is_marked b.blocked n ≡ true) e on)) b.calls h.covers) h.apart;
      places = insert_all (λ x. IsChannel x.channel) new b.calls is.1 h.places;
      covers = insert_all (Covers (slice_set b.blocked c true)) new b.calls (set_now b.blocked c (omega (arith, h.size, is.1.1))) (all_calls (Covers b.blocked) (Covers (slice_set b.blocked c true)) (λ x on. set_stays b.blocked c x.channel on) b.calls h.covers);
      size = length-set b.blocked c true ∙ h.size;
      said = set_all (OfSaid P) b.said c (Some (setup_of b.next c number)) (outward (setup_of b.next c number) refl) h.said;
    })
    (λ _. h)
  where
    both : (x : Bool) → not x ≡ true → x ≡ true → ⊥
    both true p q = false≢true p
    both false p q = false≢true q

rows_begin : (assigned : List (Option ℕ)) (sent : List Outgoing) (P : Outgoing → Type 0) → ((o : Outgoing) → o.flag ≡ false → P o) → (t : ℕ) (rows : List ScriptRow) (b : Begun) → AllByRecursion IsScriptRow rows → Begins assigned sent P b → Begins assigned sent P (begin_rows t rows b)
rows_begin assigned sent P outward t [] b is h = h
rows_begin assigned sent P outward t (row ∷ rows) b is h = rows_begin assigned sent P outward t rows (begin_row t row b) is.1 (row_begins assigned sent P outward t row b is.0 h)

row_any : (p : PlainUserCall → Bool) (t : ℕ) (row : ScriptRow) (b : Begun) → list_any p b.calls ≡ true → list_any p (begin_row t row b).calls ≡ true
row_any p t (Follows number policy) b h = h
row_any p t (Calls number moment c) b h = by_cases ((moment == t) && not (is_marked b.blocked c)) _ _ (λ (x : Begun). list_any p x.calls ≡ true) (λ _. insert_any p (user_calling b.next c number t) b.calls h) (λ _. h)

rows_any : (p : PlainUserCall → Bool) (t : ℕ) (rows : List ScriptRow) (b : Begun) → list_any p b.calls ≡ true → list_any p (begin_rows t rows b).calls ≡ true
rows_any p t [] b h = h
rows_any p t (row ∷ rows) b h = rows_any p t rows (begin_row t row b) (row_any p t row b h)

-- ---- what is said

pub none_said : (P : Outgoing → Type 0) (n : ℕ) → AllByRecursion (OfSaid P) (replicate n None)
none_said P zero = tt
none_said P (suc n) = (tt, none_said P n)

pub second_said_all : (P : Outgoing → Type 0) (t : ℕ) (cs : List PlainUserCall) (said : List (Option Outgoing)) → AllByRecursion (λ (c : PlainUserCall). OfSaid P (user_second c t).reply) cs → AllByRecursion (OfSaid P) said → AllByRecursion (OfSaid P) (second_said t cs said)
second_said_all P t [] said h k = k
second_said_all P t (c ∷ cs) said h k = second_said_all P t cs (slice_set said c.channel (user_second c t).reply) h.1 (set_all (OfSaid P) said c.channel (user_second c t).reply h.0 k)

pub ordered : (P : Outgoing → Type 0) (said : List (Option Outgoing)) → AllByRecursion (OfSaid P) said → AllByRecursion P (in_order said)
ordered P [] h = tt
ordered P (None ∷ said) h = ordered P said h.1
ordered P (Some o ∷ said) h = (h.0, ordered P said h.1)

-- each call is among the calls
abbrev CallIn : List PlainUserCall → PlainUserCall → Type 0
CallIn cs c = (p : PlainUserCall → Bool) → p c ≡ true → list_any p cs ≡ true

calls_in : (cs : List PlainUserCall) → AllByRecursion (CallIn cs) cs
calls_in [] = tt
calls_in (c ∷ cs) = ((λ p h. or_left (p c) (list_any p cs) h), all_calls (CallIn cs) (CallIn (c ∷ cs)) (λ x k p h. or_right (p c) (list_any p cs) (k p h)) cs (calls_in cs))

pub both_calls : (P Q : PlainUserCall → Type 0) (cs : List PlainUserCall) → AllByRecursion P cs → AllByRecursion Q cs → AllByRecursion (λ c. P c × Q c) cs
both_calls P Q [] h k = tt
both_calls P Q (c ∷ cs) h k = ((h.0, k.0), both_calls P Q cs h.1 k.1)

pub record FarTicked (assigned : List (Option ℕ)) (sent far_sent : List Outgoing) (x : Sent FarDay) : Type 0 where
  pub replies : OutwardReplies assigned sent x.day (far_sent ++ x.sent)
  pub calls : OfferedCalls assigned sent x.day.calls
  pub apart : AreOnTheirOwn x.day.calls
  pub size : length x.day.maintenance ≡ 32
  pub places : AllByRecursion (λ (c : PlainUserCall). IsChannel c.channel) x.day.calls

pub far_ticked_keeps : (assigned : List (Option ℕ)) (sent far_sent : List Outgoing) (f : FarDay) → AllByRecursion IsScriptRow f.script → FarBefore assigned sent far_sent f → FarTicked assigned sent far_sent (far_ticked f)
far_ticked_keeps assigned sent far_sent f script b =
    let t = f.moment + 1 in
    let f' : FarDay = (far_ticked f).day in
    let P : Outgoing → Type 0 = λ o. o.flag ≡ true → OutwardReply assigned sent f' o in
    let start : Begun = record { calls = second_calls t f.calls; said = second_said t f.calls no_messages; blocked = with_held f.calls f.maintenance; next = f.next } in
    let begun : Begins assigned sent P (far_begun f t) = rows_begin assigned sent P (λ o q k. absurd (true≢false (sym k ∙ q))) t f.script start script (record {
      calls = second_all (Old assigned sent) (Old assigned sent) t (λ c old. after_call assigned sent c false false (user_second c t) (call_step sent c t) old (user_second c t).next (second_moves c.reference c.channel c.origin t c.state)) f.calls b.calls;
      apart = second_apart t f.calls b.apart;
      places = second_all (λ c. IsChannel c.channel) (λ c. IsChannel c.channel) t (λ c on. placed c.reference c.channel c.origin c.state false false on (user_second c t).next (second_moves c.reference c.channel c.origin t c.state)) f.calls b.places;
      covers = second_all (Covers (with_held f.calls f.maintenance)) (Covers (with_held f.calls f.maintenance)) t (λ c on. live_map (λ y. y.channel ≡ c.channel) (Covers (with_held f.calls f.maintenance)) (λ y e. subst (λ n. is_marked (with_held f.calls f.maintenance) n ≡ true) (sym e) on) (user_second c t).next (second_on c t)) f.calls (held_covers f.calls f.maintenance b.size b.places);
      size = held_size f.calls f.maintenance ∙ b.size;
      said = second_said_all P t f.calls no_messages (all_calls (λ c. Old assigned sent c × CallIn f.calls c) (λ c. OfSaid P (user_second c t).reply) says f.calls (both_calls (Old assigned sent) (CallIn f.calls) f.calls b.calls (calls_in f.calls))) (none_said P 32);
    }) in
    record {
      replies = saids_grow assigned sent far_sent (far_ticked f).sent f f' kept b.replies (ordered P (far_begun f t).said begun.said);
      calls = begun.calls;
      apart = begun.apart;
      size = second_size t f.calls f.maintenance ∙ b.size;
      places = begun.places;
    }
  where
    kept : (r : ℕ) → Kept assigned sent f r → Kept assigned sent (far_ticked f).day r
    kept r (Maintained h) = Maintained (second_stays (f.moment + 1) f.calls f.maintenance (channel_at assigned (r - 1)) h)
    kept r (Cleared h) = Cleared h
    kept r (Holds h) = elim (second_any assigned sent (far_ticked f).day (f.moment + 1) r f.calls b.calls (breaks (f.moment + 1) f.calls f.maintenance b.size) h) [
      | inl p ↦ Holds (rows_any (offered_as r (channel_at assigned (r - 1))) (f.moment + 1) f.script (record { calls = second_calls (f.moment + 1) f.calls; said = second_said (f.moment + 1) f.calls no_messages; blocked = with_held f.calls f.maintenance; next = f.next }) p)
      | inr p ↦ p
    ]

    says : (c : PlainUserCall) → Old assigned sent c × CallIn f.calls c → OfSaid (λ o. o.flag ≡ true → OutwardReply assigned sent (far_ticked f).day o) (user_second c (f.moment + 1)).reply
    says c (old, is_in) = said_map (UserSpeaks c.reference c.origin (user_second c (f.moment + 1)).next) (λ o. o.flag ≡ true → OutwardReply assigned sent (far_ticked f).day o)
        (λ o s q. let h = old (sym s.flag ∙ q) in record {
          known = subst (λ n. list_any (sets_up n) sent ≡ true) (sym s.reference) h.known;
          kept = λ _. subst (Kept assigned sent (far_ticked f).day) (sym s.reference) (kept c.reference (Holds (is_in (offered_as c.reference (channel_at assigned (c.reference - 1)))
              (and_from ((c.reference == c.reference) && user_flag c.origin) (c.channel == channel_at assigned (c.reference - 1)) (and_from (c.reference == c.reference) (user_flag c.origin) (eq-eqb c.reference c.reference refl) (sym s.flag ∙ q)) (eq-eqb c.channel (channel_at assigned (c.reference - 1)) h.channel)))));
        }) (user_second c (f.moment + 1)).reply (second_speaks c.reference c.channel c.origin (f.moment + 1) c.state)
