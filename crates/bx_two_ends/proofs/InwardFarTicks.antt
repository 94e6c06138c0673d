-- A tick of the far end keeps what is true of calls that it began, and gives each new call its channel.
use Rattle.std.proofs.Common.{◌≡◌, ◌≢◌, ℕ, ◌+◌, ◌≤◌, ◌<◌, ◌==◌, ◌&&◌, not, Bool, true, false, List, [], ◌∷◌, ◌++◌, Option, Some, refl, sym, ap, subst, ◌∙◌, arith, if◌then◌else◌}
use Rattle.std.specs.List.{AllByRecursion, list_any}
use Rattle.std.proofs.lemmas.Bool.{false≢true, true≢false, eq-eqb, ne_eqb, or_from}
use Rattle.bx_q931.specs.Outgoing.{Outgoing}
use Rattle.bx_calls.specs.PlainCalls.{PlainUserCall}
use Rattle.bx_calls.specs.UserTable.{user_flag, user_second, user_calling}
use Rattle.bx_calls.specs.Saying.{setup_of}
use Rattle.bx_calls.specs.declared.transition.Transition.{Transition}
use Rattle.bx_calls.specs.declared.transition.Next.{Next}
use Rattle.bx_calls.specs.declared.transition.Next.TheVariants.{Live, Over, Broken}
use Rattle.bx_calls.specs.declared.user_state.UserOrigin.{UserOrigin}
use Rattle.bx_calls.specs.declared.user_state.UserOrigin.TheVariants.{Offered, Calling}
use Rattle.bx_calls.specs.declared.user_state.UserState.{UserState}
use Rattle.bx_channels.specs.Marks.{is_marked}
use Rattle.bx_day.proofs.Said.{OfSaid}
use Rattle.bx_day.proofs.Tick.{by_cases}
use Rattle.bx_far.specs.FarDay.{FarDay, Begun, begin_call, begin_row, begin_rows, far_begun, far_ticked, second_calls, second_said, with_held, no_messages}
use Rattle.bx_far.specs.declared.row.ScriptRow.{ScriptRow}
use Rattle.bx_far.specs.declared.row.ScriptRow.TheVariants.{Follows, Calls}
use Rattle.bx_two_ends.specs.TwoEnds.{AreOnTheirOwn}
use Rattle.bx_two_ends.specs.TwoEndsInward.{connects}
use Rattle.bx_two_ends.proofs.NetworkRows.{Mild, clears_as}
use Rattle.bx_two_ends.proofs.UserRows.{UserSpeaks, Moves, is_talking, second_moves, second_speaks, user_call_of}
use Rattle.bx_two_ends.proofs.InwardRows.{is_user_clearing, is_answering, OwnMovesBy, OwnSpeaks, own_second, own_second_says}
use Rattle.bx_two_ends.proofs.History.{from_beginner, clears, has_none, none_all, all_joined, all_map, said_map, said_both, beginner_parts, not_both}
use Rattle.bx_two_ends.proofs.Inward.{InwardSent, InwardSents, InwardCall, InwardCalls}
use Rattle.bx_two_ends.proofs.ExchangeTicks.{under_said}
use Rattle.bx_two_ends.proofs.FarCalls.{all_calls, insert_all, OnLive, OnlyOne}
use Rattle.bx_two_ends.proofs.FarTicks.{live_map, both_calls, second_all, second_said_all, none_said, set_all, ordered}
use Rattle.bx_two_ends.proofs.InwardFar.{Own, all_true, stays_calm, calm_mild, own_after}

-- ---- a second of a call of its own

own_tick : (r ch t : ℕ) (o : UserOrigin) (s : UserState) → user_flag o ≡ false → OwnMovesBy r ch o s false (user_second (user_call_of r ch o s) t)
own_tick r ch t (Calling called) s u = own_second r ch called t s
own_tick r ch t (Offered policy at) s u = absurd (true≢false u)

own_tick_says : (r ch t : ℕ) (o : UserOrigin) (s : UserState) → user_flag o ≡ false → OfSaid (OwnSpeaks r ch o) (user_second (user_call_of r ch o s) t).reply
own_tick_says r ch t (Calling called) s u = own_second_says r ch called t s
own_tick_says r ch t (Offered policy at) s u = absurd (true≢false u)

-- a call of the exchange's stays one
offered_after : (X : PlainUserCall → Type 0) (r ch : ℕ) (o : UserOrigin) (s : UserState) (ack cleared : Bool) (n : Next PlainUserCall) → Moves r ch o s ack cleared n → user_flag o ≡ true → OnLive (λ c. user_flag c.origin ≡ false → X c) n
offered_after X r ch o s ack cleared (Live c) g u = λ f. absurd (true≢false (sym u ∙ ap user_flag (sym g.origin) ∙ f))
offered_after X r ch o s ack cleared Over g u = tt
offered_after X r ch o s ack cleared Broken g u = tt

by_origin : (P : Type 0) (b : Bool) → (b ≡ false → P) → (b ≡ true → P) → P
by_origin P true f g = g refl
by_origin P false f g = f refl

-- ---- two calls with one reference

only_all : (cs : List PlainUserCall) → AreOnTheirOwn cs → AllByRecursion (λ c. OnlyOne c cs) cs
only_all [] own = tt
only_all (c ∷ cs) own = (
  ((λ _. refl), all_calls (λ x. c.channel ≢ x.channel) (λ x. x.channel ≡ c.channel → x ≡ c) (λ x ne e. absurd (ne (sym e))) cs own.0),
  all_calls (λ x. (c.channel ≢ x.channel) × OnlyOne x cs) (λ x. OnlyOne x (c ∷ cs)) (λ x p. ((λ e. absurd (p.0 e)), p.1)) cs (both_calls (λ x. c.channel ≢ x.channel) (λ x. OnlyOne x cs) cs own.0 (only_all cs own.1)),
)

-- a message does not clear a call that stays calm over this second
abbrev Tame : ℕ → Outgoing → PlainUserCall → Type 0
Tame t o c = user_flag c.origin ≡ false → c.reference ≡ o.reference → stays_calm (user_second c t).next ≡ true → Mild o

-- what a tick sends for calls of its own: cs are the calls before it, first the reference of the first new call
record NewSent (named : ℕ → ℕ) (first next t : ℕ) (cs : List PlainUserCall) (o : Outgoing) : Type 0 where
  pub sent : InwardSent named next o
  pub tame : AllByRecursion (Tame t o) cs
  pub fresh : first ≤ o.reference → Mild o

abbrev IsNew : (ℕ → ℕ) → ℕ → ℕ → ℕ → List PlainUserCall → Outgoing → Type 0
IsNew named first next t cs o = o.flag ≡ false → NewSent named first next t cs o

-- what one of these calls says
own_says : (named : ℕ → ℕ) (next t : ℕ) (sent far_sent : List Outgoing) (cs : List PlainUserCall) → InwardCalls named next sent far_sent cs → (c : PlainUserCall) → user_flag c.origin ≡ false → InwardCall named next sent far_sent c → OnlyOne c cs → OfSaid (IsNew named next next t cs) (user_second c t).reply
own_says named next t sent far_sent cs calls c u own only =
    let step : Transition PlainUserCall = user_second c t in
    said_both (OwnSpeaks c.reference c.channel c.origin) (λ o. stays_calm step.next ≡ true → Mild o) (IsNew named next next t cs)
    (λ o s calm f.
    let given : o.reference < next = subst (λ r. r < next) (sym s.reference) own.given in
    record {
      sent = record { given = given; channel = λ k. s.setup k ∙ ap (λ (n : ℕ). Some (n, true)) (own.channel ∙ ap named (sym s.reference)) };
      tame = all_calls (λ x. Own named next sent far_sent x × (x.channel ≡ c.channel → x ≡ c)) (Tame t o)
          (λ x p v r q. calm (subst (λ y. stays_calm (user_second y t).next ≡ true) (p.1 ((p.0 v).channel ∙ ap named (r ∙ s.reference) ∙ sym own.channel)) q)) cs
          (both_calls (Own named next sent far_sent) (λ x. x.channel ≡ c.channel → x ≡ c) cs calls only);
      fresh = λ l. absurd (omega (arith, l, given));
    })
    step.reply (own_tick_says c.reference c.channel t c.origin c.state u) (under_said (stays_calm step.next ≡ true) Mild step.reply (calm_mild c.reference c.channel c false step.reply step.next (own_tick c.reference c.channel t c.origin c.state u)))

old_says : (named : ℕ → ℕ) (next t : ℕ) (sent far_sent : List Outgoing) (cs : List PlainUserCall) → InwardCalls named next sent far_sent cs → (c : PlainUserCall) → Own named next sent far_sent c × OnlyOne c cs → OfSaid (IsNew named next next t cs) (user_second c t).reply
old_says named next t sent far_sent cs calls c p = by_origin (OfSaid (IsNew named next next t cs) (user_second c t).reply) (user_flag c.origin)
    (λ u. own_says named next t sent far_sent cs calls c u (p.0 u) p.1)
    (λ u. said_map (UserSpeaks c.reference c.origin (user_second c t).next) (IsNew named next next t cs) (λ o s f. absurd (true≢false (sym (s.flag ∙ u) ∙ f))) (user_second c t).reply (second_speaks c.reference c.channel c.origin t c.state))

-- ---- rows that call

rows_keep : (I : Begun → Type 0) (t : ℕ) → ((number : List ℕ) (c : ℕ) (b : Begun) → I b → I (begin_call t number c b)) → (rows : List ScriptRow) (b : Begun) → I b → I (begin_rows t rows b)
rows_keep I t f [] b h = h
rows_keep I t f (row ∷ rows) b h = rows_keep I t f rows (begin_row t row b) (one row)
  where
    one : (row : ScriptRow) → I (begin_row t row b)
    one (Follows number policy) = h
    one (Calls number moment c) = by_cases ((moment == t) && not (is_marked b.blocked c)) _ _ I (λ _. f number c b h) (λ _. h)

-- a call of its own is on the channel of its reference, which was given
record Given (named : ℕ → ℕ) (next : ℕ) (c : PlainUserCall) : Type 0 where
  pub given : c.reference < next
  pub channel : c.channel ≡ named c.reference

abbrev IsGiven : (ℕ → ℕ) → ℕ → PlainUserCall → Type 0
IsGiven named next c = user_flag c.origin ≡ false → Given named next c

record Begins (before : ℕ → ℕ) (first t : ℕ) (cs : List PlainUserCall) (b : Begun) : Type 0 where
  pub named : ℕ → ℕ
  pub agrees : (r : ℕ) → r < first → named r ≡ before r
  pub grown : first ≤ b.next
  pub said : AllByRecursion (OfSaid (IsNew named first b.next t cs)) b.said
  pub calls : AllByRecursion (IsGiven named b.next) b.calls

-- with the channel of the next reference
abbrev with_next : (ℕ → ℕ) → ℕ → ℕ → ℕ → ℕ
with_next named next c r = if r == next then c else named r

next_named : (named : ℕ → ℕ) (next c : ℕ) → with_next named next c next ≡ c
next_named named next c = ap (λ (b : Bool). if b then c else named next) (eq-eqb next next refl)

old_named : (named : ℕ → ℕ) (next c r : ℕ) → r < next → with_next named next c r ≡ named r
old_named named next c r l = ap (λ (b : Bool). if b then c else named r) (ne_eqb r next (λ e. absurd (omega (arith, l, e))))

said_all : (P Q : Outgoing → Type 0) → ((o : Outgoing) → P o → Q o) → (said : List (Option Outgoing)) → AllByRecursion (OfSaid P) said → AllByRecursion (OfSaid Q) said
said_all P Q f [] h = tt
said_all P Q f (x ∷ said) h = (said_map P Q f x h.0, said_all P Q f said h.1)

one_more : (n r : ℕ) → r < n → r < n + 1
one_more n r l = omega (arith, l)

still_new : (named : ℕ → ℕ) (first next c t : ℕ) (cs : List PlainUserCall) (o : Outgoing) → IsNew named first next t cs o → IsNew (with_next named next c) first (next + 1) t cs o
still_new named first next c t cs o h f =
    let old = h f in
    record {
      sent = record { given = one_more next o.reference old.sent.given; channel = λ k. old.sent.channel k ∙ ap (λ (n : ℕ). Some (n, true)) (sym (old_named named next c o.reference old.sent.given)) };
      tame = old.tame;
      fresh = old.fresh;
    }

call_begins : (before : ℕ → ℕ) (first t : ℕ) (cs : List PlainUserCall) (number : List ℕ) (c : ℕ) (b : Begun) → Begins before first t cs b → Begins before first t cs (begin_call t number c b)
call_begins before first t cs number c b h =
    let n = b.next in
    let named : ℕ → ℕ = with_next h.named n c in
    let setup : Outgoing = setup_of n c number in
    record {
      named = named;
      agrees = λ r l. old_named h.named n c r (omega (arith, l, h.grown)) ∙ h.agrees r l;
      grown = omega (arith, h.grown);
      said = set_all (OfSaid (IsNew named first (n + 1) t cs)) b.said c (Some setup)
          (λ f. record {
            sent = record { given = omega arith; channel = λ k. ap (λ (x : ℕ). Some (x, true)) (sym (next_named h.named n c)) };
            tame = all_true (Tame t setup) (λ x u r q. refl) cs;
            fresh = λ l. refl;
          })
          (said_all (IsNew h.named first n t cs) (IsNew named first (n + 1) t cs) (λ o p. still_new h.named first n c t cs o p) b.said h.said);
      calls = insert_all (IsGiven named (n + 1)) (user_calling n c number t) b.calls
          (λ u. record { given = omega arith; channel = sym (next_named h.named n c) })
          (all_calls (IsGiven h.named n) (IsGiven named (n + 1)) (λ x p u. record { given = one_more n x.reference (p u).given; channel = (p u).channel ∙ sym (old_named h.named n c x.reference (p u).given) }) b.calls h.calls);
    }

-- ---- what the messages of the tick leave uncleared

-- nothing among these clears a call that stays calm over this second
abbrev Spared : ℕ → List Outgoing → PlainUserCall → Type 0
Spared t more c = user_flag c.origin ≡ false → stays_calm (user_second c t).next ≡ true → list_any (clears c.reference) more ≡ false

spared : (named : ℕ → ℕ) (first next t : ℕ) (cs : List PlainUserCall) (more : List Outgoing) → AllByRecursion (IsNew named first next t cs) more → AllByRecursion (Spared t more) cs
spared named first next t cs [] h = all_true (Spared t []) (λ c u q. refl) cs
spared named first next t cs (o ∷ os) h = by_flag (spared named first next t cs os h.1) o.flag refl
  where
    by_flag : AllByRecursion (Spared t os) cs → (b : Bool) → o.flag ≡ b → AllByRecursion (Spared t (o ∷ os)) cs
    by_flag rest true e = all_calls (Spared t os) (Spared t (o ∷ os)) (λ c p u q. or_from (clears c.reference o) (list_any (clears c.reference) os) (not_both (from_beginner c.reference o) (clears_as o.kind o.state) (λ n k. true≢false (sym e ∙ (beginner_parts c.reference o n).1))) (p u q)) cs rest
    by_flag rest false e = all_calls (λ c. Spared t os c × Tame t o c) (Spared t (o ∷ os)) (λ c p u q. or_from (clears c.reference o) (list_any (clears c.reference) os) (not_both (from_beginner c.reference o) (clears_as o.kind o.state) (λ n k. false≢true (sym (p.1 u (sym (beginner_parts c.reference o n).0) q) ∙ k))) (p.0 u q)) cs
        (both_calls (Spared t os) (Tame t o) cs rest (h.0 e).tame)

-- a call that is new
fresh_before : (named : ℕ → ℕ) (first r : ℕ) (far_sent : List Outgoing) → first ≤ r → InwardSents named first far_sent → list_any (clears r) far_sent ≡ false
fresh_before named first r far_sent l h = none_all (clears r) far_sent (all_map (λ o. o.flag ≡ false → InwardSent named first o) (λ o. clears r o ≡ false)
    (λ o p. not_both (from_beginner r o) (clears_as o.kind o.state) (λ n k. let q = beginner_parts r o n in beyond o.reference (p q.1).given q.0)) far_sent h)
  where
    beyond : (x : ℕ) → x < first → x ≡ r → ⊥
    beyond x less e = absurd (omega (arith, less, e, l))

fresh_now : (named : ℕ → ℕ) (first next t r : ℕ) (cs : List PlainUserCall) (more : List Outgoing) → first ≤ r → AllByRecursion (IsNew named first next t cs) more → list_any (clears r) more ≡ false
fresh_now named first next t r cs more l h = none_all (clears r) more (all_map (IsNew named first next t cs) (λ o. clears r o ≡ false)
    (λ o p. not_both (from_beginner r o) (clears_as o.kind o.state) (λ n k. let q = beginner_parts r o n in false≢true (sym ((p q.1).fresh (subst (λ x. first ≤ x) (sym q.0) l)) ∙ k))) more h)

-- what is left to be said of a call once all is sent
record Rests (sent far_sent : List Outgoing) (c : PlainUserCall) : Type 0 where
  pub began : is_answering c.state ≡ false
  pub calm : is_user_clearing c.state ≡ false → list_any (clears c.reference) far_sent ≡ false
  pub active : is_talking c.state ≡ true → list_any (connects c.reference) sent ≡ true

abbrev IsResting : List Outgoing → List Outgoing → PlainUserCall → Type 0
IsResting sent far_sent c = user_flag c.origin ≡ false → Rests sent far_sent c

record Resting (first : ℕ) (sent far_sent : List Outgoing) (b : Begun) : Type 0 where
  pub grown : first ≤ b.next
  pub calls : AllByRecursion (IsResting sent far_sent) b.calls

-- ---- the tick

pub record TickedInward (before : ℕ → ℕ) (next : ℕ) (sent far_sent more : List Outgoing) (f : FarDay) : Type 0 where
  pub named : ℕ → ℕ
  pub agrees : (r : ℕ) → r < next → named r ≡ before r
  pub grown : next ≤ f.next
  pub sents : InwardSents named f.next (far_sent ++ more)
  pub calls : InwardCalls named f.next sent (far_sent ++ more) f.calls

-- a call that was live before the tick
old_after : (named : ℕ → ℕ) (next t : ℕ) (sent far_sent more : List Outgoing) (c : PlainUserCall) → Own named next sent far_sent c → Spared t more c → OnLive (Own named next sent (far_sent ++ more)) (user_second c t).next
old_after named next t sent far_sent more c own quiet =
    let step : Transition PlainUserCall = user_second c t in
    by_origin (OnLive (Own named next sent (far_sent ++ more)) step.next) (user_flag c.origin)
    (λ u. own_after named next sent far_sent more c false step.reply step.next own (own_tick c.reference c.channel t c.origin c.state u) (λ _ k. absurd (false≢true k)) quiet)
    (λ u. offered_after (InwardCall named next sent (far_sent ++ more)) c.reference c.channel c.origin c.state false false step.next (second_moves c.reference c.channel c.origin t c.state) u)

begins_at : (named : ℕ → ℕ) (sent far_sent : List Outgoing) (f : FarDay) → InwardCalls named f.next sent far_sent f.calls → AreOnTheirOwn f.calls → Begins named f.next (f.moment + 1) f.calls (far_begun f (f.moment + 1))
begins_at named sent far_sent f calls apart =
    let t = f.moment + 1 in
    let first = f.next in
    let start : Begun = record { calls = second_calls t f.calls; said = second_said t f.calls no_messages; blocked = with_held f.calls f.maintenance; next = first } in
    rows_keep (Begins named first t f.calls) t (call_begins named first t f.calls) f.script start (record {
      named = named;
      agrees = λ r l. refl;
      grown = omega arith;
      said = second_said_all (IsNew named first first t f.calls) t f.calls no_messages
          (all_calls (λ c. Own named first sent far_sent c × OnlyOne c f.calls) (λ c. OfSaid (IsNew named first first t f.calls) (user_second c t).reply) (old_says named first t sent far_sent f.calls calls) f.calls
          (both_calls (Own named first sent far_sent) (λ c. OnlyOne c f.calls) f.calls calls (only_all f.calls apart))) (none_said (IsNew named first first t f.calls) 32);
      calls = second_all (IsGiven named first) (Own named first sent far_sent) t
          (λ c own. by_origin (OnLive (IsGiven named first) (user_second c t).next) (user_flag c.origin)
          (λ u. live_map (Own named first sent (far_sent ++ [])) (IsGiven named first) (λ x p v. record { given = (p v).given; channel = (p v).channel }) (user_second c t).next (own_after named first sent far_sent [] c false (user_second c t).reply (user_second c t).next own (own_tick c.reference c.channel t c.origin c.state u) (λ _ k. absurd (false≢true k)) (λ _ _. refl)))
          (λ u. offered_after (Given named first) c.reference c.channel c.origin c.state false false (user_second c t).next (second_moves c.reference c.channel c.origin t c.state) u)) f.calls calls;
    })

pub far_ticked_inward : (named : ℕ → ℕ) (sent far_sent : List Outgoing) (f : FarDay) → InwardSents named f.next far_sent → InwardCalls named f.next sent far_sent f.calls → AreOnTheirOwn f.calls → TickedInward named f.next sent far_sent (far_ticked f).sent (far_ticked f).day
far_ticked_inward named sent far_sent f sents calls apart =
    let t = f.moment + 1 in
    let first = f.next in
    let more = (far_ticked f).sent in
    let start : Begun = record { calls = second_calls t f.calls; said = second_said t f.calls no_messages; blocked = with_held f.calls f.maintenance; next = first } in
    let b : Begins named first t f.calls (far_begun f t) = begins_at named sent far_sent f calls apart in
    let new : AllByRecursion (IsNew b.named first (far_begun f t).next t f.calls) more = ordered (IsNew b.named first (far_begun f t).next t f.calls) (far_begun f t).said b.said in
    let rest : Resting first sent (far_sent ++ more) (far_begun f t) = rows_keep (Resting first sent (far_sent ++ more)) t
    (λ number c x h. record {
      grown = omega (arith, h.grown);
      calls = insert_all (IsResting sent (far_sent ++ more)) (user_calling x.next c number t) x.calls
          (λ u. record {
            began = refl;
            calm = λ q. has_none (clears x.next) far_sent more (fresh_before named first x.next far_sent h.grown sents) (fresh_now b.named first (far_begun f t).next t x.next f.calls more h.grown new);
            active = λ q. absurd (false≢true q);
          }) h.calls;
    }) f.script start
    (record {
      grown = omega arith;
      calls = second_all (IsResting sent (far_sent ++ more)) (λ c. Own named first sent far_sent c × Spared t more c) t
          (λ c p. live_map (Own named first sent (far_sent ++ more)) (IsResting sent (far_sent ++ more)) (λ x h u. record { began = (h u).began; calm = (h u).calm; active = (h u).active }) (user_second c t).next (old_after named first t sent far_sent more c p.0 p.1)) f.calls
          (both_calls (Own named first sent far_sent) (Spared t more) f.calls calls (spared b.named first (far_begun f t).next t f.calls more new));
    }) in
    record {
      named = b.named;
      agrees = b.agrees;
      grown = b.grown;
      sents = all_joined (λ o. o.flag ≡ false → InwardSent b.named (far_begun f t).next o) far_sent more
          (all_map (λ o. o.flag ≡ false → InwardSent named first o) (λ o. o.flag ≡ false → InwardSent b.named (far_begun f t).next o)
          (λ o p q. let old = p q in record { given = further o.reference old.given b.grown; channel = λ k. old.channel k ∙ ap (λ (n : ℕ). Some (n, true)) (sym (b.agrees o.reference old.given)) }) far_sent sents)
          (all_map (IsNew b.named first (far_begun f t).next t f.calls) (λ o. o.flag ≡ false → InwardSent b.named (far_begun f t).next o) (λ o p q. (p q).sent) more new);
      calls = all_calls (λ c. IsGiven b.named (far_begun f t).next c × IsResting sent (far_sent ++ more) c) (Own b.named (far_begun f t).next sent (far_sent ++ more))
          (λ c p u. record { given = (p.0 u).given; channel = (p.0 u).channel; began = (p.1 u).began; calm = (p.1 u).calm; active = (p.1 u).active }) (far_begun f t).calls
          (both_calls (IsGiven b.named (far_begun f t).next) (IsResting sent (far_sent ++ more)) (far_begun f t).calls b.calls rest.calls);
    }
  where
    further : (r : ℕ) → r < f.next → f.next ≤ (far_begun f (f.moment + 1)).next → r < (far_begun f (f.moment + 1)).next
    further r l g = omega (arith, l, g)
