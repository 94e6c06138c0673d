-- A tick of the far end as it goes on, slot by slot and row by row.
use Rattle.std.proofs.Common.{◌≡◌, ◌≢◌, ℕ, zero, suc, ◌+◌, ◌≤◌, ◌<◌, ◌==◌, Bool, true, false, List, [], ◌∷◌, length, map, Option, Some, None, arith, refl, sym, subst, ap, ap₂, ◌∙◌, slice_set, slice_index_or, if◌then◌else◌, nat_lt, nat_le, drop, drop-cons, replicate, length-set}
use Rattle.std.proofs.lemmas.Bool.{false≢true, eq-eqb, eqb-true}
use Rattle.std.proofs.lemmas.Bool.Decides.{nat_tests}
use Rattle.std.proofs.lemmas.List.{get_or-set_other, drop_all, get_or_default}
use Rattle.bx_channels.specs.ChannelNumbers.{IsChannel}
use Rattle.bx_q931.specs.Outgoing.{Outgoing}
use Rattle.bx_calls.specs.PlainCalls.{PlainUserCall}
use Rattle.bx_calls.specs.UserTable.{user_second, user_calling}
use Rattle.bx_calls.specs.Saying.{setup_of}
use Rattle.bx_calls.specs.declared.transition.Transition.{Transition}
use Rattle.bx_calls.specs.declared.user_state.Policy.TheVariants.{Answer}
use Rattle.bx_far.specs.declared.row.ScriptRow.{ScriptRow}
use Rattle.bx_far.specs.declared.row.ScriptRow.TheVariants.{Follows, Calls}
use Rattle.bx_channels.specs.Marks.{is_marked}
use Rattle.bx_far.specs.FarDay.{FarDay, far_tick, far_ticked, Begun, begin_call, begin_row, insert_call, begin_rows, no_messages, second_calls, second_maintenance, second_said, settle_maintenance, next_then, with_held}
use Rattle.bx_calls.specs.Sending.{in_order}
use Rattle.bx_far.specs.Seats.{live_calls, IsCallSeat, AreSeated, calls_later}
use Rattle.bx_far.specs.Inside.{live_call_of, call_slot_at, calls_now}
use Rattle.bx_far.specs.BegunTicks.{after_slot, AreSpoken, IsFree, IsBegunTick}
use Rattle.bx_far.proofs.Seats.{seat_at, next_is, seated_set, insert_is}
use Rattle.bx_far.proofs.Keeping.{seat_of, second_keeps}
use Rattle.bx_far.proofs.Kept.{rest_is}

decide : {P : Type 0} (b : Bool) → (b ≡ true → P) → (b ≡ false → P) → P
decide true f g = f refl
decide false f g = g refl

-- ---- the slots of which the first n had their second

abbrev pub moved_first : ℕ → ℕ → List (Option PlainUserCall) → List (Option PlainUserCall)
moved_first t zero slots = slots
moved_first t (suc n) [] = []
moved_first t (suc n) (o ∷ os) = after_slot t o ∷ moved_first t n os

pub moved_at : (t n : ℕ) (slots : List (Option PlainUserCall)) → call_slot_at (moved_first t n slots) n ≡ call_slot_at slots n
moved_at t zero slots = refl
moved_at t (suc n) [] = refl
moved_at t (suc n) (o ∷ os) = moved_at t n os

moved_next : (t n : ℕ) (o : Option PlainUserCall) (slots : List (Option PlainUserCall)) → n < length slots → after_slot t (call_slot_at slots n) ≡ o → slice_set (moved_first t n slots) n o ≡ moved_first t (suc n) slots
moved_next t zero o [] lt e = absurd (omega (arith, lt))
moved_next t zero o (x ∷ xs) lt e = ap (λ y. y ∷ xs) (sym e)
moved_next t (suc n) o [] lt e = absurd (omega (arith, lt))
moved_next t (suc n) o (x ∷ xs) lt e = ap (λ ys. after_slot t x ∷ ys) (moved_next t n o xs (omega (arith, lt)) e)

moved_past : (t n : ℕ) (slots : List (Option PlainUserCall)) → call_slot_at slots n ≡ None → moved_first t n slots ≡ moved_first t (suc n) slots
moved_past t zero [] e = refl
moved_past t zero (x ∷ xs) e = ap (λ y. y ∷ xs) (e ∙ sym (ap (after_slot t) e))
moved_past t (suc n) [] e = refl
moved_past t (suc n) (x ∷ xs) e = ap (λ ys. after_slot t x ∷ ys) (moved_past t n xs e)

moved_all : (t n : ℕ) (slots : List (Option PlainUserCall)) → length slots ≤ n → moved_first t n slots ≡ map (after_slot t) slots
moved_all t zero [] le = refl
moved_all t zero (x ∷ xs) le = absurd (omega (arith, le))
moved_all t (suc n) [] le = refl
moved_all t (suc n) (x ∷ xs) le = ap (λ ys. after_slot t x ∷ ys) (moved_all t n xs (omega (arith, le)))

pub seconds_are : (t : ℕ) (slots : List (Option PlainUserCall)) → live_calls (map (after_slot t) slots) ≡ second_calls t (live_calls slots)
seconds_are t [] = refl
seconds_are t (None ∷ xs) = seconds_are t xs
seconds_are t (Some call ∷ xs) = next_is (user_second call t).next (map (after_slot t) xs) ∙ ap (next_then (user_second call t).next) (seconds_are t xs)

pub seconds_seated : (t k : ℕ) (slots : List (Option PlainUserCall)) → AreSeated k slots → AreSeated k (map (after_slot t) slots)
seconds_seated t k [] h = tt
seconds_seated t k (None ∷ xs) h = (tt, seconds_seated t (suc k) xs h.1)
seconds_seated t k (Some call ∷ xs) h = (subst (λ n. IsCallSeat n (live_call_of (user_second call t).next)) h.0.0 (seat_of call.channel (user_second call t).next (second_keeps call t) (subst IsChannel (sym h.0.0) h.0.1)), seconds_seated t (suc k) xs h.1)

pub seconds_free : (t c : ℕ) (slots : List (Option PlainUserCall)) → call_slot_at slots c ≡ None → call_slot_at (map (after_slot t) slots) c ≡ None
seconds_free t c [] e = refl
seconds_free t zero (x ∷ xs) e = ap (after_slot t) e
seconds_free t (suc c) (x ∷ xs) e = seconds_free t c xs e

pub seconds_size : (t : ℕ) (slots : List (Option PlainUserCall)) → length (map (after_slot t) slots) ≡ length slots
seconds_size t [] = refl
seconds_size t (x ∷ xs) = ap suc (seconds_size t xs)

-- ---- what is said

pub spoken_set : (j c n : ℕ) (o : Option Outgoing) (said : List (Option Outgoing)) → n ≡ j + c → IsChannel n → AreSpoken j said → AreSpoken j (slice_set said c o)
spoken_set j c n o [] e channel h = h
spoken_set j zero n None (x ∷ xs) e channel h = (tt, h.1)
spoken_set j zero n (Some m) (x ∷ xs) e channel h = (subst IsChannel (let q : n ≡ j = omega (arith, e) in q) channel, h.1)
spoken_set j (suc c) n o (x ∷ xs) e channel h = (h.0, spoken_set (suc j) c n o xs (omega (arith, e)) channel h.1)

pub nothing_spoken : (n k : ℕ) → AreSpoken k (replicate n None)
nothing_spoken zero k = tt
nothing_spoken (suc n) k = (tt, nothing_spoken n (suc k))

-- how many messages these slots have room for
abbrev room : ℕ → ℕ
room k = if k == 0 then 0 else if k == 16 then 0 else 1

abbrev rooms : ℕ → ℕ → ℕ
rooms k zero = 0
rooms k (suc n) = room k + rooms (suc k) n

room_one : (k : ℕ) → IsChannel k → room k ≡ 1
room_one k channel = decide (k == 0)
    (λ e. let z : k ≡ 0 = eqb-true k 0 e in absurd (omega (arith, z, channel.0)))
    (λ e. decide (k == 16) (λ s. absurd (channel.2 (eqb-true k 16 s))) (λ s. rw (e, s) refl))

few_from : (k : ℕ) (said : List (Option Outgoing)) → AreSpoken k said → length (in_order said) ≤ rooms k (length said)
few_from k [] h = omega arith
few_from k (None ∷ xs) h = omega (arith, few_from (suc k) xs h.1)
few_from k (Some o ∷ xs) h = omega (arith, few_from (suc k) xs h.1, room_one k h.0)

pub few : (said : List (Option Outgoing)) → length said ≡ 32 → AreSpoken 0 said → length (in_order said) ≤ 30
few said size h = subst (λ n. length (in_order said) ≤ rooms 0 n) size (few_from 0 said h)

-- ---- a pass of seconds over the slots

pub record Passed (t : ℕ) (slots : List (Option PlainUserCall)) (ms : List Bool) (i : ℕ) (now : List (Option PlainUserCall)) (left : List Bool) (said : List (Option Outgoing)) : Type 0 where
  pub moved : now ≡ moved_first t i slots
  pub maintenance : second_maintenance t (live_calls (drop i slots)) left ≡ second_maintenance t (live_calls slots) ms
  pub said_is : second_said t (live_calls (drop i slots)) said ≡ second_said t (live_calls slots) no_messages
  pub spoken : AreSpoken 0 said
  pub size : length said ≡ 32

pub none_passed : (t : ℕ) (slots : List (Option PlainUserCall)) (ms : List Bool) → Passed t slots ms 0 slots ms no_messages
none_passed t slots ms = record { moved = refl; maintenance = refl; said_is = refl; spoken = nothing_spoken 32 0; size = refl }

pub passed_none : (t : ℕ) (slots : List (Option PlainUserCall)) (ms : List Bool) (i : ℕ) (now : List (Option PlainUserCall)) (left : List Bool) (said : List (Option Outgoing))
    → i < length slots → call_slot_at slots i ≡ None → Passed t slots ms i now left said → Passed t slots ms (i + 1) now left said
passed_none t slots ms i now left said lt none p =
    let rest : live_calls (drop i slots) ≡ live_calls (drop (i + 1) slots) = ap live_calls (rest_is slots i lt) ∙ ap (λ o. live_calls (o ∷ drop (i + 1) slots)) none in
    let one : suc i ≡ i + 1 = omega arith in
    record {
      moved = p.moved ∙ moved_past t i slots none ∙ ap (λ n. moved_first t n slots) one;
      maintenance = ap (λ cs. second_maintenance t cs left) (sym rest) ∙ p.maintenance;
      said_is = ap (λ cs. second_said t cs said) (sym rest) ∙ p.said_is;
      spoken = p.spoken;
      size = p.size;
    }

pub passed_call : (t : ℕ) (slots : List (Option PlainUserCall)) (ms : List Bool) (i : ℕ) (now now' : List (Option PlainUserCall)) (left left' : List Bool) (said said' : List (Option Outgoing)) (call : PlainUserCall) (step : Transition PlainUserCall) (n : ℕ)
    → i < length slots → AreSeated 0 slots → call_slot_at slots i ≡ Some call → step ≡ user_second call t → n ≡ call.channel
    → now' ≡ slice_set now n (live_call_of step.next) → left' ≡ settle_maintenance n step.next left → said' ≡ slice_set said i step.reply
    → Passed t slots ms i now left said → Passed t slots ms (i + 1) now' left' said'
passed_call t slots ms i now now' left left' said said' call step n lt seated at is on now-is left-is said-is p =
    let seat = seat_at 0 i i call slots (omega arith) at seated in
    let here : n ≡ i = on ∙ seat.0 in
    let rest : live_calls (drop i slots) ≡ call ∷ live_calls (drop (i + 1) slots) = ap live_calls (rest_is slots i lt) ∙ ap (λ o. live_calls (o ∷ drop (i + 1) slots)) at in
    let one : suc i ≡ i + 1 = omega arith in
    record {
      moved = now-is ∙ ap₂ (λ k xs. slice_set xs k (live_call_of step.next)) here p.moved
          ∙ moved_next t i (live_call_of step.next) slots lt (ap (after_slot t) at ∙ sym (ap (λ (s : Transition PlainUserCall). live_call_of s.next) is))
          ∙ ap (λ k. moved_first t k slots) one;
      maintenance = ap (second_maintenance t (live_calls (drop (i + 1) slots))) (left-is ∙ ap₂ (λ k (s : Transition PlainUserCall). settle_maintenance k s.next left) on is)
          ∙ ap (λ cs. second_maintenance t cs left) (sym rest) ∙ p.maintenance;
      said_is = ap (second_said t (live_calls (drop (i + 1) slots))) (said-is ∙ ap₂ (λ k (s : Transition PlainUserCall). slice_set said k s.reply) (sym seat.0) is)
          ∙ ap (λ cs. second_said t cs said) (sym rest) ∙ p.said_is;
      spoken = subst (AreSpoken 0) (sym said-is) (spoken_set 0 i i step.reply said (omega arith) seat.1 p.spoken);
      size = ap length said-is ∙ length-set said i step.reply ∙ p.size;
    }

pub passed_by : (t : ℕ) (slots : List (Option PlainUserCall)) (ms : List Bool) (i : ℕ) (now now' : List (Option PlainUserCall)) (left left' : List Bool) (said said' : List (Option Outgoing))
    → i < length slots → call_slot_at slots i ≡ None → now' ≡ now → left' ≡ left → said' ≡ said → Passed t slots ms i now left said → Passed t slots ms (i + 1) now' left' said'
passed_by t slots ms i now now' left left' said said' lt none now-is left-is said-is p =
    subst (λ xs. Passed t slots ms (i + 1) xs left' said') (sym now-is)
    (subst (λ bs. Passed t slots ms (i + 1) now bs said') (sym left-is)
    (subst (Passed t slots ms (i + 1) now left) (sym said-is) (passed_none t slots ms i now left said lt none p)))

pub moved_size : (t n : ℕ) (slots : List (Option PlainUserCall)) → length (moved_first t n slots) ≡ length slots
moved_size t zero slots = refl
moved_size t (suc n) [] = refl
moved_size t (suc n) (o ∷ os) = ap suc (moved_size t n os)

pub record Seconded (t : ℕ) (slots : List (Option PlainUserCall)) (ms : List Bool) (now : List (Option PlainUserCall)) (left : List Bool) (said : List (Option Outgoing)) : Type 0 where
  pub calls : now ≡ map (after_slot t) slots
  pub maintenance : left ≡ second_maintenance t (live_calls slots) ms
  pub said_is : said ≡ second_said t (live_calls slots) no_messages

pub all_passed : (t : ℕ) (slots : List (Option PlainUserCall)) (ms : List Bool) (i : ℕ) (now : List (Option PlainUserCall)) (left : List Bool) (said : List (Option Outgoing))
    → length slots ≤ i → Passed t slots ms i now left said → Seconded t slots ms now left said
all_passed t slots ms i now left said le p =
    let none : drop i slots ≡ [] = drop_all i slots le in
    record {
      calls = p.moved ∙ moved_all t i slots le;
      maintenance = ap (λ xs. second_maintenance t (live_calls xs) left) (sym none) ∙ p.maintenance;
      said_is = ap (λ xs. second_said t (live_calls xs) said) (sym none) ∙ p.said_is;
    }

-- ---- the channels that are held

pub held_none : (slots : List (Option PlainUserCall)) (i : ℕ) (held ms : List Bool) → i < length slots → call_slot_at slots i ≡ None
    → with_held (live_calls (drop i slots)) held ≡ with_held (live_calls slots) ms → with_held (live_calls (drop (i + 1) slots)) held ≡ with_held (live_calls slots) ms
held_none slots i held ms lt none h = ap (λ cs. with_held cs held) (sym (ap live_calls (rest_is slots i lt) ∙ ap (λ o. live_calls (o ∷ drop (i + 1) slots)) none)) ∙ h

pub held_call : (slots : List (Option PlainUserCall)) (i n : ℕ) (held held' ms : List Bool) (call : PlainUserCall) → i < length slots → call_slot_at slots i ≡ Some call → n ≡ call.channel → held' ≡ slice_set held n true
    → with_held (live_calls (drop i slots)) held ≡ with_held (live_calls slots) ms → with_held (live_calls (drop (i + 1) slots)) held' ≡ with_held (live_calls slots) ms
held_call slots i n held held' ms call lt at on is h =
    ap (with_held (live_calls (drop (i + 1) slots))) (is ∙ ap (λ k. slice_set held k true) on)
    ∙ ap (λ cs. with_held cs held) (sym (ap live_calls (rest_is slots i lt) ∙ ap (λ o. live_calls (o ∷ drop (i + 1) slots)) at)) ∙ h

pub held_all : (slots : List (Option PlainUserCall)) (i : ℕ) (held ms : List Bool) → length slots ≤ i → with_held (live_calls (drop i slots)) held ≡ with_held (live_calls slots) ms → held ≡ with_held (live_calls slots) ms
held_all slots i held ms le h = ap (λ xs. with_held (live_calls xs) held) (sym (drop_all i slots le)) ∙ h

abbrev pub IsFreeBelow : ℕ → List (Option PlainUserCall) → List Bool → Type 0
IsFreeBelow i slots held = (c : ℕ) → c < i → is_marked held c ≡ false → call_slot_at slots c ≡ None

pub below_none : (slots : List (Option PlainUserCall)) (i : ℕ) (held : List Bool) → call_slot_at slots i ≡ None → IsFreeBelow i slots held → IsFreeBelow (i + 1) slots held
below_none slots i held none h c lt unset = decide (c == i)
    (λ e. subst (λ k. call_slot_at slots k ≡ None) (sym (eqb-true c i e)) none)
    (λ e. h c (omega (arith, lt, apart c i e)) unset)
  where
    apart : (a b : ℕ) → (a == b) ≡ false → a ≢ b
    apart a b e q = false≢true (sym e ∙ eq-eqb a b q)

pub below_call : (slots : List (Option PlainUserCall)) (i n : ℕ) (held held' : List Bool) → n ≡ i → is_marked held' n ≡ true → ((k : ℕ) → k ≢ n → is_marked held' k ≡ is_marked held k) → IsFreeBelow i slots held → IsFreeBelow (i + 1) slots held'
below_call slots i n held held' here added others h c lt unset = decide (c == n)
    (λ e. absurd (false≢true (sym unset ∙ ap (is_marked held') (eqb-true c n e) ∙ added)))
    (λ e. let ne : c ≢ n = λ q. false≢true (sym e ∙ eq-eqb c n q) in h c (omega (arith, lt, here, ne)) (sym (others c ne) ∙ unset))

past : (slots : List (Option PlainUserCall)) (c : ℕ) → length slots ≤ c → call_slot_at slots c ≡ None
past [] c le = refl
past (x ∷ xs) zero le = absurd (omega (arith, le))
past (x ∷ xs) (suc c) le = past xs c (omega (arith, le))

pub below_all : (slots : List (Option PlainUserCall)) (i : ℕ) (held : List Bool) → length slots ≤ i → IsFreeBelow i slots held → IsFree slots held
below_all slots i held le h c unset = decide (nat_lt c i)
    (λ e. h c (lt_from c i e) unset)
    (λ e. past slots c (let q : i ≤ c = le_from c i e in omega (arith, q, le)))
  where
    lt_from : (a b : ℕ) → nat_lt a b ≡ true → a < b
    lt_from a b e = grind (arith, nat_tests)

    le_from : (a b : ℕ) → nat_lt a b ≡ false → b ≤ a
    le_from a b e = grind (arith, nat_tests)

-- a call on a channel that was not blocked
pub free_kept : (slots : List (Option PlainUserCall)) (n : ℕ) (call : PlainUserCall) (blocked blocked' : List Bool) → is_marked blocked' n ≡ true → ((k : ℕ) → k ≢ n → is_marked blocked' k ≡ is_marked blocked k) → IsFree slots blocked → IsFree (slice_set slots n (Some call)) blocked'
free_kept slots n call blocked blocked' added others h c unset = decide (c == n)
    (λ e. absurd (false≢true (sym unset ∙ ap (is_marked blocked') (eqb-true c n e) ∙ added)))
    (λ e. let ne : c ≢ n = λ q. false≢true (sym e ∙ eq-eqb c n q) in get_or-set_other slots n c (Some call) None ne ∙ h c (sym (others c ne) ∙ unset))

-- ---- a call that a row begins

pub turn_begun : (calls : List (Option PlainUserCall)) (said : List (Option Outgoing)) (blocked blocked' : List Bool) (next n : ℕ) (call : PlainUserCall) (out : Outgoing)
    → IsChannel n → call.channel ≡ n → is_marked blocked' n ≡ true → ((k : ℕ) → k ≢ n → is_marked blocked' k ≡ is_marked blocked k)
    → IsBegunTick calls said blocked next → IsBegunTick (slice_set calls n (Some call)) (slice_set said n (Some out)) blocked' (next + 1)
turn_begun calls said blocked blocked' next n call out channel on added others h = record {
  size = length-set calls n (Some call) ∙ h.size;
  seated = seated_set 0 n n (Some call) calls (omega arith) (on, channel) h.seated;
  slots = length-set said n (Some out) ∙ h.slots;
  spoken = spoken_set 0 n n (Some out) said (omega arith) channel h.spoken;
  free = free_kept calls n call blocked blocked' added others h.free;
  first = omega arith;
}

pub begin_value : (t : ℕ) (number : List ℕ) (n : ℕ) (calls : List (Option PlainUserCall)) (said : List (Option Outgoing)) (blocked blocked' : List Bool) (next : ℕ) (call : PlainUserCall) (out : Outgoing)
    → length calls ≡ 32 → IsChannel n → AreSeated 0 calls → call_slot_at calls n ≡ None → call ≡ user_calling next n number t → out ≡ setup_of next n number → blocked' ≡ slice_set blocked n true
    → ◌≡◌ {A = Begun} (record { calls = live_calls (slice_set calls n (Some call)); said = slice_set said n (Some out); blocked = blocked'; next = next + 1 })
    (begin_call t number n (record { calls = live_calls calls; said = said; blocked = blocked; next = next }))
begin_value t number n calls said blocked blocked' next call out size channel seated none call-is out-is blocked-is =
    let on : call.channel ≡ n = ap (λ (k : PlainUserCall). k.channel) call-is in
    let inserted : live_calls (slice_set calls n (Some call)) ≡ insert_call (user_calling next n number t) (live_calls calls) =
    insert_is 0 n call calls (omega (arith, on)) (omega (arith, size, channel.1)) none seated ∙ ap (λ k. insert_call k (live_calls calls)) call-is in
    ap (λ (cs : List PlainUserCall). record { calls = cs; said = slice_set said n (Some out); blocked = blocked'; next = next + 1 }) inserted
    ∙ ap₂ (λ (o : Outgoing) (bs : List Bool). record { calls = insert_call (user_calling next n number t) (live_calls calls); said = slice_set said n (Some o); blocked = bs; next = next + 1 }) out-is blocked-is

-- ---- rows that call

abbrev pub no_row : ScriptRow
no_row = Follows None (Answer 0)

pub row_rest : (rows : List ScriptRow) (k : ℕ) (row : ScriptRow) → row ≡ slice_index_or rows k row → k < length rows → drop k rows ≡ row ∷ drop (k + 1) rows
row_rest rows k row is lt =
    drop-cons rows k no_row lt ∙ ap₂ (λ r n. r ∷ drop n rows) (sym (is ∙ get_or_default rows k row no_row lt)) (let q : suc k ≡ k + 1 = omega arith in q)

pub now_split : (t : ℕ) (row : ScriptRow) (rows : List ScriptRow) → calls_now t (row ∷ rows) ≡ calls_now t (row ∷ []) + calls_now t rows
now_split t (Follows number policy) rows = omega arith
now_split t (Calls number moment channel) rows = decide (moment == t) (λ e. rw e (omega arith)) (λ e. rw e (omega arith))

pub row_room : (t : ℕ) (row : ScriptRow) (b : Begun) → (begin_row t row b).next ≤ b.next + calls_now t (row ∷ [])
row_room t (Follows number policy) b = omega arith
row_room t (Calls number moment channel) b = decide (moment == t)
    (λ e. decide (is_marked b.blocked channel) (λ s. rw (e, s) (omega arith)) (λ s. rw (e, s) (omega arith)))
    (λ e. rw e (omega arith))

pub rows_room : (t : ℕ) (rows : List ScriptRow) (b : Begun) → (begin_rows t rows b).next ≤ b.next + calls_now t rows
rows_room t [] b = omega arith
rows_room t (row ∷ rows) b = omega (arith, rows_room t rows (begin_row t row b), row_room t row b, now_split t row rows)

-- a row after t calls at t + 1 or after it
abbrev Agree : Bool → Bool → Bool → Type 0
Agree true true false = Unit {0}
Agree true false true = Unit {0}
Agree false false false = Unit {0}
Agree _ _ _ = ⊥

lt_is : (t m : ℕ) → nat_lt (t + 1) m ≡ true → nat_lt t m ≡ true
lt_is t m e = grind (arith, nat_tests)

ne_is : (t m : ℕ) → nat_lt (t + 1) m ≡ true → (m == (t + 1)) ≡ false
ne_is t m e = grind (arith, nat_tests)

eq_is : (t m : ℕ) → (m == (t + 1)) ≡ true → nat_lt t m ≡ true
eq_is t m e = grind (arith, nat_tests)

ge_is : (t m : ℕ) → nat_lt (t + 1) m ≡ false → (m == (t + 1)) ≡ false → nat_lt t m ≡ false
ge_is t m e q = grind (arith, nat_tests)

tests : (t m : ℕ) → Agree (nat_lt t m) (m == (t + 1)) (nat_lt (t + 1) m)
tests t m = decide (nat_lt (t + 1) m)
    (λ e. rw (e, lt_is t m e, ne_is t m e) tt)
    (λ e. decide (m == (t + 1)) (λ q. rw (e, q, eq_is t m q) tt) (λ q. rw (e, q, ge_is t m e q) tt))

counted : (a b c : Bool) (x y z : ℕ) → x ≡ y + z → Agree a b c → (if a then suc x else x) ≡ (if b then suc y else y) + (if c then suc z else z)
counted true true false x y z e h = omega (arith, e)
counted true false true x y z e h = omega (arith, e)
counted false false false x y z e h = e
counted true true true x y z e h = absurd h
counted true false false x y z e h = absurd h
counted false true true x y z e h = absurd h
counted false true false x y z e h = absurd h
counted false false true x y z e h = absurd h

pub later_split : (t : ℕ) (rows : List ScriptRow) → calls_later t rows ≡ calls_now (t + 1) rows + calls_later (t + 1) rows
later_split t [] = refl
later_split t (Follows number policy ∷ rows) = later_split t rows
later_split t (Calls number moment channel ∷ rows) = counted (nat_lt t moment) (moment == (t + 1)) (nat_lt (t + 1) moment) (calls_later t rows) (calls_now (t + 1) rows) (calls_later (t + 1) rows) (later_split t rows) (tests t moment)

-- ---- a tick

pub started : (t : ℕ) (slots now : List (Option PlainUserCall)) (ms blocked : List Bool) (said : List (Option Outgoing)) (next : ℕ)
    → now ≡ map (after_slot t) slots → said ≡ second_said t (live_calls slots) no_messages → blocked ≡ with_held (live_calls slots) ms
    → ◌≡◌ {A = Begun} (record { calls = live_calls now; said = said; blocked = blocked; next = next })
    (record { calls = second_calls t (live_calls slots); said = second_said t (live_calls slots) no_messages; blocked = with_held (live_calls slots) ms; next = next })
started t slots now ms blocked said next now-is said-is blocked-is =
    ap (λ (cs : List PlainUserCall). record { calls = cs; said = said; blocked = blocked; next = next }) (ap live_calls now-is ∙ seconds_are t slots)
    ∙ ap₂ (λ (os : List (Option Outgoing)) (bs : List Bool). record { calls = second_calls t (live_calls slots); said = os; blocked = bs; next = next }) said-is blocked-is

pub early : (n : ℕ) → n < 300000 → nat_le 300000 n ≡ false
early n lt = grind (arith, nat_tests)

pub ticked_is : (d : FarDay) → nat_le 300000 d.moment ≡ false → far_tick d ≡ far_ticked d
ticked_is d e = ap (λ (b : Bool). if b then record { day = d; sent = [] } else far_ticked d) e
