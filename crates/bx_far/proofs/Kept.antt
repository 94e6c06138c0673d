-- What a far end keeps, and what it says of its channels.
use Rattle.std.proofs.Common.{◌≡◌, ◌≢◌, ℕ, zero, suc, replicate, ◌+◌, ◌≤◌, ◌<◌, ◌||◌, Bool, true, false, List, [], ◌∷◌, length, Option, Some, None, arith, refl, sym, ap, ◌∙◌, slice_set, slice_index_or, is_some, nat_lt, if◌then◌else◌, ◌==◌, length-set, drop, drop-cons}
use Rattle.std.proofs.lemmas.Bool.{false≢true}
use Rattle.std.proofs.lemmas.List.{get_or_default}
use Rattle.bx_calls.specs.Said.{Said}
use Rattle.bx_calls.specs.PlainCalls.{PlainUserCall}
use Rattle.bx_calls.specs.UserTable.{user_offered}
use Rattle.bx_calls.specs.declared.user_state.Policy.{Policy}
use Rattle.bx_calls.specs.declared.user_state.Policy.TheVariants.{Answer, Busy, Silent, Alert, Proceed, Clear}
use Rattle.bx_far.specs.declared.row.ScriptRow.{ScriptRow}
use Rattle.bx_far.specs.declared.row.ScriptRow.TheVariants.{Follows, Calls}
use Rattle.bx_channels.specs.Marks.{is_marked}
use Rattle.bx_far.specs.FarDay.{FarDay, far_takes, holder, is_taken, insert_call, first_call}
use Rattle.bx_far.specs.Seats.{live_calls, IsCallSeat, AreSeated, IsFar, calls_later}
use Rattle.bx_far.specs.Inside.{call_slot_at}
use Rattle.bx_far.proofs.Seats.{holder_is, seated_set}

pub slot_read : (slots : List (Option PlainUserCall)) (k : ℕ) (r : Option PlainUserCall) → r ≡ slice_index_or slots k r → k < length slots → call_slot_at slots k ≡ r
slot_read slots k r is lt = sym (is ∙ get_or_default slots k r None lt)

pub rest_is : (slots : List (Option PlainUserCall)) (k : ℕ) → k < length slots → drop k slots ≡ call_slot_at slots k ∷ drop (k + 1) slots
rest_is slots k lt = drop-cons slots k None lt ∙ ap (λ n. call_slot_at slots k ∷ drop n slots) (let q : suc k ≡ k + 1 = omega arith in q)

pub not_some : (o : Option PlainUserCall) → ((call : PlainUserCall) → o ≡ Some call → ⊥) → o ≡ None
not_some None h = refl
not_some (Some x) h = absurd (h x refl)

-- ---- the first call that passes, slot by slot

pub passes_here : (test : PlainUserCall → Bool) (slots : List (Option PlainUserCall)) (k : ℕ) (call : PlainUserCall) → k < length slots → call_slot_at slots k ≡ Some call → test call ≡ true
    → first_call test (live_calls (drop k slots)) ≡ Some call
passes_here test slots k call lt at passes =
    ap (λ xs. first_call test (live_calls xs)) (rest_is slots k lt)
    ∙ ap (λ o. first_call test (live_calls (o ∷ drop (k + 1) slots))) at
    ∙ ap (λ (b : Bool). if b then Some call else first_call test (live_calls (drop (k + 1) slots))) passes

pub passes_not : (test : PlainUserCall → Bool) (slots : List (Option PlainUserCall)) (k : ℕ) (call : PlainUserCall) → k < length slots → call_slot_at slots k ≡ Some call → test call ≡ false
    → first_call test (live_calls (drop k slots)) ≡ first_call test (live_calls (drop (k + 1) slots))
passes_not test slots k call lt at passes =
    ap (λ xs. first_call test (live_calls xs)) (rest_is slots k lt)
    ∙ ap (λ o. first_call test (live_calls (o ∷ drop (k + 1) slots))) at
    ∙ ap (λ (b : Bool). if b then Some call else first_call test (live_calls (drop (k + 1) slots))) passes

pub passes_none : (test : PlainUserCall → Bool) (slots : List (Option PlainUserCall)) (k : ℕ) → k < length slots → call_slot_at slots k ≡ None
    → first_call test (live_calls (drop k slots)) ≡ first_call test (live_calls (drop (k + 1) slots))
passes_none test slots k lt at =
    ap (λ xs. first_call test (live_calls xs)) (rest_is slots k lt)
    ∙ ap (λ o. first_call test (live_calls (o ∷ drop (k + 1) slots))) at

pub empty_seated : (n k : ℕ) → AreSeated k (replicate n None)
empty_seated zero k = tt
empty_seated (suc n) k = (tt, empty_seated n (suc k))

pub holder_slot : (d : FarDay) (slots : List (Option PlainUserCall)) (c : ℕ) → live_calls slots ≡ d.calls → AreSeated 0 slots → holder d c ≡ call_slot_at slots c
holder_slot d slots c e h = ap (first_call (λ x. x.channel == c)) (sym e) ∙ holder_is 0 c c slots (omega arith) h

or_false : (a b : Bool) → (a || b) ≡ false → a ≡ false
or_false true b h = h
or_false false b h = refl

none_of : (o : Option PlainUserCall) → is_some o ≡ false → o ≡ None
none_of None h = refl
none_of (Some x) h = absurd (false≢true (sym h))

pub free_slot : (d : FarDay) (slots : List (Option PlainUserCall)) (c : ℕ) → live_calls slots ≡ d.calls → AreSeated 0 slots → is_taken d c ≡ false → call_slot_at slots c ≡ None
free_slot d slots c e h free = sym (holder_slot d slots c e h) ∙ none_of (holder d c) (or_false (is_some (holder d c)) (is_marked d.maintenance c) free)

-- a call in the slot of its channel
pub far_with : (script : List ScriptRow) (moment next c : ℕ) (slots : List (Option PlainUserCall)) (o : Option PlainUserCall) → IsCallSeat c o → IsFar script moment next slots → IsFar script moment next (slice_set slots c o)
far_with script moment next c slots o seat h = record {
  moment_limit = h.moment_limit;
  size = length-set slots c o ∙ h.size;
  seated = seated_set 0 c c o slots (omega arith) seat h.seated;
  first = h.first;
  room = h.room;
}

pub takes_other : (d : FarDay) (m : Said) (c : ℕ) (p : Policy) → p ≢ Busy → p ≢ Silent
    → far_takes d m c p ≡ record { day = record d { calls = insert_call (user_offered m.reference c p d.moment) d.calls }; reply = None }
takes_other d m c (Answer n) busy silent = refl
takes_other d m c Busy busy silent = absurd (busy refl)
takes_other d m c Silent busy silent = absurd (silent refl)
takes_other d m c Alert busy silent = refl
takes_other d m c Proceed busy silent = refl
takes_other d m c (Clear n) busy silent = refl

-- each row calls once at the most
pub later_few : (t : ℕ) (rows : List ScriptRow) → calls_later t rows ≤ length rows
later_few t [] = omega arith
later_few t (Follows number policy ∷ rows) = omega (arith, later_few t rows)
later_few t (Calls number moment channel ∷ rows) = counted (nat_lt t moment) (calls_later t rows) (length rows) (later_few t rows)
  where
    counted : (b : Bool) (n k : ℕ) → n ≤ k → (if b then suc n else n) ≤ suc k
    counted true n k h = omega (arith, h)
    counted false n k h = omega (arith, h)

pub opening_far : (script : List ScriptRow) (slots : List (Option PlainUserCall)) → length script ≤ 16000 → length slots ≡ 32 → AreSeated 0 slots → IsFar script 0 1 slots
opening_far script slots few size seated = record { moment_limit = omega arith; size = size; seated = seated; first = omega arith; room = omega (arith, few, later_few 0 script) }
