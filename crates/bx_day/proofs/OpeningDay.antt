-- The entries of the opening day, one after another.
use Rattle.std.proofs.Common.{◌≡◌, ℕ, ◌+◌, ◌≤◌, ◌<◌, true, false, Bool, List, [], ◌∷◌, length, Option, Some, None, arith, refl, sym, subst, ap, ◌∙◌, suc, zero, slice_index_or, unwrap_or, is_some, take, ◌++◌}
use Rattle.std.specs.List.{AllByRecursion}
use Rattle.std.proofs.Math.Seq.{take-suc, take_all}
use Rattle.std.proofs.lemmas.Bool.{true≢false}
use Rattle.bx_base.specs.Bookings.{Row, row_at, AreBookings, Carries}
use Rattle.bx_channels.specs.ChannelNumbers.{IsChannel}
use Rattle.bx_base.specs.Channels.{IsChannelSet, has_channel}
use Rattle.bx_base.specs.Plans.{is_accepted, channel_at}
use Rattle.bx_day.specs.Day.{entries_from, entry_at, entry_of, is_unoffered, opening, no_entry}
use Rattle.bx_day.specs.Invariant.{is_refused}
use Rattle.bx_day.specs.Reading.{IsExchange, IsNumbered, Seated}
use Rattle.bx_day.specs.declared.entry.Entry.{Entry}
use Rattle.bx_day.proofs.Law.{opening_fits, row_of_entry}

pub opening_size : (k : ℕ) (rows : List Row) (assigned : List (Option ℕ)) → length (entries_from k rows assigned) ≡ length rows
opening_size k [] assigned = refl
opening_size k (b ∷ bs) [] = ap suc (opening_size (k + 1) bs [])
opening_size k (b ∷ bs) (a ∷ as') = ap suc (opening_size (k + 1) bs as')

pub opening_at : (k n : ℕ) (rows : List Row) (assigned : List (Option ℕ)) (i : ℕ) → k + i ≡ n → i < length rows → entry_at (entries_from k rows assigned) i ≡ entry_of n (row_at rows i) (slice_index_or assigned i None)
opening_at k n [] assigned i q lt = absurd (omega arith)
opening_at k n (b ∷ bs) [] zero q lt = ap (λ m. entry_of m b None) (let r : k ≡ n = omega (arith, q) in r)
opening_at k n (b ∷ bs) [] (suc i) q lt = opening_at (k + 1) n bs [] i (omega (arith, q)) (omega (arith, lt))
opening_at k n (b ∷ bs) (a ∷ as') zero q lt = ap (λ m. entry_of m b a) (let r : k ≡ n = omega (arith, q) in r)
opening_at k n (b ∷ bs) (a ∷ as') (suc i) q lt = opening_at (k + 1) n bs as' i (omega (arith, q)) (omega (arith, lt))

pub added : (rows : List Row) (assigned : List (Option ℕ)) (i : ℕ) (before after : List Entry) (b : Row) (a : Option ℕ) → i < length rows → before ≡ take i (entries_from 1 rows assigned) → b ≡ row_at rows i → a ≡ slice_index_or assigned i None → after ≡ before ++ entry_of (i + 1) b a ∷ [] → after ≡ take (i + 1) (entries_from 1 rows assigned)
added rows assigned i before after b a lt p q r s =
    let es = entries_from 1 rows assigned in
    let size : i < length es = omega (arith, lt, opening_size 1 rows assigned) in
    let here : entry_at es i ≡ entry_of (i + 1) (row_at rows i) (slice_index_or assigned i None) = opening_at 1 (i + 1) rows assigned i (omega arith) lt in
    let given : entry_of (i + 1) b a ≡ entry_at es i = ap (λ x. entry_of (i + 1) x a) q ∙ ap (entry_of (i + 1) (row_at rows i)) r ∙ sym here in
    s ∙ ap (λ xs. xs ++ entry_of (i + 1) b a ∷ []) p ∙ ap (λ x. take i es ++ x ∷ []) given ∙ sym (take-suc es i no_entry size) ∙ ap (λ n. take n es) (let next : suc i ≡ i + 1 = omega arith in next)

pub all_added : (rows : List Row) (assigned : List (Option ℕ)) (i : ℕ) (before : List Entry) → length rows ≤ i → before ≡ take i (entries_from 1 rows assigned) → before ≡ entries_from 1 rows assigned
all_added rows assigned i before le p = p ∙ take_all i (entries_from 1 rows assigned) (omega (arith, le, opening_size 1 rows assigned))

seat : (k : ℕ) (b : Row) (a : Option ℕ) → 1 ≤ k → k ≤ 16000 → ((c : ℕ) → a ≡ Some c → IsChannel c) → Seated (entry_of k b a)
seat k b None one few h = record { row = (one, omega (arith, few)); reference = (one, omega (arith, few)); channel = λ e. absurd (true≢false e) }
seat k b (Some c) one few h = record { row = (one, omega (arith, few)); reference = (one, omega (arith, few)); channel = λ e. h c refl }

pub opening_seated : (k : ℕ) (rows : List Row) (assigned : List (Option ℕ)) → 1 ≤ k → k + length rows ≤ 16001 → ((i c : ℕ) → i < length rows → slice_index_or assigned i None ≡ Some c → IsChannel c) → AllByRecursion Seated (entries_from k rows assigned)
opening_seated k [] assigned one few h = tt
opening_seated k (b ∷ bs) [] one few h = (seat k b None one (omega (arith, few)) (λ c. h 0 c (omega arith)), opening_seated (k + 1) bs [] (omega arith) (omega (arith, few)) (λ i c lt q. h (suc i) c (omega (arith, lt)) q))
opening_seated k (b ∷ bs) (a ∷ as') one few h = (seat k b a one (omega (arith, few)) (λ c. h 0 c (omega arith)), opening_seated (k + 1) bs as' (omega arith) (omega (arith, few)) (λ i c lt q. h (suc i) c (omega (arith, lt)) q))

pub opening_numbered : (rows : List Row) (assigned : List (Option ℕ)) → IsNumbered (entries_from 1 rows assigned)
opening_numbered rows assigned i lt =
    let inside : i < length rows = omega (arith, lt, opening_size 1 rows assigned) in
    let place : 1 + i ≡ i + 1 = omega arith in
    ap (λ (e : Entry). e.row) (opening_at 1 (i + 1) rows assigned i place inside) ∙ row_of_entry (i + 1) (row_at rows i) (slice_index_or assigned i None)

-- what is accepted waits
pub waits_new : (k : ℕ) (b : Row) (a : Option ℕ) → is_refused (entry_of k b a).standing ≡ false → is_unoffered (entry_of k b a).standing ≡ true
waits_new k b None h = absurd (true≢false h)
waits_new k b (Some c) h = refl

pub opening_is : (rows : List Row) (channels : List Bool) (assigned : List (Option ℕ)) → AreBookings rows → IsChannelSet channels → Carries rows channels (is_accepted assigned) (channel_at assigned) → IsExchange (opening rows assigned)
opening_is rows channels assigned b set carries = record {
  moment = omega arith;
  rows = omega (arith, opening_size 1 rows assigned, b.few);
  day = opening_fits rows channels assigned b carries;
  seated = opening_seated 1 rows assigned (omega arith) (omega (arith, b.few)) (λ i c lt q.
      set.only c (subst (λ (o : Option ℕ). has_channel channels (unwrap_or o 0) ≡ true) q (carries.in_service i lt (ap is_some q))));
  numbered = opening_numbered rows assigned;
}
