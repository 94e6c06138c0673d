-- An exchange that goes on from a state: its slots are found anew (as in the trial of an exchange that forgets).
use Rattle.std.proofs.Common.{◌≡◌, ℕ, ◌+◌, ◌<◌, true, List, length, length-set, replicate, Option, Some, None, arith, refl, sym, subst, ap, ◌∙◌, inl, inr, slice_set}
use Rattle.std.specs.Prelude.{is_some}
use Rattle.std.proofs.lemmas.Bool.{true≢false, false≢true, cases_eq, cases_lt}
use Rattle.std.proofs.lemmas.List.{get_or-set_same, get_or-set_other}
use Rattle.bx_day.specs.Day.{Day, is_live, holds, entry_at}
use Rattle.bx_day.specs.Invariant.{Apart, Pairs}
use Rattle.bx_day.specs.Linking.{AreLinks}
use Rattle.bx_day.specs.Outlasting.{AreEarliest}
use Rattle.bx_day.specs.Reading.{IsExchange}
use Rattle.bx_day.specs.Restoring.{IsState}
use Rattle.bx_day.specs.RestoringInside.{with_live, IsLiveBelow, AreLiveBelow}
use Rattle.bx_day.specs.Slots.{slot_at, AreSlots}
use Rattle.bx_day.specs.declared.entry.Entry.{Entry}
use Rattle.bx_day.proofs.LiveTurns.{live_once}
use Rattle.bx_day.proofs.LinkLemmas.{none_in}
use Rattle.bx_day.proofs.SlotLemmas.{some_is, holds_parts, holds_from}
use Rattle.bx_day.proofs.Tick.{by_cases}
use Rattle.bx_day.proofs.WaitingAnew.{earliest_waits}

pub slots_anew : (d : Day) (live waiting heads following : List (Option ℕ)) → IsState d → AreLiveBelow d.entries (length d.entries) live → AreEarliest d.entries (length d.entries) waiting → AreLinks d.entries heads following → AreSlots d live waiting following
slots_anew d live waiting heads following h lives anew links = record {
  live_size = lives.size;
  waiting_size = anew.size;
  after_size = links.after_size;
  lives = λ c. record { there = (lives.each c).there; each = (lives.each c).each };
  waits = λ c. earliest_waits d.entries c (slot_at waiting c) h.exchange.day.pairs h.ordered (anew.each c);
  followings = links.followings;
  ahead = h.ahead;
  ordered = h.ordered;
}

pub state_of : (d : Day) (live waiting following : List (Option ℕ)) → IsExchange d → AreSlots d live waiting following → IsState d
state_of d live waiting following h s = record { exchange = h; ordered = s.ordered; ahead = s.ahead }

-- ---- the live ones, found anew

pub nothing_live : (es : List Entry) → AreLiveBelow es 0 (replicate 32 None)
nothing_live es = record {
  size = refl;
  each = λ c. record {
    there = λ i is. absurd (false≢true (ap is_some (sym (none_in 32 c) ∙ is)));
    each = λ i lt held. absurd (omega (arith, lt));
  };
}

last_of : {P : Type 0} (i n : ℕ) → i < n + 1 → (i < n → P) → (i ≡ n → P) → P
last_of i n lt f g = elim (cases_lt i n) [ inl less ↦ f less | inr le ↦ g (omega (arith, le, lt)) ]

live_skips : (es : List Entry) (n c : ℕ) (o : Option ℕ) → (holds c (entry_at es n) ≡ true → ⊥) → IsLiveBelow es n c o → IsLiveBelow es (n + 1) c o
live_skips es n c o never h = record {
  there = λ i is. (let p = h.there i is in (omega (arith, p.0), p.1));
  each = λ i lt held. last_of i n lt (λ less. h.each i less held) (λ same. absurd (never (subst (λ k. holds c (entry_at es k) ≡ true) same held)));
}

live_here : (es : List Entry) (n c : ℕ) → Pairs Apart es → n < length es → holds c (entry_at es n) ≡ true → IsLiveBelow es (n + 1) c (Some n)
live_here es n c ps inside here = record {
  there = λ i is. (let same : n ≡ i = some_is n i is in (omega (arith, same), subst (λ k. holds c (entry_at es k) ≡ true) same here));
  each = λ i lt held. ap Some (live_once es c n i ps inside (omega (arith, lt, inside)) here held);
}

pub one_live : (es : List Entry) (n : ℕ) (slots : List (Option ℕ)) → Pairs Apart es → n < length es → (is_live (entry_at es n).standing ≡ true → (entry_at es n).channel < 32) → AreLiveBelow es n slots → AreLiveBelow es (n + 1) (with_live es n slots)
one_live es n slots ps inside high h =
    let e = entry_at es n in
    let k = e.channel in
    by_cases (is_live e.standing) _ _ (AreLiveBelow es (n + 1))
    (λ live. let room : k < length slots = omega (arith, h.size, high live) in
    record {
      size = length-set slots k (Some n) ∙ h.size;
      each = λ c. elim (cases_eq c k) [
        | inl here ↦ subst (λ m. IsLiveBelow es (n + 1) m (slot_at (slice_set slots k (Some n)) m)) (sym here) (subst (IsLiveBelow es (n + 1) k) (sym (get_or-set_same slots k (Some n) None room)) (live_here es n k ps inside (holds_from k e live refl)))
        | inr other ↦ subst (IsLiveBelow es (n + 1) c) (sym (get_or-set_other slots k c (Some n) None other)) (live_skips es n c (slot_at slots c) (λ held. other (sym (holds_parts c e held).1)) (h.each c))
      ];
    })
    (λ idle. record { size = h.size; each = λ c. live_skips es n c (slot_at slots c) (λ held. true≢false (sym (holds_parts c e held).0 ∙ idle)) (h.each c) })
