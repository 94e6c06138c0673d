-- The accepted bookings by their starts, and from the last to the first each linked to the one before it.
use Rattle.std.proofs.Common.{◌≡◌, ◌≢◌, ℕ, zero, suc, ◌+◌, ◌≤◌, ◌<◌, true, false, List, length, Option, Some, None, arith, refl, sym, subst, ap, ◌∙◌, inl, inr, slice_set, length-set, replicate}
use Rattle.std.specs.Prelude.{is_some}
use Rattle.std.specs.List.{AllByRecursion}
use Rattle.std.proofs.lemmas.Bool.{false≢true, cases_eq, cases_lt, and_from, le-leb, lt-ltb}
use Rattle.std.proofs.lemmas.List.{get_or-set_same, get_or-set_other}
use Rattle.bx_base.specs.Bookings.{is_running}
use Rattle.bx_day.specs.Day.{entry_at}
use Rattle.bx_day.specs.Invariant.{Apart, Pairs, is_refused}
use Rattle.bx_base.specs.Orders.{index_in}
use Rattle.bx_base.proofs.Orders.{not_later, indices_differ}
use Rattle.bx_day.specs.Linking.{IsOffered, begins, AreByStart, AreLinks}
use Rattle.bx_day.specs.Reading.{Seated}
use Rattle.bx_day.specs.Slots.{slot_at, IsFollowing}
use Rattle.bx_day.specs.declared.entry.Entry.{Entry}
use Rattle.bx_day.proofs.Once.{each_at}
use Rattle.bx_day.proofs.LiveTurns.{pairs_at}
use Rattle.bx_day.proofs.SlotLemmas.{some_is}

-- ---- of two bookings of a channel the earlier ends before the later starts

apart_at : (es : List Entry) (i j t : ℕ) → Pairs Apart es → i < length es → j < length es → i ≢ j → is_refused (entry_at es i).standing ≡ false → is_refused (entry_at es j).standing ≡ false → (entry_at es i).channel ≡ (entry_at es j).channel → is_running (entry_at es i).booking t ≡ true → is_running (entry_at es j).booking t ≡ true → ⊥
apart_at es i j t ps li lj other ai aj same ri rj = elim (cases_lt i j) [
  | inl less ↦ (pairs_at Apart es i j less lj ps).planned ai aj same t ri rj
  | inr le ↦ (pairs_at Apart es j i (omega (arith, le, other)) li ps).planned aj ai (sym same) t rj ri
]

pub ends_first : (es : List Entry) (i j : ℕ) → Pairs Apart es → i < length es → j < length es → i ≢ j → is_refused (entry_at es i).standing ≡ false → is_refused (entry_at es j).standing ≡ false → (entry_at es i).channel ≡ (entry_at es j).channel → (entry_at es i).booking.start ≤ (entry_at es j).booking.start → (entry_at es j).booking.start < (entry_at es j).booking.end → (entry_at es i).booking.end ≤ (entry_at es j).booking.start
ends_first es i j ps li lj other ai aj same le order =
    let e = (entry_at es i).booking in
    let f = (entry_at es j).booking in
    elim (cases_lt f.start e.end) [
      | inl less ↦ absurd (apart_at es i j f.start ps li lj other ai aj same (and_from _ _ (le-leb e.start f.start le) (lt-ltb f.start e.end less)) (and_from _ _ (le-leb f.start f.start (omega arith)) (lt-ltb f.start f.end order)))
      | inr late ↦ late
    ]

-- ---- from the last one on

-- what the whole list is
pub record IsPlan (es : List Entry) (order : List (ℕ × ℕ)) : Type 0 where
  pub sorted : AreByStart es order
  pub apart : Pairs Apart es
  pub seated : AllByRecursion Seated es
  pub ordered : (i : ℕ) → i < length es → (entry_at es i).booking.start < (entry_at es i).booking.end

-- the bookings from this place on are linked
pub record AreLinkedFrom (es : List Entry) (order : List (ℕ × ℕ)) (p : ℕ) (heads following : List (Option ℕ)) : Type 0 where
  pub head_size : length heads ≡ 32
  pub after_size : length following ≡ length es
  pub there : (c r : ℕ) → slot_at heads c ≡ Some r → (q : ℕ) × (p ≤ q) × (q < length order) × (index_in order q ≡ r) × ((entry_at es r).channel ≡ c)
  pub each : (q : ℕ) → p ≤ q → q < length order → is_some (slot_at heads (entry_at es (index_in order q)).channel) ≡ true
  pub first : (q r : ℕ) → p ≤ q → q < length order → slot_at heads (entry_at es (index_in order q)).channel ≡ Some r → (entry_at es (index_in order q)).booking.start < (entry_at es r).booking.end → index_in order q ≡ r
  pub followings : (q : ℕ) → p ≤ q → q < length order → IsFollowing es (index_in order q) (slot_at following (index_in order q))

pub none_in : (n c : ℕ) → slot_at (replicate n None) c ≡ None
none_in zero c = refl
none_in (suc n) zero = refl
none_in (suc n) (suc c) = none_in n c

pub none_linked : (es : List Entry) (order : List (ℕ × ℕ)) (p : ℕ) (following : List (Option ℕ)) → length order ≤ p → length following ≡ length es → AreLinkedFrom es order p (replicate 32 None) following
none_linked es order p following le size = record {
  head_size = refl;
  after_size = size;
  there = λ c r is. absurd (false≢true (ap is_some (sym (none_in 32 c) ∙ is)));
  each = λ q low high. absurd (omega (arith, le, low, high));
  first = λ q r low high. absurd (omega (arith, le, low, high));
  followings = λ q low high. absurd (omega (arith, le, low, high));
}

-- a booking of an index that starts where that of a place ends, or later, has a place after it
later_place : (es : List Entry) (order : List (ℕ × ℕ)) (p i : ℕ) → IsPlan es order → p < length order → i < length es → is_refused (entry_at es i).standing ≡ false → (entry_at es (index_in order p)).booking.end ≤ (entry_at es i).booking.start → (q : ℕ) × (p + 1 ≤ q) × (q < length order) × (index_in order q ≡ i)
later_place es order p i h lt inside accepted late =
    let f = h.sorted.all i inside accepted in
    let r = index_in order p in
    let here = h.sorted.each p lt in
    let own : (entry_at es r).booking.start < (entry_at es r).booking.end = h.ordered r here.within in
    let place : begins es (index_in order f.0) ≡ begins es i = ap (begins es) f.2 in
    elim (cases_lt p f.0) [
      | inl less ↦ (f.0, omega (arith, less), f.1, f.2)
      | inr le ↦ elim (cases_eq f.0 p) [
        | inl same ↦ absurd (let q : begins es (index_in order f.0) ≡ begins es (index_in order p) = ap (λ n. begins es (index_in order n)) same in omega (arith, q, place, own, late))
        | inr other ↦ absurd (let q = not_later (length es) (IsOffered es) (begins es) order h.sorted f.0 p (omega (arith, le, other)) lt in omega (arith, q, place, own, late))
      ]
    ]

-- of two places of a channel
place_ends : (es : List Entry) (order : List (ℕ × ℕ)) (p q : ℕ) → IsPlan es order → p < q → q < length order → (entry_at es (index_in order p)).channel ≡ (entry_at es (index_in order q)).channel → (entry_at es (index_in order p)).booking.end ≤ (entry_at es (index_in order q)).booking.start
place_ends es order p q h less lt same =
    let a = h.sorted.each p (omega (arith, less, lt)) in
    let b = h.sorted.each q lt in
    ends_first es (index_in order p) (index_in order q) h.apart a.within b.within (indices_differ (length es) (IsOffered es) (begins es) order h.sorted p q less lt) a.passes b.passes same (not_later (length es) (IsOffered es) (begins es) order h.sorted p q less lt) (h.ordered (index_in order q) b.within)

-- the slot of the channel says what comes after the next place
after_place : (es : List Entry) (order : List (ℕ × ℕ)) (p : ℕ) (heads following : List (Option ℕ)) → IsPlan es order → p < length order → AreLinkedFrom es order (p + 1) heads following → IsFollowing es (index_in order p) (slot_at heads (entry_at es (index_in order p)).channel)
after_place es order p heads following h lt l =
    let r = index_in order p in
    record {
      there = λ s is.
          let t = l.there (entry_at es r).channel s is in
          let b = h.sorted.each t.0 t.2 in
          let ends = place_ends es order p t.0 h (omega (arith, t.1)) t.2 (sym t.4 ∙ ap (λ n. (entry_at es n).channel) (sym t.3)) in
          record {
            inside = subst (λ n. n < length es) t.3 b.within;
            accepted = subst (λ n. is_refused (entry_at es n).standing ≡ false) t.3 b.passes;
            channel = t.4;
            later = subst (λ n. (entry_at es r).booking.end ≤ (entry_at es n).booking.start) t.3 ends;
          };
      each = λ i later.
          let f = later_place es order p i h lt later.inside later.accepted later.later in
          subst (λ c. is_some (slot_at heads c) ≡ true) (ap (λ n. (entry_at es n).channel) f.3 ∙ later.channel) (l.each f.0 f.1 f.2);
      first = λ i s later is less.
          let f = later_place es order p i h lt later.inside later.accepted later.later in
          sym f.3 ∙ l.first f.0 s f.1 f.2 (ap (λ n. slot_at heads (entry_at es n).channel) f.3 ∙ ap (slot_at heads) later.channel ∙ is) (subst (λ n. (entry_at es n).booking.start < (entry_at es s).booking.end) (sym f.3) less);
    }

from_next : (p q : ℕ) → p ≤ q → q ≢ p → p + 1 ≤ q
from_next p q le other = omega (arith, le, other)

pub one_linked : (es : List Entry) (order : List (ℕ × ℕ)) (p r c : ℕ) (heads following : List (Option ℕ)) (o : Option ℕ) → IsPlan es order → p < length order → r ≡ index_in order p → c ≡ (entry_at es r).channel → o ≡ slot_at heads c → AreLinkedFrom es order (p + 1) heads following → AreLinkedFrom es order p (slice_set heads c (Some r)) (slice_set following r o)
one_linked es order p r c heads following o h lt is on follows l =
    let here = h.sorted.each p lt in
    let inside : r < length es = subst (λ n. n < length es) (sym is) here.within in
    let high : (entry_at es (index_in order p)).channel ≤ 31 = ((each_at Seated es (index_in order p) here.within h.seated).channel here.passes).1 in
    let at_c : c ≡ (entry_at es (index_in order p)).channel = on ∙ ap (λ n. (entry_at es n).channel) is in
    let own : slot_at (slice_set heads c (Some r)) c ≡ Some r = get_or-set_same heads c (Some r) None (omega (arith, high, at_c, l.head_size)) in
    let other : (k : ℕ) → k ≢ c → slot_at (slice_set heads c (Some r)) k ≡ slot_at heads k = λ k off. get_or-set_other heads c k (Some r) None off in
    record {
      head_size = length-set heads c (Some r) ∙ l.head_size;
      after_size = length-set following r o ∙ l.after_size;
      there = λ k s found. elim (cases_eq k c) [
        | inl same ↦ (
            let s_is : s ≡ r = some_is s r (sym found ∙ ap (slot_at (slice_set heads c (Some r))) same ∙ own) in
            (p, omega arith, lt, sym (s_is ∙ is), ap (λ n. (entry_at es n).channel) s_is ∙ sym on ∙ sym same))
        | inr off ↦ (let t = l.there k s (sym (other k off) ∙ found) in (t.0, omega (arith, t.1), t.2, t.3, t.4))
      ];
      each = λ q low inside'. elim (cases_eq (entry_at es (index_in order q)).channel c) [
        | inl same ↦ ap is_some (ap (slot_at (slice_set heads c (Some r))) same ∙ own)
        | inr off ↦ ap is_some (other (entry_at es (index_in order q)).channel off) ∙ l.each q (from_next p q low (λ e. off (ap (λ n. (entry_at es (index_in order n)).channel) e ∙ sym at_c))) inside'
      ];
      first = λ q s low inside' found less. elim (cases_eq (entry_at es (index_in order q)).channel c) [
        | inl same ↦ (
            let s_is : s ≡ r = some_is s r (sym found ∙ ap (slot_at (slice_set heads c (Some r))) same ∙ own) in
            elim (cases_eq q p) [
              | inl e ↦ ap (index_in order) e ∙ sym is ∙ sym s_is
              | inr away ↦ absurd (
                  let ends = place_ends es order p q h (omega (arith, low, away)) inside' (sym at_c ∙ sym same) in
                  let end_is : (entry_at es s).booking.end ≡ (entry_at es (index_in order p)).booking.end = ap (λ n. (entry_at es n).booking.end) (s_is ∙ is) in
                  omega (arith, ends, end_is, less))
            ])
        | inr off ↦ l.first q s (from_next p q low (λ e. off (ap (λ n. (entry_at es (index_in order n)).channel) e ∙ sym at_c))) inside' (sym (other (entry_at es (index_in order q)).channel off) ∙ found) less
      ];
      followings = λ q low inside'. elim (cases_eq q p) [
        | inl e ↦ (
            let read : slot_at (slice_set following r o) (index_in order p) ≡ slot_at heads (entry_at es (index_in order p)).channel = ap (slot_at (slice_set following r o)) (sym is) ∙ get_or-set_same following r o None (omega (arith, inside, l.after_size)) ∙ follows ∙ ap (slot_at heads) at_c in
            subst (λ n. IsFollowing es (index_in order n) (slot_at (slice_set following r o) (index_in order n))) (sym e) (subst (IsFollowing es (index_in order p)) (sym read) (after_place es order p heads following h lt l)))
        | inr away ↦ (
            let differ : index_in order q ≢ r = λ same. indices_differ (length es) (IsOffered es) (begins es) order h.sorted p q (omega (arith, low, away)) inside' (sym is ∙ sym same) in
            subst (IsFollowing es (index_in order q)) (sym (get_or-set_other following r (index_in order q) o None differ)) (l.followings q (from_next p q low away) inside'))
      ];
    }

pub all_linked : (es : List Entry) (order : List (ℕ × ℕ)) (heads following : List (Option ℕ)) → IsPlan es order → AreLinkedFrom es order 0 heads following → AreLinks es heads following
all_linked es order heads following h l = record {
  head_size = l.head_size;
  after_size = l.after_size;
  firsts = λ c. record {
    there = λ r is. (
        let t = l.there c r is in
        let b = h.sorted.each t.0 t.2 in
        (subst (λ n. n < length es) t.3 b.within, subst (λ n. is_refused (entry_at es n).standing ≡ false) t.3 b.passes, t.4));
    each = λ i lt accepted on. (let f = h.sorted.all i lt accepted in subst (λ k. is_some (slot_at heads k) ≡ true) (ap (λ n. (entry_at es n).channel) f.2 ∙ on) (l.each f.0 (omega arith) f.1));
    first = λ i r lt accepted on is less. (
        let f = h.sorted.all i lt accepted in
        sym f.2 ∙ l.first f.0 r (omega arith) f.1 (ap (λ n. slot_at heads (entry_at es n).channel) f.2 ∙ ap (slot_at heads) on ∙ is) (subst (λ n. (entry_at es n).booking.start < (entry_at es r).booking.end) (sym f.2) less));
  };
  followings = λ r lt accepted. (let f = h.sorted.all r lt accepted in subst (λ n. IsFollowing es n (slot_at following n)) f.2 (l.followings f.0 (omega arith) f.1));
}
