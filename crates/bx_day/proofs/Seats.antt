-- Two lists of bookings that differ in what has become of them.
use Rattle.std.proofs.Common.{◌≡◌, ℕ, ◌≤◌, ◌<◌, List, length, Option, arith, sym, subst, ap, ◌∙◌}
use Rattle.bx_base.specs.Bookings.{Row}
use Rattle.bx_day.specs.Day.{entry_at}
use Rattle.bx_day.specs.Invariant.{is_refused}
use Rattle.bx_day.specs.Slots.{IsLater, IsFollowing}
use Rattle.bx_day.specs.declared.entry.Entry.{Entry}

-- ---- two lists of bookings that differ in what has become of them

pub record SameSeats (es fs : List Entry) : Type 0 where
  pub size : length es ≡ length fs
  pub booking : (i : ℕ) → (entry_at es i).booking ≡ (entry_at fs i).booking
  pub channel : (i : ℕ) → (entry_at es i).channel ≡ (entry_at fs i).channel
  pub refused : (i : ℕ) → is_refused (entry_at es i).standing ≡ is_refused (entry_at fs i).standing

pub turned : (es fs : List Entry) → SameSeats es fs → SameSeats fs es
turned es fs h = record { size = sym h.size; booking = λ i. sym (h.booking i); channel = λ i. sym (h.channel i); refused = λ i. sym (h.refused i) }

pub later_kept : (es fs : List Entry) (r i : ℕ) → SameSeats es fs → IsLater es r i → IsLater fs r i
later_kept es fs r i s h = record {
  inside = subst (λ n. i < n) s.size h.inside;
  accepted = sym (s.refused i) ∙ h.accepted;
  channel = sym (s.channel i) ∙ h.channel ∙ s.channel r;
  later = (let le : (entry_at es r).booking.end ≤ (entry_at es i).booking.start = h.later in omega (arith, le, ap (λ (b : Row). b.end) (s.booking r), ap (λ (b : Row). b.start) (s.booking i)));
}

pub after_kept : (es fs : List Entry) (r : ℕ) (o : Option ℕ) → SameSeats es fs → IsFollowing es r o → IsFollowing fs r o
after_kept es fs r o s h = record {
  there = λ k is. later_kept es fs r k s (h.there k is);
  each = λ i later. h.each i (later_kept fs es r i (turned es fs s) later);
  first = λ i k later is lt. h.first i k (later_kept fs es r i (turned es fs s) later) is (omega (arith, lt, ap (λ (b : Row). b.start) (s.booking i), ap (λ (b : Row). b.end) (s.booking k)));
}

pub ordered_kept : (es fs : List Entry) → SameSeats es fs → ((k : ℕ) → k < length es → (entry_at es k).booking.start < (entry_at es k).booking.end) → (k : ℕ) → k < length fs → (entry_at fs k).booking.start < (entry_at fs k).booking.end
ordered_kept es fs s h k lt =
    let o : (entry_at es k).booking.start < (entry_at es k).booking.end = h k (subst (λ n. k < n) (sym s.size) lt) in
    omega (arith, o, ap (λ (b : Row). b.start) (s.booking k), ap (λ (b : Row). b.end) (s.booking k))
