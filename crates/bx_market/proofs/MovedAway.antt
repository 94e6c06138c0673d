-- When all have left the lost channels, what still has to leave one is behind: its start has come.
use Rattle.std.proofs.Common.{◌≡◌, ℕ, zero, suc, ◌+◌, ◌<◌, not, Bool, true, false, List, [], ◌∷◌, length, Option, Some, None, arith, refl, sym, subst, ap, ap₂, ◌∙◌, inl, inr, slice_index_or, set, get_or-set_other, nat_lt, if◌then◌else◌}
use Rattle.std.proofs.lemmas.Bool.{cases_eq, cases_lt, true≢false, lt-ltb, and_from}
use Rattle.bx_base.specs.Bookings.{row_at}
use Rattle.bx_base.specs.Channels.{has_channel, IsChannelSet}
use Rattle.bx_channels.specs.Marks.{is_marked}
use Rattle.bx_colour.specs.ChangedRows.{choice_of}
use Rattle.bx_colour.specs.Colouring.{is_in}
use Rattle.bx_day.specs.Day.{Day, entry_at, entry_of, is_unoffered}
use Rattle.bx_day.specs.Invariant.{is_refused}
use Rattle.bx_day.specs.declared.entry.Entry.{Entry}
use Rattle.bx_day.proofs.Once.{decide}
use Rattle.bx_sales.specs.GoingOn.{is_to_come, own_of}
use Rattle.bx_sales.specs.Left.{left_below, left_in_service}
use Rattle.bx_sales.specs.Leaving.{IsChannelLeft}
use Rattle.bx_sales.specs.Selling.{rows_of, marks_of}
use Rattle.bx_sales.proofs.Beside.{waiting_accepted}
use Rattle.bx_sales.proofs.GoneOn.{changed_size, kept_at}
use Rattle.bx_sales.proofs.Places.{rows_size, mark_there, own_there}
use Rattle.bx_market.specs.Leaving.{IsToLeave}
use Rattle.bx_market.specs.LeavingSteps.{IsBehind, IsToBeLeft}
use Rattle.bx_market.proofs.KeptStays.{kept_left}

gone : (xs : List Bool) (n : ℕ) → has_channel (set xs n false) n ≡ false
gone [] n = refl
gone (x ∷ xs) zero = refl
gone (x ∷ xs) (suc n) = gone xs n

-- a channel that is lost is not left
pub left_out : (n : ℕ) (lost channels : List Bool) (c : ℕ) → c < n → is_marked lost c ≡ true → has_channel (left_below n lost channels) c ≡ false
left_out zero lost channels c less marked = absurd (omega (arith, less))
left_out (suc n) lost channels c less marked =
    let before = left_below n lost channels in
    elim (cases_eq c n) [
      | inl here ↦ (
          let yes : is_marked lost n ≡ true = ap (is_marked lost) (sym here) ∙ marked in
          ap (λ b. has_channel (if b then set before n false else before) c) yes ∙ ap (has_channel (set before n false)) here ∙ gone before n)
      | inr other ↦ (
          let out = left_out n lost channels c (omega (arith, less, other)) marked in
          decide (is_marked lost n)
          (λ yes. ap (λ b. has_channel (if b then set before n false else before) c) yes ∙ get_or-set_other before n c false false other ∙ out)
          (λ no. ap (λ b. has_channel (if b then set before n false else before) c) no ∙ out))
    ]

module _ (channels : List Bool) (c : ℕ) (d d1 : Day) (is : IsChannelLeft channels c d d1) (channel_set : IsChannelSet channels) (i : ℕ) (to_leave : IsToLeave channels d1 i) where
  abbrev left : List Bool
  left = left_in_service channels d

  abbrev there : Entry
  there = entry_at d1.entries i

  inside : i < length d.entries
  inside =
      let k = to_leave.stranded.inside in
      let n = ap (λ (x : Day). length x.entries) is.recoloured.day ∙ changed_size d (rows_of d) is.recoloured.assigned is.recoloured.change.agrees ∙ rows_size d in
      omega (arith, k, n)

  not_ahead : d1.moment < there.booking.start → ⊥
  not_ahead later =
      let g = is.recoloured in
      let k = kept_left channels c d d1 is in
      let waits = to_leave.stranded.waits in
      let comes : is_to_come d1.moment there ≡ true = ap (λ b. if b then nat_lt d1.moment there.booking.start else is_refused there.standing) waits ∙ lt-ltb d1.moment there.booking.start later in
      let own1 : slice_index_or (own_of d1) i None ≡ None = own_there d1.moment d1.entries i to_leave.stranded.inside ∙ ap (λ b. if b then None else Some there.channel) comes in
      let own0 : slice_index_or (own_of d) i None ≡ None = sym (k.own i) ∙ own1 in
      let marked : is_in (marks_of d) i ≡ true = ap (λ (ms : List Bool). is_in ms i) (sym k.marks) ∙ mark_there d1.entries i to_leave.stranded.inside ∙ ap not (waiting_accepted there.standing waits) in
      let given = g.first_fit.given i (let n = rows_size d in let lt = inside in omega (arith, n, lt)) marked in
      let channel : there.channel ≡ given.0 =
      ap (λ (x : Day). (entry_at x.entries i).channel) g.day ∙ ap (λ (e : Entry). e.channel) (kept_at d (rows_of d) g.assigned g.change.agrees i inside)
      ∙ ap (λ (o : Option ℕ). (entry_of (i + 1) (row_at (rows_of d) i) o).channel) given.1 in
      let has : has_channel left given.0 ≡ true = subst (λ (o : Option ℕ). has_channel (choice_of o left) given.0 ≡ true) own0 given.2.in_service in
      let lost : is_marked d.maintenance given.0 ≡ true = ap₂ is_marked (sym k.maintenance) (sym channel) ∙ to_leave.stranded.lost in
      let top = (channel_set.only there.channel to_leave.in_service).1 in
      true≢false (sym has ∙ left_out 32 d.maintenance channels given.0 (omega (arith, top, channel)) lost)

  pub behind_then : IsBehind channels d1 i
  behind_then = record {
    to_leave = to_leave;
    come = elim (cases_lt d1.moment there.booking.start) [ inl later ↦ absurd (not_ahead later) | inr by ↦ by ];
  }

-- where no lost channel is waited on by what is to come
pub behind_now : (channels : List Bool) (d d1 : Day) → d1 ≡ d → ((n : ℕ) → IsToBeLeft channels d n → ⊥) → (i : ℕ) → IsToLeave channels d1 i → IsBehind channels d1 i
behind_now channels d d1 same none i to_leave = record {
  to_leave = to_leave;
  come = elim (cases_lt d1.moment (entry_at d1.entries i).booking.start) [
    | inl later ↦ absurd (subst (λ (x : Day). (n : ℕ) → IsToBeLeft channels x n → ⊥) (sym same) none (entry_at d1.entries i).channel (record {
      lost = record { in_service = to_leave.in_service; maintenance = to_leave.stranded.lost };
      waited_on = record {
        index = i;
        inside = to_leave.stranded.inside;
        ahead = and_from (is_unoffered (entry_at d1.entries i).standing) (nat_lt d1.moment (entry_at d1.entries i).booking.start) to_leave.stranded.waits (lt-ltb d1.moment (entry_at d1.entries i).booking.start later);
        channel = refl;
      };
    }))
    | inr by ↦ by
  ];
}
