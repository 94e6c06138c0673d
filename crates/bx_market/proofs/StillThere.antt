-- What stays as it is where a booking starts later or is given up, and all keep their channels.
use Rattle.std.proofs.Common.{◌≡◌, ◌≢◌, ℕ, zero, suc, ◌+◌, ◌-◌, ◌<◌, Bool, true, List, [], ◌∷◌, length, Option, Some, None, arith, refl, sym, subst, ap, ap₂, ◌∙◌, slice_index_or, set, slice_set, get_or-set_other, if◌then◌else◌}
use Rattle.bx_base.specs.Bookings.{Row, row_at}
use Rattle.bx_base.specs.Channels.{has_channel}
use Rattle.bx_channels.specs.Marks.{is_marked}
use Rattle.bx_day.specs.Changed.{past_or_planned, AgreesWith}
use Rattle.bx_day.specs.Day.{Day, entry_at, entry_of, is_unoffered}
use Rattle.bx_day.specs.Invariant.{is_refused}
use Rattle.bx_day.specs.declared.entry.Entry.{Entry}
use Rattle.bx_day.specs.declared.entry.Standing.{Standing}
use Rattle.bx_day.specs.declared.entry.Standing.TheVariants.{Refused, Unoffered}
use Rattle.bx_sales.specs.Changing.{rows_changed_in}
use Rattle.bx_sales.specs.Leaving.{promised_channel, promised_channels, next_start, GoesOnStill, IsStranded, IsDelayed, IsDropped}
use Rattle.bx_sales.specs.Selling.{rows_of}
use Rattle.bx_sales.proofs.Beside.{waiting_accepted}
use Rattle.bx_sales.proofs.GoneOn.{changed_size, kept_at, booking_at}
use Rattle.bx_sales.proofs.Places.{rows_size, row_there, other_row, this_row, promised_there}
use Rattle.bx_market.specs.LeavingSteps.{IsBehind, IsSameEntry, AreSameBut, IsLaterEntry, IsGivenUpWhere}

-- ---- one booking

past_still : (s : Standing) (k c : ℕ) (b : Row) → past_or_planned s (entry_of k b (if is_refused s then None else Some c)).standing ≡ s
past_still Refused k c b = refl
past_still Unoffered k c b = refl
past_still s k c b = refl

past_dropped : (s : Standing) (k : ℕ) (b : Row) → is_unoffered s ≡ true → is_refused (past_or_planned s (entry_of k b None).standing) ≡ true
past_dropped Unoffered k b h = refl
past_dropped s k b h = absurd cc

none_set : (xs : List (Option ℕ)) (place : ℕ) → slice_index_or (set xs place None) place None ≡ None
none_set [] place = refl
none_set (x ∷ xs) zero = refl
none_set (x ∷ xs) (suc place) = none_set xs place

-- ---- the day after

module _ (d d1 : Day) (rows : List Row) (assigned : List (Option ℕ)) (g : GoesOnStill rows assigned d d1) where
  abbrev at : ℕ → Entry
  at i = entry_at d.entries i

  abbrev there : ℕ → Entry
  there i = entry_at d1.entries i

  agrees : AgreesWith d rows assigned
  agrees = g.change.agrees

  planned : ℕ → Option ℕ → Entry
  planned i a = entry_of (i + 1) (row_at rows i) a

  booking_there : (i : ℕ) → i < length d.entries → (there i).booking ≡ row_at rows i
  booking_there i lt = ap (λ (x : Day). (entry_at x.entries i).booking) g.day ∙ booking_at d rows assigned agrees i (let n = agrees.longer in omega (arith, lt, n))

  standing_there : (i : ℕ) (a : Option ℕ) → i < length d.entries → slice_index_or assigned i None ≡ a → (there i).standing ≡ past_or_planned (at i).standing (entry_of (i + 1) (row_at rows i) a).standing
  standing_there i a lt given =
      ap (λ (x : Day). (entry_at x.entries i).standing) g.day ∙ ap (λ (e : Entry). e.standing) (kept_at d rows assigned agrees i lt)
      ∙ ap (λ (o : Option ℕ). past_or_planned (at i).standing (entry_of (i + 1) (row_at rows i) o).standing) given

  channel_there : (i : ℕ) (a : Option ℕ) → i < length d.entries → slice_index_or assigned i None ≡ a → (there i).channel ≡ (entry_of (i + 1) (row_at rows i) a).channel
  channel_there i a lt given =
      ap (λ (x : Day). (entry_at x.entries i).channel) g.day ∙ ap (λ (e : Entry). e.channel) (kept_at d rows assigned agrees i lt)
      ∙ ap (λ (o : Option ℕ). (entry_of (i + 1) (row_at rows i) o).channel) given

  standing_still : (i : ℕ) → i < length d.entries → slice_index_or assigned i None ≡ promised_channel (at i) → (there i).standing ≡ (at i).standing
  standing_still i lt given = standing_there i (promised_channel (at i)) lt given ∙ past_still (at i).standing (i + 1) (at i).channel (row_at rows i)

  same_there : (i : ℕ) → i < length d.entries → row_at rows i ≡ (at i).booking → slice_index_or assigned i None ≡ promised_channel (at i) → IsSameEntry (at i) (there i)
  same_there i lt row given = record {
    booking = booking_there i lt ∙ row;
    standing = standing_still i lt given;
    channel = λ accepted. channel_there i (Some (at i).channel) lt (given ∙ ap (λ b. if b then None else Some (at i).channel) accepted);
  }

  count_there : length rows ≡ length d.entries → length d1.entries ≡ length d.entries
  count_there size = ap (λ (x : Day). length x.entries) g.day ∙ changed_size d rows assigned agrees ∙ size

-- ---- a booking that starts later

module _ (place : ℕ) (row : ℕ) (is_row : row - 1 ≡ place) (b : Row) (d d1 : Day) (is : IsDelayed row b d d1) where
  abbrev delayed : List Row
  delayed = rows_changed_in (rows_of d) row b

  place_inside : place < length d.entries
  place_inside = let i = is.may.stranded.inside in omega (arith, i, is_row)

  row_this : row_at delayed place ≡ b
  row_this = subst (λ (k : ℕ). row_at (rows_changed_in (rows_of d) row b) k ≡ b) is_row (this_row (rows_of d) (row - 1) b (let n = rows_size d in let i = is.may.stranded.inside in omega (arith, n, i)))

  stranded_here : IsStranded d place
  stranded_here = subst (IsStranded d) is_row is.may.stranded

  b_is : b ≡ next_start d.moment (entry_at d.entries place).booking
  b_is = subst (λ (k : ℕ). b ≡ next_start d.moment (entry_at d.entries k).booking) is_row is.may.same

  pub delayed_same : AreSameBut place d d1
  delayed_same = record {
    moment = ap (λ (x : Day). x.moment) is.gone_on.day;
    maintenance = ap (λ (x : Day). x.maintenance) is.gone_on.day;
    count = count_there d d1 delayed (promised_channels d) is.gone_on (size_set (rows_of d) (row - 1) b ∙ rows_size d);
    each = λ i lt other. same_there d d1 delayed (promised_channels d) is.gone_on i lt
        (other_row (rows_of d) (row - 1) b i (λ e. other (e ∙ is_row)) ∙ row_there d.entries i lt) (promised_there d.entries i lt);
  } where
    size_set : (rows : List Row) (k : ℕ) (r : Row) → length (slice_set rows k r) ≡ length rows
    size_set [] k r = refl
    size_set (x ∷ rows) zero r = refl
    size_set (x ∷ rows) (suc k) r = ap suc (size_set rows k r)

  booking_this : (entry_at d1.entries place).booking ≡ b
  booking_this = booking_there d d1 delayed (promised_channels d) is.gone_on place place_inside ∙ row_this

  pub delayed_later : IsLaterEntry (entry_at d.entries place) (entry_at d1.entries place)
  delayed_later = record {
    pay = ap (λ (r : Row). r.pay) (booking_this ∙ b_is);
    standing = standing_still d d1 delayed (promised_channels d) is.gone_on place place_inside (promised_there d.entries place place_inside);
  }

  pub delayed_ahead : (channels : List Bool) → IsBehind channels d1 place → ⊥
  delayed_ahead channels behind =
      let start = ap (λ (r : Row). r.start) (booking_this ∙ b_is) in
      let now = ap (λ (x : Day). x.moment) is.gone_on.day in
      let come = behind.come in
      omega (arith, start, now, come)

-- ---- a booking that is given up

module _ (place : ℕ) (row : ℕ) (is_row : row - 1 ≡ place) (d d1 : Day) (is : IsDropped row d d1) where
  abbrev given : List (Option ℕ)
  given = slice_set (promised_channels d) (row - 1) None

  spot_inside : place < length d.entries
  spot_inside = let p = is.may.promised in (let m = p.named in let n = p.inside in omega (arith, m, n, is_row))

  pub dropped_same : AreSameBut place d d1
  dropped_same = record {
    moment = ap (λ (x : Day). x.moment) is.gone_on.day;
    maintenance = ap (λ (x : Day). x.maintenance) is.gone_on.day;
    count = count_there d d1 (rows_of d) given is.gone_on (rows_size d);
    each = λ i lt other. same_there d d1 (rows_of d) given is.gone_on i lt (row_there d.entries i lt)
        (get_or-set_other (promised_channels d) (row - 1) i None None (λ e. other (e ∙ is_row)) ∙ promised_there d.entries i lt);
  }

  pub dropped_here : is_unoffered (entry_at d.entries place).standing ≡ true → IsGivenUpWhere true (entry_at d.entries place) (entry_at d1.entries place)
  dropped_here waits = (
    booking_there d d1 (rows_of d) given is.gone_on place spot_inside ∙ row_there d.entries place spot_inside,
    ap is_refused (standing_there d d1 (rows_of d) given is.gone_on place None spot_inside (subst (λ (k : ℕ). slice_index_or (slice_set (promised_channels d) (row - 1) None) k None ≡ None) is_row (none_set (promised_channels d) (row - 1))))
        ∙ past_dropped (entry_at d.entries place).standing (place + 1) (row_at (rows_of d) place) waits,
  )

-- ---- nothing is done

pub itself : (e : Entry) → IsSameEntry e e
itself e = record { booking = refl; standing = refl; channel = λ accepted. refl }

pub all_same : (place : ℕ) (d d1 : Day) → d1 ≡ d → AreSameBut place d d1
all_same place d d1 same = subst (AreSameBut place d) (sym same) (record { moment = refl; maintenance = refl; count = refl; each = λ i lt other. itself (entry_at d.entries i) })

pub not_later : (place : ℕ) (d d1 : Day) → d1 ≡ d → IsLaterEntry (entry_at d.entries place) (entry_at d1.entries place)
not_later place d d1 same = subst (λ (x : Day). IsLaterEntry (entry_at d.entries place) (entry_at x.entries place)) (sym same) (record { pay = refl; standing = refl })

-- ---- what is behind was so before

pub behind_before : (channels : List Bool) (place i : ℕ) (d d1 : Day) → AreSameBut place d d1 → i ≢ place → IsBehind channels d1 i → IsBehind channels d i
behind_before channels place i d d1 same other behind =
    let s = behind.to_leave.stranded in
    let n = same.count in
    let inside : i < length d.entries = let k = s.inside in omega (arith, n, k) in
    let e = same.each i inside other in
    let waits : is_unoffered (entry_at d.entries i).standing ≡ true = ap is_unoffered (sym e.standing) ∙ s.waits in
    let channel = e.channel (waiting_accepted (entry_at d.entries i).standing waits) in
    let booking = e.booking in
    let now = same.moment in
    record {
      to_leave = record {
        stranded = record {
          inside = inside;
          waits = waits;
          lost = ap₂ is_marked (sym same.maintenance) (sym channel) ∙ s.lost;
        };
        in_service = ap (has_channel channels) (sym channel) ∙ behind.to_leave.in_service;
        longer = (let l = behind.to_leave.longer in let end = ap (λ (r : Row). r.end) booking in omega (arith, l, end, now));
      };
      come = (let c = behind.come in let start = ap (λ (r : Row). r.start) booking in omega (arith, c, start, now));
    }
