-- A receipt keeps what is true of a day.
use Rattle.std.proofs.Common.{◌≡◌, ℕ, zero, suc, ◌==◌, ◌&&◌, Bool, true, false, List, [], ◌∷◌, Option, Some, None, refl, sym, subst, slice_set}
use Rattle.std.specs.List.{AllByRecursion, position}
use Rattle.std.proofs.lemmas.Bool.{and_parts, false≢true, true≢false}
use Rattle.std.proofs.lemmas.List.Quantifiers.{position-Some}
use Rattle.bx_q931.specs.declared.kind.Kind.{Kind}
use Rattle.bx_q931.specs.declared.kind.Kind.TheVariants.{Setup}
use Rattle.bx_q931.specs.declared.channel_field.ChannelField.{ChannelField}
use Rattle.bx_q931.specs.declared.channel_field.ChannelField.TheVariants.{Named, Unread}
use Rattle.bx_base.specs.Bookings.{is_running}
use Rattle.bx_calls.specs.Said.{Said}
use Rattle.bx_day.specs.Day.{Day, is_live, is_held, is_free, is_unoffered, entry_at, no_entry, every_channel}
use Rattle.bx_day.specs.Receipts.{is_open, opens, or_else, lowest_open, names, hears, takes_call, takes_or, takes_preferred, called_on, called, stray, received_at, receive}
use Rattle.bx_calls.specs.Sending.{Answered}
use Rattle.bx_day.specs.declared.entry.Entry.{Entry}
use Rattle.bx_day.specs.declared.entry.Standing.{Standing}
use Rattle.bx_day.specs.declared.entry.Standing.TheVariants.{Refused, OnCall}
use Rattle.bx_day.specs.Invariant.{EntryFits, Apart, Pairs, DayFits, is_refused}
use Rattle.bx_day.proofs.Hear.{message_fits}
use Rattle.bx_day.proofs.Tick.{with_standing, by_cases, all_hold, Holding, free_held, runs_at}

pub all_at : (P : Entry → Type 0) → P no_entry → (es : List Entry) (i : ℕ) → AllByRecursion P es → P (entry_at es i)
all_at P n [] i h = n
all_at P n (e ∷ es) zero h = h.0
all_at P n (e ∷ es) (suc i) h = all_at P n es i h.1

pub all_set : (P : Entry → Type 0) (es : List Entry) (i : ℕ) (y : Entry) → P y → AllByRecursion P es → AllByRecursion P (slice_set es i y)
all_set P [] i y p h = tt
all_set P (e ∷ es) zero y p h = (p, h.1)
all_set P (e ∷ es) (suc i) y p h = (h.0, all_set P es i y p h.1)

pub apart_none : (e : Entry) → Apart e no_entry
apart_none e = record { planned = λ re rf. absurd (true≢false rf); live = λ le lf. absurd (false≢true lf) }

-- a booking in the place of another, which is as far apart from each of these
pub pairs_set : (Q : Entry → Type 0) (es : List Entry) (i : ℕ) (y : Entry) → ((f : Entry) → Q f → Apart (entry_at es i) f → Apart y f) → ((f : Entry) → Q f → Apart f (entry_at es i) → Apart f y) → AllByRecursion Q es → Pairs Apart es → Pairs Apart (slice_set es i y)
pairs_set Q [] i y before after qs ps = tt
pairs_set Q (e ∷ es) zero y before after qs ps = (both es qs.1 ps.0, ps.1)
  where
    both : (fs : List Entry) → AllByRecursion Q fs → AllByRecursion (Apart e) fs → AllByRecursion (Apart y) fs
    both [] q p = tt
    both (f ∷ fs) q p = (before f q.0 p.0, both fs q.1 p.1)
pairs_set Q (e ∷ es) (suc i) y before after qs ps = (
  all_set (Apart e) es i y (after e qs.0 (all_at (Apart e) (apart_none e) es i ps.0)) ps.0,
  pairs_set Q es i y before after qs.1 ps.1,
)

-- where the index is that of an element that passes
abbrev pub Passes : (Entry → Bool) → List Entry → Option ℕ → Type 0
Passes test es None = Unit {0}
Passes test es (Some i) = test (entry_at es i) ≡ true

pub index_passes : (test : Entry → Bool) (es : List Entry) → Passes test es (position test es)
index_passes test es = at (position test es) refl
  where
    at : (o : Option ℕ) → position test es ≡ o → Passes test es o
    at None is = tt
    at (Some i) is = (position-Some test es i no_entry is).1

-- a live booking that hears a message
pub hears_fits : (m : Said) (t : ℕ) (e : Entry) (s : Standing) → EntryFits t (with_standing e s) → EntryFits t (with_standing e (hears m t s).standing)
hears_fits m t e (OnCall c a) h = message_fits t (with_standing e (OnCall c a)) c.reference c.channel c.origin a m.heard c.state m.heard.kind h
hears_fits m t e s h = h

pub hears_live : (m : Said) (t : ℕ) (s : Standing) → is_live (hears m t s).standing ≡ true → is_live s ≡ true
hears_live m t (OnCall c a) h = refl
hears_live m t s h = h

pub hears_refused : (m : Said) (t : ℕ) (s : Standing) → is_refused (hears m t s).standing ≡ false → is_refused s ≡ false
hears_refused m t (OnCall c a) h = refl
hears_refused m t s h = h

pub heard_fits : (d : Day) (m : Said) (i : ℕ) → DayFits d → DayFits (received_at d m (Some i)).day
heard_fits d m i h =
    let e = entry_at d.entries i in
    let y = with_standing e (hears m d.moment e.standing).standing in
    record {
      each = all_set (EntryFits d.moment) d.entries i y (hears_fits m d.moment e e.standing (all_at (EntryFits d.moment) tt d.entries i h.each)) h.each;
      pairs = pairs_set (Holding (is_held d.entries)) d.entries i y
          (λ f q p. record {
            planned = λ ry rf. p.planned (hears_refused m d.moment e.standing ry) rf;
            live = λ ly lf. p.live (hears_live m d.moment e.standing ly) lf;
          })
          (λ f q p. record {
            planned = λ rf ry. p.planned rf (hears_refused m d.moment e.standing ry);
            live = λ lf ly. p.live lf (hears_live m d.moment e.standing ly);
          })
          (all_hold d.entries) h.pairs;
    }

-- what an open booking shows
pub record Open (d : Day) (e : Entry) : Type 0 where
  pub accepted : is_refused e.standing ≡ false
  pub inward : e.booking.inward ≡ true
  pub runs : is_running e.booking d.moment ≡ true
  pub free : is_free d e.channel ≡ true

pub unoffered_accepted : (s : Standing) → is_unoffered s ≡ true → is_refused s ≡ false
unoffered_accepted Refused h = absurd (false≢true h)
unoffered_accepted s h = refl

pub open_parts : (d : Day) (e : Entry) → is_open d e ≡ true → Open d e
open_parts d e h =
    let p = and_parts (is_unoffered e.standing && e.booking.inward && is_running e.booking d.moment) (is_free d e.channel) h in
    let q = and_parts (is_unoffered e.standing && e.booking.inward) (is_running e.booking d.moment) p.0 in
    let r = and_parts (is_unoffered e.standing) e.booking.inward q.0 in
    record { accepted = unoffered_accepted e.standing r.0; inward = r.1; runs = q.1; free = p.1 }

-- an index of an open booking, if it is one
abbrev pub OpenAt : Day → Option ℕ → Type 0
OpenAt d None = Unit {0}
OpenAt d (Some i) = is_open d (entry_at d.entries i) ≡ true

pub open_at_channel : (d : Day) (c : ℕ) (o : Option ℕ) → Passes (opens d c) d.entries o → OpenAt d o
open_at_channel d c None h = tt
open_at_channel d c (Some i) h = (and_parts (is_open d (entry_at d.entries i)) ((entry_at d.entries i).channel == c) h).0

pub open_index : (d : Day) (c : ℕ) → OpenAt d (position (opens d c) d.entries)
open_index d c = open_at_channel d c (position (opens d c) d.entries) (index_passes (opens d c) d.entries)

pub open_or : (d : Day) (o p : Option ℕ) → OpenAt d o → OpenAt d p → OpenAt d (or_else o p)
open_or d None p h k = k
open_or d (Some i) p h k = h

pub open_lowest : (d : Day) (cs : List ℕ) → OpenAt d (lowest_open d cs)
open_lowest d [] = tt
open_lowest d (c ∷ cs) = open_or d (position (opens d c) d.entries) (lowest_open d cs) (open_index d c) (open_lowest d cs)

pub takes_fits : (d : Day) (m : Said) (cause : ℕ) (o : Option ℕ) → OpenAt d o → DayFits d → DayFits (takes_or d m cause o).day
takes_fits d m cause None h fits = fits
takes_fits d m cause (Some i) h fits =
    let e = entry_at d.entries i in
    let p : Open d e = open_parts d e h in
    let y = with_standing e (takes_call m e).standing in
    record {
      each = all_set (EntryFits d.moment) d.entries i y (record { channel = refl; origin = p.inward; phase = runs_at e.booking d.moment p.runs; due = tt; activity = tt }) fits.each;
      pairs = pairs_set (Holding (is_held d.entries)) d.entries i y
          (λ f q a. record {
            planned = λ ry rf. a.planned p.accepted rf;
            live = λ ly lf same. free_held d e.channel p.free (subst (λ c. is_held d.entries c ≡ true) (sym same) (q lf));
          })
          (λ f q a. record {
            planned = λ rf ry. a.planned rf p.accepted;
            live = λ lf ly same. free_held d e.channel p.free (subst (λ c. is_held d.entries c ≡ true) same (q lf));
          })
          (all_hold d.entries) fits.pairs;
    }

pub preferred_fits : (d : Day) (m : Said) (o : Option ℕ) → OpenAt d o → DayFits d → DayFits (takes_preferred d m o).day
preferred_fits d m None h fits = takes_fits d m 34 (lowest_open d every_channel) (open_lowest d every_channel) fits
preferred_fits d m (Some i) h fits = takes_fits d m 34 (Some i) h fits

pub on_fits : (d : Day) (m : Said) (f : ChannelField) → DayFits d → DayFits (called_on d m f).day
on_fits d m Unread fits = fits
on_fits d m (Named c true) fits = takes_fits d m 44 (position (opens d c) d.entries) (open_index d c) fits
on_fits d m (Named c false) fits = preferred_fits d m (position (opens d c) d.entries) (open_index d c) fits
on_fits d m f fits = takes_fits d m 34 (lowest_open d every_channel) (open_lowest d every_channel) fits

pub called_fits : (d : Day) (m : Said) (refused : Option ℕ) → DayFits d → DayFits (called d m refused).day
called_fits d m (Some cause) fits = fits
called_fits d m None fits = on_fits d m m.heard.channel fits

pub stray_fits : (d : Day) (m : Said) (k : Kind) → DayFits d → DayFits (stray d m k).day
stray_fits d m Setup fits = by_cases m.flag _ _ (λ (x : Answered Day). DayFits x.day) (λ _. fits) (λ _. called_fits d m m.refused fits)
stray_fits d m k fits = fits

pub received_fits : (d : Day) (m : Said) (o : Option ℕ) → DayFits d → DayFits (received_at d m o).day
received_fits d m None fits = stray_fits d m m.heard.kind fits
received_fits d m (Some i) fits = heard_fits d m i fits

pub receive_fits : (d : Day) (m : Said) → DayFits d → DayFits (receive d m).day
receive_fits d m fits = received_fits d m (position (names m) d.entries) fits
