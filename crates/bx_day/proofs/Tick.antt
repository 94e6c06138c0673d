-- A tick keeps what is true of a day.
use Rattle.bx_events.specs.declared.rules.Rules.{Rules}
use Rattle.std.proofs.Common.{◌≡◌, ◌≢◌, ℕ, ◌+◌, ◌≤◌, ◌<◌, ◌==◌, ◌&&◌, ◌||◌, not, Bool, true, false, List, [], ◌∷◌, map, Option, arith, refl, sym, subst, ap, nat_le, nat_lt, if◌then◌else◌}
use Rattle.std.specs.List.{AllByRecursion}
use Rattle.std.proofs.lemmas.Bool.{leb-true, leb-false, ltb-true, and_parts, both_ways, eq-eqb, and_from, not-true, false≢true}
use Rattle.bx_q931.specs.Outgoing.{Outgoing}
use Rattle.bx_calls.specs.PlainCalls.{PlainNetCall}
use Rattle.bx_calls.specs.declared.transition.Next.{Next}
use Rattle.bx_calls.specs.declared.transition.Next.TheVariants.{Live}
use Rattle.bx_base.specs.Bookings.{Row, is_running}
use Rattle.bx_channels.specs.Marks.{is_marked}
use Rattle.bx_day.specs.Day.{is_back, Day, is_live, holds, is_held, is_free}
use Rattle.bx_day.specs.Ticks.{unlinked_at, second_at, second_by, after_in, waits, tick, passed_in}
use Rattle.bx_day.specs.Outages.{without_link_by}
use Rattle.bx_day.specs.Moves.{follow, follows, over_at}
use Rattle.bx_calls.specs.NetTable.{net_unlinked}
use Rattle.bx_calls.specs.Sending.{Sent}
use Rattle.bx_day.specs.declared.entry.Moved.{Moved}
use Rattle.bx_day.specs.declared.entry.Entry.{Entry}
use Rattle.bx_day.specs.declared.entry.Standing.{Standing}
use Rattle.bx_day.specs.declared.entry.Activity.{Activity}
use Rattle.bx_day.specs.declared.entry.Standing.TheVariants.{Refused, Unoffered, OnCall, Carried, Missed}
use Rattle.bx_day.specs.declared.entry.Activity.TheVariants.{Was}
use Rattle.bx_day.specs.Invariant.{EntryFits, Apart, Pairs, DayFits, is_refused}
use Rattle.bx_day.specs.declared.entry.Link.{Link}
use Rattle.bx_day.specs.declared.entry.Link.TheVariants.{Up, Down}
use Rattle.bx_day.proofs.Second.{second_fits, unlinked_fits}

abbrev pub with_standing : Entry → Standing → Entry
with_standing e s = record e { standing = s }

pub by_cases : {X : Type 0} (b : Bool) (x y : X) (P : X → Type 0) → (b ≡ true → P x) → (b ≡ false → P y) → P (if b then x else y)
by_cases true x y P f g = f refl
by_cases false x y P f g = g refl

-- what a test of a running booking tells
pub runs_at : (b : Row) (t : ℕ) → is_running b t ≡ true → (b.start ≤ t) × (t < b.end)
runs_at b t h =
    let p = and_parts (nat_le b.start t) (nat_lt t b.end) h in
    (leb-true b.start t p.0, ltb-true t b.end p.1)

abbrev pub offers : Entry → ℕ → Bool → Bool
offers e t free = is_running e.booking t && not e.booking.inward && free

-- what an offer shows
pub offers_parts : (e : Entry) (t : ℕ) (free : Bool) → offers e t free ≡ true → (is_running e.booking t ≡ true) × (e.booking.inward ≡ false) × (free ≡ true)
offers_parts e t free h =
    let p = and_parts (is_running e.booking t && not e.booking.inward) free h in
    let q = and_parts (is_running e.booking t) (not e.booking.inward) p.0 in
    (q.0, not-true e.booking.inward q.1, p.1)

-- one booking that waits
pub waits_fits : (t : ℕ) (e : Entry) (back free : Bool) → EntryFits (t + 1) (with_standing e (waits e (t + 1) back free).standing)
waits_fits t e back free =
    by_cases (offers e (t + 1) free) _ _ (λ (m : Moved). EntryFits (t + 1) (with_standing e (m.standing)))
    (λ offered.
    let p = offers_parts e (t + 1) free offered in
    let r = runs_at e.booking (t + 1) p.0 in
    record { channel = refl; origin = (p.1, refl); phase = r; due = (omega arith, omega arith); activity = tt })
    (λ _. by_cases (nat_le e.booking.end (t + 1)) _ _ (λ (m : Moved). EntryFits (t + 1) (with_standing e (m.standing)))
    (λ ended. leb-true e.booking.end (t + 1) ended)
    (λ going. leb-false e.booking.end (t + 1) going))

-- one booking
pub entry_fits : (t : ℕ) (e : Entry) (back free : Bool) (s : Standing) → EntryFits t (with_standing e s) → EntryFits (t + 1) (with_standing e (second_at e (t + 1) back free s).standing)
entry_fits t e back free Unoffered h = waits_fits t e back free
entry_fits t e back free (OnCall c a) h = second_fits t (with_standing e (OnCall c a)) c.reference c.channel c.origin c.state a h
entry_fits t e back free (Carried from until) h = h
entry_fits t e back free Missed h = omega arith
entry_fits t e back free s h = tt

-- a booking that is live after a tick was live before, or is offered at it
pub data WasLive (t : ℕ) (free : Bool) (e : Entry) : Type 0 where
  Before : is_live e.standing ≡ true → WasLive t free e
  Offered : is_refused e.standing ≡ false → is_running e.booking t ≡ true → free ≡ true → WasLive t free e

pub waits_live : (t : ℕ) (back free : Bool) (e : Entry) → is_live (waits e t back free).standing ≡ true → WasLive t free (with_standing e Unoffered)
waits_live t back free e =
    by_cases (offers e t free) _ _ (λ (m : Moved). is_live m.standing ≡ true → WasLive t free (with_standing e Unoffered))
    (λ offered live. let p = offers_parts e t free offered in Offered refl p.0 p.2)
    (λ _. by_cases (nat_le e.booking.end t) _ _ (λ (m : Moved). is_live m.standing ≡ true → WasLive t free (with_standing e Unoffered))
    (λ ended live. absurd (false≢true live))
    (λ going live. absurd (false≢true live)))

pub second_live : (t : ℕ) (back free : Bool) (e : Entry) (s : Standing) → is_live (second_at e t back free s).standing ≡ true → WasLive t free (with_standing e s)
second_live t back free e Unoffered live = waits_live t back free e live
second_live t back free e (OnCall c a) live = Before refl
second_live t back free e s live = absurd (false≢true live)

pub over_refused : (a : Activity) (t : ℕ) → is_refused (over_at a t) ≡ false
over_refused (Was from until) t = refl
over_refused a t = refl

-- no booking is refused by a tick, and none that was is not
pub follow_refused : (a : Activity) (t : ℕ) (said : Option Outgoing) (n : Next PlainNetCall) → is_refused (follow a t said n).standing ≡ false
follow_refused a t said (Live c) = refl
follow_refused a t said n = over_refused a t

pub second_refused : (t : ℕ) (back free : Bool) (e : Entry) (s : Standing) → is_refused (second_at e t back free s).standing ≡ false → is_refused s ≡ false
second_refused t back free e Refused h = h
second_refused t back free e s h = refl

or_left : (x y : Bool) → x ≡ true → (x || y) ≡ true
or_left true y h = refl
or_left false y h = absurd (false≢true h)

or_right : (x y : Bool) → y ≡ true → (x || y) ≡ true
or_right true y h = refl
or_right false y h = h

-- a live booking holds its channel among these
abbrev pub Holding : (ℕ → Bool) → Entry → Type 0
Holding held e = is_live e.standing ≡ true → held e.channel ≡ true

pub all_weaker : (P Q : Entry → Type 0) → ((e : Entry) → P e → Q e) → (es : List Entry) → AllByRecursion P es → AllByRecursion Q es
all_weaker P Q f [] h = tt
all_weaker P Q f (e ∷ es) h = (f e h.0, all_weaker P Q f es h.1)

pub all_hold : (es : List Entry) → AllByRecursion (Holding (is_held es)) es
all_hold [] = tt
all_hold (e ∷ es) = (
  (λ live. or_left (holds e.channel e) (is_held es e.channel) (and_from (is_live e.standing) (e.channel == e.channel) live (eq-eqb e.channel e.channel refl))),
  all_weaker (Holding (is_held es)) (Holding (is_held (e ∷ es))) (λ f h live. or_right (holds f.channel e) (is_held es f.channel) (h live)) es (all_hold es),
)

-- a channel that is free is not held
pub free_held : (d : Day) (c : ℕ) → is_free d c ≡ true → is_held d.entries c ≡ true → ⊥
free_held d c f h = both_ways (is_held d.entries c) (not-true (is_held d.entries c) (and_parts (not (is_held d.entries c)) (not (is_marked d.maintenance c)) f).0) h

-- two bookings that are live after a tick are on two channels
pub live_apart : (d : Day) (e f : Entry) → Apart e f → Holding (is_held d.entries) e → Holding (is_held d.entries) f → WasLive (d.moment + 1) (is_free d e.channel) e → WasLive (d.moment + 1) (is_free d f.channel) f → e.channel ≢ f.channel
live_apart d e f p he hf (Before le) (Before lf) same = p.live le lf same
live_apart d e f p he hf (Before le) (Offered rf uf ff) same = free_held d f.channel ff (subst (λ c. is_held d.entries c ≡ true) same (he le))
live_apart d e f p he hf (Offered re ue fe) (Before lf) same = free_held d e.channel fe (subst (λ c. is_held d.entries c ≡ true) (sym same) (hf lf))
live_apart d e f p he hf (Offered re ue fe) (Offered rf uf ff) same = p.planned re rf same (d.moment + 1) ue uf

-- ---- a second with a link or without one

-- what holds of a call in a second without a link, and of any other booking at a tick while its channel is held
pub unlinked : (rules : Rules) (e : Entry) (t : ℕ) (s : Standing) (P : Moved → Type 0) → ((c : PlainNetCall) (a : Activity) → s ≡ OnCall c a → P (follows a t (net_unlinked rules 1 c t e.booking.end))) → P (second_at e t false false s) → P (unlinked_at rules e t s)
unlinked rules e t (OnCall c a) P f g = f c a refl
unlinked rules e t s P f g = g

still_fits : (rules : Rules) (t : ℕ) (e : Entry) (s : Standing) → EntryFits t (with_standing e s) → EntryFits (t + 1) (with_standing e (unlinked_at rules e (t + 1) s).standing)
still_fits rules t e (OnCall c a) h = unlinked_fits rules t (with_standing e (OnCall c a)) c.reference c.channel c.origin c.state a h
still_fits rules t e s h = entry_fits t e false false s h

pub in_fits : (link : Link) (t : ℕ) (e : Entry) (back free : Bool) (s : Standing) → EntryFits t (with_standing e s) → EntryFits (t + 1) (with_standing e (second_by link e (t + 1) back free s).standing)
in_fits Up t e back free s h = entry_fits t e back free s h
in_fits (Down rules) t e back free s h = still_fits rules t e s h

pub all_fit : (link : Link) (t : ℕ) (d : Day) → d.moment ≡ t → (es : List Entry) → AllByRecursion (EntryFits d.moment) es → AllByRecursion (EntryFits (d.moment + 1)) (map (after_in link d) es)
all_fit link t d p [] h = tt
all_fit link t d p (e ∷ es) h = (in_fits link d.moment e (is_back d) (is_free d e.channel) e.standing h.0, all_fit link t d p es h.1)

-- without a link nothing is offered
pub never_offered : (t : ℕ) (free : Bool) (e : Entry) → WasLive t false e → WasLive t free e
never_offered t free e (Before live) = Before live
never_offered t free e (Offered accepted runs f) = absurd (false≢true f)

pub in_live : (link : Link) (t : ℕ) (back free : Bool) (e : Entry) (s : Standing) → is_live (second_by link e t back free s).standing ≡ true → WasLive t free (with_standing e s)
in_live Up t back free e s live = second_live t back free e s live
in_live (Down rules) t back free e s live = unlinked rules e t s (λ m. is_live m.standing ≡ true → WasLive t free (with_standing e s)) (λ c a p _. Before (ap is_live p)) (λ now. never_offered t free (with_standing e s) (second_live t false false e s now)) live

pub in_refused : (link : Link) (t : ℕ) (back free : Bool) (e : Entry) (s : Standing) → is_refused (second_by link e t back free s).standing ≡ false → is_refused s ≡ false
in_refused Up t back free e s h = second_refused t back free e s h
in_refused (Down rules) t back free e s h = unlinked rules e t s (λ m. is_refused m.standing ≡ false → is_refused s ≡ false) (λ c a p _. ap is_refused p) (second_refused t false false e s) h

pub after_apart : (link : Link) (d : Day) (e f : Entry) → Apart e f → Holding (is_held d.entries) e → Holding (is_held d.entries) f → Apart (after_in link d e) (after_in link d f)
after_apart link d e f p he hf = record {
  planned = λ re rf. p.planned (in_refused link (d.moment + 1) (is_back d) (is_free d e.channel) e e.standing re) (in_refused link (d.moment + 1) (is_back d) (is_free d f.channel) f f.standing rf);
  live = λ le lf. live_apart d e f p he hf (in_live link (d.moment + 1) (is_back d) (is_free d e.channel) e e.standing le) (in_live link (d.moment + 1) (is_back d) (is_free d f.channel) f f.standing lf);
}

pub all_apart : (link : Link) (d : Day) (e : Entry) (fs : List Entry) → Holding (is_held d.entries) e → AllByRecursion (Holding (is_held d.entries)) fs → AllByRecursion (Apart e) fs → AllByRecursion (Apart (after_in link d e)) (map (after_in link d) fs)
all_apart link d e [] he hs ps = tt
all_apart link d e (f ∷ fs) he hs ps = (after_apart link d e f ps.0 he hs.0, all_apart link d e fs he hs.1 ps.1)

pub pairs_apart : (link : Link) (d : Day) (es : List Entry) → AllByRecursion (Holding (is_held d.entries)) es → Pairs Apart es → Pairs Apart (map (after_in link d) es)
pairs_apart link d [] hs ps = tt
pairs_apart link d (e ∷ es) hs ps = (all_apart link d e es hs.0 hs.1 ps.0, pairs_apart link d es hs.1 ps.1)

pub passed_fits : (link : Link) (d : Day) → DayFits d → DayFits (passed_in link d).day
passed_fits link d h = record { each = all_fit link d.moment d refl d.entries h.each; pairs = pairs_apart link d d.entries (all_hold d.entries) h.pairs }

pub tick_fits : (d : Day) → DayFits d → DayFits (tick d).day
tick_fits d h = by_cases (nat_le 300000 d.moment) _ _ (λ (s : Sent Day). DayFits s.day) (λ _. h) (λ _. passed_fits Up d h)

pub without_fits : (rules : Rules) (d : Day) → DayFits d → DayFits (without_link_by rules d)
without_fits rules d h = by_cases (nat_le 300000 d.moment) _ _ DayFits (λ _. h) (λ _. passed_fits (Down rules) d h)
