-- What starts later stays at rest: up to moment m a booking that starts at m or later is refused or waits, on whatever channel. It holds
-- none, and a second before m does nothing to it.
use Rattle.std.proofs.Common.{◌≡◌, ℕ, ◌≤◌, ◌<◌, ◌==◌, ◌&&◌, ◌||◌, not, Bool, false, List, [], ◌∷◌, Some, arith, refl, ap, ap₂, ◌∙◌, nat_le, nat_lt, if◌then◌else◌}
use Rattle.std.specs.List.{AllByRecursion}
use Rattle.bx_calls.specs.Saying.{setup_of}
use Rattle.bx_calls.specs.NetTable.{net_offered}
use Rattle.bx_day.specs.declared.entry.Activity.TheVariants.{Never}
use Rattle.bx_day.specs.declared.entry.Entry.{Entry}
use Rattle.bx_day.specs.declared.entry.Link.{Link}
use Rattle.bx_day.specs.declared.entry.Link.TheVariants.{Up, Down}
use Rattle.bx_day.specs.declared.entry.Standing.{Standing}
use Rattle.bx_day.specs.declared.entry.Standing.TheVariants.{Refused, Unoffered, OnCall, Missed}
use Rattle.bx_day.specs.Day.{is_held, is_live}
use Rattle.bx_day.specs.Moves.{becomes, stays}
use Rattle.bx_day.specs.Ticks.{waits, second_by}
use Rattle.bx_day.proofs.Quiet.{late}

-- nothing becomes of a booking with this start before moment m: it is refused, or waits and starts at m or later
abbrev pub Rests : ℕ → ℕ → Standing → Type 0
Rests m start Refused = Unit {0}
Rests m start Unoffered = m ≤ start
Rests m start _ = ⊥

-- a booking of which nothing becomes before moment m
pub record IsToCome (m : ℕ) (e : Entry) : Type 0 where
  pub order : e.booking.start < e.booking.end
  pub rests : Rests m e.booking.start e.standing

pub rests_unheld : (m start : ℕ) (s : Standing) → Rests m start s → is_live s ≡ false
rests_unheld m start Refused h = refl
rests_unheld m start Unoffered h = refl
rests_unheld m start s h = absurd h

pub none_held : (m c : ℕ) (ns : List Entry) → AllByRecursion (IsToCome m) ns → is_held ns c ≡ false
none_held m c [] h = refl
none_held m c (n ∷ ns) h = ap₂ (λ x y. (x && (n.channel == c)) || y) (rests_unheld m n.booking.start n.standing h.0.rests) (none_held m c ns h.1)

-- ---- what a second does to one: nothing, where it starts later

waits_still : (e : Entry) (t : ℕ) (back free : Bool) → t < e.booking.start → e.booking.start < e.booking.end → waits e t back free ≡ stays Unoffered
waits_still e t back free before order =
    ap (λ b. if (b && nat_lt t e.booking.end) && not e.booking.inward && free then becomes (OnCall (net_offered e.reference e.channel e.booking.number back t) Never) (Some (setup_of e.reference e.channel e.booking.number)) else if nat_le e.booking.end t then stays Missed else stays Unoffered) (late e.booking.start t before)
    ∙ ap (λ b. if b then stays Missed else stays Unoffered) (late e.booking.end t (omega (arith, before, order)))

pub second_still : (m : ℕ) (link : Link) (e : Entry) (t : ℕ) (back free : Bool) (s : Standing) → t < m → Rests m e.booking.start s → e.booking.start < e.booking.end → second_by link e t back free s ≡ stays s
second_still m Up e t back free Refused early h order = refl
second_still m Up e t back free Unoffered early h order = waits_still e t back free (omega (arith, early, h)) order
second_still m (Down rules) e t back free Refused early h order = refl
second_still m (Down rules) e t back free Unoffered early h order = waits_still e t false false (omega (arith, early, h)) order
second_still m link e t back free s early h order = absurd h
