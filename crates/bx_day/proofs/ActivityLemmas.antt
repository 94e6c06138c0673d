-- How the moments of a call's activity go on.
use Rattle.std.proofs.Common.{ℕ, ◌≤◌, true, false, arith}
use Rattle.bx_base.specs.Bookings.{Row}
use Rattle.bx_day.specs.Moves.{activity_after, over_at}
use Rattle.bx_day.specs.declared.entry.Entry.{Entry}
use Rattle.bx_day.specs.declared.entry.Activity.{Activity}
use Rattle.bx_day.specs.declared.entry.Activity.TheVariants.{Never, Since, Was}
use Rattle.bx_day.specs.Invariant.{Ringing, Talking, Clearing, ActivityFits, EntryFits}

pub ringing_kept : (t u : ℕ) (b : Row) (a : Activity) → ActivityFits t b Ringing a → ActivityFits u b Ringing (activity_after a false u)
ringing_kept t u b Never h = tt
ringing_kept t u b a h = absurd h

pub talking_kept : (t u : ℕ) (b : Row) (a : Activity) → t ≤ u → ActivityFits t b Talking a → ActivityFits u b Talking (activity_after a true u)
talking_kept t u b (Since from) le h = (h.0, omega arith)
talking_kept t u b a le h = absurd h

pub clearing_kept : (t u : ℕ) (b : Row) (a : Activity) → t ≤ u → ActivityFits t b Clearing a → ActivityFits u b Clearing (activity_after a false u)
clearing_kept t u b Never le h = tt
clearing_kept t u b (Since from) le h = absurd h
clearing_kept t u b (Was from until) le h = (h.0, h.1, omega arith, h.3)

pub ringing_clears : (t u : ℕ) (b : Row) (a : Activity) → ActivityFits t b Ringing a → ActivityFits u b Clearing (activity_after a false u)
ringing_clears t u b Never h = tt
ringing_clears t u b a h = absurd h

pub talking_clears : (t u : ℕ) (b : Row) (a : Activity) → t ≤ u → u ≤ b.end → ActivityFits t b Talking a → ActivityFits u b Clearing (activity_after a false u)
talking_clears t u b (Since from) le high h = (h.0, omega arith, omega arith, high)
talking_clears t u b a le high h = absurd h

pub ringing_talks : (t u : ℕ) (b : Row) (a : Activity) → b.start ≤ u → ActivityFits t b Ringing a → ActivityFits u b Talking (activity_after a true u)
ringing_talks t u b Never low h = (low, omega arith)
ringing_talks t u b a low h = absurd h

pub ringing_over : (t u : ℕ) (e : Entry) (a : Activity) → ActivityFits t e.booking Ringing a → EntryFits u (record e { standing = over_at a u })
ringing_over t u e Never h = tt
ringing_over t u e a h = absurd h

pub talking_over : (t u : ℕ) (e : Entry) (a : Activity) → t ≤ u → u ≤ e.booking.end → ActivityFits t e.booking Talking a → EntryFits u (record e { standing = over_at a u })
talking_over t u e (Since from) le high h = (h.0, omega arith, high)
talking_over t u e a le high h = absurd h

pub clearing_over : (t u : ℕ) (e : Entry) (a : Activity) → ActivityFits t e.booking Clearing a → EntryFits u (record e { standing = over_at a u })
clearing_over t u e Never h = tt
clearing_over t u e (Since from) h = absurd h
clearing_over t u e (Was from until) h = (h.0, h.1, h.3)
