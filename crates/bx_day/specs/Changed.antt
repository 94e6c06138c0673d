-- The day of a plan that agrees with another on the past. What has become of a booking stays; a booking that was never live, since the plan
-- refuses it or since it waits, is as the other plan has it, as long as that lets it start later than now or takes it for the same.
use Rattle.std.specs.Prelude.{◌≡◌, ◌⊎◌, ℕ, ◌<◌, ◌≤◌, Bool, true, false, List, [], ◌∷◌, length, Option, Some, None, is_some, slice_index_or, if◌then◌else◌}
use Rattle.bx_q931.specs.Outgoing.{Outgoing}
use Rattle.bx_base.specs.Bookings.{Row, row_at}
use Rattle.bx_events.specs.Events.{LiveEvent}
use Rattle.bx_day.specs.Day.{Day, entries_from, entry_at}
use Rattle.bx_day.specs.Invariant.{is_refused}
use Rattle.bx_day.specs.Outages.{live_happens}
use Rattle.bx_day.specs.declared.entry.Entry.{Entry}
use Rattle.bx_day.specs.declared.entry.Standing.{Standing}
use Rattle.bx_day.specs.declared.entry.Standing.TheVariants.{Refused, Unoffered, Carried}

-- it was never live: nothing was ever said for it, and it held no channel; and its end has not come
abbrev pub was_never_live : Standing → Bool
was_never_live Refused = true
was_never_live Unoffered = true
was_never_live _ = false

-- what has become of a booking, by what it was so far and by how it stands at the opening of a plan
abbrev pub past_or_planned : Standing → Standing → Standing
past_or_planned past planned = if was_never_live past then planned else past

-- entries, of which the first have what has become of those before
abbrev pub with_past : List Entry → List Entry → List Entry
with_past [] entries = entries
with_past (e ∷ es) [] = []
with_past (e ∷ es) (entry ∷ entries) = record entry { standing = past_or_planned e.standing entry.standing } ∷ with_past es entries

-- with the reference of another
abbrev pub referred : Entry → Entry → Entry
referred e entry = record entry { reference = e.reference }

-- entries, of which the first have the references of those before
abbrev pub with_references : List Entry → List Entry → List Entry
with_references [] entries = entries
with_references (e ∷ es) [] = []
with_references (e ∷ es) (entry ∷ entries) = referred e entry ∷ with_references es entries

abbrev pub changed : List Row → List (Option ℕ) → Day → Day
changed rows assigned d = record d { entries = with_past d.entries (with_references d.entries (entries_from 1 rows assigned)) }

-- ---- which plans a day goes on with

-- the same end, or both are yet to come at moment t
abbrev pub EndsAlike : (t before after : ℕ) → Type 0
EndsAlike t before after = (after ≡ before) ⊎ ((t < before) × (t < after))

-- a call that is over was so by then
abbrev pub IsOverBy : Standing → ℕ → Type 0
IsOverBy (Carried from until) end = until ≤ end
IsOverBy _ end = Unit {0}

-- a row of a plan that has begun as a booking of a day at moment t: it starts when that one did, on its channel
pub record HasBegunAs (t : ℕ) (e : Entry) (row : Row) (given : Option ℕ) : Type 0 where
  pub accepted : is_refused e.standing ≡ false
  pub start : row.start ≡ e.booking.start
  pub end : EndsAlike t e.booking.end row.end
  pub over : IsOverBy e.standing row.end
  pub number : row.number ≡ e.booking.number
  pub inward : row.inward ≡ e.booking.inward
  pub channel : given ≡ Some e.channel

-- a row of a plan of which nothing becomes by moment t: it is refused, or starts later
abbrev pub IsAhead : ℕ → Row → Option ℕ → Type 0
IsAhead t row given = is_some given ≡ true → t < row.start

-- a booking of a day at moment t as a row of a plan, by the channel that it is given there
abbrev pub AgreesAt : ℕ → Entry → Row → Option ℕ → Type 0
AgreesAt t e row given = ((was_never_live e.standing ≡ true) × IsAhead t row given) ⊎ HasBegunAs t e row given

-- each booking has its row as the reference: so it is in a day from an opening, and in none that took over from another (Handing)
abbrev pub AreReferredByRow : List Entry → Type 0
AreReferredByRow es = (i : ℕ) → i < length es → (entry_at es i).reference ≡ (entry_at es i).row

-- the plan agrees with the day up to its moment: each booking in its place, and new ones after them, of which nothing becomes by then. New ones
-- have their rows as references, so there are none in a day with others
pub record AgreesWith (d : Day) (rows : List Row) (assigned : List (Option ℕ)) : Type 0 where
  pub longer : length d.entries ≤ length rows
  pub each : (i : ℕ) → i < length d.entries → AgreesAt d.moment (entry_at d.entries i) (row_at rows i) (slice_index_or assigned i None)
  pub later : (i : ℕ) → length d.entries ≤ i → i < length rows → IsAhead d.moment (row_at rows i) (slice_index_or assigned i None)
  pub by_row : length d.entries < length rows → AreReferredByRow d.entries

-- ---- what is sent

-- at each event of a day
abbrev pub said_at_each : List LiveEvent → Day → List (List Outgoing)
said_at_each [] d = []
said_at_each (e ∷ es) d = (live_happens d e).sent ∷ said_at_each es (live_happens d e).day
