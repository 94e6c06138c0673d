-- The day of a plan that is carried: each row stands where it stood, and has its row as its reference.
use Rattle.std.proofs.Common.{◌≡◌, ℕ, ◌<◌, Bool, List, length, Option, None, ◌∙◌, slice_index_or}
use Rattle.bx_base.specs.Bookings.{Row, row_at, AreBookings, Carries}
use Rattle.bx_base.specs.Plans.{is_accepted, channel_at}
use Rattle.bx_events.specs.Events.{LiveEvent}
use Rattle.bx_day.specs.Changed.{AreReferredByRow}
use Rattle.bx_day.specs.Day.{Day, entry_at, opening}
use Rattle.bx_day.specs.Outages.{live_day_after}
use Rattle.bx_day.proofs.Law.{IsFrame, RunFits, live_run, opening_fits, opening_framed, opening_placed, referred_by_row}
use Rattle.bx_day.proofs.OpeningDay.{opening_size}
use Rattle.bx_day.proofs.Staying.{run_size}

module _ (rows : List Row) (channels : List Bool) (assigned : List (Option ℕ)) (events : List LiveEvent) (bookings : AreBookings rows) (carries : Carries rows channels (is_accepted assigned) (channel_at assigned)) where
  abbrev now : Day
  now = live_day_after events (opening rows assigned)

  fits : RunFits rows assigned now
  fits = live_run rows assigned events (opening rows assigned) (record { day = opening_fits rows channels assigned bookings carries; framed = (opening_framed 1 rows assigned, opening_placed rows assigned) })

  pub size : length now.entries ≡ length rows
  size = run_size events (opening rows assigned) ∙ opening_size 1 rows assigned

  pub frame_at : (i : ℕ) → i < length rows → IsFrame (row_at rows i) (slice_index_or assigned i None) (entry_at now.entries i)
  frame_at i lt = fits.framed.0 i lt

  pub referred_now : AreReferredByRow now.entries
  referred_now = referred_by_row rows assigned now fits
