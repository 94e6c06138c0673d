-- Private: bookings while they are counted.
use Rattle.std.specs.Prelude.{◌≡◌, ℕ, ◌+◌, ◌*◌, ◌≤◌, Bool, List, drop}
use Rattle.bx_base.specs.declared.booking.TheConstants.{MAX_PAY}
use Rattle.bx_day.specs.declared.entry.Entry.{Entry}
use Rattle.bx_day.specs.declared.entry.Standing.{Standing}
use Rattle.bx_records.specs.Totals.{how_many, pays_of, total_of, carried_seconds, booked_seconds, one_if_short}
use Rattle.bx_records.specs.declared.lasted.Lasted.{Lasted}
use Rattle.bx_records.specs.declared.tallies.Tally.{Tally}

-- all such bookings are counted
pub record IsTallyOf (test : Standing → Bool) (entries : List Entry) (tally : Tally) : Type 0 where
  pub count : tally.count ≡ how_many test entries
  pub pay : tally.pay ≡ pays_of test entries

-- those among the first k are
pub record IsTallySoFar (test : Standing → Bool) (entries : List Entry) (k : ℕ) (tally : Tally) : Type 0 where
  pub count : tally.count + how_many test (drop k entries) ≡ how_many test entries
  pub pay : tally.pay + pays_of test (drop k entries) ≡ pays_of test entries
  pub few : tally.count ≤ k
  pub limit : tally.pay ≤ k * MAX_PAY

-- the seconds of all these bookings
pub record AreLasted (entries : List Entry) (lasted : Lasted) : Type 0 where
  pub carried : lasted.carried ≡ total_of carried_seconds entries
  pub booked : lasted.booked ≡ total_of booked_seconds entries
  pub short : lasted.short ≡ total_of one_if_short entries

-- a number of each, together, among the first k
pub record IsTotalSoFar (f : Entry → ℕ) (entries : List Entry) (k total : ℕ) : Type 0 where
  pub total_is : total + total_of f (drop k entries) ≡ total_of f entries
  pub limit : total ≤ k * 4294967295
