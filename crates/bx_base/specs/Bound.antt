-- Prices on moments, which are dual prices, and the bound that they set.
use Rattle.std.specs.Prelude.{◌≡◌, ℕ, ◌-◌, ◌*◌, ◌<◌, ◌≤◌, ℤ, pos, ◌+ℤ◌, ◌-ℤ◌, ◌≤ℤ◌, Bool, List, length, All, map, sum_by, slice_index_or, if◌then◌else◌}
use Rattle.std.specs.List.Sorted.{IsStrictlyIncreasing}
use Rattle.bx_base.specs.Sums.{sum_ints_below}
use Rattle.bx_base.specs.Channels.{count_of}
use Rattle.bx_base.specs.Bookings.{Row, row_at, is_running, IsLawful, pay_of}
use Rattle.bx_base.specs.declared.booking.TheConstants.{MAX_MOMENT}
use Rattle.bx_base.specs.declared.plan.TheConstants.{MAX_TOTAL}

-- a price from a list: what a channel costs at one moment
pub record Charge : Type 0 where
  pub moment : ℕ
  pub amount : ℕ

-- a price from its parts
abbrev pub charge_of : ℕ → ℕ → Charge
charge_of moment amount = record { moment = moment; amount = amount }

-- the limits of a price
pub record IsCharge (price : Charge) : Type 0 where
  pub in_day : price.moment < MAX_MOMENT
  pub positive : 1 ≤ price.amount
  pub limit : price.amount ≤ MAX_TOTAL

-- what stands in place of a price beyond the last one
abbrev pub no_charge : Charge
no_charge = record { moment = 0; amount = 0 }

-- the price of this index, counted from 0
abbrev pub price_at : List Charge → ℕ → Charge
price_at prices i = slice_index_or prices i no_charge

-- a list of prices: one for each moment that has one, in their order
pub record IsPriceList (prices : List Charge) : Type 0 where
  pub rising : IsStrictlyIncreasing (map (λ p. p.moment) prices)
  pub positive : All (λ p. 1 ≤ p.amount) prices

-- what a channel costs all day
abbrev pub sum_of_prices : List Charge → ℕ
sum_of_prices prices = sum_by (λ p. p.amount) prices

-- what the row costs: the prices at the moments at which it runs
abbrev pub cost_of : List Charge → Row → ℕ
cost_of prices row = sum_by (λ p. if is_running row p.moment then p.amount else 0) prices

-- what a row adds to the bound: a must row its pay less its cost, of either sign, and a free row that difference
-- where it is above 0
abbrev pub term_of : List Charge → Row → ℤ
term_of prices row = if row.must then pos row.pay -ℤ pos (cost_of prices row) else pos (row.pay - cost_of prices row)

-- the bound on the pay of each lawful set: the dual objective at these prices
abbrev pub bound_of : List Row → ℕ → List Charge → ℤ
bound_of rows count prices = pos (count * sum_of_prices prices) +ℤ sum_ints_below (length rows) (λ i. term_of prices (row_at rows i))

-- a price list that proves a set: the set is lawful, and pays just the bound
pub record Proves (rows : List Row) (channels : List Bool) (prices : List Charge) (set : ℕ → Bool) : Type 0 where
  pub lawful : IsLawful rows channels set
  pub exact : bound_of rows (count_of channels) prices ≡ pos (pay_of rows set)

-- weak duality: whatever the prices are, no lawful set pays more than the bound
abbrev pub IsWeakDuality : Type 0
IsWeakDuality =
    (rows : List Row) (channels : List Bool) (prices : List Charge) (set : ℕ → Bool)
    → IsLawful rows channels set
    → pos (pay_of rows set) ≤ℤ bound_of rows (count_of channels) prices
