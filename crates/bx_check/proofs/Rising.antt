-- Prices whose moments rise.
use Rattle.std.proofs.Common.{◌≡◌, ℕ, ◌+◌, ◌<◌, List, map, length, get_or, arith}
use Rattle.std.proofs.lemmas.List.{length-map}
use Rattle.std.proofs.Math.ListN.{get_or-map}
use Rattle.bx_base.specs.Bound.{Charge, price_at, no_charge}
use Rattle.bx_check.specs.Check.{IsRising}

moment_at : (prices : List Charge) (k : ℕ) → get_or (map (λ (p : Charge). p.moment) prices) k 0 ≡ (price_at prices k).moment
moment_at prices k = get_or-map (λ (p : Charge). p.moment) prices k no_charge

-- the prices rise, said of each and the next
pub rising_from_each : (prices : List Charge) → ((k : ℕ) → k + 1 < length prices → (price_at prices k).moment < (price_at prices (k + 1)).moment) → IsRising prices
rising_from_each prices h k b = rw (moment_at prices k, moment_at prices (k + 1)) (h k (omega (arith, length-map prices (λ (p : Charge). p.moment))))

pub each_from_rising : (prices : List Charge) → IsRising prices → (k : ℕ) → k + 1 < length prices → (price_at prices k).moment < (price_at prices (k + 1)).moment
each_from_rising prices h k b = rw (← moment_at prices k, ← moment_at prices (k + 1)) (h k (omega (arith, length-map prices (λ (p : Charge). p.moment))))
