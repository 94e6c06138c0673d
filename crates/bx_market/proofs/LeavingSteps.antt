-- The steps away from a lost channel, each in the journal.
use Rattle.std.specs.Result.{is_err}
use Rattle.std.proofs.Common.{◌≡◌, Bool, true, false, List, [], ◌∷◌, ℕ, ◌+◌, ◌-◌, Result, Ok, Err, OnOk, OnErr, Option, Some, None, IfSome, refl, sym, ap, arith}
use Rattle.bx_day.specs.Day.{Day}
use Rattle.bx_events.specs.Events.{Amended}
use Rattle.bx_events.specs.declared.amendment.Amendment.{Amendment}
use Rattle.bx_live.specs.Acts.{Act, Logged}
use Rattle.bx_live.specs.Runs.{Over}
use Rattle.bx_planfile.specs.OneBooking.{row_on}
use Rattle.bx_sales.specs.Amending.{AmendsDay}
use Rattle.bx_market.specs.Deals.{Deal, all_ran}
use Rattle.bx_market.specs.Offers.{Asks}
use Rattle.bx_market.specs.Stands.{Within, Leaving, IsLeavingStep}
use Rattle.bx_market.proofs.Steps.{one_inside, none_asked, at_stand}

-- what is known of an answer that is well, and of one that is not
pub well_is : {A E P : Type 0} (r : Result A E) → is_err r ≡ false → OnOk r P → P
well_is (Ok a) well p = p
well_is (Err e) well p = absurd cc

pub bad_is : {A E P : Type 0} (r : Result A E) → is_err r ≡ true → OnErr r P → P
bad_is (Ok a) bad p = absurd cc
bad_is (Err e) bad p = p

pub some_map : {A : Type 0} (P Q : A → Type 0) (r : Option A) → ((a : A) → P a → Q a) → IfSome r P → IfSome r Q
some_map P Q (Some a) on p = on a p
some_map P Q None on p = tt

pub back_again : (place : ℕ) → place + 1 - 1 ≡ place
back_again place = omega arith

module _ {W : Type 0} {did : W → List Act → W → Type 0} {dealt : W → List Deal → W → Type 0} (channels : List Bool) (by : (v w : W) (acts : List Act) → did v acts w → dealt v (all_ran acts) w) (shown d d1 : Day) where
  pub step_logged : {u v : W} (kind : Amendment) (line : List ℕ) → did u (Logged (Amended kind line) true ∷ []) v → AmendsDay channels row_on kind line d d1 → IsLeavingStep kind → Asks dealt channels u v (Leaving shown d) (Leaving shown d1)
  step_logged {u} {v} kind line done is step = one_inside channels by (Leaving shown d) (Leaving shown d1) (Logged (Amended kind line) true) done (d1, is, step, refl) refl

  pub step_over : {u v : W} (kind : Amendment) (line : List ℕ) → did u (Logged (Amended kind line) false ∷ []) v → Asks dealt channels u v (Leaving shown d) (Within (Over d))
  step_over {u} {v} kind line done = one_inside channels by (Leaving shown d) (Within (Over d)) (Logged (Amended kind line) false) done refl refl

  pub no_step : ((w : W) → did w [] w) → (u : W) → d1 ≡ d → Asks dealt channels u u (Leaving shown d) (Leaving shown d1)
  no_step none u same = at_stand (Leaving shown d) (Leaving shown d1) (ap (Leaving shown) (sym same)) (none_asked channels by none u (Leaving shown d))
