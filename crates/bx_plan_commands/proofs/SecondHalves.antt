-- What the second half of a command says, said of the whole command.
use Rattle.std.proofs.Common.{ℕ, List, Option, Result, Ok, Err, inl, inr, refl, ◌⊎◌}
use Rattle.std.specs.Prelude.{IfErr}
use Rattle.bx_base.specs.PlanParts.{Parts}
use Rattle.bx_calendar.specs.declared.day.Day.{Day}
use Rattle.bx_devices.specs.Devices.{Writing}
use Rattle.bx_devices.specs.declared.watched.Watched.{Watched}
use Rattle.bx_plan_commands.proofs.Fewer.{read_before, bookings_before, none_before}
use Rattle.bx_plan_commands.specs.FilePlans.{AreRowsFor, IsChecked, IsEarlierPlan, IsHeldNoted}
use Rattle.bx_plan_commands.specs.FileRefusals.{HasNoBookings, IsCheckRefusal, IsNotAmended}
use Rattle.bx_plan_commands.specs.Inside.{IsCheckedFor, IsNotCheckedFor, IsHeldWith, IsNotAmendedWith}
use Rattle.bx_plan_commands.specs.declared.fault.FileFault.{FileFault}
use Rattle.bx_plan_commands.specs.declared.fault.FileFault.TheVariants as files
use Rattle.bx_request.specs.declared.request.Terms.{Terms}

-- no more bookings were read
pub without_more : {W : Type 0} (gives : List ℕ → Option (List ℕ) → Type 0) (day : Day) (earlier : Parts) (bookings : List ℕ) (contents : W → Option (List ℕ)) (output : Watched W) (fault : FileFault)
    → HasNoBookings gives bookings day fault → IsNotAmendedWith gives day earlier bookings contents output output fault
without_more gives day earlier bookings contents output (files.Amend fault) why = none_amended why
  where
    none_amended : {A : Type 0} {B : A → Type 0} {C : Type 0} → ⊥ ⊎ ((input : A) × B input × ⊥) → C
    none_amended (inl p) = absurd p
    none_amended (inr (input, of_name, p)) = absurd p
without_more gives day earlier bookings contents output fault why = (why, refl)

module _ (before after : List ℕ → Option (List ℕ) → Type 0) (fewer : (other : List ℕ) (text : Option (List ℕ)) → after other text → before other text) where
  pub checked_before : (terms : Terms) (bookings plan : List ℕ) (given : AreRowsFor before terms bookings) (output : Writing) → IsCheckedFor after given.rows given.channels plan output → IsChecked before terms bookings plan output
  checked_before terms bookings plan given output c = record { given = given; input = c.input; of_name = read_before before after fewer plan c.input c.of_name; total = c.total; proved = c.proved; written = c.written }

  unchecked : {W : Type 0} (terms : Terms) (bookings plan : List ℕ) (given : AreRowsFor before terms bookings) (contents : W → Option (List ℕ)) (old new : Watched W) (fault : FileFault)
      → IsNotCheckedFor after given.rows given.channels plan contents old new fault → IsCheckRefusal before terms bookings plan contents old new fault
  unchecked terms bookings plan given contents old new fault (inl (why, same)) = inl (inr (inr (given, why)), same)
  unchecked terms bookings plan given contents old new fault (inr u) = inr (record { given = given; input = u.input; of_name = read_before before after fewer plan u.input u.of_name; refused = u.refused })

  pub unchecked_before : {W : Type 0} (terms : Terms) (bookings plan : List ℕ) (given : AreRowsFor before terms bookings) (contents : W → Option (List ℕ)) (old new : Watched W) (r : Result (Unit {0}) FileFault)
      → IfErr r (IsNotCheckedFor after given.rows given.channels plan contents old new) → IfErr r (IsCheckRefusal before terms bookings plan contents old new)
  unchecked_before terms bookings plan given contents old new (Ok done) why = why
  unchecked_before terms bookings plan given contents old new (Err fault) why = unchecked terms bookings plan given contents old new fault why

  pub held_before : (date zone plan bookings : List ℕ) (given : IsEarlierPlan before date zone plan) (output errors : Writing) → IsHeldWith after given.day given.earlier bookings output errors → IsHeldNoted before date zone plan bookings output errors
  held_before date zone plan bookings given output errors h = record {
    held = record { given = given; more = h.more; more_of = bookings_before before after fewer bookings given.day h.more h.more_of; longer = h.longer; planned = h.planned };
    noted = h.noted;
  }

  unamended : {W : Type 0} (date zone plan bookings : List ℕ) (given : IsEarlierPlan before date zone plan) (contents : W → Option (List ℕ)) (old new : Watched W) (fault : FileFault)
      → IsNotAmendedWith after given.day given.earlier bookings contents old new fault → IsNotAmended before date zone plan bookings contents old new fault
  unamended date zone plan bookings given contents old new (files.Amend fault) u = record { given = given; more = u.more; more_of = bookings_before before after fewer bookings given.day u.more u.more_of; refused = u.refused; told = u.told }
  unamended date zone plan bookings given contents old new fault (why, same) = (inr (inr (given, none_before before after fewer bookings given.day fault why)), same)

  pub unamended_before : {W : Type 0} (date zone plan bookings : List ℕ) (given : IsEarlierPlan before date zone plan) (contents : W → Option (List ℕ)) (old new : Watched W) (r : Result (Unit {0}) FileFault)
      → IfErr r (IsNotAmendedWith after given.day given.earlier bookings contents old new) → IfErr r (IsNotAmended before date zone plan bookings contents old new)
  unamended_before date zone plan bookings given contents old new (Ok done) why = why
  unamended_before date zone plan bookings given contents old new (Err fault) why = unamended date zone plan bookings given contents old new fault why
