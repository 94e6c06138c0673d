-- What an answer of the check says of the sets of rows.
use Rattle.std.proofs.Common.{◌≡◌, ℕ, ◌≤◌, Bool, List, arith}
use Rattle.std.specs.Prelude.{pos, ◌≤ℤ◌}
use Rattle.std.proofs.lemmas.Bool.{true_from_ne_false}
use Rattle.std.proofs.lemmas.Int.{ints}
use Rattle.bx_base.specs.Channels.{has_channel, count_of}
use Rattle.bx_base.specs.Bookings.{Row, Carries, IsLawful, pay_of}
use Rattle.bx_base.specs.Bound.{bound_of}
use Rattle.bx_base.specs.Plans.{is_accepted, channel_at}
use Rattle.bx_base.specs.PlanParts.{Parts}
use Rattle.bx_check.specs.Check.{IsSound, IsTotalRight}
use Rattle.bx_base.proofs.Duality.{pay-le-bound}

module _ (rows : List Row) (channels : List Bool) (plan : Parts) where
  sound-carries_itself : IsSound rows channels plan → Carries plan.rows plan.channels (is_accepted plan.assigned) (channel_at plan.assigned)
  sound-carries_itself h =
      record {
        in_service = λ i b a. true_from_ne_false (has_channel plan.channels (channel_at plan.assigned i)) (λ f. h.in_service i b (a, f));
        apart = λ i j a b p q o e. h.none_overlap i j a b (record { first = p; second = q; overlap = o; channel = e });
      }

  pub sound-lawful_itself : IsSound rows channels plan → IsLawful plan.rows plan.channels (is_accepted plan.assigned)
  sound-lawful_itself h =
      record {
        carried = (channel_at plan.assigned, sound-carries_itself h);
        has_musts = λ i b m. true_from_ne_false (is_accepted plan.assigned i) (λ f. h.has_musts i b (m, f));
      }

  pub sound-carries : IsSound rows channels plan → Carries rows channels (is_accepted plan.assigned) (channel_at plan.assigned)
  sound-carries h = rw (h.parts.bookings, h.parts.channels_too) (sound-carries_itself h)

  pub sound-lawful : IsSound rows channels plan → IsLawful rows channels (is_accepted plan.assigned)
  sound-lawful h = rw (h.parts.bookings, h.parts.channels_too) (sound-lawful_itself h)

  within_whole : (pay bound : ℕ) → pos pay ≤ℤ pos bound → pay ≤ bound
  within_whole pay bound h = omega (arith, ints)

  -- no lawful set of rows pays more than the bound
  pub sound-best : (bound : ℕ) → IsSound rows channels plan → pos bound ≡ bound_of plan.rows (count_of plan.channels) plan.prices → (set : ℕ → Bool) → IsLawful rows channels set → pay_of rows set ≤ bound
  sound-best bound h e = rw (h.parts.bookings, h.parts.channels_too) (λ set lawful. within_whole (pay_of plan.rows set) bound (rw e (pay-le-bound plan.rows plan.channels plan.prices set lawful)))

  -- so the total of a sound plan is at most the bound
  pub total-le-bound : (bound : ℕ) → IsSound rows channels plan → IsTotalRight plan → pos bound ≡ bound_of plan.rows (count_of plan.channels) plan.prices → plan.total ≤ bound
  total-le-bound bound h t e = rw t (within_whole (pay_of plan.rows (is_accepted plan.assigned)) bound (rw e (pay-le-bound plan.rows plan.channels plan.prices (is_accepted plan.assigned) (sound-lawful_itself h))))
