-- What a search that is sound says of its lists.
use Rattle.std.proofs.Common.{◌≡◌, ℕ, ◌<◌, List, length, ℤ, arith}
use Rattle.std.specs.List.{Contains}
use Rattle.bx_line.specs.Flows.{Flow}
use Rattle.bx_line.specs.Network.{Network}
use Rattle.bx_dist.specs.declared.part.Part.{Part}
use Rattle.bx_dist.specs.Search.{AreMedium}
use Rattle.bx_heap.specs.Searching.{State, setting_of, IsResting, IsSoundState}
use Rattle.bx_heap.proofs.Searches.{search_room}

pub record IsRoomy (heights : List ℤ) (st : State) : Type 0 where
  pub heights_each : length heights ≡ length st.lengths
  pub ranks_each : length st.ranks ≡ length st.lengths
  pub medium : AreMedium st.lengths
  pub tight : (v : ℕ) → Contains st.tight v → v < length st.lengths
  pub fresh : (v : ℕ) → Contains st.fresh v → v < length st.lengths
  pub waiting : (n v : ℕ) → Contains st.waiting (n, v) → v < length st.lengths

pub roomy_from_sound : (heights : List ℤ) (st : State) → IsSoundState heights st → IsRoomy heights st
roomy_from_sound heights st (part, line, flow, setting, resting) =
    let room = search_room (setting_of part line flow heights) st (λ _. ⊥) (λ _. ⊥) setting resting in
    record {
      heights_each = omega (arith, setting.fits.one_each, resting.front.lengths_each);
      ranks_each = omega (arith, resting.front.ranks_each, resting.front.lengths_each);
      medium = λ v. omega (arith, room.roomy v);
      tight = λ v c. omega (arith, (resting.queues.tight v c).0, resting.front.lengths_each);
      fresh = λ v c. omega (arith, (resting.queues.fresh v c).0, resting.front.lengths_each);
      waiting = λ n v c. omega (arith, (resting.queues.waiting n v c).0, resting.front.lengths_each);
    }

-- what keeps each setting keeps a sound search so
pub sound_after : (heights : List ℤ) (old new : State) → IsSoundState heights old → ((part : Part) (line : Network) (flow : Flow) → IsResting (setting_of part line flow heights) old → IsResting (setting_of part line flow heights) new) → IsSoundState heights new
sound_after heights old new (part, line, flow, setting, resting) keeps = (part, line, flow, setting, keeps part line flow resting)
