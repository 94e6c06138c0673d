-- Private: a search for distances: places that are settled, one that is in hand, and places that wait.
use Rattle.std.specs.Prelude.{◌≡◌, ◌≢◌, ℕ, ◌<◌, ◌≤◌, ◌+◌, ◌-◌, List, [], ◌∷◌, ◌++◌, length, ℤ, pos, nat_abs, ◌-ℤ◌, ◌≤ℤ◌, ◌⊎◌, slice_index, slice_set, Contains, nat_lt, if◌then◌else◌, Option, MatchOption}
use Rattle.std.specs.BinaryHeap.{heap_items}
use Rattle.bx_base.specs.Sums.{sum_below}
use Rattle.bx_line.specs.Network.{Network, IsNetwork, places_of}
use Rattle.bx_line.specs.Flows.{Flow}
use Rattle.bx_line.specs.declared.incidence.Incidence.{Incidence}
use Rattle.bx_line.specs.declared.incidence.Incidence.TheVariants.{Leaving, Arriving}
use Rattle.bx_dist.specs.declared.part.Part.{Part}
use Rattle.bx_dist.specs.declared.step.Step.{Step}
use Rattle.bx_dist.specs.declared.step.Step.TheVariants.{Idle, Back, Take, Give}
use Rattle.bx_dist.specs.Residual.{IsOpen, AreSmall, ArePotentials, height_at, step_from, step_to}
use Rattle.bx_dist.specs.Search.{ShortensNothing, IsStep, Shortens}
use Rattle.bx_dist.specs.Tight.{last_step}
use Rattle.bx_heap.specs.declared.frontier.Frontier.{Frontier}
use Rattle.bx_heap.specs.Frontier.{reduced, IsFront}

-- what a search keeps
pub record State : Type 0 where
  pub lengths : List ℤ
  pub last : List Step
  pub ranks : List ℕ
  pub count : ℕ
  pub level : ℤ
  pub tight : List ℕ
  pub fresh : List ℕ
  pub waiting : List (ℕ × ℕ)

abbrev pub state_from : Frontier → State
state_from f =
    record { lengths = f.lengths.items; last = f.last.items; ranks = f.ranks.items; count = f.count; level = f.level; tight = f.tight.items; fresh = f.fresh.items; waiting = heap_items f.waiting.places }

-- what is searched: a part of the residual network of a flow, with potentials
pub record Setting : Type 0 where
  pub part : Part
  pub line : Network
  pub flow : Flow
  pub heights : List ℤ

abbrev pub setting_of : Part → Network → Flow → List ℤ → Setting
setting_of part line flow heights = record { part = part; line = line; flow = flow; heights = heights }

-- the potentials fit the whole residual network of the flow, and there is a first place
pub record IsSetting (s : Setting) : Type 0 where
  pub limits : IsNetwork s.line
  pub moment : 0 < places_of s.line
  pub fits : ArePotentials s.line s.flow s.heights
  pub small : AreSmall s.heights

-- how near a place is: what its reduced length is below 2 to the power of 61
abbrev pub nearness_at : List ℤ → List ℤ → ℕ → ℤ
nearness_at heights lengths v = pos 2305843009213693952 -ℤ reduced heights lengths v

-- the place is in one of the lists of those that wait, in the heap as near as it is now
abbrev pub IsQueued : Setting → State → ℕ → Type 0
IsQueued s st v = Contains st.tight v ⊎ (Contains st.fresh v ⊎ ((n : ℕ) × Contains st.waiting (n, v) × (pos n ≡ nearness_at s.heights st.lengths v)))

-- the lists have places that are reached: those at the level, and in the heap none nearer than it is now
pub record AreQueues (s : Setting) (st : State) : Type 0 where
  pub tight : (v : ℕ) → Contains st.tight v → (v < places_of s.line) × (height_at st.lengths v ≤ℤ pos 0) × (reduced s.heights st.lengths v ≤ℤ st.level)
  pub fresh : (v : ℕ) → Contains st.fresh v → (v < places_of s.line) × (height_at st.lengths v ≤ℤ pos 0)
  pub waiting : (n v : ℕ) → Contains st.waiting (n, v) → (v < places_of s.line) × (height_at st.lengths v ≤ℤ pos 0) × (pos n ≤ℤ nearness_at s.heights st.lengths v)

-- a search under way, with places in hand, and steps from settled places that are left
pub record IsSearch (s : Setting) (st : State) (Hand : ℕ → Type 0) (Left : Step → Type 0) : Type 0 where
  pub front : IsFront s.part s.line s.flow s.heights st.lengths st.last st.ranks st.level (λ v. IsQueued s st v ⊎ Hand v) Left
  pub queues : AreQueues s st
  pub start : height_at st.lengths 0 ≤ℤ pos 0
  pub counted : st.count ≡ sum_below (places_of s.line) (λ v. if nat_lt 0 (slice_index st.ranks v) then 1 else 0)
  pub low : (v : ℕ) → slice_index st.ranks v ≤ st.count

-- between two places: nothing is in hand, and no step is left
abbrev pub IsResting : Setting → State → Type 0
IsResting s st = IsSearch s st (λ _. ⊥) (λ _. ⊥)

-- this is so in some setting with these potentials
abbrev pub IsSoundState : List ℤ → State → Type 0
IsSoundState heights st = (part : Part) × (line : Network) × (flow : Flow) × IsSetting (setting_of part line flow heights) × IsResting (setting_of part line flow heights) st

-- a place that is as near as any that waits is in hand
pub record IsInHand (s : Setting) (st : State) (place : ℕ) : Type 0 where
  pub search : IsSearch s st (λ v. v ≡ place) (λ _. ⊥)
  pub within : place < places_of s.line
  pub is_reached : height_at st.lengths place ≤ℤ pos 0
  pub fresh : slice_index st.ranks place ≡ 0
  pub here : reduced s.heights st.lengths place ≡ st.level

-- the place gets the next rank
abbrev pub settled_at : ℕ → State → State
settled_at place st = record st { ranks = slice_set st.ranks place (st.count + 1); count = st.count + 1 }

-- a place was settled last, and some of the steps from it are left
pub record IsSettling (s : Setting) (st : State) (place : ℕ) (Left : Step → Type 0) : Type 0 where
  pub search : IsSearch s st (λ _. ⊥) Left
  pub within : place < places_of s.line
  pub settled : 0 < slice_index st.ranks place
  pub here : reduced s.heights st.lengths place ≡ st.level

-- the turn of a step among those from its place
abbrev pub step_turn_of : Step → ℕ
step_turn_of (Back v) = 0
step_turn_of (Give row) = 1
step_turn_of (Take row) = 2
step_turn_of (Idle v) = 3

-- the steps from a place whose turn has not come yet
abbrev pub IsLeftToTake : Network → ℕ → ℕ → Step → Type 0
IsLeftToTake line place turn step = (step_from line step ≡ place) × (turn ≤ step_turn_of step)

-- the turn of the steps along the rows on a side of their place, and one of them
abbrev pub turn_on : Incidence → ℕ
turn_on Arriving = 1
turn_on Leaving = 2

abbrev pub row_step : Incidence → ℕ → Step
row_step Arriving row = Give (row + 1)
row_step Leaving row = Take (row + 1)

-- the place is put to those at the level where it is there, and otherwise to those reached of late
abbrev pub Queues : Setting → ℕ → State → State → Type 0
Queues s v old new = ((reduced s.heights old.lengths v ≡ old.level) × (new ≡ record old { tight = old.tight ++ v ∷ [] })) ⊎ (new ≡ record old { fresh = old.fresh ++ v ∷ [] })

-- the step was taken where it shortens the way to its end
abbrev pub ReachesStep : Setting → Step → State → State → Type 0
ReachesStep s step old new = (ShortensNothing s.line old.lengths step × (new ≡ old)) ⊎ ((lengths : List ℤ) × Shortens s.line step old.lengths lengths × Queues s (step_to s.line step) (record old { lengths = lengths; last = slice_set old.last (step_to s.line step) step }) new)

-- the same where the step is open
abbrev pub TakesOpenStep : Setting → Step → State → State → Type 0
TakesOpenStep s step old new = ((IsOpen s.part s.line s.flow step → ⊥) × (new ≡ old)) ⊎ (IsOpen s.part s.line s.flow step × ReachesStep s step old new)

-- each place has a length and a last step, and the lengths, which are at most two heights apart, leave room for a step more
pub record HasRoom (line : Network) (st : State) : Type 0 where
  pub lengths_each : length st.lengths ≡ places_of line
  pub last_each : length st.last ≡ places_of line
  pub roomy : (v : ℕ) → nat_abs (height_at st.lengths v) ≤ 1100000000000000000

-- each place but the first has a last step, from a place that was settled before it
pub record ArePointers (line : Network) (st : State) : Type 0 where
  pub limits : IsNetwork line
  pub moment : 0 < places_of line
  pub last_each : length st.last ≡ places_of line
  pub step : (v : ℕ) → v ≢ 0 → v < places_of line → IsStep line (last_step st.last v)
  pub to : (v : ℕ) → v ≢ 0 → v < places_of line → step_to line (last_step st.last v) ≡ v
  pub earlier : (v : ℕ) → v ≢ 0 → v < places_of line → slice_index st.ranks (step_from line (last_step st.last v)) < slice_index st.ranks v

-- last steps, one after the other, that lead from a place to the last place
abbrev pub IsTrail : Network → State → ℕ → List Step → Type 0
IsTrail line st place [] = place ≡ places_of line - 1
IsTrail line st place (step ∷ walk) = (step ≡ last_step st.last (step_to line step)) × (step_to line step ≢ 0) × (step_from line step ≡ place) × IsTrail line st (step_to line step) walk

-- these hold in each part and for each flow, since a step that is taken reads neither
abbrev pub HasQueued : Network → List ℤ → ℕ → State → State → Type 0
HasQueued line heights place old new =
    (part : Part) (flow : Flow) → Queues (setting_of part line flow heights) place old new

abbrev pub HasReached : Network → List ℤ → Step → State → State → Type 0
HasReached line heights step old new =
    (part : Part) (flow : Flow) → ReachesStep (setting_of part line flow heights) step old new

-- a search that rests in a setting with these potentials rests in it afterwards
abbrev pub HasRested : List ℤ → State → State → Type 0
HasRested heights old new =
    (part : Part) (line : Network) (flow : Flow)
    → IsResting (setting_of part line flow heights) old
    → IsResting (setting_of part line flow heights) new

-- this holds in each setting with these potentials in which the search rests
abbrev pub InEachSetting : List ℤ → State → (Setting → Type 0) → Type 0
InEachSetting heights st Holds =
    (part : Part) (line : Network) (flow : Flow)
    → IsSetting (setting_of part line flow heights)
    → IsResting (setting_of part line flow heights) st
    → Holds (setting_of part line flow heights)

-- the next place is in hand, or each place has its rank
abbrev pub IsNextPlace : Setting → State → State → Option ℕ → Type 0
IsNextPlace s old new place = MatchOption place (places_of s.line ≤ old.count) (IsInHand s new)

-- a place was settled last, and the steps from it are left from this turn on
abbrev pub IsSettlingFrom : Setting → State → ℕ → ℕ → Type 0
IsSettlingFrom s st place turn = IsSettling s st place (IsLeftToTake s.line place turn)
