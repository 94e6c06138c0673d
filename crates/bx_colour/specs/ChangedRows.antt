-- First fit where each row has channels of its own to choose from, and a law of such colourings of rows that change.
use Rattle.std.specs.Prelude.{◌≡◌, ◌⊎◌, ℕ, ◌<◌, ◌≤◌, Bool, true, false, List, length, Option, Some, None, slice_index_or, slice_set, replicate}
use Rattle.bx_base.specs.Bookings.{Row, row_at, Carries}
use Rattle.bx_base.specs.Plans.{is_accepted, channel_at}
use Rattle.bx_base.specs.Channels.{has_channel}
use Rattle.bx_colour.specs.Colouring.{IsGiven, is_in, channel_of}

-- each accepted row has the lowest of its channels that no earlier overlapping row has, each other row none. Where all rows have the same
-- channels it is first fit (`IsFirstFit`); where a row has one alone, it keeps that
pub record IsFirstFitAmong (rows : List Row) (allowed : ℕ → List Bool) (accepted : List Bool) (assigned : List (Option ℕ)) : Type 0 where
  pub one_each : length assigned ≡ length rows
  pub given : (i : ℕ) → i < length rows → is_in accepted i ≡ true → IsGiven rows (allowed i) assigned i
  pub refused : (i : ℕ) → is_in accepted i ≡ false → channel_of assigned i ≡ None

-- a row that starts when another one does, and ends when that does, where not both end later than moment t
pub record IsSameUpTo (t : ℕ) (before after : Row) : Type 0 where
  pub start : after.start ≡ before.start
  pub end : (after.end ≡ before.end) ⊎ ((t < before.end) × (t < after.end))

-- rows of which the same are accepted that start by moment t, with the same channels to choose from
pub record AreSameUpTo (t : ℕ) (rows : List Row) (accepted : List Bool) (allowed : ℕ → List Bool) (rows' : List Row) (accepted' : List Bool) (allowed' : ℕ → List Bool) : Type 0 where
  pub longer : length rows ≤ length rows'
  pub begun : (i : ℕ) → i < length rows → is_in accepted i ≡ true → (row_at rows i).start ≤ t → (is_in accepted' i ≡ true) × IsSameUpTo t (row_at rows i) (row_at rows' i)
  pub choices : (i : ℕ) → i < length rows → is_in accepted i ≡ true → (row_at rows i).start ≤ t → allowed' i ≡ allowed i
  pub no_other : (i : ℕ) → i < length rows' → is_in accepted' i ≡ true → (row_at rows' i).start ≤ t → (i < length rows) × (is_in accepted i ≡ true) × ((row_at rows i).start ≤ t)

-- the first-fit colouring of such rows, from nothing, gives what starts by moment t the channels that it had
abbrev pub IsBegunKept : Type 0
IsBegunKept =
    (t : ℕ) (allowed allowed' : ℕ → List Bool) (rows : List Row) (accepted : List Bool) (assigned : List (Option ℕ))
    (rows' : List Row) (accepted' : List Bool) (assigned' : List (Option ℕ))
    → IsFirstFitAmong rows allowed accepted assigned
    → IsFirstFitAmong rows' allowed' accepted' assigned'
    → AreSameUpTo t rows accepted allowed rows' accepted' allowed'
    → (i : ℕ) → i < length rows → is_in accepted i ≡ true → (row_at rows i).start ≤ t → channel_of assigned' i ≡ channel_of assigned i

-- the channels that a row has to choose from: its own one alone, or where it has none, all of these
abbrev pub choice_of : Option ℕ → List Bool → List Bool
choice_of None channels = channels
choice_of (Some c) channels = slice_set (replicate 32 false) c true

abbrev pub choices_of : List (Option ℕ) → List Bool → ℕ → List Bool
choices_of own channels i = choice_of (slice_index_or own i None) channels

-- each of these channels is one of a set
abbrev pub AreChoicesIn : (service : List Bool) (own : List (Option ℕ)) (channels : List Bool) → Type 0
AreChoicesIn service own channels = (i c : ℕ) → has_channel (choices_of own channels i) c ≡ true → has_channel service c ≡ true

-- whatever set has these channels carries what is coloured so
abbrev pub IsCarriedByThese : (rows : List Row) (own : List (Option ℕ)) (channels : List Bool) (assigned : List (Option ℕ)) → Type 0
IsCarriedByThese rows own channels assigned = (service : List Bool) → AreChoicesIn service own channels → Carries rows service (is_accepted assigned) (channel_at assigned)

-- first fit does not come to an end
abbrev pub HasNoFirstFit : (rows : List Row) (own : List (Option ℕ)) (channels accepted : List Bool) → Type 0
HasNoFirstFit rows own channels accepted = (assigned : List (Option ℕ)) → ¬ IsFirstFitAmong rows (choices_of own channels) accepted assigned
