-- First fit beside bookings that keep a channel of their own: when it comes to an end, and that it is first fit for them too.
use Rattle.std.specs.Prelude.{◌≡◌, ℕ, ◌<◌, ◌≤◌, ◌&&◌, Bool, true, List, [], ◌∷◌, length, Option, Some, None, slice_index_or}
use Rattle.bx_base.specs.Bookings.{Row, row_at, Overlap}
use Rattle.bx_base.specs.Channels.{has_channel}
use Rattle.bx_colour.specs.Colouring.{FitsChannels, is_in, channel_of}
use Rattle.bx_colour.specs.ChangedRows.{IsFirstFitAmong, AreSameUpTo, choices_of}

-- a row counts on these channels unless it has a channel of its own that is none of them
abbrev pub counts_on : List Bool → Option ℕ → Bool
counts_on channels None = true
counts_on channels (Some c) = has_channel channels c

-- marks of the accepted rows that count on these channels; a row beyond the last of `own` has no channel of its own
abbrev pub marks_beside : (own : List (Option ℕ)) → (channels accepted : List Bool) → List Bool
marks_beside [] channels accepted = accepted
marks_beside (o ∷ own) channels [] = []
marks_beside (o ∷ own) channels (a ∷ accepted) = (a && counts_on channels o) ∷ marks_beside own channels accepted

-- accepted rows of which just those that start by moment t have channels of their own, and no two that overlap have the same
pub record AreBegunApart (t : ℕ) (rows : List Row) (own : List (Option ℕ)) (accepted : List Bool) : Type 0 where
  pub begun : (i c : ℕ) → i < length rows → is_in accepted i ≡ true → slice_index_or own i None ≡ Some c → (row_at rows i).start ≤ t
  pub ahead : (i : ℕ) → i < length rows → is_in accepted i ≡ true → slice_index_or own i None ≡ None → t < (row_at rows i).start
  pub apart :
      (i j c : ℕ) → i < j → j < length rows → is_in accepted i ≡ true → is_in accepted j ≡ true
      → slice_index_or own i None ≡ Some c → slice_index_or own j None ≡ Some c → ¬ Overlap (row_at rows i) (row_at rows j)

-- where what has begun has channels of its own, and apart, at some moment more rows that count on these channels run than there are channels
abbrev pub IsShortOfChannels : (rows : List Row) (own : List (Option ℕ)) (channels accepted : List Bool) → Type 0
IsShortOfChannels rows own channels accepted =
    (t : ℕ) → AreBegunApart t rows own accepted → ¬ FitsChannels rows (marks_beside own channels accepted) channels

-- what has begun by moment t keeps the channel that first fit gave it, and what starts later is first fit among the channels that are left, which
-- are those that it has to choose from: then the whole is first fit
abbrev pub IsFirstFitBeside : Type 0
IsFirstFitBeside =
    (t : ℕ) (left : List Bool) (own : List (Option ℕ)) (allowed allowed' : ℕ → List Bool)
    (rows : List Row) (accepted : List Bool) (assigned : List (Option ℕ))
    (rows' : List Row) (accepted' : List Bool) (assigned' : List (Option ℕ))
    → IsFirstFitAmong rows allowed accepted assigned
    → IsFirstFitAmong rows' (choices_of own left) accepted' assigned'
    → AreSameUpTo t rows accepted allowed rows' accepted' allowed'
    → ((i : ℕ) → i < length rows → is_in accepted i ≡ true → (row_at rows i).start ≤ t → slice_index_or own i None ≡ channel_of assigned i)
    → ((i : ℕ) → i < length rows' → is_in accepted' i ≡ true → t < (row_at rows' i).start → (slice_index_or own i None ≡ None) × (allowed' i ≡ left))
    → IsFirstFitAmong rows' allowed' accepted' assigned'
