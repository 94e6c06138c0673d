-- Private: where a client stands.
use Rattle.std.specs.Prelude.{◌≡◌, ℕ, ◌<◌, List, length, take, slice_index_or, None}
use Rattle.bx_office_door.specs.Guests.{client_of}
use Rattle.bx_office_door.specs.declared.guest.Guest.{Guest}

-- the client at this index has the number, and none before it
pub record IsFirstGuest (number : ℕ) (guests : List Guest) (index : ℕ) : Type 0 where
  pub inside : index < length guests
  pub before : client_of number (take index guests) ≡ None
  pub here : (other : Guest) → (slice_index_or guests index other).number ≡ number
