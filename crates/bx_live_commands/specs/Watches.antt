-- Private: a look at the door of an office, whether whoever waits there can be let in.
use Rattle.std.specs.Prelude.{◌≡◌, ◌⊎◌, ◌&&◌, ℕ, Bool, true, false, Option, Some, None}
use Rattle.bx_office_door.specs.Lending.{Lending, Taken, IsUsed}
use Rattle.bx_office_door.specs.declared.door.Door.{Door}
use Rattle.bx_live_commands.specs.DoorWatches.{is_to_be_told}
use Rattle.bx_live_commands.specs.declared.door_watch.DoorWatch.{DoorWatch}

abbrev told_at : Bool → Door → Option ℕ → Option ℕ
told_at true door told = Some door.shown
told_at false door told = told

-- What the door has noted is taken from it, and nothing else. It is told where the door lacked a file descriptor, and it was not told of late
pub record IsLackTaken (told now : Option ℕ) (result : Bool) (old new : Door) : Type 0 where
  pub rest : new ≡ record old { has_lacked = false }
  pub news : result ≡ (old.has_lacked && is_to_be_told told old.shown)
  pub told_then : now ≡ told_at result old told

abbrev pub IsWatched : {S : Type 0} → (S → Lending → S → Type 0) → DoorWatch S → DoorWatch S → Bool → Type 0
IsWatched lent old new result = (lent old.door (Taken None) new.door × (new.told ≡ old.told) × (result ≡ false)) ⊎ IsUsed lent (IsLackTaken old.told new.told result) old.door new.door
