-- What cannot be logged, or on the disk, is why a run is over before its end.
use Rattle.std.proofs.Common.{◌≡◌, ◌⊎◌, ℕ, Bool, true, false, List, [], ◌∷◌, Option, Some, None, inl, inr, refl, sym, subst}
use Rattle.bx_events.specs.Events.{LiveEvent}
use Rattle.bx_journal.specs.Events.{IsLoggable}
use Rattle.bx_live.specs.Acts.{Act, Logged, Synced}
use Rattle.bx_live.specs.Logs.{OnLog}
use Rattle.bx_live_commands.specs.LiveRuns.{EndsWithNoEvent}

module _ {D : Type 0} (holds may_leave : D → List ℕ → Type 0) (moment : D → ℕ) (left_since : D → ℕ → List ℕ → Type 0) (has_failed : D → Bool) where
  abbrev Kept : Option D → Act → Option D → Type 0
  Kept = OnLog holds may_leave moment left_since has_failed

  abbrev pub Stopped : List Act → Option D → Type 0
  Stopped acts after = (disk : D) × (after ≡ Some disk) × ((has_failed disk ≡ true) ⊎ EndsWithNoEvent acts)

  -- the act that can't be done
  pub refused : (event : LiveEvent) (o after : Option D) → Kept o (Logged event false) after → Stopped (Logged event false ∷ []) after
  refused event (Some old) (Some disk) writes = (disk, refl, by_test (has_failed disk) writes.failed refl) where
    by_test : (b : Bool) → (false ≡ false → IsLoggable event → has_failed disk ≡ true) → b ≡ has_failed disk → (has_failed disk ≡ true) ⊎ (IsLoggable event → ⊥)
    by_test true failed same = inl (sym same)
    by_test false failed same = inr (λ message. let f = failed refl message in cc)
  refused event (Some old) None writes = absurd writes
  refused event None (Some disk) writes = absurd writes
  refused event None None writes = absurd cc

  pub unsynced : (o after : Option D) → Kept o (Synced false) after → Stopped (Synced false ∷ []) after
  unsynced (Some old) (Some disk) commits = (disk, refl, inl (commits.failed refl))
  unsynced (Some old) None commits = absurd commits
  unsynced None (Some disk) commits = absurd commits
  unsynced None None commits = absurd cc
