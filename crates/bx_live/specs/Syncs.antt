-- How often a run waits for the disk.
use Rattle.std.specs.Prelude.{ℕ, ◌+◌, List, [], ◌∷◌}
use Rattle.bx_live.specs.Acts.{Act, Began, Synced, Read}

abbrev pub sync_in : Act → ℕ
sync_in (Synced done) = 1
sync_in act = 0

abbrev pub syncs_in : List Act → ℕ
syncs_in [] = 0
syncs_in (act ∷ acts) = sync_in act + syncs_in acts

-- the next second is waited for, or the next frame of the peer; what is there already is taken without a wait
abbrev pub wait_in : Act → ℕ
wait_in (Began second begin) = 1
wait_in (Read room answer) = 1
wait_in act = 0

abbrev pub waits_in : List Act → ℕ
waits_in [] = 0
waits_in (act ∷ acts) = wait_in act + waits_in acts
