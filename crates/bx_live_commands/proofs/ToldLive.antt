-- A live day that stopped did not fail by its output.
use Rattle.std.proofs.Common.{ℕ, Bool, List, Option, Some, None, inl, inr, refl}
use Rattle.std.specs.Borrow.{Bor}
use Rattle.bx_check_commands.specs.declared.fault.CommandFault.TheVariants as commands
use Rattle.bx_day.specs.Day.{Day}
use Rattle.bx_day_openings.specs.declared.fault.DayCommandFault.TheVariants.{Command}
use Rattle.bx_devices.specs.declared.watched.Watched.{Watched}
use Rattle.bx_journal.specs.declared.head.Head.{Head}
use Rattle.bx_request.specs.declared.request.LiveRequest.{LiveRequest}
use Rattle.bx_live_commands.specs.Heads.{live_head}
use Rattle.bx_live_commands.specs.LiveRefusals.{StopsLive, IsLiveRefusal}
use Rattle.bx_journal_files.specs.OpeningFaults.{IsUnlogged}
use Rattle.bx_journal_files.specs.Resuming.{IsNoLog}
use Rattle.bx_journal_files.specs.declared.fault.LiveFault.{LiveFault}
use Rattle.bx_journal_files.specs.declared.fault.LiveFault.TheVariants.{Day as OfDay, StillUp}
use Rattle.bx_journal_files.proofs.NoOutput.{no_output}

no_journal : (journal : Option (Bor (List ℕ))) (head : Head) (channels : List Bool) (opened : Day) → IsNoLog journal head channels opened (OfDay (Command commands.CannotWrite)) → ⊥
no_journal None head channels opened none = none
no_journal (Some name) head channels opened none = none

no_journal_still : (journal : Option (Bor (List ℕ))) (head : Head) (channels : List Bool) (opened : Day) → IsNoLog journal head channels opened StillUp → ⊥
no_journal_still None head channels opened none = none
no_journal_still (Some name) head channels opened none = none

logged_still : (journal : Option (Bor (List ℕ))) → IsUnlogged journal StillUp → ⊥
logged_still None none = none
logged_still (Some name) none = none

module _ (H F : Type 0) (request : LiveRequest) where
  writes : StopsLive H F request (OfDay (Command commands.CannotWrite)) → ⊥
  writes (inl hours) = hours
  writes (inr (inl plan)) = plan
  writes (inr (inr (inl (at_hand, inl unheard)))) = unheard
  writes (inr (inr (inl (at_hand, inr unconnected)))) = unconnected
  writes (inr (inr (inr (inl (at_hand, wanted, none))))) = none
  writes (inr (inr (inr (inr (at_hand, inl journal))))) = no_journal request.journal (live_head at_hand.digest at_hand.hours) at_hand.channels at_hand.opened journal
  writes (inr (inr (inr (inr (at_hand, inr (unlogged, stopped)))))) = no_output request.journal unlogged

  still : StopsLive H F request StillUp → ⊥
  still (inl hours) = hours
  still (inr (inl plan)) = plan
  still (inr (inr (inl (at_hand, none)))) = none
  still (inr (inr (inr (inl (at_hand, wanted, none))))) = none
  still (inr (inr (inr (inr (at_hand, inl journal))))) = no_journal_still request.journal (live_head at_hand.digest at_hand.hours) at_hand.channels at_hand.opened journal
  still (inr (inr (inr (inr (at_hand, inr (unlogged, stopped)))))) = logged_still request.journal unlogged

  pub live_stopped : {W : Type 0} (files : F → Option (List ℕ)) (contents : W → Option (List ℕ)) (output : Watched W) (fault : LiveFault) → StopsLive H F request fault → IsLiveRefusal H files request contents output output fault
  live_stopped files contents output (OfDay (Command commands.CannotWrite)) stops = absurd (writes stops)
  live_stopped files contents output StillUp stops = absurd (still stops)
  live_stopped files contents output fault stops = (stops, refl)
