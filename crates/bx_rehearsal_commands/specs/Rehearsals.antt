-- A day that was rehearsed, with or without a journal.
use Rattle.std.specs.Prelude.{◌≡◌, ℕ, max, min, Bool, List, [], Option, Some, None, Result}
use Rattle.bx_day.specs.Outages.{live_day_after}
use Rattle.bx_events.specs.Events.{LiveEvent}
use Rattle.bx_devices.specs.declared.watched.Watched.{Watched}
use Rattle.bx_frames.specs.declared.fault.LinkFault.{LinkFault}
use Rattle.bx_frames.specs.declared.frame.Frame.{Frame}
use Rattle.bx_journal.specs.Heads.{IsJournalDay}
use Rattle.bx_journal.specs.declared.head.Head.{Head}
use Rattle.bx_journal.specs.Logging.{IsSettled}
use Rattle.bx_live.specs.Acts.{Act, logged_by}
use Rattle.bx_live.specs.Runs.{Between, Done, IsRun}
use Rattle.bx_live.specs.Chains.{Chain}
use Rattle.bx_world.specs.Rehearsals.{Rehearses}
use Rattle.bx_world.specs.declared.rehearsal.Rehearsal.{Rehearsal}
use Rattle.bx_rehearsal_commands.specs.RunCaptures.{IsRunKept}
use Rattle.bx_rehearsal_commands.specs.WaitingDisks.{waiting_holds, no_crash, no_waiting_moment, none_left, waiting_failed, HasBegun}
use Rattle.bx_rehearsal_commands.specs.declared.rehearsing.Opened.{Opened}
use Rattle.bx_rehearsal_commands.specs.declared.rehearsing.Rehearsed.{Rehearsed}
use Rattle.bx_rehearsal_commands.specs.declared.waiting.WaitingDisk.{WaitingDisk}
use Rattle.bx_events.specs.declared.moment.TheConstants.{LAST_MOMENT}

-- where a journal is kept that began on an empty disk, it has these events
abbrev pub IsJournalOf : {D : Type 0} → (D → List ℕ → Type 0) → (D → List ℕ → Type 0) → Option D → Option D → Head → List LiveEvent → Type 0
IsJournalOf holds may_leave None closed head events = closed ≡ None
IsJournalOf holds may_leave (Some disk) None head events = ⊥
IsJournalOf holds may_leave (Some disk) (Some closed) head events = IsJournalDay head.day → holds disk [] → IsSettled holds may_leave closed head events

-- The acts of a whole run of a day. It is the one after just the events that happened, as a journal has them on the disk, where one is
-- kept; where its link was not lost it has reached the turn that was asked for; and its messages were captured.
pub record IsOnLog {D F : Type 0} (holds may_leave : D → List ℕ → Type 0) (files : F → Option (List ℕ)) (opened : Opened D) (file : Option (Watched F)) (first : ℕ) (rehearsed : Rehearsed D) (acts : List Act) : Type 0 where
  pub run : IsRun (Between opened.exchange) acts (Done rehearsed.exchange)
  pub after : rehearsed.exchange ≡ live_day_after (logged_by acts) opened.exchange
  pub reached : rehearsed.lost ≡ None → rehearsed.exchange.moment ≡ max opened.exchange.moment (min opened.turns LAST_MOMENT)
  pub journal : IsJournalOf holds may_leave opened.disk rehearsed.disk opened.head (logged_by acts)
  pub captured : IsRunKept files file first acts rehearsed.is_whole

-- a world of this peer, with a journal that has begun, where one is kept, has gone through such acts
pub record RehearsesTowards {P D F : Type 0} (wrote : P → List ℕ → Bool → P → Type 0) (gave : P → ℕ → Result Frame LinkFault → P → Type 0) (parted : P → Option LinkFault → P → Type 0) (holds may_leave : D → List ℕ → Type 0) (has_failed : D → Bool) (files : F → Option (List ℕ)) (opened : Opened D) (peer : P) (file : Option (Watched F)) (first : ℕ) (rehearsed : Rehearsed D) : Type 0 where
  pub acts : List Act
  pub old : Rehearsal P (WaitingDisk D)
  pub new : Rehearsal P (WaitingDisk D)
  pub peer_is : old.peer ≡ peer
  pub begun : HasBegun holds opened.head opened.disk old.log.disk
  pub unlost : old.lost ≡ None
  pub went : Chain (Rehearses wrote gave parted (waiting_holds holds) no_crash no_waiting_moment none_left (waiting_failed has_failed)) old acts new
  pub lost : new.lost ≡ rehearsed.lost
  pub day : IsOnLog holds may_leave files opened file first rehearsed acts
