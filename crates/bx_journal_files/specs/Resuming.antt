-- How a day goes on by its journal.
use Rattle.std.specs.Prelude.{◌≡◌, ℕ, Bool, false, List, [], Option, Some, None, Result}
use Rattle.std.specs.Borrow.{Bor}
use Rattle.bx_journal.specs.Files.{holds_in, may_leave_in}
use Rattle.bx_journal.specs.Follows.{IsFollowed}
use Rattle.bx_journal.specs.declared.fault.JournalFault.{JournalFault}
use Rattle.bx_journal.specs.declared.file.FileDisk.{FileDisk}
use Rattle.bx_live.specs.declared.log.Log.{Log}
use Rattle.bx_day_openings.specs.Selling.{day_goes, tags_go}
use Rattle.bx_sales.specs.declared.tag.Tag.{Tag}
use Rattle.bx_journal_files.specs.Folders.{folder_of}
use Rattle.bx_journal_files.specs.Readying.{IsReady}
use Rattle.bx_day_openings.specs.Replays.{IsDayThrough, IsDayNoted, HasNoReplay}
use Rattle.bx_day_openings.specs.declared.fault.DayCommandFault.TheVariants.{Command}
use Rattle.bx_check_commands.specs.declared.fault.CommandFault.TheVariants.{Memory}
use Rattle.bx_day.specs.declared.outcome.GivenUp.{GivenUp}
use Rattle.bx_sales.specs.GivenUps.{none_given_up}
use Rattle.bx_journal.specs.Heads.{wanted_of}
use Rattle.bx_journal.specs.declared.head.Head.{Head}
use Rattle.bx_day.specs.Day.{Day}
use Rattle.bx_journal_files.specs.declared.fault.LiveFault.{LiveFault}
use Rattle.bx_journal_files.specs.declared.fault.LiveFault.TheVariants.{Day as OfDay, CannotRecord, NotEmpty, InUse, NotAFile, StillUp}

-- the day after just the events and sales of a journal that was read
abbrev pub GoesOn : Head → List Bool → Option (List ℕ) → Day → Day → Type 0
GoesOn head channels before opened day = IsDayThrough channels (wanted_of head) before opened day

-- a journal was read to its end, or was not begun, of which so many octets are whole lines, and these were the events and sales of the day
abbrev pub IsFollowedBy : Head → List Bool → Option (List ℕ) → Day → Day → Result ℕ JournalFault → Type 0
IsFollowedBy head channels before opened day whole = (faulted : Bool) × (after : Option (List ℕ)) × IsFollowed (day_goes channels) faulted before after (wanted_of head) opened day whole

-- The log is kept on the disk of the journal, which was made ready from what the reading left of it, as it was read: what is torn is
-- cut off, what was logged stays, and one that was not begun begins.
pub record IsKeptOn {F : Type 0} (contents : F → Option (List ℕ)) (is_told : Bool) (head : Head) (channels : List Bool) (before : Option (List ℕ)) (opened day : Day) (kept : Log (FileDisk F)) : Type 0 where
  pub whole : Result ℕ JournalFault
  pub followed : IsFollowedBy head channels before opened day whole
  pub left : FileDisk F
  pub disk : FileDisk F
  pub is : kept.disk ≡ Some disk
  pub ready : IsReady (holds_in contents) (may_leave_in is_told) head whole left disk

-- the same of the journal in a file that tells nothing of what it holds, where there is one; else nothing is kept
abbrev pub IsKeptBy : {F : Type 0} → Head → List Bool → Option (Bor (List ℕ)) → Day → Day → Log (FileDisk F) → Type 0
IsKeptBy head channels None opened day kept = kept.disk ≡ None
IsKeptBy head channels (Some name) opened day kept = (before : Option (List ℕ)) × IsKeptOn (λ file. None) false head channels before opened day kept

-- the same of the journal in a file; without one the day stands at its opening
abbrev pub GoesOnBy : Head → List Bool → Option (Bor (List ℕ)) → Day → Day → Type 0
GoesOnBy head channels None opened day = day ≡ opened
GoesOnBy head channels (Some name) opened day = GoesOn head channels None opened day

-- the system has said of a file that it has opened by the journal's name that no other program writes it, and was asked to bring its entry in
-- the folder of the name to the disk
abbrev pub IsTakenBy : {F : Type 0} → (List ℕ → F → Type 0) → (F → Type 0) → (List ℕ → F → Type 0) → Option (Bor (List ℕ)) → Type 0
IsTakenBy opens locked entered None = Unit {0}
IsTakenBy {F = F} opens locked entered (Some name) = (file : F) × opens name.now file × locked file × entered (folder_of name.now) file

-- of each sale in a journal that was read, or was not begun, under which key it was asked for, or none
abbrev pub IsTaggedOn : Head → Option (List ℕ) → List (Option Tag) → Type 0
IsTaggedOn head before tags = (faulted : Bool) × (after : Option (List ℕ)) × (whole : Result ℕ JournalFault) × IsFollowed tags_go faulted before after (wanted_of head) [] tags whole

-- the same of the journal in a file; without one nothing was sold
abbrev pub IsTaggedBy : Head → Option (Bor (List ℕ)) → List (Option Tag) → Type 0
IsTaggedBy head None tags = tags ≡ []
IsTaggedBy head (Some name) tags = IsTaggedOn head None tags

-- how bookings were given up by a journal that was read, or was not begun: what was noted of just the events that happened to the day
abbrev pub IsNotedOn : Head → List Bool → Option (List ℕ) → Day → Day → List (Option GivenUp) → Type 0
IsNotedOn head channels before opened day given_up = IsDayNoted channels (wanted_of head) before opened day given_up

-- the same of the journal in a file; without one the day stands at its opening, and nothing was given up
abbrev pub IsNotedBy : Head → List Bool → Option (Bor (List ℕ)) → Day → Day → List (Option GivenUp) → Type 0
IsNotedBy head channels None opened day given_up = (day ≡ opened) × (given_up ≡ none_given_up)
IsNotedBy head channels (Some name) opened day given_up = IsNotedOn head channels None opened day given_up

-- the journal of this name is not followed to its end, or can't be made ready
abbrev pub IsNotResumed : List ℕ → Head → List Bool → Day → LiveFault → Type 0
IsNotResumed name head channels opened (OfDay fault) = HasNoReplay name (wanted_of head) channels opened fault
IsNotResumed name head channels opened (CannotRecord n) = n.now ≡ name
IsNotResumed name head channels opened (NotEmpty n) = ⊥
IsNotResumed name head channels opened (InUse n) = ⊥
IsNotResumed name head channels opened (NotAFile n) = ⊥
IsNotResumed name head channels opened StillUp = ⊥

-- or it is no plain file, or another program writes it; without one memory ran out
abbrev pub IsNoLog : Option (Bor (List ℕ)) → Head → List Bool → Day → LiveFault → Type 0
IsNoLog None head channels opened (OfDay (Command Memory)) = Unit {0}
IsNoLog None head channels opened fault = ⊥
IsNoLog (Some name) head channels opened (InUse n) = n.now ≡ name.now
IsNoLog (Some name) head channels opened (NotAFile n) = n.now ≡ name.now
IsNoLog (Some name) head channels opened fault = IsNotResumed name.now head channels opened fault
