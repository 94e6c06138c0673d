-- What is told of a day that is rehearsed.
use Rattle.std.specs.Prelude.{◌≡◌, ℕ, Bool, is_some, List, [], Option, None, Result, true, Ok}
use Rattle.std.specs.Borrow.{Bor}
use Rattle.std.specs.Io.KnownBytes.{Appends}
use Rattle.std.specs.declared.net.TcpStream.{TcpStream}
use Rattle.std.specs.declared.os.unix.net.UnixStream.{UnixStream}
use Rattle.bx_day.specs.Day.{Day}
use Rattle.bx_day.specs.Telling.{outcomes_text}
use Rattle.bx_day_openings.specs.CaptureOpenings.{IsFirstOf, IsFileFor}
use Rattle.bx_day_openings.specs.Openings.{IsFarOpening}
use Rattle.bx_day_openings.specs.Recording.{AreRecorded}
use Rattle.bx_day_openings.specs.declared.fault.DayCommandFault.{DayCommandFault}
use Rattle.bx_devices.specs.Octets.{AppendsPrefix}
use Rattle.bx_devices.specs.declared.watched.Watched.{Watched}
use Rattle.bx_far.specs.FarDay.{FarDay}
use Rattle.bx_link.specs.declared.connection.Connection.{Connection}
use Rattle.bx_request.specs.declared.request.Peer.{Peer}
use Rattle.bx_request.specs.declared.request.Peer.TheVariants.{Script, At}
use Rattle.bx_request.specs.declared.request.Place.TheVariants.{Port, Socket}
use Rattle.bx_request.specs.declared.request.RehearsalRequest.{RehearsalRequest}
use Rattle.bx_journal.specs.Files.{holds_unknown, may_leave_any, has_failed_in}
use Rattle.bx_journal.specs.declared.head.JournalDay.TheVariants as days
use Rattle.bx_day_openings.specs.TiedDays.{IsTiedDay}
use Rattle.bx_world.specs.BothEnds.{IsOpening, WroteNear, GaveBoth, PartedBoth}
use Rattle.bx_world.specs.Peers.{WroteTo, GaveFrom, PartedFrom}
use Rattle.bx_world.specs.declared.both_ends.BothEnds.{BothEnds}
use Rattle.bx_rehearsal_commands.specs.Rehearsals.{RehearsesTowards}
use Rattle.bx_journal_files.specs.JournalDisks.{JournalDisk}
use Rattle.bx_rehearsal_commands.specs.declared.rehearsing.Opened.{Opened}
use Rattle.bx_rehearsal_commands.specs.declared.rehearsing.Rehearsed.{Rehearsed}
use Rattle.bx_devices.specs.Devices.{Writing}

-- the two directions of a stream
abbrev pub Stream : Type 0 → Type 0
Stream S = Connection (Bor S) (Bor S)

-- what is known of what a stream holds
abbrev pub Known : Type 0 → Type 0
Known S = Bor S → Option (List ℕ)

-- a world of a peer at such a stream has gone through the acts of a day
abbrev pub RanOver : {F : Type 0} → Type 0 → (F → Option (List ℕ)) → Opened (JournalDisk F) → Option (Watched F) → ℕ → Rehearsed (JournalDisk F) → Type 0
RanOver S files opened file first rehearsed =
    (remaining : Known S) × (contents : Known S) × ((connection : Stream S) × RehearsesTowards (WroteTo contents) (GaveFrom remaining) (PartedFrom contents) holds_unknown may_leave_any has_failed_in files opened connection file first rehearsed)

-- a far end of the same process, at its opening, is that peer
pub record RanBoth {F : Type 0} (S : Type 0) (files : F → Option (List ℕ)) (far : FarDay) (opened : Opened (JournalDisk F)) (file : Option (Watched F)) (first : ℕ) (rehearsed : Rehearsed (JournalDisk F)) : Type 0 where
  pub remaining : Known S
  pub contents : Known S
  pub far_remaining : Known S
  pub far_contents : Known S
  pub near : Stream S
  pub distant : Stream S
  pub both : BothEnds (Bor S) (Bor S) (Bor S) (Bor S)
  pub opens : IsOpening near far distant both
  pub ran : RehearsesTowards (WroteNear contents) (GaveBoth remaining far_remaining far_contents) (PartedBoth contents far_remaining far_contents) holds_unknown may_leave_any has_failed_in files opened both file first rehearsed

-- with the far end of a script, or towards a peer at a port or a socket
abbrev pub RanWith : {F : Type 0} → (F → Option (List ℕ)) → Peer → Opened (JournalDisk F) → Option (Watched F) → ℕ → Rehearsed (JournalDisk F) → Type 0
RanWith files (Script script) opened file first rehearsed = (far : FarDay) × IsFarOpening far × RanBoth TcpStream files far opened file first rehearsed
RanWith files (At (Port port)) opened file first rehearsed = RanOver TcpStream files opened file first rehearsed
RanWith files (At (Socket path)) opened file first rehearsed = RanOver UnixStream files opened file first rehearsed

-- The day of a plan that is proved, which was rehearsed with such a peer: each event that happened is logged, and no other, in a journal
-- that began with the day, where one is named; and its messages are captured, where they are to be.
pub record RehearsalWith {F : Type 0} (files : F → Option (List ℕ)) (peer : Peer) (request : RehearsalRequest) (rehearsed : Rehearsed (JournalDisk F)) : Type 0 where
  pub opened : Opened (JournalDisk F)
  pub opens : IsTiedDay request.turns opened.exchange opened.head.plan opened.turns
  pub of_rehearsal : opened.head.day ≡ days.Rehearsed
  pub is_kept : is_some opened.disk ≡ is_some request.journal
  pub first : ℕ
  pub begins : IsFirstOf request.sight.capture first
  pub file : Option (Watched F)
  pub file_opens : IsFileFor files request.sight.capture file
  pub ran : RanWith files peer opened file first rehearsed

-- the same with the peer of the words
abbrev pub IsRehearsal : {F : Type 0} → (F → Option (List ℕ)) → RehearsalRequest → Rehearsed (JournalDisk F) → Type 0
IsRehearsal files request rehearsed = RehearsalWith files request.peer request rehearsed

-- up to its end, since the link was not lost: this day, and whether all that was to be captured of it was
pub record IsRehearsedDay {F : Type 0} (files : F → Option (List ℕ)) (request : RehearsalRequest) (day : Day) (is_whole : Bool) : Type 0 where
  pub rehearsed : Rehearsed (JournalDisk F)
  pub ran : IsRehearsal files request rehearsed
  pub unlost : rehearsed.lost ≡ None
  pub day_is : day ≡ rehearsed.exchange
  pub whole_is : is_whole ≡ rehearsed.is_whole

-- what became of each booking of such a day was written, and just its records were, or this is why they were not
pub record IsRehearsalTold {F : Type 0} (files : F → Option (List ℕ)) (request : RehearsalRequest) (before after : Option (List ℕ)) (is_whole : Bool) (recorded : Result (Unit {0}) DayCommandFault) : Type 0 where
  pub day : Day
  pub ran : IsRehearsedDay files request day is_whole
  pub written : Appends before after (outcomes_text [] day)
  pub records : AreRecorded files request.records day.entries recorded

-- or a prefix of it was, and all the same just the records of such a day were written, or there is a reason why not
pub record IsRehearsalCut {F : Type 0} (files : F → Option (List ℕ)) (request : RehearsalRequest) (before after : Option (List ℕ)) : Type 0 where
  pub day : Day
  pub is_whole : Bool
  pub ran : IsRehearsedDay files request day is_whole
  pub written : AppendsPrefix before after (outcomes_text [] day)
  pub recorded : Result (Unit {0}) DayCommandFault
  pub records : AreRecorded files request.records day.entries recorded

-- the same of an output, where all of the day was captured and just its records were written
abbrev pub IsRehearsalDone : {F : Type 0} → (F → Option (List ℕ)) → RehearsalRequest → Writing → Type 0
IsRehearsalDone files request output = IsRehearsalTold files request output.before output.after true (Ok tt)
