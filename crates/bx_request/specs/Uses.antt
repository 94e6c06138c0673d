-- The files that a command uses, those that it reads before those that it writes.
use Rattle.std.specs.Prelude.{ℕ, true, false, List, [], ◌∷◌, Option, Some, None}
use Rattle.std.specs.Borrow.{Bor}
use Rattle.bx_request.specs.declared.uses.FileKind.{FileKind}
use Rattle.bx_request.specs.declared.uses.FileKind.TheVariants as kinds
use Rattle.bx_request.specs.declared.uses.FileUse.{FileUse}
use Rattle.bx_request.specs.declared.request.CaptureWords.{CaptureWords}
use Rattle.bx_request.specs.declared.request.FileRequest.{FileRequest}
use Rattle.bx_request.specs.declared.request.FileRequest.TheVariants.{Plan, Check, Amend, Capacity, Explain, Quote, Chart}
use Rattle.bx_request.specs.declared.request.Peer.{Peer}
use Rattle.bx_request.specs.declared.request.Peer.TheVariants.{Script, At}
use Rattle.bx_request.specs.declared.request.RecordsWords.{RecordsWords}
use Rattle.bx_request.specs.declared.request.Request.{Request}
use Rattle.bx_request.specs.declared.request.Request.TheVariants.{Files, Rehearsal, Far, FarLine, Live, Audit, Records, Sold, DayChart, Decode}

abbrev pub read_use : FileKind → Bor (List ℕ) → Option FileUse
read_use kind name = Some (record { name = name; kind = kind; is_written = false })

abbrev pub written_use : FileKind → Option (Bor (List ℕ)) → Option FileUse
written_use kind None = None
written_use kind (Some name) = Some (record { name = name; kind = kind; is_written = true })

abbrev pub capture_use : Option CaptureWords → Option FileUse
capture_use None = None
capture_use (Some capture) = written_use kinds.Capture (Some capture.file)

abbrev pub records_use : Option RecordsWords → Option FileUse
records_use None = None
records_use (Some records) = written_use kinds.Records (Some records.file)

-- the script of a far end of the same process
abbrev pub peer_use : Peer → Option FileUse
peer_use (Script name) = read_use kinds.Script name
peer_use (At place) = None

-- what a command on bookings and plans writes goes to standard output
abbrev pub files_of : FileRequest → List (Option FileUse)
files_of (Plan terms bookings) = read_use kinds.Bookings bookings ∷ None ∷ None ∷ None ∷ None ∷ []
files_of (Check terms bookings plan) = read_use kinds.Bookings bookings ∷ read_use kinds.Plan plan ∷ None ∷ None ∷ None ∷ []
files_of (Amend date zone plan bookings) = read_use kinds.Bookings bookings ∷ read_use kinds.Plan plan ∷ None ∷ None ∷ None ∷ []
files_of (Capacity date zone bookings) = read_use kinds.Bookings bookings ∷ None ∷ None ∷ None ∷ None ∷ []
files_of (Explain plan row) = read_use kinds.Plan plan ∷ None ∷ None ∷ None ∷ None ∷ []
files_of (Quote plan call) = read_use kinds.Plan plan ∷ None ∷ None ∷ None ∷ None ∷ []
files_of (Chart plan day) = read_use kinds.Plan plan ∷ None ∷ None ∷ None ∷ None ∷ []

abbrev pub uses_of : Request → List (Option FileUse)
uses_of (Files request) = files_of request
uses_of (Rehearsal request) = read_use kinds.Plan request.plan ∷ peer_use request.peer ∷ written_use kinds.Journal request.journal ∷ records_use request.records ∷ capture_use request.sight.capture ∷ []
uses_of (Far request) = read_use kinds.Script request.script ∷ capture_use request.sight.capture ∷ None ∷ None ∷ None ∷ []
uses_of (FarLine request) = read_use kinds.Script request.script ∷ written_use kinds.Capture request.capture ∷ None ∷ None ∷ None ∷ []
uses_of (Live request) = read_use kinds.Plan request.plan ∷ written_use kinds.Journal request.journal ∷ None ∷ None ∷ None ∷ []
uses_of (Audit request) = read_use kinds.Plan request.plan ∷ read_use kinds.Journal request.journal ∷ capture_use request.capture ∷ None ∷ None ∷ []
uses_of (Records request) = read_use kinds.Plan request.plan ∷ read_use kinds.Journal request.journal ∷ None ∷ None ∷ None ∷ []
uses_of (Sold request) = read_use kinds.Plan request.plan ∷ read_use kinds.Journal request.journal ∷ None ∷ None ∷ None ∷ []
uses_of (DayChart request) = read_use kinds.Plan request.plan ∷ read_use kinds.Journal request.journal ∷ None ∷ None ∷ None ∷ []
uses_of (Decode octets) = None ∷ None ∷ None ∷ None ∷ None ∷ []
