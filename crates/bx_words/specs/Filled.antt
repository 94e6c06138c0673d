-- Which option of a command fills which field of its request.
use Rattle.std.specs.Prelude.{◌≡◌, ◌<◌, ◌^◌, ◌++◌, ◌∷◌, ℕ, Bool, true, false, List, [], Option, Some, None, codes, option_map, unwrap_or}
use Rattle.std.specs.Borrow.{Bor}
use Rattle.std.specs.Str.Parse.{IsNumeral, digits_value, without_leading_plus}
use Rattle.clap.specs.Words.{first_value, one_text}
use Rattle.clap.specs.declared.parser.matches.Found.{Found}
use Rattle.bx_request.specs.declared.request.AuditRequest.{AuditRequest}
use Rattle.bx_request.specs.declared.request.Call.{Call}
use Rattle.bx_request.specs.declared.request.CaptureWords.{CaptureWords}
use Rattle.bx_request.specs.declared.request.DayChartRequest.{DayChartRequest}
use Rattle.bx_request.specs.declared.request.DayHours.{DayHours}
use Rattle.bx_request.specs.declared.request.FarLineRequest.{FarLineRequest}
use Rattle.bx_request.specs.declared.request.FarRequest.{FarRequest}
use Rattle.bx_request.specs.declared.request.FileRequest.{FileRequest}
use Rattle.bx_request.specs.declared.request.FileRequest.TheVariants.{Plan, Check, Amend, Capacity, Explain, Quote, Chart}
use Rattle.bx_request.specs.declared.request.LinePorts.{LinePorts}
use Rattle.bx_request.specs.declared.request.LiveRequest.{LiveRequest}
use Rattle.bx_request.specs.declared.request.Peer.{Peer}
use Rattle.bx_request.specs.declared.request.Peer.TheVariants.{Script, At}
use Rattle.bx_request.specs.declared.request.Place.{Place}
use Rattle.bx_request.specs.declared.request.Place.TheVariants.{Port, Socket}
use Rattle.bx_request.specs.declared.request.RecordsRequest.{RecordsRequest}
use Rattle.bx_request.specs.declared.request.RecordsWords.{RecordsWords}
use Rattle.bx_request.specs.declared.request.RehearsalRequest.{RehearsalRequest}
use Rattle.bx_request.specs.declared.request.Request.{Request}
use Rattle.bx_request.specs.declared.request.Request.TheVariants.{Files, Rehearsal, Far, FarLine, Live, Audit, Records, Sold, DayChart, Decode}
use Rattle.bx_request.specs.declared.request.Sight.{Sight}
use Rattle.bx_request.specs.declared.request.SoldRequest.{SoldRequest}
use Rattle.bx_request.specs.declared.request.Terms.{Terms}

-- ---- what an option has, by its name

-- its word, or none
abbrev pub word_given : Found → List ℕ → Option (List ℕ)
word_given found name = first_value found name

-- its word, or this one where it has none
abbrev pub word_given_or : List ℕ → Found → List ℕ → List ℕ
word_given_or default found name = unwrap_or (word_given found name) default

-- a text read as a number of so many bits: the digits of one, which may follow a plus
abbrev pub IsNumberIn : ℕ → List ℕ → Option ℕ → Type 0
IsNumberIn bits text (Some number) = number ≡ digits_value 10 (without_leading_plus text)
IsNumberIn bits text None = IsNumeral 10 (without_leading_plus text) → digits_value 10 (without_leading_plus text) < 2 ^ bits → ⊥

-- its number; none where it is not there, or has another text
pub record IsNumberGiven (bits : ℕ) (found : Found) (name : List ℕ) (number : Option ℕ) : Type 0 where
  pub absent : one_text found name ≡ None → number ≡ None
  pub present : (text : List ℕ) → one_text found name ≡ Some text → IsNumberIn bits text number

-- whether it is there
pub record IsFlag (found : Found) (name : List ℕ) (flag : Bool) : Type 0 where
  pub absent : one_text found name ≡ None → flag ≡ false
  pub yes : one_text found name ≡ Some (codes "true") → flag ≡ true
  pub no : one_text found name ≡ Some (codes "false") → flag ≡ false

-- a field that may be left out is its word, where it has one
abbrev pub IsWordGiven : Found → List ℕ → Option (Bor (List ℕ)) → Type 0
IsWordGiven found name field = option_map (λ word. word.now) field ≡ word_given found name

-- ---- the parts of requests

abbrev pub IsDayGiven : Found → Option (Bor (List ℕ) × Bor (List ℕ)) → Type 0
IsDayGiven found None = word_given found (codes "date") ≡ None
IsDayGiven found (Some (date, zone)) = (word_given found (codes "date") ≡ Some date.now) × (zone.now ≡ word_given_or (codes "UTC0") found (codes "zone"))

abbrev pub IsCaptureGiven : Found → Option CaptureWords → Type 0
IsCaptureGiven found None = word_given found (codes "capture") ≡ None
IsCaptureGiven found (Some capture) = (word_given found (codes "capture") ≡ Some capture.file.now) × IsDayGiven found capture.day

abbrev pub AreRecordsGiven : Found → Option RecordsWords → Type 0
AreRecordsGiven found None = word_given found (codes "records") ≡ None
AreRecordsGiven found (Some records) = (word_given found (codes "records") ≡ Some records.file.now) × IsDayGiven found records.day

pub record IsSightGiven (found : Found) (sight : Sight) : Type 0 where
  pub capture : IsCaptureGiven found sight.capture
  pub quiet : IsFlag found (codes "quiet") sight.is_quiet

pub record IsCallGiven (found : Found) (call : Call) : Type 0 where
  pub start : call.start.now ≡ word_given_or [] found (codes "start")
  pub end : call.end.now ≡ word_given_or [] found (codes "end")
  pub inward : IsFlag found (codes "inward") call.inward
  pub day : IsDayGiven found call.day

pub record AreTermsGiven (found : Found) (terms : Terms) : Type 0 where
  pub date : terms.date.now ≡ word_given_or [] found (codes "date")
  pub zone : terms.zone.now ≡ word_given_or [] found (codes "zone")

-- a port where no socket is given
abbrev pub IsPlaceGiven : Found → Place → Type 0
IsPlaceGiven found (Socket path) = word_given found (codes "socket") ≡ Some path.now
IsPlaceGiven found (Port port) = (word_given found (codes "socket") ≡ None) × (number : Option ℕ) × IsNumberGiven 16 found (codes "port") number × (port ≡ unwrap_or number 0)

-- `HERE:THERE`
pub record IsLineText (text : List ℕ) (line : LinePorts) : Type 0 where
  pub here : List ℕ
  pub there : List ℕ
  pub form : text ≡ here ++ 58 ∷ there
  pub near : line.here ≡ digits_value 10 (without_leading_plus here)
  pub far : line.there ≡ digits_value 10 (without_leading_plus there)

pub record AreHoursGiven (found : Found) (hours : DayHours) : Type 0 where
  pub number : Option ℕ
  pub date : hours.date.now ≡ word_given_or [] found (codes "date")
  pub zone : hours.zone.now ≡ word_given_or (codes "UTC0") found (codes "zone")
  pub paced : IsNumberGiven 32 found (codes "pace") number
  pub pace : hours.pace ≡ unwrap_or number 1

-- by the names of its two options, a socket where no port is given
abbrev pub IsDoorGiven : Found → List ℕ → List ℕ → Option Place → Type 0
IsDoorGiven found socket port (Some (Port number)) = IsNumberGiven 16 found port (Some number)
IsDoorGiven found socket port (Some (Socket path)) = IsNumberGiven 16 found port None × (word_given found socket ≡ Some path.now)
IsDoorGiven found socket port None = IsNumberGiven 16 found port None × (word_given found socket ≡ None)

-- what is given for this option, or the first of it
abbrev pub IsOriginGiven : Found → List ℕ → Option (Bor (List ℕ)) → Type 0
IsOriginGiven found option None = word_given found option ≡ None
IsOriginGiven found option (Some origin) = (rest : List ℕ) × (word_given found option ≡ Some (origin.now ++ rest))

-- ---- the requests

abbrev pub IsFileFilled : Found → FileRequest → Type 0
IsFileFilled found (Plan terms bookings) = AreTermsGiven found terms × (bookings.now ≡ word_given_or [] found (codes "bookings"))
IsFileFilled found (Check terms bookings plan) = AreTermsGiven found terms × (bookings.now ≡ word_given_or [] found (codes "bookings")) × (plan.now ≡ word_given_or [] found (codes "plan"))
IsFileFilled found (Amend date zone plan bookings) = (date.now ≡ word_given_or [] found (codes "date")) × (zone.now ≡ word_given_or [] found (codes "zone")) × (plan.now ≡ word_given_or [] found (codes "plan")) × (bookings.now ≡ word_given_or [] found (codes "bookings"))
IsFileFilled found (Capacity date zone bookings) = (date.now ≡ word_given_or [] found (codes "date")) × (zone.now ≡ word_given_or [] found (codes "zone")) × (bookings.now ≡ word_given_or [] found (codes "bookings"))
IsFileFilled found (Explain plan row) = (plan.now ≡ word_given_or [] found (codes "plan")) × IsNumberGiven 16 found (codes "row") row
IsFileFilled found (Quote plan call) = (plan.now ≡ word_given_or [] found (codes "plan")) × IsCallGiven found call
IsFileFilled found (Chart plan day) = (word_given found (codes "journal") ≡ None) × (plan.now ≡ word_given_or [] found (codes "plan")) × IsDayGiven found day

abbrev pub IsPeerGiven : Found → Peer → Type 0
IsPeerGiven found (Script script) = script.now ≡ word_given_or [] found (codes "script")
IsPeerGiven found (At place) = IsPlaceGiven found place

pub record IsRehearsalFilled (found : Found) (request : RehearsalRequest) : Type 0 where
  pub plan : request.plan.now ≡ word_given_or [] found (codes "plan")
  pub peer : IsPeerGiven found request.peer
  pub journal : IsWordGiven found (codes "journal") request.journal
  pub turns : IsNumberGiven 32 found (codes "turns") request.turns
  pub records : AreRecordsGiven found request.records
  pub sight : IsSightGiven found request.sight

pub record IsFarFilled (found : Found) (request : FarRequest) : Type 0 where
  pub script : request.script.now ≡ word_given_or [] found (codes "script")
  pub place : IsPlaceGiven found request.place
  pub sight : IsSightGiven found request.sight

pub record IsFarLineFilled (found : Found) (request : FarLineRequest) : Type 0 where
  pub script : request.script.now ≡ word_given_or [] found (codes "script")
  pub line : IsLineText (word_given_or [] found (codes "line")) request.line
  pub hours : AreHoursGiven found request.hours
  pub turns : IsNumberGiven 32 found (codes "turns") request.turns
  pub capture : IsWordGiven found (codes "capture") request.capture
  pub quiet : IsFlag found (codes "quiet") request.is_quiet

pub record IsLiveFilled (found : Found) (request : LiveRequest) : Type 0 where
  pub plan : request.plan.now ≡ word_given_or [] found (codes "plan")
  pub line : IsLineText (word_given_or [] found (codes "line")) request.line
  pub hours : AreHoursGiven found request.hours
  pub journal : IsWordGiven found (codes "journal") request.journal
  pub office : IsDoorGiven found (codes "office") (codes "office-port") request.office
  pub origin : IsOriginGiven found (codes "origin") request.origin
  pub counter : IsDoorGiven found (codes "counter") (codes "counter-port") request.counter
  pub counter_origin : IsOriginGiven found (codes "counter-origin") request.counter_origin
  pub rate : IsNumberGiven 32 found (codes "rate") request.rate
  pub turns : IsNumberGiven 32 found (codes "turns") request.turns
  pub quiet : IsFlag found (codes "quiet") request.is_quiet

pub record IsAuditFilled (found : Found) (request : AuditRequest) : Type 0 where
  pub plan : request.plan.now ≡ word_given_or [] found (codes "plan")
  pub journal : request.journal.now ≡ word_given_or [] found (codes "journal")
  pub capture : IsCaptureGiven found request.capture

pub record AreRecordsFilled (found : Found) (request : RecordsRequest) : Type 0 where
  pub plan : request.plan.now ≡ word_given_or [] found (codes "plan")
  pub journal : request.journal.now ≡ word_given_or [] found (codes "journal")
  pub day : IsDayGiven found request.day
  pub quiet : IsFlag found (codes "quiet") request.is_quiet

pub record IsSoldFilled (found : Found) (request : SoldRequest) : Type 0 where
  pub plan : request.plan.now ≡ word_given_or [] found (codes "plan")
  pub journal : request.journal.now ≡ word_given_or [] found (codes "journal")

pub record IsDayChartFilled (found : Found) (request : DayChartRequest) : Type 0 where
  pub plan : request.plan.now ≡ word_given_or [] found (codes "plan")
  pub journal : word_given found (codes "journal") ≡ Some request.journal.now
  pub day : IsDayGiven found request.day

-- each field of a request is what the option of its name has
abbrev pub IsFilled : Found → Request → Type 0
IsFilled found (Files request) = IsFileFilled found request
IsFilled found (Rehearsal request) = IsRehearsalFilled found request
IsFilled found (Far request) = IsFarFilled found request
IsFilled found (FarLine request) = IsFarLineFilled found request
IsFilled found (Live request) = IsLiveFilled found request
IsFilled found (Audit request) = IsAuditFilled found request
IsFilled found (Records request) = AreRecordsFilled found request
IsFilled found (Sold request) = IsSoldFilled found request
IsFilled found (DayChart request) = IsDayChartFilled found request
IsFilled found (Decode octets) = octets.now ≡ word_given_or [] found (codes "octets")

-- ---- the commands

abbrev pub file_command : FileRequest → List ℕ
file_command (Plan terms bookings) = codes "plan"
file_command (Check terms bookings plan) = codes "check"
file_command (Amend date zone plan bookings) = codes "amend"
file_command (Capacity date zone bookings) = codes "capacity"
file_command (Explain plan row) = codes "explain"
file_command (Quote plan call) = codes "quote"
file_command (Chart plan day) = codes "chart"

abbrev pub rehearsal_command : Peer → List ℕ
rehearsal_command (Script script) = codes "day"
rehearsal_command (At place) = codes "serve"

-- the word of the command that asks for it
abbrev pub command_of : Request → List ℕ
command_of (Files request) = file_command request
command_of (Rehearsal request) = rehearsal_command request.peer
command_of (Far request) = codes "far"
command_of (FarLine request) = codes "far"
command_of (Live request) = codes "serve"
command_of (Audit request) = codes "audit"
command_of (Records request) = codes "records"
command_of (Sold request) = codes "sold"
command_of (DayChart request) = codes "chart"
command_of (Decode octets) = codes "decode"

-- the command of this word asks for it, and fills it with what these options have
pub record IsAskedBy (command : List ℕ) (found : Found) (request : Request) : Type 0 where
  pub command_is : command_of request ≡ command
  pub filled : IsFilled found request
