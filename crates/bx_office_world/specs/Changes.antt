-- What a customer asks for a booking of the day, and what is told of it.
use Rattle.std.specs.Prelude.{◌≡◌, ◌⊎◌, ℕ, Bool, true, false, List, [], ◌∷◌, length, codes, Option, Some, None, Result, Ok, Err}
use Rattle.bx_base.specs.Bookings.{Row}
use Rattle.bx_book.specs.Rows.{span_of}
use Rattle.bx_book.specs.Texts.{IsBook}
use Rattle.csv.specs.Reading.{strip_bom}
use Rattle.bx_sales.specs.declared.changing.NoChange.{NoChange}
use Rattle.bx_sales.specs.declared.changing.NoChange.TheVariants as changes
use Rattle.bx_office.specs.declared.client.Client.{Client}
use Rattle.bx_office.specs.declared.reply.Allowed.TheVariants as methods
use Rattle.bx_office.specs.declared.reply.Kind.TheVariants as kinds
use Rattle.bx_office.specs.declared.reply.Reply.{Reply}
use Rattle.bx_office.specs.declared.reply.Status.{Status}
use Rattle.bx_office.specs.declared.reply.Status.TheVariants as statuses
use Rattle.bx_office_door.specs.Guests.{client_of, IsAnswered, IsAnsweredThere, IsSentAway}
use Rattle.bx_office_door.specs.declared.guest.Guest.{Guest}
use Rattle.bx_office_world.specs.ChangedTexts.{changed_text}
use Rattle.bx_office_world.specs.Sold.{is_within}
use Rattle.bx_office_world.specs.Tariff.{is_paid}
use Rattle.bx_office_world.specs.Serving.{IsPlain, IsToldInLine, IsBadBatch, book_status}
use Rattle.bx_office_world.specs.Words.{bad_change_line, no_change_line}
use Rattle.bx_office_world.specs.declared.changes.BadChange.{BadChange}
use Rattle.bx_office_world.specs.declared.changes.BadChange.TheVariants as bad
use Rattle.bx_office_world.specs.declared.changes.Changing.{Changing}
use Rattle.bx_office_world.specs.declared.desk.Opened.{Opened}
use Rattle.bx_office_world.specs.declared.serving.Desk.{Desk}

-- ---- what is asked for

abbrev pub IsBookIn : Opened → List ℕ → List Row → Type 0
IsBookIn opened text rows = IsBook (strip_bom text) (span_of opened.day) rows

-- just this booking stands in the text, it starts by the last second to which the day is run, and pays what it has to pay at least
abbrev pub IsChangeIn : Opened → List ℕ → Row → Type 0
IsChangeIn opened text booking = IsBookIn opened text (booking ∷ []) × (is_within opened.last booking ≡ true) × (is_paid opened.rate booking ≡ true)

abbrev pub IsBadChange : Opened → List ℕ → BadChange → Type 0
IsBadChange opened text (bad.Book fault) = IsBadBatch opened text fault
IsBadChange opened text bad.NotOne = (rows : List Row) × IsBookIn opened text rows × ¬ (length rows ≡ 1)
IsBadChange opened text bad.AfterTheDay = (booking : Row) × IsBookIn opened text (booking ∷ []) × (is_within opened.last booking ≡ false)
IsBadChange opened text bad.BelowRate = (booking : Row) × IsBookIn opened text (booking ∷ []) × (is_within opened.last booking ≡ true) × (is_paid opened.rate booking ≡ false)

abbrev pub bad_status : BadChange → Status
bad_status (bad.Book fault) = book_status fault
bad_status bad.NotOne = statuses.BadRequest
bad_status bad.AfterTheDay = statuses.Conflict
bad_status bad.BelowRate = statuses.Conflict

-- the body of the client of this number says this booking
pub record IsChangeOf (desk : Desk) (number : ℕ) (guests : List Guest) (booking : Row) : Type 0 where
  pub client : Client
  pub there : client_of number guests ≡ Some client
  pub change : IsChangeIn desk.opened.now client.body.items booking

-- it says none, and just this client is told so
pub record IsChangeFaulted (desk : Desk) (number : ℕ) (old new : List Guest) : Type 0 where
  pub client : Client
  pub there : client_of number old ≡ Some client
  pub fault : BadChange
  pub read : IsBadChange desk.opened.now client.body.items fault
  pub reply : Reply
  pub is : IsToldInLine (bad_status fault) (bad_change_line fault) reply
  pub answered : IsAnswered number reply old new

abbrev pub IsChangeRead : Desk → ℕ → List Guest → List Guest → Option Row → Type 0
IsChangeRead desk number old new None = ((client_of number old ≡ None) × (new ≡ old)) ⊎ IsChangeFaulted desk number old new
IsChangeRead desk number old new (Some booking) = (new ≡ old) × IsChangeOf desk number old booking

-- the customer of this number waits for what becomes of this row
pub record IsTakenChange (number row : ℕ) (is_cancelled : Bool) (changing : Changing) : Type 0 where
  pub customer : changing.customer.number ≡ number
  pub row_is : changing.row ≡ row
  pub cancelled : changing.is_cancelled ≡ is_cancelled

-- its client is not there, or has hung up and is sent away
abbrev pub IsNobody : ℕ → List Guest → List Guest → Type 0
IsNobody number old new = ((client_of number old ≡ None) × (new ≡ old)) ⊎ IsSentAway number old new

-- its body says no booking, its client is not there, or it has hung up and is sent away: nothing is changed
abbrev pub IsChangeHindered : Desk → ℕ → List Guest → List Guest → Type 0
IsChangeHindered desk number old new = IsChangeRead desk number old new None ⊎ IsNobody number old new

-- ---- what is told

abbrev pub change_status : NoChange → Status
change_status changes.NoBooking = statuses.NotFound
change_status changes.Memory = statuses.Unavailable
change_status _ = statuses.Conflict

abbrev pub IsChangedReply : Changing → Result (Unit {0}) NoChange → Reply → Type 0
IsChangedReply changing (Ok done) reply =
    ((reply.status ≡ statuses.Fine) × (reply.kind ≡ kinds.Csv) × (reply.allowed ≡ methods.Unsaid) × (reply.body.now ≡ changed_text changing.is_cancelled changing.row))
    ⊎ (IsPlain statuses.Unavailable reply × (reply.body.now ≡ codes "Memory: what is changed stands in the plan\n"))
IsChangedReply changing (Err why) reply = IsToldInLine (change_status why) (no_change_line why) reply

-- just the client of this number is told what has become of a change
pub record IsToldChanged (changing : Changing) (answer : Result (Unit {0}) NoChange) (number : ℕ) (old new : List Guest) : Type 0 where
  pub reply : Reply
  pub is : IsChangedReply changing answer reply
  pub answered : IsAnsweredThere number reply old new
