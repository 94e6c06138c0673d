-- What each is told who waits at the door.
use Rattle.std.specs.Prelude.{◌≡◌, ◌⊎◌, ℕ, Bool, true, false, List, length, codes, Option, Some, None, IfSome, Vec}
use Rattle.std.specs.declared.alloc.Global.{Global}
use Rattle.bx_office_world.specs.Offered.{terms_of, offered_of}
use Rattle.bx_office_world.specs.Sold.{sold_text}
use Rattle.bx_office_world.specs.declared.fault.NoAnswer.{NoAnswer}
use Rattle.bx_office_world.specs.declared.fault.NoAnswer.TheVariants as no
use Rattle.bx_base.specs.Bookings.{Row}
use Rattle.bx_book.specs.Texts.{IsBook, IsBookFault}
use Rattle.csv.specs.Reading.{strip_bom}
use Rattle.bx_book.specs.Rows.{span_of}
use Rattle.bx_book.specs.declared.fault.BookFault.{BookFault}
use Rattle.bx_book.specs.declared.fault.BookFault.TheVariants as book
use Rattle.bx_day.specs.Day.{Day}
use Rattle.bx_day_chart.specs.Sights.{sight_of}
use Rattle.std.specs.Str.{bytes_eq}
use Rattle.bx_sales.specs.declared.tag.Tag.{Tag}
use Rattle.bx_market.specs.declared.market.Batch.{Batch}
use Rattle.bx_market.specs.declared.market.Answer.{Answer}
use Rattle.bx_office.specs.declared.client.Client.{Client}
use Rattle.bx_office.specs.declared.gate.Route.{Route}
use Rattle.bx_office.specs.declared.reply.Allowed.TheVariants as methods
use Rattle.bx_office.specs.declared.reply.Kind.TheVariants as kinds
use Rattle.bx_office.specs.declared.reply.Reply.{Reply}
use Rattle.bx_office.specs.declared.reply.Status.{Status}
use Rattle.bx_office.specs.declared.reply.Status.TheVariants as statuses
use Rattle.bx_office_door.specs.Guests.{client_of, IsAnswered, IsAnsweredThere, IsSentAway}
use Rattle.bx_office_door.specs.Doors.{is_early}
use Rattle.bx_office_door.specs.declared.door.Door.{Door}
use Rattle.bx_office_door.specs.declared.guest.Guest.{Guest}
use Rattle.bx_office_world.specs.Statuses.{status_at}
use Rattle.bx_office_world.specs.Metrics.{metrics_text}
use Rattle.bx_office_world.specs.Desk.{IsWritten, IsUnanswered}
use Rattle.bx_office_world.specs.KnownKeys.{keys_in, key_at}
use Rattle.bx_office_world.specs.Ledgers.{request_at, tag_asked, terms_again, answers_again}
use Rattle.bx_office_world.specs.Words.{memory_line, book_line, answer_line, other_line}
use Rattle.bx_office_world.specs.declared.ledger.Keyed.{Keyed}
use Rattle.bx_office_world.specs.declared.desk.Opened.{Opened}
use Rattle.bx_office_world.specs.declared.serving.Order.{Order}
use Rattle.bx_office_world.specs.declared.serving.Desk.{Desk}
use Rattle.bx_office_world.specs.declared.serving.Selling.{Selling}
use Rattle.bx_office_world.specs.declared.tariff.Terms.{Terms}
use Rattle.bx_planner.specs.declared.answer.NoQuote.TheVariants as quotes

-- ---- how answers begin

abbrev pub reply_status_of : NoAnswer → Status
reply_status_of (no.Book fault) = statuses.BadRequest
reply_status_of no.NoTimes = statuses.BadRequest
reply_status_of no.NoLength = statuses.BadRequest
reply_status_of (no.Quote (quotes.NoChannel moment)) = statuses.Fine
reply_status_of (no.Quote quotes.TooMany) = statuses.Fine
reply_status_of _ = statuses.Unavailable

abbrev pub book_status : BookFault → Status
book_status book.Memory = statuses.Unavailable
book_status _ = statuses.BadRequest

-- a line of text, with this status
pub record IsPlain (status : Status) (reply : Reply) : Type 0 where
  pub begins : reply.status ≡ status
  pub kind : reply.kind ≡ kinds.Text
  pub allowed : reply.allowed ≡ methods.Unsaid

-- just this line; or that memory ran out for it
pub record IsToldInLine (status : Status) (line : List ℕ) (reply : Reply) : Type 0 where
  pub plain : IsPlain status reply
  pub says : (reply.body.now ≡ line) ⊎ (reply.body.now ≡ memory_line)

-- the client of this number is told this line, where it is there
pub record IsRefusing (status : Status) (line : List ℕ) (number : ℕ) (old new : List Guest) : Type 0 where
  pub reply : Reply
  pub is : IsToldInLine status line reply
  pub answered : IsAnsweredThere number reply old new

-- ---- a request that asks for nothing to be sold

-- what stands at its path, by its query, and where a monitor asks for it the status says so too
pub record IsShown (desk : Desk) (d : Day) (query : List ℕ) (route : Route) (reply : Reply) : Type 0 where
  pub status : reply.status ≡ status_at desk.opened.now d desk.figures route
  pub allowed : reply.allowed ≡ methods.Unsaid
  pub written : IsWritten desk.opened.now d desk.given_up.items desk.figures (sight_of desk.sight) query route reply.kind reply.body.now

abbrev pub IsReplyTo : Desk → Day → List ℕ → Route → Reply → Type 0
IsReplyTo desk d query route reply = IsShown desk d query route reply ⊎ ((why : NoAnswer) × IsUnanswered desk.opened.now d query route why × IsToldInLine (reply_status_of why) (answer_line why) reply)

-- just the client of this number is told it
pub record IsServedThere (desk : Desk) (d : Day) (number : ℕ) (route : Route) (old new : List Guest) : Type 0 where
  pub client : Client
  pub there : client_of number old ≡ Some client
  pub reply : Reply
  pub said : IsReplyTo desk d client.query.items route reply
  pub answered : IsAnswered number reply old new

-- .. where it is there; else all stand as they stood
abbrev pub IsServed : Desk → Day → ℕ → Route → List Guest → List Guest → Type 0
IsServed desk d number route old new = ((client_of number old ≡ None) × (new ≡ old)) ⊎ IsServedThere desk d number route old new

-- ---- a request that asks for bookings to be sold

-- wanted is just what the text says, and of that is offered what starts by the last second to which the day is run and pays its least pay
pub record IsBatchIn (opened : Opened) (text : List ℕ) (wanted offered : List Row) : Type 0 where
  pub read : IsBook (strip_bom text) (span_of opened.day) wanted
  pub within : offered ≡ offered_of (terms_of opened) wanted

abbrev pub IsBadBatch : Opened → List ℕ → BookFault → Type 0
IsBadBatch opened text fault = IsBookFault (strip_bom text) (span_of opened.day) fault

-- the batch is what the body of the client of this number says
pub record IsBatchOf (desk : Desk) (number : ℕ) (guests : List Guest) (wanted offered : List Row) : Type 0 where
  pub client : Client
  pub there : client_of number guests ≡ Some client
  pub batch : IsBatchIn desk.opened.now client.body.items wanted offered

-- its body has a fault, and just this client is told so
pub record IsFaulted (desk : Desk) (number : ℕ) (old new : List Guest) : Type 0 where
  pub client : Client
  pub there : client_of number old ≡ Some client
  pub fault : BookFault
  pub read : IsBadBatch desk.opened.now client.body.items fault
  pub reply : Reply
  pub is : IsToldInLine (book_status fault) (book_line fault) reply
  pub answered : IsAnswered number reply old new

abbrev pub IsBatchRead : Desk → ℕ → List Guest → List Guest → Option Order → Type 0
IsBatchRead desk number old new None = ((client_of number old ≡ None) × (new ≡ old)) ⊎ IsFaulted desk number old new
IsBatchRead desk number old new (Some batch) = (new ≡ old) × IsBatchOf desk number old batch.wanted batch.offered

abbrev pub IsSoldReply : Terms → ℕ → List Row → List Answer → Reply → Type 0
IsSoldReply terms rows wanted answers reply = ((reply.status ≡ statuses.Fine) × (reply.kind ≡ kinds.Csv) × (reply.allowed ≡ methods.Unsaid) × (reply.body.now ≡ sold_text terms rows wanted answers))
    ⊎ (IsPlain statuses.Unavailable reply × (reply.body.now ≡ codes "Memory: what is sold stands in the plan\n"))

-- just the client of this number is told what becomes of a batch
pub record IsToldSold (terms : Terms) (rows : ℕ) (wanted : List Row) (answers : List Answer) (number : ℕ) (old new : List Guest) : Type 0 where
  pub reply : Reply
  pub is : IsSoldReply terms rows wanted answers reply
  pub answered : IsAnsweredThere number reply old new

-- Under a key: where the same was asked for, the same is told again, or memory ran out; else that something else was
abbrev pub IsSameTold : Bool → Terms → Day → Order → Keyed → ℕ → List Guest → List Guest → Type 0
IsSameTold true terms d batch request number old new =
    IsToldSold (terms_again terms request) request.rows batch.wanted (answers_again request (terms_again terms request) batch.wanted d.entries) number old new ⊎ IsRefusing statuses.Unavailable memory_line number old new
IsSameTold false terms d batch request number old new = IsRefusing statuses.Unprocessable other_line number old new

abbrev pub IsToldAgain : Terms → Day → Tag → Order → Keyed → ℕ → List Guest → List Guest → Type 0
IsToldAgain terms d tag batch request number old new = IsSameTold (bytes_eq request.tag.body tag.body) terms d batch request number old new

-- something was asked for under the key of this client's request before, and that is told again
pub record IsRepeated (desk : Desk) (requests : List Keyed) (d : Day) (number : ℕ) (old new : List Guest) : Type 0 where
  pub tag : Tag
  pub asked : tag_asked (client_of number old) ≡ Some tag
  pub batch : Order
  pub of : IsBatchOf desk number old batch.wanted batch.offered
  pub place : ℕ
  pub known : key_at (keys_in requests) place ≡ tag.key
  pub told : IsToldAgain (terms_of desk.opened.now) d tag batch (request_at requests place) number old new

-- its body has a fault, its client has hung up, it is told again what was told under its key, or there is no memory for its key: nothing is sold
abbrev pub IsNotSold : Desk → List Keyed → Day → ℕ → List Guest → List Guest → Type 0
IsNotSold desk requests d number old new =
    IsBatchRead desk number old new None ⊎ (IsSentAway number old new ⊎ (IsRepeated desk requests d number old new ⊎ IsRefusing statuses.Unavailable memory_line number old new))

-- what is to be sold is of the customer of this number, whose socket was just looked at, under the key of its request
pub record IsTakenBatch (desk : Desk) (d : Day) (number : ℕ) (guests : List Guest) (selling : Selling) (request : Batch) : Type 0 where
  pub customer : selling.customer.number ≡ number
  pub rows_are : selling.rows ≡ length d.entries
  pub keyed : request.tag ≡ tag_asked (client_of number guests)
  pub batch : IsBatchOf desk number guests selling.wanted request.bookings

-- ---- before the day begins

-- the figures of the day as it stands are kept for who asks, or there was no memory for them
abbrev pub AreKeptFor : Desk → Day → Option (Vec ℕ Global) → Type 0
AreKeptFor desk d figures = IfSome figures (λ text. text.items ≡ metrics_text d desk.figures)

pub record IsPreparedFor (desk : Desk) (d : Day) (old new : Door) : Type 0 where
  pub kept : AreKeptFor desk d new.figures
  pub rest : new ≡ record old { figures = new.figures }

abbrev pub IsPreparedWhere : Bool → Desk → Day → Door → Door → Type 0
IsPreparedWhere true desk d old new = IsPreparedFor desk d old new
IsPreparedWhere false desk d old new = new ≡ old

abbrev pub IsPrepared : Desk → Day → Door → Door → Type 0
IsPrepared desk d old new = IsPreparedWhere (is_early old) desk d old new
