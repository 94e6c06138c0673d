-- A client's connection: what is let through, and what is kept of it.
use Rattle.std.specs.Prelude.{◌≡◌, ◌⊎◌, ℕ, ◌-◌, ◌==◌, ◌&&◌, ◌||◌, not, if◌then◌else◌, Bool, true, false, List, [], ◌++◌, drop, length, Ok}
use Rattle.httparse.specs.Grammar.{RequestHead}
use Rattle.httparse.specs.declared.spans.HeaderSpan.{HeaderSpan}
use Rattle.http1.specs.Decoder.{decoder_for, Continues, Ends}
use Rattle.http1.specs.Message.{AcceptsRequest}
use Rattle.http1.specs.Server.{after_piece}
use Rattle.http1.specs.declared.conn.Reading.TheVariants as reading
use Rattle.http1.specs.declared.decode.Decoder.{Decoder}
use Rattle.http1.specs.declared.framing.Framing.{Framing}
use Rattle.bx_office.specs.Targets.{query_in}
use Rattle.bx_office.specs.Heads.{IsVerdict, key_asked}
use Rattle.bx_office.specs.Replies.{reply_text}
use Rattle.bx_office.specs.declared.reply.Reply.{Reply}
use Rattle.bx_office.specs.declared.client.Client.{Client}
use Rattle.bx_office.specs.declared.client.Stage.{Stage}
use Rattle.bx_office.specs.declared.client.Stage.TheVariants.{Head, Body, Asked, Last}
use Rattle.bx_office.specs.declared.gate.Route.{Route}

-- a request was let through: its head stood first in what came, the gate let it through, and its body is read by the framing of its head
pub record IsAdmitted (old new : Client) (route : Route) : Type 0 where
  pub head : RequestHead
  pub framing : Framing
  pub accepts : AcceptsRequest old.server.limits old.unread.items head framing new.unread.items
  pub verdict : IsVerdict old.place head (Ok route)
  pub query : new.query.items ≡ query_in head.target
  pub key : new.key ≡ key_asked head
  pub reads : new.server.reading ≡ reading.Body (decoder_for old.server.limits framing)
  pub body : new.body.items ≡ []

-- So many octets were read of its body, which held this piece of it, or none: what is left of the body follows them, as the framing of its
-- head has it, and they are not read again
pub record IsReadOn (old new : Client) (route : Route) : Type 0 where
  pub before : old.stage ≡ Body route
  pub query : new.query.items ≡ old.query.items
  pub key : new.key ≡ old.key
  pub decoder : Decoder
  pub reads : old.server.reading ≡ reading.Body decoder
  pub next : Decoder
  pub server : new.server ≡ after_piece old.server old.unread.items (reading.Body next)
  pub len : ℕ
  pub piece : List ℕ
  pub went : Continues decoder old.unread.items next len piece
  pub unread : new.unread.items ≡ drop len old.unread.items
  pub body : new.body.items ≡ old.body.items ++ piece

-- nothing was read of it
pub record IsBodyUnread (old new : Client) (route : Route) : Type 0 where
  pub before : old.stage ≡ Body route
  pub query : new.query.items ≡ old.query.items
  pub key : new.key ≡ old.key
  pub server : new.server ≡ old.server
  pub unread : new.unread.items ≡ old.unread.items
  pub body : new.body.items ≡ old.body.items

-- its body was read to its end, which stands after so many octets
pub record IsBodyOver (old new : Client) (route : Route) : Type 0 where
  pub before : old.stage ≡ Body route
  pub query : new.query.items ≡ old.query.items
  pub key : new.key ≡ old.key
  pub decoder : Decoder
  pub reads : old.server.reading ≡ reading.Body decoder
  pub server : new.server ≡ after_piece old.server old.unread.items reading.Done
  pub len : ℕ
  pub spans : List HeaderSpan
  pub count : ℕ
  pub ends : Ends decoder old.unread.items spans len count
  pub unread : new.unread.items ≡ drop len old.unread.items
  pub body : new.body.items ≡ old.body.items

-- the body of the request of this route is due after a step, or it was read to its end
abbrev pub IsDueAfter : Client → Client → Stage → Type 0
IsDueAfter old new (Body route) = IsAdmitted old new route ⊎ (IsReadOn old new route ⊎ IsBodyUnread old new route)
IsDueAfter old new (Asked route) = ((old.stage ≡ Asked route) × (new ≡ old)) ⊎ IsBodyOver old new route
IsDueAfter old new _ = Unit {0}

-- ---- what each function of it does

-- nothing more is done for the client
pub record IsLeft (c : Client) : Type 0 where
  pub stage : c.stage ≡ Last
  pub out : c.out.items ≡ []

abbrev pub is_last : Stage → Bool
is_last Last = true
is_last _ = false

abbrev pub is_over : Client → Bool
is_over c = is_last c.stage && (length c.out.items == 0)

abbrev pub is_head_due : Stage → Bool
is_head_due Head = true
is_head_due _ = false

-- no octet of a request has come
abbrev pub is_between : Client → Bool
is_between c = is_head_due c.stage && (length c.unread.items == 0)

-- a whole request waits for its answer, or nothing more is read
abbrev pub holds_request : Stage → Bool
holds_request (Asked route) = true
holds_request Last = true
holds_request _ = false

abbrev pub is_reading : Client → Bool
is_reading c = (length c.out.items == 0) && not (holds_request c.stage)

abbrev pub room_to_read : Client → ℕ
room_to_read c = if c.has_ended || not (is_reading c) then 0 else 16384 - length c.unread.items

-- octets were taken, and nothing else has changed
pub record AreOctetsTaken (octets : List ℕ) (old new : Client) : Type 0 where
  pub unread : new.unread.items ≡ old.unread.items ++ octets
  pub stage : new.stage ≡ old.stage
  pub place : new.place ≡ old.place
  pub server : new.server ≡ old.server
  pub query : new.query ≡ old.query
  pub key : new.key ≡ old.key
  pub body : new.body ≡ old.body
  pub out : new.out ≡ old.out

-- this was answered, as the last or not; or the client was given up
abbrev pub IsReplySaid : Reply → Bool → Client → Client → Type 0
IsReplySaid reply is_last old new = IsLeft new ⊎ (new.out.items ≡ old.out.items ++ reply_text old.server old.date old.is_head reply is_last)

-- after an answer the next head is due, or nothing more is read
abbrev pub IsAfterAnswer : Stage → Type 0
IsAfterAnswer Head = Unit {0}
IsAfterAnswer Last = Unit {0}
IsAfterAnswer _ = ⊥
