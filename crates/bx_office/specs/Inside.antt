-- Private: what the functions of a client promise one another.
use Rattle.std.specs.Prelude.{◌≡◌, ℕ, List, [], drop, Result, Ok, ◌++◌, map, Option}
use Rattle.httparse.specs.Grammar.{RequestHead}
use Rattle.httparse.specs.Spans.{IsRequestAt, header_bytes, span_bytes}
use Rattle.httparse.specs.declared.spans.HeaderSpan.{HeaderSpan}
use Rattle.httparse.specs.declared.spans.RequestSpans.{RequestSpans}
use Rattle.httparse.specs.declared.spans.Span.{Span}
use Rattle.http1.specs.Server.{after_end}
use Rattle.http1.specs.declared.server.Server.{Server}
use Rattle.bx_office.specs.Targets.{query_in}
use Rattle.bx_office.specs.Heads.{IsVerdict, first_field_of, key_asked}
use Rattle.bx_office.specs.Replies.{after_body, after_head}
use Rattle.bx_office.specs.declared.client.Client.{Client}
use Rattle.bx_office.specs.declared.client.Stage.{Stage}
use Rattle.bx_office.specs.declared.client.Stage.TheVariants.{Body, Asked}
use Rattle.bx_office.specs.declared.gate.Place.{Place}
use Rattle.bx_office.specs.declared.gate.Route.{Route}
use Rattle.bx_office.specs.declared.reply.Reply.{Reply}
use Rattle.bx_office.specs.declared.reply.Sending.{Sending}
use Rattle.bx_office.specs.declared.gate.Refusal.{Refusal}
use Rattle.http1.specs.Fields.{values_named}

-- no request that was let through is due
abbrev pub IsUndue : Stage → Type 0
IsUndue (Body route) = ⊥
IsUndue (Asked route) = ⊥
IsUndue _ = Unit {0}

-- a head was let through
pub record IsBegun (place : Place) (server : Server) (input : List ℕ) (spans : List HeaderSpan) (r : RequestSpans) (route : Route) (new : Client) : Type 0 where
  pub verdict : (h : RequestHead) → IsRequestAt input spans r h → IsVerdict place h (Ok route)
  pub query : (h : RequestHead) → IsRequestAt input spans r h → new.query.items ≡ query_in h.target
  pub key : (h : RequestHead) → IsRequestAt input spans r h → new.key ≡ key_asked h
  pub unread : new.unread.items ≡ drop r.len input
  pub reading : new.server.reading ≡ server.reading
  pub body : new.body.items ≡ []

-- a head was taken, with what the gate answers to it
abbrev pub IsHeadTaken : List HeaderSpan → RequestSpans → Client → Client → Result Route Refusal → Type 0
IsHeadTaken spans r old new verdict =
    (h : RequestHead)
    → IsRequestAt old.unread.items spans r h
    → IsVerdict old.place h verdict × (new.query.items ≡ query_in h.target) × (new.key ≡ key_asked h)

-- a head was let through, and its body is due
abbrev pub IsBodyBegun : List HeaderSpan → RequestSpans → Client → Client → Type 0
IsBodyBegun spans r old new =
    (route : Route) × (new.stage ≡ Body route) × IsBegun old.place old.server old.unread.items spans r route new

-- the body of a request of this route is due, and nothing of it was read
abbrev pub IsBodyDue : Route → Client → Client → Type 0
IsBodyDue route old new =
    (new.stage ≡ Body route)
    × (new.body.items ≡ [])
    × (new.unread.items ≡ old.unread.items)
    × (new.query.items ≡ old.query.items)
    × (new.key ≡ old.key)
    × (new.server.reading ≡ old.server.reading)

-- a piece of a body was read
abbrev pub HasKept : Span → Client → Client → Type 0
HasKept piece old new =
    (new.stage ≡ old.stage)
    × (new.query ≡ old.query)
    × (new.key ≡ old.key)
    × (new.server ≡ old.server)
    × (new.unread.items ≡ drop piece.end old.unread.items)
    × (new.body.items ≡ old.body.items ++ span_bytes old.unread.items piece)

-- nothing of a body was read, but so many octets that hold none of it
abbrev pub HasWaited : ℕ → Client → Client → Type 0
HasWaited len old new =
    (new.stage ≡ old.stage)
    × (new.query ≡ old.query)
    × (new.key ≡ old.key)
    × (new.server ≡ old.server)
    × (new.unread.items ≡ drop len old.unread.items)
    × (new.body ≡ old.body)

-- a body was read to its end, after so many octets: the request waits for its answer
abbrev pub HasAsked : ℕ → Client → Client → Type 0
HasAsked len old new =
    (route : Route)
    × (old.stage ≡ Body route)
    × (new.stage ≡ Asked route)
    × (new.query ≡ old.query)
    × (new.key ≡ old.key)
    × (new.server ≡ old.server)
    × (new.unread.items ≡ drop len old.unread.items)
    × (new.body ≡ old.body)

-- the values of the fields of this name, and the first of them, by the places of the fields in what was read
abbrev pub values_at : List ℕ → List HeaderSpan → List ℕ → List (List ℕ)
values_at input spans name = values_named name (map (header_bytes input) spans)

abbrev pub value_at : List ℕ → List HeaderSpan → List ℕ → Option (List ℕ)
value_at input spans name = first_field_of (values_at input spans name)

-- the connection after an answer
abbrev pub after_reply : Server → Sending → Reply → Server
after_reply s how reply = after_end (after_body how.is_head (after_head s how.date reply how.is_last) reply.body.now)
