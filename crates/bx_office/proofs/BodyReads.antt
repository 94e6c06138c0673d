-- What is read of the body of a request.
use Rattle.std.proofs.Common.{rules, ◌≡◌, refl, sym, ap, subst, ◌∙◌, inl, inr, ◌⊎◌, ◌++◌, ◌==◌, ◌&&◌, [], ℕ, List, length, not, Bool, true, false, drop}
use Rattle.httparse.specs.Spans.{span_bytes}
use Rattle.httparse.specs.declared.spans.HeaderSpan.{HeaderSpan}
use Rattle.httparse.specs.declared.spans.RequestSpans.{RequestSpans}
use Rattle.httparse.specs.declared.spans.Span.{Span}
use Rattle.http1.specs.Conn.{ReadsPiece}
use Rattle.http1.specs.Decoder.{Continues, Ends}
use Rattle.http1.specs.Server.{ReadsAt, ReadsHead, after_piece}
use Rattle.http1.specs.declared.conn.Event.{Event}
use Rattle.http1.specs.declared.conn.Event.TheVariants as Events
use Rattle.http1.specs.declared.conn.Progress.{Progress}
use Rattle.http1.specs.declared.conn.Reading.{Reading}
use Rattle.http1.specs.declared.conn.Reading.TheVariants as Reads
use Rattle.http1.specs.declared.decode.Decoder.{Decoder}
use Rattle.http1.specs.declared.server.Server.{Server}
use Rattle.bx_office.specs.Clients.{IsDueAfter, IsLeft, is_reading, holds_request}
use Rattle.bx_office.specs.Inside.{IsUndue, HasKept, HasWaited, HasAsked}
use Rattle.bx_office.specs.declared.client.Client.{Client}
use Rattle.bx_office.specs.declared.client.Stage.{Stage}
use Rattle.bx_office.specs.declared.client.Stage.TheVariants as Stages
use Rattle.bx_office.specs.declared.gate.Route.{Route}

-- a decoder that goes on over so many octets, which hold this piece
record WentOn (s : Reading) (old new : Server) (input : List ℕ) (len : ℕ) (piece : List ℕ) : Type 0 where
  pub decoder : Decoder
  pub reads : s ≡ Reads.Body decoder
  pub next : Decoder
  pub server : new ≡ after_piece old input (Reads.Body next)
  pub went : Continues decoder input next len piece

-- .. and one that is at its end after so many
record WentOut (s : Reading) (old new : Server) (input : List ℕ) (len : ℕ) : Type 0 where
  pub decoder : Decoder
  pub reads : s ≡ Reads.Body decoder
  pub server : new ≡ after_piece old input Reads.Done
  pub spans : List HeaderSpan
  pub count : ℕ
  pub ends : Ends decoder input spans len count

pieced : (s : Reading) (old new : Server) (input : List ℕ) (spans : List HeaderSpan) (read : Progress RequestSpans) (piece : Span) → ReadsAt s old input spans new read → read.event ≡ Events.Data piece → WentOn s old new input piece.end (span_bytes input piece)
pieced Reads.Head old new input spans read piece p e = absurd (subst (λ (ev : Event RequestSpans). ReadsHead old input spans new read.consumed ev) e p)
pieced (Reads.Body d) old new input spans read piece p e =
    let q = subst (λ (ev : Event RequestSpans). ReadsPiece d input spans p.0 read.consumed ev) e p.1 in
    record { decoder = d; reads = refl; next = q.0; server = p.2 ∙ ap (λ (r : Reading). after_piece old input r) q.1; went = q.4 }
pieced Reads.Done old new input spans read piece p e = let is = p.0 in cc
pieced Reads.Upgraded old new input spans read piece p e = let is = p.0 in cc
pieced Reads.Closed old new input spans read piece p e = let is = p.0 in cc
pieced (Reads.Failed f) old new input spans read piece p e = absurd p

-- where a head is due nothing is done while more of it is wanted
starved : (s : Reading) (old new : Server) (input : List ℕ) (spans : List HeaderSpan) (read : Progress RequestSpans) → ReadsAt s old input spans new read → read.event ≡ Events.NeedMore → WentOn s old new input read.consumed [] ⊎ ((read.consumed ≡ 0) × (new ≡ old))
starved Reads.Head old new input spans read p e =
    let q = subst (λ (ev : Event RequestSpans). ReadsHead old input spans new read.consumed ev) e p in inr (q.0, q.1)
starved (Reads.Body d) old new input spans read p e =
    let q = subst (λ (ev : Event RequestSpans). ReadsPiece d input spans p.0 read.consumed ev) e p.1 in
    inl (record { decoder = d; reads = refl; next = q.0; server = p.2 ∙ ap (λ (r : Reading). after_piece old input r) q.1; went = q.2.continues })
starved Reads.Done old new input spans read p e = let is = p.0 in cc
starved Reads.Upgraded old new input spans read p e = let is = p.0 in cc
starved Reads.Closed old new input spans read p e = let is = p.0 in cc
starved (Reads.Failed f) old new input spans read p e = absurd p

ended : (s : Reading) (old new : Server) (input : List ℕ) (spans : List HeaderSpan) (read : Progress RequestSpans) (count : ℕ) → ReadsAt s old input spans new read → read.event ≡ Events.End count → WentOut s old new input read.consumed
ended Reads.Head old new input spans read count p e = absurd (subst (λ (ev : Event RequestSpans). ReadsHead old input spans new read.consumed ev) e p)
ended (Reads.Body d) old new input spans read count p e =
    let q = subst (λ (ev : Event RequestSpans). ReadsPiece d input spans p.0 read.consumed ev) e p.1 in
    record { decoder = d; reads = refl; server = p.2 ∙ ap (λ (r : Reading). after_piece old input r) q.0; spans = spans; count = count; ends = q.1 }
ended Reads.Done old new input spans read count p e = let is = p.0 in cc
ended Reads.Upgraded old new input spans read count p e = let is = p.0 in cc
ended Reads.Closed old new input spans read count p e = let is = p.0 in cc
ended (Reads.Failed f) old new input spans read count p e = absurd p

-- ---- what comes of it

-- who is read waits for no answer
not_asked : (old : Client) (route : Route) → is_reading old ≡ true → old.stage ≡ Stages.Asked route → ⊥
not_asked old route going at = by_room (length old.out.items == 0) (subst (λ (s : Stage). ((length old.out.items == 0) && not (holds_request s)) ≡ true) at going) where
  by_room : (b : Bool) → (b && false) ≡ true → ⊥
  by_room false never = absurd cc
  by_room true never = absurd cc

module _ (old new : Client) (server : Server) (spans : List HeaderSpan) (read : Progress RequestSpans) (going : is_reading old ≡ true) (reads : ReadsAt old.server.reading old.server old.unread.items spans server read) where
  abbrev after : Client
  after = record old { server = server }

  on : (s : Stage) (len : ℕ) (piece : List ℕ) → new.stage ≡ s → new.stage ≡ old.stage → new.query ≡ old.query → new.key ≡ old.key → new.server ≡ server → new.unread.items ≡ drop len old.unread.items → new.body.items ≡ old.body.items ++ piece
      → WentOn old.server.reading old.server server old.unread.items len piece → IsDueAfter old new s
  on Stages.Head len piece at same q k sv u b w = tt
  on (Stages.Body route) len piece at same q k sv u b w = inr (inl (record {
    before = sym same ∙ at;
    query = ap (λ (x : _). x.items) q;
    key = k;
    decoder = w.decoder;
    reads = w.reads;
    next = w.next;
    server = sv ∙ w.server;
    len = len;
    piece = piece;
    went = w.went;
    unread = u;
    body = b;
  }))
  on (Stages.Refused refusal) len piece at same q k sv u b w = tt
  on (Stages.Asked route) len piece at same q k sv u b w = absurd (not_asked old route going (sym same ∙ at))
  on Stages.Last len piece at same q k sv u b w = tt

  off : (s : Stage) → new.stage ≡ s → new.stage ≡ old.stage → new.query ≡ old.query → new.key ≡ old.key → new.server ≡ old.server → new.unread.items ≡ old.unread.items → new.body ≡ old.body → IsDueAfter old new s
  off Stages.Head at same q k sv u b = tt
  off (Stages.Body route) at same q k sv u b = inr (inr (record {
    before = sym same ∙ at;
    query = ap (λ (x : _). x.items) q;
    key = k;
    server = sv;
    unread = u;
    body = ap (λ (x : _). x.items) b;
  }))
  off (Stages.Refused refusal) at same q k sv u b = tt
  off (Stages.Asked route) at same q k sv u b = absurd (not_asked old route going (sym same ∙ at))
  off Stages.Last at same q k sv u b = tt

  undue_after : (s : Stage) → IsUndue s → IsDueAfter old new s
  undue_after Stages.Head u = tt
  undue_after (Stages.Body route) u = absurd u
  undue_after (Stages.Refused refusal) u = tt
  undue_after (Stages.Asked route) u = absurd u
  undue_after Stages.Last u = tt

  pub kept_due : (piece : Span) → read.event ≡ Events.Data piece → IsUndue new.stage ⊎ HasKept piece after new → IsDueAfter old new new.stage
  kept_due piece e (inl u) = undue_after new.stage u
  kept_due piece e (inr (same, q, k, sv, u, b)) = on new.stage piece.end (span_bytes old.unread.items piece) refl same q k sv u b (pieced old.server.reading old.server server old.unread.items spans read piece reads e)

  pub waited_due : read.event ≡ Events.NeedMore → IsLeft new ⊎ HasWaited read.consumed after new → IsDueAfter old new new.stage
  waited_due e (inl left) = subst (λ (s : Stage). IsDueAfter old new s) (sym left.stage) tt
  waited_due e (inr (same, q, k, sv, u, b)) = by_state (starved old.server.reading old.server server old.unread.items spans read reads e) where
    by_state : WentOn old.server.reading old.server server old.unread.items read.consumed [] ⊎ ((read.consumed ≡ 0) × (server ≡ old.server)) → IsDueAfter old new new.stage
    by_state (inl w) = on new.stage read.consumed [] refl same q k sv u (search rules) w
    by_state (inr (none, still)) = off new.stage refl same q k (sv ∙ still) (u ∙ ap (λ (n : ℕ). drop n old.unread.items) none) b

  pub asked_due : (count : ℕ) → read.event ≡ Events.End count → IsUndue new.stage ⊎ HasAsked read.consumed after new → IsDueAfter old new new.stage
  asked_due count e (inl u) = undue_after new.stage u
  asked_due count e (inr (route, before, at, q, k, sv, u, b)) =
      let w = ended old.server.reading old.server server old.unread.items spans read count reads e in
      subst (λ (s : Stage). IsDueAfter old new s) (sym at) (inr (record {
        before = before;
        query = ap (λ (x : _). x.items) q;
        key = k;
        decoder = w.decoder;
        reads = w.reads;
        server = sv ∙ w.server;
        len = read.consumed;
        spans = w.spans;
        count = w.count;
        ends = w.ends;
        unread = u;
        body = ap (λ (x : _). x.items) b;
      }))

-- nothing is read where no reading is due
pub same_due : (old : Client) (s : Stage) → old.stage ≡ s → IsDueAfter old old s
same_due old Stages.Head at = tt
same_due old (Stages.Body route) at = inr (inr (record { before = at; query = refl; key = refl; server = refl; unread = refl; body = refl }))
same_due old (Stages.Refused refusal) at = tt
same_due old (Stages.Asked route) at = inl (at, refl)
same_due old Stages.Last at = tt
