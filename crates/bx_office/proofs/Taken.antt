-- A head that was read and let through.
use Rattle.std.proofs.Common.{◌≡◌, subst, sym, ap, ◌∙◌, inl, inr, ◌⊎◌, ℕ, List, drop, Ok}
use Rattle.httparse.specs.declared.spans.HeaderSpan.{HeaderSpan}
use Rattle.httparse.specs.declared.spans.RequestSpans.{RequestSpans}
use Rattle.http1.specs.Conn.{ReadsPiece}
use Rattle.http1.specs.Message.{AcceptsRequest}
use Rattle.http1.specs.Server.{ReadsAt, ReadsHead, TakesHead}
use Rattle.http1.specs.declared.conn.Event.{Event}
use Rattle.http1.specs.declared.conn.Event.TheVariants as Events
use Rattle.http1.specs.declared.conn.Progress.{Progress}
use Rattle.http1.specs.declared.conn.Reading.{Reading}
use Rattle.http1.specs.declared.conn.Reading.TheVariants as Reads
use Rattle.http1.specs.declared.server.Server.{Server}
use Rattle.bx_office.specs.Clients.{IsAdmitted, IsDueAfter}
use Rattle.bx_office.specs.Inside.{IsUndue, IsBegun, IsBodyBegun, IsBodyDue, IsHeadTaken}
use Rattle.bx_office.specs.declared.client.Client.{Client}
use Rattle.bx_office.specs.declared.client.Stage.{Stage}
use Rattle.bx_office.specs.declared.client.Stage.TheVariants as Stages
use Rattle.bx_office.specs.declared.gate.Route.{Route}

-- a head is read only where one is due
took : (s : Reading) (old new : Server) (input : List ℕ) (spans : List HeaderSpan) (read : Progress RequestSpans) (r : RequestSpans) → ReadsAt s old input spans new read → read.event ≡ Events.Head r → TakesHead old input spans new read.consumed r
took Reads.Head old new input spans read r p e = subst (λ (ev : Event RequestSpans). ReadsHead old input spans new read.consumed ev) e p
took (Reads.Body d) old new input spans read r p e = absurd (subst (λ (ev : Event RequestSpans). ReadsPiece d input spans p.0 read.consumed ev) e p.1)
took Reads.Done old new input spans read r p e = let is = p.0 in cc
took Reads.Upgraded old new input spans read r p e = let is = p.0 in cc
took Reads.Closed old new input spans read r p e = let is = p.0 in cc
took (Reads.Failed f) old new input spans read r p e = absurd p

undue : (old new : Client) (s : Stage) → IsUndue s → IsDueAfter old new s
undue old new Stages.Head u = tt
undue old new (Stages.Body route) u = absurd u
undue old new (Stages.Refused refusal) u = tt
undue old new (Stages.Asked route) u = absurd u
undue old new Stages.Last u = tt

begun : (old new : Client) (spans : List HeaderSpan) (r : RequestSpans) (after : Server) (len : ℕ) (route : Route) → TakesHead old.server old.unread.items spans after len r → IsBegun old.place after old.unread.items spans r route new → IsAdmitted old new route
begun old new spans r after len route t b = record {
  head = t.head;
  framing = t.framing;
  accepts = subst (λ (rest : List ℕ). AcceptsRequest old.server.limits old.unread.items t.head t.framing rest) (ap (λ (n : ℕ). drop n old.unread.items) t.consumed ∙ sym b.unread) t.accepts;
  verdict = b.verdict t.head t.covered;
  query = b.query t.head t.covered;
  key = b.key t.head t.covered;
  reads = b.reading ∙ ap (λ (server : Server). server.reading) t.next;
  body = b.body;
}

-- a head that was let through is answered, or its body is due. `taken` is the client after the head was taken
pub body_begun : (spans : List HeaderSpan) (r : RequestSpans) (old taken new : Client) (route : Route) → IsHeadTaken spans r old taken (Ok route) → taken.unread.items ≡ drop r.len old.unread.items → taken.server ≡ old.server → IsUndue new.stage ⊎ IsBodyDue route taken new
    → IsUndue new.stage ⊎ IsBodyBegun spans r old new
body_begun spans r old taken new route is cut served (inl u) = inl u
body_begun spans r old taken new route is cut served (inr due) = inr (
  route,
  due.0,
  record {
    verdict = λ h at. let of = is h at in of.0;
    query = λ h at. let of = is h at in due.3 ∙ of.1;
    key = λ h at. let of = is h at in due.4 ∙ of.2;
    unread = due.2 ∙ cut;
    reading = due.5 ∙ ap (λ (server : Server). server.reading) served;
    body = due.1;
  },
)

-- what a head leads to: nothing is due, or the body of a request that was let through. `read` is the client after its connection has read the head
pub head_taken : (old read new : Client) (spans : List HeaderSpan) (progress : Progress RequestSpans) (r : RequestSpans) → ReadsAt old.server.reading old.server old.unread.items spans read.server progress → progress.event ≡ Events.Head r
    → read.place ≡ old.place → read.unread ≡ old.unread → IsUndue new.stage ⊎ IsBodyBegun spans r read new → IsDueAfter old new new.stage
head_taken old read new spans progress r p e ep eu (inl u) = undue old new new.stage u
head_taken old read new spans progress r p e ep eu (inr (route, at, b)) =
    let t : TakesHead old.server old.unread.items spans read.server progress.consumed r = took old.server.reading old.server read.server old.unread.items spans progress r p e in
    let same : IsBegun old.place read.server old.unread.items spans r route new = rw (sym ep, sym eu) b in
    subst (λ (s : Stage). IsDueAfter old new s) (sym at) (inl (begun old new spans r read.server progress.consumed route t same))
