use Rattle.std.proofs.Common.{rules, ◌≡◌, false, not, ◌&&◌, ◌==◌, Ok}
use Rattle.std.proofs.lemmas.Result.{err_from_is_err_and}
use Rattle.bx_frames.specs.Frames.{length_in, octets_in, fits, is_message, frame_of, sized_in, found}
use Rattle.bx_frames.proofs.ReadAnswers.{faulty}
use Rattle.bx_frames.proofs.Locality.{length_local}
use Rattle.bx_frames.proofs.ReadingSteps.{reads_then, reads_fault, reads_sized}
use Rattle.bx_frames.proofs.frame_reading.read_after_kind.Goals.{else-eq-via-then-eq+else-room-eq0, else-eq-via-else-eq}
use Rattle.bx_frames.proofs.frame_reading.read_after_kind.Goals as goal

pub returns-in_err-length-clause-read : goal.returns-in_err-length-clause-read
returns-in_err-length-clause-read g c =
    let p = err_from_is_err_and c.from_residual.result c.from_residual.ensures.1 in
    rw (p.1, p.2) (reads_fault g.R.Read.remaining length_in (sized_in c.args.kind c.args.room) c.args.r.now c.read_length.new.r c.in_err-length.field-0.0 c.in_err-length.ensures)

pub returns-in_err-octets-clause-read : goal.returns-in_err-octets-clause-read
returns-in_err-octets-clause-read g c =
    let p = err_from_is_err_and c.from_residual-in_err-octets.result c.from_residual-in_err-octets.ensures.1 in
    let kind = c.args.kind in
    let room = c.args.room in
    let n = c.in_ok-length.field-0 in
    let fault = c.in_err-octets.field-0.0 in
    let some_room : (is_message kind && (room == 0)) ≡ false = elim c.else-eq.branch [ else-eq-via-then-eq+else-room-eq0 w ↦ search rules | else-eq-via-else-eq w ↦ search rules ] in
    let fitting : not (fits kind n) ≡ false = search rules in
    rw (p.1, p.2)
    (reads_then g.R.Read.remaining length_in (sized_in kind room) c.args.r.now c.read_length.new.r c.read_octets.new.r n (faulty fault) length_local c.in_ok-length.ensures
    (reads_sized g.R.Read.remaining c.read_length.new.r c.read_octets.new.r kind room n (faulty fault) fitting some_room
    (reads_fault g.R.Read.remaining (octets_in n) (λ octets rest. found (Ok (frame_of kind octets)) rest) c.read_length.new.r c.read_octets.new.r fault c.in_err-octets.ensures.read)))
