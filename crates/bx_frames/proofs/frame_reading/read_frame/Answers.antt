use Rattle.std.proofs.Common.{rules, ◌≡◌, Option, Some, subst}
use Rattle.std.proofs.lemmas.Result.{err_from_is_err_and}
use Rattle.bx_frames.specs.Frames.{octet_in, frame_kind_of, kind_in}
use Rattle.bx_frames.specs.Reading.{Reads}
use Rattle.bx_frames.specs.declared.frame.FrameKind.{FrameKind}
use Rattle.bx_frames.proofs.Locality.{octet_local}
use Rattle.bx_frames.proofs.ReadingSteps.{reads_then, reads_fault}
use Rattle.bx_frames.proofs.frame_reading.read_frame.Goals as goal

pub returns-in_err-octet-clause-read : goal.returns-in_err-octet-clause-read
returns-in_err-octet-clause-read g c =
    let p = err_from_is_err_and c.from_residual.result c.from_residual.ensures.1 in
    rw (p.1, p.2) (reads_fault g.R.Read.remaining octet_in (λ octet rest. kind_in (frame_kind_of c.args.receiver octet) c.args.room rest) c.args.r.now c.read_octet.new.r c.in_err-octet.field-0.0 c.in_err-octet.ensures)

pub returns-in-Some-clause-read : goal.returns-in-Some-clause-read
returns-in-Some-clause-read g c =
    let receiver = c.args.receiver in
    let room = c.args.room in
    let known : Some c.in-Some.kind ≡ frame_kind_of receiver c.in_ok-octet.octet = search rules in
    reads_then g.R.Read.remaining octet_in (λ octet rest. kind_in (frame_kind_of receiver octet) room rest) c.args.r.now c.read_octet.new.r c.read_after_kind.new.r c.in_ok-octet.octet c.read_after_kind.result octet_local c.in_ok-octet.ensures
    (subst (λ (kind : Option FrameKind). Reads g.R.Read.remaining c.read_octet.new.r c.read_after_kind.new.r c.read_after_kind.result (λ rest. kind_in kind room rest)) known c.read_after_kind.ensures.read)
