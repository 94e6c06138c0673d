use Rattle.std.proofs.Common.{[], ◌∷◌, Ok}
use Rattle.std.proofs.lemmas.Result.{err_from_is_err_and}
use Rattle.std.specs.Int.{w16, from_be_bytes}
use Rattle.bx_frames.specs.Frames.{octet_in, and_then, found}
use Rattle.bx_frames.proofs.ReadAnswers.{faulty}
use Rattle.bx_frames.proofs.Locality.{octet_local}
use Rattle.bx_frames.proofs.ReadingSteps.{reads_then, reads_fault}
use Rattle.bx_frames.proofs.frame_reading.read_length.Goals as goal

pub returns-in_err-high : goal.returns-in_err-high
returns-in_err-high g c =
    let p = err_from_is_err_and c.from_residual.result c.from_residual.ensures.1 in
    rw (p.1, p.2)
    (reads_fault g.R.Read.remaining octet_in (λ high more. and_then (octet_in more) (λ low rest. found (Ok (from_be_bytes w16 (high ∷ low ∷ []))) rest)) c.args.r.now c.read_octet.new.r c.in_err-high.field-0.0 c.in_err-high.ensures)

pub returns-in_err-low : goal.returns-in_err-low
returns-in_err-low g c =
    let p = err_from_is_err_and c.from_residual-in_err-low.result c.from_residual-in_err-low.ensures.1 in
    let high = c.in_ok-high.high in
    let fault = c.in_err-low.field-0.0 in
    rw (p.1, p.2)
    (reads_then g.R.Read.remaining octet_in (λ high more. and_then (octet_in more) (λ low rest. found (Ok (from_be_bytes w16 (high ∷ low ∷ []))) rest)) c.args.r.now c.read_octet.new.r c.read_octet-2.new.r high (faulty fault) octet_local c.in_ok-high.ensures
    (reads_fault g.R.Read.remaining octet_in (λ low rest. found (Ok (from_be_bytes w16 (high ∷ low ∷ []))) rest) c.read_octet.new.r c.read_octet-2.new.r fault c.in_err-low.ensures))
