-- Answers of reads.
use Rattle.std.proofs.Common.{◌≤◌, arith, Result, Ok, Err, ◌⊎◌, inl, inr}
use Rattle.bx_devices.specs.declared.watched.Watched.{Watched}
use Rattle.bx_devices.specs.Watching.{reads_of}
use Rattle.bx_frames.specs.Reading.{FailsToRead}
use Rattle.bx_frames.specs.declared.fault.LinkFault.{LinkFault}

-- an answer, as what it may be
abbrev pub gave : {A : Type 0} → A → Result A LinkFault
gave x = Ok x

abbrev pub faulty : {A : Type 0} → LinkFault → Result A LinkFault
faulty fault = Err fault

-- a read that failed after others
pub fails_after : {R : Type 0} (a b c : Watched R) → reads_of a ≤ reads_of b → FailsToRead b c → FailsToRead a c
fails_after a b c le p = record { faulted = p.faulted; passed_on = omega (arith, le, p.passed_on) }

pub either_first : {P Q S : Type 0} → (P → S) → P ⊎ Q → S ⊎ Q
either_first f (inl p) = inl (f p)
either_first f (inr q) = inr q
