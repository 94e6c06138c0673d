-- What an end writes, the other end reads as it was meant.
use Rattle.std.specs.Prelude.{◌≡◌, ◌≢◌, not, Bool, Ok}
use Rattle.bx_lapd.specs.declared.words.Unnumbered.TheVariants.{Frmr}
use Rattle.bx_lapd.specs.declared.frame.Frame.{Frame}
use Rattle.bx_lapd.specs.declared.frame.Frame.TheVariants.{Plain}
use Rattle.bx_lapd.specs.Bounds.{IsFrame}
use Rattle.bx_lapd.specs.Codec.{sent_octets, read_octets}

-- FRMR is never sent, and would have an information field
abbrev pub IsSendable : Frame → Type 0
IsSendable (Plain kind poll) = kind ≢ Frmr
IsSendable _ = Unit {0}

abbrev pub ReadsBack : Type 0
ReadsBack = (network : Bool) (f : Frame) → IsFrame f → IsSendable f → read_octets (not network) (sent_octets network f) ≡ Ok f
