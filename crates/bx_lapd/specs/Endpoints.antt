-- What octets that come do to a link.
use Rattle.std.specs.Prelude.{ℕ, Bool, List, [], Result, Ok, Err}
use Rattle.bx_lapd.specs.declared.frame.Frame.{Frame}
use Rattle.bx_lapd.specs.declared.refusal.Refusal.{Refusal}
use Rattle.bx_lapd.specs.declared.refusal.Refusal.TheVariants.{Dropped, Faulty}
use Rattle.bx_lapd.specs.Links.{Link, LinkStep, does}
use Rattle.bx_lapd.specs.Table.{hear, hear_fault}
use Rattle.bx_lapd.specs.Codec.{read_octets}

-- an end of a D channel, the network's or the user's, with so many frames that were dropped as invalid
pub record PlainEndpoint : Type 0 where
  pub network : Bool
  pub link : Link
  pub dropped : ℕ

-- an invalid frame is dropped (2.9), and one that may not stand so is a frame rejection condition (5.8.5)
abbrev pub hear_read : Result Frame Refusal → Link → ℕ → LinkStep
hear_read (Ok f) l now = hear l f now
hear_read (Err (Faulty code)) l now = hear_fault l code now
hear_read (Err (Dropped why)) l now = does l [] []

abbrev pub hear_octets : Bool → Link → List ℕ → ℕ → LinkStep
hear_octets network l octets now = hear_read (read_octets network octets) l now

abbrev pub is_dropped : Result Frame Refusal → ℕ
is_dropped (Err (Dropped why)) = 1
is_dropped _ = 0
