-- What a day of either end becomes and sends.
use Rattle.std.specs.Prelude.{ℕ, List, [], ◌∷◌, map, Option, Some, None}
use Rattle.std.specs.List.{flat_map}
use Rattle.arrayvec.specs.ArrayVec.{ArrayVec}
use Rattle.bx_q931.specs.Outgoing.{Outgoing, out_octets}
use Rattle.bx_calls.specs.Shared.{cons_some}

-- a day after a second, and what was sent
pub record Sent (D : Type 0) : Type 0 where
  pub day : D
  pub sent : List Outgoing

-- a day after a message, and what is sent for it, if anything
pub record Answered (D : Type 0) : Type 0 where
  pub day : D
  pub reply : Option Outgoing

abbrev pub unchanged : {D : Type 0} → D → Option Outgoing → Answered D
unchanged d reply = record { day = d; reply = reply }

-- what is said, of a list that has for each channel what is said on it, if anything: in rising order of channel
abbrev pub in_order : List (Option Outgoing) → List Outgoing
in_order said = flat_map (λ o. cons_some o []) said

abbrev pub reply_list : Option Outgoing → List Outgoing
reply_list None = []
reply_list (Some o) = o ∷ []

-- the octets of each message, in their order
abbrev pub spelled : List Outgoing → List (ArrayVec ℕ)
spelled messages = map (λ o. record { items = out_octets o }) messages
