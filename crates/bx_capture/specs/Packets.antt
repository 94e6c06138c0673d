-- Capture files: octets in the classic pcap form, all numbers with the high octet first.
use Rattle.std.specs.Prelude.{ℕ, ◌+◌, List, [], ◌∷◌, ◌++◌, length}
use Rattle.std.specs.Int.{w32, to_be_bytes}
use Rattle.bx_capture.specs.declared.packet.Direction.{Direction}
use Rattle.bx_capture.specs.declared.packet.Direction.TheVariants.{Sent, Received}

-- the header of a file: the form's mark A1B2C3D4, its version 2.4, time stamps in UTC whose accuracy is not told, packets of at
-- most 65,535 octets, and link type 252: exported PDUs
abbrev pub file_header : List ℕ
file_header =
    161 ∷ 178 ∷ 195 ∷ 212 ∷ 0 ∷ 2 ∷ 0 ∷ 4 ∷ 0 ∷ 0 ∷ 0 ∷ 0 ∷ 0 ∷ 0 ∷ 0 ∷ 0 ∷ 0 ∷ 0 ∷ 255 ∷ 255 ∷ 0 ∷ 0 ∷ 0 ∷ 252 ∷ []

-- the number of a direction, as it is seen from the end that keeps the capture
abbrev pub direction_number : Direction → ℕ
direction_number Sent = 0
direction_number Received = 1

-- what an exported PDU says of itself, in tags of a number, a length and a value: tag 12, who reads it, is q931; tag 35 is its
-- direction; and tag 0 is the last
abbrev pub tags : Direction → List ℕ
tags direction =
    0 ∷ 12 ∷ 0 ∷ 4 ∷ 113 ∷ 57 ∷ 51 ∷ 49 ∷ 0 ∷ 35 ∷ 0 ∷ 4 ∷ 0 ∷ 0 ∷ 0 ∷ direction_number direction ∷ 0 ∷ 0 ∷ 0 ∷ 0 ∷ []

-- the packet of a message at a second: the second, no microseconds, twice how many octets follow, the tags, and the message
abbrev pub packet : ℕ → Direction → List ℕ → List ℕ
packet second direction message =
    to_be_bytes w32 second ++ (0 ∷ 0 ∷ 0 ∷ 0 ∷ (to_be_bytes w32 (length message + 20) ++ (to_be_bytes w32 (length message + 20) ++ (tags direction ++ message))))
