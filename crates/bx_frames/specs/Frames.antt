-- Frames, and what is found of them in octets: a kind octet, the length of the contents in two octets, the high
-- one first, and the contents.
use Rattle.std.specs.Prelude.{ℕ, ◌==◌, ◌&&◌, nat_le, nat_lt, not, Bool, true, false, List, [], ◌∷◌, ◌++◌, length, take, drop, if◌then◌else◌, Option, Some, None, Result, Ok, Err}
use Rattle.std.specs.List.{flat_map}
use Rattle.std.specs.Int.{w16, w32, to_be_bytes, from_be_bytes}
use Rattle.arrayvec.specs.ArrayVec.{ArrayVec}
use Rattle.bx_q931.specs.declared.reading.TheConstants.{MAX_MESSAGE}
use Rattle.bx_frames.specs.declared.fault.LinkFault.{LinkFault}
use Rattle.bx_frames.specs.declared.fault.LinkFault.TheVariants.{EndedInFrame, BadLength, UnknownKind, MoreThan64Messages}
use Rattle.bx_frames.specs.declared.frame.Receiver.{Receiver}
use Rattle.bx_frames.specs.declared.frame.Receiver.TheVariants.{Exchange, FarEnd}
use Rattle.bx_frames.specs.declared.frame.FrameKind.{FrameKind}
use Rattle.bx_frames.specs.declared.frame.FrameKind.TheVariants as kinds
use Rattle.bx_frames.specs.declared.frame.Frame.{Frame}
use Rattle.bx_frames.specs.declared.frame.Frame.TheVariants as frames

-- ---- frames as they are written

abbrev pub message_frame : List ℕ → List ℕ
message_frame octets = 1 ∷ (to_be_bytes w16 (length octets) ++ octets)

abbrev pub frame_with : ArrayVec ℕ → List ℕ
frame_with message = message_frame message.items

-- those of messages, in their order
abbrev pub frames_of : List (ArrayVec ℕ) → List ℕ
frames_of messages = flat_map frame_with messages

abbrev pub turn_frame : ℕ → List ℕ
turn_frame moment = 2 ∷ 0 ∷ 4 ∷ to_be_bytes w32 moment

abbrev pub day_frame : List ℕ
day_frame = 3 ∷ 0 ∷ 0 ∷ []

-- ---- what is found at the start of octets

-- what is found, or the first fault, and the octets that are left after what was looked at
pub record Found (A : Type 0) : Type 0 where
  pub answer : Result A LinkFault
  pub rest : List ℕ

abbrev pub found : {A : Type 0} → Result A LinkFault → List ℕ → Found A
found answer rest = record { answer = answer; rest = rest }

abbrev pub continue_by : {A B : Type 0} → Result A LinkFault → List ℕ → (A → List ℕ → Found B) → Found B
continue_by (Ok x) rest next = next x rest
continue_by (Err fault) rest next = found (Err fault) rest

-- what is found next, after what was found
abbrev pub and_then : {A B : Type 0} → Found A → (A → List ℕ → Found B) → Found B
and_then first next = continue_by first.answer first.rest next

abbrev pub octet_in : List ℕ → Found ℕ
octet_in [] = found (Err EndedInFrame) []
octet_in (octet ∷ rest) = found (Ok octet) rest

abbrev pub octets_in : ℕ → List ℕ → Found (ArrayVec ℕ)
octets_in n text = if nat_lt (length text) n then found (Err EndedInFrame) [] else found (Ok (record { items = take n text })) (drop n text)

-- the kinds that each receiver is sent
abbrev pub is_far : Receiver → Bool
is_far Exchange = false
is_far FarEnd = true

abbrev pub frame_kind_of : Receiver → ℕ → Option FrameKind
frame_kind_of receiver octet = if octet == 1 then Some kinds.Message else if octet == 2 then Some kinds.EndOfTurn else if (octet == 3) && is_far receiver then Some kinds.EndOfDay else None

-- how many octets the contents have
abbrev pub fits : FrameKind → ℕ → Bool
fits kinds.Message n = nat_le n MAX_MESSAGE
fits kinds.EndOfTurn n = n == 4
fits kinds.EndOfDay n = n == 0

abbrev pub is_message : FrameKind → Bool
is_message kinds.Message = true
is_message _ = false

abbrev pub frame_of : FrameKind → ArrayVec ℕ → Frame
frame_of kinds.Message octets = frames.Message octets
frame_of kinds.EndOfTurn octets = frames.EndOfTurn (from_be_bytes w32 octets.items)
frame_of kinds.EndOfDay octets = frames.EndOfDay

abbrev pub contents_in : FrameKind → ℕ → List ℕ → Found Frame
contents_in kind n text = and_then (octets_in n text) (λ octets rest. found (Ok (frame_of kind octets)) rest)

-- after the length n; so many messages may still come in this turn
abbrev pub sized_in : FrameKind → ℕ → ℕ → List ℕ → Found Frame
sized_in kind room n text =
    if not (fits kind n) then found (Err BadLength) text
    else if is_message kind && (room == 0) then found (Err MoreThan64Messages) text
    else contents_in kind n text

abbrev pub length_in : List ℕ → Found ℕ
length_in text = and_then (octet_in text) (λ high more. and_then (octet_in more) (λ low rest. found (Ok (from_be_bytes w16 (high ∷ low ∷ []))) rest))

-- after the kind
abbrev pub kind_in : Option FrameKind → ℕ → List ℕ → Found Frame
kind_in None room text = found (Err UnknownKind) text
kind_in (Some kind) room text = and_then (length_in text) (sized_in kind room)

-- the next frame, of which this receiver is the reader
abbrev pub frame_in : Receiver → ℕ → List ℕ → Found Frame
frame_in receiver room text = and_then (octet_in text) (λ octet rest. kind_in (frame_kind_of receiver octet) room rest)
