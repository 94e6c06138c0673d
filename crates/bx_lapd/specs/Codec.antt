-- Octets of frames (ITU-T Q.921, 2.2 to 2.9 and 3.2 to 3.6), as an HDLC device gives and takes them: address, control, information, and
-- the frame check sequence.
use Rattle.std.specs.Prelude.{ℕ, zero, suc, ◌+◌, ◌-◌, ◌*◌, ◌/◌, ◌%◌, ◌==◌, nat_lt, ◌||◌, not, bit_and, bit_xor, Bool, true, false, List, [], ◌∷◌, ◌++◌, length, take, drop, get_or, Option, Some, None, Result, Ok, Err, if◌then◌else◌}
use Rattle.bx_q931.specs.declared.reading.TheConstants.{MAX_MESSAGE}
use Rattle.bx_lapd.specs.declared.words.Supervisory.{Supervisory}
use Rattle.bx_lapd.specs.declared.words.Supervisory.TheVariants.{ReceiveReady, ReceiveNotReady, Reject}
use Rattle.bx_lapd.specs.declared.words.Unnumbered.{Unnumbered}
use Rattle.bx_lapd.specs.declared.words.Unnumbered.TheVariants as u
use Rattle.bx_lapd.specs.declared.words.ErrorCode.{ErrorCode}
use Rattle.bx_lapd.specs.declared.words.ErrorCode.TheVariants as error
use Rattle.bx_lapd.specs.declared.frame.Frame.{Frame}
use Rattle.bx_lapd.specs.declared.frame.Frame.TheVariants.{Information, Numbered, Plain}
use Rattle.bx_lapd.specs.declared.refusal.Invalid.TheVariants.{Short, Check, Address, OtherLink}
use Rattle.bx_lapd.specs.declared.refusal.Refusal.{Refusal}
use Rattle.bx_lapd.specs.declared.refusal.Refusal.TheVariants.{Dropped, Faulty}

-- ---- the frame check sequence (2.7): the remainder by x^16 + x^12 + x^5 + 1, lowest bit first, from all ones, complemented

abbrev pub fcs_bit : ℕ → ℕ
fcs_bit rest = if (rest % 2) == 1 then bit_xor (rest / 2) 0x8408 else rest / 2

unfoldable pub fcs_bits : ℕ → ℕ → ℕ
fcs_bits zero rest = rest
fcs_bits (suc n) rest = fcs_bits n (fcs_bit rest)

abbrev pub fcs_rest : ℕ → List ℕ → ℕ
fcs_rest rest [] = rest
fcs_rest rest (octet ∷ octets) = fcs_rest (fcs_bits 8 (bit_xor rest octet)) octets

abbrev pub fcs : List ℕ → ℕ
fcs octets = 65535 - fcs_rest 65535 octets

-- the low octet first
abbrev pub with_fcs : List ℕ → List ℕ
with_fcs octets = octets ++ (fcs octets % 256) ∷ (fcs octets / 256) ∷ []

-- ---- frames as they are written

abbrev pub bit_of : Bool → ℕ
bit_of true = 1
bit_of false = 0

-- a command of the network and a response of the user have C/R = 1 (3.3.2); SAPI 0, TEI 0
abbrev pub address : Bool → Bool → List ℕ
address true true = 2 ∷ 1 ∷ []
address true false = 0 ∷ 1 ∷ []
address false true = 0 ∷ 1 ∷ []
address false false = 2 ∷ 1 ∷ []

abbrev pub supervisory_octet : Supervisory → ℕ
supervisory_octet ReceiveReady = 1
supervisory_octet ReceiveNotReady = 5
supervisory_octet Reject = 9

-- with P or F = 0
abbrev pub unnumbered_octet : Unnumbered → ℕ
unnumbered_octet u.Sabme = 0x6F
unnumbered_octet u.Dm = 0x0F
unnumbered_octet u.Ui = 0x03
unnumbered_octet u.Disc = 0x43
unnumbered_octet u.Ua = 0x63
unnumbered_octet u.Frmr = 0x87
unnumbered_octet u.Xid = 0xAF

-- whether it is sent as a command
abbrev pub is_command : Unnumbered → Bool
is_command u.Sabme = true
is_command u.Disc = true
is_command u.Ui = true
is_command u.Xid = true
is_command _ = false

abbrev pub frame_octets : Bool → Frame → List ℕ
frame_octets network (Information poll ns nr m) = address network true ++ (2 * (ns % 128)) ∷ (2 * (nr % 128) + bit_of poll) ∷ m.items
frame_octets network (Numbered kind command poll nr) = address network command ++ supervisory_octet kind ∷ (2 * (nr % 128) + bit_of poll) ∷ []
frame_octets network (Plain kind poll) = address network (is_command kind) ++ (unnumbered_octet kind + 16 * bit_of poll) ∷ []

abbrev pub sent_octets : Bool → Frame → List ℕ
sent_octets network f = with_fcs (frame_octets network f)

-- ---- frames as they are read

abbrev pub supervisory_of : ℕ → Option Supervisory
supervisory_of octet =
    if octet == 1 then Some ReceiveReady
    else if octet == 5 then Some ReceiveNotReady
    else if octet == 9 then Some Reject
    else None

abbrev pub unnumbered_of : ℕ → Option Unnumbered
unnumbered_of octet =
    if octet == 0x6F then Some u.Sabme
    else if octet == 0x0F then Some u.Dm
    else if octet == 0x03 then Some u.Ui
    else if octet == 0x43 then Some u.Disc
    else if octet == 0x63 then Some u.Ua
    else if octet == 0x87 then Some u.Frmr
    else if octet == 0xAF then Some u.Xid
    else None

-- XID may come as either
abbrev pub may_be : Unnumbered → Bool → Bool
may_be u.Sabme command = command
may_be u.Disc command = command
may_be u.Ui command = command
may_be u.Xid command = true
may_be _ command = not command

-- what an information field of so many octets is refused for
abbrev pub fault_of_length : Unnumbered → ℕ → Option ErrorCode
fault_of_length u.Ui n = if nat_lt MAX_MESSAGE n then Some error.TooLong else None
fault_of_length u.Xid n = if nat_lt MAX_MESSAGE n then Some error.TooLong else None
fault_of_length u.Frmr n = if n == 5 then None else Some error.WrongSize
fault_of_length _ n = if n == 0 then None else Some error.UnexpectedInformation

abbrev pub judged : Option ErrorCode → Frame → Result Frame Refusal
judged None f = Ok f
judged (Some code) f = Err (Faulty code)

abbrev pub read_kind : Option Unnumbered → Bool → Bool → ℕ → Result Frame Refusal
read_kind None command poll n = Err (Faulty error.UnknownControl)
read_kind (Some kind) command poll n = if may_be kind command then judged (fault_of_length kind n) (Plain kind poll) else Err (Faulty error.UnknownControl)

abbrev pub read_information : Bool → Bool → ℕ → ℕ → List ℕ → Result Frame Refusal
read_information command poll ns nr info =
    if not command then Err (Faulty error.UnknownControl)
    else if nat_lt MAX_MESSAGE (length info) then Err (Faulty error.TooLong)
    else Ok (Information poll ns nr (record { items = info }))

abbrev pub read_supervisory : Option Supervisory → Bool → Bool → ℕ → ℕ → Result Frame Refusal
read_supervisory None command poll nr n = Err (Faulty error.UnknownControl)
read_supervisory (Some kind) command poll nr n = if n == 0 then Ok (Numbered kind command poll nr) else Err (Faulty error.UnexpectedInformation)

-- after the address: the control octet, and the others
abbrev pub read_sequenced : Bool → ℕ → List ℕ → Result Frame Refusal
read_sequenced command control [] = Err (Dropped Short)
read_sequenced command control (second ∷ info) =
    if (control % 2) == 0 then read_information command ((second % 2) == 1) (control / 2) (second / 2) info
    else read_supervisory (supervisory_of control) command ((second % 2) == 1) (second / 2) (length info)

abbrev pub read_control : Bool → ℕ → List ℕ → Result Frame Refusal
read_control command control rest =
    if (control % 4) == 3 then read_kind (unnumbered_of (bit_and control 0xEF)) command ((control / 16 % 2) == 1) (length rest)
    else read_sequenced command control rest

abbrev pub read_body : Bool → List ℕ → Result Frame Refusal
read_body network (first ∷ second ∷ control ∷ rest) =
    if ((first % 2) == 1) || ((second % 2) == 0) then Err (Dropped Address)
    else if not ((first / 4) == 0) || not ((second / 2) == 0) then Err (Dropped OtherLink)
    else read_control (not (if first == 2 then network else not network)) control rest
read_body network _ = Err (Dropped Short)

-- the last two octets are the check sequence of those before
abbrev pub is_checked : List ℕ → List ℕ → Bool
is_checked body check = (get_or check 0 0 + 256 * get_or check 1 0) == fcs body

abbrev pub read_octets : Bool → List ℕ → Result Frame Refusal
read_octets network octets =
    if nat_lt (length octets) 5 then Err (Dropped Short)
    else if is_checked (take (length octets - 2) octets) (drop (length octets - 2) octets) then read_body network (take (length octets - 2) octets)
    else Err (Dropped Check)
