-- RESTART and its answer (ITU-T Q.931, 5.5; 3.4.1, 3.4.2; 4.5.25). Both have the global reference alone, so no call table knows them.
use Rattle.std.specs.Prelude.{ℕ, ◌==◌, ◌&&◌, ◌%◌, nat_le, not, Bool, true, false, List, [], ◌∷◌, ◌++◌, length, if◌then◌else◌, Option, Some, None, is_some, Result, Ok, Err}
use Rattle.std.specs.List.{flat_map}
use Rattle.bx_q931.specs.Items.{item_octets}
use Rattle.bx_q931.specs.Kinds.{octet_of}
use Rattle.bx_q931.specs.Messages.{PlainMessage, message_at}
use Rattle.bx_q931.specs.Values.{first_of, if_there}
use Rattle.bx_q931.specs.Outgoing.{header_octets}
use Rattle.bx_q931.specs.declared.fault.MessageFault.{MessageFault}
use Rattle.bx_q931.specs.declared.kind.Kind.TheVariants.{Other}
use Rattle.bx_q931.specs.declared.reading.TheConstants.{MAX_MESSAGE}
use Rattle.bx_q931.specs.declared.reference.Reference.{Reference}
use Rattle.bx_q931.specs.declared.reference.Reference.TheVariants.{Dummy, Value}
use Rattle.bx_q931.specs.declared.restart.Restart.{Restart}
use Rattle.bx_q931.specs.declared.restart.Restart.TheVariants.{IndicatedChannels, SingleInterface, AllInterfaces}

-- the class of a restart indicator: bits 3 to 1 of its octet 3 (4.5.25)
abbrev pub restart_class : ℕ → Option Restart
restart_class class = if class == 0 then Some IndicatedChannels else if class == 6 then Some SingleInterface else if class == 7 then Some AllInterfaces else None

abbrev pub class_in : List ℕ → Option Restart
class_in [] = None
class_in (o ∷ os) = restart_class (o % 8)

-- channels are indicated by a channel identification
abbrev pub if_indicated : Bool → Option Restart → Option Restart
if_indicated there (Some IndicatedChannels) = if there then Some IndicatedChannels else None
if_indicated there class = class

-- the global reference, from the end that restarts
abbrev pub is_global : Reference → Bool
is_global Dummy = false
is_global (Value value flag) = (value == 0) && not flag

-- what a message restarts, if it is a RESTART, by whether it has that reference
abbrev pub restart_where : Bool → PlainMessage → Option Restart
restart_where global m = if global && (octet_of m.kind == 0x46) then if_indicated (is_some (first_of 0x18 m)) (if_there class_in (first_of 0x79 m)) else None

abbrev pub restart_of : PlainMessage → Option Restart
restart_of m = restart_where (is_global m.reference) m

abbrev pub restart_read : Result PlainMessage MessageFault → Option Restart
restart_read (Err fault) = None
restart_read (Ok m) = restart_of m

-- what octets restart
abbrev pub restart_at : List ℕ → Option Restart
restart_at octets = restart_read (message_at octets)

-- a whole interface, or all: the end that restarts them has no call any more
abbrev pub is_of_interface : Option Restart → Bool
is_of_interface (Some SingleInterface) = true
is_of_interface (Some AllInterfaces) = true
is_of_interface _ = false

abbrev pub restarts_interface : List ℕ → Bool
restarts_interface octets = is_of_interface (restart_at octets)

-- RESTART ACKNOWLEDGE with the elements of the RESTART
abbrev pub acknowledgement_octets : PlainMessage → List ℕ
acknowledgement_octets m = header_octets 0 true (Other 0x4E) ++ flat_map item_octets m.items

-- where it has room
abbrev pub restart_answered : Bool → PlainMessage → Option (List ℕ)
restart_answered global m = if is_some (restart_where global m) && nat_le (length (acknowledgement_octets m)) MAX_MESSAGE then Some (acknowledgement_octets m) else None

abbrev pub acknowledgement_of : PlainMessage → Option (List ℕ)
acknowledgement_of m = restart_answered (is_global m.reference) m

abbrev pub acknowledgement_read : Result PlainMessage MessageFault → Option (List ℕ)
acknowledgement_read (Err fault) = None
acknowledgement_read (Ok m) = acknowledgement_of m

-- what is answered to octets that are a RESTART
abbrev pub acknowledgement_at : List ℕ → Option (List ℕ)
acknowledgement_at octets = acknowledgement_read (message_at octets)
