-- What is decoded and written, and what each refusal says of the text and of what was written.
use Rattle.std.specs.Prelude.{◌≡◌, ℕ, true, List, Ok, Err}
use Rattle.std.specs.Io.KnownBytes.{Appends}
use Rattle.hex.specs.Hex.{decode_of}
use Rattle.hex.specs.declared.error.FromHexError.{FromHexError}
use Rattle.bx_q931.specs.Messages.{PlainMessage, message_at}
use Rattle.bx_check_commands.specs.declared.fault.CommandFault.{CommandFault}
use Rattle.bx_check_commands.specs.declared.fault.CommandFault.TheVariants.{CannotWrite, NotHex, Message, Memory}
use Rattle.bx_devices.specs.Devices.{Writing, KeepsOutput}
use Rattle.bx_devices.specs.Octets.{AppendsPrefix}
use Rattle.bx_check_commands.specs.MessageLines.{message_lines}

-- the text is the octets of this message in hexadecimal
abbrev pub IsHexMessage : List ℕ → PlainMessage → Type 0
IsHexMessage text m = (octets : List ℕ) × (decode_of text ≡ Ok octets) × (message_at octets ≡ Ok m)

-- the lines of the message that the text has were written
pub record IsDecoded (text : List ℕ) (output : Writing) : Type 0 where
  pub message : PlainMessage
  pub text_of : IsHexMessage text message
  pub written : Appends output.before output.after (message_lines message)

-- a prefix of these lines was written
pub record IsCutDecoded (text : List ℕ) (output : Writing) : Type 0 where
  pub message : PlainMessage
  pub text_of : IsHexMessage text message
  pub written : AppendsPrefix output.before output.after (message_lines message)

-- a refusal: the text is no hexadecimal, its octets are no message, the output failed, or memory ran out
abbrev pub IsDecodeRefusal : List ℕ → Writing → CommandFault → Type 0
IsDecodeRefusal text output NotHex = ((e : FromHexError) × (decode_of text ≡ Err e)) × KeepsOutput output
IsDecodeRefusal text output (Message fault) = ((octets : List ℕ) × (decode_of text ≡ Ok octets) × (message_at octets ≡ Err fault)) × KeepsOutput output
IsDecodeRefusal text output CannotWrite = (output.is_faulted ≡ true) × IsCutDecoded text output
IsDecodeRefusal text output Memory = KeepsOutput output
IsDecodeRefusal text output _ = ⊥
