-- What an end hears in a message that has a call reference.
use Rattle.std.specs.Prelude.{ℕ, Bool, Option}
use Rattle.bx_q931.specs.Messages.{PlainMessage}
use Rattle.bx_events.specs.declared.rules.Rules.{Rules}
use Rattle.bx_events.specs.declared.rules.Rules.TheVariants.{Three}
use Rattle.bx_calls.specs.Hearing.{Heard, heard_under}
use Rattle.bx_calls.specs.Setups.{bearer_fault}

-- the value of its reference, its flag, what a call hears in it, and the cause with which a SETUP of this
-- bearer capability is refused, if any
pub record Said : Type 0 where
  pub reference : ℕ
  pub flag : Bool
  pub heard : Heard
  pub refused : Option ℕ

abbrev pub said_under : Rules → ℕ → Bool → PlainMessage → Said
said_under rules reference flag m = record { reference = reference; flag = flag; heard = heard_under rules m; refused = bearer_fault m }

abbrev pub said_of : ℕ → Bool → PlainMessage → Said
said_of reference flag m = said_under Three reference flag m
