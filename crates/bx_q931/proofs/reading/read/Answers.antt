use Rattle.std.proofs.Common.{◌∙◌, sym}
use Rattle.bx_q931.proofs.GrammarLemmas.{read_is_message, message_is_read, fault_is_first, first_fault_is_read}
use Rattle.bx_q931.proofs.reading.read.Goals as goal

pub returns-clause-message : goal.returns-clause-message
returns-clause-message c = λ m. (
  λ e. read_is_message c.args.octets.now m (sym c.message.ensures ∙ e),
  λ h. c.message.ensures ∙ message_is_read c.args.octets.now m h,
)

pub returns-clause-fault : goal.returns-clause-fault
returns-clause-fault c = λ e. (
  λ q. fault_is_first c.args.octets.now e (sym c.message.ensures ∙ q),
  λ h. c.message.ensures ∙ first_fault_is_read c.args.octets.now e h,
)
