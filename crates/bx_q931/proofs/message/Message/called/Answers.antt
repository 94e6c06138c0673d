use Rattle.std.proofs.Common.{◌∙◌, sym, ap}
use Rattle.bx_q931.specs.Values.{called_in, if_there}
use Rattle.bx_q931.proofs.ValueLemmas.{number_if}
use Rattle.bx_q931.proofs.message.Message.called.Goals as goal

pub returns : goal.returns
returns c =
    number_if _ c.new.result c.new.ensures.exactly c.new.ensures.value
    ∙ (ap called_in (sym c.in_ok-digits.ensures.cases.0)
    ∙ ap (if_there called_in) c.in_ok-first.ensures)
