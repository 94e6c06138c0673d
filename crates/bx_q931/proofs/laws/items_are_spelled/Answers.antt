use Rattle.bx_q931.proofs.SpellingLemmas.{items_are, items_read}
use Rattle.bx_q931.proofs.laws.items_are_spelled.Goals as goal

pub returns : goal.returns
returns c = λ octets items. (items_are octets items, items_read octets items)
