use Rattle.bx_words.proofs.Commands.{named_first}
use Rattle.bx_words.proofs.reading.found_request.Goals as goal

pub returns : goal.returns
returns c = named_first _ _ _ c.in-Some.ensures.value c.in-Some-name_of_word.ensures _ _ c.request_of.ensures
