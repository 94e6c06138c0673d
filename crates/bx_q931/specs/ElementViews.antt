-- What the values of the code stand for, without where they lie in memory.
use Rattle.bx_q931.specs.Elements.{PlainElement}
use Rattle.bx_q931.specs.declared.elements.Element.{Element}

abbrev pub element_view : Element → PlainElement
element_view e = record { codeset = e.codeset; id = e.id; contents = e.contents.now }
