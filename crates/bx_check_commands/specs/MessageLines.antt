-- The lines that tell what a message says.
use Rattle.std.specs.Prelude.{ℕ, Bool, true, false, List, [], ◌∷◌, ◌++◌, codes, decimal}
use Rattle.std.specs.List.{flat_map}
use Rattle.hex.specs.Hex.{encode_upper}
use Rattle.bx_q931.specs.Elements.{PlainElement, elements_of}
use Rattle.bx_q931.specs.Kinds.{octet_of, name_of}
use Rattle.bx_q931.specs.Messages.{PlainMessage}
use Rattle.bx_q931.specs.declared.kind.Kind.{Kind}
use Rattle.bx_q931.specs.declared.reference.Reference.{Reference}
use Rattle.bx_q931.specs.declared.reference.Reference.TheVariants.{Dummy, Value}

-- its type: the octet in hexadecimal, and the name
abbrev pub type_line : Kind → List ℕ
type_line kind = codes "type " ++ encode_upper (octet_of kind ∷ []) ++ codes " " ++ name_of kind ++ codes "\n"

abbrev pub flag_digit : Bool → List ℕ
flag_digit false = codes "0"
flag_digit true = codes "1"

-- its call reference: the value in decimal digits, and the flag
abbrev pub reference_line : Reference → List ℕ
reference_line Dummy = codes "reference dummy\n"
reference_line (Value value flag) = codes "reference " ++ decimal value ++ codes " flag " ++ flag_digit flag ++ codes "\n"

-- what an element contains, where there is anything
abbrev pub contents_field : List ℕ → List ℕ
contents_field [] = []
contents_field (octet ∷ octets) = codes " " ++ encode_upper (octet ∷ octets)

-- an element: its codeset, its identifier and its contents
abbrev pub element_line : PlainElement → List ℕ
element_line e = codes "element " ++ decimal e.codeset ++ codes " " ++ encode_upper (e.id ∷ []) ++ contents_field e.contents ++ codes "\n"

-- the message: its type, its reference, and its elements in order
abbrev pub message_lines : PlainMessage → List ℕ
message_lines m = type_line m.kind ++ reference_line m.reference ++ flat_map element_line (elements_of m.items)
