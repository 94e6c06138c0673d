-- Private: what its functions promise one another.
use Rattle.std.specs.Prelude.{◌≡◌, ℕ, Bool, List, [], ◌∷◌, Option, Some, decimal, if◌then◌else◌, IfSome}
use Rattle.csv.specs.Reading.{source_of}
use Rattle.csv.specs.declared.reader.Reader.{Reader}
use Rattle.bx_text.specs.Forms.{Form}
use Rattle.bx_text.specs.Rows.{IsPrefixRead}
use Rattle.bx_text.specs.Records.{IsReading}

-- the reader stands after a header and records that are these rows
abbrev pub PrefixRead : {R Row Fault : Type 0} → Form Row Fault → (R → Option (List ℕ)) → Reader R → List ℕ → ℕ → List Row → Type 0
PrefixRead form rem reader text columns rows = (rest : List ℕ) × (source_of rem reader ≡ Some rest) × IsPrefixRead form text columns rows reader.state rest

-- a header was read: where the text is known that was left before, the reader stands after its header
abbrev pub IsHeaderRead : {R Row Fault : Type 0} → Form Row Fault → (R → Option (List ℕ)) → Reader R → Reader R → ℕ → Type 0
IsHeaderRead form rem old new columns =
    IsReading new
    × IfSome (source_of rem old) (λ text. PrefixRead form rem new text columns [])

-- this holds of each text whose header was just read
abbrev pub AfterHeader : {R Row Fault : Type 0} → Form Row Fault → (R → Option (List ℕ)) → Reader R → ℕ → (List ℕ → Type 0) → Type 0
AfterHeader form rem reader columns Holds =
    (text : List ℕ) → PrefixRead form rem reader text columns [] → Holds text

-- what a line of channels has for a number, in the set or not
abbrev pub member_text : Bool → ℕ → List ℕ
member_text is_member number = if is_member then 32 ∷ decimal number else []
