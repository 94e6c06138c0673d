-- The rows of a text under its header, and its first fault.
use Rattle.std.specs.Prelude.{◌≡◌, ◌⊎◌, ⊤, ◌≤◌, ℕ, ◌+◌, List, [], ◌∷◌, ◌++◌, length, Some, None}
use Rattle.csv.specs.Machine.{next_record}
use Rattle.csv.specs.Reading.{Reached, default_config}
use Rattle.csv.specs.declared.parser.State.{State}
use Rattle.csv.specs.declared.parser.State.TheVariants as st
use Rattle.bx_base.specs.declared.bookings.TheConstants.{MAX_BOOKINGS}
use Rattle.bx_text.specs.Forms.{Form}
use Rattle.bx_text.specs.declared.rows_fault.RowsFault.{RowsFault}
use Rattle.bx_text.specs.declared.rows_fault.RowsFault.TheVariants as f

-- these records are those of these rows, one by one
abbrev pub AreRows : {Row : Type 0} → (List (List ℕ) → Row → Type 0) → List (List (List ℕ)) → List Row → Type 0
AreRows IsRow [] [] = ⊤
AreRows IsRow [] (row ∷ rows) = ⊥
AreRows IsRow (fields ∷ records) [] = ⊥
AreRows IsRow (fields ∷ records) (row ∷ rows) = IsRow fields row × AreRows IsRow records rows

-- a text begins with a header and with records that are these rows, which lead to here
pub record IsPrefixRead {Row Fault : Type 0} (form : Form Row Fault) (text : List ℕ) (columns : ℕ) (rows : List Row) (s : State) (rest : List ℕ) : Type 0 where
  pub header : List (List ℕ)
  pub records : List (List (List ℕ))
  pub reached : Reached default_config st.StartRecord text (header ∷ records) s rest
  pub is_header : form.columns_under header ≡ Some columns
  pub are_rows : AreRows (form.IsRow columns) records rows

-- the text has just these rows
pub record HasRows {Row Fault : Type 0} (form : Form Row Fault) (text : List ℕ) (rows : List Row) : Type 0 where
  pub columns : ℕ
  pub state : State
  pub rest : List ℕ
  pub leading : IsPrefixRead form text columns rows state rest
  pub ends : next_record default_config state [] [] rest ≡ None

-- after a header and records that are these rows comes a record with these fields
pub record IsNext {Row Fault : Type 0} (form : Form Row Fault) (text : List ℕ) (columns : ℕ) (rows : List Row) (fields : List (List ℕ)) : Type 0 where
  pub header : List (List ℕ)
  pub records : List (List (List ℕ))
  pub state : State
  pub rest : List ℕ
  pub reached : Reached default_config st.StartRecord text (header ∷ (records ++ fields ∷ [])) state rest
  pub is_header : form.columns_under header ≡ Some columns
  pub are_rows : AreRows (form.IsRow columns) records rows

-- there is no record, or the first is no header
abbrev pub IsBadHeader : {Row Fault : Type 0} → Form Row Fault → List ℕ → Type 0
IsBadHeader form text =
    (next_record default_config st.StartRecord [] [] text ≡ None)
    ⊎ ((fields : List (List ℕ)) × (s : State) × (rest : List ℕ)
    × Reached default_config st.StartRecord text (fields ∷ []) s rest × (form.columns_under fields ≡ None))

-- the first fault of a text: what stands before it is without one
abbrev pub IsFirstFault : {Row Fault : Type 0} → Form Row Fault → List ℕ → RowsFault Fault → Type 0
IsFirstFault form text f.BadHeader = IsBadHeader form text
IsFirstFault {Row} form text (f.Row e) = (columns : ℕ) × (rows : List Row) × (fields : List (List ℕ)) × IsNext form text columns rows fields × (length rows + 1 ≤ MAX_BOOKINGS) × form.IsRowFault columns (length rows + 1) fields e
IsFirstFault {Row} form text f.TooMany = (columns : ℕ) × (rows : List Row) × (fields : List (List ℕ)) × IsNext form text columns rows fields × (length rows ≡ MAX_BOOKINGS)
IsFirstFault form text f.Memory = ⊤
