-- One read of a record of a text of rows.
use Rattle.std.proofs.Common.{◌≡◌, ◌++◌, ◌∷◌, [], ℕ, List, Option, Some, None, true, false, IfSome, refl, sym, inl, inr}
use Rattle.csv.specs.Reading.{Reached, ReadRecord, default_config, source_of}
use Rattle.csv.specs.declared.reader.Reader.{Reader}
use Rattle.csv.specs.declared.parser.State.TheVariants as st
use Rattle.csv.proofs.ReadFacts.{rows-end, rows-more}
use Rattle.bx_text.specs.Forms.{Form}
use Rattle.bx_text.specs.Rows.{AreRows, IsNext, HasRows, IsBadHeader}
use Rattle.bx_text.specs.Inside.{PrefixRead}

pub rows_append : {Row : Type 0} (IsRow : List (List ℕ) → Row → Type 0) (records : List (List (List ℕ))) (rows : List Row) (f : List (List ℕ)) (row : Row)
    → AreRows IsRow records rows → IsRow f row → AreRows IsRow (records ++ f ∷ []) (rows ++ row ∷ [])
rows_append IsRow [] [] f row h r = (r, tt)
rows_append IsRow [] (b ∷ bs) f row h r = absurd h
rows_append IsRow (x ∷ xs) [] f row h r = absurd h
rows_append IsRow (x ∷ xs) (b ∷ bs) f row h r = (h.0, rows_append IsRow xs bs f row h.1 r)

module _ {R Row Fault : Type 0} (form : Form Row Fault) (rem : R → Option (List ℕ)) (a b : Reader R) (f : List (List ℕ)) (text : List ℕ) (config : a.config ≡ default_config) where
  at_start : source_of rem a ≡ Some text → a.state ≡ st.StartRecord → ReadRecord rem a b true f
      → (z : List ℕ) × (source_of rem b ≡ Some z) × Reached default_config st.StartRecord text (f ∷ []) b.state z
  unfolding Reached
  at_start e s r = rows-more rem a b f default_config st.StartRecord text text [] config e (sym s, refl) r

  pub header_read : (columns : ℕ) → source_of rem a ≡ Some text → a.state ≡ st.StartRecord → ReadRecord rem a b true f → form.columns_under f ≡ Some columns → PrefixRead form rem b text columns []
  header_read columns e s r h = let m = at_start e s r in (m.0, m.1, record { header = f; records = []; reached = m.2; is_header = h; are_rows = tt })

  pub header_wrong : source_of rem a ≡ Some text → a.state ≡ st.StartRecord → ReadRecord rem a b true f → form.columns_under f ≡ None → IsBadHeader form text
  header_wrong e s r h = let m = at_start e s r in inr (f, b.state, m.0, m.2, h)

  pub header_missing : source_of rem a ≡ Some text → a.state ≡ st.StartRecord → ReadRecord rem a b false f → IsBadHeader form text
  header_missing e s r = inl (rw s at (rows-end rem a b f default_config text config e r))

  module _ (columns : ℕ) (rows : List Row) (leading : PrefixRead form rem a text columns rows) where
    more : ReadRecord rem a b true f
        → (z : List ℕ) × (source_of rem b ≡ Some z) × Reached default_config st.StartRecord text ((leading.2.header ∷ leading.2.records) ++ (f ∷ [])) b.state z
    more r = rows-more rem a b f default_config st.StartRecord text leading.0 (leading.2.header ∷ leading.2.records) config leading.1 leading.2.reached r

    pub prefix_next : (row : Row) → ReadRecord rem a b true f → form.IsRow columns f row → PrefixRead form rem b text columns (rows ++ row ∷ [])
    prefix_next row r h = let m = more r in (m.0, m.1, record { header = leading.2.header; records = leading.2.records ++ f ∷ []; reached = m.2; is_header = leading.2.is_header; are_rows = rows_append (form.IsRow columns) leading.2.records rows f row leading.2.are_rows h })

    pub prefix_record : ReadRecord rem a b true f → IsNext form text columns rows f
    prefix_record r = let m = more r in record { header = leading.2.header; records = leading.2.records; state = b.state; rest = m.0; reached = m.2; is_header = leading.2.is_header; are_rows = leading.2.are_rows }

    pub prefix_end : ReadRecord rem a b false f → HasRows form text rows
    prefix_end r = record { columns = columns; state = a.state; rest = leading.0; leading = leading.2; ends = rows-end rem a b f default_config leading.0 config leading.1 r }

pub if_known : (known : Option (List ℕ)) (P : List ℕ → Type 0) → ((text : List ℕ) → known ≡ Some text → P text) → IfSome known P
if_known None P h = tt
if_known (Some text) P h = h text refl
