-- The first fault of a row is that of its text.
use Rattle.std.proofs.Common.{◌⊎◌, ℕ, List, IfSome, Option, None, Some, inl, inr}
use Rattle.bx_text.specs.Rows.{IsFirstFault}
use Rattle.bx_text.specs.declared.rows_fault.RowsFault.{RowsFault}
use Rattle.bx_text.specs.declared.rows_fault.RowsFault.TheVariants as rows
use Rattle.bx_book.specs.Rows.{Span}
use Rattle.bx_book.specs.Texts.{book_form, IsBookFault}
use Rattle.bx_book.specs.RowFaults.{told_as}
use Rattle.bx_book.specs.declared.fault.BookFault.{BookFault}
use Rattle.bx_book.specs.declared.fault.BookFault.TheVariants as f

nothing : {P : ℕ → Type 0} → ⊥ ⊎ ((n : ℕ) × P n × ⊥) → ⊥
nothing (inl e) = e
nothing (inr p) = p.2

module _ (text : List ℕ) (span : Span) where
  row_told : (e : BookFault) → IsFirstFault (book_form span) text (rows.Row e) → IsBookFault text span e
  row_told f.BadHeader h = absurd (nothing h.5.1)
  row_told (f.WrongColumns r) h = h
  row_told (f.NotATime r) h = h
  row_told (f.NotWholeSeconds r) h = h
  row_told (f.OutsideDay r) h = h
  row_told (f.EndNotAfterStart r) h = h
  row_told (f.BadNumber r) h = h
  row_told (f.BadPay r) h = h
  row_told f.TooMany h = absurd (nothing h.5.1)
  row_told (f.BadMust r) h = h
  row_told (f.BadDirection r) h = h
  row_told f.Memory h = tt

  fault_told : (e : RowsFault BookFault) → IsFirstFault (book_form span) text e → IsBookFault text span (told_as e)
  fault_told rows.BadHeader h = h
  fault_told (rows.Row e) h = row_told e h
  fault_told rows.TooMany h = h
  fault_told rows.Memory h = tt

pub known_fault : (span : Span) (known : Option (List ℕ)) (e : RowsFault BookFault) → IfSome known (λ text. IsFirstFault (book_form span) text e) → IfSome known (λ text. IsBookFault text span (told_as e))
known_fault span None e h = tt
known_fault span (Some text) e h = fault_told text span e h
