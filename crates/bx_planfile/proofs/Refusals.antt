-- No line is refused for want of memory.
use Rattle.std.proofs.Common.{◌≡◌, ℕ, Bool, true, false, ◌+◌, List, Option, Some, None, Result, Ok, Err, refl, ap, ◌∙◌, ◌⊎◌}
use Rattle.bx_planfile.specs.declared.version.Version.{Version}
use Rattle.bx_planfile.specs.declared.fault.PlanTextFault.{PlanTextFault}
use Rattle.bx_planfile.specs.declared.fault.PlanTextFault.TheVariants.{BadLine, BadCount, OutOfLimits, Trailing, Memory}
use Rattle.std.specs.Prelude.{codes, length, nat_le, ◌==◌, IsErrAnd}
use Rattle.std.proofs.lemmas.Result.{err_from_is_err_and}
use Rattle.bx_planfile.specs.Lines.{first_line}
use Rattle.bx_planfile.specs.Forms.{header_form, named_form, channels_form, channel_set, booking_form, is_within, price_form, is_charge, is_end}
use Rattle.bx_planfile.specs.Reading.{◌>>=◌, or_fault, where_holds, read_line, read_header, read_channels, read_count, read_booking, read_price, read_total, read_end, read_head, head_of, read_bookings, Entries, SomeBookings, GrowsInTail, Grows}

no_option : {A : Type 0} (n : ℕ) (o : Option A) → or_fault (BadLine n) o ≡ Err Memory → ⊥
no_option n None e = cc
no_option n (Some x) e = cc

-- a form, and limits after it
no_form : {A B : Type 0} (n : ℕ) (o : Option A) (f : A → Result B PlanTextFault) → ((x : A) → f x ≡ Err Memory → ⊥) → (or_fault (BadLine n) o >>= f) ≡ Err Memory → ⊥
no_form n None f h e = cc
no_form n (Some x) f h e = h x e

pub line_never : (n : ℕ) (bytes : List ℕ) → read_line n bytes ≡ Err Memory → ⊥
unfolding read_line
line_never n bytes e = no_option n (first_line bytes) e

pub header_never : (n : ℕ) (fields : List (List ℕ)) → read_header n fields ≡ Err Memory → ⊥
unfolding read_header
header_never n fields e = no_option n (header_form fields) e

no_set : (n : ℕ) (o : Option (List Bool)) → or_fault (OutOfLimits n) o ≡ Err Memory → ⊥
no_set n None e = cc
no_set n (Some x) e = cc

pub channels_never : (n : ℕ) (fields : List (List ℕ)) → read_channels n fields ≡ Err Memory → ⊥
unfolding read_channels
channels_never n fields e = no_form n (channels_form fields) (λ numbers. or_fault (OutOfLimits n) (channel_set numbers)) (λ numbers. no_set n (channel_set numbers)) e

no_count : {A : Type 0} (b : Bool) (x : A) → where_holds b BadCount x ≡ Err Memory → ⊥
no_count true x e = cc
no_count false x e = cc

no_limit : {A : Type 0} (n : ℕ) (b : Bool) (x : A) → where_holds b (OutOfLimits n) x ≡ Err Memory → ⊥
no_limit n true x e = cc
no_limit n false x e = cc

pub count_never : (word : List ℕ) (most n : ℕ) (fields : List (List ℕ)) → read_count word most n fields ≡ Err Memory → ⊥
unfolding read_count
count_never word most n fields e = no_form n (named_form word fields) (λ c. where_holds (nat_le c most) BadCount c) (λ c. no_count (nat_le c most) c) e

pub booking_never : (version : Version) (n : ℕ) (fields : List (List ℕ)) → read_booking version n fields ≡ Err Memory → ⊥
unfolding read_booking
booking_never version n fields e = no_form n (booking_form version fields) (λ x. where_holds (is_within x) (OutOfLimits n) x) (λ x. no_limit n (is_within x) x) e

pub price_never : (n : ℕ) (fields : List (List ℕ)) → read_price n fields ≡ Err Memory → ⊥
unfolding read_price
price_never n fields e = no_form n (price_form fields) (λ x. where_holds (is_charge x) (OutOfLimits n) x) (λ x. no_limit n (is_charge x) x) e

pub total_never : (n : ℕ) (fields : List (List ℕ)) → read_total n fields ≡ Err Memory → ⊥
unfolding read_total
total_never n fields e = no_form n (named_form (codes "total") fields) (λ c. where_holds (nat_le c 16000000000000) (OutOfLimits n) c) (λ c. no_limit n (nat_le c 16000000000000) c) e

no_trailing : (b : Bool) (x : List ℕ) → where_holds b Trailing x ≡ Err Memory → ⊥
no_trailing true x e = cc
no_trailing false x e = cc

no_end : (n : ℕ) (a : Bool) (rest : List ℕ) → (where_holds a (BadLine n) rest >>= λ following. where_holds (length following == 0) Trailing following) ≡ Err Memory → ⊥
no_end n true rest e = no_trailing (length rest == 0) rest e
no_end n false rest e = cc

pub end_never : (n : ℕ) (fields : List (List ℕ)) (rest : List ℕ) → read_end n fields rest ≡ Err Memory → ⊥
unfolding read_end
end_never n fields rest e = no_end n (is_end fields) rest e

-- a fault that is passed on is no want of memory where the line's is none
pub passed_on : {B : Type 0} {e : PlanTextFault} {r : Result B PlanTextFault} → r ≡ Err Memory → IsErrAnd r (λ y. y ≡ e) → e ≡ Memory
passed_on {e} {r} m passed = let p = err_from_is_err_and r passed in cc

pub not_memory : {A B X : Type 0} {read : Result A PlanTextFault} {e : PlanTextFault} {r : Result B PlanTextFault} → (read ≡ Err Memory → ⊥) → read ≡ Err e → r ≡ Err Memory → IsErrAnd r (λ y. y ≡ e) → X
not_memory never is m passed = absurd (never (is ∙ ap Err (passed_on m passed)))

-- ---- the lines before the bookings were read, and a list was to grow after them

module _ {version : Version} {count : ℕ} {bytes r1 r2 r3 : List ℕ} {f1 f2 f3 : List (List ℕ)} {channels : List Bool} where
  pub grows_after : read_line 1 bytes ≡ Ok (f1, r1) → read_header 1 f1 ≡ Ok version → read_line 2 r1 ≡ Ok (f2, r2) → read_channels 2 f2 ≡ Ok channels → read_line 3 r2 ≡ Ok (f3, r3)
      → read_count (codes "bookings") 16000 3 f3 ≡ Ok count → SomeBookings version count 4 r3 ⊎ ((x : Entries) × (read_bookings version count 4 r3 ≡ Ok x) × GrowsInTail (4 + count) x.rest) → Grows bytes
  unfolding read_head
  grows_after line1 header line2 set line3 counted grows = record { head = head_of version channels count r3; is_head = rw (line1, header, line2, set, line3, counted) refl; grows = grows }
