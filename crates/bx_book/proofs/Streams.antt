-- What is known of a reader from what was counted of it.
use Rattle.std.proofs.Common.{◌≡◌, ◌≢◌, ◌∙◌, ◌⊎◌, inl, inr, ◌≤◌, ◌+◌, Bool, true, false, ℕ, zero, suc, List, [], ◌∷◌, Option, Some, None, IfSome, length, take, drop, sym, ap, refl, arith, length-drop, append-nil}
use Rattle.std.proofs.lemmas.List.{take-append-drop, length-take-le}
use Rattle.std.proofs.lemmas.Bool.Decides.{nat_tests}
use Rattle.csv.specs.Reading.{strip_bom}
use Rattle.bx_devices.specs.Octets.{ReadsAll, ReadsPrefix, ReadsWithin, RunsOutOfReads}
use Rattle.bx_devices.specs.Watching.{device_of, is_faulted, reads_of}
use Rattle.bx_devices.specs.declared.watched.Watched.{Watched}
use Rattle.bx_base.specs.Bookings.{Row}
use Rattle.bx_book.specs.Passed.{HasPassed, HasNoneLeft, is_spent, reads_of_none}
use Rattle.bx_book.specs.Rows.{Span}
use Rattle.bx_book.specs.Texts.{IsBook, IsBookFault}
use Rattle.bx_devices.specs.Devices.{reading_of}
use Rattle.bx_book.specs.Streams.{IsWhole, IsBookRead, IsStreamFault}
use Rattle.bx_book.specs.Told.{IsMeterFault, told_as}
use Rattle.bx_book.specs.declared.fault.BookFault.{BookFault}
use Rattle.bx_book.specs.declared.fault.BookFault.TheVariants as f
use Rattle.bx_book.specs.declared.stream.StreamFault.{StreamFault}
use Rattle.bx_book.specs.declared.stream.StreamFault.TheVariants as stream

zeros : (n : ℕ) → (bs : List ℕ) × (length bs ≡ n)
zeros zero = ([], refl)
zeros (suc n) = let rest = zeros n in (0 ∷ rest.0, ap suc rest.1)

prefix : (before after : Option (List ℕ)) (n : ℕ) → HasPassed before n after → ReadsPrefix before after n
prefix None after n passed = let bs = zeros n in (bs.0, bs.1, tt)
prefix (Some text) after n passed =
    let left = passed text refl in
    (take n text, length-take-le n text left.0, rw left.1 (sym (take-append-drop n text)))

ends : (has_ended is_faulted : Bool) (octets reads : ℕ) → is_spent has_ended is_faulted octets reads ≡ true → is_faulted ≡ false → octets ≤ 4_194_304 → (reads ≡ 8_388_608 → has_ended ≡ true)
    → has_ended ≡ true
ends true is_faulted octets reads spent sound few more = refl
ends false is_faulted octets reads spent sound few more = grind (arith, nat_tests)

whole : (before after : Option (List ℕ)) (octets : ℕ) (text : List ℕ) → HasPassed before octets after → HasNoneLeft after → octets ≤ 4_194_304 → before ≡ Some text
    → ReadsAll before after text × (length text ≤ 4_194_304)
whole before after octets text passed none few known =
    let left = passed text known in
    let nothing = none (drop octets text) left.1 in
    let after_is = left.1 ∙ ap Some nothing in
    let size = ap length nothing in
    (rw (known, after_is) (sym (append-nil text), refl), omega (arith, size, length-drop octets text))

within : (before after : Option (List ℕ)) (n most : ℕ) → HasPassed before n after → n ≤ most → ReadsWithin before after most
within before after n most passed few = (n, few, prefix before after n passed)

module _ {R : Type 0} (rem : R → Option (List ℕ)) (old new : Watched R) (span : Span) (octets : ℕ) (passed : HasPassed (rem (device_of old)) octets (rem (device_of new))) where
  -- with no end and no failed read, each read that was passed on gave an octet
  vain : (has_ended : Bool) → is_faulted new ≡ false → has_ended ≡ false → octets ≤ 4_194_304 → reads_of new ≡ 8_388_608
      → reads_of new ≤ reads_of old + (octets + reads_of_none has_ended (is_faulted new)) → RunsOutOfReads (rem (device_of old)) (rem (device_of new)) (reads_of old)
  vain has_ended sound goes few most each =
      let each_gave : reads_of new ≤ reads_of old + (octets + 0) = rw (goes, sound) at each in
      (octets, few, prefix (rem (device_of old)) (rem (device_of new)) octets passed, omega (arith, most, each_gave))

  pub short : (has_ended : Bool) → reads_of new ≤ reads_of old + (octets + reads_of_none has_ended (is_faulted new))
      → (fault : StreamFault) → IsMeterFault (is_faulted new) has_ended octets (reads_of new) fault → IsStreamFault (reading_of rem old new) span fault
  short has_ended each stream.ReadFailed (inl h) = inl h
  short has_ended each stream.ReadFailed (inr h) = inr (vain has_ended h.0 h.1 h.2 h.3 each)
  short has_ended each stream.TooLong h = (h.0, rw h.1 at (prefix (rem (device_of old)) (rem (device_of new)) octets passed))
  short has_ended each (stream.Book e) h = absurd h
  short has_ended each stream.Memory h = absurd h

  module _ (has_ended : Bool) (none : has_ended ≡ true → HasNoneLeft (rem (device_of new))) (sound : is_faulted new ≡ false) (few : octets ≤ 4_194_304) (more : reads_of new ≡ 8_388_608 → has_ended ≡ true) where
    said : (P : List ℕ → Type 0) → is_spent has_ended (is_faulted new) octets (reads_of new) ≡ true → IfSome (rem (device_of old)) P
        → (is_faulted new ≡ false) × ((text : List ℕ) → rem (device_of old) ≡ Some text → IsWhole (reading_of rem old new) text × P text)
    said P spent h = (
      sound,
      λ text known.
          let all = whole (rem (device_of old)) (rem (device_of new)) octets text passed (none (ends has_ended (is_faulted new) octets (reads_of new) spent sound few more)) few known in
          (record { all = all.0; fits = all.1 }, rw known at h),
    )

    pub book : (bookings : List Row) → is_spent has_ended (is_faulted new) octets (reads_of new) ≡ true → IfSome (rem (device_of old)) (λ text. IsBook (strip_bom text) span bookings)
        → IsBookRead (reading_of rem old new) span bookings
    book bookings spent h = said (λ text. IsBook (strip_bom text) span bookings) spent h

    abbrev Spent : BookFault → Type 0
    Spent e = (e ≡ f.Memory) ⊎ (is_spent has_ended (is_faulted new) octets (reads_of new) ≡ true)

    abbrev Fault : BookFault → Type 0
    Fault e = IfSome (rem (device_of old)) (λ text. IsBookFault (strip_bom text) span e)

    abbrev Said : BookFault → Type 0
    Said e = (is_faulted new ≡ false) × ((text : List ℕ) → rem (device_of old) ≡ Some text → IsWhole (reading_of rem old new) text × IsBookFault (strip_bom text) span e)

    fault_said : (e : BookFault) → e ≢ f.Memory → Spent e → Fault e → Said e
    fault_said e other (inl h) fault = absurd (other h)
    fault_said e other (inr h) fault = said (λ text. IsBookFault (strip_bom text) span e) h fault

    pub book_fault : (e : BookFault) → Spent e → Fault e → IsStreamFault (reading_of rem old new) span (told_as e)
    book_fault f.BadHeader s h = fault_said f.BadHeader (λ e. cc) s h
    book_fault (f.WrongColumns r) s h = fault_said (f.WrongColumns r) (λ e. cc) s h
    book_fault (f.NotATime r) s h = fault_said (f.NotATime r) (λ e. cc) s h
    book_fault (f.NotWholeSeconds r) s h = fault_said (f.NotWholeSeconds r) (λ e. cc) s h
    book_fault (f.OutsideDay r) s h = fault_said (f.OutsideDay r) (λ e. cc) s h
    book_fault (f.EndNotAfterStart r) s h = fault_said (f.EndNotAfterStart r) (λ e. cc) s h
    book_fault (f.BadNumber r) s h = fault_said (f.BadNumber r) (λ e. cc) s h
    book_fault (f.BadPay r) s h = fault_said (f.BadPay r) (λ e. cc) s h
    book_fault f.TooMany s h = fault_said f.TooMany (λ e. cc) s h
    book_fault (f.BadMust r) s h = fault_said (f.BadMust r) (λ e. cc) s h
    book_fault (f.BadDirection r) s h = fault_said (f.BadDirection r) (λ e. cc) s h
    book_fault f.Memory s h = (sound, within (rem (device_of old)) (rem (device_of new)) octets 4_194_304 passed few)
