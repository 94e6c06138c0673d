-- The bookings and the prices of a plan text, by induction.
use Rattle.std.proofs.Common.{◌≡◌, ℕ, zero, suc, ◌+◌, ◌<◌, true, List, [], ◌∷◌, ◌++◌, map, length, get_or, Option, Some, None, Ok, refl, sym, ap, ◌∙◌, arith, subst, append_assoc}
use Rattle.std.specs.Prelude.{decimal}
use Rattle.std.specs.List.{flat_map}
use Rattle.bx_channels.specs.ChannelNumbers.{IsChannel}
use Rattle.bx_base.specs.Bookings.{Row, IsBooking, row_at}
use Rattle.bx_base.specs.Bound.{Charge, IsCharge, price_at}
use Rattle.bx_planfile.specs.declared.version.Version.{Version}
use Rattle.bx_text.specs.Lines.{line_text}
use Rattle.bx_planfile.specs.Text.{channel_field, mark_fields, booking_fields, price_fields, booking_lines, IsTellable}
use Rattle.bx_planfile.specs.Forms.{Entry, is_assignable}
use Rattle.bx_planfile.specs.Reading.{◌>>=◌, Entries, entries, read_line, read_booking, read_price, read_bookings, read_prices}
use Rattle.bx_planfile.proofs.PlainLines.{line_again, line_takes}
use Rattle.bx_planfile.proofs.ChannelSets.{IsChannel-from_test, test_from_channel}
use Rattle.bx_planfile.proofs.LineLaws.{bind_ok, charge_again, charge_takes, entry_again, entry_takes, ok_is, plain_booking, plain_price}

-- bookings that were read from the start of a text
pub record ReadsBookings (version : Version) (count : ℕ) (bytes : List ℕ) (x : Entries) : Type 0 where
  pub spelled : bytes ≡ flat_map line_text (booking_lines version x.rows x.assigned) ++ x.rest
  pub rows : length x.rows ≡ count
  pub assigned : length x.assigned ≡ count
  pub bookings : (i : ℕ) → i < length x.rows → IsBooking (row_at x.rows i)
  pub told : (i : ℕ) → i < length x.rows → IsTellable version (row_at x.rows i)
  pub channels : (i c : ℕ) → get_or x.assigned i None ≡ Some c → IsChannel c

pub each_more : (P : Row → Type 0) (r : Row) (rows : List Row) → P r → ((i : ℕ) → i < length rows → P (row_at rows i)) → (i : ℕ) → i < length (r ∷ rows) → P (row_at (r ∷ rows) i)
each_more P r rows h more zero lt = h
each_more P r rows h more (suc i) lt = more i (omega arith)

pub channels_more : (a : Option ℕ) (assigned : List (Option ℕ)) → is_assignable a ≡ true → ((i c : ℕ) → get_or assigned i None ≡ Some c → IsChannel c) → (i c : ℕ) → get_or (a ∷ assigned) i None ≡ Some c → IsChannel c
channels_more a assigned h more zero c e = let fits : is_assignable (Some c) ≡ true = ap is_assignable (sym e) ∙ h in IsChannel-from_test c fits
channels_more a assigned h more (suc i) c e = more i c e

module _ (version : Version) (count n : ℕ) (bytes after : List ℕ) (fields : List (List ℕ)) (e : Entry) (x : Entries) where
  booking_first : read_line n bytes ≡ Ok (fields, after) → read_booking version n fields ≡ Ok e → ReadsBookings version count after x
      → ReadsBookings version (suc count) bytes (entries (e.row ∷ x.rows) (e.channel ∷ x.assigned) x.rest)
  booking_first line booking more =
      let first = entry_takes version n fields e booking in
      let here : List ℕ = line_text (booking_fields version e.row e.channel) in
      let following : List ℕ = flat_map line_text (booking_lines version x.rows x.assigned) in
      let own : bytes ≡ here ++ after = line_takes n bytes (fields, after) line ∙ ap (λ (fs : List (List ℕ)). line_text fs ++ after) first.spelled in
      record {
        spelled = own ∙ ap (λ (r : List ℕ). here ++ r) more.spelled ∙ sym (append_assoc here following x.rest);
        rows = ap suc more.rows;
        assigned = ap suc more.assigned;
        bookings = each_more IsBooking e.row x.rows first.booking more.bookings;
        told = each_more (IsTellable version) e.row x.rows first.told more.told;
        channels = channels_more e.channel x.assigned first.channel more.channels;
      }

no_booking_read : (version : Version) (bytes : List ℕ) → ReadsBookings version 0 bytes (entries [] [] bytes)
no_booking_read version bytes = record { spelled = refl; rows = refl; assigned = refl; bookings = λ i lt. absurd (omega arith); told = λ i lt. absurd (omega arith); channels = λ i c none. absurd cc }

pub bookings_take : (version : Version) (count n : ℕ) (bytes : List ℕ) (x : Entries) → read_bookings version count n bytes ≡ Ok x → ReadsBookings version count bytes x
unfolding read_bookings
bookings_take version zero n bytes x e =
    subst (λ (y : Entries). ReadsBookings version 0 bytes y) (ok_is (entries [] [] bytes) x e) (no_booking_read version bytes)
bookings_take version (suc count) n bytes x e =
    let a = bind_ok (read_line n bytes) (λ line. read_booking version n line.0 >>= λ entry. read_bookings version count (n + 1) line.1 >>= λ more. Ok (entries (entry.row ∷ more.rows) (entry.channel ∷ more.assigned) more.rest)) x e in
    let b = bind_ok (read_booking version n a.0.0) (λ entry. read_bookings version count (n + 1) a.0.1 >>= λ more. Ok (entries (entry.row ∷ more.rows) (entry.channel ∷ more.assigned) more.rest)) x a.2 in
    let c = bind_ok (read_bookings version count (n + 1) a.0.1) (λ more. Ok (entries (b.0.row ∷ more.rows) (b.0.channel ∷ more.assigned) more.rest)) x b.2 in
    subst (λ (y : Entries). ReadsBookings version (suc count) bytes y) {x = entries (b.0.row ∷ c.0.rows) (b.0.channel ∷ c.0.assigned) c.0.rest} (cc c.2)
    (booking_first version count n bytes a.0.1 a.0.0 b.0 c.0 a.1 b.1 (bookings_take version count (n + 1) a.0.1 c.0 c.1))

pub assigned_here : (a : Option ℕ) → ((c : ℕ) → a ≡ Some c → IsChannel c) → is_assignable a ≡ true
assigned_here None h = refl
assigned_here (Some c) h = test_from_channel c (h c refl)

pub bookings_again : (version : Version) (rows : List Row) (assigned : List (Option ℕ)) (n : ℕ) (rest : List ℕ) → length assigned ≡ length rows
    → ((i : ℕ) → i < length rows → IsBooking (row_at rows i)) → ((i : ℕ) → i < length rows → IsTellable version (row_at rows i)) → ((i c : ℕ) → get_or assigned i None ≡ Some c → IsChannel c)
    → read_bookings version (length rows) n (flat_map line_text (booking_lines version rows assigned) ++ rest) ≡ Ok (entries rows assigned rest)
unfolding read_bookings
bookings_again version [] [] n rest len bookings told channels = refl
bookings_again version [] (a ∷ assigned) n rest len bookings told channels = absurd (omega arith)
bookings_again version (r ∷ rows) [] n rest len bookings told channels = absurd (omega arith)
bookings_again version (r ∷ rows) (a ∷ assigned) n rest len bookings told channels =
    let e : Entry = record { row = r; channel = a } in
    let booking : IsBooking r = bookings 0 (omega arith) in
    let told_so : IsTellable version r = told 0 (omega arith) in
    let channel : is_assignable a ≡ true = assigned_here a (λ c. channels 0 c) in
    let following = flat_map line_text (booking_lines version rows assigned) in
    let fields = booking_fields version r a in
    let regrouped : (line_text fields ++ following) ++ rest ≡ line_text fields ++ (following ++ rest) = append_assoc (line_text fields) following rest in
    let line : read_line n (line_text fields ++ (following ++ rest)) ≡ Ok (fields, following ++ rest) = line_again n (decimal r.start) (decimal r.end ∷ decimal r.pay ∷ r.number ∷ channel_field a ∷ mark_fields version r) (following ++ rest) (plain_booking version r a booking channel) in
    let more = bookings_again version rows assigned (n + 1) rest (omega arith) (λ i lt. bookings (suc i) (omega arith)) (λ i lt. told (suc i) (omega arith)) (λ i c. channels (suc i) c) in
    ap (read_bookings version (suc (length rows)) n) regrouped ∙ rw (line, entry_again version n e booking told_so channel, more) refl

-- prices that were read from the start of a text
pub record ReadsPrices (count : ℕ) (bytes : List ℕ) (x : List Charge × List ℕ) : Type 0 where
  pub spelled : bytes ≡ flat_map line_text (map price_fields x.0) ++ x.1
  pub len : length x.0 ≡ count
  pub prices : (i : ℕ) → i < length x.0 → IsCharge (price_at x.0 i)

pub prices_more : (p : Charge) (ps : List Charge) → IsCharge p → ((i : ℕ) → i < length ps → IsCharge (price_at ps i)) → (i : ℕ) → i < length (p ∷ ps) → IsCharge (price_at (p ∷ ps) i)
prices_more p ps h more zero lt = h
prices_more p ps h more (suc i) lt = more i (omega arith)

module _ (count n : ℕ) (bytes after : List ℕ) (fields : List (List ℕ)) (p : Charge) (x : List Charge × List ℕ) where
  price_first : read_line n bytes ≡ Ok (fields, after) → read_price n fields ≡ Ok p → ReadsPrices count after x → ReadsPrices (suc count) bytes (p ∷ x.0, x.1)
  price_first line price more =
      let first = charge_takes n fields p price in
      let here : List ℕ = line_text (price_fields p) in
      let following : List ℕ = flat_map line_text (map price_fields x.0) in
      let own : bytes ≡ here ++ after = line_takes n bytes (fields, after) line ∙ ap (λ (fs : List (List ℕ)). line_text fs ++ after) first.0 in
      record {
        spelled = own ∙ ap (λ (r : List ℕ). here ++ r) more.spelled ∙ sym (append_assoc here following x.1);
        len = ap suc more.len;
        prices = prices_more p x.0 first.1 more.prices;
      }

no_price_read : (bytes : List ℕ) → ReadsPrices 0 bytes ([], bytes)
no_price_read bytes = record { spelled = refl; len = refl; prices = λ i lt. absurd (omega arith) }

pub prices_take : (count n : ℕ) (bytes : List ℕ) (x : List Charge × List ℕ) → read_prices count n bytes ≡ Ok x → ReadsPrices count bytes x
unfolding read_prices
prices_take zero n bytes x e =
    subst (λ (y : List Charge × List ℕ). ReadsPrices 0 bytes y) (ok_is ([], bytes) x e) (no_price_read bytes)
prices_take (suc count) n bytes x e =
    let a = bind_ok (read_line n bytes) (λ line. read_price n line.0 >>= λ price. read_prices count (n + 1) line.1 >>= λ more. Ok (price ∷ more.0, more.1)) x e in
    let b = bind_ok (read_price n a.0.0) (λ price. read_prices count (n + 1) a.0.1 >>= λ more. Ok (price ∷ more.0, more.1)) x a.2 in
    let c = bind_ok (read_prices count (n + 1) a.0.1) (λ more. Ok (b.0 ∷ more.0, more.1)) x b.2 in
    subst (λ (y : List Charge × List ℕ). ReadsPrices (suc count) bytes y) {x = (b.0 ∷ c.0.0, c.0.1)} (cc c.2)
    (price_first count n bytes a.0.1 a.0.0 b.0 c.0 a.1 b.1 (prices_take count (n + 1) a.0.1 c.0 c.1))

pub prices_again : (ps : List Charge) (n : ℕ) (rest : List ℕ) → ((i : ℕ) → i < length ps → IsCharge (price_at ps i)) → read_prices (length ps) n (flat_map line_text (map price_fields ps) ++ rest) ≡ Ok (ps, rest)
unfolding read_prices
prices_again [] n rest h = refl
prices_again (p ∷ ps) n rest h =
    let here : IsCharge p = h 0 (omega arith) in
    let following = flat_map line_text (map price_fields ps) in
    let regrouped : (line_text (price_fields p) ++ following) ++ rest ≡ line_text (price_fields p) ++ (following ++ rest) = append_assoc (line_text (price_fields p)) following rest in
    let line : read_line n (line_text (price_fields p) ++ (following ++ rest)) ≡ Ok (price_fields p, following ++ rest) = line_again n (decimal p.moment) (decimal p.amount ∷ []) (following ++ rest) (plain_price p here) in
    let more = prices_again ps (n + 1) rest (λ i lt. h (suc i) (omega arith)) in
    ap (read_prices (suc (length ps)) n) regrouped ∙ rw (line, charge_again n p here, more) refl
