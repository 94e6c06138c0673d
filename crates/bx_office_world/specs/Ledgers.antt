-- What was asked for under keys, and what was told of it.
use Rattle.std.specs.Prelude.{◌==◌, ◌&&◌, ℕ, Bool, List, [], ◌∷◌, map, take, drop, Option, Some, None, slice_index_or, if◌then◌else◌}
use Rattle.std.specs.Bool.{beq}
use Rattle.std.specs.Str.{bytes_eq}
use Rattle.bx_base.specs.Bookings.{Row}
use Rattle.bx_day.specs.declared.entry.Entry.{Entry}
use Rattle.bx_market.specs.declared.market.Answer.{Answer}
use Rattle.bx_market.specs.declared.market.Answer.TheVariants as answers
use Rattle.bx_sales.specs.declared.selling.NoSale.TheVariants as reasons
use Rattle.bx_sales.specs.declared.tag.Tag.{Tag}
use Rattle.hex.specs.Hex.{encode_lower}
use Rattle.sha2.specs.Sha256.{sha256}
use Rattle.bx_office.specs.declared.client.Client.{Client}
use Rattle.bx_office_world.specs.Offered.{offered_of}
use Rattle.bx_office_world.specs.declared.tariff.Terms.{Terms}
use Rattle.bx_office_world.specs.declared.ledger.Keyed.{Keyed}
use Rattle.bx_office_world.specs.declared.ledger.Told.{Told}
use Rattle.bx_office_world.specs.declared.ledger.Told.TheVariants as told

-- ---- keys

-- the first 32 digits of the digest of a text
abbrev pub digits_of : List ℕ → List ℕ
digits_of text = encode_lower (take 16 (sha256 text))

abbrev pub tag_for : List ℕ → List ℕ → Tag
tag_for key body = record { key = digits_of key; body = digits_of body }

-- the key of a client's request, and what it asks for
abbrev pub tag_by : Option (List ℕ) → List ℕ → Option Tag
tag_by None body = None
tag_by (Some key) body = Some (tag_for key body)

abbrev pub tag_asked : Option Client → Option Tag
tag_asked None = None
tag_asked (Some client) = tag_by client.key client.body.items

-- what stands beyond the last one
abbrev pub no_request : Keyed
no_request = record { tag = record { key = []; body = [] }; rows = 0; told = told.Sold 0 }

abbrev pub request_at : List Keyed → ℕ → Keyed
request_at requests i = slice_index_or requests i no_request

-- ---- what is told again

-- the same call at the same price
abbrev pub is_same_call : Row → Row → Bool
is_same_call a b = (a.start == b.start) && ((a.end == b.end) && ((a.pay == b.pay) && (beq a.inward b.inward && bytes_eq a.number b.number)))

abbrev pub bookings_of : List Entry → List Row
bookings_of entries = map (λ (e : Entry). e.booking) entries

-- of bookings of which these were sold, in their order
abbrev pub answers_by : List Row → List Row → List Answer
answers_by [] sold = []
answers_by (row ∷ rows) [] = answers.Refused reasons.Memory ∷ answers_by rows []
answers_by (row ∷ rows) (next ∷ sold) =
    if is_same_call row next then answers.Accepted ∷ answers_by rows sold else answers.Refused reasons.Memory ∷ answers_by rows (next ∷ sold)

-- as many entries after so many as there are
abbrev pub entries_after : ℕ → ℕ → List Entry → List Entry
entries_after rows count entries = take count (drop rows entries)

abbrev pub told_again : ℕ → Told → List Row → List Entry → List Answer
told_again rows (told.Answers kept) offered entries = kept.items
told_again rows (told.Sold count) offered entries = answers_by offered (bookings_of (entries_after rows count entries))

-- by which terms it is told again: where no answers are kept, at which rate it was sold is not known, and each that was is told
abbrev pub terms_then : Terms → Told → Terms
terms_then terms (told.Answers kept) = terms
terms_then terms (told.Sold count) = record { last = terms.last; rate = 0 }

abbrev pub terms_again : Terms → Keyed → Terms
terms_again terms request = terms_then terms request.told

-- what is told of those of the bookings that are offered by these terms
abbrev pub answers_again : Keyed → Terms → List Row → List Entry → List Answer
answers_again request terms wanted entries = told_again request.rows request.told (offered_of terms wanted) entries
