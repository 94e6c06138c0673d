-- The line of a sale: the text of its booking, and before it the key under which it was asked for.
use Rattle.std.specs.Prelude.{◌≡◌, ℕ, nat_le, ◌&&◌, Bool, List, ◌++◌, length, take, drop, codes, Option, Some, None, if◌then◌else◌}
use Rattle.std.specs.Str.{bytes_eq}
use Rattle.bx_base.specs.Bookings.{Row}
use Rattle.bx_sales.specs.declared.tag.Tag.{Tag}

-- the digits of the digests of a key and of what is asked for under it, with a space behind each word: 72 octets
abbrev pub tag_text : Tag → List ℕ
tag_text tag = codes "under " ++ (tag.key ++ (codes " " ++ (tag.body ++ codes " ")))

abbrev pub sale_text : Option Tag → List ℕ → List ℕ
sale_text None booking = booking
sale_text (Some tag) booking = tag_text tag ++ booking

abbrev pub is_tagged : List ℕ → Bool
is_tagged line = nat_le 72 (length line) && bytes_eq (take 6 line) (codes "under ")

-- the text of the booking
abbrev pub behind_tag : List ℕ → List ℕ
behind_tag line = if is_tagged line then drop 72 line else line

abbrev pub tag_of : List ℕ → Option Tag
tag_of line = if is_tagged line then Some (record { key = take 32 (drop 6 line); body = take 32 (drop 39 line) }) else None

-- the booking of the line of a sale, where a text tells one so
abbrev pub row_behind : (List ℕ → Row) → List ℕ → Row
row_behind row_on line = row_on (behind_tag line)

-- a line tells this key, or none, and this text of a booking
abbrev pub IsReadBack : Option Tag → List ℕ → List ℕ → Type 0
IsReadBack tag booking line = (behind_tag line ≡ booking) × (tag_of line ≡ tag)
