-- Private: how much of a text a reader has passed on.
use Rattle.std.specs.Prelude.{◌≡◌, ◌≤◌, ◌==◌, ◌||◌, nat_lt, ℕ, Bool, List, [], Option, Some, length, drop, if◌then◌else◌}
use Rattle.std.specs.Option.{ForSome}
use Rattle.bx_devices.specs.declared.octets.TheConstants.{MAX_OCTETS}
use Rattle.bx_devices.specs.declared.watched.TheConstants.{MAX_READS}

-- of this text, if it is known, so many octets were passed on, and that is left
abbrev pub HasPassed : Option (List ℕ) → ℕ → Option (List ℕ) → Type 0
HasPassed text count left = ForSome text (λ octets. (count ≤ length octets) × (left ≡ Some (drop count octets)))

-- of what is left, if it is known, there is nothing
abbrev pub HasNoneLeft : Option (List ℕ) → Type 0
HasNoneLeft left = ForSome left (λ octets. octets ≡ [])

-- nothing more is read: the end was reached, a read failed, an octet too many came, or too many reads were made
abbrev pub is_spent : Bool → Bool → ℕ → ℕ → Bool
is_spent has_ended is_faulted octets reads = has_ended || is_faulted || nat_lt MAX_OCTETS octets || (reads == MAX_READS)

-- how many of the reads that were passed on gave no octet: that which came to the end, or failed
abbrev pub reads_of_none : Bool → Bool → ℕ
reads_of_none has_ended is_faulted = if has_ended || is_faulted then 1 else 0
