-- What is asked of the free times of a day.
use Rattle.std.specs.Prelude.{◌≡◌, ◌⊎◌, ◌&&◌, ℕ, nat_le, nat_lt, Bool, false, true, List, length, codes, Some, None}
use Rattle.std.specs.List.{list_all}
use Rattle.std.specs.Char.{is_ascii_digit}
use Rattle.form_urlencoded.specs.Form as form
use Rattle.bx_base.specs.declared.booking.TheConstants.{MAX_MOMENT}
use Rattle.bx_book.specs.Rows.{Span}
use Rattle.bx_text.specs.Digits.{decimal_value}
use Rattle.bx_office_world.specs.Quotes.{value_in, IsSecondOfQuery, IsNoSecond}
use Rattle.bx_office_world.specs.declared.fault.NoAnswer.{NoAnswer}
use Rattle.bx_office_world.specs.declared.fault.NoAnswer.TheVariants.{NoLength, Book, Memory}
use Rattle.bx_office_world.specs.declared.wish.Wish.{Wish}

-- ---- how long

-- 1 to 10 digits with a value of 1 to 200,000
abbrev pub is_length : List ℕ → Bool
is_length text = nat_le (length text) 10 && list_all is_ascii_digit text && nat_lt 0 (decimal_value text) && nat_le (decimal_value text) MAX_MOMENT

-- a query asks for a call that lasts so many seconds
pub record IsLengthOfQuery (query : List ℕ) (seconds : ℕ) : Type 0 where
  pub value : List ℕ
  pub found : value_in query (codes "length") ≡ Some value
  pub text : List ℕ
  pub decoded : form.DecodesTo value text
  pub is_one : is_length text ≡ true
  pub seconds_are : seconds ≡ decimal_value text

-- it says no length, or what it says is none
abbrev pub LacksLength : List ℕ → Type 0
LacksLength query = (value_in query (codes "length") ≡ None) ⊎ ((value text : List ℕ) × (value_in query (codes "length") ≡ Some value) × form.DecodesTo value text × (is_length text ≡ false))

abbrev pub IsNoLength : List ℕ → NoAnswer → Type 0
IsNoLength query NoLength = LacksLength query
IsNoLength query Memory = Unit {0}
IsNoLength query _ = ⊥

-- ---- when

-- a field of a query names this second of the day; a query without that field means the other one
abbrev pub IsSecondOr : List ℕ → List ℕ → Span → ℕ → ℕ → Type 0
IsSecondOr query name span other second = IsSecondOfQuery query name span second ⊎ ((value_in query name ≡ None) × (second ≡ other))

-- why it names none, though it is there
abbrev pub IsBadSecond : List ℕ → List ℕ → Span → NoAnswer → Type 0
IsBadSecond query name span (Book fault) = IsNoSecond query name span (Book fault)
IsBadSecond query name span Memory = Unit {0}
IsBadSecond query name span _ = ⊥

-- ---- what is asked for

-- a call that lasts so long, and starts from one second on, or from the first one of the day on, up to another, or up to the last to which the day is run
pub record IsWishOf (query : List ℕ) (span : Span) (last : ℕ) (wish : Wish) : Type 0 where
  pub lasts : IsLengthOfQuery query wish.length
  pub starts : IsSecondOr query (codes "from") span 0 wish.from
  pub ends : IsSecondOr query (codes "to") span last wish.to

-- the first of the three that is wrong
abbrev pub IsNoWish : List ℕ → Span → NoAnswer → Type 0
IsNoWish query span why = IsNoLength query why ⊎ ((seconds : ℕ) × IsLengthOfQuery query seconds
    × (IsBadSecond query (codes "from") span why ⊎ ((from : ℕ) × IsSecondOr query (codes "from") span 0 from × IsBadSecond query (codes "to") span why)))
