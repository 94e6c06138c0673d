-- The free times of a day, as they are told.
use Rattle.std.specs.Prelude.{◌≡◌, ◌⊎◌, ◌<◌, ◌≤◌, ◌+◌, ℕ, List, [], ◌∷◌, ◌++◌, length, codes, Option}
use Rattle.bx_book.specs.Rows.{span_of}
use Rattle.bx_calendar.specs.declared.clock.Clock.{Clock}
use Rattle.bx_day.specs.Day.{Day}
use Rattle.bx_records.specs.Records.{IsTimeText}
use Rattle.bx_office_world.specs.Answers.{IsNoRecords}
use Rattle.bx_office_world.specs.FreeStarts.{IsFreeStart}
use Rattle.bx_office_world.specs.Wishes.{IsWishOf, IsNoWish}
use Rattle.bx_office_world.specs.declared.desk.Opened.{Opened}
use Rattle.bx_office_world.specs.declared.fault.NoAnswer.{NoAnswer}
use Rattle.bx_office_world.specs.declared.wish.Wish.{Wish}

-- ---- intervals of seconds

-- from one second to another, both among them
pub record Interval : Type 0 where
  pub from : ℕ
  pub until : ℕ

-- the first interval from a second on of which something holds, and it is maximal: not of the second before, nor of the one after
pub record IsNextInterval (P : ℕ → Type 0) (begin : ℕ) (i : Interval) : Type 0 where
  pub begins : begin ≤ i.from
  pub in_order : i.from ≤ i.until
  pub before : (second : ℕ) → begin ≤ second → second < i.from → ¬ P second
  pub within : (second : ℕ) → i.from ≤ second → second ≤ i.until → P second
  pub after : ¬ P (i.until + 1)

-- one after another, and nothing holds of any second between them
abbrev pub AreInTurn : (ℕ → Type 0) → ℕ → List Interval → ℕ → Type 0
AreInTurn P begin [] rest = begin ≡ rest
AreInTurn P begin (i ∷ more) rest = IsNextInterval P begin i × AreInTurn P (i.until + 1) more rest

-- the first hundred of them, or all that there are
pub record AreFirstIntervals (P : ℕ → Type 0) (intervals : List Interval) : Type 0 where
  pub rest : ℕ
  pub in_turn : AreInTurn P 0 intervals rest
  pub few : length intervals ≤ 100
  pub last : ((second : ℕ) → rest ≤ second → ¬ P second) ⊎ (length intervals ≡ 100)

-- ---- lines

-- the line of an interval: its first and its last second, as the records tell a moment
abbrev pub IsIntervalLine : Option Clock → Interval → List ℕ → Type 0
IsIntervalLine clock i line = (from until : List ℕ) × IsTimeText clock i.from from × IsTimeText clock i.until until × (line ≡ from ++ codes "," ++ until ++ codes "\n")

abbrev pub AreIntervalLines : Option Clock → List Interval → List ℕ → Type 0
AreIntervalLines clock [] text = text ≡ []
AreIntervalLines clock (i ∷ more) text = (line rest : List ℕ) × IsIntervalLine clock i line × AreIntervalLines clock more rest × (text ≡ line ++ rest)

-- after what stood before
pub record AreIntervalsTold (clock : Option Clock) (P : ℕ → Type 0) (before text : List ℕ) : Type 0 where
  pub intervals : List Interval
  pub first : AreFirstIntervals P intervals
  pub lines : List ℕ
  pub told : AreIntervalLines clock intervals lines
  pub are : text ≡ before ++ lines

abbrev pub IsFreeText : Option Clock → (ℕ → Type 0) → List ℕ → Type 0
IsFreeText clock P text = AreIntervalsTold clock P (codes "from,until\n") text

-- ---- what is answered

-- the free starts of the call that a query wishes for
pub record IsFreeAnswered (opened : Opened) (d : Day) (query text : List ℕ) : Type 0 where
  pub wish : Wish
  pub is : IsWishOf query (span_of opened.day) opened.last wish
  pub told : IsFreeText opened.clock (IsFreeStart opened d wish) text

-- why there are none: the query wishes for no call, the clock has no such time, or memory runs out
abbrev pub IsFreeUnanswered : Opened → List ℕ → NoAnswer → Type 0
IsFreeUnanswered opened query why = IsNoWish query (span_of opened.day) why ⊎ IsNoRecords opened.clock why
