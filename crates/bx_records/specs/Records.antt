-- The records of a day: what is written of each booking.
use Rattle.std.specs.Prelude.{◌≡◌, ℕ, ◌-◌, Bool, List, [], ◌∷◌, ◌++◌, Option, Some, None, codes, decimal, if◌then◌else◌}
use Rattle.bx_calendar.specs.Clocks.{IsLocalTime}
use Rattle.bx_calendar.specs.declared.clock.Clock.{Clock}
use Rattle.bx_day.specs.declared.entry.Activity.{Activity}
use Rattle.bx_day.specs.declared.entry.Activity.TheVariants.{Never, Since, Was}
use Rattle.bx_day.specs.declared.entry.Entry.{Entry}
use Rattle.bx_day.specs.declared.entry.Standing.{Standing}
use Rattle.bx_day.specs.declared.entry.Standing.TheVariants.{Refused, Unoffered, OnCall, Carried, Unanswered, Missed}

-- ---- what has become of a booking

abbrev pub outcome_word : Standing → List ℕ
outcome_word Refused = codes "refused"
outcome_word Unoffered = codes "waiting"
outcome_word (OnCall call activity) = codes "live"
outcome_word (Carried from until) = codes "carried"
outcome_word Unanswered = codes "unanswered"
outcome_word Missed = codes "missed"

-- the moment at which its call became Active
abbrev pub first_active : Activity → Option ℕ
first_active Never = None
first_active (Since from) = Some from
first_active (Was from until) = Some from

abbrev pub from_of : Standing → Option ℕ
from_of (OnCall call activity) = first_active activity
from_of (Carried from until) = Some from
from_of _ = None

-- the moment at which it was Active no more, of a call that is over
abbrev pub until_of : Standing → Option ℕ
until_of (Carried from until) = Some until
until_of _ = None

-- ---- fields

abbrev pub direction : Bool → List ℕ
direction inward = if inward then codes "in" else codes "out"

-- a booking that the plan does not accept has no channel
abbrev pub channel_text : Entry → Standing → List ℕ
channel_text e Refused = []
channel_text e _ = decimal e.channel

abbrev pub seconds_text : Standing → List ℕ
seconds_text (Carried from until) = decimal (until - from)
seconds_text _ = []

-- a moment: the second of the day, or where a clock is given the local time then
abbrev pub IsTimeText : Option Clock → ℕ → List ℕ → Type 0
IsTimeText None moment text = text ≡ decimal moment
IsTimeText (Some clock) moment text = IsLocalTime clock moment text

-- or nothing
abbrev pub IsTimeTextOf : Option Clock → Option ℕ → List ℕ → Type 0
IsTimeTextOf clock None text = text ≡ []
IsTimeTextOf clock (Some moment) text = IsTimeText clock moment text

-- ---- lines

abbrev pub header : List ℕ
header = codes "row,direction,number,channel,start,end,pay,outcome,from,until,seconds\n"

-- the texts of a line's four moments
pub record Moments (clock : Option Clock) (e : Entry) : Type 0 where
  pub start : List ℕ
  pub end : List ℕ
  pub from : List ℕ
  pub until : List ℕ
  pub start_of : IsTimeText clock e.booking.start start
  pub end_of : IsTimeText clock e.booking.end end
  pub from_of : IsTimeTextOf clock (from_of e.standing) from
  pub until_of : IsTimeTextOf clock (until_of e.standing) until

abbrev pub booked_text : Entry → List ℕ
booked_text e = decimal e.row ++ 44 ∷ direction e.booking.inward ++ 44 ∷ e.booking.number ++ 44 ∷ channel_text e e.standing ++ 44 ∷ []

-- the line of a booking
abbrev pub IsRecord : Option Clock → Entry → List ℕ → Type 0
IsRecord clock e line = (moments : Moments clock e) × (line ≡ booked_text e
    ++ (moments.start ++ 44 ∷ []) ++ (moments.end ++ 44 ∷ [])
    ++ (decimal e.booking.pay ++ 44 ∷ outcome_word e.standing ++ 44 ∷ [])
    ++ (moments.from ++ 44 ∷ []) ++ (moments.until ++ 44 ∷ []) ++ (seconds_text e.standing ++ 10 ∷ []))

-- a line for each
abbrev pub AreRecords : Option Clock → List Entry → List ℕ → Type 0
AreRecords clock [] text = text ≡ []
AreRecords clock (e ∷ es) text = (line rest : List ℕ) × IsRecord clock e line × AreRecords clock es rest × (text ≡ line ++ rest)

-- after the header
abbrev pub IsRecordsText : Option Clock → List Entry → List ℕ → Type 0
IsRecordsText clock entries text = (lines : List ℕ) × AreRecords clock entries lines × (text ≡ header ++ lines)
