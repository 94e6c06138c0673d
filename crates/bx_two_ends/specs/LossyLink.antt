-- Both ends in turns over a link that is lost now and then, and messages with it: what is planned is earned all the same.
use Rattle.std.specs.Prelude.{◌≡◌, ℕ, ◌+◌, ◌≤◌, ◌<◌, max, Bool, true, false, List, [], ◌∷◌, ◌++◌, length, map, replicate, Option, if◌then◌else◌}
use Rattle.bx_base.specs.Bookings.{Row, row_at, AreBookings, Carries}
use Rattle.bx_base.specs.Channels.{IsChannelSet}
use Rattle.bx_base.specs.Plans.{is_accepted, channel_at}
use Rattle.bx_channels.specs.Marks.{is_marked}
use Rattle.bx_q931.specs.Outgoing.{Outgoing, out_octets}
use Rattle.bx_day.specs.Day.{is_live}
use Rattle.bx_day.specs.Law.{OnLive, standing_at}
use Rattle.bx_day.specs.Moves.{is_active}
use Rattle.bx_day.specs.Outages.{without_link}
use Rattle.bx_day.specs.Ticks.{tick}
use Rattle.bx_events.specs.declared.moment.TheConstants.{LAST_MOMENT}
use Rattle.bx_far.specs.FarDay.{FarDay, far_tick, far_without_link}
use Rattle.bx_far.specs.declared.row.ScriptRow.{ScriptRow}
use Rattle.bx_two_ends.specs.Earning.{heard_in, IsCarriedBy}
use Rattle.bx_two_ends.specs.Lockstep.{Ends, far_heard, far_says, exchange_says, ends_after, ends_opening, AnswersAtOnce}

-- a second of both ends
pub data LinkSecond : Type 0 where
  -- all that is said comes
  Whole : LinkSecond
  -- only some comes: which messages of the exchange's tick, which of those that the far end says, and which of what the exchange says to these
  Cut : (calls answers replies : List Bool) → LinkSecond
  -- there is no link
  Lost : LinkSecond

-- those of these messages that come
abbrev pub coming : List Bool → List Outgoing → List Outgoing
coming [] messages = []
coming (comes ∷ rest) [] = []
coming (comes ∷ rest) (o ∷ os) = if comes then o ∷ coming rest os else coming rest os

-- ---- a turn of which only some comes

abbrev pub calls_in : List Bool → Ends → List Outgoing
calls_in calls e = coming calls (tick e.exchange).sent

abbrev pub far_called_in : List Bool → Ends → FarDay
far_called_in calls e = far_heard (calls_in calls e) e.far

abbrev pub answers_in : List Bool → List Bool → Ends → List Outgoing
answers_in calls answers e = coming answers (e.pending ++ (far_says (calls_in calls e) e.far ++ (far_tick (far_called_in calls e)).sent))

abbrev pub replies_of : List Bool → List Bool → List Bool → Ends → List Outgoing
replies_of calls answers replies e = coming replies (exchange_says (answers_in calls answers e) (tick e.exchange).day)

abbrev pub ends_cut : List Bool → List Bool → List Bool → Ends → Ends
ends_cut calls answers replies e = record {
  exchange = heard_in (map (λ o. out_octets o) (answers_in calls answers e)) (tick e.exchange).day;
  far = far_heard (replies_of calls answers replies e) (far_tick (far_called_in calls e)).day;
  pending = far_says (replies_of calls answers replies e) (far_tick (far_called_in calls e)).day;
}

-- ---- seconds

-- what is on its way is lost with the link
abbrev pub ends_apart : Ends → Ends
ends_apart e = record { exchange = without_link e.exchange; far = far_without_link e.far; pending = [] }

abbrev pub ends_in : LinkSecond → Ends → Ends
ends_in Whole e = ends_after e
ends_in (Cut calls answers replies) e = ends_cut calls answers replies e
ends_in Lost e = ends_apart e

abbrev pub ends_over : List LinkSecond → Ends → Ends
ends_over [] e = e
ends_over (second ∷ seconds) e = ends_over seconds (ends_in second e)

-- messages are lost with the link alone: behind a second of which only some come there is one without a link
abbrev pub LosesWithLink : List LinkSecond → Type 0
LosesWithLink [] = Unit {0}
LosesWithLink (Whole ∷ seconds) = LosesWithLink seconds
LosesWithLink (Lost ∷ seconds) = LosesWithLink seconds
LosesWithLink (Cut calls answers replies ∷ Lost ∷ seconds) = LosesWithLink seconds
LosesWithLink (Cut calls answers replies ∷ seconds) = ⊥

-- a day of both ends: these seconds, and then so many with a whole link
abbrev pub day_of_both : List Row → List (Option ℕ) → List ScriptRow → List LinkSecond → ℕ → Ends
day_of_both rows assigned script seconds whole = ends_over (seconds ++ replicate whole Whole) (ends_opening rows assigned script)

-- an outward booking of two seconds or more that runs on for six seconds with a whole link, and its end, where the link is whole from so many
-- seconds on, for so many
pub record IsLongBehind (rows : List Row) (assigned : List (Option ℕ)) (i broken whole : ℕ) : Type 0 where
  pub inside : i < length rows
  pub accepted : is_accepted assigned i ≡ true
  pub outward : (row_at rows i).inward ≡ false
  pub seconds : (row_at rows i).start + 1 < (row_at rows i).end
  pub behind : broken + 6 < (row_at rows i).end
  pub over : (row_at rows i).end ≤ broken + whole

-- such a booking that runs on for six seconds with a whole link, of so many between what was lost before and what is lost after, and which ends
-- within these, the others and so many with a whole link, of which there are five or more
pub record IsLongBetween (rows : List Row) (assigned : List (Option ℕ)) (i broken between lost whole : ℕ) : Type 0 where
  pub inside : i < length rows
  pub accepted : is_accepted assigned i ≡ true
  pub outward : (row_at rows i).inward ≡ false
  pub seconds : (row_at rows i).start + 1 < (row_at rows i).end
  pub later : broken + 6 < (row_at rows i).end
  pub begun : (row_at rows i).start + 1 ≤ broken + between
  pub six : 6 ≤ between
  pub over : (row_at rows i).end ≤ broken + between + lost + whole
  pub last : 5 ≤ whole

-- a booking whose call is up behind these seconds, and which ends within these, the others and so many with a whole link, of which there are five
-- or more
pub record IsUpWithin (rows : List Row) (assigned : List (Option ℕ)) (script : List ScriptRow) (before after : List LinkSecond) (whole i : ℕ) : Type 0 where
  pub inside : i < length rows
  pub live : is_live (standing_at (ends_over before (ends_opening rows assigned script)).exchange i) ≡ true
  pub up : OnLive (standing_at (ends_over before (ends_opening rows assigned script)).exchange i) (λ call a. is_active call.state ≡ true)
  pub runs : length before < (row_at rows i).end
  pub over : (row_at rows i).end ≤ length (before ++ after) + whole
  pub five : 5 ≤ whole

-- ---- the laws, of every carried plan, and a script that answers each call at once

-- such a booking is carried to its end, whatever was lost before: from a second after its start, or from six seconds behind what was lost
abbrev pub IsCarriedBehindOutages : Type 0
IsCarriedBehindOutages =
    (rows : List Row) (channels : List Bool) (assigned : List (Option ℕ)) (script : List ScriptRow) (seconds : List LinkSecond) (whole i : ℕ) →
    AreBookings rows →
    IsChannelSet channels →
    Carries rows channels (is_accepted assigned) (channel_at assigned) →
    AnswersAtOnce script →
    LosesWithLink seconds →
    length seconds + whole ≤ LAST_MOMENT →
    IsLongBehind rows assigned i (length seconds) whole →
    IsCarriedBy (max ((row_at rows i).start + 1) (length seconds + 6)) (row_at rows i).end
    (standing_at (day_of_both rows assigned script seconds whole).exchange i)

-- and whatever is lost again after these six seconds
abbrev pub IsCarriedBetweenOutages : Type 0
IsCarriedBetweenOutages =
    (rows : List Row) (channels : List Bool) (assigned : List (Option ℕ)) (script : List ScriptRow) (before after : List LinkSecond) (between whole i : ℕ) →
    AreBookings rows →
    IsChannelSet channels →
    Carries rows channels (is_accepted assigned) (channel_at assigned) →
    AnswersAtOnce script →
    LosesWithLink before →
    LosesWithLink after →
    length before + between + length after + whole ≤ LAST_MOMENT →
    IsLongBetween rows assigned i (length before) between (length after) whole →
    IsCarriedBy (max ((row_at rows i).start + 1) (length before + 6)) (row_at rows i).end
    (standing_at (day_of_both rows assigned script ((before ++ replicate between Whole) ++ after) whole).exchange i)

-- a booking whose call is up is carried to its end, whatever is lost from then on
abbrev pub IsCarriedThroughOutages : Type 0
IsCarriedThroughOutages =
    (rows : List Row) (channels : List Bool) (assigned : List (Option ℕ)) (script : List ScriptRow) (before after : List LinkSecond) (whole i : ℕ) →
    AreBookings rows →
    IsChannelSet channels →
    Carries rows channels (is_accepted assigned) (channel_at assigned) →
    AnswersAtOnce script →
    LosesWithLink before →
    LosesWithLink after →
    length (before ++ after) + whole ≤ LAST_MOMENT →
    IsUpWithin rows assigned script before after whole i →
    IsCarriedBy (length before) (row_at rows i).end (standing_at (day_of_both rows assigned script (before ++ after) whole).exchange i)

-- and no channel gets into maintenance, at either end
abbrev pub StaysInServiceBehindOutages : Type 0
StaysInServiceBehindOutages =
    (rows : List Row) (channels : List Bool) (assigned : List (Option ℕ)) (script : List ScriptRow) (seconds : List LinkSecond) (channel : ℕ) →
    AreBookings rows →
    IsChannelSet channels →
    Carries rows channels (is_accepted assigned) (channel_at assigned) →
    AnswersAtOnce script →
    LosesWithLink seconds →
    length seconds ≤ LAST_MOMENT →
    (is_marked (ends_over seconds (ends_opening rows assigned script)).exchange.maintenance channel ≡ false)
    × (is_marked (ends_over seconds (ends_opening rows assigned script)).far.maintenance channel ≡ false)
