-- What a customer is told of a batch.
use Rattle.std.specs.Prelude.{ℕ, ◌+◌, ◌&&◌, Bool, true, false, List, [], ◌∷◌, ◌++◌, codes, decimal, drop, nat_le, nat_lt, if◌then◌else◌}
use Rattle.bx_base.specs.Bookings.{Row}
use Rattle.bx_market.specs.declared.market.Answer.{Answer}
use Rattle.bx_market.specs.declared.market.Answer.TheVariants as answers
use Rattle.bx_sales.specs.declared.selling.NoSale.{NoSale}
use Rattle.bx_sales.specs.declared.selling.NoSale.TheVariants as reasons
use Rattle.bx_office_world.specs.Tariff.{is_paid}
use Rattle.bx_office_world.specs.declared.tariff.Terms.{Terms}

-- ---- what is offered

-- a booking starts by the last second to which the day is run
abbrev pub is_within : ℕ → Row → Bool
is_within last booking = nat_le booking.start last

-- .. and pays what a booking has to pay at least
abbrev pub is_offered : Terms → Row → Bool
is_offered terms booking = is_within terms.last booking && is_paid terms.rate booking

-- ---- why

abbrev pub reason_of : NoSale → List ℕ
reason_of reasons.Late = codes "Late"
reason_of reasons.Full = codes "Full"
reason_of reasons.NoChannel = codes "NoChannel"
reason_of reasons.TookOver = codes "TookOver"
reason_of reasons.Memory = codes "Memory"

-- a booking lasts less than three seconds
abbrev pub is_brief : Row → Bool
is_brief booking = nat_lt booking.end (booking.start + 3)

-- that it may be too short to be carried on a live line, though it is sold
abbrev pub warning_of : Row → List ℕ
warning_of booking = if is_brief booking then codes "TooShort" else []

-- ---- the lines

-- what stands after the row of the batch: an accepted booking has a row of the plan
abbrev pub answer_fields : Answer → Row → ℕ → List ℕ
answer_fields answers.Accepted booking place = codes ",accepted," ++ decimal place ++ codes "," ++ warning_of booking ++ codes "\n"
answer_fields (answers.Refused why) booking place = codes ",refused,," ++ reason_of why ++ codes "\n"

abbrev pub answer_line : ℕ → Row → Answer → ℕ → List ℕ
answer_line row booking answer place = decimal row ++ answer_fields answer booking place

-- why a booking was not offered: the first of both
abbrev pub unoffered_reason : Terms → Row → List ℕ
unoffered_reason terms booking = if is_within terms.last booking then codes "BelowRate" else codes "AfterTheDay"

-- its line
abbrev pub unoffered_line : ℕ → Terms → Row → List ℕ
unoffered_line row terms booking = decimal row ++ codes ",refused,," ++ unoffered_reason terms booking ++ codes "\n"

abbrev pub is_sold_answer : Answer → Bool
is_sold_answer answers.Accepted = true
is_sold_answer (answers.Refused why) = false

-- the first of the answers that are left; what has none is not sold
abbrev pub next_answer : List Answer → Answer
next_answer [] = answers.Refused reasons.Memory
next_answer (answer ∷ more) = answer

-- the lines of bookings of a batch from this row of it on, where the next row of the plan is at hand, and what was told of those that were offered
abbrev pub sold_lines : Terms → ℕ → ℕ → List Row → List Answer → List ℕ
sold_lines terms row place [] told = []
sold_lines terms row place (booking ∷ wanted) told =
    if is_offered terms booking
    then answer_line row booking (next_answer told) place ++ sold_lines terms (row + 1) (if is_sold_answer (next_answer told) then place + 1 else place) wanted (drop 1 told)
    else (unoffered_line row terms booking ++ sold_lines terms (row + 1) place wanted told)

-- by these terms, after so many rows of the plan
abbrev pub sold_text : Terms → ℕ → List Row → List Answer → List ℕ
sold_text terms rows wanted told = codes "row,answer,plan row,reason\n" ++ sold_lines terms 1 (rows + 1) wanted told
