-- Private: what is counted while the day runs.
use Rattle.std.specs.Prelude.{◌≡◌, ◌⊎◌, ℕ, ◌+◌, ◌-◌, ◌/◌, min, Bool, true, false, if◌then◌else◌, List, [], ◌∷◌, slice_set, slice_index, Option, Some, None, option_map, Result, Ok, Err}
use Rattle.bx_office_world.specs.declared.metrics.Figures.{Figures}
use Rattle.bx_day_chart.specs.Outages.{noted}
use Rattle.bx_day_chart.specs.declared.outages.Outage.{Outage}
use Rattle.bx_events.specs.Events.{LiveEvent, Amended}
use Rattle.bx_events.specs.declared.amendment.Amendment.TheVariants.{Dropped}
use Rattle.bx_live.specs.declared.world.Begin.{Begin}
use Rattle.bx_live.specs.declared.world.Begin.TheVariants as begins
use Rattle.bx_live.specs.declared.schedule.TheConstants.{SECOND}
use Rattle.bx_market.specs.declared.market.Answer.{Answer}
use Rattle.bx_market.specs.declared.market.Answer.TheVariants as answers
use Rattle.bx_q931.specs.Messages.{PlainMessage, message_at}
use Rattle.bx_q931.specs.Values.{cause_of}
use Rattle.bx_q931.specs.declared.fault.MessageFault.{MessageFault}
use Rattle.bx_q931.specs.declared.kind.Kind.{Kind}
use Rattle.bx_q931.specs.declared.kind.Kind.TheVariants as kinds

-- one more, up to the largest number of 64 bits
abbrev pub count_one_more : ℕ → ℕ
count_one_more n = min (n + 1) 18446744073709551615

-- a second by how it begins, which is kept
abbrev pub begin_counted : Begin → Figures → Figures
begin_counted begins.Alone f = record f { begun = Some begins.Alone; alone = count_one_more f.alone }
begin_counted begins.Late f = record f { begun = Some begins.Late; late = count_one_more f.late }
begin_counted begin f = record f { begun = Some begin }

abbrev pub is_without_link : Begin → Bool
is_without_link begins.Alone = true
is_without_link begins.Late = true
is_without_link _ = false

-- a second without a link is noted, or there was no memory for it; any other changes nothing
abbrev pub IsOutageNoted : Bool → ℕ → List Outage → List Outage → Type 0
IsOutageNoted true second old new = (new ≡ noted second old) ⊎ (new ≡ old)
IsOutageNoted false second old new = new ≡ old

-- a message that clears a call
abbrev pub clears : Kind → Bool
clears kinds.Disconnect = true
clears kinds.Release = true
clears kinds.ReleaseComplete = true
clears _ = false

abbrev pub cleared_by : Result PlainMessage MessageFault → Option ℕ
cleared_by (Ok m) = if clears m.kind then cause_of m else None
cleared_by (Err fault) = None

abbrev pub cleared_in : List ℕ → Option ℕ
cleared_in octets = cleared_by (message_at octets)

abbrev pub cleared : Option ℕ → Figures → Figures
cleared None f = f
cleared (Some cause) f = record f { clearings = slice_set f.clearings cause (count_one_more (slice_index f.clearings cause)) }

-- how many were sold, with those of a batch
abbrev pub sold_in_batch : ℕ → List Answer → ℕ
sold_in_batch sold [] = sold
sold_in_batch sold (answers.Accepted ∷ more) = sold_in_batch (count_one_more sold) more
sold_in_batch sold (answers.Refused why ∷ more) = sold_in_batch sold more

-- an event by which a booking is given up for want of a channel
abbrev pub drop_counted : LiveEvent → Figures → Figures
drop_counted (Amended Dropped line) f = record f { dropped = count_one_more f.dropped }
drop_counted event f = f

-- whole seconds between two readings of a clock, in nanoseconds
abbrev pub seconds_since : Option ℕ → ℕ → Option ℕ
seconds_since first now = option_map (λ at. min ((now - at) / SECOND) 18446744073709551615) first
