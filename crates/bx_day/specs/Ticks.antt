-- A second: what it does to each booking and to the channels in maintenance, and what is said in it. With a link to the far
-- end it is a tick, and what is said is sent.
use Rattle.std.specs.Prelude.{ℕ, ◌+◌, ◌==◌, nat_le, ◌&&◌, ◌||◌, not, Bool, false, List, [], ◌∷◌, map, Some, if◌then◌else◌, ◌≤◌, length}
use Rattle.std.specs.List.{list_any, flat_map}
use Rattle.bx_q931.specs.Outgoing.{Outgoing}
use Rattle.bx_events.specs.declared.rules.Rules.{Rules}
use Rattle.bx_calls.specs.Shared.{cons_some}
use Rattle.bx_calls.specs.NetTable.{net_second, net_unlinked, net_offered}
use Rattle.bx_calls.specs.Saying.{setup_of}
use Rattle.bx_day.specs.declared.entry.Activity.TheVariants.{Never}
use Rattle.bx_day.specs.declared.entry.Standing.{Standing}
use Rattle.bx_day.specs.declared.entry.Standing.TheVariants.{Unoffered, OnCall, Missed}
use Rattle.bx_day.specs.declared.entry.Entry.{Entry}
use Rattle.bx_day.specs.declared.entry.Moved.{Moved}
use Rattle.bx_day.specs.declared.entry.Link.{Link}
use Rattle.bx_day.specs.declared.entry.Link.TheVariants.{Up, Down}
use Rattle.bx_base.specs.Bookings.{is_running}
use Rattle.bx_calls.specs.Sending.{Sent}
use Rattle.bx_day.specs.Moves.{becomes, stays, follows}
use Rattle.bx_day.specs.Day.{Day, every_channel, is_back, is_free}
use Rattle.bx_events.specs.declared.moment.TheConstants.{LAST_MOMENT}

-- an unoffered booking at a tick to moment t; back says whether there was no link in the second before, free whether its channel
-- was neither held nor in maintenance
abbrev pub waits : Entry → ℕ → Bool → Bool → Moved
waits e t back free =
    if is_running e.booking t && not e.booking.inward && free
    then becomes (OnCall (net_offered e.reference e.channel e.booking.number back t) Never) (Some (setup_of e.reference e.channel e.booking.number))
    else if nat_le e.booking.end t then stays Missed else stays Unoffered

-- a booking of which this has become, at a tick to moment t
abbrev pub second_at : Entry → ℕ → Bool → Bool → Standing → Moved
second_at e t back free (OnCall call activity) = follows activity t (net_second call t e.booking.end)
second_at e t back free Unoffered = waits e t back free
second_at e t back free s = stays s

-- a booking in a second to moment t without a link, by these rules: no timer runs, and nothing is offered
abbrev pub unlinked_at : Rules → Entry → ℕ → Standing → Moved
unlinked_at rules e t (OnCall call activity) = follows activity t (net_unlinked rules 1 call t e.booking.end)
unlinked_at rules e t s = second_at e t false false s

-- by whether there is a link
abbrev pub second_by : Link → Entry → ℕ → Bool → Bool → Standing → Moved
second_by Up e t back free s = second_at e t back free s
second_by (Down rules) e t back free s = unlinked_at rules e t s

abbrev pub second_in : Link → Day → Entry → Moved
second_in link d e = second_by link e (d.moment + 1) (is_back d) (is_free d e.channel) e.standing

abbrev pub after_in : Link → Day → Entry → Entry
after_in link d e = record e { standing = (second_in link d e).standing }

-- what is said on a channel in a second
abbrev pub said_in : Link → Day → ℕ → List Entry → List Outgoing
said_in link d c [] = []
said_in link d c (e ∷ es) = if e.channel == c then cons_some (second_in link d e).said (said_in link d c es) else said_in link d c es

abbrev pub breaks_in : Link → Day → ℕ → Entry → Bool
breaks_in link d c e = (second_in link d e).broken && (e.channel == c)

-- the channels in maintenance after a second, from channel c on
abbrev pub maintained_in : Link → Day → ℕ → List Bool → List Bool
maintained_in link d c [] = []
maintained_in link d c (b ∷ bs) = (b || list_any (breaks_in link d c) d.entries) ∷ maintained_in link d (c + 1) bs

-- one more than the moment that the last second without a link came to, after a second at this moment
abbrev pub unlinked_after : Link → ℕ → ℕ → ℕ
unlinked_after Up moment unlinked = unlinked
unlinked_after (Down rules) moment unlinked = moment + 2

-- a second, and what is said in it
abbrev pub passed_in : Link → Day → Sent Day
passed_in link d = record {
  day = record { moment = d.moment + 1; unlinked = unlinked_after link d.moment d.unlinked; entries = map (after_in link d) d.entries; maintenance = maintained_in link d 0 d.maintenance };
  sent = flat_map (λ c. said_in link d c d.entries) every_channel;
}

-- ---- a tick

abbrev pub said_on : Day → ℕ → List Entry → List Outgoing
said_on d c es = said_in Up d c es

abbrev pub ticked : Day → Sent Day
ticked d = passed_in Up d

abbrev pub tick : Day → Sent Day
tick d = if nat_le LAST_MOMENT d.moment then record { day = d; sent = [] } else ticked d

-- at most one message on each channel
abbrev pub SaysOnce : Day → Type 0
SaysOnce d = (c : ℕ) → length (said_on d c d.entries) ≤ 1
