-- How the day goes, and whether a call could be carried now.
use Rattle.std.specs.Prelude.{ℕ, ◌==◌, ◌&&◌, not, nat_le, Bool, true, false, List, ◌++◌, codes, Option, Some, None, if◌then◌else◌}
use Rattle.bx_base.specs.Channels.{has_channel}
use Rattle.bx_base.specs.Sums.{sum_below}
use Rattle.bx_channels.specs.Marks.{is_marked}
use Rattle.bx_day.specs.Day.{Day}
use Rattle.bx_live.specs.declared.world.Begin.{Begin}
use Rattle.bx_live.specs.declared.world.Begin.TheVariants as begins
use Rattle.bx_office_world.specs.Maintenance.{is_b_channel, maintained}
use Rattle.bx_office_world.specs.Metrics.{family_text}
use Rattle.bx_office_world.specs.declared.desk.Opened.{Opened}
use Rattle.bx_office_world.specs.declared.health.Readiness.{Readiness}
use Rattle.bx_office_world.specs.declared.health.Readiness.TheVariants.{Ready, NotBegun, Over, NoLink, NoChannel}
use Rattle.bx_office_world.specs.declared.metrics.Figures.{Figures}

-- ---- how the last second began

abbrev pub was_joined : Option Begin → Bool
was_joined (Some begins.Joined) = true
was_joined _ = false

-- ---- how the day goes

abbrev pub pace_words : Option Begin → List ℕ
pace_words None = codes "not begun\n"
pace_words (Some begins.Late) = codes "late\n"
pace_words (Some begin) = codes "in time\n"

abbrev pub health_link : Bool → List ℕ
health_link true = codes "link up\n"
health_link false = codes "link none\n"

abbrev pub health_text : Day → Figures → List ℕ
health_text d figures = pace_words figures.begun ++ health_link (was_joined figures.begun) ++ family_text (codes "late seconds ") figures.late ++ family_text (codes "channels in maintenance ") (maintained d)

-- ---- whether a call could be carried now

-- a channel is in service, and not in maintenance
abbrev pub is_served : Day → List Bool → ℕ → Bool
is_served d channels n = is_b_channel n && (has_channel channels n && not (is_marked d.maintenance n))

abbrev pub served_below : Day → List Bool → ℕ → ℕ
served_below d channels n = sum_below n (λ c. if is_served d channels c then 1 else 0)

abbrev pub served : Day → List Bool → ℕ
served d channels = served_below d channels 32

-- the first reason that there is
abbrev pub ready_now : Opened → Day → Figures → Readiness
ready_now opened d figures =
    if d.moment == 0 then NotBegun
    else (if nat_le opened.last d.moment then Over
    else (if not (was_joined figures.begun) then NoLink
    else (if served d opened.channels == 0 then NoChannel
    else Ready)))

abbrev pub ready_words : Readiness → List ℕ
ready_words Ready = codes "ready\n"
ready_words NotBegun = codes "the day has not begun\n"
ready_words Over = codes "the day is over\n"
ready_words NoLink = codes "no link\n"
ready_words NoChannel = codes "no channel\n"
