-- Private: how long a client has, and what one may ask for that came beyond the places.
use Rattle.std.specs.Prelude.{◌≡◌, ℕ, ◌+◌, ◌-◌, ◌*◌, ◌/◌, nat_lt, ◌&&◌, ◌||◌, not, if◌then◌else◌, Bool, true, false, length, Option, Some, None}
use Rattle.bx_office.specs.declared.gate.Route.{Route}
use Rattle.bx_office.specs.declared.gate.Route.TheVariants.{Health, Ready, Metrics}
use Rattle.bx_office.specs.declared.client.Stage.{Stage}
use Rattle.bx_office.specs.declared.client.Stage.TheVariants.{Body, Asked}
use Rattle.bx_office_door.specs.Waiting.{waits_for_answer}
use Rattle.bx_office_door.specs.declared.guest.Guest.{Guest}

-- who waits for no answer goes on so
abbrev pub StaysQuiet : Guest → Guest → Type 0
StaysQuiet old new = waits_for_answer old.client.stage ≡ false → waits_for_answer new.client.stage ≡ false

-- 10 seconds, in nanoseconds, and a second more for each 16,384 octets of a body that came; who came beyond the places has a second
abbrev pub patience_of : Bool → ℕ → ℕ
patience_of is_spare octets = if is_spare then 1_000_000_000 else 10_000_000_000 + octets / 16_384 * 1_000_000_000

-- so much time is over: since it came, was sent its last answer, or began its request; or, where others wait, since an octet went last
abbrev pub is_over_since : ℕ → Bool → Option ℕ → Guest → Bool
is_over_since now is_full None g = false
is_over_since now is_full (Some since) g =
    not (waits_for_answer g.client.stage)
    && (nat_lt (patience_of g.is_spare (length g.client.body.items)) (now - since) || (is_full && nat_lt 1_000_000_000 (now - g.heard)))

-- its time is over. One that waits for its answer has time
abbrev pub is_out_of_time : ℕ → Bool → Guest → Bool
is_out_of_time now is_full g = is_over_since now is_full g.since g

-- ---- who came beyond the places

-- what a monitor asks for
abbrev pub is_watched : Route → Bool
is_watched Health = true
is_watched Ready = true
is_watched Metrics = true
is_watched _ = false

abbrev pub may_stand : Bool → Stage → Bool
may_stand is_spare (Body route) = not is_spare || is_watched route
may_stand is_spare (Asked route) = not is_spare || is_watched route
may_stand is_spare _ = true
