-- What the laws of a far end's run, and the run itself, say.
use Rattle.std.specs.Prelude.{◌≡◌, ℕ, Bool, true, false, List, ◌∷◌, ◌++◌, min, max}
use Rattle.bx_events.specs.declared.moment.TheConstants.{LAST_MOMENT}
use Rattle.bx_far.specs.FarDay.{FarDay}
use Rattle.bx_far.specs.Course.{far_live_next, far_live_after, far_line_text}
use Rattle.bx_live.specs.Acts.{Act, Wrote, ended}
use Rattle.bx_live.specs.Written.{written, goes_well}
use Rattle.bx_link.specs.Events.{far_events, told_on_link}
use Rattle.bx_link.specs.Running.{FarRuns}
use Rattle.bx_link.specs.Runs.{FarPlace, Between, Done, IsFarRun, far_day_at}
use Rattle.bx_link.specs.Written.{IsFarWrittenFor, far_owed_at}

-- whatever is written in a run is what the far end sends for the last event
abbrev pub IsWrittenForLast : Type 0
IsWrittenForLast =
    (d : FarDay) (before following : List Act) (octets : List ℕ) (done : Bool) (to : FarPlace) →
    IsFarRun (Between d) (before ++ Wrote octets done ∷ following) to →
    IsFarWrittenFor d before octets

-- where no write fails, what is written is what the definition gives for the events, but for what is still owed
abbrev pub IsAllWritten : Type 0
IsAllWritten =
    (from to : FarPlace) (acts : List Act) →
    IsFarRun from acts to →
    goes_well acts ≡ true →
    written acts ++ far_owed_at to ≡ far_owed_at from ++ told_on_link far_live_next far_line_text (far_events acts) (far_day_at from)

-- a day was run up to this second: it went on by the events of the run, and reached the second unless the run was over before it
abbrev pub RunsFarDayTo : {W : Type 0} → (W → List Act → W → Type 0) → ℕ → W → W → FarDay → FarDay → Type 0
RunsFarDayTo did last old new d d' =
    (ran : FarRuns did old new (Between d) (Done d')) ×
    (d' ≡ far_live_after (far_events ran.acts) d) ×
    (ended ran.acts ≡ false → d'.moment ≡ max d.moment (min last LAST_MOMENT))
