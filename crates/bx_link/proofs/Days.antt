-- The day of a run is the one after the events that its acts tell.
use Rattle.std.proofs.Common.{◌≡◌, ℕ, ◌+◌, ◌==◌, List, [], ◌∷◌, refl, sym, ap, ◌∙◌, true, false, Bool, Result, Ok, Err, if◌then◌else◌}
use Rattle.bx_events.specs.Events.{Receive}
use Rattle.bx_frames.specs.declared.fault.LinkFault.{LinkFault}
use Rattle.bx_frames.specs.declared.frame.Frame.{Frame}
use Rattle.bx_frames.specs.declared.frame.Frame.TheVariants as frames
use Rattle.bx_far.specs.FarDay.{FarDay}
use Rattle.bx_far.specs.Course.{far_line_next, far_live_after, far_line_text}
use Rattle.bx_live.specs.declared.world.Begin.{Begin}
use Rattle.bx_live.specs.declared.world.Begin.TheVariants as begins
use Rattle.bx_live.specs.declared.world.Loss.{Loss}
use Rattle.bx_live.specs.Acts.{Act, Began, Wrote, Read}
use Rattle.bx_link.specs.Events.{far_events}
use Rattle.bx_link.specs.Runs.{FarPlace, Between, Owing, Hearing, Losing, IsFarActDue, IsFarRun, far_run_next, far_day_at, far_owing}
use Rattle.bx_link.proofs.Due.{by_due}

-- the day after the events of acts
abbrev pub far_after : List Act → FarDay → FarDay
far_after acts d = far_live_after (far_events acts) d

-- ---- the day after one act

abbrev Steps : FarPlace → Act → Type 0
Steps p act = far_day_at (far_run_next p act) ≡ far_after (act ∷ []) (far_day_at p)

begun_day : (d : FarDay) (begin : Begin) → Steps (Between d) (Began (d.moment + 1) begin)
begun_day d begins.Late = refl
begun_day d begin = refl

wrote_day : (d : FarDay) (room : ℕ) (text : List ℕ) (done : Bool) → Steps (Owing d room text) (Wrote text done)
wrote_day d room text true = refl
wrote_day d room text false = refl

owing_day : (d : FarDay) (room : ℕ) (text : List ℕ) → far_day_at (far_owing d room text) ≡ d
owing_day d room [] = refl
owing_day d room (octet ∷ text) = refl

either_day : (b : Bool) (d : FarDay) (loss : Loss) → far_day_at (if b then Between d else Losing d loss) ≡ d
either_day true d loss = refl
either_day false d loss = refl

heard_day : (d : FarDay) (room : ℕ) (answer : Result Frame LinkFault) → Steps (Hearing d room) (Read room answer)
heard_day d room (Ok (frames.Message octets)) = owing_day (far_line_next d (Receive octets.items)) _ (far_line_text d (Receive octets.items))
heard_day d room (Ok (frames.EndOfTurn said)) = either_day (said == d.moment) d _
heard_day d room (Ok frames.EndOfDay) = refl
heard_day d room (Err fault) = refl

pub step_day : (p : FarPlace) (act : Act) → IsFarActDue p act → Steps p act
step_day = by_due Steps begun_day wrote_day heard_day (λ d loss. refl) (λ d. refl) (λ d. refl)

-- ---- and after more

pub more_taken : (act : Act) (acts : List Act) (d : FarDay) → far_after (act ∷ acts) d ≡ far_after acts (far_after (act ∷ []) d)
more_taken (Began second begins.Late) acts d = refl
more_taken (Read room (Ok frames.EndOfDay)) acts d = refl
more_taken act acts d = refl

pub run_day : (p q : FarPlace) (acts : List Act) → IsFarRun p acts q → far_day_at q ≡ far_after acts (far_day_at p)
run_day p q [] e = ap far_day_at (sym e)
run_day p q (act ∷ acts) (due, goes) = run_day (far_run_next p act) q acts goes ∙ (ap (far_after acts) (step_day p act due) ∙ sym (more_taken act acts (far_day_at p)))
