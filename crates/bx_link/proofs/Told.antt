-- In a run in which no write fails just what is sent for the events is written, in order and once.
use Rattle.std.proofs.Common.{◌≡◌, ℕ, ◌+◌, List, [], ◌∷◌, ◌++◌, refl, sym, ap, ◌∙◌, true, false, Bool, Result, Ok, Err, ◌==◌, if◌then◌else◌}
use Rattle.std.proofs.lemmas.List.{append-nil, append_assoc}
use Rattle.bx_events.specs.Events.{Tick, Receive}
use Rattle.bx_frames.specs.declared.fault.LinkFault.{LinkFault}
use Rattle.bx_frames.specs.declared.frame.Frame.{Frame}
use Rattle.bx_frames.specs.declared.frame.Frame.TheVariants as frames
use Rattle.bx_far.specs.FarDay.{FarDay}
use Rattle.bx_far.specs.Course.{far_line_next, far_live_next, far_line_text}
use Rattle.bx_live.specs.declared.world.Begin.{Begin}
use Rattle.bx_live.specs.declared.world.Begin.TheVariants as begins
use Rattle.bx_live.specs.declared.world.Loss.{Loss}
use Rattle.bx_live.specs.Acts.{Act, Began, Logged, Synced, Wrote, Read}
use Rattle.bx_live.specs.Written.{written, goes_well}
use Rattle.bx_link.specs.Events.{far_events, told_on_link}
use Rattle.bx_link.specs.Runs.{FarPlace, Between, Owing, Hearing, Losing, IsFarActDue, IsFarRun, far_run_next, far_day_at, far_owing}
use Rattle.bx_link.specs.Written.{far_owed_at}
use Rattle.bx_link.proofs.Due.{by_due}
use Rattle.bx_link.proofs.Days.{far_after, step_day}

-- what is told for acts
abbrev far_told : List Act → FarDay → List ℕ
far_told acts d = told_on_link far_live_next far_line_text (far_events acts) d

-- ---- one act, and more

more_written : (act : Act) (acts : List Act) → written (act ∷ acts) ≡ written (act ∷ []) ++ written acts
more_written (Wrote octets true) acts = ap (λ xs. xs ++ written acts) (sym (append-nil octets))
more_written act acts = refl

more_told : (act : Act) (acts : List Act) (d : FarDay) → far_told (act ∷ acts) d ≡ far_told (act ∷ []) d ++ far_told acts (far_after (act ∷ []) d)
more_told (Began second begins.Joined) acts d = ap (λ xs. xs ++ far_told acts (far_line_next d Tick)) (sym (append-nil (far_line_text d Tick)))
more_told (Read room (Ok (frames.Message octets))) acts d = ap (λ xs. xs ++ far_told acts (far_line_next d (Receive octets.items))) (sym (append-nil (far_line_text d (Receive octets.items))))
more_told act acts d = refl

first_well : (act : Act) (acts : List Act) → goes_well (act ∷ acts) ≡ true → goes_well (act ∷ []) ≡ true
first_well (Logged event false) acts e = e
first_well (Synced false) acts e = e
first_well (Wrote octets false) acts e = e
first_well act acts e = refl

rest_well : (act : Act) (acts : List Act) → goes_well (act ∷ acts) ≡ true → goes_well acts ≡ true
rest_well (Logged event false) acts e = cc
rest_well (Synced false) acts e = cc
rest_well (Wrote octets false) acts e = cc
rest_well act acts e = e

-- ---- what is written, and what is owed after it

abbrev Tells : FarPlace → Act → Type 0
Tells p act = goes_well (act ∷ []) ≡ true → written (act ∷ []) ++ far_owed_at (far_run_next p act) ≡ far_owed_at p ++ far_told (act ∷ []) (far_day_at p)

tells_begun : (d : FarDay) (begin : Begin) → Tells (Between d) (Began (d.moment + 1) begin)
tells_begun d begins.Joined well = sym (append-nil (far_line_text d Tick))
tells_begun d begin well = refl

tells_wrote : (d : FarDay) (room : ℕ) (text : List ℕ) (done : Bool) → Tells (Owing d room text) (Wrote text done)
tells_wrote d room text true well = append-nil (text ++ [])
tells_wrote d room text false well = cc

owes_text : (d : FarDay) (room : ℕ) (text : List ℕ) → far_owed_at (far_owing d room text) ≡ text ++ []
owes_text d room [] = refl
owes_text d room (octet ∷ text) = sym (append-nil (octet ∷ text))

either_owed : (b : Bool) (d : FarDay) (loss : Loss) → far_owed_at (if b then Between d else Losing d loss) ≡ []
either_owed true d loss = refl
either_owed false d loss = refl

tells_heard : (d : FarDay) (room : ℕ) (answer : Result Frame LinkFault) → Tells (Hearing d room) (Read room answer)
tells_heard d room (Ok (frames.Message octets)) well = owes_text (far_line_next d (Receive octets.items)) _ (far_line_text d (Receive octets.items))
tells_heard d room (Ok (frames.EndOfTurn said)) well = either_owed (said == d.moment) d _
tells_heard d room (Ok frames.EndOfDay) well = refl
tells_heard d room (Err fault) well = refl

tells : (p : FarPlace) (act : Act) → IsFarActDue p act → Tells p act
tells = by_due Tells tells_begun tells_wrote tells_heard (λ d loss well. refl) (λ d well. refl) (λ d well. refl)

pub told_law : (from to : FarPlace) (acts : List Act) → IsFarRun from acts to → goes_well acts ≡ true → written acts ++ far_owed_at to ≡ far_owed_at from ++ far_told acts (far_day_at from)
told_law from to [] e well = ap far_owed_at (sym e) ∙ sym (append-nil (far_owed_at from))
told_law from to (act ∷ acts) (due, goes) well =
    let w = written (act ∷ []) in
    let on = far_run_next from act in
    let d = far_day_at from in
    let here = far_told (act ∷ []) d in
    let there = far_told acts (far_day_at on) in
    ap (λ xs. xs ++ far_owed_at to) (more_written act acts)
    ∙ (append_assoc w (written acts) (far_owed_at to)
    ∙ (ap (λ xs. w ++ xs) (told_law on to acts goes (rest_well act acts well))
    ∙ (sym (append_assoc w (far_owed_at on) there)
    ∙ (ap (λ xs. xs ++ there) (tells from act due (first_well act acts well))
    ∙ (append_assoc (far_owed_at from) here there
    ∙ ap (λ xs. far_owed_at from ++ xs) (ap (λ (x : FarDay). here ++ far_told acts x) (step_day from act due) ∙ sym (more_told act acts d)))))))
