-- In a run in which nothing fails just what is sent for the logged events is written, in order and once.
use Rattle.std.proofs.Common.{◌≡◌, ℕ, zero, ◌+◌, List, [], ◌∷◌, ◌++◌, refl, sym, ap, ◌∙◌, true, false, Bool, Result, Ok, ◌==◌, if◌then◌else◌}
use Rattle.std.proofs.lemmas.List.{append-nil, append_assoc}
use Rattle.std.specs.List.{concat}
use Rattle.std.proofs.lemmas.List.Folds.{concat-append}
use Rattle.arrayvec.specs.ArrayVec.{ArrayVec}
use Rattle.bx_frames.specs.declared.fault.LinkFault.{LinkFault}
use Rattle.bx_frames.specs.declared.frame.Frame.{Frame}
use Rattle.bx_frames.specs.declared.frame.Frame.TheVariants as frames
use Rattle.bx_day.specs.Day.{Day}
use Rattle.bx_day.specs.Course.{exchange_next, exchange_sent, exchange_text}
use Rattle.bx_events.specs.Events.{Receive, LiveEvent, OnLink}
use Rattle.bx_day.specs.Outages.{live_happens, live_day_after}
use Rattle.bx_live.specs.declared.world.Begin.{Begin}
use Rattle.bx_live.specs.declared.world.Begin.TheVariants as begins
use Rattle.bx_live.specs.declared.world.Loss.{Loss}
use Rattle.bx_live.specs.Acts.{Act, Began, Logged, Synced, Wrote, Read, logged_by}
use Rattle.bx_live.specs.Runs.{Place, Between, Logging, Hearing, Losing, IsDue, IsRun, next, day_at, owing, with_reply, replying, writing}
use Rattle.bx_live.specs.Written.{live_text, live_told, written, goes_well, owed_at}
use Rattle.bx_live.proofs.Due.{by_answers}
use Rattle.bx_live.proofs.Days.{step_day}

-- ---- one act, and more

more_written : (act : Act) (acts : List Act) → written (act ∷ acts) ≡ written (act ∷ []) ++ written acts
more_written (Wrote octets true) acts = ap (λ xs. xs ++ written acts) (sym (append-nil octets))
more_written act acts = refl

more_told : (act : Act) (acts : List Act) (d : Day) → live_told (logged_by (act ∷ acts)) d ≡ live_told (logged_by (act ∷ [])) d ++ live_told (logged_by acts) (live_day_after (logged_by (act ∷ [])) d)
more_told (Logged event true) acts d = ap (λ xs. xs ++ live_told (logged_by acts) (live_happens d event).day) (sym (append-nil (live_text d event)))
more_told act acts d = refl

first_well : (act : Act) (acts : List Act) → goes_well (act ∷ acts) ≡ true → goes_well (act ∷ []) ≡ true
first_well (Logged event false) acts e = e
first_well (Synced false) acts e = e
first_well (Wrote octets false) acts e = e
first_well act acts e = refl

rest_well : (act : Act) (acts : List Act) → goes_well (act ∷ acts) ≡ true → goes_well acts ≡ true
rest_well (Logged event false) acts e = cc
rest_well (Synced false) acts e = cc
rest_well (Wrote octets false) acts e = cc
rest_well act acts e = e

-- ---- what is written, and what is owed after it

abbrev Tells : Place → Act → Type 0
Tells p act = goes_well (act ∷ []) ≡ true → written (act ∷ []) ++ owed_at (next p act) ≡ owed_at p ++ live_told (logged_by (act ∷ [])) (day_at p)

owes_text : (d : Day) (room : ℕ) (sent : List (ArrayVec ℕ)) (text : List ℕ) → owed_at (owing d room sent text) ≡ text ++ []
owes_text d room [] (octet ∷ text) = refl
owes_text d room sent text = refl

owes_replies : (d : Day) (owed : List (List ℕ)) (room : ℕ) → owed_at (replying d owed room) ≡ concat owed
owes_replies d (text ∷ owed) zero = refl
owes_replies d owed room = refl

owes_texts : (d : Day) (room : ℕ) (texts : List (List ℕ)) → owed_at (writing d room texts) ≡ concat texts
owes_texts d room [] = refl
owes_texts d room (text ∷ texts) = refl

joined_reply : (owed : List (List ℕ)) (text : List ℕ) → concat (with_reply owed text) ≡ concat owed ++ (text ++ [])
joined_reply owed [] = sym (append-nil (concat owed))
joined_reply owed (octet ∷ text) = concat-append owed ((octet ∷ text) ∷ [])

tells_begun : (d : Day) (begin : Begin) → Tells (Between d) (Began (d.moment + 1) begin)
tells_begun d begins.Ended well = refl
tells_begun d begin well = refl

tells_logged : (d : Day) (room : ℕ) (event : LiveEvent) (done : Bool) → Tells (Logging d room event) (Logged event done)
tells_logged d room (OnLink e) true well = owes_text (exchange_next d e) room (exchange_sent d e) (exchange_text d e)
tells_logged d room event false well = cc
tells_logged d room event true well = refl

either_owed : (b : Bool) (d : Day) (loss : Loss) → owed_at (if b then Between d else Losing d loss) ≡ []
either_owed true d loss = refl
either_owed false d loss = refl

tells_heard : (d : Day) (room : ℕ) (answer : Result Frame LinkFault) → Tells (Hearing d room) (Read room answer)
tells_heard d room (Ok (frames.EndOfTurn said)) well = either_owed (said == d.moment) d _
tells_heard d room answer well = refl

tells : (p : Place) (act : Act) → IsDue p act → Tells p act
tells = by_answers Tells tells_begun tells_logged
    (λ d room owed octets. (
      (λ well.
          let text = exchange_text d (Receive octets) in
          owes_replies (exchange_next d (Receive octets)) (with_reply owed text) room ∙ joined_reply owed text),
      (λ well. cc),
    ))
    (λ d room owed. ((λ message well. sym (append-nil (concat owed))), (λ well. sym (append-nil (concat owed)))))
    (λ d room texts. ((λ well. sym (append-nil (concat texts))), (λ well. cc)))
    (λ d room text texts. (
      (λ well. ap (λ xs. (text ++ []) ++ xs) (owes_texts d room texts) ∙ (ap (λ xs. xs ++ concat texts) (append-nil text) ∙ sym (append-nil (text ++ concat texts)))),
      (λ well. cc),
    ))
    tells_heard (λ d. ((λ well. refl), (λ fault well. refl))) (λ d. ((λ well. refl), (λ well. refl))) (λ d. ((λ well. refl), (λ well. refl))) (λ d well. refl)

pub told_law : (from to : Place) (acts : List Act) → IsRun from acts to → goes_well acts ≡ true → written acts ++ owed_at to ≡ owed_at from ++ live_told (logged_by acts) (day_at from)
told_law from to [] e well = ap owed_at (sym e) ∙ sym (append-nil (owed_at from))
told_law from to (act ∷ acts) (due, goes) well =
    let w = written (act ∷ []) in
    let on = next from act in
    let d = day_at from in
    let here = live_told (logged_by (act ∷ [])) d in
    let there = live_told (logged_by acts) (day_at on) in
    ap (λ xs. xs ++ owed_at to) (more_written act acts)
    ∙ (append_assoc w (written acts) (owed_at to)
    ∙ (ap (λ xs. w ++ xs) (told_law on to acts goes (rest_well act acts well))
    ∙ (sym (append_assoc w (owed_at on) there)
    ∙ (ap (λ xs. xs ++ there) (tells from act due (first_well act acts well))
    ∙ (append_assoc (owed_at from) here there
    ∙ ap (λ xs. owed_at from ++ xs) (ap (λ (x : Day). here ++ live_told (logged_by acts) x) (step_day from act due) ∙ sym (more_told act acts d)))))))
