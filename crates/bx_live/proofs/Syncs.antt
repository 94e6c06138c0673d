-- Between two waits_in there is one sync at most.
use Rattle.std.proofs.Common.{◌≡◌, ℕ, zero, ◌+◌, ◌≤◌, ◌==◌, Bool, true, false, if◌then◌else◌, List, [], ◌∷◌, Result, Ok, arith, ap}
use Rattle.arrayvec.specs.ArrayVec.{ArrayVec}
use Rattle.bx_day.specs.Day.{Day}
use Rattle.bx_day.specs.Course.{exchange_next, exchange_sent, exchange_text}
use Rattle.bx_events.specs.Events.{Receive, LiveEvent, OnLink}
use Rattle.bx_frames.specs.declared.fault.LinkFault.{LinkFault}
use Rattle.bx_frames.specs.declared.fault.LinkFault.TheVariants.{WrongMoment}
use Rattle.bx_frames.specs.declared.frame.Frame.{Frame}
use Rattle.bx_frames.specs.declared.frame.Frame.TheVariants as frames
use Rattle.bx_live.specs.Acts.{Act, Began, Logged, Read}
use Rattle.bx_live.specs.Runs.{Place, Between, Logging, Receiving, Taking, Owing, Hearing, Losing, Over, Ending, Done, IsDue, IsRun, next, owing, with_reply, replying, writing}
use Rattle.bx_live.specs.Syncs.{sync_in, syncs_in, wait_in, waits_in}
use Rattle.bx_live.specs.declared.world.Begin.{Begin}
use Rattle.bx_live.specs.declared.world.Begin.TheVariants as begins
use Rattle.bx_live.specs.declared.world.Loss.TheVariants as losses
use Rattle.bx_live.proofs.Due.{by_answers}

-- how many syncs_in may come before the next wait, and after the last one
abbrev left_at : Place → ℕ
left_at (Logging d room event) = 2
left_at (Receiving d room owed octets) = 2
left_at (Taking d room owed) = 2
left_at (Owing d room true texts) = 2
left_at (Losing d losses.Late) = 2
left_at (Over d) = 0
left_at (Ending d) = 0
left_at (Done d) = 0
left_at p = 1

abbrev Spends : Place → Act → Type 0
Spends p act = sync_in act + left_at (next p act) ≤ left_at p + wait_in act

spends : (p : Place) (act : Act) → IsDue p act → Spends p act
spends = by_answers Spends on_begun on_logged
    (λ d room owed octets. (
      (let l = replying_left (exchange_next d (Receive octets)) (with_reply owed (exchange_text d (Receive octets))) room in omega (arith, l)),
      omega (arith),
    ))
    (λ d room owed. ((λ message. omega (arith)), omega (arith))) (λ d room texts. (omega (arith), omega (arith)))
    (λ d room text texts. ((let l = writing_left d room texts in omega (arith, l)), omega (arith)))
    on_read (λ d. (omega (arith), λ fault. omega (arith))) (λ d. (omega (arith), omega (arith))) (λ d. (omega (arith), omega (arith))) (λ d. omega (arith)) where
      on_begun : (d : Day) (begin : Begin) → Spends (Between d) (Began (d.moment + 1) begin)
      on_begun d begins.Ended = omega (arith)
      on_begun d begin = omega (arith)

      owing_left : (d : Day) (room : ℕ) (sent : List (ArrayVec ℕ)) (text : List ℕ) → left_at (owing d room sent text) ≤ 2
      owing_left d room [] (octet ∷ text) = omega (arith)
      owing_left d room sent text = omega (arith)

      on_logged : (d : Day) (room : ℕ) (event : LiveEvent) (done : Bool) → Spends (Logging d room event) (Logged event done)
      on_logged d room event false = omega (arith)
      on_logged d room (OnLink event) true = let l = owing_left (exchange_next d event) room (exchange_sent d event) (exchange_text d event) in omega (arith, l)
      on_logged d room event true = omega (arith)

      replying_left : (d : Day) (owed : List (List ℕ)) (room : ℕ) → left_at (replying d owed room) ≤ 2
      replying_left d (text ∷ owed) zero = omega (arith)
      replying_left d owed room = omega (arith)

      writing_left : (d : Day) (room : ℕ) (texts : List (List ℕ)) → left_at (writing d room texts) ≤ 1
      writing_left d room [] = omega (arith)
      writing_left d room (text ∷ texts) = omega (arith)

      turn_left : (d : Day) (b : Bool) → left_at (if b then Between d else Losing d (losses.Fault WrongMoment)) ≤ 1
      turn_left d true = omega (arith)
      turn_left d false = omega (arith)

      on_read : (d : Day) (room : ℕ) (answer : Result Frame LinkFault) → Spends (Hearing d room) (Read room answer)
      on_read d room (Ok (frames.EndOfTurn said)) = let l = turn_left d (said == d.moment) in omega (arith, l)
      on_read d room answer = omega (arith)

spent : (from to : Place) (acts : List Act) → IsRun from acts to → syncs_in acts + left_at to ≤ left_at from + waits_in acts
spent from to [] same = let e : left_at from ≡ left_at to = ap left_at same in omega (arith, e)
spent from to (act ∷ acts) (due, goes) =
    let one = spends from act due in
    let more = spent (next from act) to acts goes in
    omega (arith, one, more)

pub shared_law : (d : Day) (acts : List Act) (to : Place) → IsRun (Between d) acts to → syncs_in acts ≤ 1 + waits_in acts
shared_law d acts to run = let s = spent (Between d) to acts run in omega (arith, s)
