-- The day of a run is the one after the events that are logged.
use Rattle.std.proofs.Common.{◌≡◌, ℕ, zero, ◌==◌, List, [], ◌∷◌, ◌++◌, OnOk, refl, sym, ap, ◌∙◌, true, false, Bool, Result, Ok, Err, if◌then◌else◌}
use Rattle.arrayvec.specs.ArrayVec.{ArrayVec}
use Rattle.bx_frames.specs.declared.fault.LinkFault.{LinkFault}
use Rattle.bx_frames.specs.declared.frame.Frame.{Frame}
use Rattle.bx_frames.specs.declared.frame.Frame.TheVariants as frames
use Rattle.bx_day.specs.Day.{Day}
use Rattle.bx_day.specs.Course.{exchange_next, exchange_sent, exchange_text}
use Rattle.bx_events.specs.Events.{Receive, LiveEvent, OnLink}
use Rattle.bx_day.specs.Outages.{live_day_after}
use Rattle.bx_live.specs.declared.world.Begin.{Begin}
use Rattle.bx_live.specs.declared.world.Begin.TheVariants as begins
use Rattle.bx_live.specs.declared.world.CannotLog.{CannotLog}
use Rattle.bx_live.specs.declared.world.Loss.{Loss}
use Rattle.bx_live.specs.Acts.{Act, Began, Logged, logged_by, ended}
use Rattle.bx_live.specs.Runs.{Place, Between, Logging, Losing, Over, Done, IsDue, IsRun, next, day_at, owing, with_reply, replying, writing, begun, heard}
use Rattle.bx_live.specs.Running.{or_over}
use Rattle.bx_live.proofs.Due.{by_answers}

pub owing_day : (d : Day) (room : ℕ) (sent : List (ArrayVec ℕ)) (text : List ℕ) → day_at (owing d room sent text) ≡ d
owing_day d room [] (octet ∷ text) = refl
owing_day d room sent text = refl

replying_day : (d : Day) (owed : List (List ℕ)) (room : ℕ) → day_at (replying d owed room) ≡ d
replying_day d (text ∷ owed) zero = refl
replying_day d owed room = refl

writing_day : (d : Day) (room : ℕ) (texts : List (List ℕ)) → day_at (writing d room texts) ≡ d
writing_day d room [] = refl
writing_day d room (text ∷ texts) = refl

begun_day : (d : Day) (begin : Begin) → day_at (begun d begin) ≡ d
begun_day d begins.Ended = refl
begun_day d begin = refl

either_day : (b : Bool) (d : Day) (loss : Loss) → day_at (if b then Between d else Losing d loss) ≡ d
either_day true d loss = refl
either_day false d loss = refl

heard_day : (d : Day) (room : ℕ) (answer : Result Frame LinkFault) → day_at (heard d room answer) ≡ d
heard_day d room (Ok (frames.EndOfTurn said)) = either_day (said == d.moment) d _
heard_day d room answer = refl

-- the day after one act
abbrev pub Steps : Place → Act → Type 0
Steps p act = day_at (next p act) ≡ live_day_after (logged_by (act ∷ [])) (day_at p)

logged_day : (d : Day) (room : ℕ) (event : LiveEvent) (done : Bool) → Steps (Logging d room event) (Logged event done)
logged_day d room (OnLink e) true = owing_day (exchange_next d e) room (exchange_sent d e) (exchange_text d e)
logged_day d room event false = refl
logged_day d room event true = refl

pub step_day : (p : Place) (act : Act) → IsDue p act → Steps p act
step_day = by_answers Steps begun_day logged_day
    (λ d room owed octets. (replying_day (exchange_next d (Receive octets)) (with_reply owed (exchange_text d (Receive octets))) room, refl))
    (λ d room owed. ((λ message. refl), refl)) (λ d room texts. (refl, refl)) (λ d room text texts. (writing_day d room texts, refl))
    heard_day (λ d. (refl, λ fault. refl)) (λ d. (refl, refl)) (λ d. (refl, refl)) (λ d. refl)

-- the logged events of one act, and of more
more_logged : (act : Act) (acts : List Act) (d : Day) → live_day_after (logged_by (act ∷ acts)) d ≡ live_day_after (logged_by acts) (live_day_after (logged_by (act ∷ [])) d)
more_logged (Logged event true) acts d = refl
more_logged act acts d = refl

pub run_day : (p q : Place) (acts : List Act) → IsRun p acts q → day_at q ≡ live_day_after (logged_by acts) (day_at p)
run_day p q [] e = ap day_at (sym e)
run_day p q (act ∷ acts) (due, goes) = run_day (next p act) q acts goes ∙ (ap (live_day_after (logged_by acts)) (step_day p act due) ∙ sym (more_logged act acts (day_at p)))

-- what was said among these acts was said
pub ended_inside : (xs ys zs : List Act) → ended ys ≡ true → ended (xs ++ (ys ++ zs)) ≡ true
ended_inside xs ys zs e = following xs (ys ++ zs) (before ys zs e) where
  before : (ys zs : List Act) → ended ys ≡ true → ended (ys ++ zs) ≡ true
  before [] zs e = cc
  before (Began second begins.Ended ∷ ys) zs e = refl
  before (x ∷ ys) zs e = before ys zs e

  following : (xs ys : List Act) → ended ys ≡ true → ended (xs ++ ys) ≡ true
  following [] ys e = e
  following (Began second begins.Ended ∷ xs) ys e = refl
  following (x ∷ xs) ys e = following xs ys e

-- of any answer, what holds anyway
pub at_any : {A E : Type 0} {P : Type 0} (r : Result A E) → P → OnOk r P
at_any (Ok a) p = p
at_any (Err e) p = tt

-- the day of a run that is closed, or could not be
pub closed_day_is : (p : Place) (d : Day) (r : Result (Unit {0}) CannotLog) (acts : List Act) → IsRun p acts (or_over (Done d) d r) → d ≡ live_day_after (logged_by acts) (day_at p)
closed_day_is p d (Ok done) acts goes = run_day p (Done d) acts goes
closed_day_is p d (Err fault) acts goes = run_day p (Over d) acts goes
