-- A run in which nothing failed is not over before its end.
use Rattle.std.proofs.Common.{◌≡◌, ℕ, zero, suc, ◌+◌, ◌==◌, Bool, true, false, if◌then◌else◌, List, [], ◌∷◌, Option, Some, None, Result, Ok, sym, subst}
use Rattle.arrayvec.specs.ArrayVec.{ArrayVec}
use Rattle.bx_day.specs.Day.{Day}
use Rattle.bx_day.specs.Course.{exchange_next, exchange_sent, exchange_text}
use Rattle.bx_events.specs.Events.{Receive, LiveEvent, OnLink, WithoutLink, Amended, HeardByRulesTwo}
use Rattle.bx_frames.specs.declared.fault.LinkFault.{LinkFault}
use Rattle.bx_frames.specs.declared.fault.LinkFault.TheVariants.{WrongMoment}
use Rattle.bx_frames.specs.declared.frame.Frame.{Frame}
use Rattle.bx_frames.specs.declared.frame.Frame.TheVariants as frames
use Rattle.bx_live.specs.Acts.{Act, Began, Dropped, Logged, Synced, Wrote, Read, Took, EndedDay}
use Rattle.bx_live.specs.declared.world.Begin.{Begin}
use Rattle.bx_live.specs.declared.world.Begin.TheVariants as begins
use Rattle.bx_live.specs.declared.world.Loss.{Loss}
use Rattle.bx_live.specs.declared.world.Loss.TheVariants as losses
use Rattle.bx_live.specs.Runs.{Place, Between, Logging, Receiving, Taking, Owing, Hearing, Losing, Over, Closing, IsDue, IsRun, next, owing, with_reply, replying, writing}
use Rattle.bx_live.proofs.Due.{by_due}
use Rattle.bx_world.specs.Kept.{keeps_log}

abbrev pub IsOver : Place → Type 0
IsOver (Over d) = Unit {0}
IsOver _ = ⊥

-- where an act goes well the run goes on
abbrev pub GoesOn : Place → Act → Type 0
GoesOn p (Logged event false) = Unit {0}
GoesOn p (Synced false) = Unit {0}
GoesOn p act = IsOver (next p act) → ⊥

pub goes_on : (p : Place) (act : Act) → IsDue p act → GoesOn p act
goes_on = by_due GoesOn on_begun on_logged on_received on_took on_synced on_written on_read on_lost on_closing on_closed (λ d over. over) where
  on_begun : (d : Day) (begin : Begin) → GoesOn (Between d) (Began (d.moment + 1) begin)
  on_begun d begins.Late over = over
  on_begun d begin over = over

  owing_on : (d : Day) (room : ℕ) (sent : List (ArrayVec ℕ)) (text : List ℕ) → IsOver (owing d room sent text) → ⊥
  owing_on d room [] [] over = over
  owing_on d room sent text over = over

  on_logged : (d : Day) (room : ℕ) (event : LiveEvent) (done : Bool) → GoesOn (Logging d room event) (Logged event done)
  on_logged d room event false = tt
  on_logged d room (WithoutLink rules) true = λ over. over
  on_logged d room (Amended kind line) true = λ over. over
  on_logged d room (HeardByRulesTwo octets) true = λ over. over
  on_logged d room (OnLink event) true = owing_on (exchange_next d event) room (exchange_sent d event) (exchange_text d event)

  replying_on : (d : Day) (owed : List (List ℕ)) (room : ℕ) → IsOver (replying d owed room) → ⊥
  replying_on d [] room over = over
  replying_on d (text ∷ owed) zero over = over
  replying_on d (text ∷ owed) (suc room) over = over

  writing_on : (d : Day) (room : ℕ) (texts : List (List ℕ)) → IsOver (writing d room texts) → ⊥
  writing_on d room [] over = over
  writing_on d room (text ∷ texts) over = over

  on_received : (d : Day) (room : ℕ) (owed : List (List ℕ)) (octets : List ℕ) (done : Bool) → GoesOn (Receiving d room owed octets) (Logged (OnLink (Receive octets)) done)
  on_received d room owed octets true = replying_on (exchange_next d (Receive octets)) (with_reply owed (exchange_text d (Receive octets))) room
  on_received d room owed octets false = tt

  on_took : (d : Day) (room : ℕ) (owed : List (List ℕ)) (message : Option (ArrayVec ℕ)) → GoesOn (Taking d room owed) (Took message)
  on_took d room owed (Some message) = λ over. over
  on_took d room owed None = λ over. over

  on_synced : (d : Day) (room : ℕ) (texts : List (List ℕ)) (done : Bool) → GoesOn (Owing d room true texts) (Synced done)
  on_synced d room texts true = λ over. over
  on_synced d room texts false = tt

  on_written : (d : Day) (room : ℕ) (text : List ℕ) (texts : List (List ℕ)) (done : Bool) → GoesOn (Owing d room false (text ∷ texts)) (Wrote text done)
  on_written d room text texts true = writing_on d room texts
  on_written d room text texts false = λ over. over

  turn_on : (d : Day) (b : Bool) → IsOver (if b then Between d else Losing d (losses.Fault WrongMoment)) → ⊥
  turn_on d true over = over
  turn_on d false over = over

  on_read : (d : Day) (room : ℕ) (answer : Result Frame LinkFault) → GoesOn (Hearing d room) (Read room answer)
  on_read d room (Ok (frames.EndOfTurn said)) = turn_on d (said == d.moment)
  on_read d room answer = λ over. over

  on_lost : (d : Day) (loss : Loss) → GoesOn (Losing d loss) (Dropped loss)
  on_lost d losses.Late = λ over. over
  on_lost d (losses.Fault fault) = λ over. over

  on_closing : (d : Day) (done : Bool) → GoesOn (Between d) (Synced done)
  on_closing d true = λ over. over
  on_closing d false = tt

  on_closed : (d : Day) (done : Bool) → GoesOn (Closing d) (Synced done)
  on_closed d true = λ over. over
  on_closed d false = tt

pub over_of : (p : Place) (e : Day) (acts : List Act) → keeps_log acts ≡ true → IsRun p acts (Over e) → IsOver p
over_of p e [] kept same = subst IsOver (sym same) tt
over_of p e (Logged event true ∷ acts) kept (due, goes) = absurd (goes_on p (Logged event true) due (over_of (next p (Logged event true)) e acts kept goes))
over_of p e (Logged event false ∷ acts) kept (due, goes) = cc
over_of p e (Synced true ∷ acts) kept (due, goes) = absurd (goes_on p (Synced true) due (over_of (next p (Synced true)) e acts kept goes))
over_of p e (Synced false ∷ acts) kept (due, goes) = cc
over_of p e (Began second begin ∷ acts) kept (due, goes) = absurd (goes_on p (Began second begin) due (over_of (next p (Began second begin)) e acts kept goes))
over_of p e (Dropped loss ∷ acts) kept (due, goes) = absurd (goes_on p (Dropped loss) due (over_of (next p (Dropped loss)) e acts kept goes))
over_of p e (Wrote octets done ∷ acts) kept (due, goes) = absurd (goes_on p (Wrote octets done) due (over_of (next p (Wrote octets done)) e acts kept goes))
over_of p e (Read room answer ∷ acts) kept (due, goes) = absurd (goes_on p (Read room answer) due (over_of (next p (Read room answer)) e acts kept goes))
over_of p e (Took message ∷ acts) kept (due, goes) = absurd (goes_on p (Took message) due (over_of (next p (Took message)) e acts kept goes))
over_of p e (EndedDay ∷ acts) kept (due, goes) = absurd (goes_on p EndedDay due (over_of (next p EndedDay) e acts kept goes))
