-- What holds of each act that is due.
use Rattle.std.proofs.Common.{ℕ, ◌+◌, List, ◌∷◌, Option, Some, None, true, false, Bool, sym, subst, Result}
use Rattle.arrayvec.specs.ArrayVec.{ArrayVec}
use Rattle.bx_frames.specs.declared.fault.LinkFault.{LinkFault}
use Rattle.bx_frames.specs.declared.frame.Frame.{Frame}
use Rattle.bx_day.specs.Day.{Day}
use Rattle.bx_events.specs.Events.{LiveEvent, OnLink, Receive}
use Rattle.bx_live.specs.declared.world.Begin.{Begin}
use Rattle.bx_live.specs.declared.world.Loss.{Loss}
use Rattle.bx_live.specs.declared.world.Loss.TheVariants.{Late, Fault}
use Rattle.bx_live.specs.Acts.{Act, Began, Dropped, Logged, Synced, Wrote, Read, Took, EndedDay}
use Rattle.bx_live.specs.Runs.{Place, Between, Logging, Receiving, Taking, Owing, Hearing, Losing, Closing, Ending, IsDue}

module _ (P : Place → Act → Type 0)
    (began : (d : Day) (begin : Begin) → P (Between d) (Began (d.moment + 1) begin))
    (logging : (d : Day) (room : ℕ) (event : LiveEvent) (done : Bool) → P (Logging d room event) (Logged event done))
    (receiving : (d : Day) (room : ℕ) (owed : List (List ℕ)) (octets : List ℕ) (done : Bool) → P (Receiving d room owed octets) (Logged (OnLink (Receive octets)) done))
    (taking : (d : Day) (room : ℕ) (owed : List (List ℕ)) (message : Option (ArrayVec ℕ)) → P (Taking d room owed) (Took message))
    (syncing : (d : Day) (room : ℕ) (texts : List (List ℕ)) (done : Bool) → P (Owing d room true texts) (Synced done))
    (writing : (d : Day) (room : ℕ) (text : List ℕ) (texts : List (List ℕ)) (done : Bool) → P (Owing d room false (text ∷ texts)) (Wrote text done))
    (reading : (d : Day) (room : ℕ) (answer : Result Frame LinkFault) → P (Hearing d room) (Read room answer))
    (losing : (d : Day) (loss : Loss) → P (Losing d loss) (Dropped loss))
    (closing : (d : Day) (done : Bool) → P (Between d) (Synced done))
    (closed : (d : Day) (done : Bool) → P (Closing d) (Synced done))
    (ended : (d : Day) → P (Ending d) EndedDay) where
  pub by_due : (p : Place) (act : Act) → IsDue p act → P p act
  by_due (Between d) (Began second begin) due = subst (λ x. P (Between d) (Began x begin)) (sym due) (began d begin)
  by_due (Between d) (Synced done) due = closing d done
  by_due (Logging d room event) (Logged e done) due = subst (λ x. P (Logging d room event) (Logged x done)) (sym due) (logging d room event done)
  by_due (Receiving d room owed octets) (Logged e done) due = subst (λ x. P (Receiving d room owed octets) (Logged x done)) (sym due) (receiving d room owed octets done)
  by_due (Taking d room owed) (Took message) due = taking d room owed message
  by_due (Owing d room true texts) (Synced done) due = syncing d room texts done
  by_due (Owing d room false (text ∷ texts)) (Wrote octets done) due = subst (λ x. P (Owing d room false (text ∷ texts)) (Wrote x done)) (sym due) (writing d room text texts done)
  by_due (Hearing d room) (Read most answer) due = subst (λ x. P (Hearing d room) (Read x answer)) (sym due) (reading d room answer)
  by_due (Losing d loss) (Dropped why) due = subst (λ x. P (Losing d loss) (Dropped x)) (sym due) (losing d loss)
  by_due (Closing d) (Synced done) due = closed d done
  by_due (Ending d) EndedDay due = ended d
  by_due p act due = absurd due

-- the same, by what an act can answer
module _ (P : Place → Act → Type 0)
    (began : (d : Day) (begin : Begin) → P (Between d) (Began (d.moment + 1) begin))
    (logging : (d : Day) (room : ℕ) (event : LiveEvent) (done : Bool) → P (Logging d room event) (Logged event done))
    (receiving : (d : Day) (room : ℕ) (owed : List (List ℕ)) (octets : List ℕ) → P (Receiving d room owed octets) (Logged (OnLink (Receive octets)) true) × P (Receiving d room owed octets) (Logged (OnLink (Receive octets)) false))
    (taking : (d : Day) (room : ℕ) (owed : List (List ℕ)) → ((message : ArrayVec ℕ) → P (Taking d room owed) (Took (Some message))) × P (Taking d room owed) (Took None))
    (syncing : (d : Day) (room : ℕ) (texts : List (List ℕ)) → P (Owing d room true texts) (Synced true) × P (Owing d room true texts) (Synced false))
    (writing : (d : Day) (room : ℕ) (text : List ℕ) (texts : List (List ℕ)) → P (Owing d room false (text ∷ texts)) (Wrote text true) × P (Owing d room false (text ∷ texts)) (Wrote text false))
    (reading : (d : Day) (room : ℕ) (answer : Result Frame LinkFault) → P (Hearing d room) (Read room answer))
    (losing : (d : Day) → P (Losing d Late) (Dropped Late) × ((fault : LinkFault) → P (Losing d (Fault fault)) (Dropped (Fault fault))))
    (closing : (d : Day) → P (Between d) (Synced true) × P (Between d) (Synced false))
    (closed : (d : Day) → P (Closing d) (Synced true) × P (Closing d) (Synced false))
    (ended : (d : Day) → P (Ending d) EndedDay) where
  either : (Q : Bool → Type 0) → Q true × Q false → (b : Bool) → Q b
  either Q both true = both.0
  either Q both false = both.1

  taken : (Q : Option (ArrayVec ℕ) → Type 0) → ((message : ArrayVec ℕ) → Q (Some message)) × Q None → (message : Option (ArrayVec ℕ)) → Q message
  taken Q both (Some message) = both.0 message
  taken Q both None = both.1

  lost : (Q : Loss → Type 0) → Q Late × ((fault : LinkFault) → Q (Fault fault)) → (loss : Loss) → Q loss
  lost Q both Late = both.0
  lost Q both (Fault fault) = both.1 fault

  pub by_answers : (p : Place) (act : Act) → IsDue p act → P p act
  by_answers = by_due P began logging
      (λ d room owed octets. either (λ done. P (Receiving d room owed octets) (Logged (OnLink (Receive octets)) done)) (receiving d room owed octets))
      (λ d room owed. taken (λ message. P (Taking d room owed) (Took message)) (taking d room owed))
      (λ d room texts. either (λ done. P (Owing d room true texts) (Synced done)) (syncing d room texts))
      (λ d room text texts. either (λ done. P (Owing d room false (text ∷ texts)) (Wrote text done)) (writing d room text texts))
      reading (λ d. lost (λ loss. P (Losing d loss) (Dropped loss)) (losing d))
      (λ d. either (λ done. P (Between d) (Synced done)) (closing d)) (λ d. either (λ done. P (Closing d) (Synced done)) (closed d)) ended
