-- What holds of each act that is due.
use Rattle.std.proofs.Common.{ℕ, ◌+◌, List, Bool, sym, subst, Result}
use Rattle.bx_frames.specs.declared.fault.LinkFault.{LinkFault}
use Rattle.bx_frames.specs.declared.frame.Frame.{Frame}
use Rattle.bx_far.specs.FarDay.{FarDay}
use Rattle.bx_live.specs.declared.world.Begin.{Begin}
use Rattle.bx_live.specs.declared.world.Loss.{Loss}
use Rattle.bx_live.specs.Acts.{Act, Began, Dropped, Wrote, Read, EndedDay}
use Rattle.bx_link.specs.Runs.{FarPlace, Between, Owing, Hearing, Losing, Ending, IsFarActDue}

module _ (P : FarPlace → Act → Type 0)
    (began : (d : FarDay) (begin : Begin) → P (Between d) (Began (d.moment + 1) begin))
    (writing : (d : FarDay) (room : ℕ) (text : List ℕ) (done : Bool) → P (Owing d room text) (Wrote text done))
    (reading : (d : FarDay) (room : ℕ) (answer : Result Frame LinkFault) → P (Hearing d room) (Read room answer))
    (losing : (d : FarDay) (loss : Loss) → P (Losing d loss) (Dropped loss))
    (closing : (d : FarDay) → P (Between d) EndedDay)
    (ended : (d : FarDay) → P (Ending d) EndedDay) where
  pub by_due : (p : FarPlace) (act : Act) → IsFarActDue p act → P p act
  by_due (Between d) (Began second begin) due = subst (λ x. P (Between d) (Began x begin)) (sym due) (began d begin)
  by_due (Between d) EndedDay due = closing d
  by_due (Owing d room text) (Wrote octets done) due = subst (λ x. P (Owing d room text) (Wrote x done)) (sym due) (writing d room text done)
  by_due (Hearing d room) (Read most answer) due = subst (λ x. P (Hearing d room) (Read x answer)) (sym due) (reading d room answer)
  by_due (Losing d loss) (Dropped why) due = subst (λ x. P (Losing d loss) (Dropped x)) (sym due) (losing d loss)
  by_due (Ending d) EndedDay due = ended d
  by_due p act due = absurd due
