-- A peer that was lost stays lost.
use Rattle.std.proofs.Common.{◌≡◌, List, [], ◌∷◌, refl, sym, subst, false, Option, Some, None}
use Rattle.bx_frames.specs.declared.fault.LinkFault.{LinkFault}
use Rattle.bx_live.specs.declared.world.Begin.{Begin}
use Rattle.bx_live.specs.Acts.{Act, Began, Dropped, Logged, Synced, Wrote, Read, Took, EndedDay, ended}
use Rattle.bx_live.specs.Chains.{Chain, chain_first}
use Rattle.bx_world.specs.Rehearsals.{OnLost, fault_of}

still : (was : LinkFault) (act : Act) (lost : Option LinkFault) → OnLost (Some was) act lost → (fault : LinkFault) × (lost ≡ Some fault)
still was (Began second begin) lost p = (was, p.0)
still was (Dropped loss) lost p = (fault_of loss, p)
still was (Logged event done) lost p = (was, p)
still was (Synced done) lost p = (was, p)
still was (Wrote octets done) lost p = (was, p)
still was (Read room answer) lost p = (was, p)
still was (Took message) lost p = (was, p)
still was EndedDay lost p = (was, p)

stays_lost : (was : LinkFault) (lost : Option LinkFault) (acts : List Act) → Chain OnLost (Some was) acts lost → lost ≡ None → ⊥
stays_lost was lost [] e none = cc
stays_lost was lost (act ∷ acts) chain none =
    let (mid, step, more) = chain_first OnLost (Some was) lost act acts chain in
    let s = still was act mid step in
    stays_lost s.0 lost acts (subst (λ (x : Option LinkFault). Chain OnLost x acts lost) s.1 more) none

pub none_ended : (was lost : Option LinkFault) (acts : List Act) → Chain OnLost was acts lost → lost ≡ None → ended acts ≡ false
none_ended (Some was) lost acts chain none = absurd (stays_lost was lost acts chain none)
none_ended None lost [] chain none = refl
none_ended None lost (Began second begin ∷ acts) chain none =
    let (mid, step, more) = chain_first OnLost None lost (Began second begin) acts chain in
    subst (λ (b : Begin). ended (Began second b ∷ acts) ≡ false) (sym step.1) (none_ended mid lost acts more none)
none_ended None lost (Dropped loss ∷ acts) chain none =
    let (mid, step, more) = chain_first OnLost None lost (Dropped loss) acts chain in none_ended mid lost acts more none
none_ended None lost (Logged event done ∷ acts) chain none =
    let (mid, step, more) = chain_first OnLost None lost (Logged event done) acts chain in none_ended mid lost acts more none
none_ended None lost (Synced done ∷ acts) chain none =
    let (mid, step, more) = chain_first OnLost None lost (Synced done) acts chain in none_ended mid lost acts more none
none_ended None lost (Wrote octets done ∷ acts) chain none =
    let (mid, step, more) = chain_first OnLost None lost (Wrote octets done) acts chain in none_ended mid lost acts more none
none_ended None lost (Read room answer ∷ acts) chain none =
    let (mid, step, more) = chain_first OnLost None lost (Read room answer) acts chain in none_ended mid lost acts more none
none_ended None lost (Took message ∷ acts) chain none =
    let (mid, step, more) = chain_first OnLost None lost (Took message) acts chain in none_ended mid lost acts more none
none_ended None lost (EndedDay ∷ acts) chain none =
    let (mid, step, more) = chain_first OnLost None lost EndedDay acts chain in none_ended mid lost acts more none
