-- The moment of a far end's day: a tick raises it by one, and so does a second without a link; a message leaves it.
use Rattle.std.proofs.Common.{◌≡◌, ℕ, ◌+◌, ◌<◌, nat_le, false, List, [], ◌∷◌, ap, ◌∙◌, arith}
use Rattle.std.proofs.lemmas.Bool.Decides.{nat_tests}
use Rattle.bx_events.specs.Events.{Tick, Receive}
use Rattle.bx_far.specs.FarDay.{FarDay, far_without_link}
use Rattle.bx_far.specs.Course.{far_line_next}
use Rattle.bx_far.proofs.Standstill.{unlinked_is}
use Rattle.bx_link.proofs.FarMoments.{live_stays, moment_of}

pub tick_rises : (d d1 : FarDay) → d1 ≡ far_line_next d Tick → d.moment < 300000 → d1.moment ≡ d.moment + 1
tick_rises d d1 e early = let moment = moment_of (Tick ∷ []) d d1 e (omega (arith, early)) in omega (arith, moment, early)

pub without_rises : (d d1 : FarDay) → d1 ≡ far_without_link d → d.moment < 300000 → d1.moment ≡ d.moment + 1
without_rises d d1 e early =
    let test : nat_le 300000 d.moment ≡ false = grind (arith, nat_tests, early) in
    ap (λ (x : FarDay). x.moment) (e ∙ unlinked_is d test)

pub hearing_stays : (d d1 : FarDay) (octets : List ℕ) → d1 ≡ far_line_next d (Receive octets) → d1.moment ≡ d.moment
hearing_stays d d1 octets e = ap (λ (x : FarDay). x.moment) e ∙ live_stays d octets
