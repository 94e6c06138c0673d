-- A link that is at rest is up.
use Rattle.std.proofs.Common.{◌≡◌, ◌==◌, ◌&&◌, true, length, refl}
use Rattle.std.proofs.lemmas.Bool.{false≢true}
use Rattle.bx_lapd.specs.declared.words.LinkState.{LinkState}
use Rattle.bx_lapd.specs.declared.words.LinkState.TheVariants.{Assigned, AwaitingEstablishment, AwaitingRelease, Established, TimerRecovery}
use Rattle.bx_lapd.specs.Links.{Link, is_established, is_at_rest, is_link_up}

pub at_rest_up : (l : Link) → is_at_rest l ≡ true → is_link_up l.state ≡ true
at_rest_up l clear = up l.state clear
  where
    up : (st : LinkState) → (is_established st && (length l.queue == 0)) ≡ true → is_link_up st ≡ true
    up Established e = refl
    up Assigned e = absurd (false≢true e)
    up AwaitingEstablishment e = absurd (false≢true e)
    up AwaitingRelease e = absurd (false≢true e)
    up TimerRecovery e = absurd (false≢true e)
