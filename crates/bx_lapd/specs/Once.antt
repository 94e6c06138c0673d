-- A link delivers in order and at most once, over establishments too.
--
-- Take two ends that are not linked, and any list of events of the world: messages are given, frames come or are lost, time goes by, and
-- layer 3 asks for establishments and releases, each as it likes, at either end. What an end delivered is a part of what the other was
-- given and took, in its order: each message at most once.
--
-- What is left out was lost: where an establishment begins anew, what was sent and not acknowledged is discarded, and layer 3 is told
-- (`LinkEstablished`). No frame is repeated by the medium, which is first-in-first-out: an HDLC line has no other.
use Rattle.std.specs.Prelude.{◌≡◌, ◌⊎◌, ℕ, ◌<◌, List, [], ◌∷◌}
use Rattle.arrayvec.specs.ArrayVec.{ArrayVec}
use Rattle.bx_lapd.specs.declared.words.LinkState.TheVariants.{Assigned}
use Rattle.bx_lapd.specs.Links.{Link}
use Rattle.bx_lapd.specs.World.{LinkWorld, LinkWorldEvent, link_world_after}

-- the first list is a part of the second one, in its order
abbrev pub IsPartOf : List (ArrayVec ℕ) → List (ArrayVec ℕ) → Type 0
IsPartOf [] ys = Unit {0}
IsPartOf (x ∷ xs) [] = ⊥
IsPartOf (x ∷ xs) (y ∷ ys) = ((x ≡ y) × IsPartOf xs ys) ⊎ IsPartOf (x ∷ xs) ys

-- an end that is not linked
pub record IsUnlinked (l : Link) (given got : List (ArrayVec ℕ)) : Type 0 where
  pub state : l.state ≡ Assigned
  pub vr : l.vr < 128
  pub queue : l.queue ≡ []
  pub none_given : given ≡ []
  pub none_got : got ≡ []

pub record AreUnlinked (w : LinkWorld) : Type 0 where
  pub near : IsUnlinked w.near w.near_given w.near_got
  pub far : IsUnlinked w.far w.far_given w.far_got
  pub near_empty : w.near_sent ≡ []
  pub far_empty : w.far_sent ≡ []

abbrev pub Once : Type 0
Once = (w : LinkWorld) (events : List LinkWorldEvent) → AreUnlinked w → IsPartOf (link_world_after events w).far_got (link_world_after events w).near_given × IsPartOf (link_world_after events w).near_got (link_world_after events w).far_given
