-- A link delivers in order, at most once, and skips nothing.
--
-- Take two ends in state 7 with all numbers 0 and nothing on the medium between them, whatever waits at each; and any list of events of
-- the world: messages are given, frames come or are lost, time goes by at either end, each as it likes. As long as neither end leaves
-- states 7 and 8:
--
--   prefix     what an end delivered is a prefix of what the other had to send: in order, each once, and nothing is skipped;
--   kept      what an end no longer keeps was delivered by the other;
--   few       at most k = 7 of its I frames are outstanding;
--   valid     the N(R) that comes next is valid, so no end establishes the link anew for an N(R) error.
--
-- An end leaves these states where the peer did not answer N200 enquiries, or layer 3 asks for it. Not said: what holds over an
-- establishment that begins while frames of the one before are still on the way (a SABME that was sent again, and comes after the UA of the
-- first): there a message can be skipped, as in any link by Q.921.
use Rattle.std.specs.Prelude.{◌≡◌, ℕ, ◌≤◌, true, List, [], ◌∷◌, length, take, drop}
use Rattle.arrayvec.specs.ArrayVec.{ArrayVec}
use Rattle.bx_lapd.specs.declared.words.LinkState.TheVariants.{Established}
use Rattle.bx_lapd.specs.declared.frame.Frame.{Frame}
use Rattle.bx_lapd.specs.declared.frame.Frame.TheVariants.{Information, Numbered, Plain}
use Rattle.bx_lapd.specs.Links.{Link, outstanding, is_valid, is_link_up}
use Rattle.bx_lapd.specs.World.{LinkWorld, LinkWorldEvent, link_world_happens, link_world_after, swapped}

-- an end that has just been established
pub record IsJustEstablished (l : Link) (given got : List (ArrayVec ℕ)) : Type 0 where
  pub state : l.state ≡ Established
  pub vs : l.vs ≡ 0
  pub va : l.va ≡ 0
  pub vr : l.vr ≡ 0
  pub waiting : l.queue ≡ given
  pub nothing : got ≡ []

pub record IsLinkOpening (w : LinkWorld) : Type 0 where
  pub near : IsJustEstablished w.near w.near_given w.near_got
  pub far : IsJustEstablished w.far w.far_given w.far_got
  pub near_empty : w.near_sent ≡ []
  pub far_empty : w.far_sent ≡ []

-- neither end leaves states 7 and 8
abbrev pub StaysUp : List LinkWorldEvent → LinkWorld → Type 0
StaysUp [] w = Unit {0}
StaysUp (e ∷ es) w = (is_link_up (link_world_happens w e).near.state ≡ true) × (is_link_up (link_world_happens w e).far.state ≡ true) × StaysUp es (link_world_happens w e)

abbrev pub IsFirstValid : Link → List Frame → Type 0
IsFirstValid l [] = Unit {0}
IsFirstValid l (Information poll ns nr m ∷ fs) = is_valid l nr ≡ true
IsFirstValid l (Numbered kind command poll nr ∷ fs) = is_valid l nr ≡ true
IsFirstValid l (Plain kind poll ∷ fs) = ⊥

-- of the messages from the near end to the far end
pub record IsInOrder (w : LinkWorld) : Type 0 where
  pub prefix : w.far_got ≡ take (length w.far_got) w.near_given
  pub kept : (a : ℕ) × (w.near.queue ≡ drop a w.near_given) × (a ≤ length w.far_got)
  pub few : outstanding w.near ≤ 7
  pub valid : IsFirstValid w.near w.far_sent

abbrev pub InOrder : Type 0
InOrder = (w : LinkWorld) (events : List LinkWorldEvent) → IsLinkOpening w → StaysUp events w → IsInOrder (link_world_after events w) × IsInOrder (swapped (link_world_after events w))
