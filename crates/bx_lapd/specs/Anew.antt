-- A link skips nothing between two establishments, over any number of them.
--
-- Take two ends that are not linked, and any list of events of the world in which layer 3 releases no link, and T200 of an establishment is
-- due only where neither its SABME nor the answer to that is on the way: each has come, or was lost. Count what an end was given, and
-- what it delivered, from its last establishment on; what it keeps then is the first that it has to send. While both ends are up,
-- what one delivered is a prefix of what the other had to send, and all else that `in_order` says.
--
-- The premise is kept by a line whose round trip is below T200. Without it a SABME that is sent again, and comes after the answer to the
-- first, sets back one end alone.
use Rattle.std.specs.Prelude.{◌≡◌, ℕ, ◌+◌, Bool, true, false, List, [], ◌∷◌, if◌then◌else◌}
use Rattle.bx_lapd.specs.declared.words.LinkState.{LinkState}
use Rattle.bx_lapd.specs.declared.words.LinkState.TheVariants.{AwaitingEstablishment, AwaitingRelease}
use Rattle.bx_lapd.specs.declared.words.Unnumbered.TheVariants as u
use Rattle.bx_lapd.specs.declared.frame.Frame.{Frame}
use Rattle.bx_lapd.specs.declared.frame.Frame.TheVariants.{Plain}
use Rattle.bx_lapd.specs.Links.{is_link_up}
use Rattle.bx_lapd.specs.Table.{is_due}
use Rattle.bx_lapd.specs.Law.{IsInOrder}
use Rattle.bx_lapd.specs.Once.{AreUnlinked}
use Rattle.bx_lapd.specs.World.{LinkWorld, EndEvent, Hears, Elapses, Releases, LinkWorldEvent, AtNear, AtFar, at_near, swapped, link_world_after}

-- ---- from the last establishment on

-- an end is established, or established anew, by this frame
abbrev pub is_begun_by_sabme : LinkState → Bool
is_begun_by_sabme AwaitingEstablishment = false
is_begun_by_sabme AwaitingRelease = false
is_begun_by_sabme _ = true

abbrev pub is_begun_by_ua : LinkState → Bool
is_begun_by_ua AwaitingEstablishment = true
is_begun_by_ua _ = false

abbrev pub begins_link_by : Frame → LinkState → Bool
begins_link_by (Plain u.Sabme poll) state = is_begun_by_sabme state
begins_link_by (Plain u.Ua true) state = is_begun_by_ua state
begins_link_by _ state = false

abbrev pub begins_link : LinkState → List Frame → Bool
begins_link state [] = false
begins_link state (f ∷ fs) = begins_link_by f state

abbrev pub renewed : Bool → LinkWorld → LinkWorld
renewed true w = record w { near_given = w.near.queue; near_got = [] }
renewed false w = w

abbrev pub near_since : LinkWorld → EndEvent → LinkWorld
near_since w (Hears now) = renewed (begins_link w.near.state w.far_sent) (at_near w (Hears now))
near_since w e = at_near w e

-- the world, in which given and got count so
abbrev pub since_happens : LinkWorld → LinkWorldEvent → LinkWorld
since_happens w (AtNear e) = near_since w e
since_happens w (AtFar e) = swapped (near_since (swapped w) e)

abbrev pub since_after : List LinkWorldEvent → LinkWorld → LinkWorld
since_after [] w = w
since_after (e ∷ es) w = since_after es (since_happens w e)

-- the ends and the frames on the way are those of the world as it is
pub record IsSameLink (w z : LinkWorld) : Type 0 where
  pub near : z.near ≡ w.near
  pub far : z.far ≡ w.far
  pub near_sent : z.near_sent ≡ w.near_sent
  pub far_sent : z.far_sent ≡ w.far_sent

abbrev pub SameLinks : Type 0
SameLinks = (w : LinkWorld) (events : List LinkWorldEvent) → IsSameLink (link_world_after events w) (since_after events w)

-- ---- the premise

abbrev pub is_sabme : Frame → Bool
is_sabme (Plain u.Sabme poll) = true
is_sabme _ = false

abbrev pub is_ua : Frame → Bool
is_ua (Plain u.Ua poll) = true
is_ua _ = false

abbrev pub frames_counted : (Frame → Bool) → List Frame → ℕ
frames_counted test [] = 0
frames_counted test (f ∷ fs) = (if test f then 1 else 0) + frames_counted test fs

abbrev pub IsTimely : LinkWorld → EndEvent → Type 0
IsTimely w (Elapses now) = w.near.state ≡ AwaitingEstablishment → is_due w.near.timer now ≡ true → frames_counted is_sabme w.near_sent + frames_counted is_ua w.far_sent ≡ 0
IsTimely w (Releases now) = ⊥
IsTimely w _ = Unit {0}

abbrev pub IsTimelyIn : LinkWorld → LinkWorldEvent → Type 0
IsTimelyIn w (AtNear e) = IsTimely w e
IsTimelyIn w (AtFar e) = IsTimely (swapped w) e

abbrev pub AreTimely : List LinkWorldEvent → LinkWorld → Type 0
AreTimely [] w = Unit {0}
AreTimely (e ∷ es) w = IsTimelyIn w e × AreTimely es (since_happens w e)

-- ---- the law

-- neither end owes an acknowledgement
pub record AreIdle (w : LinkWorld) : Type 0 where
  pub unlinked : AreUnlinked w
  pub near : w.near.owed ≡ false
  pub far : w.far.owed ≡ false

abbrev pub Anew : Type 0
Anew = (w : LinkWorld) (events : List LinkWorldEvent) → AreIdle w → AreTimely events w → is_link_up (since_after events w).near.state ≡ true → is_link_up (since_after events w).far.state ≡ true → IsInOrder (since_after events w) × IsInOrder (swapped (since_after events w))
