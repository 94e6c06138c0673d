-- The world of two ends of a link: between them a medium that is first-in-first-out in each direction, delays without bound, and may
-- lose any frame. An event is one of either end: layer 3 gives a message, the first frame on the way to it comes, the first frame that
-- it sent and that has not come is lost, time has gone by to an instant, or layer 3 asks for a poll, an establishment or a release.
use Rattle.std.specs.Prelude.{ℕ, List, [], ◌∷◌, ◌++◌, if◌then◌else◌}
use Rattle.arrayvec.specs.ArrayVec.{ArrayVec}
use Rattle.bx_lapd.specs.declared.frame.Frame.{Frame}
use Rattle.bx_lapd.specs.Links.{Link, LinkStep}
use Rattle.bx_lapd.specs.declared.indication.Indication.{Indication}
use Rattle.bx_lapd.specs.declared.indication.Indication.TheVariants.{LinkEstablished, LinkReleased, Delivered, LinkError}
use Rattle.bx_lapd.specs.Table.{establish, release, takes_data, give, hear, elapse, poll}

pub record LinkWorld : Type 0 where
  pub near : Link
  pub far : Link
  -- what each sent and has not come: the first is the oldest
  pub near_sent : List Frame
  pub far_sent : List Frame
  -- what each was given and took, and what each delivered
  pub near_given : List (ArrayVec ℕ)
  pub far_given : List (ArrayVec ℕ)
  pub near_got : List (ArrayVec ℕ)
  pub far_got : List (ArrayVec ℕ)

pub data EndEvent : Type 0 where
  Gives : (message : ArrayVec ℕ) (now : ℕ) → EndEvent
  Hears : (now : ℕ) → EndEvent
  Loses : EndEvent
  Elapses : (now : ℕ) → EndEvent
  Polls : (now : ℕ) → EndEvent
  Asks : (now : ℕ) → EndEvent
  Releases : (now : ℕ) → EndEvent

pub data LinkWorldEvent : Type 0 where
  AtNear : (e : EndEvent) → LinkWorldEvent
  AtFar : (e : EndEvent) → LinkWorldEvent

abbrev pub messages_of : List Indication → List (ArrayVec ℕ)
messages_of [] = []
messages_of (Delivered m ∷ told) = m ∷ messages_of told
messages_of (LinkEstablished ∷ told) = messages_of told
messages_of (LinkReleased ∷ told) = messages_of told
messages_of (LinkError code ∷ told) = messages_of told

-- the near end has done this
abbrev pub near_becomes : LinkWorld → LinkStep → LinkWorld
near_becomes w s = record w { near = s.link; near_sent = w.near_sent ++ s.frames; near_got = w.near_got ++ messages_of s.told }

abbrev pub comes : LinkWorld → List Frame → ℕ → LinkWorld
comes w [] now = w
comes w (f ∷ rest) now = near_becomes (record w { far_sent = rest }) (hear w.near f now)

abbrev pub frames_lost : LinkWorld → List Frame → LinkWorld
frames_lost w [] = w
frames_lost w (f ∷ rest) = record w { near_sent = rest }

abbrev pub at_near : LinkWorld → EndEvent → LinkWorld
at_near w (Gives m now) = near_becomes (record w { near_given = w.near_given ++ (if takes_data w.near.state w.near then m ∷ [] else []) }) (give w.near m now)
at_near w (Hears now) = comes w w.far_sent now
at_near w Loses = frames_lost w w.near_sent
at_near w (Elapses now) = near_becomes w (elapse w.near now)
at_near w (Polls now) = near_becomes w (poll w.near now)
at_near w (Asks now) = near_becomes w (establish w.near.state w.near now)
at_near w (Releases now) = near_becomes w (release w.near.state w.near now)

abbrev pub swapped : LinkWorld → LinkWorld
swapped w = record { near = w.far; far = w.near; near_sent = w.far_sent; far_sent = w.near_sent; near_given = w.far_given; far_given = w.near_given; near_got = w.far_got; far_got = w.near_got }

abbrev pub link_world_happens : LinkWorld → LinkWorldEvent → LinkWorld
link_world_happens w (AtNear e) = at_near w e
link_world_happens w (AtFar e) = swapped (at_near (swapped w) e)

abbrev pub link_world_after : List LinkWorldEvent → LinkWorld → LinkWorld
link_world_after [] w = w
link_world_after (e ∷ es) w = link_world_after es (link_world_happens w e)
