-- A live day and the other end of its link: the two ends of `bx_lapd`, of which this one is the near end.
use Rattle.std.specs.Prelude.{◌≡◌, List, [], ◌∷◌, ◌++◌, Ok, Err}
use Rattle.bx_lapd.specs.declared.frame.Frame.{Frame}
use Rattle.bx_lapd.specs.declared.refusal.Refusal.TheVariants as refusals
use Rattle.bx_lapd.specs.declared.refusal.Invalid.{Invalid}
use Rattle.bx_lapd.specs.Codec.{read_octets}
use Rattle.bx_lapd.specs.Once.{IsPartOf, AreUnlinked}
use Rattle.bx_lapd.specs.World.{LinkWorld, LinkWorldEvent, AtNear, AtFar, EndEvent, Gives, Hears, Loses, Elapses, Polls, Asks, link_world_after, link_world_happens, at_near}
use Rattle.bx_live.specs.Acts.{Act}
use Rattle.bx_line_world.specs.Wires.{WireAct}
use Rattle.bx_line_world.specs.Lines.{LineEvent, Asked, Given, Elapsed, Enquired, Heard, Passed, Quiet, time_at}
use Rattle.bx_line_world.specs.Joined.{LinkEnd, end_of, line_at, after_event, given_in, read_in, GoesOverLink}
use Rattle.bx_line_world.specs.declared.line_world.LineWorld.{LineWorld}

-- an event of this end that is nothing to the link; one that is; or one of the other end, or of the medium
pub data Shared : Type 0 where
  Idle : (event : LineEvent) → Shared
  Ours : (event : LineEvent) (same : EndEvent) → Shared
  Theirs : (event : LinkWorldEvent) → Shared

abbrev pub our_events : List Shared → List LineEvent
our_events [] = []
our_events (Idle event ∷ more) = event ∷ our_events more
our_events (Ours event same ∷ more) = event ∷ our_events more
our_events (Theirs event ∷ more) = our_events more

abbrev pub all_events : List Shared → List LinkWorldEvent
all_events [] = []
all_events (Idle event ∷ more) = all_events more
all_events (Ours event same ∷ more) = AtNear same ∷ all_events more
all_events (Theirs event ∷ more) = event ∷ all_events more

-- nothing came; octets came that are no frame of the link; or a message was passed over, which the medium has lost then
abbrev pub IsIdle : LinkEnd → LineEvent → Type 0
IsIdle u (Quiet until) = Unit {0}
IsIdle u (Passed until octets) = Unit {0}
IsIdle u (Heard until octets shown) = (why : Invalid) × (read_octets u.network octets ≡ Err (refusals.Dropped why))
IsIdle u event = ⊥

-- the same event at the near end: what comes is the first frame that the other end has sent and that has not come
abbrev pub IsSame : LinkEnd → LinkWorld → LineEvent → EndEvent → Type 0
IsSame u w (Asked shown) (Asks now) = now ≡ time_at (line_at u) shown
IsSame u w (Given m shown) (Gives message now) = (message ≡ m) × (now ≡ time_at (line_at u) shown)
IsSame u w (Elapsed shown) (Elapses now) = now ≡ time_at (line_at u) shown
IsSame u w (Enquired shown) (Polls now) = now ≡ time_at (line_at u) shown
IsSame u w (Heard until octets shown) (Hears now) = (now ≡ time_at (line_at u) shown) × ((f : Frame) × (rest : List Frame) × (w.far_sent ≡ f ∷ rest) × (read_octets u.network octets ≡ Ok f))
IsSame u w event same = ⊥

-- anything that happens at the other end, and a frame of this end that is lost
abbrev pub IsTheirs : LinkWorldEvent → Type 0
IsTheirs (AtFar event) = Unit {0}
IsTheirs (AtNear Loses) = Unit {0}
IsTheirs event = ⊥

abbrev pub AreShared : LinkEnd → LinkWorld → List Shared → Type 0
AreShared u w [] = Unit {0}
AreShared u w (Idle event ∷ more) = IsIdle u event × AreShared (after_event u event) w more
AreShared u w (Ours event same ∷ more) = IsSame u w event same × AreShared (after_event u event) (at_near w same) more
AreShared u w (Theirs event ∷ more) = IsTheirs event × AreShared u (link_world_happens w event) more

-- Of two ends that were not linked, with a medium that is first-in-first-out and loses what it likes: the other end delivers a part of what
-- the day gave, in its order, each message once at most; and what the day read is a part of what waited and of what the other end was given.
abbrev pub IsOnce : {W D : Type 0} → (W → List WireAct → W → Type 0) → LineWorld W D → LineWorld W D → List Act → Type 0
IsOnce did old new acts = (day : GoesOverLink did old new acts) (w : LinkWorld) (events : List Shared) → AreUnlinked w → w.near ≡ old.line.end.link → our_events events ≡ day.events → AreShared (end_of old.line) w events
    → IsPartOf (link_world_after (all_events events) w).far_got (given_in day.events) × IsPartOf (read_in acts ++ new.line.post.messages.items) (old.line.post.messages.items ++ (link_world_after (all_events events) w).far_given)
