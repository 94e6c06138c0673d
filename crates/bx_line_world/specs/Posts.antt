-- What a link has told, and the day has not heard.
use Rattle.std.specs.Prelude.{◌≡◌, ◌⊎◌, ◌<◌, ℕ, zero, nat_lt, nat_le, Bool, true, false, List, [], ◌∷◌, ◌++◌, ◌&&◌, length, Option, Some, None}
use Rattle.arrayvec.specs.ArrayVec.{ArrayVec}
use Rattle.bx_frames.specs.declared.fault.LinkFault.{LinkFault}
use Rattle.bx_frames.specs.declared.fault.LinkFault.TheVariants.{LinkReset, MoreThan64Messages}
use Rattle.bx_frames.specs.declared.turn.TheConstants.{MAX_MESSAGES}
use Rattle.bx_q931.specs.Restarts.{restarts_interface}
use Rattle.bx_lapd.specs.declared.indication.Indication.{Indication}
use Rattle.bx_lapd.specs.declared.indication.Indication.TheVariants.{LinkEstablished, LinkReleased, Delivered, LinkError}
use Rattle.bx_lapd.specs.declared.words.ErrorCode.{ErrorCode}
use Rattle.bx_lapd.specs.declared.words.ErrorCode.TheVariants.{PeerEstablishes, UnaskedFinal, UaFinal, Ua}
use Rattle.bx_live.specs.declared.world.Begin.{Begin}
use Rattle.bx_live.specs.declared.world.Begin.TheVariants.{Late, Alone, Joined, Ended}
use Rattle.bx_live.specs.declared.world.Loss.{Loss}
use Rattle.bx_live.specs.declared.world.Loss.TheVariants as losses
use Rattle.bx_line_world.specs.declared.post.Post.{Post}

-- nothing
abbrev pub no_post : Post
no_post = record { messages = record { items = [] }; lost = None; here = false; asked = false }

-- what a day finds that goes on from a moment: behind a start what was said last may be lost, which the day is told
abbrev pub post_from : ℕ → Post
post_from zero = no_post
post_from moment = record no_post { lost = Some LinkReset }

abbrev pub with_messages : Post → List (ArrayVec ℕ) → Post
with_messages p ms = record p { messages = record { items = ms } }

-- what was under way may be lost: the day is told, where it has this link. What was delivered before was acknowledged, and stays
abbrev pub reset : Bool → Post → Post
reset true p = record p { lost = Some LinkReset }
reset false p = p

-- the other end has still to be asked, in this second of the clock, whether it is there
abbrev pub not_asked : Post → Post
not_asked p = record p { asked = false }

-- the other end has established the link anew: it may know nothing of what was said over it before (ITU-T Q.921, 5.7)
abbrev pub is_anew : ErrorCode → Bool
is_anew PeerEstablishes = true
is_anew code = false

-- an answer that nobody waits for, as one that comes twice: the link stays as it is
abbrev pub is_stray : ErrorCode → Bool
is_stray UnaskedFinal = true
is_stray UaFinal = true
is_stray Ua = true
is_stray code = false

-- the link has told an error
abbrev pub erred : Bool → Bool → Post → Post
erred true anew p = p
erred false anew p = not_asked (reset (anew && p.here) p)

-- a message that there is no room for is lost
abbrev pub put : Bool → Post → ArrayVec ℕ → Post
put true p m = with_messages p (p.messages.items ++ m ∷ [])
put false p m = record p { lost = Some MoreThan64Messages }

-- a message was delivered. By a RESTART of a whole interface the other end says that it has no call any more: the day is told as of a reset,
-- so that it asks for each call
abbrev pub delivered_to : Bool → Post → ArrayVec ℕ → Post
delivered_to restarts p m = reset (restarts && p.here) (put (nat_lt (length p.messages.items) MAX_MESSAGES) p m)

-- The link has told this. All but a message, and an answer that nobody waits for, says that the link is another than before, or may be: who
-- was asked over the old one has to be asked again
abbrev pub told_to : Post → Indication → Post
told_to p (Delivered m) = delivered_to (restarts_interface m.items) p m
told_to p LinkEstablished = not_asked (reset p.here p)
told_to p LinkReleased = not_asked (reset p.here p)
told_to p (LinkError code) = erred (is_stray code) (is_anew code) p

abbrev pub all_told_to : Post → List Indication → Post
all_told_to p [] = p
all_told_to p (told ∷ more) = all_told_to (told_to p told) more

-- a second has begun: the day has the link, or not. A late one changes nothing
abbrev pub begun_by : Post → Begin → Post
begun_by p Late = p
begun_by p Alone = record p { here = false; lost = None }
begun_by p Joined = record p { here = true; lost = None }
begun_by p Ended = p

-- the day has dropped the link
abbrev pub dropped_by : Post → Loss → Post
dropped_by p losses.Late = p
dropped_by p (losses.Fault fault) = record p { here = false; lost = Some fault }

-- no message is there; or the first has more octets than this
abbrev pub IsNoneWithin : ℕ → Post → Type 0
IsNoneWithin left p = (p.messages.items ≡ []) ⊎ ((m : ArrayVec ℕ) × (rest : List (ArrayVec ℕ)) × (p.messages.items ≡ m ∷ rest) × (left < length m.items))

abbrev pub is_lost : Option LinkFault → Bool
is_lost None = false
is_lost (Some fault) = true

-- no message more has room
abbrev pub is_full : Post → Bool
is_full p = nat_le MAX_MESSAGES (length p.messages.items)

abbrev pub is_any : List (ArrayVec ℕ) → Bool
is_any [] = false
is_any (m ∷ ms) = true
