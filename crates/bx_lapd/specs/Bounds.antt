-- Each link and each frame is within its limits, whatever comes: from a peer that is not `bx`, too.
use Rattle.std.specs.Prelude.{◌≡◌, ℕ, ◌<◌, ◌≤◌, true, length}
use Rattle.std.specs.List.{AllByRecursion}
use Rattle.arrayvec.specs.ArrayVec.{ArrayVec}
use Rattle.bx_q931.specs.declared.reading.TheConstants.{MAX_MESSAGE}
use Rattle.bx_lapd.specs.declared.words.ErrorCode.{ErrorCode}
use Rattle.bx_lapd.specs.declared.frame.Frame.{Frame}
use Rattle.bx_lapd.specs.declared.frame.Frame.TheVariants.{Information, Numbered, Plain}
use Rattle.bx_lapd.specs.Links.{n200, Link, LinkStep, outstanding, is_link_up}
use Rattle.bx_lapd.specs.Table.{establish, release, give, elapse, poll, hear, hear_fault}

-- N201 is `MAX_MESSAGE`: a message has at most 260 octets, so a frame has at most 264 before its check sequence
abbrev pub IsShortEnough : ArrayVec ℕ → Type 0
IsShortEnough m = length m.items ≤ MAX_MESSAGE

abbrev pub IsFrame : Frame → Type 0
IsFrame (Information poll ns nr m) = (ns < 128) × (nr < 128) × IsShortEnough m
IsFrame (Numbered kind command poll nr) = nr < 128
IsFrame (Plain kind poll) = Unit {0}

pub record IsLink (l : Link) : Type 0 where
  pub vs : l.vs < 128
  pub va : l.va < 128
  pub vr : l.vr < 128
  pub rc : l.rc ≤ n200
  -- at most k = 7 I frames are outstanding, and while the link is up all of them are kept
  pub window : outstanding l ≤ 7
  pub held : is_link_up l.state ≡ true → outstanding l ≤ length l.queue
  pub few : length l.queue ≤ 32
  pub messages : AllByRecursion IsShortEnough l.queue

pub record IsBoundedStep (s : LinkStep) : Type 0 where
  pub link : IsLink s.link
  pub frames : AllByRecursion IsFrame s.frames
  pub few : length s.frames ≤ 9

-- what each call does with a link within its limits
pub record StaysWithin (l : Link) (now : ℕ) : Type 0 where
  pub establish : IsBoundedStep (establish l.state l now)
  pub release : IsBoundedStep (release l.state l now)
  pub give : (m : ArrayVec ℕ) → IsShortEnough m → IsBoundedStep (give l m now)
  pub elapse : IsBoundedStep (elapse l now)
  pub poll : IsBoundedStep (poll l now)
  pub hear : (f : Frame) → IsFrame f → IsBoundedStep (hear l f now)
  pub hear_fault : (code : ErrorCode) → IsBoundedStep (hear_fault l code now)

abbrev pub Within : Type 0
Within = (l : Link) (now : ℕ) → IsLink l → StaysWithin l now
