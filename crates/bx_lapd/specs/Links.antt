-- A data link entity (ITU-T Q.921, 5.5 and 5.6, and Annex B): what it keeps, and what a row of its table may do.
--
-- The queue holds each message that was given and is not acknowledged. The first (V(S) - V(A)) modulo 128 of them were sent: so to go
-- back N is to set V(S) to V(A), and an acknowledgement takes messages from the start. What comes is delivered at once, so there is
-- no own receiver busy condition.
use Rattle.std.specs.Prelude.{◌≡◌, ℕ, ◌+◌, ◌-◌, ◌%◌, ◌==◌, nat_le, ◌&&◌, not, Bool, true, false, List, [], ◌∷◌, ◌++◌, length, take, drop, if◌then◌else◌}
use Rattle.arrayvec.specs.ArrayVec.{ArrayVec}
use Rattle.bx_lapd.specs.declared.words.LinkState.{LinkState}
use Rattle.bx_lapd.specs.declared.words.LinkState.TheVariants.{Assigned, AwaitingEstablishment, Established, TimerRecovery}
use Rattle.bx_lapd.specs.declared.words.Timer.{Timer}
use Rattle.bx_lapd.specs.declared.words.Timer.TheVariants.{Stopped, T200, T203}
use Rattle.bx_lapd.specs.declared.words.Supervisory.TheVariants.{ReceiveReady}
use Rattle.bx_lapd.specs.declared.words.Unnumbered.TheVariants.{Sabme}
use Rattle.bx_lapd.specs.declared.words.ErrorCode.TheVariants.{WrongNumber}
use Rattle.bx_lapd.specs.declared.indication.Indication.{Indication}
use Rattle.bx_lapd.specs.declared.indication.Indication.TheVariants.{LinkError}
use Rattle.bx_lapd.specs.declared.frame.Frame.{Frame}
use Rattle.bx_lapd.specs.declared.frame.Frame.TheVariants.{Information, Numbered, Plain}

-- T200 and T203 in milliseconds, and N200 (5.9). Profile: T200 is 150 ms and N200 is 20, where Q.921 has 1 s and 3 as defaults, so that a
-- frame that is lost is sent again several times within a second, and a link is given up after 3 s as there
abbrev pub t200 : ℕ
t200 = 150

abbrev pub t203 : ℕ
t203 = 10000

abbrev pub n200 : ℕ
n200 = 20

pub record Link : Type 0 where
  pub state : LinkState
  -- V(S), V(A) and V(R), modulo 128
  pub vs : ℕ
  pub va : ℕ
  pub vr : ℕ
  -- the retransmission counter
  pub rc : ℕ
  -- layer 3 asked for the establishment
  pub asked : Bool
  -- the peer's receiver is busy
  pub busy : Bool
  -- a REJ was sent, and what it asks for has not come
  pub rejected : Bool
  -- an acknowledgement is pending
  pub owed : Bool
  pub timer : Timer
  pub queue : List (ArrayVec ℕ)

-- the link of these fields
abbrev pub link_of : LinkState → ℕ → ℕ → ℕ → ℕ → Bool → Bool → Bool → Bool → Timer → List (ArrayVec ℕ) → Link
link_of state vs va vr rc asked busy rejected owed timer queue = record {
  state = state;
  vs = vs;
  va = va;
  vr = vr;
  rc = rc;
  asked = asked;
  busy = busy;
  rejected = rejected;
  owed = owed;
  timer = timer;
  queue = queue;
}

-- what a call sends and tells
pub record Did : Type 0 where
  pub frames : List Frame
  pub told : List Indication

-- what a row does: the link after it, the frames that it sends, and what it tells
pub record LinkStep : Type 0 where
  pub link : Link
  pub frames : List Frame
  pub told : List Indication

abbrev pub does : Link → List Frame → List Indication → LinkStep
does l frames told = record { link = l; frames = frames; told = told }

-- a call has taken just this step
pub record Makes (s : LinkStep) (l : Link) (d : Did) : Type 0 where
  pub link : l ≡ s.link
  pub frames : d.frames ≡ s.frames
  pub told : d.told ≡ s.told

-- one row, and then another
abbrev pub follows_step : LinkStep → (Link → LinkStep) → LinkStep
follows_step s f = record { link = (f s.link).link; frames = s.frames ++ (f s.link).frames; told = s.told ++ (f s.link).told }

-- ---- numbers modulo 128

-- how far a number is after another
abbrev pub ahead : ℕ → ℕ → ℕ
ahead from to = (to + 128 - from) % 128

-- so many were sent and are not acknowledged
abbrev pub outstanding : Link → ℕ
outstanding l = ahead l.va l.vs

-- V(A) ≤ N(R) ≤ V(S)
abbrev pub is_valid : Link → ℕ → Bool
is_valid l nr = nat_le (ahead l.va nr) (outstanding l)

-- ---- frames that are sent

-- RR with F = 1, which answers P = 1
abbrev pub final : Link → Frame
final l = Numbered ReceiveReady false true l.vr

-- RR with P = 1, which asks the peer where it stands
abbrev pub enquiry : Link → Frame
enquiry l = Numbered ReceiveReady true true l.vr

-- the messages as I frames with the numbers from this on
abbrev pub numbered_frames : ℕ → ℕ → List (ArrayVec ℕ) → List Frame
numbered_frames ns nr [] = []
numbered_frames ns nr (m ∷ ms) = Information false ns nr m ∷ numbered_frames ((ns + 1) % 128) nr ms

-- ---- links that change

-- exception conditions are cleared, and SABME goes out
abbrev pub establishing : Link → Bool → ℕ → Link
establishing l asked now = record l { state = AwaitingEstablishment; rc = 0; asked = asked; busy = false; rejected = false; owed = false; timer = T200 (now + t200) }

abbrev pub establishes : Link → Bool → ℕ → LinkStep
establishes l asked now = does (establishing l asked now) (Plain Sabme true ∷ []) []

-- multiple frame operation begins
abbrev pub begun_link : Link → ℕ → Link
begun_link l now = record l { state = Established; vs = 0; va = 0; vr = 0; busy = false; rejected = false; owed = false; timer = T203 (now + t203) }

abbrev pub assigned : Link → Link
assigned l = record l { state = Assigned; busy = false; rejected = false; owed = false; timer = Stopped }

abbrev pub discarded : Link → Link
discarded l = record l { queue = [] }

-- what N(R) acknowledges is taken from the queue
abbrev pub acknowledged : Link → ℕ → Link
acknowledged l nr = record l { va = nr; queue = drop (ahead l.va nr) l.queue }

-- N(R) error recovery (5.8.5)
abbrev pub wrong_number : Link → ℕ → LinkStep
wrong_number l now = does (establishing l false now) (Plain Sabme true ∷ []) (LinkError WrongNumber ∷ [])

abbrev pub is_established : LinkState → Bool
is_established Established = true
is_established _ = false

abbrev pub is_recovering : LinkState → Bool
is_recovering TimerRecovery = true
is_recovering _ = false

-- state 7, and nothing that was given is unacknowledged
abbrev pub is_at_rest : Link → Bool
is_at_rest l = is_established l.state && (length l.queue == 0)

-- states 7 and 8
abbrev pub is_link_up : LinkState → Bool
is_link_up Established = true
is_link_up TimerRecovery = true
is_link_up _ = false

-- T200 is started where it does not run
abbrev pub running : Timer → ℕ → Timer
running (T200 due) now = T200 due
running _ now = T200 (now + t200)

-- ---- what goes out after each row

-- the messages that the window has room for, of at most k = 7
abbrev pub sendable : Link → List (ArrayVec ℕ)
sendable l = if is_established l.state && not l.busy then take (7 - outstanding l) (drop (outstanding l) l.queue) else []

-- an acknowledgement that no I frame carried
abbrev pub acknowledges : Link → Bool → LinkStep
acknowledges l true = does (record l { owed = false }) (Numbered ReceiveReady false false l.vr ∷ []) []
acknowledges l false = does l [] []

abbrev pub flushes : Link → ℕ → List (ArrayVec ℕ) → LinkStep
flushes l now [] = acknowledges l l.owed
flushes l now (m ∷ ms) = does (record l { vs = (l.vs + length (m ∷ ms)) % 128; owed = false; timer = running l.timer now }) (numbered_frames l.vs l.vr (m ∷ ms)) []

abbrev pub flush : ℕ → Link → LinkStep
flush now l = flushes l now (sendable l)
