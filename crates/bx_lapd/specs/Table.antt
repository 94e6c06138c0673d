-- The table of a data link entity (ITU-T Q.921, Annex B): what comes, in each state.
use Rattle.std.specs.Prelude.{ℕ, ◌+◌, ◌%◌, ◌==◌, nat_le, nat_lt, ◌&&◌, ◌||◌, not, Bool, true, false, List, [], ◌∷◌, ◌++◌, length, if◌then◌else◌, Option, Some, None}
use Rattle.arrayvec.specs.ArrayVec.{ArrayVec}
use Rattle.bx_lapd.specs.declared.words.LinkState.{LinkState}
use Rattle.bx_lapd.specs.declared.words.LinkState.TheVariants.{Assigned, AwaitingEstablishment, AwaitingRelease, Established, TimerRecovery}
use Rattle.bx_lapd.specs.declared.words.Timer.{Timer}
use Rattle.bx_lapd.specs.declared.words.Timer.TheVariants.{Stopped, T200, T203}
use Rattle.bx_lapd.specs.declared.words.Supervisory.{Supervisory}
use Rattle.bx_lapd.specs.declared.words.Supervisory.TheVariants.{ReceiveReady, ReceiveNotReady, Reject}
use Rattle.bx_lapd.specs.declared.words.Unnumbered.{Unnumbered}
use Rattle.bx_lapd.specs.declared.words.Unnumbered.TheVariants as u
use Rattle.bx_lapd.specs.declared.words.ErrorCode.{ErrorCode}
use Rattle.bx_lapd.specs.declared.words.ErrorCode.TheVariants as error
use Rattle.bx_lapd.specs.declared.frame.Frame.{Frame}
use Rattle.bx_lapd.specs.declared.frame.Frame.TheVariants.{Information, Numbered, Plain}
use Rattle.bx_lapd.specs.Links.{t200, t203, n200, Link, LinkStep, does, follows_step, is_valid, final, enquiry, establishing, establishes, begun_link, assigned, discarded, acknowledged, wrong_number, is_established, is_recovering, is_at_rest, is_link_up, flush}
use Rattle.bx_lapd.specs.declared.indication.Indication.{Indication}
use Rattle.bx_lapd.specs.declared.indication.Indication.TheVariants.{LinkEstablished, LinkReleased, Delivered, LinkError}

-- ---- layer 3's requests

-- DL-ESTABLISH request (state 6 keeps its release: layer 3 asks again)
abbrev pub establish : LinkState → Link → ℕ → LinkStep
establish AwaitingRelease l now = does l [] []
establish AwaitingEstablishment l now = does (record (discarded l) { asked = true }) [] []
establish _ l now = establishes (discarded l) true now

-- DL-RELEASE request
abbrev pub release : LinkState → Link → ℕ → LinkStep
release Assigned l now = does l [] (LinkReleased ∷ [])
release AwaitingRelease l now = does l [] []
release _ l now = does (record (discarded l) { state = AwaitingRelease; rc = 0; busy = false; rejected = false; owed = false; timer = T200 (now + t200) }) (Plain u.Disc true ∷ []) []

-- DL-DATA request: taken in states 7 and 8, and in state 5 where the link comes back by itself; at most 32 messages wait
abbrev pub takes_data : LinkState → Link → Bool
takes_data Established l = nat_lt (length l.queue) 32
takes_data TimerRecovery l = nat_lt (length l.queue) 32
takes_data AwaitingEstablishment l = not l.asked && nat_lt (length l.queue) 32
takes_data _ l = false

abbrev pub give : Link → ArrayVec ℕ → ℕ → LinkStep
give l m now = if takes_data l.state l then flush now (record l { queue = l.queue ++ m ∷ [] }) else does l [] []

-- ---- timers

abbrev pub is_due : Timer → ℕ → Bool
is_due Stopped now = false
is_due (T200 due) now = nat_le due now
is_due (T203 due) now = nat_le due now

abbrev pub due_of : Timer → Option ℕ
due_of Stopped = None
due_of (T200 due) = Some due
due_of (T203 due) = Some due

-- RC after the first enquiry: T200 counts
abbrev pub first_count : Timer → ℕ
first_count (T200 due) = 1
first_count _ = 0

abbrev pub enquires : Link → ℕ → ℕ → LinkStep
enquires l rc now = does (record l { state = TimerRecovery; rc = rc; owed = false; timer = T200 (now + t200) }) (enquiry l ∷ []) []

-- a timer is due
abbrev pub expires : LinkState → Link → ℕ → LinkStep
expires Assigned l now = does l [] []
expires AwaitingEstablishment l now =
    if nat_lt l.rc n200 then does (record l { rc = l.rc + 1; timer = T200 (now + t200) }) (Plain u.Sabme true ∷ []) []
    else does (discarded (assigned l)) [] (LinkError error.SabmeUnanswered ∷ LinkReleased ∷ [])
expires AwaitingRelease l now =
    if nat_lt l.rc n200 then does (record l { rc = l.rc + 1; timer = T200 (now + t200) }) (Plain u.Disc true ∷ []) []
    else does (assigned l) [] (LinkError error.DiscUnanswered ∷ LinkReleased ∷ [])
expires Established l now = enquires l (first_count l.timer) now
expires TimerRecovery l now =
    if nat_lt l.rc n200 then enquires l (l.rc + 1) now
    else does (establishing l false now) (Plain u.Sabme true ∷ []) (LinkError error.EnquiryUnanswered ∷ [])

abbrev pub elapse : Link → ℕ → LinkStep
elapse l now = if is_due l.timer now then expires l.state l now else does l [] []

-- The other end is asked whether it is there, where nothing is unacknowledged: the row of T203 in state 7 (5.10), at an instant of layer
-- 3's choice. The link is in state 7 again when it has answered
abbrev pub poll : Link → ℕ → LinkStep
poll l now = if is_at_rest l then enquires l 0 now else does l [] []

-- ---- unnumbered frames

-- SABME in states 7 and 8: what was sent and not acknowledged may have come or not, so layer 3 is told
abbrev pub established_anew : Bool → Link → Bool → ℕ → LinkStep
established_anew true l poll now = does (begun_link l now) (Plain u.Ua poll ∷ []) (LinkError error.PeerEstablishes ∷ [])
established_anew false l poll now = does (begun_link (discarded l) now) (Plain u.Ua poll ∷ []) (LinkError error.PeerEstablishes ∷ LinkEstablished ∷ [])

abbrev pub hear_sabme : LinkState → Link → Bool → ℕ → LinkStep
hear_sabme AwaitingRelease l poll now = does l (Plain u.Dm poll ∷ []) []
hear_sabme AwaitingEstablishment l poll now = does l (Plain u.Ua poll ∷ []) []
hear_sabme Assigned l poll now = does (begun_link l now) (Plain u.Ua poll ∷ []) (LinkEstablished ∷ [])
hear_sabme _ l poll now = established_anew (l.vs == l.va) l poll now

abbrev pub hear_disc : LinkState → Link → Bool → LinkStep
hear_disc Assigned l poll = does l (Plain u.Dm poll ∷ []) []
hear_disc AwaitingEstablishment l poll = does l (Plain u.Dm poll ∷ []) []
hear_disc AwaitingRelease l poll = does l (Plain u.Ua poll ∷ []) []
hear_disc _ l poll = does (discarded (assigned l)) (Plain u.Ua poll ∷ []) (LinkReleased ∷ [])

-- the link that was asked for is there, by layer 3 or by this end itself
abbrev pub confirmed : Bool → Bool → Link → ℕ → LinkStep
confirmed true _ l now = does (begun_link l now) [] (LinkEstablished ∷ [])
confirmed false true l now = does (begun_link l now) [] []
confirmed false false l now = does (begun_link (discarded l) now) [] (LinkEstablished ∷ [])

abbrev pub hear_ua : LinkState → Link → Bool → ℕ → LinkStep
hear_ua AwaitingEstablishment l true now = confirmed l.asked (l.vs == l.va) l now
hear_ua AwaitingRelease l true now = does (assigned l) [] (LinkReleased ∷ [])
hear_ua _ l true now = does l [] (LinkError error.UaFinal ∷ [])
hear_ua _ l false now = does l [] (LinkError error.Ua ∷ [])

abbrev pub hear_dm : LinkState → Link → Bool → ℕ → LinkStep
hear_dm Assigned l false now = establishes l true now
hear_dm Assigned l true now = does l [] []
hear_dm AwaitingEstablishment l true now = does (discarded (assigned l)) [] (LinkReleased ∷ [])
hear_dm AwaitingEstablishment l false now = does l [] []
hear_dm AwaitingRelease l true now = does (assigned l) [] (LinkReleased ∷ [])
hear_dm AwaitingRelease l false now = does l [] []
hear_dm Established l true now = does l [] (LinkError error.DmFinal ∷ [])
hear_dm TimerRecovery l true now = does (establishing l false now) (Plain u.Sabme true ∷ []) (LinkError error.DmFinal ∷ [])
hear_dm _ l false now = does (establishing l false now) (Plain u.Sabme true ∷ []) (LinkError error.Dm ∷ [])

-- an error for which a link that is up is established anew
abbrev pub fails : Bool → Link → ErrorCode → ℕ → LinkStep
fails true l code now = does (establishing l false now) (Plain u.Sabme true ∷ []) (LinkError code ∷ [])
fails false l code now = does l [] []

abbrev pub hear_plain : Unnumbered → Link → Bool → ℕ → LinkStep
hear_plain u.Sabme l poll now = hear_sabme l.state l poll now
hear_plain u.Disc l poll now = hear_disc l.state l poll
hear_plain u.Ua l poll now = hear_ua l.state l poll now
hear_plain u.Dm l poll now = hear_dm l.state l poll now
hear_plain u.Frmr l poll now = fails (is_link_up l.state) l error.Frmr now
hear_plain u.Ui l poll now = does l [] []
hear_plain u.Xid l poll now = does l [] []

-- ---- I frames, in states 7 and 8

-- P = 1 is answered at once
abbrev pub answers : Bool → Link → List Indication → LinkStep
answers true l told = does (record l { owed = false }) (final l ∷ []) told
answers false l told = does l [] told

-- the message that is due is delivered, and owed an acknowledgement
abbrev pub took : Link → Link
took l = record l { vr = (l.vr + 1) % 128; rejected = false; owed = true }

-- any other: REJ, once until what is due has come
abbrev pub rejects : Bool → Link → Bool → LinkStep
rejects true l poll = answers poll l []
rejects false l poll = does (record l { rejected = true; owed = false }) (Numbered Reject false poll l.vr ∷ []) []

abbrev pub hear_message : Bool → Link → Bool → ArrayVec ℕ → LinkStep
hear_message true l poll m = answers poll (took l) (Delivered m ∷ [])
hear_message false l poll m = rejects l.rejected l poll

-- the timer after an acknowledgement; `same` says that it acknowledged nothing new
abbrev pub timed : Bool → Bool → Link → ℕ → Link
timed true same l now = record l { timer = T203 (now + t203) }
timed false true l now = l
timed false false l now = record l { timer = T200 (now + t200) }

abbrev pub settled : Bool → Bool → Link → ℕ → Link
settled true same l now = l
settled false same l now = timed (l.vs == l.va) same l now

-- N(R) of an I frame, and of RR in state 7
abbrev pub hear_number : Bool → Link → ℕ → ℕ → LinkStep
hear_number true l nr now = does (settled (is_recovering l.state || l.busy) (nr == l.va) (acknowledged l nr) now) [] []
hear_number false l nr now = wrong_number l now

abbrev pub hear_information : Link → Bool → ℕ → ℕ → ArrayVec ℕ → ℕ → LinkStep
hear_information l poll ns nr m now = follows_step (hear_message (ns == l.vr) l poll m) (λ k. hear_number (is_valid k nr) k nr now)

-- ---- RR, RNR and REJ, in states 7 and 8

abbrev pub is_not_ready : Supervisory → Bool
is_not_ready ReceiveNotReady = true
is_not_ready _ = false

-- in state 7
abbrev pub guided : Supervisory → Bool → Link → ℕ → Link
guided ReceiveReady same l now = settled false same l now
guided Reject same l now = record l { vs = l.va; timer = T203 (now + t203) }
guided ReceiveNotReady same l now = record l { timer = T200 (now + t200) }

-- in state 8: F = 1 ends the recovery, and what is not acknowledged is sent again. Profile: where the peer is busy V(S) does not go
-- back, so that it is never below what was sent; T200 finds what is missing
abbrev pub recovered_link : Bool → Supervisory → Link → ℕ → Link
recovered_link false kind l now = l
recovered_link true ReceiveNotReady l now = record l { state = Established; timer = T200 (now + t200) }
recovered_link true _ l now = record l { state = Established; vs = l.va; timer = T203 (now + t203) }

abbrev pub hear_supervised : Bool → LinkState → Link → Supervisory → Bool → ℕ → ℕ → LinkStep
hear_supervised false _ l kind f nr now = wrong_number l now
hear_supervised true TimerRecovery l kind f nr now = does (recovered_link f kind (acknowledged l nr) now) [] []
hear_supervised true _ l kind f nr now = does (guided kind (nr == l.va) (acknowledged l nr) now) [] []

abbrev pub unasked : Bool → List Indication
unasked true = LinkError error.UnaskedFinal ∷ []
unasked false = []

abbrev pub hear_numbered : Link → Supervisory → Bool → Bool → ℕ → ℕ → LinkStep
hear_numbered l kind command poll nr now =
    follows_step (answers (command && poll) (record l { busy = is_not_ready kind }) (unasked (is_established l.state && not command && poll)))
    (λ k. hear_supervised (is_valid k nr) k.state k kind (not command && poll) nr now)

-- ---- a frame

abbrev pub link_heard : Link → Frame → ℕ → LinkStep
link_heard l (Plain kind poll) now = hear_plain kind l poll now
link_heard l (Information poll ns nr m) now = if is_link_up l.state then hear_information l poll ns nr m now else does l [] []
link_heard l (Numbered kind command poll nr) now = if is_link_up l.state then hear_numbered l kind command poll nr now else does l [] []

abbrev pub hear : Link → Frame → ℕ → LinkStep
hear l f now = follows_step (link_heard l f now) (flush now)

-- a frame rejection condition (5.8.5): it is told in every state
abbrev pub faulted : Bool → Link → ErrorCode → ℕ → LinkStep
faulted true l code now = fails true l code now
faulted false l code now = does l [] (LinkError code ∷ [])

abbrev pub hear_fault : Link → ErrorCode → ℕ → LinkStep
hear_fault l code now = faulted (is_link_up l.state) l code now
