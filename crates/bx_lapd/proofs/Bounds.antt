-- Row by row, a link stays within its limits, and so does what it sends.
use Rattle.std.proofs.Common.{◌≡◌, ◌∙◌, ℕ, zero, suc, ◌+◌, ◌-◌, ◌%◌, ◌<◌, ◌≤◌, ◌==◌, ◌&&◌, ◌||◌, ◌⊎◌, inl, inr, not, min, Bool, true, false, List, [], ◌∷◌, ◌++◌, length, take, drop, refl, sym, ap, subst, length-append, length-take, length-drop, arith, nat_lt, if◌then◌else◌}
use Rattle.std.specs.List.{AllByRecursion}
use Rattle.std.proofs.lemmas.Bool.{false≢true, leb-true, ltb-true, and_parts}
use Rattle.arrayvec.specs.ArrayVec.{ArrayVec}
use Rattle.bx_lapd.specs.declared.words.LinkState.{LinkState}
use Rattle.bx_lapd.specs.declared.words.LinkState.TheVariants.{Assigned, AwaitingEstablishment, AwaitingRelease, Established, TimerRecovery}
use Rattle.bx_lapd.specs.declared.words.Timer.{Timer}
use Rattle.bx_lapd.specs.declared.words.Timer.TheVariants.{Stopped, T200, T203}
use Rattle.bx_lapd.specs.declared.words.Supervisory.{Supervisory}
use Rattle.bx_lapd.specs.declared.words.Supervisory.TheVariants.{ReceiveReady, ReceiveNotReady, Reject}
use Rattle.bx_lapd.specs.declared.words.Unnumbered.{Unnumbered}
use Rattle.bx_lapd.specs.declared.words.Unnumbered.TheVariants as u
use Rattle.bx_lapd.specs.declared.words.ErrorCode.{ErrorCode}
use Rattle.bx_lapd.specs.declared.words.ErrorCode.TheVariants as error
use Rattle.bx_lapd.specs.declared.frame.Frame.{Frame}
use Rattle.bx_lapd.specs.declared.frame.Frame.TheVariants.{Information, Numbered, Plain}
use Rattle.bx_lapd.specs.Links.{t200, t203, Link, LinkStep, does, follows_step, ahead, outstanding, is_valid, numbered_frames, establishing, begun_link, assigned, discarded, acknowledged, is_established, is_recovering, is_link_up, acknowledges, flushes, flush, n200, is_at_rest}
use Rattle.bx_lapd.specs.declared.indication.Indication.{Indication}
use Rattle.bx_lapd.specs.declared.indication.Indication.TheVariants.{LinkEstablished, LinkReleased, Delivered, LinkError}
use Rattle.bx_lapd.specs.Table.{establish, release, takes_data, is_due, first_count, enquires, expires, established_anew, hear_sabme, hear_disc, confirmed, hear_ua, hear_dm, fails, hear_plain, answers, took, rejects, hear_message, timed, settled, hear_number, hear_information, is_not_ready, guided, recovered_link, hear_supervised, unasked, hear_numbered, link_heard, faulted}
use Rattle.bx_lapd.specs.Bounds.{IsShortEnough, IsFrame, IsLink, IsBoundedStep, Within}
use Rattle.bx_lapd.proofs.AtRest.{at_rest_up}

-- ---- lists

all_joined : (P : Frame → Type 0) (xs ys : List Frame) → AllByRecursion P xs → AllByRecursion P ys → AllByRecursion P (xs ++ ys)
all_joined P [] ys h k = k
all_joined P (x ∷ xs) ys h k = (h.0, all_joined P xs ys h.1 k)

all_drop : (n : ℕ) (ms : List (ArrayVec ℕ)) → AllByRecursion IsShortEnough ms → AllByRecursion IsShortEnough (drop n ms)
all_drop zero ms h = h
all_drop (suc n) [] h = tt
all_drop (suc n) (m ∷ ms) h = all_drop n ms h.1

all_take : (n : ℕ) (ms : List (ArrayVec ℕ)) → AllByRecursion IsShortEnough ms → AllByRecursion IsShortEnough (take n ms)
all_take zero ms h = tt
all_take (suc n) [] h = tt
all_take (suc n) (m ∷ ms) h = (h.0, all_take n ms h.1)

all_push : (ms : List (ArrayVec ℕ)) (m : ArrayVec ℕ) → AllByRecursion IsShortEnough ms → IsShortEnough m → AllByRecursion IsShortEnough (ms ++ m ∷ [])
all_push [] m h k = (k, tt)
all_push (x ∷ ms) m h k = (h.0, all_push ms m h.1 k)

numbered_within : (ns nr : ℕ) (ms : List (ArrayVec ℕ)) → ns < 128 → nr < 128 → AllByRecursion IsShortEnough ms → AllByRecursion IsFrame (numbered_frames ns nr ms)
numbered_within ns nr [] h k a = tt
numbered_within ns nr (m ∷ ms) h k a = ((h, k, a.0), numbered_within ((ns + 1) % 128) nr ms (omega arith) k a.1)

length-numbered : (ns nr : ℕ) (ms : List (ArrayVec ℕ)) → length (numbered_frames ns nr ms) ≡ length ms
length-numbered ns nr [] = refl
length-numbered ns nr (m ∷ ms) = ap suc (length-numbered ((ns + 1) % 128) nr ms)

-- ---- links that change in other things than their numbers and queue

-- the same numbers and queue, in a state that is up only where it was
kept : (l m : Link) → m.vs ≡ l.vs → m.va ≡ l.va → m.vr ≡ l.vr → m.rc ≤ n200 → m.queue ≡ l.queue → (is_link_up m.state ≡ true → is_link_up l.state ≡ true) → IsLink l → IsLink m
kept l m a b c d e f h = record {
  vs = omega (arith, a, h.vs);
  va = omega (arith, b, h.va);
  vr = omega (arith, c, h.vr);
  rc = d;
  window = subst (λ x. x ≤ 7) (sym (ap (ahead m.va) a ∙ ap (λ x. ahead x l.vs) b)) h.window;
  held = λ up. subst (λ q. ahead m.va m.vs ≤ length q) (sym e) (subst (λ x. x ≤ length l.queue) (sym (ap (ahead m.va) a ∙ ap (λ x. ahead x l.vs) b)) (h.held (f up)));
  few = subst (λ q. length q ≤ 32) (sym e) h.few;
  messages = subst (AllByRecursion IsShortEnough) (sym e) h.messages;
}

-- a link that is down, with this queue or none
down : (l m : Link) → m.vs ≡ l.vs → m.va ≡ l.va → m.vr ≡ l.vr → m.rc ≤ n200 → m.queue ≡ [] → is_link_up m.state ≡ false → IsLink l → IsLink m
down l m a b c d e f h = record {
  vs = omega (arith, a, h.vs);
  va = omega (arith, b, h.va);
  vr = omega (arith, c, h.vr);
  rc = d;
  window = subst (λ x. x ≤ 7) (sym (ap (ahead m.va) a ∙ ap (λ x. ahead x l.vs) b)) h.window;
  held = λ up. absurd (false≢true (sym f ∙ up));
  few = subst (λ q. length q ≤ 32) (sym e) (omega arith);
  messages = subst (AllByRecursion IsShortEnough) (sym e) tt;
}

-- multiple frame operation begins, with what waits
begun_within : (l : Link) (now : ℕ) → IsLink l → IsLink (begun_link l now)
begun_within l now h = record { vs = omega arith; va = omega arith; vr = omega arith; rc = h.rc; window = omega arith; held = λ up. omega arith; few = h.few; messages = h.messages }

begun_empty : (l : Link) (now : ℕ) → IsLink l → IsLink (begun_link (discarded l) now)
begun_empty l now h = record { vs = omega arith; va = omega arith; vr = omega arith; rc = h.rc; window = omega arith; held = λ up. omega arith; few = omega arith; messages = tt }

establishing_within : (l : Link) (asked : Bool) (now : ℕ) → IsLink l → IsLink (establishing l asked now)
establishing_within l asked now h = kept l (establishing l asked now) refl refl refl (omega arith) refl (λ up. absurd (false≢true up)) h

assigned_within : (l : Link) → IsLink l → IsLink (assigned l)
assigned_within l h = kept l (assigned l) refl refl refl h.rc refl (λ up. absurd (false≢true up)) h

assigned_empty : (l : Link) → IsLink l → IsLink (discarded (assigned l))
assigned_empty l h = down l (discarded (assigned l)) refl refl refl h.rc refl refl h

-- ---- steps

step_none : (l : Link) (told : List Indication) → IsLink l → IsBoundedStep (does l [] told)
step_none l told h = record { link = h; frames = tt; few = omega arith }

step_plain : (l : Link) (kind : Unnumbered) (poll : Bool) (told : List Indication) → IsLink l → IsBoundedStep (does l (Plain kind poll ∷ []) told)
step_plain l kind poll told h = record { link = h; frames = (tt, tt); few = omega arith }

-- a step that sends two frames at most, before what goes out after it
pub record IsFirst (s : LinkStep) : Type 0 where
  pub link : IsLink s.link
  pub frames : AllByRecursion IsFrame s.frames
  pub few : length s.frames ≤ 2

first_none : (l : Link) (told : List Indication) → IsLink l → IsFirst (does l [] told)
first_none l told h = record { link = h; frames = tt; few = omega arith }

first_plain : (l : Link) (kind : Unnumbered) (poll : Bool) (told : List Indication) → IsLink l → IsFirst (does l (Plain kind poll ∷ []) told)
first_plain l kind poll told h = record { link = h; frames = (tt, tt); few = omega arith }

first_numbered : (l : Link) (kind : Supervisory) (command poll : Bool) (nr : ℕ) (told : List Indication) → nr < 128 → IsLink l → IsFirst (does l (Numbered kind command poll nr ∷ []) told)
first_numbered l kind command poll nr told n h = record { link = h; frames = (n, tt); few = omega arith }

same_link : (l m : Link) → m.vs ≡ l.vs → m.va ≡ l.va → m.vr ≡ l.vr → m.rc ≡ l.rc → m.queue ≡ l.queue → m.state ≡ l.state → IsLink l → IsLink m
same_link l m a b c d e f h = kept l m a b c (omega (arith, d, h.rc)) e (λ up. ap is_link_up (sym f) ∙ up) h

-- ---- acknowledgements

-- of numbers below 128, where N(R) is valid
after_valid : (va vs nr : ℕ) → va < 128 → vs < 128 → nr < 128 → ahead va vs ≤ 7 → ahead va nr ≤ ahead va vs → ahead nr vs + ahead va nr ≡ ahead va vs
after_valid va vs nr a b c w v = omega arith

acknowledged_within : (l : Link) (nr : ℕ) → nr < 128 → is_valid l nr ≡ true → is_link_up l.state ≡ true → IsLink l → IsLink (acknowledged l nr)
acknowledged_within l nr n v up h =
    let valid = leb-true (ahead l.va nr) (outstanding l) v in
    let gap = after_valid l.va l.vs nr h.va h.vs n h.window valid in
    let win = h.window in
    let held = h.held up in
    let few = h.few in
    record {
      vs = h.vs;
      va = n;
      vr = h.vr;
      rc = h.rc;
      window = omega arith;
      held = λ x. omega (arith, length-drop (ahead l.va nr) l.queue);
      few = omega (arith, length-drop (ahead l.va nr) l.queue);
      messages = all_drop (ahead l.va nr) l.queue h.messages;
    }

timed_within : (l : Link) (idle same : Bool) (now : ℕ) → IsLink l → IsLink (timed idle same l now)
timed_within l true same now h = same_link l (timed true same l now) refl refl refl refl refl refl h
timed_within l false true now h = h
timed_within l false false now h = same_link l (timed false false l now) refl refl refl refl refl refl h

settled_within : (l : Link) (still same : Bool) (now : ℕ) → IsLink l → IsLink (settled still same l now)
settled_within l true same now h = h
settled_within l false same now h = timed_within l (l.vs == l.va) same now h

-- V(S) goes back to V(A)
back_within : (l : Link) (state : LinkState) (timer : Timer) → IsLink l → IsLink (record l { state = state; vs = l.va; timer = timer })
back_within l state timer h =
    let va = h.va in
    record { vs = h.va; va = h.va; vr = h.vr; rc = h.rc; window = omega arith; held = λ up. omega arith; few = h.few; messages = h.messages }

number_within : (l : Link) (b : Bool) (nr now : ℕ) → is_valid l nr ≡ b → nr < 128 → is_link_up l.state ≡ true → IsLink l → IsFirst (hear_number b l nr now)
number_within l true nr now v n up h = first_none (settled (is_recovering l.state || l.busy) (nr == l.va) (acknowledged l nr) now) [] (settled_within (acknowledged l nr) (is_recovering l.state || l.busy) (nr == l.va) now (acknowledged_within l nr n v up h))
number_within l false nr now v n up h = first_plain (establishing l false now) u.Sabme true (LinkError error.WrongNumber ∷ []) (establishing_within l false now h)

-- ---- what goes out after each row

acknowledges_within : (l : Link) (owed : Bool) → IsLink l → IsFirst (acknowledges l owed)
acknowledges_within l true h = first_numbered (record l { owed = false }) ReceiveReady false false l.vr [] h.vr (same_link l (record l { owed = false }) refl refl refl refl refl refl h)
acknowledges_within l false h = first_none l [] h

-- so many more go out
sent_number : (va vs n : ℕ) → va < 128 → vs < 128 → ahead va vs + n ≤ 7 → ahead va ((vs + n) % 128) ≡ ahead va vs + n
sent_number va vs n a b w = omega arith

record IsFlushed (s : LinkStep) : Type 0 where
  pub link : IsLink s.link
  pub frames : AllByRecursion IsFrame s.frames
  pub few : length s.frames ≤ 7

flushes_within : (l : Link) (now : ℕ) (ms : List (ArrayVec ℕ)) → IsLink l → AllByRecursion IsShortEnough ms → (ms ≡ []) ⊎ ((outstanding l + length ms ≤ 7) × (outstanding l + length ms ≤ length l.queue)) → IsFlushed (flushes l now ms)
flushes_within l now [] h a x = let o = acknowledges_within l l.owed h in record { link = o.link; frames = o.frames; few = let f = o.few in omega arith }
flushes_within l now (m ∷ ms) h a (inl e) = absurd (cc)
flushes_within l now (m ∷ ms) h a (inr x) =
    let window = x.0 in
    let held = x.1 in
    let va = h.va in
    let vs = h.vs in
    let out : ahead l.va ((l.vs + length (m ∷ ms)) % 128) ≡ outstanding l + length (m ∷ ms) = sent_number l.va l.vs (length (m ∷ ms)) va vs window in
    record {
      link = record {
        vs = omega arith;
        va = h.va;
        vr = h.vr;
        rc = h.rc;
        window = omega (arith, out);
        held = λ up. omega (arith, out);
        few = h.few;
        messages = h.messages;
      };
      frames = numbered_within l.vs l.vr (m ∷ ms) h.vs h.vr a;
      few = omega (arith, length-numbered l.vs l.vr (m ∷ ms));
    }

abbrev pub chosen : Bool → Link → List (ArrayVec ℕ)
chosen b l = if b then take (7 - outstanding l) (drop (outstanding l) l.queue) else []

-- where there is room, the link is up, so that what is outstanding is in the queue
chosen_within : (l : Link) (now : ℕ) (b : Bool) → (b ≡ true → is_link_up l.state ≡ true) → IsLink l → IsFlushed (flushes l now (chosen b l))
chosen_within l now false up h = flushes_within l now [] h tt (inl refl)
chosen_within l now true up h =
    let ms = take (7 - outstanding l) (drop (outstanding l) l.queue) in
    let held = h.held (up refl) in
    let window = h.window in
    let len : length ms ≡ min (7 - outstanding l) (length l.queue - outstanding l) = length-take (7 - outstanding l) (drop (outstanding l) l.queue) ∙ ap (min (7 - outstanding l)) (length-drop (outstanding l) l.queue) in
    flushes_within l now ms h (all_take (7 - outstanding l) (drop (outstanding l) l.queue) (all_drop (outstanding l) l.queue h.messages)) (inr (omega (arith, len), omega (arith, len)))

established_up : (st : LinkState) (busy : Bool) → (is_established st && not busy) ≡ true → is_link_up st ≡ true
established_up Established busy e = refl
established_up TimerRecovery busy e = refl
established_up Assigned busy e = absurd (false≢true e)
established_up AwaitingEstablishment busy e = absurd (false≢true e)
established_up AwaitingRelease busy e = absurd (false≢true e)

flush_within : (l : Link) (now : ℕ) → IsLink l → IsFlushed (flush now l)
flush_within l now h = chosen_within l now (is_established l.state && not l.busy) (established_up l.state l.busy) h

flushed_step : (s : LinkStep) (now : ℕ) → IsFirst s → IsBoundedStep (follows_step s (flush now))
flushed_step s now x =
    let f = flush_within s.link now x.link in
    let a = x.few in
    let b = f.few in
    record { link = f.link; frames = all_joined IsFrame s.frames (flush now s.link).frames x.frames f.frames; few = omega (arith, length-append s.frames (flush now s.link).frames) }

-- ---- I frames and supervisory frames

record IsOne (l : Link) (s : LinkStep) : Type 0 where
  pub link : IsLink s.link
  pub state : s.link.state ≡ l.state
  pub frames : AllByRecursion IsFrame s.frames
  pub few : length s.frames ≤ 1

answers_within : (l : Link) (poll : Bool) (told : List Indication) → IsLink l → IsOne l (answers poll l told)
answers_within l true told h = record { link = same_link l (record l { owed = false }) refl refl refl refl refl refl h; state = refl; frames = (h.vr, tt); few = omega arith }
answers_within l false told h = record { link = h; state = refl; frames = tt; few = omega arith }

took_within : (l : Link) → IsLink l → IsLink (took l)
took_within l h = record { vs = h.vs; va = h.va; vr = omega arith; rc = h.rc; window = h.window; held = h.held; few = h.few; messages = h.messages }

rejects_within : (l : Link) (rejected poll : Bool) → IsLink l → IsOne l (rejects rejected l poll)
rejects_within l true poll h = answers_within l poll [] h
rejects_within l false poll h = record { link = same_link l (record l { rejected = true; owed = false }) refl refl refl refl refl refl h; state = refl; frames = (h.vr, tt); few = omega arith }

message_within : (l : Link) (b poll : Bool) (m : ArrayVec ℕ) → IsLink l → IsOne l (hear_message b l poll m)
message_within l true poll m h = let o = answers_within (took l) poll (Delivered m ∷ []) (took_within l h) in record { link = o.link; state = o.state; frames = o.frames; few = o.few }
message_within l false poll m h = rejects_within l l.rejected poll h

-- a step of one frame, and one of two at most of which it has one
record IsSecond (s : LinkStep) : Type 0 where
  pub link : IsLink s.link
  pub frames : AllByRecursion IsFrame s.frames
  pub few : length s.frames ≤ 1

number_second : (l : Link) (b : Bool) (nr now : ℕ) → is_valid l nr ≡ b → nr < 128 → is_link_up l.state ≡ true → IsLink l → IsSecond (hear_number b l nr now)
number_second l true nr now v n up h = let o = number_within l true nr now v n up h in record { link = o.link; frames = o.frames; few = omega arith }
number_second l false nr now v n up h = let o = number_within l false nr now v n up h in record { link = o.link; frames = o.frames; few = omega arith }

two : (l : Link) (s : LinkStep) (f : Link → LinkStep) → IsOne l s → IsSecond (f s.link) → IsFirst (follows_step s f)
two l s f x y =
    let a = x.few in
    let b = y.few in
    record { link = y.link; frames = all_joined IsFrame s.frames (f s.link).frames x.frames y.frames; few = omega (arith, length-append s.frames (f s.link).frames) }

information_within : (l : Link) (poll : Bool) (ns nr : ℕ) (m : ArrayVec ℕ) (now : ℕ) → nr < 128 → is_link_up l.state ≡ true → IsLink l → IsFirst (hear_information l poll ns nr m now)
information_within l poll ns nr m now n up h =
    let s = hear_message (ns == l.vr) l poll m in
    let x = message_within l (ns == l.vr) poll m h in
    two l s (λ k. hear_number (is_valid k nr) k nr now) x (number_second s.link (is_valid s.link nr) nr now refl n (ap is_link_up x.state ∙ up) x.link)

guided_within : (l : Link) (kind : Supervisory) (same : Bool) (now : ℕ) → IsLink l → IsLink (guided kind same l now)
guided_within l ReceiveReady same now h = settled_within l false same now h
guided_within l Reject same now h = back_within l l.state (T203 (now + t203)) h
guided_within l ReceiveNotReady same now h = same_link l (guided ReceiveNotReady same l now) refl refl refl refl refl refl h

recovered_within : (l : Link) (f : Bool) (kind : Supervisory) (now : ℕ) → is_link_up l.state ≡ true → IsLink l → IsLink (recovered_link f kind l now)
recovered_within l false kind now up h = h
recovered_within l true ReceiveNotReady now up h = kept l (recovered_link true ReceiveNotReady l now) refl refl refl h.rc refl (λ x. up) h
recovered_within l true ReceiveReady now up h = back_within l Established (T203 (now + t203)) h
recovered_within l true Reject now up h = back_within l Established (T203 (now + t203)) h

supervised_within : (l : Link) (b : Bool) (st : LinkState) (kind : Supervisory) (f : Bool) (nr now : ℕ) → is_valid l nr ≡ b → nr < 128 → is_link_up l.state ≡ true → IsLink l → IsSecond (hear_supervised b st l kind f nr now)
supervised_within l false st kind f nr now v n up h = record { link = establishing_within l false now h; frames = (tt, tt); few = omega arith }
supervised_within l true TimerRecovery kind f nr now v n up h = record { link = recovered_within (acknowledged l nr) f kind now up (acknowledged_within l nr n v up h); frames = tt; few = omega arith }
supervised_within l true Established kind f nr now v n up h = record { link = guided_within (acknowledged l nr) kind (nr == l.va) now (acknowledged_within l nr n v up h); frames = tt; few = omega arith }
supervised_within l true Assigned kind f nr now v n up h = record { link = guided_within (acknowledged l nr) kind (nr == l.va) now (acknowledged_within l nr n v up h); frames = tt; few = omega arith }
supervised_within l true AwaitingEstablishment kind f nr now v n up h = record { link = guided_within (acknowledged l nr) kind (nr == l.va) now (acknowledged_within l nr n v up h); frames = tt; few = omega arith }
supervised_within l true AwaitingRelease kind f nr now v n up h = record { link = guided_within (acknowledged l nr) kind (nr == l.va) now (acknowledged_within l nr n v up h); frames = tt; few = omega arith }

numbered_frame_within : (l : Link) (kind : Supervisory) (command poll : Bool) (nr now : ℕ) → nr < 128 → is_link_up l.state ≡ true → IsLink l → IsFirst (hear_numbered l kind command poll nr now)
numbered_frame_within l kind command poll nr now n up h =
    let b = record l { busy = is_not_ready kind } in
    let told = unasked (is_established l.state && not command && poll) in
    let s = answers (command && poll) b told in
    let x = answers_within b (command && poll) told (same_link l b refl refl refl refl refl refl h) in
    two b s (λ k. hear_supervised (is_valid k nr) k.state k kind (not command && poll) nr now) x
    (supervised_within s.link (is_valid s.link nr) s.link.state kind (not command && poll) nr now refl n (ap is_link_up x.state ∙ up) x.link)

-- ---- unnumbered frames

anew_within : (l : Link) (same poll : Bool) (now : ℕ) → IsLink l → IsFirst (established_anew same l poll now)
anew_within l true poll now h = first_plain (begun_link l now) u.Ua poll (LinkError error.PeerEstablishes ∷ []) (begun_within l now h)
anew_within l false poll now h = first_plain (begun_link (discarded l) now) u.Ua poll (LinkError error.PeerEstablishes ∷ LinkEstablished ∷ []) (begun_empty l now h)

sabme_within : (l : Link) (st : LinkState) (poll : Bool) (now : ℕ) → IsLink l → IsFirst (hear_sabme st l poll now)
sabme_within l AwaitingRelease poll now h = first_plain l u.Dm poll [] h
sabme_within l AwaitingEstablishment poll now h = first_plain l u.Ua poll [] h
sabme_within l Assigned poll now h = first_plain (begun_link l now) u.Ua poll (LinkEstablished ∷ []) (begun_within l now h)
sabme_within l Established poll now h = anew_within l (l.vs == l.va) poll now h
sabme_within l TimerRecovery poll now h = anew_within l (l.vs == l.va) poll now h

disc_within : (l : Link) (st : LinkState) (poll : Bool) → IsLink l → IsFirst (hear_disc st l poll)
disc_within l Assigned poll h = first_plain l u.Dm poll [] h
disc_within l AwaitingEstablishment poll h = first_plain l u.Dm poll [] h
disc_within l AwaitingRelease poll h = first_plain l u.Ua poll [] h
disc_within l Established poll h = first_plain (discarded (assigned l)) u.Ua poll (LinkReleased ∷ []) (assigned_empty l h)
disc_within l TimerRecovery poll h = first_plain (discarded (assigned l)) u.Ua poll (LinkReleased ∷ []) (assigned_empty l h)

confirmed_within : (l : Link) (asked same : Bool) (now : ℕ) → IsLink l → IsFirst (confirmed asked same l now)
confirmed_within l true same now h = first_none (begun_link l now) (LinkEstablished ∷ []) (begun_within l now h)
confirmed_within l false true now h = first_none (begun_link l now) [] (begun_within l now h)
confirmed_within l false false now h = first_none (begun_link (discarded l) now) (LinkEstablished ∷ []) (begun_empty l now h)

ua_within : (l : Link) (st : LinkState) (f : Bool) (now : ℕ) → IsLink l → IsFirst (hear_ua st l f now)
ua_within l AwaitingEstablishment true now h = confirmed_within l l.asked (l.vs == l.va) now h
ua_within l AwaitingRelease true now h = first_none (assigned l) (LinkReleased ∷ []) (assigned_within l h)
ua_within l Assigned true now h = first_none l (LinkError error.UaFinal ∷ []) h
ua_within l Established true now h = first_none l (LinkError error.UaFinal ∷ []) h
ua_within l TimerRecovery true now h = first_none l (LinkError error.UaFinal ∷ []) h
ua_within l Assigned false now h = first_none l (LinkError error.Ua ∷ []) h
ua_within l AwaitingEstablishment false now h = first_none l (LinkError error.Ua ∷ []) h
ua_within l AwaitingRelease false now h = first_none l (LinkError error.Ua ∷ []) h
ua_within l Established false now h = first_none l (LinkError error.Ua ∷ []) h
ua_within l TimerRecovery false now h = first_none l (LinkError error.Ua ∷ []) h

sabme_goes : (l : Link) (asked : Bool) (told : List Indication) (now : ℕ) → IsLink l → IsFirst (does (establishing l asked now) (Plain u.Sabme true ∷ []) told)
sabme_goes l asked told now h = first_plain (establishing l asked now) u.Sabme true told (establishing_within l asked now h)

dm_within : (l : Link) (st : LinkState) (f : Bool) (now : ℕ) → IsLink l → IsFirst (hear_dm st l f now)
dm_within l Assigned false now h = sabme_goes l true [] now h
dm_within l Assigned true now h = first_none l [] h
dm_within l AwaitingEstablishment true now h = first_none (discarded (assigned l)) (LinkReleased ∷ []) (assigned_empty l h)
dm_within l AwaitingEstablishment false now h = first_none l [] h
dm_within l AwaitingRelease true now h = first_none (assigned l) (LinkReleased ∷ []) (assigned_within l h)
dm_within l AwaitingRelease false now h = first_none l [] h
dm_within l Established true now h = first_none l (LinkError error.DmFinal ∷ []) h
dm_within l TimerRecovery true now h = sabme_goes l false (LinkError error.DmFinal ∷ []) now h
dm_within l Established false now h = sabme_goes l false (LinkError error.Dm ∷ []) now h
dm_within l TimerRecovery false now h = sabme_goes l false (LinkError error.Dm ∷ []) now h

fails_within : (l : Link) (up : Bool) (code : ErrorCode) (now : ℕ) → IsLink l → IsFirst (fails up l code now)
fails_within l true code now h = sabme_goes l false (LinkError code ∷ []) now h
fails_within l false code now h = first_none l [] h

fault_within : (l : Link) (up : Bool) (code : ErrorCode) (now : ℕ) → IsLink l → IsFirst (faulted up l code now)
fault_within l true code now h = fails_within l true code now h
fault_within l false code now h = first_none l (LinkError code ∷ []) h

plain_within : (l : Link) (kind : Unnumbered) (poll : Bool) (now : ℕ) → IsLink l → IsFirst (hear_plain kind l poll now)
plain_within l u.Sabme poll now h = sabme_within l l.state poll now h
plain_within l u.Disc poll now h = disc_within l l.state poll h
plain_within l u.Ua poll now h = ua_within l l.state poll now h
plain_within l u.Dm poll now h = dm_within l l.state poll now h
plain_within l u.Frmr poll now h = fails_within l (is_link_up l.state) error.Frmr now h
plain_within l u.Ui poll now h = first_none l [] h
plain_within l u.Xid poll now h = first_none l [] h

if_up : (l : Link) (b : Bool) (s : LinkStep) → (b ≡ true → IsFirst s) → IsLink l → IsFirst (if b then s else does l [] [])
if_up l true s x h = x refl
if_up l false s x h = first_none l [] h

heard_within : (l : Link) (f : Frame) (now : ℕ) → IsFrame f → IsLink l → IsFirst (link_heard l f now)
heard_within l (Plain kind poll) now x h = plain_within l kind poll now h
heard_within l (Information poll ns nr m) now x h = if_up l (is_link_up l.state) (hear_information l poll ns nr m now) (λ up. information_within l poll ns nr m now x.1 up h) h
heard_within l (Numbered kind command poll nr) now x h = if_up l (is_link_up l.state) (hear_numbered l kind command poll nr now) (λ up. numbered_frame_within l kind command poll nr now x up h) h

-- ---- requests and timers

step_first : (s : LinkStep) → IsFirst s → IsBoundedStep s
step_first s x = record { link = x.link; frames = x.frames; few = let f = x.few in omega arith }

step_flushed : (s : LinkStep) → IsFlushed s → IsBoundedStep s
step_flushed s x = record { link = x.link; frames = x.frames; few = let f = x.few in omega arith }

discarded_establishing : (l : Link) (asked : Bool) (now : ℕ) → IsLink l → IsLink (establishing (discarded l) asked now)
discarded_establishing l asked now h = down l (establishing (discarded l) asked now) refl refl refl (omega arith) refl refl h

establish_within : (l : Link) (st : LinkState) (now : ℕ) → l.state ≡ st → IsLink l → IsBoundedStep (establish st l now)
establish_within l AwaitingRelease now e h = step_none l [] h
establish_within l AwaitingEstablishment now e h = step_none (record (discarded l) { asked = true }) [] (down l (record (discarded l) { asked = true }) refl refl refl h.rc refl (ap is_link_up e) h)
establish_within l Assigned now e h = step_plain (establishing (discarded l) true now) u.Sabme true [] (discarded_establishing l true now h)
establish_within l Established now e h = step_plain (establishing (discarded l) true now) u.Sabme true [] (discarded_establishing l true now h)
establish_within l TimerRecovery now e h = step_plain (establishing (discarded l) true now) u.Sabme true [] (discarded_establishing l true now h)

abbrev pub releasing : Link → ℕ → Link
releasing l now = record (discarded l) { state = AwaitingRelease; rc = 0; busy = false; rejected = false; owed = false; timer = T200 (now + t200) }

release_goes : (l : Link) (now : ℕ) → IsLink l → IsBoundedStep (does (releasing l now) (Plain u.Disc true ∷ []) [])
release_goes l now h = step_plain (releasing l now) u.Disc true [] (down l (releasing l now) refl refl refl (omega arith) refl refl h)

release_within : (l : Link) (st : LinkState) (now : ℕ) → IsLink l → IsBoundedStep (release st l now)
release_within l Assigned now h = step_none l (LinkReleased ∷ []) h
release_within l AwaitingRelease now h = step_none l [] h
release_within l AwaitingEstablishment now h = release_goes l now h
release_within l Established now h = release_goes l now h
release_within l TimerRecovery now h = release_goes l now h

queued_within : (l : Link) (m : ArrayVec ℕ) → length l.queue < 32 → IsShortEnough m → IsLink l → IsLink (record l { queue = l.queue ++ m ∷ [] })
queued_within l m room x h = record {
  vs = h.vs;
  va = h.va;
  vr = h.vr;
  rc = h.rc;
  window = h.window;
  held = λ up. (let held = h.held up in omega (arith, length-append l.queue (m ∷ [])));
  few = omega (arith, length-append l.queue (m ∷ []));
  messages = all_push l.queue m h.messages x;
}

takes_room : (l : Link) (st : LinkState) → takes_data st l ≡ true → length l.queue < 32
takes_room l Established e = ltb-true (length l.queue) 32 e
takes_room l TimerRecovery e = ltb-true (length l.queue) 32 e
takes_room l AwaitingEstablishment e = ltb-true (length l.queue) 32 (and_parts (not l.asked) (nat_lt (length l.queue) 32) e).1
takes_room l Assigned e = absurd (false≢true e)
takes_room l AwaitingRelease e = absurd (false≢true e)

give_if : (l : Link) (m : ArrayVec ℕ) (now : ℕ) (b : Bool) → takes_data l.state l ≡ b → IsShortEnough m → IsLink l → IsBoundedStep (if b then flush now (record l { queue = l.queue ++ m ∷ [] }) else does l [] [])
give_if l m now true e x h = step_flushed (flush now (record l { queue = l.queue ++ m ∷ [] })) (flush_within (record l { queue = l.queue ++ m ∷ [] }) now (queued_within l m (takes_room l l.state e) x h))
give_if l m now false e x h = step_none l [] h

enquires_within : (l : Link) (rc now : ℕ) → rc ≤ n200 → is_link_up l.state ≡ true → IsLink l → IsBoundedStep (enquires l rc now)
enquires_within l rc now r up h = step_first (enquires l rc now) (first_numbered (enquires l rc now).link ReceiveReady true true l.vr [] h.vr (kept l (enquires l rc now).link refl refl refl r refl (λ x. up) h))

first_few : (t : Timer) → first_count t ≤ n200
first_few Stopped = omega arith
first_few (T200 due) = omega arith
first_few (T203 due) = omega arith

counted : (l : Link) (now : ℕ) → nat_lt l.rc n200 ≡ true → IsLink l → IsLink (record l { rc = l.rc + 1; timer = T200 (now + t200) })
counted l now e h = let r = ltb-true l.rc n200 e in kept l (record l { rc = l.rc + 1; timer = T200 (now + t200) }) refl refl refl (omega arith) refl (λ up. up) h

sabme_again : (l : Link) (now : ℕ) (b : Bool) → nat_lt l.rc n200 ≡ b → IsLink l
    → IsBoundedStep (if b then does (record l { rc = l.rc + 1; timer = T200 (now + t200) }) (Plain u.Sabme true ∷ []) [] else does (discarded (assigned l)) [] (LinkError error.SabmeUnanswered ∷ LinkReleased ∷ []))
sabme_again l now true e h = step_plain (record l { rc = l.rc + 1; timer = T200 (now + t200) }) u.Sabme true [] (counted l now e h)
sabme_again l now false e h = step_none (discarded (assigned l)) (LinkError error.SabmeUnanswered ∷ LinkReleased ∷ []) (assigned_empty l h)

disc_again : (l : Link) (now : ℕ) (b : Bool) → nat_lt l.rc n200 ≡ b → IsLink l
    → IsBoundedStep (if b then does (record l { rc = l.rc + 1; timer = T200 (now + t200) }) (Plain u.Disc true ∷ []) [] else does (assigned l) [] (LinkError error.DiscUnanswered ∷ LinkReleased ∷ []))
disc_again l now true e h = step_plain (record l { rc = l.rc + 1; timer = T200 (now + t200) }) u.Disc true [] (counted l now e h)
disc_again l now false e h = step_none (assigned l) (LinkError error.DiscUnanswered ∷ LinkReleased ∷ []) (assigned_within l h)

asks_again : (l : Link) (now : ℕ) (b : Bool) → nat_lt l.rc n200 ≡ b → is_link_up l.state ≡ true → IsLink l
    → IsBoundedStep (if b then enquires l (l.rc + 1) now else does (establishing l false now) (Plain u.Sabme true ∷ []) (LinkError error.EnquiryUnanswered ∷ []))
asks_again l now true e up h = let r = ltb-true l.rc n200 e in enquires_within l (l.rc + 1) now (omega arith) up h
asks_again l now false e up h = step_first (does (establishing l false now) (Plain u.Sabme true ∷ []) (LinkError error.EnquiryUnanswered ∷ [])) (sabme_goes l false (LinkError error.EnquiryUnanswered ∷ []) now h)

expires_within : (l : Link) (st : LinkState) (now : ℕ) → l.state ≡ st → IsLink l → IsBoundedStep (expires st l now)
expires_within l Assigned now e h = step_none l [] h
expires_within l AwaitingEstablishment now e h = sabme_again l now (nat_lt l.rc n200) refl h
expires_within l AwaitingRelease now e h = disc_again l now (nat_lt l.rc n200) refl h
expires_within l Established now e h = enquires_within l (first_count l.timer) now (first_few l.timer) (ap is_link_up e) h
expires_within l TimerRecovery now e h = asks_again l now (nat_lt l.rc n200) refl (ap is_link_up e) h

elapse_if : (l : Link) (now : ℕ) (b : Bool) → IsLink l → IsBoundedStep (if b then expires l.state l now else does l [] [])
elapse_if l now true h = expires_within l l.state now refl h
elapse_if l now false h = step_none l [] h

poll_if : (l : Link) (now : ℕ) (b : Bool) → is_at_rest l ≡ b → IsLink l → IsBoundedStep (if b then enquires l 0 now else does l [] [])
poll_if l now true e h = enquires_within l 0 now (omega arith) (at_rest_up l e) h
poll_if l now false e h = step_none l [] h

pub within : Within
within l now h = record {
  establish = establish_within l l.state now refl h;
  release = release_within l l.state now h;
  give = λ m x. give_if l m now (takes_data l.state l) refl x h;
  elapse = elapse_if l now (is_due l.timer now) h;
  poll = poll_if l now (is_at_rest l) refl h;
  hear = λ f x. flushed_step (link_heard l f now) now (heard_within l f now x h);
  hear_fault = λ code. step_first (faulted (is_link_up l.state) l code now) (fault_within l (is_link_up l.state) code now h);
}
