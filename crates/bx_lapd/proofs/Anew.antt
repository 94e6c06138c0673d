-- Between two establishments a link skips nothing: what stays true over establishments.
--
-- An attempt of an end is its SABME on the way, or the answer to it: there is one at most, and the end is in state 5. After a SABME only
-- answers go out. So where the answer is on the way nothing else is in the other direction (`alone`), and where its sender is up, what it has
-- sent after it is what it sends to an end that has just begun (`waits`). Both ends are up without an attempt of either: then both
-- directions are as over one establishment.
use Rattle.std.proofs.Common.{◌≡◌, ◌∙◌, ℕ, ◌+◌, ◌-◌, ◌%◌, ◌≤◌, ◌&&◌, ◌||◌, ◌==◌, not, take, drop, Bool, true, false, List, [], ◌∷◌, ◌++◌, refl, sym, ap, subst, inl, inr, append_assoc, append-nil, nat_lt, arith, if◌then◌else◌}
use Rattle.std.specs.List.{AllByRecursion}
use Rattle.std.proofs.lemmas.Bool.{false≢true, true≢false, cases_lt}
use Rattle.arrayvec.specs.ArrayVec.{ArrayVec}
use Rattle.bx_lapd.specs.declared.words.LinkState.{LinkState}
use Rattle.bx_lapd.specs.declared.words.LinkState.TheVariants.{Assigned, AwaitingEstablishment, AwaitingRelease, Established, TimerRecovery}
use Rattle.bx_lapd.specs.declared.words.Timer.TheVariants.{Stopped, T200}
use Rattle.bx_lapd.specs.declared.words.ErrorCode.TheVariants.{EnquiryUnanswered, SabmeUnanswered}
use Rattle.bx_lapd.specs.declared.words.Supervisory.{Supervisory}
use Rattle.bx_lapd.specs.declared.words.Supervisory.TheVariants.{ReceiveReady, ReceiveNotReady, Reject}
use Rattle.bx_lapd.specs.declared.words.Unnumbered.TheVariants as u
use Rattle.bx_lapd.specs.declared.frame.Frame.{Frame}
use Rattle.bx_lapd.specs.declared.frame.Frame.TheVariants.{Information, Numbered, Plain}
use Rattle.bx_lapd.specs.declared.indication.Indication.{Indication}
use Rattle.bx_lapd.specs.declared.indication.Indication.TheVariants.{LinkReleased, Delivered, LinkError}
use Rattle.bx_lapd.specs.Links.{Link, LinkStep, does, follows_step, is_valid, outstanding, numbered_frames, establishing, begun_link, assigned, discarded, acknowledged, is_established, is_recovering, is_link_up, sendable, acknowledges, flushes, flush, n200, t200, is_at_rest}
use Rattle.bx_lapd.specs.Table.{establish, release, takes_data, give, is_due, enquires, expires, elapse, established_anew, hear_sabme, confirmed, hear_ua, answers, took, rejects, hear_message, timed, settled, hear_number, hear_information, is_not_ready, hear_supervised, unasked, hear_numbered, link_heard, hear, poll}
use Rattle.bx_lapd.specs.World.{LinkWorld, EndEvent, Gives, Hears, Loses, Elapses, Asks, Releases, LinkWorldEvent, AtNear, AtFar, messages_of, near_becomes, comes, frames_lost, at_near, swapped, link_world_happens, link_world_after, Polls}
use Rattle.bx_lapd.specs.Anew.{is_begun_by_sabme, is_begun_by_ua, begins_link_by, begins_link, renewed, near_since, since_happens, since_after, is_sabme, is_ua, frames_counted, IsTimely, IsTimelyIn, AreTimely, SameLinks, AreIdle, Anew}
use Rattle.bx_lapd.proofs.AtRest.{at_rest_up}
use Rattle.bx_lapd.proofs.Media.{Confirms}
use Rattle.bx_lapd.proofs.Flow.{Flow}
use Rattle.bx_lapd.proofs.Sinks.{deaf_give, deaf_elapse, deaf_poll}
use Rattle.bx_lapd.proofs.Worlds.{WorldOk, ok_swapped, in_order_of}
use Rattle.bx_lapd.proofs.Steps.{Marks, Joint, KeptTight, joint_loses, mid_flush, kept_give, kept_hear, kept_elapse, kept_poll}

-- ---- frames by what they are

abbrev IsCounted : Frame → Type 0
IsCounted (Information poll ns nr m) = Unit {0}
IsCounted (Numbered kind command poll nr) = Unit {0}
IsCounted (Plain kind poll) = ⊥

abbrev AllCounted : List Frame → Type 0
AllCounted fs = AllByRecursion IsCounted fs

abbrev IsPolled : Frame → Type 0
IsPolled (Information poll ns nr m) = Unit {0}
IsPolled (Numbered kind command poll nr) = Unit {0}
IsPolled (Plain u.Sabme true) = Unit {0}
IsPolled (Plain u.Ua true) = Unit {0}
IsPolled (Plain kind poll) = ⊥

abbrev AllPolled : List Frame → Type 0
AllPolled fs = AllByRecursion IsPolled fs

abbrev IsUa : Frame → Type 0
IsUa f = is_ua f ≡ true

abbrev OnlyUas : List Frame → Type 0
OnlyUas fs = AllByRecursion IsUa fs

abbrev sabmes : List Frame → ℕ
sabmes fs = frames_counted is_sabme fs

abbrev uas : List Frame → ℕ
uas fs = frames_counted is_ua fs

all_join : (P : Frame → Type 0) (xs ys : List Frame) → AllByRecursion P xs → AllByRecursion P ys → AllByRecursion P (xs ++ ys)
all_join P [] ys h k = k
all_join P (x ∷ xs) ys h k = (h.0, all_join P xs ys h.1 k)

ahead_of_it : (a b c d : ℕ) → d ≡ b + c → a + d ≡ a + b + c
ahead_of_it a b c d q = omega (arith, q)

none_ahead : (n : ℕ) → n ≡ 0 + n
none_ahead n = omega arith

frames_append : (test : Frame → Bool) (xs ys : List Frame) → frames_counted test (xs ++ ys) ≡ frames_counted test xs + frames_counted test ys
frames_append test [] ys = none_ahead (frames_counted test ys)
frames_append test (f ∷ xs) ys = ahead_of_it (if test f then 1 else 0) (frames_counted test xs) (frames_counted test ys) (frames_counted test (xs ++ ys)) (frames_append test xs ys)

no_more : (n : ℕ) → n ≡ 0 → 0 + n ≡ 0
no_more n h = omega (arith, h)

counted_sabmes : (fs : List Frame) → AllCounted fs → sabmes fs ≡ 0
counted_sabmes [] h = refl
counted_sabmes (Information poll ns nr m ∷ fs) h = no_more (sabmes fs) (counted_sabmes fs h.1)
counted_sabmes (Numbered kind command poll nr ∷ fs) h = no_more (sabmes fs) (counted_sabmes fs h.1)
counted_sabmes (Plain kind poll ∷ fs) h = absurd h.0

counted_uas : (fs : List Frame) → AllCounted fs → uas fs ≡ 0
counted_uas [] h = refl
counted_uas (Information poll ns nr m ∷ fs) h = no_more (uas fs) (counted_uas fs h.1)
counted_uas (Numbered kind command poll nr ∷ fs) h = no_more (uas fs) (counted_uas fs h.1)
counted_uas (Plain kind poll ∷ fs) h = absurd h.0

counted_polled : (fs : List Frame) → AllCounted fs → AllPolled fs
counted_polled [] h = tt
counted_polled (Information poll ns nr m ∷ fs) h = (tt, counted_polled fs h.1)
counted_polled (Numbered kind command poll nr ∷ fs) h = (tt, counted_polled fs h.1)
counted_polled (Plain kind poll ∷ fs) h = absurd h.0

first_none : (b : Bool) (n : ℕ) → (if b then 1 else 0) + n ≡ 0 → (b ≡ false) × (n ≡ 0)
first_none true n h = absurd (omega (arith, h))
first_none false n h = (refl, omega (arith, h))

first_one : (b : Bool) (n : ℕ) → b ≡ true → (if b then 1 else 0) + n ≡ 1 + n
first_one true n h = refl
first_one false n h = absurd (false≢true h)

at_least : (b : Bool) (n : ℕ) → n ≤ (if b then 1 else 0) + n
at_least true n = omega arith
at_least false n = omega arith

-- ---- an attempt

-- after a SABME only answers go out
abbrev Quiet : List Frame → Type 0
Quiet [] = Unit {0}
Quiet (f ∷ fs) = (is_sabme f ≡ true → OnlyUas fs) × Quiet fs

quiet_none : (fs : List Frame) → sabmes fs ≡ 0 → Quiet fs
quiet_none [] h = tt
quiet_none (f ∷ fs) h = (let p = first_none (is_sabme f) (sabmes fs) h in ((λ s. absurd (true≢false (sym s ∙ p.0))), quiet_none fs p.1))

quiet_more : (fs more : List Frame) → OnlyUas more → Quiet more → Quiet fs → Quiet (fs ++ more)
quiet_more [] more o r q = r
quiet_more (f ∷ fs) more o r q = ((λ s. all_join IsUa fs more (q.0 s) o), quiet_more fs more o r q.1)

quiet_call : (fs : List Frame) → sabmes fs ≡ 0 → Quiet (fs ++ Plain u.Sabme true ∷ [])
quiet_call [] h = ((λ _. tt), tt)
quiet_call (f ∷ fs) h = (let p = first_none (is_sabme f) (sabmes fs) h in ((λ s. absurd (true≢false (sym s ∙ p.0))), quiet_call fs p.1))

-- a peer that has just begun, of which nothing has come
abbrev fresh : Link
fresh = record { state = Established; vs = 0; va = 0; vr = 0; rc = 0; asked = false; busy = false; rejected = false; owed = false; timer = Stopped; queue = [] }

-- this end has had all of this to send since it began, and these frames are on the way
record Waiting (l : Link) (had got : List (ArrayVec ℕ)) (fs : List Frame) : Type 0 where
  none : got ≡ []
  n : Marks
  joint : Joint had [] [] [] l fresh fs [] n
  tight : n.s ≡ n.h

abbrev Waits : Link → List (ArrayVec ℕ) → List (ArrayVec ℕ) → List Frame → Type 0
Waits l had got [] = Unit {0}
Waits l had got (f ∷ fs) = (is_ua f ≡ true → Waiting l had got fs) × Waits l had got fs

waits_none : (l : Link) (had got : List (ArrayVec ℕ)) (fs : List Frame) → uas fs ≡ 0 → Waits l had got fs
waits_none l had got [] h = tt
waits_none l had got (f ∷ fs) h = (let p = first_none (is_ua f) (uas fs) h in ((λ s. absurd (true≢false (sym s ∙ p.0))), waits_none l had got fs p.1))

waits_more : (l l' : Link) (had had' got got' : List (ArrayVec ℕ)) (fs more : List Frame) → ((t : List Frame) → Waiting l had got t → Waiting l' had' got' (t ++ more)) → uas more ≡ 0 → Waits l had got fs → Waits l' had' got' (fs ++ more)
waits_more l l' had had' got got' [] more f z h = waits_none l' had' got' more z
waits_more l l' had had' got got' (x ∷ fs) more f z h = ((λ s. f fs (h.0 s)), waits_more l l' had had' got got' fs more f z h.1)

-- the first UA of these, and what is after it
waits_last : (l : Link) (had got : List (ArrayVec ℕ)) (fs more : List Frame) → uas fs ≡ 0 → Waiting l had got more → uas more ≡ 0 → Waits l had got (fs ++ Plain u.Ua true ∷ more)
waits_last l had got [] more h w z = ((λ _. w), waits_none l had got more z)
waits_last l had got (f ∷ fs) more h w z = (let p = first_none (is_ua f) (uas fs) h in ((λ s. absurd (true≢false (sym s ∙ p.0))), waits_last l had got fs more p.1 w z))

abbrev is_calling : LinkState → Bool
is_calling AwaitingEstablishment = true
is_calling _ = false

abbrev is_leaving : LinkState → Bool
is_leaving AwaitingRelease = true
is_leaving _ = false

-- of end x towards y, which was given `had` and has delivered `got`; x has sent `out`, and y `back`
record Attempt (x y : Link) (had got : List (ArrayVec ℕ)) (out back : List Frame) : Type 0 where
  few : sabmes out + uas back ≤ 1
  calling : 1 ≤ sabmes out + uas back → is_calling x.state ≡ true
  quiet : Quiet out
  alone : 1 ≤ uas back → OnlyUas out
  waits : is_link_up y.state ≡ true → Waits y had got back

-- layer 3 releases no link, and an end that is down owes nothing
record Mild (l : Link) : Type 0 where
  stays : is_leaving l.state ≡ false
  idle : is_link_up l.state ≡ false → l.owed ≡ false

abbrev Both : List (ArrayVec ℕ) → List (ArrayVec ℕ) → List (ArrayVec ℕ) → List (ArrayVec ℕ) → Link → Link → List Frame → List Frame → Type 0
Both g d k e l p out back = (n : Marks) × Joint g d k e l p out back n × (n.s ≡ n.h)

pub record Timely (g d k e : List (ArrayVec ℕ)) (l p : Link) (out back : List Frame) : Type 0 where
  near : Attempt l p k e out back
  far : Attempt p l g d back out
  out_polled : AllPolled out
  back_polled : AllPolled back
  near_mild : Mild l
  far_mild : Mild p
  both : is_link_up l.state ≡ true → is_link_up p.state ≡ true → Both g d k e l p out back

up_not_calling : (st : LinkState) → is_link_up st ≡ true → is_calling st ≡ true → ⊥
up_not_calling Established h c = false≢true c
up_not_calling TimerRecovery h c = false≢true c
up_not_calling Assigned h c = false≢true h
up_not_calling AwaitingEstablishment h c = false≢true h
up_not_calling AwaitingRelease h c = false≢true h

calling_down : (st : LinkState) → is_calling st ≡ true → is_link_up st ≡ false
calling_down AwaitingEstablishment c = refl
calling_down Established c = absurd (false≢true c)
calling_down TimerRecovery c = absurd (false≢true c)
calling_down Assigned c = absurd (false≢true c)
calling_down AwaitingRelease c = absurd (false≢true c)

calling_stays : (st : LinkState) → is_calling st ≡ true → is_leaving st ≡ false
calling_stays AwaitingEstablishment c = refl
calling_stays Established c = absurd (false≢true c)
calling_stays TimerRecovery c = absurd (false≢true c)
calling_stays Assigned c = absurd (false≢true c)
calling_stays AwaitingRelease c = absurd (false≢true c)

up_stays : (st : LinkState) → is_link_up st ≡ true → is_leaving st ≡ false
up_stays Established h = refl
up_stays TimerRecovery h = refl
up_stays Assigned h = absurd (false≢true h)
up_stays AwaitingEstablishment h = absurd (false≢true h)
up_stays AwaitingRelease h = absurd (false≢true h)

mild_up : (l : Link) → is_link_up l.state ≡ true → Mild l
mild_up l h = record { stays = up_stays l.state h; idle = λ down. absurd (true≢false (sym h ∙ down)) }

mild_calling : (l : Link) → is_calling l.state ≡ true → l.owed ≡ false → Mild l
mild_calling l c o = record { stays = calling_stays l.state c; idle = λ _. o }

none_of : (n : ℕ) → (1 ≤ n → ⊥) → n ≡ 0
none_of n f = elim (cases_lt 0 n) [ inl lt ↦ absurd (f (omega (arith, lt))) | inr le ↦ omega (arith, le) ]

-- an end that is up has no attempt
up_none : (x y : Link) (had got : List (ArrayVec ℕ)) (out back : List Frame) → Attempt x y had got out back → is_link_up x.state ≡ true → sabmes out + uas back ≡ 0
up_none x y had got out back a h = none_of (sabmes out + uas back) (λ some. up_not_calling x.state h (a.calling some))

-- what is left of the frames on the way
record Rest (back left : List Frame) : Type 0 where
  sabme : sabmes left ≤ sabmes back
  ua : uas left ≤ uas back
  polled : AllPolled back → AllPolled left
  quiet : Quiet back → Quiet left
  only : OnlyUas back → OnlyUas left
  waits : (l : Link) (had got : List (ArrayVec ℕ)) → Waits l had got back → Waits l had got left

rest_same : (fs : List Frame) → Rest fs fs
rest_same fs = record { sabme = omega arith; ua = omega arith; polled = λ h. h; quiet = λ h. h; only = λ h. h; waits = λ l had got h. h }

rest_tail : (f : Frame) (fs : List Frame) → Rest (f ∷ fs) fs
rest_tail f fs = record { sabme = at_least (is_sabme f) (sabmes fs); ua = at_least (is_ua f) (uas fs); polled = λ h. h.1; quiet = λ h. h.1; only = λ h. h.1; waits = λ l had got h. h.1 }

-- ---- the near end takes a step

-- it is up, and stays up
near_stays : (g d k e g' d' : List (ArrayVec ℕ)) (l l' p : Link) (out more back left : List Frame) → is_link_up l.state ≡ true → is_link_up l'.state ≡ true → AllCounted more → Rest back left → Waits l' g' d' (out ++ more)
    → (is_link_up p.state ≡ true → Both g' d' k e l' p (out ++ more) left) → Timely g d k e l p out back → Timely g' d' k e l' p (out ++ more) left
near_stays g d k e g' d' l l' p out more back left was is counted r waits both t =
    let zero = up_none l p k e out back t.near was in
    let s = frames_append is_sabme out more in
    let v = frames_append is_ua out more in
    let x = counted_sabmes more counted in
    let y = counted_uas more counted in
    let ls = r.sabme in
    let lu = r.ua in
    let none : sabmes (out ++ more) + uas left ≡ 0 = omega (arith, zero, s, x, lu) in
    let same : uas (out ++ more) ≡ uas out = omega (arith, v, y) in
    let fewer : sabmes left + uas (out ++ more) ≤ 1 = (let f = t.far.few in omega (arith, f, same, ls)) in
    record {
      near = record {
        few = omega (arith, none);
        calling = λ some. absurd (omega (arith, some, none));
        quiet = quiet_none (out ++ more) (omega (arith, none));
        alone = λ some. absurd (omega (arith, some, none));
        waits = λ h. r.waits p k e (t.near.waits h);
      };
      far = record {
        few = fewer;
        calling = λ some. t.far.calling (omega (arith, some, same, ls));
        quiet = r.quiet t.far.quiet;
        alone = λ some. r.only (t.far.alone (omega (arith, some, same)));
        waits = λ h. waits;
      };
      out_polled = all_join IsPolled out more t.out_polled (counted_polled more counted);
      back_polled = r.polled t.back_polled;
      near_mild = mild_up l' is;
      far_mild = t.far_mild;
      both = λ _ h. both h;
    }

-- it has no attempt, and begins one
near_calls : (g d k e g' d' : List (ArrayVec ℕ)) (l l' p : Link) (out more back left : List Frame) → sabmes out + uas back ≡ 0 → is_calling l'.state ≡ true → l'.owed ≡ false → AllCounted more → Rest back left
    → Timely g d k e l p out back → Timely g' d' k e l' p (out ++ (more ++ Plain u.Sabme true ∷ [])) left
near_calls g d k e g' d' l l' p out more back left zero is owes counted r t =
    let s = frames_append is_sabme out (more ++ Plain u.Sabme true ∷ []) in
    let v = frames_append is_ua out (more ++ Plain u.Sabme true ∷ []) in
    let s' = frames_append is_sabme more (Plain u.Sabme true ∷ []) in
    let v' = frames_append is_ua more (Plain u.Sabme true ∷ []) in
    let x = counted_sabmes more counted in
    let y = counted_uas more counted in
    let ls = r.sabme in
    let lu = r.ua in
    let join = frames_append is_sabme out more in
    let same : uas (out ++ (more ++ Plain u.Sabme true ∷ [])) ≡ uas out = omega (arith, v, v', y) in
    let one : sabmes (out ++ (more ++ Plain u.Sabme true ∷ [])) ≡ sabmes out + 1 = omega (arith, s, s', x) in
    let fewer : sabmes left + uas (out ++ (more ++ Plain u.Sabme true ∷ [])) ≤ 1 = (let f = t.far.few in omega (arith, f, same, ls)) in
    record {
      near = record {
        few = omega (arith, zero, one, lu);
        calling = λ some. is;
        quiet = subst Quiet (append_assoc out more (Plain u.Sabme true ∷ [])) (quiet_call (out ++ more) (omega (arith, join, x, zero)));
        alone = λ some. absurd (omega (arith, some, zero, lu));
        waits = λ h. r.waits p k e (t.near.waits h);
      };
      far = record {
        few = fewer;
        calling = λ some. t.far.calling (omega (arith, some, same, ls));
        quiet = r.quiet t.far.quiet;
        alone = λ some. r.only (t.far.alone (omega (arith, some, same)));
        waits = λ h. absurd (up_not_calling l'.state h is);
      };
      out_polled = all_join IsPolled out (more ++ Plain u.Sabme true ∷ []) t.out_polled (all_join IsPolled more (Plain u.Sabme true ∷ []) (counted_polled more counted) (tt, tt));
      back_polled = r.polled t.back_polled;
      near_mild = mild_calling l' is owes;
      far_mild = t.far_mild;
      both = λ h _. absurd (up_not_calling l'.state h is);
    }

-- it is down, and says nothing
near_still : (g d k e g' d' : List (ArrayVec ℕ)) (l l' p : Link) (out back left : List Frame) → is_link_up l'.state ≡ false → Mild l' → (1 ≤ sabmes out + uas left → is_calling l'.state ≡ true) → Rest back left
    → Timely g d k e l p out back → Timely g' d' k e l' p out left
near_still g d k e g' d' l l' p out back left down mild calls r t =
    let ls = r.sabme in
    let lu = r.ua in
    record {
      near = record {
        few = (let f = t.near.few in omega (arith, f, lu));
        calling = calls;
        quiet = t.near.quiet;
        alone = λ some. t.near.alone (omega (arith, some, lu));
        waits = λ h. r.waits p k e (t.near.waits h);
      };
      far = record {
        few = (let f = t.far.few in omega (arith, f, ls));
        calling = λ some. t.far.calling (omega (arith, some, ls));
        quiet = r.quiet t.far.quiet;
        alone = λ some. r.only (t.far.alone some);
        waits = λ h. absurd (true≢false (sym h ∙ down));
      };
      out_polled = t.out_polled;
      back_polled = r.polled t.back_polled;
      near_mild = mild;
      far_mild = t.far_mild;
      both = λ h _. absurd (true≢false (sym h ∙ down));
    }

-- ---- what a step sends

record Flushed (l : Link) (s : LinkStep) : Type 0 where
  state : s.link.state ≡ l.state
  counted : AllCounted s.frames

numbered_counted : (ns nr : ℕ) (ms : List (ArrayVec ℕ)) → AllCounted (numbered_frames ns nr ms)
numbered_counted ns nr [] = tt
numbered_counted ns nr (m ∷ ms) = (tt, numbered_counted ((ns + 1) % 128) nr ms)

acknowledges_says : (l : Link) (b : Bool) → Flushed l (acknowledges l b)
acknowledges_says l true = record { state = refl; counted = (tt, tt) }
acknowledges_says l false = record { state = refl; counted = tt }

flushes_says : (l : Link) (now : ℕ) (ms : List (ArrayVec ℕ)) → Flushed l (flushes l now ms)
flushes_says l now [] = acknowledges_says l l.owed
flushes_says l now (m ∷ ms) = record { state = refl; counted = numbered_counted l.vs l.vr (m ∷ ms) }

flush_says : (l : Link) (now : ℕ) → Flushed l (flush now l)
flush_says l now = flushes_says l now (sendable l)

not_established : (st : LinkState) → is_link_up st ≡ false → is_established st ≡ false
not_established Assigned h = refl
not_established AwaitingEstablishment h = refl
not_established AwaitingRelease h = refl
not_established Established h = absurd (true≢false h)
not_established TimerRecovery h = absurd (true≢false h)

-- an end that is down and owes nothing says nothing
flush_idle : (l : Link) (now : ℕ) → is_link_up l.state ≡ false → l.owed ≡ false → flush now l ≡ does l [] []
flush_idle l now down owes =
    let none : sendable l ≡ [] = nothing (is_established l.state) (not_established l.state down) in
    ap (flushes l now) none ∙ ap (acknowledges l) owes
  where
    nothing : (b : Bool) → b ≡ false → (if b && not l.busy then take (7 - outstanding l) (drop (outstanding l) l.queue) else []) ≡ []
    nothing true h = absurd (true≢false h)
    nothing false h = refl

-- an end that is up hears a frame with a number: it stays up, or begins an attempt
data Ends (s : LinkStep) : Type 0 where
  Stays : is_link_up s.link.state ≡ true → AllCounted s.frames → Ends s
  Calls : is_calling s.link.state ≡ true → s.link.owed ≡ false → (more : List Frame) → s.frames ≡ more ++ Plain u.Sabme true ∷ [] → AllCounted more → Ends s

ends_follows : (s : LinkStep) (f : Link → LinkStep) → AllCounted s.frames → Ends (f s.link) → Ends (follows_step s f)
ends_follows s f c (Stays h k) = Stays h (all_join IsCounted s.frames (f s.link).frames c k)
ends_follows s f c (Calls st o more e k) = Calls st o (s.frames ++ more) (ap (λ ys. s.frames ++ ys) e ∙ sym (append_assoc s.frames more (Plain u.Sabme true ∷ []))) (all_join IsCounted s.frames more c k)

ends_flush : (s : LinkStep) (now : ℕ) → Ends s → Ends (follows_step s (flush now))
ends_flush s now (Stays h k) =
    let f = flush_says s.link now in
    Stays (ap is_link_up f.state ∙ h) (all_join IsCounted s.frames (flush now s.link).frames k f.counted)
ends_flush s now (Calls st o more e k) =
    subst (λ (t : LinkStep). Ends (record { link = t.link; frames = s.frames ++ t.frames; told = s.told ++ t.told })) (sym (flush_idle s.link now (calling_down s.link.state st) o))
    (Calls st o more (append-nil s.frames ∙ e) k)

timed_state : (idle same : Bool) (l : Link) (now : ℕ) → (timed idle same l now).state ≡ l.state
timed_state true same l now = refl
timed_state false true l now = refl
timed_state false false l now = refl

settled_state : (still same : Bool) (l : Link) (now : ℕ) → (settled still same l now).state ≡ l.state
settled_state true same l now = refl
settled_state false same l now = timed_state (l.vs == l.va) same l now

ends_number : (b : Bool) (l : Link) (nr now : ℕ) → is_link_up l.state ≡ true → Ends (hear_number b l nr now)
ends_number true l nr now h = Stays (ap is_link_up (settled_state (is_recovering l.state || l.busy) (nr == l.va) (acknowledged l nr) now) ∙ h) tt
ends_number false l nr now h = Calls refl refl [] refl tt

answers_says : (poll : Bool) (l : Link) (told : List Indication) → Flushed l (answers poll l told)
answers_says true l told = record { state = refl; counted = (tt, tt) }
answers_says false l told = record { state = refl; counted = tt }

rejects_says : (b : Bool) (l : Link) (poll : Bool) → Flushed l (rejects b l poll)
rejects_says true l poll = answers_says poll l []
rejects_says false l poll = record { state = refl; counted = (tt, tt) }

took_says : (poll : Bool) (l : Link) (told : List Indication) → Flushed l (answers poll (took l) told)
took_says true l told = record { state = refl; counted = (tt, tt) }
took_says false l told = record { state = refl; counted = tt }

message_says : (b : Bool) (l : Link) (poll : Bool) (m : ArrayVec ℕ) → Flushed l (hear_message b l poll m)
message_says true l poll m = took_says poll l (Delivered m ∷ [])
message_says false l poll m = rejects_says l.rejected l poll

ends_supervised : (b : Bool) (st : LinkState) (l : Link) (kind : Supervisory) (f : Bool) (nr now : ℕ) → l.state ≡ st → is_link_up st ≡ true → Ends (hear_supervised b st l kind f nr now)
ends_supervised false st l kind f nr now is h = Calls refl refl [] refl tt
ends_supervised true TimerRecovery l kind false nr now is h = Stays (ap is_link_up is) tt
ends_supervised true TimerRecovery l ReceiveNotReady true nr now is h = Stays refl tt
ends_supervised true TimerRecovery l ReceiveReady true nr now is h = Stays refl tt
ends_supervised true TimerRecovery l Reject true nr now is h = Stays refl tt
ends_supervised true Established l ReceiveReady f nr now is h = Stays (ap is_link_up (settled_state false (nr == l.va) (acknowledged l nr) now) ∙ ap is_link_up is) tt
ends_supervised true Established l ReceiveNotReady f nr now is h = Stays (ap is_link_up is) tt
ends_supervised true Established l Reject f nr now is h = Stays (ap is_link_up is) tt
ends_supervised true Assigned l kind f nr now is h = absurd (false≢true h)
ends_supervised true AwaitingEstablishment l kind f nr now is h = absurd (false≢true h)
ends_supervised true AwaitingRelease l kind f nr now is h = absurd (false≢true h)

ends_information : (l : Link) (poll : Bool) (ns nr : ℕ) (m : ArrayVec ℕ) (now : ℕ) → is_link_up l.state ≡ true → Ends (hear_information l poll ns nr m now)
ends_information l poll ns nr m now h =
    let s = message_says (ns == l.vr) l poll m in
    let k = (hear_message (ns == l.vr) l poll m).link in
    ends_follows (hear_message (ns == l.vr) l poll m) (λ k. hear_number (is_valid k nr) k nr now) s.counted (ends_number (is_valid k nr) k nr now (ap is_link_up s.state ∙ h))

ends_numbered : (l : Link) (kind : Supervisory) (command poll : Bool) (nr now : ℕ) → is_link_up l.state ≡ true → Ends (hear_numbered l kind command poll nr now)
ends_numbered l kind command poll nr now h =
    let b : Link = record l { busy = is_not_ready kind } in
    let told = unasked (is_established l.state && not command && poll) in
    let s = answers_says (command && poll) b told in
    let k = (answers (command && poll) b told).link in
    ends_follows (answers (command && poll) b told) (λ k. hear_supervised (is_valid k nr) k.state k kind (not command && poll) nr now) s.counted
    (ends_supervised (is_valid k nr) k.state k kind (not command && poll) nr now refl (ap is_link_up s.state ∙ h))

ends_heard : (l : Link) (f : Frame) (now : ℕ) → is_link_up l.state ≡ true → IsCounted f → Ends (link_heard l f now)
ends_heard l (Information poll ns nr m) now h c = subst (λ (b : Bool). Ends (if b then hear_information l poll ns nr m now else does l [] [])) (sym h) (ends_information l poll ns nr m now h)
ends_heard l (Numbered kind command poll nr) now h c = subst (λ (b : Bool). Ends (if b then hear_numbered l kind command poll nr now else does l [] [])) (sym h) (ends_numbered l kind command poll nr now h)
ends_heard l (Plain kind poll) now h c = absurd c

ends_hear : (l : Link) (f : Frame) (now : ℕ) → is_link_up l.state ≡ true → IsCounted f → Ends (hear l f now)
ends_hear l f now h c = ends_flush (link_heard l f now) now (ends_heard l f now h c)

-- one that is down passes it over
hear_idle : (l : Link) (f : Frame) (now : ℕ) → is_link_up l.state ≡ false → l.owed ≡ false → IsCounted f → hear l f now ≡ does l [] []
hear_idle l (Information poll ns nr m) now down owes c =
    ap (λ (b : Bool). follows_step (if b then hear_information l poll ns nr m now else does l [] []) (flush now)) down
    ∙ ap (λ (t : LinkStep). record { link = t.link; frames = [] ++ t.frames; told = [] ++ t.told }) (flush_idle l now down owes)
hear_idle l (Numbered kind command poll nr) now down owes c =
    ap (λ (b : Bool). follows_step (if b then hear_numbered l kind command poll nr now else does l [] []) (flush now)) down
    ∙ ap (λ (t : LinkStep). record { link = t.link; frames = [] ++ t.frames; told = [] ++ t.told }) (flush_idle l now down owes)
hear_idle l (Plain kind poll) now down owes c = absurd c

-- ---- an end begins

flush_queue : (l : Link) (now : ℕ) → (flush now l).link.queue ≡ l.queue
flush_queue l now = at (sendable l)
  where
    owing : (b : Bool) → (acknowledges l b).link.queue ≡ l.queue
    owing true = refl
    owing false = refl

    at : (ms : List (ArrayVec ℕ)) → (flushes l now ms).link.queue ≡ l.queue
    at [] = owing l.owed
    at (m ∷ ms) = refl

flush_told : (l : Link) (now : ℕ) → (flush now l).told ≡ []
flush_told l now = at (sendable l)
  where
    owing : (b : Bool) → (acknowledges l b).told ≡ []
    owing true = refl
    owing false = refl

    at : (ms : List (ArrayVec ℕ)) → (flushes l now ms).told ≡ []
    at [] = owing l.owed
    at (m ∷ ms) = refl

abbrev marks_0 : Marks
marks_0 = record { a = 0; s = 0; h = 0; r = 0; b = 0; t = 0; q = 0 }

nothing_0 : 0 ≤ 0
nothing_0 = omega arith

begun_flow : (x : Link) (now : ℕ) (got : List (ArrayVec ℕ)) (vr : ℕ) (back : List Frame) → got ≡ [] → vr ≡ 0 → Confirms 0 0 back → Flow x.queue got (begun_link x now).va (begun_link x now).vs (begun_link x now).queue vr [] back 0 0 0 0
begun_flow x now got vr back none at c = record {
  va_is = refl;
  vs_is = refl;
  vr_is = at;
  queue_is = refl;
  got_is = none;
  sent = nothing_0;
  below = nothing_0;
  window = omega arith;
  few = omega arith;
  comes = nothing_0;
  confirms = c;
}

began : (x : Link) (now : ℕ) → Waiting (flush now (begun_link x now)).link (flush now (begun_link x now)).link.queue [] (flush now (begun_link x now)).frames
began x now =
    let b = begun_link x now in
    let joint : Joint x.queue [] [] [] b fresh [] [] marks_0 = record { out = begun_flow x now [] 0 [] refl refl nothing_0; into = begun_flow fresh 0 [] 0 [] refl refl nothing_0 } in
    let f = mid_flush x.queue [] [] [] b fresh [] [] marks_0 now joint (inl refl) in
    let m = f.1 in
    let none : m.dd ≡ [] = m.dd_is ∙ ap messages_of (flush_told b now) in
    record {
      none = refl;
      n = f.0;
      joint = subst (λ g. Joint g [] [] [] (flush now b).link fresh (flush now b).frames [] f.0) (sym (flush_queue b now))
          (subst (λ ys. Joint x.queue ys [] [] (flush now b).link fresh (flush now b).frames [] f.0) none
          (subst (λ fs. Joint x.queue m.dd [] [] (flush now b).link fresh fs [] f.0) m.ff_is m.joint));
      tight = f.2;
    }

-- and its peer has begun before it
met : (x p : Link) (now : ℕ) (k e : List (ArrayVec ℕ)) (fs : List Frame) → Waiting p k e fs → Both (flush now (begun_link x now)).link.queue [] k e (flush now (begun_link x now)).link p (flush now (begun_link x now)).frames fs
met x p now k e fs w =
    let b = begun_link x now in
    let n = w.n in
    let i = w.joint.into in
    let most = i.few in
    let under = i.below in
    let sent = i.sent in
    let comes : n.q ≤ n.t = i.comes in
    let q0 : n.q ≡ 0 = omega (arith, comes, most) in
    let b0 : n.b ≡ 0 = omega (arith, sent, most) in
    let vr0 : p.vr ≡ 0 = i.vr_is ∙ ap (λ v. v % 128) q0 in
    let confirms : Confirms 0 0 fs = subst (λ v. Confirms v 0 fs) b0 (subst (λ v. Confirms n.b v fs) q0 i.confirms) in
    let into : Flow k [] p.va p.vs p.queue b.vr fs [] n.a n.s n.s n.r = subst (λ h. Flow k [] p.va p.vs p.queue b.vr fs [] n.a n.s h n.r) (sym w.tight) w.joint.out in
    let marks : Marks = record { a = 0; s = 0; h = 0; r = 0; b = n.a; t = n.s; q = n.r } in
    let joint : Joint x.queue [] k e b p [] fs marks = record { out = begun_flow x now e p.vr fs w.none vr0 confirms; into = into } in
    let f = mid_flush x.queue [] k e b p [] fs marks now joint (inl refl) in
    let m = f.1 in
    let none : m.dd ≡ [] = m.dd_is ∙ ap messages_of (flush_told b now) in (
      f.0,
      subst (λ g. Joint g [] k e (flush now b).link p (flush now b).frames fs f.0) (sym (flush_queue b now))
          (subst (λ ys. Joint x.queue ys k e (flush now b).link p (flush now b).frames fs f.0) none
          (subst (λ xs. Joint x.queue m.dd k e (flush now b).link p xs fs f.0) m.ff_is m.joint)),
      f.2,
    )

begun_up : (x : Link) (now : ℕ) → is_link_up (flush now (begun_link x now)).link.state ≡ true
begun_up x now = ap is_link_up (flush_says (begun_link x now) now).state

begun_counted : (x : Link) (now : ℕ) → AllCounted (flush now (begun_link x now)).frames
begun_counted x now = (flush_says (begun_link x now) now).counted

-- at a SABME, where it has no attempt: UA goes out first
near_begins : (g d k e : List (ArrayVec ℕ)) (l x p : Link) (now : ℕ) (out left : List Frame) → is_calling l.state ≡ false → Timely g d k e l p out (Plain u.Sabme true ∷ left)
    → Timely (flush now (begun_link x now)).link.queue [] k e (flush now (begun_link x now)).link p (out ++ Plain u.Ua true ∷ (flush now (begun_link x now)).frames) left
near_begins g d k e l x p now out left idle t =
    let more = (flush now (begun_link x now)).frames in
    let counted = begun_counted x now in
    let is = begun_up x now in
    let zero : sabmes out + uas (Plain u.Sabme true ∷ left) ≡ 0 = none_of (sabmes out + uas (Plain u.Sabme true ∷ left)) (λ some. true≢false (sym (t.near.calling some) ∙ idle)) in
    let s = frames_append is_sabme out (Plain u.Ua true ∷ more) in
    let v = frames_append is_ua out (Plain u.Ua true ∷ more) in
    let x0 = counted_sabmes more counted in
    let y0 = counted_uas more counted in
    let far = t.far.few in
    let calling = t.far.calling (omega arith) in
    record {
      near = record {
        few = omega (arith, s, x0, zero);
        calling = λ some. absurd (omega (arith, some, s, x0, zero));
        quiet = quiet_none (out ++ Plain u.Ua true ∷ more) (omega (arith, s, x0, zero));
        alone = λ some. absurd (omega (arith, some, zero));
        waits = λ h. absurd (up_not_calling p.state h calling);
      };
      far = record {
        few = omega (arith, far, v, y0);
        calling = λ some. calling;
        quiet = t.far.quiet.1;
        alone = λ some. t.far.quiet.0 refl;
        waits = λ h. waits_last (flush now (begun_link x now)).link (flush now (begun_link x now)).link.queue [] out more (omega (arith, far)) (began x now) y0;
      };
      out_polled = all_join IsPolled out (Plain u.Ua true ∷ more) t.out_polled (tt, counted_polled more counted);
      back_polled = t.back_polled.1;
      near_mild = mild_up (flush now (begun_link x now)).link is;
      far_mild = t.far_mild;
      both = λ _ h. absurd (up_not_calling p.state h calling);
    }

-- at a SABME that crosses its own: UA goes out
near_crosses : (g d k e g' d' : List (ArrayVec ℕ)) (l p : Link) (out left : List Frame) → is_calling l.state ≡ true → Timely g d k e l p out (Plain u.Sabme true ∷ left) → Timely g' d' k e l p (out ++ Plain u.Ua true ∷ []) left
near_crosses g d k e g' d' l p out left is t =
    let s = frames_append is_sabme out (Plain u.Ua true ∷ []) in
    let v = frames_append is_ua out (Plain u.Ua true ∷ []) in
    let near = t.near.few in
    let far = t.far.few in
    let calling = t.far.calling (omega arith) in
    record {
      near = record {
        few = omega (arith, near, s);
        calling = λ some. is;
        quiet = quiet_more out (Plain u.Ua true ∷ []) (refl, tt) ((λ q. absurd (false≢true q)), tt) t.near.quiet;
        alone = λ some. all_join IsUa out (Plain u.Ua true ∷ []) (t.near.alone (omega (arith, some))) (refl, tt);
        waits = λ h. absurd (up_not_calling p.state h calling);
      };
      far = record {
        few = omega (arith, far, v);
        calling = λ some. calling;
        quiet = t.far.quiet.1;
        alone = λ some. t.far.quiet.0 refl;
        waits = λ h. absurd (up_not_calling l.state h is);
      };
      out_polled = all_join IsPolled out (Plain u.Ua true ∷ []) t.out_polled (tt, tt);
      back_polled = t.back_polled.1;
      near_mild = t.near_mild;
      far_mild = t.far_mild;
      both = λ h _. absurd (up_not_calling l.state h is);
    }

lone : (l : Link) (had got : List (ArrayVec ℕ)) (out more : List Frame) → OnlyUas out → uas out ≤ 1 → Waiting l had got more → uas more ≡ 0 → Waits l had got (out ++ more)
lone l had got [] more o le w z = waits_none l had got more z
lone l had got (f ∷ []) more o le w z = ((λ _. w), waits_none l had got more z)
lone l had got (f ∷ x ∷ out) more o le w z = absurd (omega (arith, le, first_one (is_ua f) (uas (x ∷ out)) o.0, first_one (is_ua x) (uas out) o.1.0))

only_none : (out : List Frame) → OnlyUas out → uas out ≡ 0 → out ≡ []
only_none [] o z = refl
only_none (f ∷ out) o z = absurd (true≢false (sym o.0 ∙ (first_none (is_ua f) (uas out) z).0))

-- at the answer to its SABME
near_meets : (g d k e : List (ArrayVec ℕ)) (l x p : Link) (now : ℕ) (out left : List Frame) → is_calling l.state ≡ true → Timely g d k e l p out (Plain u.Ua true ∷ left)
    → Timely (flush now (begun_link x now)).link.queue [] k e (flush now (begun_link x now)).link p (out ++ (flush now (begun_link x now)).frames) left
near_meets g d k e l x p now out left was t =
    let more = (flush now (begun_link x now)).frames in
    let counted = begun_counted x now in
    let is = begun_up x now in
    let s = frames_append is_sabme out more in
    let v = frames_append is_ua out more in
    let x0 = counted_sabmes more counted in
    let y0 = counted_uas more counted in
    let near = t.near.few in
    let far = t.far.few in
    let only : OnlyUas out = t.near.alone (omega arith) in
    let same : uas (out ++ more) ≡ uas out = omega (arith, v, y0) in
    record {
      near = record {
        few = omega (arith, s, x0, near);
        calling = λ some. absurd (omega (arith, some, s, x0, near));
        quiet = quiet_none (out ++ more) (omega (arith, s, x0, near));
        alone = λ some. absurd (omega (arith, some, near));
        waits = λ h. (t.near.waits h).1;
      };
      far = record {
        few = omega (arith, far, same);
        calling = λ some. t.far.calling (omega (arith, some, same));
        quiet = t.far.quiet.1;
        alone = λ some. (t.far.alone (omega (arith, some, same))).1;
        waits = λ h. lone (flush now (begun_link x now)).link (flush now (begun_link x now)).link.queue [] out more only (omega (arith, far)) (began x now) y0;
      };
      out_polled = all_join IsPolled out more t.out_polled (counted_polled more counted);
      back_polled = t.back_polled.1;
      near_mild = mild_up (flush now (begun_link x now)).link is;
      far_mild = t.far_mild;
      both = λ _ h. (let none : uas out ≡ 0 = none_of (uas out) (λ some. up_not_calling p.state h (t.far.calling (omega (arith, some)))) in
          subst (λ fs. Both (flush now (begun_link x now)).link.queue [] k e (flush now (begun_link x now)).link p (fs ++ more) left) (sym (only_none out only none)) (met x p now k e left ((t.near.waits h).0 refl)));
    }

-- a frame of it is lost
near_loses : (g d k e : List (ArrayVec ℕ)) (l p : Link) (f : Frame) (out back : List Frame) → Timely g d k e l p (f ∷ out) back → Timely g d k e l p out back
near_loses g d k e l p f out back t =
    let s = (rest_tail f out).sabme in
    let v = (rest_tail f out).ua in
    let near = t.near.few in
    let far = t.far.few in
    record {
      near = record {
        few = omega (arith, near, s);
        calling = λ some. t.near.calling (omega (arith, some, s));
        quiet = t.near.quiet.1;
        alone = λ some. (t.near.alone some).1;
        waits = t.near.waits;
      };
      far = record {
        few = omega (arith, far, v);
        calling = λ some. t.far.calling (omega (arith, some, v));
        quiet = t.far.quiet;
        alone = λ some. t.far.alone (omega (arith, some, v));
        waits = λ h. (t.far.waits h).1;
      };
      out_polled = t.out_polled.1;
      back_polled = t.back_polled;
      near_mild = t.near_mild;
      far_mild = t.far_mild;
      both = λ a b. (let o = t.both a b in (o.0, joint_loses g d k e l p f out back o.0 o.1, o.2));
    }

-- ---- steps

both_of : (g d k e : List (ArrayVec ℕ)) (p : Link) (out back : List Frame) (s : LinkStep) → KeptTight g d k e p out back s → Both g (d ++ messages_of s.told) k e s.link p (out ++ s.frames) back
both_of g d k e p out back s o =
    let m = o.1 in (
      o.0,
      subst (λ ys. Joint g ys k e s.link p (out ++ s.frames) back o.0) m.dd_is (subst (λ fs. Joint g m.dd k e s.link p fs back o.0) m.ff_is m.joint),
      o.2,
    )

waiting_of : (g d : List (ArrayVec ℕ)) (t : List Frame) (s : LinkStep) → messages_of s.told ≡ [] → d ≡ [] → KeptTight g [] [] [] fresh t [] s → Waiting s.link g (d ++ messages_of s.told) (t ++ s.frames)
waiting_of g d t s none was o =
    let q = both_of g [] [] [] fresh t [] s o in
    record {
      none = ap (λ ys. ys ++ messages_of s.told) was ∙ none;
      n = q.0;
      joint = subst (λ ys. Joint g ys [] [] s.link fresh (t ++ s.frames) [] q.0) none q.1;
      tight = q.2;
    }

near_up : (g d k e g' d' : List (ArrayVec ℕ)) (l p : Link) (out back left : List Frame) (s : LinkStep) → is_link_up l.state ≡ true → Ends s → Rest back left → (is_link_up s.link.state ≡ true → AllCounted s.frames → Waits s.link g' d' (out ++ s.frames))
    → (is_link_up s.link.state ≡ true → is_link_up p.state ≡ true → Both g' d' k e s.link p (out ++ s.frames) left) → Timely g d k e l p out back → Timely g' d' k e s.link p (out ++ s.frames) left
near_up g d k e g' d' l p out back left s was (Stays h c) r waits both t = near_stays g d k e g' d' l s.link p out s.frames back left was h c r (waits h c) (both h) t
near_up g d k e g' d' l p out back left s was (Calls st o more is c) r waits both t =
    subst (λ fs. Timely g' d' k e s.link p (out ++ fs) left) (sym is) (near_calls g d k e g' d' l s.link p out more back left (up_none l p k e out back t.near was) st o c r t)

-- a step that says nothing
near_silent : (g d k e g' d' : List (ArrayVec ℕ)) (l l' p : Link) (out back left : List Frame) → l'.state ≡ l.state → is_link_up l.state ≡ false → l'.owed ≡ l.owed → Rest back left → Timely g d k e l p out back → Timely g' d' k e l' p (out ++ []) left
near_silent g d k e g' d' l l' p out back left st down owes r t =
    let mild : Mild l' = record { stays = ap is_leaving st ∙ t.near_mild.stays; idle = λ _. owes ∙ t.near_mild.idle down } in
    let lu = r.ua in
    subst (λ fs. Timely g' d' k e l' p fs left) (sym (append-nil out))
    (near_still g d k e g' d' l l' p out back left (ap is_link_up st ∙ down) mild (λ some. ap is_calling st ∙ t.near.calling (omega (arith, some, lu))) r t)

near_same : (g d k e : List (ArrayVec ℕ)) (l p : Link) (out back : List Frame) → Timely g d k e l p out back → Timely g (d ++ []) k e l p (out ++ []) back
near_same g d k e l p out back t = subst (λ ys. Timely g ys k e l p (out ++ []) back) (sym (append-nil d)) (subst (λ fs. Timely g d k e l p fs back) (sym (append-nil out)) t)

-- ---- a message that is given

give_says : (l : Link) (m : ArrayVec ℕ) (now : ℕ) → Flushed l (give l m now)
give_says l m now = at (takes_data l.state l)
  where
    at : (b : Bool) → Flushed l (if b then flush now (record l { queue = l.queue ++ m ∷ [] }) else does l [] [])
    at true = (let f = flush_says (record l { queue = l.queue ++ m ∷ [] }) now in record { state = f.state; counted = f.counted })
    at false = record { state = refl; counted = tt }

record Silent (l : Link) (s : LinkStep) : Type 0 where
  state : s.link.state ≡ l.state
  owed : s.link.owed ≡ l.owed
  frames : s.frames ≡ []

give_idle : (l : Link) (m : ArrayVec ℕ) (now : ℕ) → is_link_up l.state ≡ false → l.owed ≡ false → Silent l (give l m now)
give_idle l m now down owes = at (takes_data l.state l)
  where
    at : (b : Bool) → Silent l (if b then flush now (record l { queue = l.queue ++ m ∷ [] }) else does l [] [])
    at true = subst (Silent l) (sym (flush_idle (record l { queue = l.queue ++ m ∷ [] }) now down owes)) (record { state = refl; owed = refl; frames = refl })
    at false = record { state = refl; owed = refl; frames = refl }

by_up : (P : Type 0) (st : LinkState) → (is_link_up st ≡ true → P) → (is_link_up st ≡ false → P) → P
by_up P Established f g = f refl
by_up P TimerRecovery f g = f refl
by_up P Assigned f g = g refl
by_up P AwaitingEstablishment f g = g refl
by_up P AwaitingRelease f g = g refl

near_gives : (g d k e : List (ArrayVec ℕ)) (l p : Link) (out back : List Frame) (m : ArrayVec ℕ) (now : ℕ) → Timely g d k e l p out back
    → Timely (g ++ (if takes_data l.state l then m ∷ [] else [])) (d ++ messages_of (give l m now).told) k e (give l m now).link p (out ++ (give l m now).frames) back
near_gives g d k e l p out back m now t = by_up (Timely g' d' k e s.link p (out ++ s.frames) back) l.state
    (λ h. near_up g d k e g' d' l p out back back s h (Stays (ap is_link_up says.state ∙ h) says.counted) (rest_same back)
    (λ _ c. waits_more l s.link g g' d d' out s.frames (λ x w. waiting_of g' d x s (deaf_give l m now).none w.none (kept_give g [] [] [] l fresh x [] w.n m now w.tight w.joint)) (counted_uas s.frames c) (t.far.waits h))
    (λ _ up. (let o = t.both h up in both_of g' d k e p out back s (kept_give g d k e l p out back o.0 m now o.2 o.1))) t)
    (λ down. (let q = give_idle l m now down (t.near_mild.idle down) in subst (λ fs. Timely g' d' k e s.link p (out ++ fs) back) (sym q.frames) (near_silent g d k e g' d' l s.link p out back back q.state down q.owed (rest_same back) t)))
  where
    s : LinkStep
    s = give l m now

    says : Flushed l s
    says = give_says l m now

    g' : List (ArrayVec ℕ)
    g' = g ++ (if takes_data l.state l then m ∷ [] else [])

    d' : List (ArrayVec ℕ)
    d' = d ++ messages_of s.told

-- ---- time

ends_expires : (st : LinkState) (l : Link) (now : ℕ) → is_link_up st ≡ true → Ends (expires st l now)
ends_expires Established l now h = Stays refl (tt, tt)
ends_expires TimerRecovery l now h = at (nat_lt l.rc n200)
  where
    at : (b : Bool) → Ends (if b then enquires l (l.rc + 1) now else does (establishing l false now) (Plain u.Sabme true ∷ []) (LinkError EnquiryUnanswered ∷ []))
    at true = Stays refl (tt, tt)
    at false = Calls refl refl [] refl tt
ends_expires Assigned l now h = absurd (false≢true h)
ends_expires AwaitingEstablishment l now h = absurd (false≢true h)
ends_expires AwaitingRelease l now h = absurd (false≢true h)

ends_elapse : (l : Link) (now : ℕ) → is_link_up l.state ≡ true → Ends (elapse l now)
ends_elapse l now h = at (is_due l.timer now)
  where
    at : (b : Bool) → Ends (if b then expires l.state l now else does l [] [])
    at true = ends_expires l.state l now h
    at false = Stays h tt

down_expires : (g d k e : List (ArrayVec ℕ)) (st : LinkState) (l p : Link) (out back : List Frame) (now : ℕ) → l.state ≡ st → is_link_up st ≡ false → (st ≡ AwaitingEstablishment → sabmes out + uas back ≡ 0) → Timely g d k e l p out back
    → Timely g (d ++ messages_of (expires st l now).told) k e (expires st l now).link p (out ++ (expires st l now).frames) back
down_expires g d k e Assigned l p out back now is down timely t = near_same g d k e l p out back t
down_expires g d k e AwaitingEstablishment l p out back now is down timely t = at (nat_lt l.rc n200)
  where
    zero : sabmes out + uas back ≡ 0
    zero = timely refl

    again : LinkStep
    again = does (record l { rc = l.rc + 1; timer = T200 (now + t200) }) (Plain u.Sabme true ∷ []) []

    given_up : LinkStep
    given_up = does (discarded (assigned l)) [] (LinkError SabmeUnanswered ∷ LinkReleased ∷ [])

    at : (b : Bool) → Timely g (d ++ messages_of (if b then again else given_up).told) k e (if b then again else given_up).link p (out ++ (if b then again else given_up).frames) back
    at true = near_calls g d k e g (d ++ []) l again.link p out [] back back zero (ap is_calling is) (t.near_mild.idle (ap is_link_up is)) tt (rest_same back) t
    at false = subst (λ fs. Timely g (d ++ []) k e given_up.link p fs back) (sym (append-nil out))
        (near_still g d k e g (d ++ []) l given_up.link p out back back refl (record { stays = refl; idle = λ _. refl }) (λ some. absurd (omega (arith, some, zero))) (rest_same back) t)
down_expires g d k e AwaitingRelease l p out back now is down timely t = absurd (true≢false (sym (ap is_leaving is) ∙ t.near_mild.stays))
down_expires g d k e Established l p out back now is down timely t = absurd (true≢false down)
down_expires g d k e TimerRecovery l p out back now is down timely t = absurd (true≢false down)

near_elapses : (g d k e : List (ArrayVec ℕ)) (l p : Link) (out back : List Frame) (now : ℕ) → (l.state ≡ AwaitingEstablishment → is_due l.timer now ≡ true → sabmes out + uas back ≡ 0) → Timely g d k e l p out back
    → Timely g (d ++ messages_of (elapse l now).told) k e (elapse l now).link p (out ++ (elapse l now).frames) back
near_elapses g d k e l p out back now timely t = by_up (Timely g d' k e s.link p (out ++ s.frames) back) l.state
    (λ h. near_up g d k e g d' l p out back back s h (ends_elapse l now h) (rest_same back)
    (λ up c. waits_more l s.link g g d d' out s.frames (λ x w. waiting_of g d x s (deaf_elapse l now).none w.none (kept_elapse g [] [] [] l fresh x [] w.n now h up w.tight w.joint)) (counted_uas s.frames c) (t.far.waits h))
    (λ up far. (let o = t.both h far in both_of g d k e p out back s (kept_elapse g d k e l p out back o.0 now h up o.2 o.1))) t)
    (λ down. at down (is_due l.timer now) refl)
  where
    s : LinkStep
    s = elapse l now

    d' : List (ArrayVec ℕ)
    d' = d ++ messages_of s.told

    step : Bool → LinkStep
    step b = if b then expires l.state l now else does l [] []

    at : is_link_up l.state ≡ false → (b : Bool) → is_due l.timer now ≡ b → Timely g (d ++ messages_of (step b).told) k e (step b).link p (out ++ (step b).frames) back
    at down true due = down_expires g d k e l.state l p out back now refl down (λ is. timely is due) t
    at down false due = near_same g d k e l p out back t

-- ---- a poll

ends_poll : (l : Link) (now : ℕ) → is_link_up l.state ≡ true → Ends (poll l now)
ends_poll l now h = at (is_at_rest l)
  where
    at : (b : Bool) → Ends (if b then enquires l 0 now else does l [] [])
    at true = Stays refl (tt, tt)
    at false = Stays h tt

near_polls : (g d k e : List (ArrayVec ℕ)) (l p : Link) (out back : List Frame) (now : ℕ) → Timely g d k e l p out back
    → Timely g (d ++ messages_of (poll l now).told) k e (poll l now).link p (out ++ (poll l now).frames) back
near_polls g d k e l p out back now t = by_up (Timely g d' k e s.link p (out ++ s.frames) back) l.state
    (λ h. near_up g d k e g d' l p out back back s h (ends_poll l now h) (rest_same back)
    (λ up c. waits_more l s.link g g d d' out s.frames (λ x w. waiting_of g d x s (deaf_poll l now).none w.none (kept_poll g [] [] [] l fresh x [] w.n now w.tight w.joint)) (counted_uas s.frames c) (t.far.waits h))
    (λ up far. (let o = t.both h far in both_of g d k e p out back s (kept_poll g d k e l p out back o.0 now o.2 o.1))) t)
    (λ down. at down (is_at_rest l) refl)
  where
    s : LinkStep
    s = poll l now

    d' : List (ArrayVec ℕ)
    d' = d ++ messages_of s.told

    step : Bool → LinkStep
    step b = if b then enquires l 0 now else does l [] []

    at : is_link_up l.state ≡ false → (b : Bool) → is_at_rest l ≡ b → Timely g (d ++ messages_of (step b).told) k e (step b).link p (out ++ (step b).frames) back
    at down true clear = absurd (true≢false (sym (at_rest_up l clear) ∙ down))
    at down false clear = near_same g d k e l p out back t

-- ---- layer 3 asks for a link

near_asks : (g d k e : List (ArrayVec ℕ)) (st : LinkState) (l p : Link) (out back : List Frame) (now : ℕ) → l.state ≡ st → Timely g d k e l p out back
    → Timely g (d ++ messages_of (establish st l now).told) k e (establish st l now).link p (out ++ (establish st l now).frames) back
near_asks g d k e AwaitingRelease l p out back now is t = absurd (true≢false (sym (ap is_leaving is) ∙ t.near_mild.stays))
near_asks g d k e AwaitingEstablishment l p out back now is t = near_silent g d k e g (d ++ []) l (record (discarded l) { asked = true }) p out back back refl (ap is_link_up is) refl (rest_same back) t
near_asks g d k e Assigned l p out back now is t = near_calls g d k e g (d ++ []) l (establishing (discarded l) true now) p out [] back back
    (none_of (sabmes out + uas back) (λ some. true≢false (sym (t.near.calling some) ∙ ap is_calling is))) refl refl tt (rest_same back) t
near_asks g d k e Established l p out back now is t = near_calls g d k e g (d ++ []) l (establishing (discarded l) true now) p out [] back back (up_none l p k e out back t.near (ap is_link_up is)) refl refl tt (rest_same back) t
near_asks g d k e TimerRecovery l p out back now is t = near_calls g d k e g (d ++ []) l (establishing (discarded l) true now) p out [] back back (up_none l p k e out back t.near (ap is_link_up is)) refl refl tt (rest_same back) t

-- ---- a frame comes

counted_not_ua : (f : Frame) → IsCounted f → is_ua f ≡ true → ⊥
counted_not_ua (Information poll ns nr m) c h = false≢true h
counted_not_ua (Numbered kind command poll nr) c h = false≢true h
counted_not_ua (Plain kind poll) c h = c

near_hears : (g d k e : List (ArrayVec ℕ)) (l p : Link) (f : Frame) (out left : List Frame) (now : ℕ) → IsCounted f → Timely g d k e l p out (f ∷ left)
    → Timely g (d ++ messages_of (hear l f now).told) k e (hear l f now).link p (out ++ (hear l f now).frames) left
near_hears g d k e l p f out left now c t = by_up (Timely g d' k e s.link p (out ++ s.frames) left) l.state
    (λ h. near_up g d k e g d' l p out (f ∷ left) left s h (ends_hear l f now h c) (rest_tail f left)
    (λ up counted. waits_none s.link g d' (out ++ s.frames) (let v = frames_append is_ua out s.frames in omega (arith, v, counted_uas s.frames counted, none)))
    (λ up far. (let o = t.both h far in both_of g d k e p out left s (kept_hear g d k e l p out left o.0 f now h o.2 o.1))) t)
    (λ down. subst (λ (x : LinkStep). Timely g (d ++ messages_of x.told) k e x.link p (out ++ x.frames) left) (sym (hear_idle l f now down (t.near_mild.idle down) c)) (near_silent g d k e g (d ++ []) l l p out (f ∷ left) left refl down refl (rest_tail f left) t))
  where
    s : LinkStep
    s = hear l f now

    d' : List (ArrayVec ℕ)
    d' = d ++ messages_of s.told

    none : uas out ≡ 0
    none = none_of (uas out) (λ some. counted_not_ua f c (t.far.alone some).0)

-- ---- worlds

abbrev InTime : LinkWorld → Type 0
InTime w = Timely w.near_given w.near_got w.far_given w.far_got w.near w.far w.near_sent w.far_sent

ok_of : (w : LinkWorld) → Both w.near_given w.near_got w.far_given w.far_got w.near w.far w.near_sent w.far_sent → WorldOk w
ok_of w o = record { n = o.0; joint = o.1; tight = o.2 }

anew_comes : (w : LinkWorld) (rest : List Frame) (now : ℕ) (b : Bool) → is_calling w.near.state ≡ false → Timely w.near_given w.near_got w.far_given w.far_got w.near w.far w.near_sent (Plain u.Sabme true ∷ rest)
    → InTime (renewed true (near_becomes (record w { far_sent = rest }) (follows_step (established_anew b w.near true now) (flush now))))
anew_comes w rest now true idle t = near_begins w.near_given w.near_got w.far_given w.far_got w.near w.near w.far now w.near_sent rest idle t
anew_comes w rest now false idle t = near_begins w.near_given w.near_got w.far_given w.far_got w.near (discarded w.near) w.far now w.near_sent rest idle t

sabme_comes : (w : LinkWorld) (rest : List Frame) (now : ℕ) (st : LinkState) → w.near.state ≡ st → Timely w.near_given w.near_got w.far_given w.far_got w.near w.far w.near_sent (Plain u.Sabme true ∷ rest)
    → InTime (renewed (is_begun_by_sabme st) (near_becomes (record w { far_sent = rest }) (follows_step (hear_sabme st w.near true now) (flush now))))
sabme_comes w rest now Assigned is t = near_begins w.near_given w.near_got w.far_given w.far_got w.near w.near w.far now w.near_sent rest (ap is_calling is) t
sabme_comes w rest now AwaitingRelease is t = absurd (true≢false (sym (ap is_leaving is) ∙ t.near_mild.stays))
sabme_comes w rest now AwaitingEstablishment is t =
    subst (λ (x : LinkStep). InTime (near_becomes (record w { far_sent = rest }) (record { link = x.link; frames = Plain u.Ua true ∷ x.frames; told = x.told }))) (sym (flush_idle w.near now (ap is_link_up is) (t.near_mild.idle (ap is_link_up is))))
    (near_crosses w.near_given w.near_got w.far_given w.far_got w.near_given (w.near_got ++ []) w.near w.far w.near_sent rest (ap is_calling is) t)
sabme_comes w rest now Established is t = anew_comes w rest now (w.near.vs == w.near.va) (ap is_calling is) t
sabme_comes w rest now TimerRecovery is t = anew_comes w rest now (w.near.vs == w.near.va) (ap is_calling is) t

ua_comes : (w : LinkWorld) (rest : List Frame) (now : ℕ) (st : LinkState) → w.near.state ≡ st → Timely w.near_given w.near_got w.far_given w.far_got w.near w.far w.near_sent (Plain u.Ua true ∷ rest)
    → InTime (renewed (is_begun_by_ua st) (near_becomes (record w { far_sent = rest }) (follows_step (hear_ua st w.near true now) (flush now))))
ua_comes w rest now AwaitingEstablishment is t = at w.near.asked (w.near.vs == w.near.va)
  where
    at : (asked same : Bool) → InTime (renewed true (near_becomes (record w { far_sent = rest }) (follows_step (confirmed asked same w.near now) (flush now))))
    at true same = near_meets w.near_given w.near_got w.far_given w.far_got w.near w.near w.far now w.near_sent rest (ap is_calling is) t
    at false true = near_meets w.near_given w.near_got w.far_given w.far_got w.near w.near w.far now w.near_sent rest (ap is_calling is) t
    at false false = near_meets w.near_given w.near_got w.far_given w.far_got w.near (discarded w.near) w.far now w.near_sent rest (ap is_calling is) t
ua_comes w rest now Assigned is t = absurd (false≢true (sym (ap is_calling is) ∙ t.near.calling (omega arith)))
ua_comes w rest now AwaitingRelease is t = absurd (false≢true (sym (ap is_calling is) ∙ t.near.calling (omega arith)))
ua_comes w rest now Established is t = absurd (false≢true (sym (ap is_calling is) ∙ t.near.calling (omega arith)))
ua_comes w rest now TimerRecovery is t = absurd (false≢true (sym (ap is_calling is) ∙ t.near.calling (omega arith)))

frame_comes : (w : LinkWorld) (f : Frame) (rest : List Frame) (now : ℕ) → IsPolled f → Timely w.near_given w.near_got w.far_given w.far_got w.near w.far w.near_sent (f ∷ rest)
    → InTime (renewed (begins_link_by f w.near.state) (near_becomes (record w { far_sent = rest }) (hear w.near f now)))
frame_comes w (Information poll ns nr m) rest now c t = near_hears w.near_given w.near_got w.far_given w.far_got w.near w.far (Information poll ns nr m) w.near_sent rest now tt t
frame_comes w (Numbered kind command poll nr) rest now c t = near_hears w.near_given w.near_got w.far_given w.far_got w.near w.far (Numbered kind command poll nr) w.near_sent rest now tt t
frame_comes w (Plain u.Sabme true) rest now c t = sabme_comes w rest now w.near.state refl t
frame_comes w (Plain u.Ua true) rest now c t = ua_comes w rest now w.near.state refl t
frame_comes w (Plain u.Sabme false) rest now c t = absurd c
frame_comes w (Plain u.Ua false) rest now c t = absurd c
frame_comes w (Plain u.Disc poll) rest now c t = absurd c
frame_comes w (Plain u.Dm poll) rest now c t = absurd c
frame_comes w (Plain u.Frmr poll) rest now c t = absurd c
frame_comes w (Plain u.Ui poll) rest now c t = absurd c
frame_comes w (Plain u.Xid poll) rest now c t = absurd c

time_comes : (w : LinkWorld) (fs : List Frame) (now : ℕ) → w.far_sent ≡ fs → InTime w → InTime (renewed (begins_link w.near.state fs) (comes w fs now))
time_comes w [] now is t = t
time_comes w (f ∷ rest) now is t =
    let i = subst (λ fs. Timely w.near_given w.near_got w.far_given w.far_got w.near w.far w.near_sent fs) is t in
    frame_comes w f rest now i.back_polled.0 i

time_lost : (w : LinkWorld) (fs : List Frame) → w.near_sent ≡ fs → InTime w → InTime (frames_lost w fs)
time_lost w [] is t = t
time_lost w (f ∷ rest) is t = near_loses w.near_given w.near_got w.far_given w.far_got w.near w.far f rest w.far_sent (subst (λ fs. Timely w.near_given w.near_got w.far_given w.far_got w.near w.far fs w.far_sent) is t)

time_near : (w : LinkWorld) (e : EndEvent) → IsTimely w e → InTime w → InTime (near_since w e)
time_near w (Gives m now) h t = near_gives w.near_given w.near_got w.far_given w.far_got w.near w.far w.near_sent w.far_sent m now t
time_near w (Hears now) h t = time_comes w w.far_sent now refl t
time_near w Loses h t = time_lost w w.near_sent refl t
time_near w (Elapses now) h t = near_elapses w.near_given w.near_got w.far_given w.far_got w.near w.far w.near_sent w.far_sent now h t
time_near w (Polls now) h t = near_polls w.near_given w.near_got w.far_given w.far_got w.near w.far w.near_sent w.far_sent now t
time_near w (Asks now) h t = near_asks w.near_given w.near_got w.far_given w.far_got w.near.state w.near w.far w.near_sent w.far_sent now refl t
time_near w (Releases now) h t = absurd h

time_swapped : (w : LinkWorld) → InTime w → InTime (swapped w)
time_swapped w t = record {
  near = t.far;
  far = t.near;
  out_polled = t.back_polled;
  back_polled = t.out_polled;
  near_mild = t.far_mild;
  far_mild = t.near_mild;
  both = λ a b. (let o = ok_swapped w (ok_of w (t.both b a)) in (o.n, o.joint, o.tight));
}

time_happens : (w : LinkWorld) (e : LinkWorldEvent) → IsTimelyIn w e → InTime w → InTime (since_happens w e)
time_happens w (AtNear e) h t = time_near w e h t
time_happens w (AtFar e) h t = time_swapped (near_since (swapped w) e) (time_near (swapped w) e h (time_swapped w t))

time_after : (es : List LinkWorldEvent) (w : LinkWorld) → AreTimely es w → InTime w → InTime (since_after es w)
time_after [] w h t = t
time_after (e ∷ es) w h t = time_after es (since_happens w e) h.1 (time_happens w e h.0 t)

-- ---- the opening, and what it says

opening_attempt : (x y : Link) (had got : List (ArrayVec ℕ)) (out back : List Frame) → out ≡ [] → back ≡ [] → Attempt x y had got out back
opening_attempt x y had got out back a b = record {
  few = omega (arith, ap sabmes a, ap uas b);
  calling = λ some. absurd (omega (arith, some, ap sabmes a, ap uas b));
  quiet = quiet_none out (ap sabmes a);
  alone = λ some. absurd (omega (arith, some, ap uas b));
  waits = λ _. waits_none y had got back (ap uas b);
}

time_opening : (w : LinkWorld) → AreIdle w → InTime w
time_opening w x =
    let n = x.unlinked.near in
    let f = x.unlinked.far in
    record {
      near = opening_attempt w.near w.far w.far_given w.far_got w.near_sent w.far_sent x.unlinked.near_empty x.unlinked.far_empty;
      far = opening_attempt w.far w.near w.near_given w.near_got w.far_sent w.near_sent x.unlinked.far_empty x.unlinked.near_empty;
      out_polled = subst AllPolled (sym x.unlinked.near_empty) tt;
      back_polled = subst AllPolled (sym x.unlinked.far_empty) tt;
      near_mild = record { stays = ap is_leaving n.state; idle = λ _. x.near };
      far_mild = record { stays = ap is_leaving f.state; idle = λ _. x.far };
      both = λ h _. absurd (false≢true (sym (ap is_link_up n.state) ∙ h));
    }

pub anew_holds : Anew
anew_holds w es x h near far =
    let z = since_after es w in
    let t = time_after es w h (time_opening w x) in
    let o = ok_of z (t.both near far) in
    (in_order_of z o, in_order_of (swapped z) (ok_swapped z o))

-- ---- the same links, with other counts

abbrev recount : LinkWorld → List (ArrayVec ℕ) → List (ArrayVec ℕ) → List (ArrayVec ℕ) → List (ArrayVec ℕ) → LinkWorld
recount w g k d e = record w { near_given = g; far_given = k; near_got = d; far_got = e }

record IsRecount (w z : LinkWorld) : Type 0 where
  near_given : List (ArrayVec ℕ)
  far_given : List (ArrayVec ℕ)
  near_got : List (ArrayVec ℕ)
  far_got : List (ArrayVec ℕ)
  is : z ≡ recount w near_given far_given near_got far_got

recount_of : (w : LinkWorld) (g k d e : List (ArrayVec ℕ)) → IsRecount w (recount w g k d e)
recount_of w g k d e = record { near_given = g; far_given = k; near_got = d; far_got = e; is = refl }

recount_comes : (w : LinkWorld) (fs : List Frame) (now : ℕ) (b : Bool) (g k d e : List (ArrayVec ℕ)) → IsRecount (comes w fs now) (renewed b (comes (recount w g k d e) fs now))
recount_comes w [] now true g k d e = recount_of w w.near.queue k [] e
recount_comes w [] now false g k d e = recount_of w g k d e
recount_comes w (f ∷ rest) now true g k d e = recount_of (comes w (f ∷ rest) now) (hear w.near f now).link.queue k [] e
recount_comes w (f ∷ rest) now false g k d e = recount_of (comes w (f ∷ rest) now) g k (d ++ messages_of (hear w.near f now).told) e

recount_lost : (w : LinkWorld) (fs : List Frame) (g k d e : List (ArrayVec ℕ)) → IsRecount (frames_lost w fs) (frames_lost (recount w g k d e) fs)
recount_lost w [] g k d e = recount_of w g k d e
recount_lost w (f ∷ rest) g k d e = recount_of (frames_lost w (f ∷ rest)) g k d e

recount_near : (w : LinkWorld) (x : EndEvent) (g k d e : List (ArrayVec ℕ)) → IsRecount (at_near w x) (near_since (recount w g k d e) x)
recount_near w (Gives m now) g k d e = recount_of (at_near w (Gives m now)) (g ++ (if takes_data w.near.state w.near then m ∷ [] else [])) k (d ++ messages_of (give w.near m now).told) e
recount_near w (Hears now) g k d e = recount_comes w w.far_sent now (begins_link w.near.state w.far_sent) g k d e
recount_near w Loses g k d e = recount_lost w w.near_sent g k d e
recount_near w (Elapses now) g k d e = recount_of (at_near w (Elapses now)) g k (d ++ messages_of (elapse w.near now).told) e
recount_near w (Polls now) g k d e = recount_of (at_near w (Polls now)) g k (d ++ messages_of (poll w.near now).told) e
recount_near w (Asks now) g k d e = recount_of (at_near w (Asks now)) g k (d ++ messages_of (establish w.near.state w.near now).told) e
recount_near w (Releases now) g k d e = recount_of (at_near w (Releases now)) g k (d ++ messages_of (release w.near.state w.near now).told) e

recount_happens : (w : LinkWorld) (x : LinkWorldEvent) (g k d e : List (ArrayVec ℕ)) → IsRecount (link_world_happens w x) (since_happens (recount w g k d e) x)
recount_happens w (AtNear x) g k d e = recount_near w x g k d e
recount_happens w (AtFar x) g k d e =
    let r = recount_near (swapped w) x k g e d in
    record { near_given = r.far_given; far_given = r.near_given; near_got = r.far_got; far_got = r.near_got; is = ap swapped r.is }

recount_after : (es : List LinkWorldEvent) (w : LinkWorld) (g k d e : List (ArrayVec ℕ)) → IsRecount (link_world_after es w) (since_after es (recount w g k d e))
recount_after [] w g k d e = recount_of w g k d e
recount_after (x ∷ es) w g k d e =
    let r = recount_happens w x g k d e in
    let o = recount_after es (link_world_happens w x) r.near_given r.far_given r.near_got r.far_got in
    record { near_given = o.near_given; far_given = o.far_given; near_got = o.near_got; far_got = o.far_got; is = ap (since_after es) r.is ∙ o.is }

pub same_links : SameLinks
same_links w es =
    let o = recount_after es w w.near_given w.far_given w.near_got w.far_got in
    record { near = ap (λ (z : LinkWorld). z.near) o.is; far = ap (λ (z : LinkWorld). z.far) o.is; near_sent = ap (λ (z : LinkWorld). z.near_sent) o.is; far_sent = ap (λ (z : LinkWorld). z.far_sent) o.is }
