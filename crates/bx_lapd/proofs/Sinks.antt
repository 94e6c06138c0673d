-- The end that hears, over establishments: which rows deliver, and where V(R) moves.
use Rattle.std.proofs.Common.{◌≡◌, ◌∙◌, ℕ, ◌+◌, ◌%◌, ◌==◌, ◌&&◌, ◌||◌, not, Bool, true, false, List, [], ◌∷◌, ◌++◌, refl, ap, nat_lt, if◌then◌else◌}
use Rattle.std.proofs.lemmas.Bool.{eqb-true}
use Rattle.arrayvec.specs.ArrayVec.{ArrayVec}
use Rattle.bx_lapd.specs.declared.words.LinkState.{LinkState}
use Rattle.bx_lapd.specs.declared.words.LinkState.TheVariants.{Assigned, AwaitingEstablishment, AwaitingRelease, Established, TimerRecovery}
use Rattle.bx_lapd.specs.declared.words.Supervisory.{Supervisory}
use Rattle.bx_lapd.specs.declared.words.Supervisory.TheVariants.{ReceiveReady, ReceiveNotReady, Reject}
use Rattle.bx_lapd.specs.declared.words.Unnumbered.{Unnumbered}
use Rattle.bx_lapd.specs.declared.words.Unnumbered.TheVariants as u
use Rattle.bx_lapd.specs.declared.words.ErrorCode.{ErrorCode}
use Rattle.bx_lapd.specs.declared.frame.Frame.TheVariants.{Information, Numbered, Plain}
use Rattle.bx_lapd.specs.declared.indication.Indication.{Indication}
use Rattle.bx_lapd.specs.declared.indication.Indication.TheVariants.{Delivered}
use Rattle.bx_lapd.specs.Links.{Link, LinkStep, does, follows_step, is_valid, acknowledged, is_established, is_recovering, is_link_up, sendable, acknowledges, flushes, flush, n200, is_at_rest}
use Rattle.bx_lapd.specs.Table.{establish, release, takes_data, give, is_due, expires, elapse, established_anew, hear_sabme, hear_disc, confirmed, hear_ua, hear_dm, fails, hear_plain, answers, took, rejects, hear_message, timed, settled, hear_number, hear_information, is_not_ready, guided, recovered_link, hear_supervised, unasked, hear_numbered, link_heard, hear, poll, enquires}
use Rattle.bx_lapd.specs.World.{messages_of}
use Rattle.bx_lapd.proofs.Steps.{messages_of-append}

-- a step that delivers nothing
abbrev pub Mute : LinkStep → Type 0
Mute s = messages_of s.told ≡ []

-- a step that delivers nothing and leaves V(R)
pub record Deaf (l : Link) (s : LinkStep) : Type 0 where
  pub vr : s.link.vr ≡ l.vr
  pub none : messages_of s.told ≡ []

-- a step that delivers this message
pub record Took (l : Link) (m : ArrayVec ℕ) (s : LinkStep) : Type 0 where
  pub vr : s.link.vr ≡ (l.vr + 1) % 128
  pub one : messages_of s.told ≡ m ∷ []

both_none : (x y : List Indication) → messages_of x ≡ [] → messages_of y ≡ [] → messages_of (x ++ y) ≡ []
both_none x y a b = messages_of-append x y ∙ ap (λ z. z ++ messages_of y) a ∙ b

deaf_follows : (l : Link) (s : LinkStep) (f : Link → LinkStep) → Deaf l s → Deaf s.link (f s.link) → Deaf l (follows_step s f)
deaf_follows l s f a b = record { vr = b.vr ∙ a.vr; none = both_none s.told (f s.link).told a.none b.none }

took_follows : (l : Link) (m : ArrayVec ℕ) (s : LinkStep) (f : Link → LinkStep) → Took l m s → Deaf s.link (f s.link) → Took l m (follows_step s f)
took_follows l m s f a b = record { vr = b.vr ∙ a.vr; one = messages_of-append s.told (f s.link).told ∙ ap (λ z. z ++ messages_of (f s.link).told) a.one ∙ ap (λ z. m ∷ z) b.none }

mute_follows : (s : LinkStep) (f : Link → LinkStep) → Mute s → Deaf s.link (f s.link) → Mute (follows_step s f)
mute_follows s f a b = both_none s.told (f s.link).told a b.none

-- ---- what goes out after each row

deaf_acknowledges : (l : Link) (owed : Bool) → Deaf l (acknowledges l owed)
deaf_acknowledges l true = record { vr = refl; none = refl }
deaf_acknowledges l false = record { vr = refl; none = refl }

deaf_flushes : (l : Link) (now : ℕ) (ms : List (ArrayVec ℕ)) → Deaf l (flushes l now ms)
deaf_flushes l now [] = deaf_acknowledges l l.owed
deaf_flushes l now (m ∷ ms) = record { vr = refl; none = refl }

deaf_flush : (l : Link) (now : ℕ) → Deaf l (flush now l)
deaf_flush l now = deaf_flushes l now (sendable l)

-- ---- rows that deliver nothing

timed_vr : (l : Link) (idle same : Bool) (now : ℕ) → (timed idle same l now).vr ≡ l.vr
timed_vr l true same now = refl
timed_vr l false true now = refl
timed_vr l false false now = refl

settled_vr : (l : Link) (still same : Bool) (now : ℕ) → (settled still same l now).vr ≡ l.vr
settled_vr l true same now = refl
settled_vr l false same now = timed_vr l (l.vs == l.va) same now

deaf_number : (l : Link) (b : Bool) (nr now : ℕ) → Deaf l (hear_number b l nr now)
deaf_number l true nr now = record { vr = settled_vr (acknowledged l nr) (is_recovering l.state || l.busy) (nr == l.va) now; none = refl }
deaf_number l false nr now = record { vr = refl; none = refl }

deaf_answers : (l : Link) (poll : Bool) (told : List Indication) → messages_of told ≡ [] → Deaf l (answers poll l told)
deaf_answers l true told e = record { vr = refl; none = e }
deaf_answers l false told e = record { vr = refl; none = e }

deaf_rejects : (l : Link) (rejected poll : Bool) → Deaf l (rejects rejected l poll)
deaf_rejects l true poll = deaf_answers l poll [] refl
deaf_rejects l false poll = record { vr = refl; none = refl }

took_answers : (l : Link) (poll : Bool) (m : ArrayVec ℕ) → Took l m (answers poll (took l) (Delivered m ∷ []))
took_answers l true m = record { vr = refl; one = refl }
took_answers l false m = record { vr = refl; one = refl }

guided_vr : (l : Link) (kind : Supervisory) (same : Bool) (now : ℕ) → (guided kind same l now).vr ≡ l.vr
guided_vr l ReceiveReady same now = settled_vr l false same now
guided_vr l Reject same now = refl
guided_vr l ReceiveNotReady same now = refl

recovered_vr : (l : Link) (f : Bool) (kind : Supervisory) (now : ℕ) → (recovered_link f kind l now).vr ≡ l.vr
recovered_vr l false kind now = refl
recovered_vr l true ReceiveNotReady now = refl
recovered_vr l true ReceiveReady now = refl
recovered_vr l true Reject now = refl

deaf_supervised : (l : Link) (b : Bool) (st : LinkState) (kind : Supervisory) (f : Bool) (nr now : ℕ) → Deaf l (hear_supervised b st l kind f nr now)
deaf_supervised l false st kind f nr now = record { vr = refl; none = refl }
deaf_supervised l true TimerRecovery kind f nr now = record { vr = recovered_vr (acknowledged l nr) f kind now; none = refl }
deaf_supervised l true Established kind f nr now = record { vr = guided_vr (acknowledged l nr) kind (nr == l.va) now; none = refl }
deaf_supervised l true Assigned kind f nr now = record { vr = guided_vr (acknowledged l nr) kind (nr == l.va) now; none = refl }
deaf_supervised l true AwaitingEstablishment kind f nr now = record { vr = guided_vr (acknowledged l nr) kind (nr == l.va) now; none = refl }
deaf_supervised l true AwaitingRelease kind f nr now = record { vr = guided_vr (acknowledged l nr) kind (nr == l.va) now; none = refl }

unasked_none : (b : Bool) → messages_of (unasked b) ≡ []
unasked_none true = refl
unasked_none false = refl

deaf_numbered : (l : Link) (kind : Supervisory) (command poll : Bool) (nr now : ℕ) → Deaf l (hear_numbered l kind command poll nr now)
deaf_numbered l kind command poll nr now =
    let b = record l { busy = is_not_ready kind } in
    let told = unasked (is_established l.state && not command && poll) in
    let s = answers (command && poll) b told in
    let one = deaf_answers b (command && poll) told (unasked_none (is_established l.state && not command && poll)) in
    deaf_follows l s (λ k. hear_supervised (is_valid k nr) k.state k kind (not command && poll) nr now) (record { vr = one.vr; none = one.none }) (deaf_supervised s.link (is_valid s.link nr) s.link.state kind (not command && poll) nr now)

deaf_if : (l : Link) (b : Bool) (s : LinkStep) → Deaf l s → Deaf l (if b then s else does l [] [])
deaf_if l true s d = d
deaf_if l false s d = record { vr = refl; none = refl }

pub deaf_hear_numbered : (l : Link) (kind : Supervisory) (command poll : Bool) (nr now : ℕ) → Deaf l (hear l (Numbered kind command poll nr) now)
deaf_hear_numbered l kind command poll nr now =
    let s = link_heard l (Numbered kind command poll nr) now in
    deaf_follows l s (flush now) (deaf_if l (is_link_up l.state) (hear_numbered l kind command poll nr now) (deaf_numbered l kind command poll nr now)) (deaf_flush s.link now)

-- ---- I frames

-- what an I frame does: it is passed over, or delivers where its number is V(R)
pub data Hears (l : Link) (ns : ℕ) (m : ArrayVec ℕ) (s : LinkStep) : Type 0 where
  PassesOver : (d : Deaf l s) → Hears l ns m s
  Takes : (e : ns ≡ l.vr) (t : Took l m s) → Hears l ns m s

hears_follows : (l : Link) (ns : ℕ) (m : ArrayVec ℕ) (s : LinkStep) (f : Link → LinkStep) → Hears l ns m s → Deaf s.link (f s.link) → Hears l ns m (follows_step s f)
hears_follows l ns m s f (PassesOver d) b = PassesOver (deaf_follows l s f d b)
hears_follows l ns m s f (Takes e t) b = Takes e (took_follows l m s f t b)

hears_message : (l : Link) (b poll : Bool) (ns : ℕ) (m : ArrayVec ℕ) → (ns == l.vr) ≡ b → Hears l ns m (hear_message b l poll m)
hears_message l true poll ns m e = Takes (eqb-true ns l.vr e) (took_answers l poll m)
hears_message l false poll ns m e = PassesOver (deaf_rejects l l.rejected poll)

hears_information : (l : Link) (poll : Bool) (ns nr : ℕ) (m : ArrayVec ℕ) (now : ℕ) → Hears l ns m (hear_information l poll ns nr m now)
hears_information l poll ns nr m now =
    let s = hear_message (ns == l.vr) l poll m in
    hears_follows l ns m s (λ k. hear_number (is_valid k nr) k nr now) (hears_message l (ns == l.vr) poll ns m refl) (deaf_number s.link (is_valid s.link nr) nr now)

hears_if : (l : Link) (ns : ℕ) (m : ArrayVec ℕ) (b : Bool) (s : LinkStep) → Hears l ns m s → Hears l ns m (if b then s else does l [] [])
hears_if l ns m true s d = d
hears_if l ns m false s d = PassesOver (record { vr = refl; none = refl })

pub hears_frame : (l : Link) (poll : Bool) (ns nr : ℕ) (m : ArrayVec ℕ) (now : ℕ) → Hears l ns m (hear l (Information poll ns nr m) now)
hears_frame l poll ns nr m now =
    let s = link_heard l (Information poll ns nr m) now in
    hears_follows l ns m s (flush now) (hears_if l ns m (is_link_up l.state) (hear_information l poll ns nr m now) (hears_information l poll ns nr m now)) (deaf_flush s.link now)

-- ---- unnumbered frames

mute_anew : (same : Bool) (l : Link) (poll : Bool) (now : ℕ) → Mute (established_anew same l poll now)
mute_anew true l poll now = refl
mute_anew false l poll now = refl

mute_sabme : (st : LinkState) (l : Link) (poll : Bool) (now : ℕ) → Mute (hear_sabme st l poll now)
mute_sabme AwaitingRelease l poll now = refl
mute_sabme AwaitingEstablishment l poll now = refl
mute_sabme Assigned l poll now = refl
mute_sabme Established l poll now = mute_anew (l.vs == l.va) l poll now
mute_sabme TimerRecovery l poll now = mute_anew (l.vs == l.va) l poll now

mute_disc : (st : LinkState) (l : Link) (poll : Bool) → Mute (hear_disc st l poll)
mute_disc Assigned l poll = refl
mute_disc AwaitingEstablishment l poll = refl
mute_disc AwaitingRelease l poll = refl
mute_disc Established l poll = refl
mute_disc TimerRecovery l poll = refl

mute_confirmed : (asked same : Bool) (l : Link) (now : ℕ) → Mute (confirmed asked same l now)
mute_confirmed true same l now = refl
mute_confirmed false true l now = refl
mute_confirmed false false l now = refl

mute_ua : (st : LinkState) (l : Link) (f : Bool) (now : ℕ) → Mute (hear_ua st l f now)
mute_ua AwaitingEstablishment l true now = mute_confirmed l.asked (l.vs == l.va) l now
mute_ua AwaitingRelease l true now = refl
mute_ua Assigned l true now = refl
mute_ua Established l true now = refl
mute_ua TimerRecovery l true now = refl
mute_ua AwaitingEstablishment l false now = refl
mute_ua AwaitingRelease l false now = refl
mute_ua Assigned l false now = refl
mute_ua Established l false now = refl
mute_ua TimerRecovery l false now = refl

mute_dm : (st : LinkState) (l : Link) (f : Bool) (now : ℕ) → Mute (hear_dm st l f now)
mute_dm Assigned l false now = refl
mute_dm Assigned l true now = refl
mute_dm AwaitingEstablishment l true now = refl
mute_dm AwaitingEstablishment l false now = refl
mute_dm AwaitingRelease l true now = refl
mute_dm AwaitingRelease l false now = refl
mute_dm Established l true now = refl
mute_dm Established l false now = refl
mute_dm TimerRecovery l true now = refl
mute_dm TimerRecovery l false now = refl

mute_fails : (up : Bool) (l : Link) (code : ErrorCode) (now : ℕ) → Mute (fails up l code now)
mute_fails true l code now = refl
mute_fails false l code now = refl

mute_plain : (kind : Unnumbered) (l : Link) (poll : Bool) (now : ℕ) → Mute (hear_plain kind l poll now)
mute_plain u.Sabme l poll now = mute_sabme l.state l poll now
mute_plain u.Disc l poll now = mute_disc l.state l poll
mute_plain u.Ua l poll now = mute_ua l.state l poll now
mute_plain u.Dm l poll now = mute_dm l.state l poll now
mute_plain u.Frmr l poll now = mute_fails (is_link_up l.state) l _ now
mute_plain u.Ui l poll now = refl
mute_plain u.Xid l poll now = refl

pub mute_hear_plain : (l : Link) (kind : Unnumbered) (poll : Bool) (now : ℕ) → Mute (hear l (Plain kind poll) now)
mute_hear_plain l kind poll now =
    let s = link_heard l (Plain kind poll) now in
    mute_follows s (flush now) (mute_plain kind l poll now) (deaf_flush s.link now)

-- ---- what layer 3 asks, and time

pub deaf_give : (l : Link) (m : ArrayVec ℕ) (now : ℕ) → Deaf l (give l m now)
deaf_give l m now =
    let d = deaf_flush (record l { queue = l.queue ++ m ∷ [] }) now in
    deaf_if l (takes_data l.state l) (flush now (record l { queue = l.queue ++ m ∷ [] })) (record { vr = d.vr; none = d.none })

pub deaf_establish : (st : LinkState) (l : Link) (now : ℕ) → Deaf l (establish st l now)
deaf_establish AwaitingRelease l now = record { vr = refl; none = refl }
deaf_establish AwaitingEstablishment l now = record { vr = refl; none = refl }
deaf_establish Assigned l now = record { vr = refl; none = refl }
deaf_establish Established l now = record { vr = refl; none = refl }
deaf_establish TimerRecovery l now = record { vr = refl; none = refl }

pub deaf_release : (st : LinkState) (l : Link) (now : ℕ) → Deaf l (release st l now)
deaf_release AwaitingRelease l now = record { vr = refl; none = refl }
deaf_release AwaitingEstablishment l now = record { vr = refl; none = refl }
deaf_release Assigned l now = record { vr = refl; none = refl }
deaf_release Established l now = record { vr = refl; none = refl }
deaf_release TimerRecovery l now = record { vr = refl; none = refl }

deaf_either : (l : Link) (b : Bool) (s t : LinkStep) → Deaf l s → Deaf l t → Deaf l (if b then s else t)
deaf_either l true s t d e = d
deaf_either l false s t d e = e

deaf_expires : (st : LinkState) (l : Link) (now : ℕ) → Deaf l (expires st l now)
deaf_expires Assigned l now = record { vr = refl; none = refl }
deaf_expires AwaitingEstablishment l now = deaf_either l (nat_lt l.rc n200) _ _ (record { vr = refl; none = refl }) (record { vr = refl; none = refl })
deaf_expires AwaitingRelease l now = deaf_either l (nat_lt l.rc n200) _ _ (record { vr = refl; none = refl }) (record { vr = refl; none = refl })
deaf_expires Established l now = record { vr = refl; none = refl }
deaf_expires TimerRecovery l now = deaf_either l (nat_lt l.rc n200) _ _ (record { vr = refl; none = refl }) (record { vr = refl; none = refl })

pub deaf_elapse : (l : Link) (now : ℕ) → Deaf l (elapse l now)
deaf_elapse l now = deaf_if l (is_due l.timer now) (expires l.state l now) (deaf_expires l.state l now)

pub deaf_poll : (l : Link) (now : ℕ) → Deaf l (poll l now)
deaf_poll l now = deaf_if l (is_at_rest l) (enquires l 0 now) (record { vr = refl; none = refl })
