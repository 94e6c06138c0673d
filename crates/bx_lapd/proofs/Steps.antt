-- What one end does keeps both directions of a link that is up.
use Rattle.std.proofs.Common.{◌≡◌, ◌∙◌, ℕ, suc, ◌+◌, ◌-◌, ◌%◌, ◌≤◌, ◌==◌, ◌⊎◌, ◌&&◌, ◌||◌, not, max, min, Bool, true, false, List, [], ◌∷◌, ◌++◌, length, take, drop, Some, refl, sym, ap, subst, inl, inr, append_assoc, append-nil, drop-drop, length-take, length-drop, arith, nat_lt, if◌then◌else◌}
use Rattle.std.proofs.lemmas.Bool.{false≢true, eqb-true, le-leb, and_from}
use Rattle.arrayvec.specs.ArrayVec.{ArrayVec}
use Rattle.bx_lapd.specs.declared.words.LinkState.{LinkState}
use Rattle.bx_lapd.specs.declared.words.LinkState.TheVariants.{Assigned, AwaitingEstablishment, AwaitingRelease, Established, TimerRecovery}
use Rattle.bx_lapd.specs.declared.words.Supervisory.{Supervisory}
use Rattle.bx_lapd.specs.declared.words.Supervisory.TheVariants.{ReceiveReady, ReceiveNotReady, Reject}
use Rattle.bx_lapd.specs.declared.words.Unnumbered.TheVariants.{Sabme}
use Rattle.bx_lapd.specs.declared.words.ErrorCode.TheVariants.{EnquiryUnanswered}
use Rattle.bx_lapd.specs.declared.frame.Frame.{Frame}
use Rattle.bx_lapd.specs.declared.frame.Frame.TheVariants.{Information, Numbered, Plain}
use Rattle.bx_lapd.specs.Links.{Link, LinkStep, does, follows_step, ahead, outstanding, is_valid, final, enquiry, numbered_frames, establishing, acknowledged, is_established, is_recovering, is_link_up, acknowledges, flushes, flush, n200, is_at_rest}
use Rattle.bx_lapd.specs.declared.indication.Indication.{Indication}
use Rattle.bx_lapd.specs.declared.indication.Indication.TheVariants.{LinkEstablished, LinkReleased, Delivered, LinkError}
use Rattle.bx_lapd.specs.Table.{takes_data, give, is_due, first_count, enquires, expires, elapse, answers, took, rejects, hear_message, timed, settled, hear_number, hear_information, is_not_ready, guided, recovered_link, hear_supervised, unasked, hear_numbered, link_heard, hear, poll}
use Rattle.bx_lapd.specs.World.{messages_of}
use Rattle.bx_lapd.proofs.Numbers.{same_number}
use Rattle.bx_lapd.proofs.Media.{message_at, Stand, stand_drop, comes_less, comes_within, comes_numbered_frame, Confirms, confirms_less, confirms_within, confirms_numbered_frame, confirms_numbered}
use Rattle.bx_lapd.proofs.Flow.{Flow, flow_forth, flow_back, flow_span, flow_outstanding, flow_acknowledged, flow_gone_back, flow_took, flow_given, flow_sent}

-- the counts of the direction out of this end (a, s, h, r), and of the one into it (b, t, q): there the other end is at rest
pub record Marks : Type 0 where
  pub a : ℕ
  pub s : ℕ
  pub h : ℕ
  pub r : ℕ
  pub b : ℕ
  pub t : ℕ
  pub q : ℕ

-- this end l was given g and has delivered d, the other one p was given k and has delivered e
pub record Joint (g d k e : List (ArrayVec ℕ)) (l p : Link) (forth back : List Frame) (n : Marks) : Type 0 where
  pub out : Flow g e l.va l.vs l.queue p.vr forth back n.a n.s n.h n.r
  pub into : Flow k d p.va p.vs p.queue l.vr back forth n.b n.t n.t n.q

-- a step of this end
pub record Mid (g d k e : List (ArrayVec ℕ)) (p : Link) (forth back : List Frame) (s : LinkStep) (n : Marks) : Type 0 where
  pub dd : List (ArrayVec ℕ)
  pub ff : List Frame
  pub dd_is : dd ≡ d ++ messages_of s.told
  pub ff_is : ff ≡ forth ++ s.frames
  pub joint : Joint g dd k e s.link p ff back n

pub messages_of-append : (x y : List Indication) → messages_of (x ++ y) ≡ messages_of x ++ messages_of y
messages_of-append [] y = refl
messages_of-append (Delivered m ∷ x) y = ap (λ ms. m ∷ ms) (messages_of-append x y)
messages_of-append (LinkEstablished ∷ x) y = messages_of-append x y
messages_of-append (LinkReleased ∷ x) y = messages_of-append x y
messages_of-append (LinkError code ∷ x) y = messages_of-append x y

mid_follows : (g d k e : List (ArrayVec ℕ)) (p : Link) (forth back : List Frame) (s : LinkStep) (f : Link → LinkStep) (n n2 : Marks) → (m : Mid g d k e p forth back s n) → Mid g m.dd k e p m.ff back (f s.link) n2 → Mid g d k e p forth back (follows_step s f) n2
mid_follows g d k e p forth back s f n n2 m o = record {
  dd = o.dd;
  ff = o.ff;
  dd_is = o.dd_is ∙ ap (λ x. x ++ messages_of (f s.link).told) m.dd_is ∙ append_assoc d (messages_of s.told) (messages_of (f s.link).told) ∙ ap (λ x. d ++ x) (sym (messages_of-append s.told (f s.link).told));
  ff_is = o.ff_is ∙ ap (λ x. x ++ (f s.link).frames) m.ff_is ∙ append_assoc forth s.frames (f s.link).frames;
  joint = o.joint;
}

mid_same : (g d k e : List (ArrayVec ℕ)) (l p : Link) (forth back : List Frame) (n : Marks) → Joint g d k e l p forth back n → Mid g d k e p forth back (does l [] []) n
mid_same g d k e l p forth back n j = record { dd = d; ff = forth; dd_is = sym (append-nil d); ff_is = sym (append-nil forth); joint = j }

-- ---- frames with N(R)

joint_sends : (g d k e : List (ArrayVec ℕ)) (l p : Link) (forth back : List Frame) (n : Marks) (kind : Supervisory) (command poll : Bool) → Joint g d k e l p forth back n → Joint g d k e l p (forth ++ Numbered kind command poll l.vr ∷ []) back n
joint_sends g d k e l p forth back n kind command poll j = record {
  out = flow_forth g e l.va l.vs l.queue p.vr forth back n.a n.s n.h n.r (forth ++ Numbered kind command poll l.vr ∷ []) j.out (comes_numbered_frame g n.r n.h forth kind command poll l.vr j.out.comes);
  into = flow_back k d p.va p.vs p.queue l.vr back forth n.b n.t n.t n.q (forth ++ Numbered kind command poll l.vr ∷ []) j.into (confirms_numbered_frame n.b n.q forth kind command poll l.vr j.into.vr_is j.into.confirms);
}

mid_answers : (g d dd k e : List (ArrayVec ℕ)) (l p : Link) (forth back : List Frame) (n : Marks) (poll : Bool) (told : List Indication) → dd ≡ d ++ messages_of told → Joint g dd k e l p forth back n → Mid g d k e p forth back (answers poll l told) n
mid_answers g d dd k e l p forth back n true told x j =
    let more = joint_sends g dd k e l p forth back n ReceiveReady false true j in
    record { dd = dd; ff = forth ++ final l ∷ []; dd_is = x; ff_is = refl; joint = record { out = more.out; into = more.into } }
mid_answers g d dd k e l p forth back n false told x j = record { dd = dd; ff = forth; dd_is = x; ff_is = sym (append-nil forth); joint = j }

mid_acknowledges : (g d k e : List (ArrayVec ℕ)) (l p : Link) (forth back : List Frame) (n : Marks) (owed : Bool) → Joint g d k e l p forth back n → Mid g d k e p forth back (acknowledges l owed) n
mid_acknowledges g d k e l p forth back n true j =
    let more = joint_sends g d k e l p forth back n ReceiveReady false false j in
    record { dd = d; ff = forth ++ Numbered ReceiveReady false false l.vr ∷ []; dd_is = sym (append-nil d); ff_is = refl; joint = record { out = more.out; into = more.into } }
mid_acknowledges g d k e l p forth back n false j = mid_same g d k e l p forth back n j

-- ---- a message that comes

-- it is the one that is due
joint_took : (g d k e : List (ArrayVec ℕ)) (l p : Link) (forth rest : List Frame) (n : Marks) (poll : Bool) (ns nr : ℕ) (m : ArrayVec ℕ) → ns ≡ l.vr → Joint g d k e l p forth (Information poll ns nr m ∷ rest) n → Joint g (d ++ m ∷ []) k e (took l) p forth rest (record n { q = suc n.q })
joint_took g d k e l p forth rest n poll ns nr m x j =
    let c = j.into.comes in
    let w = comes_within k (max n.q (suc c.0)) n.t rest c.4 in
    let far = j.into.window in
    let back = confirms_within n.b n.q forth j.into.confirms in
    let y = c.3 in
    let z : c.0 % 128 ≡ n.q % 128 = sym c.1 ∙ x ∙ j.into.vr_is in
    let i : c.0 ≡ n.q = same_number c.0 n.q (omega arith) (omega arith) z in
    let o = j.out.confirms in
    record {
      out = flow_back g e l.va l.vs l.queue p.vr forth (Information poll ns nr m ∷ rest) n.a n.s n.h n.r rest j.out (confirms_less n.a o.0 n.r rest o.2 o.3);
      into = flow_took k d p.va p.vs p.queue l.vr (Information poll ns nr m ∷ rest) forth rest n.b n.t n.t n.q m j.into (subst (λ v. message_at k v ≡ Some m) i c.2) (comes_less k (suc n.q) (max n.q (suc c.0)) n.t rest (omega arith) c.4);
    }

-- it is another one
joint_passed : (g d k e : List (ArrayVec ℕ)) (l p : Link) (forth rest : List Frame) (n : Marks) (poll : Bool) (ns nr : ℕ) (m : ArrayVec ℕ) → Joint g d k e l p forth (Information poll ns nr m ∷ rest) n → Joint g d k e l p forth rest n
joint_passed g d k e l p forth rest n poll ns nr m j =
    let c = j.into.comes in
    let o = j.out.confirms in
    record {
      out = flow_back g e l.va l.vs l.queue p.vr forth (Information poll ns nr m ∷ rest) n.a n.s n.h n.r rest j.out (confirms_less n.a o.0 n.r rest o.2 o.3);
      into = flow_forth k d p.va p.vs p.queue l.vr (Information poll ns nr m ∷ rest) forth n.b n.t n.t n.q rest j.into (comes_less k n.q (max n.q (suc c.0)) n.t rest (omega arith) c.4);
    }

mid_rejects : (g d k e : List (ArrayVec ℕ)) (l p : Link) (forth back : List Frame) (n : Marks) (rejected poll : Bool) → Joint g d k e l p forth back n → Mid g d k e p forth back (rejects rejected l poll) n
mid_rejects g d k e l p forth back n true poll j = mid_answers g d d k e l p forth back n poll [] (sym (append-nil d)) j
mid_rejects g d k e l p forth back n false poll j =
    let more = joint_sends g d k e l p forth back n Reject false poll j in
    record { dd = d; ff = forth ++ Numbered Reject false poll l.vr ∷ []; dd_is = sym (append-nil d); ff_is = refl; joint = record { out = more.out; into = more.into } }

mid_message : (g d k e : List (ArrayVec ℕ)) (l p : Link) (forth rest : List Frame) (n : Marks) (b poll : Bool) (ns nr : ℕ) (m : ArrayVec ℕ) → (ns == l.vr) ≡ b → Joint g d k e l p forth (Information poll ns nr m ∷ rest) n
    → (q : ℕ) × Mid g d k e p forth rest (hear_message b l poll m) (record n { q = q })
mid_message g d k e l p forth rest n true poll ns nr m x j =
    (suc n.q, mid_answers g d (d ++ m ∷ []) k e (took l) p forth rest (record n { q = suc n.q }) poll (Delivered m ∷ []) refl (joint_took g d k e l p forth rest n poll ns nr m (eqb-true ns l.vr x) j))
mid_message g d k e l p forth rest n false poll ns nr m x j =
    (n.q, mid_rejects g d k e l p forth rest n l.rejected poll (joint_passed g d k e l p forth rest n poll ns nr m j))

-- ---- an N(R) that comes: it is valid, and acknowledges

-- the count of an N(R) that comes, and the N(R) after it
pub record Count (r : ℕ) (back : List Frame) (a nr : ℕ) : Type 0 where
  pub c : ℕ
  pub is : nr ≡ c % 128
  pub above : a ≤ c
  pub following : Confirms c r back

pub joint_valid : (g d k e : List (ArrayVec ℕ)) (l p : Link) (forth back : List Frame) (n : Marks) (nr : ℕ) → Joint g d k e l p forth back n → n.s ≡ n.h → Count n.r back n.a nr → is_valid l nr ≡ true
joint_valid g d k e l p forth back n nr j t x =
    let w = comes_within g n.r n.h forth j.out.comes in
    let v = confirms_within x.c n.r back x.following in
    let one : ahead l.va nr ≡ x.c - n.a = flow_span g e l.va l.vs l.queue p.vr forth back n.a n.s n.h n.r nr x.c j.out x.is x.above (omega arith) in
    let two : ahead l.va l.vs ≡ n.s - n.a = flow_outstanding g e l.va l.vs l.queue p.vr forth back n.a n.s n.h n.r j.out in
    le-leb (ahead l.va nr) (ahead l.va l.vs) (omega (arith, one, two))

joint_acknowledged : (g d k e : List (ArrayVec ℕ)) (l p : Link) (forth back : List Frame) (n : Marks) (nr : ℕ) → Joint g d k e l p forth back n → n.s ≡ n.h → (x : Count n.r back n.a nr) → Joint g d k e (acknowledged l nr) p forth back (record n { a = x.c })
joint_acknowledged g d k e l p forth back n nr j t x = record {
  out = flow_acknowledged g e l.va l.vs l.queue p.vr forth back back n.a n.s n.h n.r nr x.c j.out t x.is x.above x.following;
  into = j.into;
}

joint_timed : (g d k e : List (ArrayVec ℕ)) (l p : Link) (forth back : List Frame) (n : Marks) (idle same : Bool) (now : ℕ) → Joint g d k e l p forth back n → Joint g d k e (timed idle same l now) p forth back n
joint_timed g d k e l p forth back n true same now j = record { out = j.out; into = j.into }
joint_timed g d k e l p forth back n false true now j = j
joint_timed g d k e l p forth back n false false now j = record { out = j.out; into = j.into }

joint_settled : (g d k e : List (ArrayVec ℕ)) (l p : Link) (forth back : List Frame) (n : Marks) (still same : Bool) (now : ℕ) → Joint g d k e l p forth back n → Joint g d k e (settled still same l now) p forth back n
joint_settled g d k e l p forth back n true same now j = j
joint_settled g d k e l p forth back n false same now j = joint_timed g d k e l p forth back n (l.vs == l.va) same now j

mid_number : (g d k e : List (ArrayVec ℕ)) (l p : Link) (forth back : List Frame) (n : Marks) (nr now : ℕ) → Joint g d k e l p forth back n → n.s ≡ n.h → (x : Count n.r back n.a nr) → Mid g d k e p forth back (hear_number (is_valid l nr) l nr now) (record n { a = x.c })
mid_number g d k e l p forth back n nr now j t x =
    subst (λ b. Mid g d k e p forth back (hear_number b l nr now) (record n { a = x.c })) (sym (joint_valid g d k e l p forth back n nr j t x))
    (mid_same g d k e (settled (is_recovering l.state || l.busy) (nr == l.va) (acknowledged l nr) now) p forth back (record n { a = x.c })
    (joint_settled g d k e (acknowledged l nr) p forth back (record n { a = x.c }) (is_recovering l.state || l.busy) (nr == l.va) now (joint_acknowledged g d k e l p forth back n nr j t x)))

-- ---- RR, RNR and REJ

-- V(S) is where it was, or what the window has room for goes out at once
abbrev pub Ready : Link → Marks → Type 0
Ready l n = (n.s ≡ n.h) ⊎ ((is_established l.state && not l.busy) ≡ true)

abbrev pub KeptReady : List (ArrayVec ℕ) → List (ArrayVec ℕ) → List (ArrayVec ℕ) → List (ArrayVec ℕ) → Link → List Frame → List Frame → LinkStep → Type 0
KeptReady g d k e p forth back s = (n : Marks) × Mid g d k e p forth back s n × Ready s.link n

joint_gone_back : (g d k e : List (ArrayVec ℕ)) (l p : Link) (forth back : List Frame) (n : Marks) → Joint g d k e l p forth back n → Joint g d k e (record l { vs = l.va }) p forth back (record n { s = n.a })
joint_gone_back g d k e l p forth back n j = record {
  out = flow_gone_back g e l.va l.vs l.queue p.vr forth back n.a n.s n.h n.r j.out;
  into = j.into;
}

kept_guided : (g d k e : List (ArrayVec ℕ)) (l p : Link) (forth back : List Frame) (n : Marks) (kind : Supervisory) (same : Bool) (now : ℕ) → is_established l.state ≡ true → l.busy ≡ is_not_ready kind → n.s ≡ n.h → Joint g d k e l p forth back n
    → KeptReady g d k e p forth back (does (guided kind same l now) [] [])
kept_guided g d k e l p forth back n ReceiveReady same now u b t j = (n, mid_same g d k e (settled false same l now) p forth back n (joint_settled g d k e l p forth back n false same now j), inl t)
kept_guided g d k e l p forth back n ReceiveNotReady same now u b t j = (n, mid_same g d k e (guided ReceiveNotReady same l now) p forth back n (record { out = j.out; into = j.into }), inl t)
kept_guided g d k e l p forth back n Reject same now u b t j =
    let o = joint_gone_back g d k e l p forth back n j in
    (record n { s = n.a }, mid_same g d k e (guided Reject same l now) p forth back (record n { s = n.a }) (record { out = o.out; into = o.into }), inr (and_from (is_established l.state) (not l.busy) u (ap not b)))

kept_recovered : (g d k e : List (ArrayVec ℕ)) (l p : Link) (forth back : List Frame) (n : Marks) (f : Bool) (kind : Supervisory) (now : ℕ) → l.busy ≡ is_not_ready kind → n.s ≡ n.h → Joint g d k e l p forth back n
    → KeptReady g d k e p forth back (does (recovered_link f kind l now) [] [])
kept_recovered g d k e l p forth back n false kind now b t j = (n, mid_same g d k e l p forth back n j, inl t)
kept_recovered g d k e l p forth back n true ReceiveNotReady now b t j = (n, mid_same g d k e (recovered_link true ReceiveNotReady l now) p forth back n (record { out = j.out; into = j.into }), inl t)
kept_recovered g d k e l p forth back n true ReceiveReady now b t j =
    let o = joint_gone_back g d k e l p forth back n j in
    (record n { s = n.a }, mid_same g d k e (recovered_link true ReceiveReady l now) p forth back (record n { s = n.a }) (record { out = o.out; into = o.into }), inr (ap not b))
kept_recovered g d k e l p forth back n true Reject now b t j =
    let o = joint_gone_back g d k e l p forth back n j in
    (record n { s = n.a }, mid_same g d k e (recovered_link true Reject l now) p forth back (record n { s = n.a }) (record { out = o.out; into = o.into }), inr (ap not b))

kept_supervised : (g d k e : List (ArrayVec ℕ)) (l p : Link) (forth back : List Frame) (n : Marks) (st : LinkState) (kind : Supervisory) (f : Bool) (nr now : ℕ) → l.state ≡ st → is_link_up st ≡ true → l.busy ≡ is_not_ready kind → n.s ≡ n.h → Joint g d k e l p forth back n → Count n.r back n.a nr
    → KeptReady g d k e p forth back (hear_supervised true st l kind f nr now)
kept_supervised g d k e l p forth back n Established kind f nr now u v b t j x = kept_guided g d k e (acknowledged l nr) p forth back (record n { a = x.c }) kind (nr == l.va) now (ap is_established u) b t (joint_acknowledged g d k e l p forth back n nr j t x)
kept_supervised g d k e l p forth back n TimerRecovery kind f nr now u v b t j x = kept_recovered g d k e (acknowledged l nr) p forth back (record n { a = x.c }) f kind now b t (joint_acknowledged g d k e l p forth back n nr j t x)
kept_supervised g d k e l p forth back n Assigned kind f nr now u v b t j x = absurd (false≢true v)
kept_supervised g d k e l p forth back n AwaitingEstablishment kind f nr now u v b t j x = absurd (false≢true v)
kept_supervised g d k e l p forth back n AwaitingRelease kind f nr now u v b t j x = absurd (false≢true v)

answers_state : (poll : Bool) (l : Link) (told : List Indication) → (answers poll l told).link.state ≡ l.state
answers_state true l told = refl
answers_state false l told = refl

answers_busy : (poll : Bool) (l : Link) (told : List Indication) → (answers poll l told).link.busy ≡ l.busy
answers_busy true l told = refl
answers_busy false l told = refl

unasked_none : (b : Bool) → messages_of (unasked b) ≡ []
unasked_none true = refl
unasked_none false = refl

-- what is after the first frame
joint_next : (g d k e : List (ArrayVec ℕ)) (l p : Link) (forth rest : List Frame) (n : Marks) (kind : Supervisory) (command poll : Bool) (nr : ℕ) → Joint g d k e l p forth (Numbered kind command poll nr ∷ rest) n → Joint g d k e l p forth rest n
joint_next g d k e l p forth rest n kind command poll nr j =
    let o = j.out.confirms in
    record {
      out = flow_back g e l.va l.vs l.queue p.vr forth (Numbered kind command poll nr ∷ rest) n.a n.s n.h n.r rest j.out (confirms_less n.a o.0 n.r rest o.2 o.3);
      into = flow_forth k d p.va p.vs p.queue l.vr (Numbered kind command poll nr ∷ rest) forth n.b n.t n.t n.q rest j.into j.into.comes;
    }

kept_numbered : (g d k e : List (ArrayVec ℕ)) (l p : Link) (forth rest : List Frame) (n : Marks) (kind : Supervisory) (command poll : Bool) (nr now : ℕ) → is_link_up l.state ≡ true → n.s ≡ n.h → Joint g d k e l p forth (Numbered kind command poll nr ∷ rest) n
    → KeptReady g d k e p forth rest (hear_numbered l kind command poll nr now)
kept_numbered g d k e l p forth rest n kind command poll nr now u t j =
    let o = j.out.confirms in
    let x : Count n.r rest n.a nr = record { c = o.0; is = o.1; above = o.2; following = o.3 } in
    let b = record l { busy = is_not_ready kind } in
    let i = joint_next g d k e l p forth rest n kind command poll nr j in
    let told = unasked (is_established l.state && not command && poll) in
    let first = mid_answers g d d k e b p forth rest n (command && poll) told (sym (append-nil d) ∙ ap (λ ms. d ++ ms) (sym (unasked_none (is_established l.state && not command && poll)))) (record { out = i.out; into = i.into }) in
    let m = (answers (command && poll) b told).link in
    let second : KeptReady g first.dd k e p first.ff rest (hear_supervised (is_valid m nr) m.state m kind (not command && poll) nr now) =
    subst (λ v. KeptReady g first.dd k e p first.ff rest (hear_supervised v m.state m kind (not command && poll) nr now)) (sym (joint_valid g first.dd k e m p first.ff rest n nr first.joint t x))
    (kept_supervised g first.dd k e m p first.ff rest n m.state kind (not command && poll) nr now refl (ap is_link_up (answers_state (command && poll) b told) ∙ u) (answers_busy (command && poll) b told) t first.joint x) in
    (second.0, mid_follows g d k e p forth rest (answers (command && poll) b told) (λ v. hear_supervised (is_valid v nr) v.state v kind (not command && poll) nr now) n second.0 first second.1, second.2)

-- ---- what goes out after each row

mid_flushes : (g d k e : List (ArrayVec ℕ)) (l p : Link) (forth back : List Frame) (n : Marks) (now : ℕ) (ms : List (ArrayVec ℕ)) → Joint g d k e l p forth back n → Stand g n.s ms → n.h ≤ n.s + length ms → n.s + length ms ≤ n.a + 7 → n.s + length ms ≤ length g
    → (m : Marks) × Mid g d k e p forth back (flushes l now ms) m × (m.s ≡ m.h)
mid_flushes g d k e l p forth back n now [] j st x y z =
    let w = j.out.below in
    (n, mid_acknowledges g d k e l p forth back n l.owed j, omega arith)
mid_flushes g d k e l p forth back n now (m ∷ ms) j st x y z =
    let o = flow_sent g e l.va l.vs l.queue p.vr forth back n.a n.s n.h n.r l.vr (m ∷ ms) j.out st x y z in
    let i = flow_back k d p.va p.vs p.queue l.vr back forth n.b n.t n.t n.q (forth ++ numbered_frames l.vs l.vr (m ∷ ms)) j.into (confirms_numbered n.b n.q forth l.vs l.vr (m ∷ ms) j.into.vr_is j.into.confirms) in (
      record n { s = n.s + length (m ∷ ms); h = n.s + length (m ∷ ms) },
      record { dd = d; ff = forth ++ numbered_frames l.vs l.vr (m ∷ ms); dd_is = sym (append-nil d); ff_is = refl; joint = record { out = o; into = i } },
      refl,
    )

-- what the window has room for
abbrev pub chosen : Bool → Link → List (ArrayVec ℕ)
chosen b l = if b then take (7 - outstanding l) (drop (outstanding l) l.queue) else []

mid_chosen : (g d k e : List (ArrayVec ℕ)) (l p : Link) (forth back : List Frame) (n : Marks) (now : ℕ) (b : Bool) → Joint g d k e l p forth back n → (n.s ≡ n.h) ⊎ (b ≡ true) → (m : Marks) × Mid g d k e p forth back (flushes l now (chosen b l)) m × (m.s ≡ m.h)
mid_chosen g d k e l p forth back n now false j (inl t) =
    let w = j.out.window in
    let v = j.out.few in
    mid_flushes g d k e l p forth back n now [] j tt (omega arith) (omega arith) (omega arith)
mid_chosen g d k e l p forth back n now false j (inr t) = absurd (false≢true t)
mid_chosen g d k e l p forth back n now true j ready =
    let one = j.out.sent in
    let two = j.out.below in
    let three = j.out.window in
    let four = j.out.few in
    let gap : n.a + (n.s - n.a) ≡ n.s = omega arith in
    let o : outstanding l ≡ n.s - n.a = flow_outstanding g e l.va l.vs l.queue p.vr forth back n.a n.s n.h n.r j.out in
    let ms = take (7 - (n.s - n.a)) (drop n.s g) in
    let same : chosen true l ≡ ms =
    ap (λ i. take (7 - i) (drop i l.queue)) o ∙ ap (λ xs. take (7 - (n.s - n.a)) (drop (n.s - n.a) xs)) j.out.queue_is ∙ ap (take (7 - (n.s - n.a))) (drop-drop (n.s - n.a) n.a g ∙ ap (λ i. drop i g) gap) in
    let len : length ms ≡ min (7 - (n.s - n.a)) (length g - n.s) = length-take (7 - (n.s - n.a)) (drop n.s g) ∙ ap (min (7 - (n.s - n.a))) (length-drop n.s g) in
    subst (λ xs. (m : Marks) × Mid g d k e p forth back (flushes l now xs) m × (m.s ≡ m.h)) (sym same)
    (mid_flushes g d k e l p forth back n now ms j (stand_drop (7 - (n.s - n.a)) n.s g) (omega (arith, len)) (omega (arith, len)) (omega (arith, len)))

pub mid_flush : (g d k e : List (ArrayVec ℕ)) (l p : Link) (forth back : List Frame) (n : Marks) (now : ℕ) → Joint g d k e l p forth back n → Ready l n → (m : Marks) × Mid g d k e p forth back (flush now l) m × (m.s ≡ m.h)
mid_flush g d k e l p forth back n now j ready = mid_chosen g d k e l p forth back n now (is_established l.state && not l.busy) j ready

-- ---- a frame

abbrev pub KeptTight : List (ArrayVec ℕ) → List (ArrayVec ℕ) → List (ArrayVec ℕ) → List (ArrayVec ℕ) → Link → List Frame → List Frame → LinkStep → Type 0
KeptTight g d k e p forth back s = (n : Marks) × Mid g d k e p forth back s n × (n.s ≡ n.h)

kept_information : (g d k e : List (ArrayVec ℕ)) (l p : Link) (forth rest : List Frame) (n : Marks) (poll : Bool) (ns nr : ℕ) (m : ArrayVec ℕ) (now : ℕ) → n.s ≡ n.h → Joint g d k e l p forth (Information poll ns nr m ∷ rest) n
    → KeptReady g d k e p forth rest (hear_information l poll ns nr m now)
kept_information g d k e l p forth rest n poll ns nr m now t j =
    let o = j.out.confirms in
    let x : Count n.r rest n.a nr = record { c = o.0; is = o.1; above = o.2; following = o.3 } in
    let one = mid_message g d k e l p forth rest n (ns == l.vr) poll ns nr m refl j in
    let first = one.1 in
    let v = (hear_message (ns == l.vr) l poll m).link in
    let second = mid_number g first.dd k e v p first.ff rest (record n { q = one.0 }) nr now first.joint t x in
    (record n { q = one.0; a = x.c }, mid_follows g d k e p forth rest (hear_message (ns == l.vr) l poll m) (λ u. hear_number (is_valid u nr) u nr now) (record n { q = one.0 }) (record n { q = one.0; a = x.c }) first second, inl t)

kept_heard : (g d k e : List (ArrayVec ℕ)) (l p : Link) (forth rest : List Frame) (n : Marks) (f : Frame) (now : ℕ) → is_link_up l.state ≡ true → n.s ≡ n.h → Joint g d k e l p forth (f ∷ rest) n → KeptReady g d k e p forth rest (link_heard l f now)
kept_heard g d k e l p forth rest n (Information poll ns nr m) now u t j =
    subst (λ (b : Bool). KeptReady g d k e p forth rest (if b then hear_information l poll ns nr m now else does l [] [])) (sym u) (kept_information g d k e l p forth rest n poll ns nr m now t j)
kept_heard g d k e l p forth rest n (Numbered kind command poll nr) now u t j =
    subst (λ (b : Bool). KeptReady g d k e p forth rest (if b then hear_numbered l kind command poll nr now else does l [] [])) (sym u) (kept_numbered g d k e l p forth rest n kind command poll nr now u t j)
kept_heard g d k e l p forth rest n (Plain kind poll) now u t j = absurd j.out.confirms

pub kept_hear : (g d k e : List (ArrayVec ℕ)) (l p : Link) (forth rest : List Frame) (n : Marks) (f : Frame) (now : ℕ) → is_link_up l.state ≡ true → n.s ≡ n.h → Joint g d k e l p forth (f ∷ rest) n → KeptTight g d k e p forth rest (hear l f now)
kept_hear g d k e l p forth rest n f now u t j =
    let one = kept_heard g d k e l p forth rest n f now u t j in
    let two = mid_flush g one.1.dd k e (link_heard l f now).link p one.1.ff rest one.0 now one.1.joint one.2 in
    (two.0, mid_follows g d k e p forth rest (link_heard l f now) (flush now) one.0 two.0 one.1 two.1, two.2)

-- ---- a message that is given, and time

given_if : (g d k e : List (ArrayVec ℕ)) (l p : Link) (forth back : List Frame) (n : Marks) (b : Bool) (m : ArrayVec ℕ) (now : ℕ) → n.s ≡ n.h → Joint g d k e l p forth back n
    → KeptTight (g ++ (if b then m ∷ [] else [])) d k e p forth back (if b then flush now (record l { queue = l.queue ++ m ∷ [] }) else does l [] [])
given_if g d k e l p forth back n true m now t j =
    mid_flush (g ++ m ∷ []) d k e (record l { queue = l.queue ++ m ∷ [] }) p forth back n now
    (record { out = flow_given g e l.va l.vs l.queue p.vr forth back n.a n.s n.h n.r m j.out; into = j.into }) (inl t)
given_if g d k e l p forth back n false m now t j =
    subst (λ xs. KeptTight xs d k e p forth back (does l [] [])) (sym (append-nil g)) (n, mid_same g d k e l p forth back n j, t)

pub kept_give : (g d k e : List (ArrayVec ℕ)) (l p : Link) (forth back : List Frame) (n : Marks) (m : ArrayVec ℕ) (now : ℕ) → n.s ≡ n.h → Joint g d k e l p forth back n → KeptTight (g ++ (if takes_data l.state l then m ∷ [] else [])) d k e p forth back (give l m now)
kept_give g d k e l p forth back n m now t j = given_if g d k e l p forth back n (takes_data l.state l) m now t j

kept_enquires : (g d k e : List (ArrayVec ℕ)) (l p : Link) (forth back : List Frame) (n : Marks) (rc now : ℕ) → n.s ≡ n.h → Joint g d k e l p forth back n → KeptTight g d k e p forth back (enquires l rc now)
kept_enquires g d k e l p forth back n rc now t j =
    let more = joint_sends g d k e l p forth back n ReceiveReady true true j in
    (n, record { dd = d; ff = forth ++ enquiry l ∷ []; dd_is = sym (append-nil d); ff_is = refl; joint = record { out = more.out; into = more.into } }, t)

abbrev pub asks_again : Bool → Link → ℕ → LinkStep
asks_again b l now = if b then enquires l (l.rc + 1) now else does (establishing l false now) (Plain Sabme true ∷ []) (LinkError EnquiryUnanswered ∷ [])

kept_asks : (g d k e : List (ArrayVec ℕ)) (l p : Link) (forth back : List Frame) (n : Marks) (b : Bool) (now : ℕ) → is_link_up (asks_again b l now).link.state ≡ true → n.s ≡ n.h → Joint g d k e l p forth back n → KeptTight g d k e p forth back (asks_again b l now)
kept_asks g d k e l p forth back n true now u t j = kept_enquires g d k e l p forth back n (l.rc + 1) now t j
kept_asks g d k e l p forth back n false now u t j = absurd (false≢true u)

kept_expires : (g d k e : List (ArrayVec ℕ)) (l p : Link) (forth back : List Frame) (n : Marks) (st : LinkState) (now : ℕ) → is_link_up st ≡ true → is_link_up (expires st l now).link.state ≡ true → n.s ≡ n.h → Joint g d k e l p forth back n → KeptTight g d k e p forth back (expires st l now)
kept_expires g d k e l p forth back n Established now v u t j = kept_enquires g d k e l p forth back n (first_count l.timer) now t j
kept_expires g d k e l p forth back n TimerRecovery now v u t j = kept_asks g d k e l p forth back n (nat_lt l.rc n200) now u t j
kept_expires g d k e l p forth back n Assigned now v u t j = absurd (false≢true v)
kept_expires g d k e l p forth back n AwaitingEstablishment now v u t j = absurd (false≢true v)
kept_expires g d k e l p forth back n AwaitingRelease now v u t j = absurd (false≢true v)

elapse_if : (g d k e : List (ArrayVec ℕ)) (l p : Link) (forth back : List Frame) (n : Marks) (b : Bool) (now : ℕ) → is_link_up l.state ≡ true → is_link_up (if b then expires l.state l now else does l [] []).link.state ≡ true → n.s ≡ n.h → Joint g d k e l p forth back n
    → KeptTight g d k e p forth back (if b then expires l.state l now else does l [] [])
elapse_if g d k e l p forth back n true now v u t j = kept_expires g d k e l p forth back n l.state now v u t j
elapse_if g d k e l p forth back n false now v u t j = (n, mid_same g d k e l p forth back n j, t)

pub kept_elapse : (g d k e : List (ArrayVec ℕ)) (l p : Link) (forth back : List Frame) (n : Marks) (now : ℕ) → is_link_up l.state ≡ true → is_link_up (elapse l now).link.state ≡ true → n.s ≡ n.h → Joint g d k e l p forth back n → KeptTight g d k e p forth back (elapse l now)
kept_elapse g d k e l p forth back n now v u t j = elapse_if g d k e l p forth back n (is_due l.timer now) now v u t j

poll_if : (g d k e : List (ArrayVec ℕ)) (l p : Link) (forth back : List Frame) (n : Marks) (b : Bool) (now : ℕ) → n.s ≡ n.h → Joint g d k e l p forth back n → KeptTight g d k e p forth back (if b then enquires l 0 now else does l [] [])
poll_if g d k e l p forth back n true now t j = kept_enquires g d k e l p forth back n 0 now t j
poll_if g d k e l p forth back n false now t j = (n, mid_same g d k e l p forth back n j, t)

pub kept_poll : (g d k e : List (ArrayVec ℕ)) (l p : Link) (forth back : List Frame) (n : Marks) (now : ℕ) → n.s ≡ n.h → Joint g d k e l p forth back n → KeptTight g d k e p forth back (poll l now)
kept_poll g d k e l p forth back n now t j = poll_if g d k e l p forth back n (is_at_rest l) now t j

-- ---- a frame that is lost

pub joint_loses : (g d k e : List (ArrayVec ℕ)) (l p : Link) (f : Frame) (rest back : List Frame) (n : Marks) → Joint g d k e l p (f ∷ rest) back n → Joint g d k e l p rest back n
joint_loses g d k e l p (Information poll ns nr m) rest back n j =
    let c = j.out.comes in
    let o = j.into.confirms in
    record {
      out = flow_forth g e l.va l.vs l.queue p.vr (Information poll ns nr m ∷ rest) back n.a n.s n.h n.r rest j.out (comes_less g n.r (max n.r (suc c.0)) n.h rest (omega arith) c.4);
      into = flow_back k d p.va p.vs p.queue l.vr back (Information poll ns nr m ∷ rest) n.b n.t n.t n.q rest j.into (confirms_less n.b o.0 n.q rest o.2 o.3);
    }
joint_loses g d k e l p (Numbered kind command poll nr) rest back n j =
    let o = j.into.confirms in
    record {
      out = flow_forth g e l.va l.vs l.queue p.vr (Numbered kind command poll nr ∷ rest) back n.a n.s n.h n.r rest j.out j.out.comes;
      into = flow_back k d p.va p.vs p.queue l.vr back (Numbered kind command poll nr ∷ rest) n.b n.t n.t n.q rest j.into (confirms_less n.b o.0 n.q rest o.2 o.3);
    }
joint_loses g d k e l p (Plain kind poll) rest back n j = absurd j.out.comes
