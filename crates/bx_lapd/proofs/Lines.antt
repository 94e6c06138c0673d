-- Both directions of a link over establishments, at every point of every list of events.
use Rattle.std.proofs.Common.{◌≡◌, ◌∙◌, ◌⊎◌, inl, inr, ℕ, suc, ◌+◌, ◌-◌, ◌%◌, ◌≤◌, max, Bool, List, [], ◌∷◌, ◌++◌, length, take, drop, Option, Some, None, refl, sym, ap, subst, append-nil, take-append-drop, length-append, arith, if◌then◌else◌}
use Rattle.std.proofs.lemmas.List.{take-append-le}
use Rattle.arrayvec.specs.ArrayVec.{ArrayVec}
use Rattle.bx_lapd.specs.declared.words.Unnumbered.{Unnumbered}
use Rattle.bx_lapd.specs.declared.frame.Frame.{Frame}
use Rattle.bx_lapd.specs.declared.frame.Frame.TheVariants.{Information, Numbered, Plain}
use Rattle.bx_lapd.specs.Links.{Link, LinkStep, is_link_up, is_at_rest}
use Rattle.bx_lapd.specs.Table.{establish, release, takes_data, give, is_due, hear, elapse, poll}
use Rattle.bx_lapd.specs.World.{LinkWorld, EndEvent, Gives, Hears, Loses, Elapses, Asks, Releases, LinkWorldEvent, AtNear, AtFar, messages_of, near_becomes, comes, frames_lost, at_near, swapped, link_world_happens, link_world_after, Polls}
use Rattle.bx_lapd.specs.Once.{IsPartOf, IsUnlinked, AreUnlinked, Once}
use Rattle.bx_lapd.proofs.Numbers.{next_number}
use Rattle.bx_lapd.proofs.Media.{at_within}
use Rattle.bx_lapd.proofs.Lanes.{part_more, part_next, Fits, Lane, lane_weaker, lane_loses, lane_given, lane_append, Ends, ends_falls}
use Rattle.bx_lapd.proofs.Sources.{Spot, Source, Stands, Firm, HasNumber, firm_hear, firm_give, firm_establish, firm_release, firm_elapse, firm_poll}
use Rattle.bx_lapd.proofs.Sinks.{Deaf, Took, PassesOver, Takes, deaf_hear_numbered, hears_frame, mute_hear_plain, deaf_give, deaf_establish, deaf_release, deaf_elapse, deaf_poll}
use Rattle.bx_lapd.proofs.Sinks as sinks

-- V(R) counts on from the last base, or nothing with this base was delivered
abbrev pub Aligned : Option ℕ → ℕ → ℕ → Type 0
Aligned None r v = Unit {0}
Aligned (Some b) r v = (r ≤ b) ⊎ ((b ≤ r) × (v ≡ (r - b) % 128))

-- one direction: x was given g; the other end with V(R) = v delivered `got`, all of it from below place r
pub record Line (g got : List (ArrayVec ℕ)) (x : Link) (v : ℕ) (fs : List Frame) : Type 0 where
  pub n : Spot
  pub source : Source g x n
  pub tight : n.s ≡ n.h
  pub c : Option ℕ
  pub r : ℕ
  pub few : r ≤ length g
  pub aligned : Aligned c r v
  pub part : IsPartOf got (take r g)
  pub lane : Lane g c r (Ends (is_link_up x.state) n.b n.h) fs

-- ---- the end that sends takes a step

line_sends : (g got : List (ArrayVec ℕ)) (x : Link) (v : ℕ) (fs : List Frame) (s : LinkStep) (o : Line g got x v fs) → Firm g (is_link_up x.state) o.n.b o.n.h s → Line g got s.link v (fs ++ s.frames)
line_sends g got x v fs s o f = record {
  n = f.n;
  source = f.source;
  tight = f.tight;
  c = o.c;
  r = o.r;
  few = o.few;
  aligned = o.aligned;
  part = o.part;
  lane = lane_append g o.c o.r (Ends (is_link_up x.state) o.n.b o.n.h) (Ends (is_link_up s.link.state) f.n.b f.n.h) fs s.frames o.lane (λ d q y. f.lane d q y);
}

line_gives : (g more got : List (ArrayVec ℕ)) (x : Link) (v : ℕ) (fs : List Frame) (s : LinkStep) (o : Line g got x v fs) → Firm (g ++ more) (is_link_up x.state) o.n.b o.n.h s → Line (g ++ more) got s.link v (fs ++ s.frames)
line_gives g more got x v fs s o f = record {
  n = f.n;
  source = f.source;
  tight = f.tight;
  c = o.c;
  r = o.r;
  few = (let k = o.few in omega (arith, length-append g more));
  aligned = o.aligned;
  part = (let k = o.few in subst (IsPartOf got) (sym (take-append-le o.r g more k)) o.part);
  lane = lane_append (g ++ more) o.c o.r (Ends (is_link_up x.state) o.n.b o.n.h) (Ends (is_link_up s.link.state) f.n.b f.n.h) fs s.frames (lane_given g more o.c o.r (Ends (is_link_up x.state) o.n.b o.n.h) fs o.lane) (λ d q y. f.lane d q y);
}

-- ---- the end that hears

line_deaf : (g got : List (ArrayVec ℕ)) (x l : Link) (s : LinkStep) (fs : List Frame) → Deaf l s → Line g got x l.vr fs → Line g (got ++ messages_of s.told) x s.link.vr fs
line_deaf g got x l s fs d o = record {
  n = o.n;
  source = o.source;
  tight = o.tight;
  c = o.c;
  r = o.r;
  few = o.few;
  aligned = subst (Aligned o.c o.r) (sym d.vr) o.aligned;
  part = subst (λ ms. IsPartOf (got ++ ms) (take o.r g)) (sym d.none) (subst (λ ys. IsPartOf ys (take o.r g)) (sym (append-nil got)) o.part);
  lane = o.lane;
}

line_loses : (g got : List (ArrayVec ℕ)) (x : Link) (v : ℕ) (f : Frame) (fs : List Frame) → Line g got x v (f ∷ fs) → Line g got x v fs
line_loses g got x v f fs o = record {
  n = o.n;
  source = o.source;
  tight = o.tight;
  c = o.c;
  r = o.r;
  few = o.few;
  aligned = o.aligned;
  part = o.part;
  lane = lane_loses g o.c o.r (Ends (is_link_up x.state) o.n.b o.n.h) f fs (ends_falls (is_link_up x.state) o.n.b o.n.h) o.lane;
}

-- an unnumbered frame: V(R) may be anything after it
line_plain : (g got : List (ArrayVec ℕ)) (x : Link) (v : ℕ) (kind : Unnumbered) (poll : Bool) (fs : List Frame) (s : LinkStep) → messages_of s.told ≡ [] → Line g got x v (Plain kind poll ∷ fs) → Line g (got ++ messages_of s.told) x s.link.vr fs
line_plain g got x v kind poll fs s e o = record {
  n = o.n;
  source = o.source;
  tight = o.tight;
  c = None;
  r = o.r;
  few = o.few;
  aligned = tt;
  part = subst (λ ms. IsPartOf (got ++ ms) (take o.r g)) (sym e) (subst (λ ys. IsPartOf ys (take o.r g)) (sym (append-nil got)) o.part);
  lane = o.lane;
}

later_number : (x y : ℕ) → x % 128 ≡ y % 128 → y ≤ x + 7 → y ≤ x
later_number x y e l = omega arith

-- a message whose number is V(R) has a place after all that was delivered
place_later : (c : Option ℕ) (b r i v ns : ℕ) → b ≤ i → ns ≡ (i - b) % 128 → ns ≡ v → Fits c b r i → Aligned c r v → r ≤ i
place_later None b r i v ns l e k f a = omega arith
place_later (Some c) b r i v ns l e k (inr f) a = omega arith
place_later (Some c) b r i v ns l e k (inl f) (inl a) = omega (arith, f.0)
place_later (Some c) b r i v ns l e k (inl f) (inr a) =
    let same : (i - b) % 128 ≡ (r - b) % 128 = sym e ∙ k ∙ a.1 ∙ ap (λ z. (r - z) % 128) f.0 in
    let near : r - b ≤ i - b = later_number (i - b) (r - b) same (omega (arith, f.1)) in
    omega (arith, a.0, f.0)

line_takes : (g got : List (ArrayVec ℕ)) (x l : Link) (poll : Bool) (ns nr : ℕ) (m : ArrayVec ℕ) (fs : List Frame) (s : LinkStep) → ns ≡ l.vr → Took l m s → Line g got x l.vr (Information poll ns nr m ∷ fs) → Line g (got ++ messages_of s.told) x s.link.vr fs
line_takes g got x l poll ns nr m fs s e t o =
    let h = o.lane in
    let later = place_later o.c h.1 o.r h.0 l.vr ns h.2 h.3 e h.5 o.aligned in
    let base = h.2 in
    let gap : suc (h.0 - h.1) ≡ suc h.0 - h.1 = omega arith in
    record {
      n = o.n;
      source = o.source;
      tight = o.tight;
      c = Some h.1;
      r = suc h.0;
      few = at_within g h.0 m h.4;
      aligned = inr (omega arith, t.vr ∙ ap (λ z. (z + 1) % 128) (sym e ∙ h.3) ∙ next_number (h.0 - h.1) ∙ ap (λ z. z % 128) gap);
      part = subst (λ ms. IsPartOf (got ++ ms) (take (suc h.0) g)) (sym t.one) (part_next got g o.r h.0 m later h.4 o.part);
      lane = lane_weaker g (Some h.1) (Some h.1) (suc h.0) (max o.r (suc h.0)) (Ends (is_link_up x.state) o.n.b o.n.h) fs (ends_falls (is_link_up x.state) o.n.b o.n.h) (omega arith) (inl refl) h.7;
    }

line_information : (g got : List (ArrayVec ℕ)) (x l : Link) (poll : Bool) (ns nr : ℕ) (m : ArrayVec ℕ) (fs : List Frame) (s : LinkStep) → sinks.Hears l ns m s → Line g got x l.vr (Information poll ns nr m ∷ fs) → Line g (got ++ messages_of s.told) x s.link.vr fs
line_information g got x l poll ns nr m fs s (PassesOver d) o = line_deaf g got x l s fs d (line_loses g got x l.vr (Information poll ns nr m) fs o)
line_information g got x l poll ns nr m fs s (Takes e t) o = line_takes g got x l poll ns nr m fs s e t o

line_hears : (g got : List (ArrayVec ℕ)) (x l : Link) (f : Frame) (fs : List Frame) (now : ℕ) → Line g got x l.vr (f ∷ fs) → Line g (got ++ messages_of (hear l f now).told) x (hear l f now).link.vr fs
line_hears g got x l (Information poll ns nr m) fs now o = line_information g got x l poll ns nr m fs (hear l (Information poll ns nr m) now) (hears_frame l poll ns nr m now) o
line_hears g got x l (Numbered kind command poll nr) fs now o =
    line_deaf g got x l (hear l (Numbered kind command poll nr) now) fs (deaf_hear_numbered l kind command poll nr now) (line_loses g got x l.vr (Numbered kind command poll nr) fs o)
line_hears g got x l (Plain kind poll) fs now o = line_plain g got x l.vr kind poll fs (hear l (Plain kind poll) now) (mute_hear_plain l kind poll now) o

has_number : (g : List (ArrayVec ℕ)) (c : Option ℕ) (r : ℕ) (E : Option ℕ → ℕ → Type 0) (f : Frame) (fs : List Frame) → Lane g c r E (f ∷ fs) → HasNumber f
has_number g c r E (Information poll ns nr m) fs h = h.6
has_number g c r E (Numbered kind command poll nr) fs h = h.0
has_number g c r E (Plain kind poll) fs h = tt

-- ---- worlds

pub record Lines (w : LinkWorld) : Type 0 where
  pub out : Line w.near_given w.far_got w.near w.far.vr w.near_sent
  pub into : Line w.far_given w.near_got w.far w.near.vr w.far_sent

-- the near end takes a step in which it hears nothing new
lines_step : (w : LinkWorld) (s : LinkStep) → (o : Lines w) → Firm w.near_given (is_link_up w.near.state) o.out.n.b o.out.n.h s → Deaf w.near s → Lines (near_becomes w s)
lines_step w s o f d = record {
  out = line_sends w.near_given w.far_got w.near w.far.vr w.near_sent s o.out f;
  into = line_deaf w.far_given w.near_got w.far w.near s w.far_sent d o.into;
}

lines_comes : (w : LinkWorld) (fs : List Frame) (now : ℕ) → w.far_sent ≡ fs → Lines w → Lines (comes w fs now)
lines_comes w [] now e o = o
lines_comes w (f ∷ rest) now e o =
    let i = subst (λ fs. Line w.far_given w.near_got w.far w.near.vr fs) e o.into in
    let s = hear w.near f now in
    let small = has_number w.far_given i.c i.r (Ends (is_link_up w.far.state) i.n.b i.n.h) f rest i.lane in
    record {
      out = line_sends w.near_given w.far_got w.near w.far.vr w.near_sent s o.out (firm_hear w.near_given w.near o.out.n f now small o.out.source o.out.tight);
      into = line_hears w.far_given w.near_got w.far w.near f rest now i;
    }

lines_lost : (w : LinkWorld) (fs : List Frame) → w.near_sent ≡ fs → Lines w → Lines (frames_lost w fs)
lines_lost w [] e o = o
lines_lost w (f ∷ rest) e o = record { out = line_loses w.near_given w.far_got w.near w.far.vr f rest (subst (λ fs. Line w.near_given w.far_got w.near w.far.vr fs) e o.out); into = o.into }

lines_near : (w : LinkWorld) (e : EndEvent) → Lines w → Lines (at_near w e)
lines_near w (Gives m now) o =
    let more = if takes_data w.near.state w.near then m ∷ [] else [] in
    record {
      out = line_gives w.near_given more w.far_got w.near w.far.vr w.near_sent (give w.near m now) o.out (firm_give w.near_given w.near o.out.n (takes_data w.near.state w.near) m now o.out.source o.out.tight);
      into = line_deaf w.far_given w.near_got w.far w.near (give w.near m now) w.far_sent (deaf_give w.near m now) o.into;
    }
lines_near w (Hears now) o = lines_comes w w.far_sent now refl o
lines_near w Loses o = lines_lost w w.near_sent refl o
lines_near w (Elapses now) o = lines_step w (elapse w.near now) o (firm_elapse w.near_given w.near o.out.n (is_due w.near.timer now) now o.out.source o.out.tight) (deaf_elapse w.near now)
lines_near w (Polls now) o = lines_step w (poll w.near now) o (firm_poll w.near_given w.near o.out.n (is_at_rest w.near) now refl o.out.source o.out.tight) (deaf_poll w.near now)
lines_near w (Asks now) o = lines_step w (establish w.near.state w.near now) o (firm_establish w.near_given w.near o.out.n w.near.state now refl o.out.source o.out.tight) (deaf_establish w.near.state w.near now)
lines_near w (Releases now) o = lines_step w (release w.near.state w.near now) o (firm_release w.near_given w.near o.out.n w.near.state now o.out.source o.out.tight) (deaf_release w.near.state w.near now)

lines_swapped : (w : LinkWorld) → Lines w → Lines (swapped w)
lines_swapped w o = record { out = o.into; into = o.out }

lines_happens : (w : LinkWorld) (e : LinkWorldEvent) → Lines w → Lines (link_world_happens w e)
lines_happens w (AtNear e) o = lines_near w e o
lines_happens w (AtFar e) o = lines_swapped (at_near (swapped w) e) (lines_near (swapped w) e (lines_swapped w o))

lines_after : (es : List LinkWorldEvent) (w : LinkWorld) → Lines w → Lines (link_world_after es w)
lines_after [] w o = o
lines_after (e ∷ es) w o = lines_after es (link_world_happens w e) (lines_happens w e o)

-- ---- the opening, and what it says

opening_line : (g got k : List (ArrayVec ℕ)) (x y : Link) (d : List (ArrayVec ℕ)) (fs : List Frame) → IsUnlinked x g d → IsUnlinked y k got → fs ≡ [] → Line g got x y.vr fs
opening_line g got k x y d fs a b e = record {
  n = record { a = 0; s = 0; h = 0; b = 0 };
  source = record {
    queue = a.queue ∙ sym a.none_given;
    kept = omega arith;
    few = omega arith;
    vr = a.vr;
    stand = subst (λ st. Stands st x.asked x.va x.vs 0 0 0 0) (sym a.state) (let h : 0 ≤ 0 = omega arith in h);
  };
  tight = refl;
  c = None;
  r = 0;
  few = omega arith;
  aligned = tt;
  part = subst (λ ys. IsPartOf ys (take 0 g)) (sym b.none_got) tt;
  lane = subst (Lane g None 0 (Ends (is_link_up x.state) 0 0)) (sym e) (subst (λ st. Ends (is_link_up st) 0 0 None 0) (sym a.state) (let h : 0 ≤ 0 = omega arith in h));
}

lines_opening : (w : LinkWorld) → AreUnlinked w → Lines w
lines_opening w x = record {
  out = opening_line w.near_given w.far_got w.far_given w.near w.far w.near_got w.near_sent x.near x.far x.near_empty;
  into = opening_line w.far_given w.near_got w.near_given w.far w.near w.far_got w.far_sent x.far x.near x.far_empty;
}

part_of_all : (g got : List (ArrayVec ℕ)) (x : Link) (v : ℕ) (fs : List Frame) → Line g got x v fs → IsPartOf got g
part_of_all g got x v fs o = subst (IsPartOf got) (take-append-drop o.r g) (part_more got (take o.r g) (drop o.r g) o.part)

pub once_holds : Once
once_holds w es x =
    let o = lines_after es w (lines_opening w x) in
    let z = link_world_after es w in
    (part_of_all z.near_given z.far_got z.near z.far.vr z.near_sent o.out, part_of_all z.far_given z.near_got z.far z.near.vr z.far_sent o.into)
