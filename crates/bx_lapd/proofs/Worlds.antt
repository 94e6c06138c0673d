-- Every world of a link that stays up keeps both directions, and they say the law.
use Rattle.std.proofs.Common.{◌≡◌, ◌∙◌, ℕ, ◌-◌, ◌≤◌, min, true, List, [], ◌∷◌, ◌++◌, length, take, refl, sym, ap, subst, length-take, arith, if◌then◌else◌}
use Rattle.arrayvec.specs.ArrayVec.{ArrayVec}
use Rattle.bx_lapd.specs.declared.frame.Frame.{Frame}
use Rattle.bx_lapd.specs.declared.frame.Frame.TheVariants.{Information, Numbered, Plain}
use Rattle.bx_lapd.specs.Links.{Link, LinkStep, outstanding, is_link_up}
use Rattle.std.proofs.lemmas.Bool.{false≢true}
use Rattle.bx_lapd.specs.declared.words.LinkState.{LinkState}
use Rattle.bx_lapd.specs.declared.words.LinkState.TheVariants.{Assigned, AwaitingEstablishment, AwaitingRelease, Established, TimerRecovery}
use Rattle.bx_lapd.specs.Table.{establish, release, takes_data, give, hear, elapse, poll}
use Rattle.bx_lapd.specs.World.{LinkWorld, EndEvent, Gives, Hears, Loses, Elapses, Asks, Releases, LinkWorldEvent, AtNear, AtFar, near_becomes, comes, frames_lost, at_near, swapped, link_world_happens, link_world_after, Polls}
use Rattle.bx_lapd.specs.Law.{IsJustEstablished, IsLinkOpening, StaysUp, IsFirstValid, IsInOrder, InOrder}
use Rattle.bx_lapd.proofs.Media.{Comes, comes_within, Confirms, confirms_within}
use Rattle.bx_lapd.proofs.Flow.{Flow, flow_outstanding}
use Rattle.bx_lapd.proofs.Steps.{Marks, Joint, KeptTight, joint_valid, joint_loses, kept_give, kept_hear, kept_elapse, kept_poll}

pub record WorldOk (w : LinkWorld) : Type 0 where
  pub n : Marks
  pub joint : Joint w.near_given w.near_got w.far_given w.far_got w.near w.far w.near_sent w.far_sent n
  pub tight : n.s ≡ n.h

-- the near end has done something that kept both directions
ok_becomes : (w : LinkWorld) (s : LinkStep) → KeptTight w.near_given w.near_got w.far_given w.far_got w.far w.near_sent w.far_sent s → WorldOk (near_becomes w s)
ok_becomes w s x =
    let m = x.1 in
    record {
      n = x.0;
      joint = subst (λ ys. Joint w.near_given ys w.far_given w.far_got s.link w.far (w.near_sent ++ s.frames) w.far_sent x.0) m.dd_is
          (subst (λ fs. Joint w.near_given m.dd w.far_given w.far_got s.link w.far fs w.far_sent x.0) m.ff_is m.joint);
      tight = x.2;
    }

ok_comes : (w : LinkWorld) (fs : List Frame) (now : ℕ) → w.far_sent ≡ fs → is_link_up w.near.state ≡ true → WorldOk w → WorldOk (comes w fs now)
ok_comes w [] now x u o = o
ok_comes w (f ∷ rest) now x u o =
    ok_becomes (record w { far_sent = rest }) (hear w.near f now)
    (kept_hear w.near_given w.near_got w.far_given w.far_got w.near w.far w.near_sent rest o.n f now u o.tight
    (subst (λ fs. Joint w.near_given w.near_got w.far_given w.far_got w.near w.far w.near_sent fs o.n) x o.joint))

ok_lost : (w : LinkWorld) (fs : List Frame) → w.near_sent ≡ fs → WorldOk w → WorldOk (frames_lost w fs)
ok_lost w [] x o = o
ok_lost w (f ∷ rest) x o = record {
  n = o.n;
  joint = joint_loses w.near_given w.near_got w.far_given w.far_got w.near w.far f rest w.far_sent o.n
      (subst (λ fs. Joint w.near_given w.near_got w.far_given w.far_got w.near w.far fs w.far_sent o.n) x o.joint);
  tight = o.tight;
}

-- what layer 3 asks takes an end out of states 7 and 8
asks_down : (l : Link) (now : ℕ) (st : LinkState) → is_link_up st ≡ true → is_link_up (establish st l now).link.state ≡ true → ⊥
asks_down l now Established u v = false≢true v
asks_down l now TimerRecovery u v = false≢true v
asks_down l now Assigned u v = false≢true u
asks_down l now AwaitingEstablishment u v = false≢true u
asks_down l now AwaitingRelease u v = false≢true u

releases_down : (l : Link) (now : ℕ) (st : LinkState) → is_link_up st ≡ true → is_link_up (release st l now).link.state ≡ true → ⊥
releases_down l now Established u v = false≢true v
releases_down l now TimerRecovery u v = false≢true v
releases_down l now Assigned u v = false≢true u
releases_down l now AwaitingEstablishment u v = false≢true u
releases_down l now AwaitingRelease u v = false≢true u

ok_near : (w : LinkWorld) (e : EndEvent) → is_link_up w.near.state ≡ true → is_link_up (at_near w e).near.state ≡ true → WorldOk w → WorldOk (at_near w e)
ok_near w (Gives m now) u v o =
    ok_becomes (record w { near_given = w.near_given ++ (if takes_data w.near.state w.near then m ∷ [] else []) }) (give w.near m now)
    (kept_give w.near_given w.near_got w.far_given w.far_got w.near w.far w.near_sent w.far_sent o.n m now o.tight o.joint)
ok_near w (Hears now) u v o = ok_comes w w.far_sent now refl u o
ok_near w Loses u v o = ok_lost w w.near_sent refl o
ok_near w (Elapses now) u v o =
    ok_becomes w (elapse w.near now) (kept_elapse w.near_given w.near_got w.far_given w.far_got w.near w.far w.near_sent w.far_sent o.n now u v o.tight o.joint)
ok_near w (Polls now) u v o =
    ok_becomes w (poll w.near now) (kept_poll w.near_given w.near_got w.far_given w.far_got w.near w.far w.near_sent w.far_sent o.n now o.tight o.joint)
ok_near w (Asks now) u v o = absurd (asks_down w.near now w.near.state u v)
ok_near w (Releases now) u v o = absurd (releases_down w.near now w.near.state u v)

-- the same, seen from the other end
pub ok_swapped : (w : LinkWorld) → WorldOk w → WorldOk (swapped w)
ok_swapped w o =
    let n = o.n in
    record {
      n = record { a = n.b; s = n.t; h = n.t; r = n.q; b = n.a; t = n.s; q = n.r };
      joint = record {
        out = o.joint.into;
        into = subst (λ h. Flow w.near_given w.far_got w.near.va w.near.vs w.near.queue w.far.vr w.near_sent w.far_sent n.a n.s h n.r) (sym o.tight) o.joint.out;
      };
      tight = refl;
    }

ok_happens : (w : LinkWorld) (e : LinkWorldEvent) → is_link_up w.near.state ≡ true → is_link_up w.far.state ≡ true → is_link_up (link_world_happens w e).near.state ≡ true → is_link_up (link_world_happens w e).far.state ≡ true → WorldOk w → WorldOk (link_world_happens w e)
ok_happens w (AtNear e) u v x y o = ok_near w e u x o
ok_happens w (AtFar e) u v x y o = ok_swapped (at_near (swapped w) e) (ok_near (swapped w) e v y (ok_swapped w o))

ok_after : (es : List LinkWorldEvent) (w : LinkWorld) → is_link_up w.near.state ≡ true → is_link_up w.far.state ≡ true → StaysUp es w → WorldOk w → WorldOk (link_world_after es w)
ok_after [] w u v s o = o
ok_after (e ∷ es) w u v s o = ok_after es (link_world_happens w e) s.0 s.1 s.2 (ok_happens w e u v s.0 s.1 o)

-- ---- the opening

opening_flow : (sender receiver : Link) (given got theirs sent : List (ArrayVec ℕ)) (forth back : List Frame) → IsJustEstablished sender given sent → IsJustEstablished receiver theirs got → forth ≡ [] → back ≡ [] → Flow given got sender.va sender.vs sender.queue receiver.vr forth back 0 0 0 0
opening_flow sender receiver given got theirs sent forth back x y f b = record {
  va_is = x.va;
  vs_is = x.vs;
  vr_is = y.vr;
  queue_is = x.waiting;
  got_is = y.nothing;
  sent = omega arith;
  below = omega arith;
  window = omega arith;
  few = omega arith;
  comes = subst (Comes given 0 0) (sym f) (let h : 0 ≤ 0 = omega arith in h);
  confirms = subst (Confirms 0 0) (sym b) (let h : 0 ≤ 0 = omega arith in h);
}

ok_opening : (w : LinkWorld) → IsLinkOpening w → WorldOk w
ok_opening w x = record {
  n = record { a = 0; s = 0; h = 0; r = 0; b = 0; t = 0; q = 0 };
  joint = record {
    out = opening_flow w.near w.far w.near_given w.far_got w.far_given w.near_got w.near_sent w.far_sent x.near x.far x.near_empty x.far_empty;
    into = opening_flow w.far w.near w.far_given w.near_got w.near_given w.far_got w.far_sent w.near_sent x.far x.near x.far_empty x.near_empty;
  };
  tight = refl;
}

-- ---- what it says

first_valid : (g d k e : List (ArrayVec ℕ)) (l p : Link) (forth back : List Frame) (n : Marks) → Joint g d k e l p forth back n → n.s ≡ n.h → IsFirstValid l back
first_valid g d k e l p forth [] n j t = tt
first_valid g d k e l p forth (Information poll ns nr m ∷ fs) n j t =
    let o = j.out.confirms in
    joint_valid g d k e l p forth (Information poll ns nr m ∷ fs) n nr j t (record { c = o.0; is = o.1; above = o.2; following = (o.0, o.1, omega arith, o.3) })
first_valid g d k e l p forth (Numbered kind command poll nr ∷ fs) n j t =
    let o = j.out.confirms in
    joint_valid g d k e l p forth (Numbered kind command poll nr ∷ fs) n nr j t (record { c = o.0; is = o.1; above = o.2; following = (o.0, o.1, omega arith, o.3) })
first_valid g d k e l p forth (Plain kind poll ∷ fs) n j t = absurd j.out.confirms

pub in_order_of : (w : LinkWorld) → WorldOk w → IsInOrder w
in_order_of w o =
    let f = o.joint.out in
    let n = o.n in
    let c = comes_within w.near_given n.r n.h w.near_sent f.comes in
    let b = confirms_within n.a n.r w.far_sent f.confirms in
    let few = f.few in
    let window = f.window in
    let below = f.below in
    let got : length w.far_got ≡ n.r = ap length f.got_is ∙ length-take n.r w.near_given ∙ (let h : min n.r (length w.near_given) ≡ n.r = omega arith in h) in
    let out : outstanding w.near ≡ n.s - n.a = flow_outstanding w.near_given w.far_got w.near.va w.near.vs w.near.queue w.far.vr w.near_sent w.far_sent n.a n.s n.h n.r f in
    record {
      prefix = f.got_is ∙ ap (λ i. take i w.near_given) (sym got);
      kept = (n.a, f.queue_is, omega (arith, got));
      few = omega (arith, out);
      valid = first_valid w.near_given w.near_got w.far_given w.far_got w.near w.far w.near_sent w.far_sent n o.joint o.tight;
    }

pub in_order_holds : InOrder
in_order_holds w es x s =
    let o = ok_after es w (ap is_link_up x.near.state) (ap is_link_up x.far.state) s (ok_opening w x) in
    (in_order_of (link_world_after es w) o, in_order_of (swapped (link_world_after es w)) (ok_swapped (link_world_after es w) o))
