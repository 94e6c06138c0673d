-- A live day is the near end of two.
use Rattle.std.proofs.Common.{◌≡◌, ℕ, Bool, true, false, inl, List, [], ◌∷◌, ◌++◌, refl, sym, ap, ◌∙◌, subst, if◌then◌else◌}
use Rattle.std.proofs.lemmas.List.{append-nil, append_assoc}
use Rattle.arrayvec.specs.ArrayVec.{ArrayVec}
use Rattle.bx_lapd.specs.declared.frame.Frame.{Frame}
use Rattle.bx_lapd.specs.Endpoints.{hear_read}
use Rattle.bx_lapd.specs.Links.{Link, LinkStep}
use Rattle.bx_lapd.specs.Once.{IsPartOf}
use Rattle.bx_lapd.specs.Table.{establish, takes_data, give, elapse, poll, hear}
use Rattle.bx_lapd.specs.World.{LinkWorld, LinkWorldEvent, AtNear, AtFar, EndEvent, Gives, Hears, Loses, Elapses, Polls, Asks, messages_of, near_becomes, comes, frames_lost, swapped, link_world_after, link_world_happens, at_near}
use Rattle.bx_lapd.proofs.Lines.{once_holds}
use Rattle.bx_live.specs.Acts.{Act}
use Rattle.bx_line_world.specs.Wires.{WireAct}
use Rattle.bx_line_world.specs.Lines.{LineEvent, Asked, Given, Elapsed, Enquired, Heard, Passed, Quiet, step_of, time_at}
use Rattle.bx_line_world.specs.Joined.{LinkEnd, end_of, line_at, after_event, delivered, given_in}
use Rattle.bx_line_world.specs.TwoEnds.{Shared, Idle, Ours, Theirs, our_events, all_events, IsIdle, IsSame, IsTheirs, AreShared, IsOnce}
use Rattle.bx_line_world.specs.declared.line_world.LineWorld.{LineWorld}
use Rattle.bx_line_world.proofs.Joining.{part_trans, part_prefix, part_both, given_on}

-- ---- one event

-- an event that is nothing to the link
record IsNothing (u : LinkEnd) (e : LineEvent) : Type 0 where
  link : (after_event u e).link ≡ u.link
  given : given_in (e ∷ []) ≡ []
  told : messages_of (step_of (line_at u) e).told ≡ []

idle_is : (u : LinkEnd) (e : LineEvent) → IsIdle u e → IsNothing u e
idle_is u (Quiet until) idle = record { link = refl; given = refl; told = refl }
idle_is u (Passed until octets) idle = record { link = refl; given = refl; told = refl }
idle_is u (Heard until octets shown) (why, is) =
    let t = time_at (line_at u) shown in
    record { link = ap (λ r. (hear_read r u.link t).link) is; given = refl; told = ap (λ r. messages_of (hear_read r u.link t).told) is }
idle_is u e idle = absurd idle

-- the near end after an event, where its link was this
record IsOne (u : LinkEnd) (w after : LinkWorld) (e : LineEvent) : Type 0 where
  link : (after_event u e).link ≡ after.near
  gave : List (ArrayVec ℕ)
  given : after.near_given ≡ w.near_given ++ gave
  part : IsPartOf gave (given_in (e ∷ []))
  got : after.near_got ≡ w.near_got ++ messages_of (step_of (line_at u) e).told

-- what takes a step of the table alone
by_step : (u : LinkEnd) (w : LinkWorld) (e : LineEvent) (s : LinkStep) → step_of (line_at u) e ≡ s → IsOne u w (near_becomes w s) e
by_step u w e s is = record {
  link = ap (λ (x : LinkStep). x.link) is;
  gave = [];
  given = sym (append-nil w.near_given);
  part = tt;
  got = ap (λ (x : LinkStep). w.near_got ++ messages_of x.told) (sym is);
}

taken_part : (b : Bool) (m message : ArrayVec ℕ) → message ≡ m → IsPartOf (if b then message ∷ [] else []) (m ∷ [])
taken_part true m message is = inl (is, tt)
taken_part false m message is = tt

same_is : (u : LinkEnd) (w : LinkWorld) (e : LineEvent) (x : EndEvent) → u.link ≡ w.near → IsSame u w e x → IsOne u w (at_near w x) e
same_is u w (Asked shown) (Asks now) link is =
    by_step u w (Asked shown) (establish w.near.state w.near now) (ap (λ (l : Link). establish l.state l (time_at (line_at u) shown)) link ∙ ap (λ t. establish w.near.state w.near t) (sym is))
same_is u w (Elapsed shown) (Elapses now) link is =
    by_step u w (Elapsed shown) (elapse w.near now) (ap (λ (l : Link). elapse l (time_at (line_at u) shown)) link ∙ ap (λ t. elapse w.near t) (sym is))
same_is u w (Enquired shown) (Polls now) link is =
    by_step u w (Enquired shown) (poll w.near now) (ap (λ (l : Link). poll l (time_at (line_at u) shown)) link ∙ ap (λ t. poll w.near t) (sym is))
same_is u w (Given m shown) (Gives message now) link (same, is) =
    let step : step_of (line_at u) (Given m shown) ≡ give w.near message now = ap (λ (l : Link). give l m (time_at (line_at u) shown)) link ∙ (ap (λ x. give w.near x (time_at (line_at u) shown)) (sym same) ∙ ap (λ t. give w.near message t) (sym is)) in
    record {
      link = ap (λ (x : LinkStep). x.link) step;
      gave = if takes_data w.near.state w.near then message ∷ [] else [];
      given = refl;
      part = taken_part (takes_data w.near.state w.near) m message same;
      got = ap (λ (x : LinkStep). w.near_got ++ messages_of x.told) (sym step);
    }
same_is u w (Heard until octets shown) (Hears now) link (is, (f, rest, first, read)) =
    let t = time_at (line_at u) shown in
    let step : step_of (line_at u) (Heard until octets shown) ≡ hear w.near f now = ap (λ r. hear_read r u.link t) read ∙ (ap (λ (l : Link). hear l f t) link ∙ ap (λ n. hear w.near f n) (sym is)) in
    subst (λ fs. IsOne u w (comes w fs now) (Heard until octets shown)) (sym first) (record {
      link = ap (λ (x : LinkStep). x.link) step;
      gave = [];
      given = sym (append-nil w.near_given);
      part = tt;
      got = ap (λ (x : LinkStep). w.near_got ++ messages_of x.told) (sym step);
    })
same_is u w e x link is = absurd is

-- what happens elsewhere leaves the near end
record Leaves (w after : LinkWorld) : Type 0 where
  near : after.near ≡ w.near
  given : after.near_given ≡ w.near_given
  got : after.near_got ≡ w.near_got

far_comes : (w : LinkWorld) (fs : List Frame) (now : ℕ) → Leaves w (swapped (comes (swapped w) fs now))
far_comes w [] now = record { near = refl; given = refl; got = refl }
far_comes w (f ∷ fs) now = record { near = refl; given = refl; got = refl }

far_lost : (w : LinkWorld) (fs : List Frame) → Leaves w (swapped (frames_lost (swapped w) fs))
far_lost w [] = record { near = refl; given = refl; got = refl }
far_lost w (f ∷ fs) = record { near = refl; given = refl; got = refl }

near_lost : (w : LinkWorld) (fs : List Frame) → Leaves w (frames_lost w fs)
near_lost w [] = record { near = refl; given = refl; got = refl }
near_lost w (f ∷ fs) = record { near = refl; given = refl; got = refl }

theirs_leaves : (w : LinkWorld) (x : LinkWorldEvent) → IsTheirs x → Leaves w (link_world_happens w x)
theirs_leaves w (AtFar (Hears now)) is = far_comes w w.near_sent now
theirs_leaves w (AtFar Loses) is = far_lost w w.far_sent
theirs_leaves w (AtNear Loses) is = near_lost w w.near_sent
theirs_leaves w (AtNear x) is = absurd is
theirs_leaves w (AtFar x) is = record { near = refl; given = refl; got = refl }

-- ---- all of them

record Agrees (u : LinkEnd) (w : LinkWorld) (events : List Shared) : Type 0 where
  gave : List (ArrayVec ℕ)
  given : (link_world_after (all_events events) w).near_given ≡ w.near_given ++ gave
  part : IsPartOf gave (given_in (our_events events))
  got : (link_world_after (all_events events) w).near_got ≡ w.near_got ++ delivered u (our_events events)

agree : (u : LinkEnd) (w : LinkWorld) (events : List Shared) → u.link ≡ w.near → AreShared u w events → Agrees u w events
agree u w [] link are = record { gave = []; given = sym (append-nil w.near_given); part = tt; got = sym (append-nil w.near_got) }
agree u w (Idle e ∷ more) link (idle, are) =
    let n = idle_is u e idle in
    let a = agree (after_event u e) w more (n.link ∙ link) are in
    record {
      gave = a.gave;
      given = a.given;
      part = subst (λ ms. IsPartOf a.gave ms) (sym (given_on (e ∷ []) (our_events more) ∙ ap (λ ms. ms ++ given_in (our_events more)) n.given)) a.part;
      got = a.got ∙ ap (λ ms. w.near_got ++ (ms ++ delivered (after_event u e) (our_events more))) (sym n.told);
    }
agree u w (Ours e x ∷ more) link (same, are) =
    let one = same_is u w e x link same in
    let a = agree (after_event u e) (at_near w x) more one.link are in
    record {
      gave = one.gave ++ a.gave;
      given = a.given ∙ (ap (λ ms. ms ++ a.gave) one.given ∙ append_assoc w.near_given one.gave a.gave);
      part = subst (λ ms. IsPartOf (one.gave ++ a.gave) ms) (sym (given_on (e ∷ []) (our_events more))) (part_both one.gave (given_in (e ∷ [])) a.gave (given_in (our_events more)) one.part a.part);
      got = a.got ∙ (ap (λ ms. ms ++ delivered (after_event u e) (our_events more)) one.got ∙ append_assoc w.near_got (messages_of (step_of (line_at u) e).told) (delivered (after_event u e) (our_events more)));
    }
agree u w (Theirs x ∷ more) link (is, are) =
    let l = theirs_leaves w x is in
    let a = agree u (link_world_happens w x) more (link ∙ sym l.near) are in
    record {
      gave = a.gave;
      given = a.given ∙ ap (λ ms. ms ++ a.gave) l.given;
      part = a.part;
      got = a.got ∙ ap (λ ms. ms ++ delivered u (our_events more)) l.got;
    }

pub once_over : {W D : Type 0} (did : W → List WireAct → W → Type 0) (old new : LineWorld W D) (acts : List Act) → IsOnce did old new acts
once_over did old new acts day w events unlinked link are shared =
    let u = end_of old.line in
    let z = link_world_after (all_events events) w in
    let a = agree u w events (sym link) shared in
    let once = once_holds w (all_events events) unlinked in
    let waiting = old.line.post.messages.items in
    let given : z.near_given ≡ a.gave = a.given ∙ ap (λ ms. ms ++ a.gave) unlinked.near.none_given in
    let got : z.near_got ≡ delivered u day.events = a.got ∙ (ap (λ ms. ms ++ delivered u (our_events events)) unlinked.near.none_got ∙ ap (λ es. delivered u es) are) in (
      part_trans z.far_got a.gave (given_in day.events) (subst (λ ms. IsPartOf z.far_got ms) given once.0) (subst (λ es. IsPartOf a.gave (given_in es)) are a.part),
      part_trans _ (waiting ++ delivered u day.events) _ day.read (part_prefix waiting (delivered u day.events) z.far_given (subst (λ ms. IsPartOf ms z.far_given) got once.1)),
    )
