-- Acts of a run that is held open, one after another.
use Rattle.std.proofs.Common.{◌≡◌, ◌⊎◌, inl, inr, ℕ, ◌+◌, ◌<◌, List, [], ◌∷◌, ◌++◌, true, true≢false, sym, refl, ◌∙◌, subst, arith, Result, Ok, Err}
use Rattle.bx_day.specs.Day.{Day}
use Rattle.bx_day.specs.Outages.{live_happens, live_day_after}
use Rattle.bx_live.specs.Acts.{Act, Began, Logged, logged_by, begins_none}
use Rattle.bx_live.specs.Held.{AreHeld, has_call, IsHeldOut, IsHeldRun}
use Rattle.bx_live.specs.Runs.{Place, Between, Over, Closing, Done}
use Rattle.bx_live.specs.Running.{Runs, RunsInside, or_over}
use Rattle.bx_live.specs.Seconds.{IsOneSecond, IsSecondRun}
use Rattle.bx_live.specs.declared.running.Second.TheVariants.{Ended}
use Rattle.bx_live.specs.declared.world.CannotLog.{CannotLog}
use Rattle.bx_live.proofs.Steps.{then_ran, as_run}
use Rattle.bx_live.proofs.Days.{run_day, closed_day_is, ended_inside, at_any}

pub held_none : (last : ℕ) (d : Day) (acts : List Act) → begins_none acts ≡ true → AreHeld last d acts
held_none last d [] e = tt
held_none last d (Began second begin ∷ acts) e = absurd (true≢false (sym e))
held_none last d (Logged event true ∷ acts) e = held_none last (live_happens d event).day acts e
held_none last d (x ∷ acts) e = held_none last d acts e

pub held_on : (last : ℕ) (d : Day) (xs ys : List Act) → AreHeld last d xs → AreHeld last (live_day_after (logged_by xs) d) ys → AreHeld last d (xs ++ ys)
held_on last d [] ys h k = k
held_on last d (Began second begin ∷ xs) ys (few, up, h) k = (few, up, held_on last d xs ys h k)
held_on last d (Logged event true ∷ xs) ys h k = held_on last (live_happens d event).day xs ys h k
held_on last d (x ∷ xs) ys h k = held_on last d xs ys h k

-- one second that was wanted
pub held_second : (last : ℕ) (d : Day) (acts : List Act) → IsOneSecond d.moment acts → d.moment < 300000 → (d.moment < last) ⊎ (has_call d ≡ true) → AreHeld last d acts
held_second last d acts second early wanted =
    subst (AreHeld last d) (sym second.are) (omega (arith, early), after_last wanted, held_none last d second.following second.one) where
      after_last : (d.moment < last) ⊎ (has_call d ≡ true) → last < d.moment + 1 → has_call d ≡ true
      after_last (inl before) following = absurd (omega (arith, before, following))
      after_last (inr up) following = up

module _ {W : Type 0} {did : W → List Act → W → Type 0} (more : (u v w : W) (xs ys : List Act) → did u xs v → did v ys w → did u (xs ++ ys) w) where
  abbrev pub HeldTo : ℕ → W → W → Day → Place → Type 0
  HeldTo last u v d p = (ran : Runs did u v (Between d) p) × AreHeld last d ran.acts

  abbrev pub then_held : {u v w : W} (last : ℕ) (d d1 : Day) (q : Place) → HeldTo last u v d (Between d1) → (b : Runs did v w (Between d1) q) → AreHeld last d1 b.acts → HeldTo last u w d q
  then_held last d d1 q (ran, held) b next =
      (then_ran more ran b, held_on last d ran.acts b.acts held (subst (λ (x : Day). AreHeld last x b.acts) (run_day (Between d) (Between d1) ran.acts ran.goes) next))

  -- the day was closed
  pub closes_held : {u v w : W} (last : ℕ) (d d1 : Day) (r : Result (Unit {0}) CannotLog) → HeldTo last u v d (Between d1) → RunsInside did v w (Between d1) (or_over (Done d1) d1 r) → IsHeldOut last d1
      → (ran : Runs did u w (Between d) (or_over (Done d1) d1 r)) × IsHeldRun last d d1 ran.acts r
  closes_held last d d1 r so_far close out =
      let h = then_held last d d1 (or_over (Done d1) d1 r) so_far (as_run close) (held_none last d1 close.acts close.inside) in
      (h.0, record { after = closed_day_is (Between d) d1 r h.0.acts h.0.goes; held = h.1; out = at_any r (λ none. out) })

  -- no second begins any more, and the day was closed
  pub ends_held : {u v w x : W} (last : ℕ) (d d1 d2 : Day) (r : Result (Unit {0}) CannotLog) → HeldTo last u v d (Between d1) → (second : IsSecondRun did v w d1 d2 (Ok Ended)) → AreHeld last d1 second.run.acts
      → RunsInside did w x (Closing d2) (or_over (Done d2) d2 r) → (ran : Runs did u x (Between d) (or_over (Done d2) d2 r)) × IsHeldRun last d d2 ran.acts r
  ends_held last d d1 d2 r so_far second held close =
      let last_acts = then_ran more second.run (as_run close) in
      let h = then_held last d d1 (or_over (Done d2) d2 r) so_far last_acts (held_on last d1 second.run.acts close.acts held (held_none last (live_day_after (logged_by second.run.acts) d1) close.acts close.inside)) in
      let inside = ended_inside so_far.0.acts second.run.acts close.acts (second.said refl) in
      (h.0, record { after = closed_day_is (Between d) d2 r h.0.acts h.0.goes; held = h.1; out = at_any r (λ none. absurd (true≢false (sym inside ∙ none))) })

  -- a second could not be logged
  pub breaks_held : {u v w : W} (last : ℕ) (d d1 d2 : Day) (fault : CannotLog) → HeldTo last u v d (Between d1) → (run : Runs did v w (Between d1) (Over d2)) → AreHeld last d1 run.acts
      → (ran : Runs did u w (Between d) (Over d2)) × IsHeldRun last d d2 ran.acts (Err fault)
  breaks_held last d d1 d2 fault so_far run held =
      let h = then_held last d d1 (Over d2) so_far run held in
      (h.0, record { after = run_day (Between d) (Over d2) h.0.acts h.0.goes; held = h.1; out = tt })
