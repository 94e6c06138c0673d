-- A second, and how a run that is held open ends.
use Rattle.std.proofs.Common.{◌≡◌, ◌⊎◌, inl, inr, ℕ, ◌+◌, ◌<◌, Bool, true, false, true≢false, List, [], ◌∷◌, ◌++◌, Result, Ok, Err, refl, sym, ap, ◌∙◌, subst, arith}
use Rattle.std.proofs.lemmas.List.{append-nil}
use Rattle.bx_day.specs.Day.{Day}
use Rattle.bx_live.specs.declared.world.CannotLog.{CannotLog}
use Rattle.bx_live.specs.declared.running.Second.TheVariants.{Ended}
use Rattle.bx_live.specs.Acts.{Act, Began, ended, begins_none}
use Rattle.bx_live.specs.Held.{has_call, IsHeldOut}
use Rattle.bx_live.specs.Runs.{Place, Between, Over, Closing, Done, IsRun, next}
use Rattle.bx_live.specs.Running.{Runs, RunsInside, or_over}
use Rattle.bx_live.specs.Seconds.{IsOneSecond, IsSecondRun}
use Rattle.bx_live.proofs.Days.{ended_inside}
use Rattle.bx_live.proofs.Steps.{as_run}
use Rattle.bx_market.specs.Deals.{Deal, Ran, acts_of, all_ran}
use Rattle.bx_market.specs.Stands.{Stand, Within, IsMarketRun, IsHeldMarketRun, Deals}
use Rattle.bx_market.specs.Offers.{Asks}
use Rattle.bx_market.specs.SaleRuns.{IsSaleRun}
use Rattle.bx_market.proofs.Steps.{acts_more, acts_all_ran, as_deals, by_run, then_dealt}
use Rattle.bx_market.proofs.Through.{run_through}

module _ (channels : List Bool) (last : ℕ) where
  abbrev Held : Stand → List Deal → Stand → Type 0
  Held = IsHeldMarketRun channels last

  pub held_more : (p q r : Stand) (xs ys : List Deal) → Held p xs q → Held q ys r → Held p (xs ++ ys) r
  held_more p q r [] ys e more = subst (λ (s : Stand). Held s ys r) (sym e) more
  held_more p q r (x ∷ xs) ys (mid, goes, at, rest) more = (mid, goes, at, held_more mid q r xs ys rest more)

  -- where no second begins
  pub asks_held : (p q : Stand) (deals : List Deal) → IsMarketRun channels p deals q → begins_none (acts_of deals) ≡ true → Held p deals q
  asks_held p q [] e none = e
  asks_held p q (Ran (Began second begin) ∷ deals) (mid, goes, rest) none = absurd (true≢false (sym none))
  asks_held p q (x ∷ deals) (mid, goes, rest) none = (mid, goes, tt, asks_held mid q deals rest none)

  pub inside_held : (p q : Place) (acts : List Act) → IsRun p acts q → begins_none acts ≡ true → Held (Within p) (all_ran acts) (Within q)
  inside_held p q [] e none = ap Within e
  inside_held p q (Began second begin ∷ acts) (due, goes) none = absurd (true≢false (sym none))
  inside_held p q (x ∷ acts) (due, goes) none = (Within (next p x), (due, refl), tt, inside_held (next p x) q acts goes none)

  -- one second that was wanted
  pub second_held : (d : Day) (q : Place) (acts : List Act) → IsRun (Between d) acts q → IsOneSecond d.moment acts → d.moment < 300000 → (d.moment < last) ⊎ (has_call d ≡ true) → Held (Within (Between d)) (all_ran acts) (Within q)
  second_held d q acts run second early wanted =
      subst (λ (xs : List Act). Held (Within (Between d)) (all_ran xs) (Within q)) (sym second.are) (begun (subst (λ (xs : List Act). IsRun (Between d) xs q) second.are run)) where
        after_last : (d.moment < last) ⊎ (has_call d ≡ true) → last < d.moment + 1 → has_call d ≡ true
        after_last (inl before) following = absurd (omega (arith, before, following))
        after_last (inr up) following = up

        begun : IsRun (Between d) (Began (d.moment + 1) second.begin ∷ second.following) q → Held (Within (Between d)) (Ran (Began (d.moment + 1) second.begin) ∷ all_ran second.following) (Within q)
        begun (due, goes) = (Within (next (Between d) (Began (d.moment + 1) second.begin)), (due, refl), (omega (arith, early), after_last wanted), inside_held (next (Between d) (Began (d.moment + 1) second.begin)) q second.following goes second.one)

-- what was said among these deals was said
ended_deals : (xs ys zs : List Deal) → ended (acts_of ys) ≡ true → ended (acts_of (xs ++ (ys ++ zs))) ≡ true
ended_deals xs ys zs e =
    ap ended (acts_more xs (ys ++ zs) ∙ ap (λ (l : List Act). acts_of xs ++ l) (acts_more ys zs)) ∙ ended_inside (acts_of xs) (acts_of ys) (acts_of zs) e

ended_after : (xs ys : List Act) → ended ys ≡ true → ended (xs ++ ys) ≡ true
ended_after xs ys e = subst (λ (l : List Act). ended (xs ++ l) ≡ true) (append-nil ys) (ended_inside xs ys [] e)

module _ {W : Type 0} {did : W → List Act → W → Type 0} {dealt : W → List Deal → W → Type 0} (channels : List Bool) (by : (v w : W) (acts : List Act) → did v acts w → dealt v (all_ran acts) w)
    (more : (u v w : W) (xs ys : List Deal) → dealt u xs v → dealt v ys w → dealt u (xs ++ ys) w) (last : ℕ) where
  abbrev pub HeldTo : W → W → Stand → Stand → Type 0
  HeldTo u v p q = (run : Deals dealt channels u v p q) × IsHeldMarketRun channels last p run.deals q

  abbrev pub then_held : {u v w : W} {p q r : Stand} → HeldTo u v p q → HeldTo v w q r → HeldTo u w p r
  then_held {u} {v} {w} {p} {q} {r} (a, held) (b, on) = (then_dealt more a b, held_more channels last p q r a.deals b.deals held on)

  abbrev pub none_held : ((w : W) → did w [] w) → (w : W) (p : Stand) → HeldTo w w p p
  none_held none w p = (record { deals = []; done = by w w [] (none w); goes = refl }, refl)

  abbrev pub asked_held : {u v : W} {p q : Stand} → Asks dealt channels u v p q → HeldTo u v p q
  asked_held {u} {v} {p} {q} asks = (as_deals asks, asks_held channels last p q asks.deals asks.goes asks.inside)

  abbrev pub one_second : {v w : W} (d : Day) (q : Place) (run : Runs did v w (Between d) q) → IsOneSecond d.moment run.acts → d.moment < 300000 → (d.moment < last) ⊎ (has_call d ≡ true) → HeldTo v w (Within (Between d)) (Within q)
  one_second d q run second early wanted = (by_run channels by run, second_held channels last d q run.acts run.goes second early wanted)

  abbrev close_held : {v w : W} (p q : Place) → (close : RunsInside did v w p q) → HeldTo v w (Within p) (Within q)
  close_held p q close = (by_run channels by (as_run close), inside_held channels last p q close.acts close.goes close.inside)

  -- a run that is closed, or could not be
  pub closes : {u v w : W} (d d1 : Day) (p : Place) (r : Result (Unit {0}) CannotLog) (so_far : HeldTo u v (Within (Between d)) (Within p)) (close : RunsInside did v w p (or_over (Done d1) d1 r))
      → ((ended (acts_of so_far.0.deals) ≡ true) ⊎ IsHeldOut last d1) → IsSaleRun dealt channels u w d d1 last r
  closes d d1 p (Ok done) so_far close out =
      let h = then_held so_far (close_held p (Done d1) close) in
      record {
        run = h.0;
        through = run_through channels (Within (Between d)) (Within (Done d1)) h.0.deals tt h.0.goes;
        held = h.1;
        out = λ none. elim_out out none;
      } where
        elim_out : ((ended (acts_of so_far.0.deals) ≡ true) ⊎ IsHeldOut last d1) → ended (acts_of (so_far.0.deals ++ all_ran close.acts)) ≡ false → IsHeldOut last d1
        elim_out (inl said) none = absurd (true≢false (sym (ended_deals [] so_far.0.deals (all_ran close.acts) said) ∙ none))
        elim_out (inr is) none = is
  closes d d1 p (Err fault) so_far close out =
      let h = then_held so_far (close_held p (Over d1) close) in
      record { over = d1; run = h.0; through = run_through channels (Within (Between d)) (Within (Over d1)) h.0.deals tt h.0.goes; held = h.1 }

  -- no second begins any more
  pub ends : {u v w x : W} (d d1 d2 : Day) (r : Result (Unit {0}) CannotLog) → HeldTo u v (Within (Between d)) (Within (Between d1)) → (second : IsSecondRun did v w d1 d2 (Ok Ended)) → d1.moment < 300000 → (d1.moment < last) ⊎ (has_call d1 ≡ true)
      → RunsInside did w x (Closing d2) (or_over (Done d2) d2 r) → IsSaleRun dealt channels u x d d2 last r
  ends d d1 d2 r so_far second early wanted close =
      let after = one_second d1 (Closing d2) second.run second.one early wanted in
      closes d d2 (Closing d2) r (then_held so_far after) close (inl (said so_far.0.deals (ap ended (acts_all_ran second.run.acts) ∙ second.said refl))) where
        said : (xs : List Deal) → ended (acts_of (all_ran second.run.acts)) ≡ true → ended (acts_of (xs ++ all_ran second.run.acts)) ≡ true
        said xs e = ap ended (acts_more xs (all_ran second.run.acts)) ∙ ended_after (acts_of xs) (acts_of (all_ran second.run.acts)) e

  -- a run that broke off
  pub breaks : {u w : W} (d d2 over : Day) (r : Result (Unit {0}) CannotLog) (fault : CannotLog) → r ≡ Err fault → HeldTo u w (Within (Between d)) (Within (Over over)) → IsSaleRun dealt channels u w d d2 last r
  breaks {u} {w} d d2 over r fault e h =
      subst (λ (x : Result (Unit {0}) CannotLog). IsSaleRun dealt channels u w d d2 last x) (sym e)
      (record { over = over; run = h.0; through = run_through channels (Within (Between d)) (Within (Over over)) h.0.deals tt h.0.goes; held = h.1 })
