-- Runs with sales, one after another.
use Rattle.std.proofs.Common.{◌≡◌, Bool, true, List, [], ◌∷◌, ◌++◌, refl, sym, ap, ◌∙◌, subst}
use Rattle.bx_live.specs.Acts.{Act, begins_none}
use Rattle.bx_live.specs.Runs.{Place, IsRun, next}
use Rattle.bx_live.specs.Running.{Runs}
use Rattle.bx_market.specs.Deals.{Deal, Ran, acts_of, all_ran}
use Rattle.bx_market.specs.Offers.{Asks}
use Rattle.bx_market.specs.Stands.{Stand, Within, GoesByDeal, IsMarketRun, Deals}
use Rattle.bx_live.proofs.Steps.{begins_on}

pub run_more : (channels : List Bool) (p q r : Stand) (xs ys : List Deal) → IsMarketRun channels p xs q → IsMarketRun channels q ys r → IsMarketRun channels p (xs ++ ys) r
run_more channels p q r [] ys e more = subst (λ (s : Stand). IsMarketRun channels s ys r) (sym e) more
run_more channels p q r (x ∷ xs) ys (mid, goes, rest) more = (mid, goes, run_more channels mid q r xs ys rest more)

pub within_run : (channels : List Bool) (p q : Place) (acts : List Act) → IsRun p acts q → IsMarketRun channels (Within p) (all_ran acts) (Within q)
within_run channels p q [] e = ap Within e
within_run channels p q (act ∷ acts) (due, goes) = (Within (next p act), (due, refl), within_run channels (next p act) q acts goes)

pub acts_all_ran : (acts : List Act) → acts_of (all_ran acts) ≡ acts
acts_all_ran [] = refl
acts_all_ran (act ∷ acts) = ap (λ (l : List Act). act ∷ l) (acts_all_ran acts)

pub acts_more : (xs ys : List Deal) → acts_of (xs ++ ys) ≡ acts_of xs ++ acts_of ys
acts_more [] ys = refl
acts_more (Ran act ∷ xs) ys = ap (λ (l : List Act). act ∷ l) (acts_more xs ys)
acts_more (x ∷ xs) ys = acts_more xs ys

module _ {W : Type 0} {dealt : W → List Deal → W → Type 0} {channels : List Bool} where
  module _ (more : (u v w : W) (xs ys : List Deal) → dealt u xs v → dealt v ys w → dealt u (xs ++ ys) w) where
    abbrev pub then_dealt : {u v w : W} {p q r : Stand} → Deals dealt channels u v p q → Deals dealt channels v w q r → Deals dealt channels u w p r
    then_dealt {u} {v} {w} {p} {q} {r} a b = record { deals = a.deals ++ b.deals; done = more u v w a.deals b.deals a.done b.done; goes = run_more channels p q r a.deals b.deals a.goes b.goes }

module _ {W : Type 0} {did : W → List Act → W → Type 0} {dealt : W → List Deal → W → Type 0} (channels : List Bool) (by : (v w : W) (acts : List Act) → did v acts w → dealt v (all_ran acts) w) where
  abbrev pub by_run : {u v : W} {p q : Place} → Runs did u v p q → Deals dealt channels u v (Within p) (Within q)
  by_run {u} {v} {p} {q} run = record { deals = all_ran run.acts; done = by u v run.acts run.done; goes = within_run channels p q run.acts run.goes }

  abbrev pub none_ran : ((w : W) → did w [] w) → (w : W) (p : Stand) → Deals dealt channels w w p p
  none_ran none w p = record { deals = []; done = by w w [] (none w); goes = refl }

-- ---- the same where no second begins

module _ {W : Type 0} {dealt : W → List Deal → W → Type 0} {channels : List Bool} where
  abbrev pub one_asked : {u v : W} (p q : Stand) (deal : Deal) → dealt u (deal ∷ []) v → GoesByDeal channels p deal q → begins_none (acts_of (deal ∷ [])) ≡ true → Asks dealt channels u v p q
  one_asked p q deal done goes inside = record { deals = deal ∷ []; done = done; goes = (q, goes, refl); inside = inside }

  abbrev pub as_deals : {u v : W} {p q : Stand} → Asks dealt channels u v p q → Deals dealt channels u v p q
  as_deals asks = record { deals = asks.deals; done = asks.done; goes = asks.goes }

  module _ (more : (u v w : W) (xs ys : List Deal) → dealt u xs v → dealt v ys w → dealt u (xs ++ ys) w) where
    abbrev pub then_asked : {u v w : W} {p q r : Stand} → Asks dealt channels u v p q → Asks dealt channels v w q r → Asks dealt channels u w p r
    then_asked {u} {v} {w} {p} {q} {r} a b = record {
      deals = a.deals ++ b.deals;
      done = more u v w a.deals b.deals a.done b.done;
      goes = run_more channels p q r a.deals b.deals a.goes b.goes;
      inside = ap begins_none (acts_more a.deals b.deals) ∙ begins_on (acts_of a.deals) (acts_of b.deals) a.inside b.inside;
    }

module _ {W : Type 0} {did : W → List Act → W → Type 0} {dealt : W → List Deal → W → Type 0} (channels : List Bool) (by : (v w : W) (acts : List Act) → did v acts w → dealt v (all_ran acts) w) where
  abbrev pub one_inside : {u v : W} (p q : Stand) (act : Act) → did u (act ∷ []) v → GoesByDeal channels p (Ran act) q → begins_none (act ∷ []) ≡ true → Asks dealt channels u v p q
  one_inside {u} {v} p q act done goes inside = record { deals = Ran act ∷ []; done = by u v (act ∷ []) done; goes = (q, goes, refl); inside = inside }

  abbrev pub none_asked : ((w : W) → did w [] w) → (w : W) (p : Stand) → Asks dealt channels w w p p
  none_asked none w p = record { deals = []; done = by w w [] (none w); goes = refl; inside = refl }

-- asks to a stand are asks to another name of it
pub at_stand : {W : Type 0} {dealt : W → List Deal → W → Type 0} {channels : List Bool} {u v : W} {p : Stand} (q r : Stand) → q ≡ r → Asks dealt channels u v p q → Asks dealt channels u v p r
at_stand {W} {dealt} {channels} {u} {v} {p} q r e run = subst (λ (x : Stand). Asks dealt channels u v p x) e run
