-- Where a run begins on the day of a plan, its day is that of a plan wherever it stands, and no booking is refused since the day took over from another.
use Rattle.std.proofs.Common.{◌≡◌, ℕ, ◌<◌, ◌≤◌, Bool, true, false, List, [], ◌∷◌, ◌++◌, length, Some, refl, sym, subst, arith, ◌⊎◌, inl, inr}
use Rattle.std.proofs.lemmas.Bool.{cases_lt}
use Rattle.bx_base.specs.Bookings.{Row, row_at}
use Rattle.bx_base.specs.Channels.{has_channel}
use Rattle.bx_colour.specs.Colouring.{is_in}
use Rattle.bx_day.specs.Changed.{AreReferredByRow}
use Rattle.bx_day.specs.Day.{Day}
use Rattle.bx_events.specs.Events.{LiveEvent}
use Rattle.bx_live.specs.Acts.{logged_by}
use Rattle.bx_live.specs.Runs.{Between}
use Rattle.bx_planfile.specs.OneBooking.{row_on}
use Rattle.bx_sales.specs.Journal.{rows_after, marks_after, HasLastPlan}
use Rattle.bx_sales.specs.Left.{left_in_service}
use Rattle.bx_sales.specs.Sold.{AreSoldInTurn}
use Rattle.bx_sales.specs.declared.selling.NoSale.TheVariants.{TookOver}
use Rattle.bx_sales.proofs.Journal.{plan_along, plan_sold, referred_on}
use Rattle.bx_sales.proofs.LeftOver.{left_here}
use Rattle.bx_market.specs.declared.market.Answer.{Answer}
use Rattle.bx_market.specs.declared.market.Answer.TheVariants.{Refused}
use Rattle.bx_market.specs.Answers.{answer_at, IsToldOf, HasTakenOver, AreTold}
use Rattle.bx_market.specs.declared.market.Request.{Request}
use Rattle.bx_market.specs.declared.market.Request.TheVariants.{Sell}
use Rattle.bx_market.specs.Deals.{Deal, Asked, Answered, acts_of}
use Rattle.bx_market.specs.Stands.{Stand, Within, GoesByDeal, IsMarketRun, stand_day}
use Rattle.bx_market.proofs.Best.{told_of_best}
use Rattle.bx_market.proofs.Through.{run_through}

-- a run of deals one after another
record Split (channels : List Bool) (p r : Stand) (xs ys : List Deal) : Type 0 where
  at : Stand
  before : IsMarketRun channels p xs at
  following : IsMarketRun channels at ys r

run_split : (channels : List Bool) (p r : Stand) (xs ys : List Deal) → IsMarketRun channels p (xs ++ ys) r → Split channels p r xs ys
run_split channels p r [] ys run = record { at = p; before = refl; following = run }
run_split channels p r (x ∷ xs) ys (mid, goes, rest) = let s = run_split channels mid r xs ys rest in record { at = s.at; before = (mid, goes, s.before); following = s.following }

-- a day of a plan stays one by what is sold, which need not be logged yet
bought : (left channels : List Bool) → ((c : ℕ) → has_channel left c ≡ true → has_channel channels c ≡ true) → (events : List LiveEvent) (sold rows : List Row) (marks : List Bool) (d d1 : Day) → HasLastPlan channels rows marks events d → AreSoldInTurn left sold d d1 → AreReferredByRow d1.entries
bought left channels part events [] rows marks d d1 p same = subst (λ (x : Day). AreReferredByRow x.entries) (sym same) (referred_on channels rows marks events d p)
bought left channels part events (row ∷ sold) rows marks d d1 p (next, is, rest) = bought left channels part events sold (rows ++ row ∷ []) (marks ++ true ∷ []) next d1 (plan_sold left channels part events row rows marks d next p is) rest

module _ (channels : List Bool) (d : Day) (batch rows : List Row) (marks : List Bool) (events : List LiveEvent) (p : HasLastPlan channels rows marks events d) where
  abbrev on_left : List Bool
  on_left = left_in_service channels d

  none_has : HasTakenOver on_left d → ⊥
  none_has h = h.other (bought on_left channels (left_here channels d) events h.sold rows marks d h.now p h.went)

  not_of_choice : (chosen : List Bool) (i : ℕ) (b : Bool) (a : Answer) → IsToldOf on_left d batch chosen i b a → a ≡ Refused TookOver → ⊥
  not_of_choice chosen i true a told e = none_has (subst (IsToldOf on_left d batch chosen i true) e told)
  not_of_choice chosen i false a told e = subst (IsToldOf on_left d batch chosen i false) e told

  not_told : (answers : List Answer) (i : ℕ) → i < length answers → AreTold on_left d batch answers → answer_at answers i ≡ Refused TookOver → ⊥
  not_told answers i lt (inl told) e = not_of_choice told.chosen i (is_in told.chosen i) (answer_at answers i) (told.each i (omega (arith, lt, told.one_each))) e
  not_told answers i lt (inr told) e = by_order (cases_lt d.moment (row_at batch i).start) where
    by_order : (d.moment < (row_at batch i).start) ⊎ ((row_at batch i).start ≤ d.moment) → ⊥
    by_order (inl later) = let is = told.memory i (omega (arith, lt, told.one_each)) later in cc
    by_order (inr late) = let is = told.late i (omega (arith, lt, told.one_each)) late in cc

-- the day that was shown where a batch was asked for
at_asked : (channels : List Bool) (shown : Day) (request : Request) (q r : Stand) → GoesByDeal channels q (Asked shown (Some request)) r → shown ≡ stand_day q
at_asked channels shown request (Within (Between e)) r (same, is) = same
at_asked channels shown request q r goes = absurd goes

pub plan_at : (channels : List Bool) (rows : List Row) (marks : List Bool) (earlier : List LiveEvent) (d : Day) (deals : List Deal) (to : Stand) → HasLastPlan channels rows marks earlier d → IsMarketRun channels (Within (Between d)) deals to
    → HasLastPlan channels (rows_after row_on (logged_by (acts_of deals)) rows) (marks_after (logged_by (acts_of deals)) marks) (earlier ++ logged_by (acts_of deals)) (stand_day to)
plan_at channels rows marks earlier d deals to p run = plan_along channels row_on (logged_by (acts_of deals)) earlier rows marks d (stand_day to) p (run_through channels (Within (Between d)) to deals tt run)

pub never_taken_over : (channels : List Bool) (rows : List Row) (marks : List Bool) (events : List LiveEvent) (d : Day) (before following : List Deal) (answers : List Answer) (to : Stand) → HasLastPlan channels rows marks events d → IsMarketRun channels (Within (Between d)) (before ++ Answered answers ∷ following) to → (i : ℕ) → i < length answers → answer_at answers i ≡ Refused TookOver → ⊥
never_taken_over channels rows marks events d before following answers to p run i lt e =
    let told = told_of_best channels [] before following answers (Within (Between d)) to tt run in
    let prefix = run_split channels (Within (Between d)) to before (Answered answers ∷ following) run in
    let asked = run_split channels (Within (Between d)) prefix.at told.before (Asked told.shown (Some (Sell told.batch)) ∷ told.since) (subst (λ (l : List Deal). IsMarketRun channels (Within (Between d)) l prefix.at) told.are prefix.before) in
    let rest = asked.following in
    let shown = at_asked channels told.shown (Sell told.batch) asked.at rest.0 rest.1 in
    let logged = logged_by (acts_of told.before) in
    let there = plan_at channels rows marks events d told.before asked.at p asked.before in
    not_told channels told.shown told.batch.bookings (rows_after row_on logged rows) (marks_after logged marks) (events ++ logged)
    (subst (HasLastPlan channels (rows_after row_on logged rows) (marks_after logged marks) (events ++ logged)) (sym shown) there) answers i lt told.told e
