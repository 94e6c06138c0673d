-- Why a run with sales is over before its end.
use Rattle.std.proofs.Common.{◌≡◌, ℕ, Bool, true, false, List, [], ◌∷◌, Option, Some, None, Result, Ok, Err, refl, sym, subst, ap, is_some, ◌∙◌}
use Rattle.bx_day.specs.Day.{Day}
use Rattle.bx_day.specs.declared.outcome.GivenUp.{GivenUp}
use Rattle.bx_events.specs.Events.{Amended, OnLink, WithoutLink, HeardByRulesTwo}
use Rattle.bx_events.specs.declared.amendment.Amendment.TheVariants.{Sold, Cancelled, Changed, SoldByRulesTwo, Delayed, Dropped as DroppedOne, Out}
use Rattle.bx_line_world.proofs.Apart.{starts_apart, lost_before}
use Rattle.bx_line_world.proofs.Never.{never_ends}
use Rattle.bx_line_world.specs.Days.{GoesByLine}
use Rattle.bx_line_world.specs.Posts.{post_from}
use Rattle.bx_line_world.specs.Wires.{WireAct}
use Rattle.bx_line_world.specs.declared.line_world.LineWorld.{LineWorld}
use Rattle.bx_live.specs.Acts.{Act, Began, Dropped, Logged, Synced, Wrote, Read, Took, EndedDay}
use Rattle.bx_live.specs.Runs.{Place, Between, Over, next}
use Rattle.bx_live.specs.declared.world.CannotLog.{CannotLog}
use Rattle.bx_live.proofs.Projections.{chain_map}
use Rattle.bx_live.specs.Chains.{Chain, chain_first}
use Rattle.bx_live.specs.Logs.{OnLog}
use Rattle.bx_live.specs.declared.log.Log.{Log}
use Rattle.bx_live.specs.declared.schedule.Schedule.{Schedule}
use Rattle.bx_market.specs.declared.market.Answer.{Answer}
use Rattle.bx_market.specs.declared.market.Request.{Request}
use Rattle.bx_market.specs.declared.market.Request.TheVariants.{Sell, Cancel, Change}
use Rattle.bx_market.specs.Deals.{Deal, Ran, Asked, Answered, ToldOfChange, Lost, Moved, acts_of}
use Rattle.bx_sales.specs.declared.changing.NoChange.{NoChange}
use Rattle.bx_market.specs.SaleRuns.{IsSaleRun, IsWholeSaleRun, IsBrokenRun}
use Rattle.bx_market.specs.Stands.{Stand, Within, Filing, Telling, Changing, Noted, Kept, Leaving, Left, GoesByDeal, IsMarketRun}
use Rattle.bx_office_door.specs.declared.wire.OfficeWire.{OfficeWire}
use Rattle.bx_world.proofs.Kept.{Stops, stops}
use Rattle.bx_journal_files.proofs.Going.{IsOver, GoesOn, goes_on}
use Rattle.bx_live_commands.proofs.Stopped.{Stopped, refused, unsynced}
use Rattle.bx_journal_files.proofs.Unkept.{none_on}
use Rattle.bx_office_door.specs.Lending.{Lending}
use Rattle.bx_office_world.specs.GivingUp.{NotesGivenUp}
use Rattle.bx_live_commands.specs.LiveRuns.{deals_by_line}
use Rattle.bx_live_commands.specs.OfficeRuns.{did_at_door, deals_at_door, IsToldAtDoor, SellsByLine, StopsSelling}
use Rattle.bx_live_commands.specs.declared.by_office.Premises.{Premises}

-- nothing more is done there
abbrev IsOverAt : Stand → Type 0
IsOverAt (Within p) = IsOver p
IsOverAt (Filing shown d tag batch sold) = ⊥
IsOverAt (Telling shown d tag batch sold) = ⊥
IsOverAt (Changing shown request) = ⊥
IsOverAt (Noted shown d request) = ⊥
IsOverAt (Kept shown d request) = ⊥
IsOverAt (Leaving shown d) = ⊥
IsOverAt (Left shown d) = ⊥

abbrev Fails : Act → Stand → Type 0
Fails (Logged event false) to = (d : Day) × (to ≡ Within (Over d))
Fails (Synced false) to = (d : Day) × (to ≡ Within (Over d))
Fails act to = Unit {0}

abbrev GoesOnAt : Act → Stand → Type 0
GoesOnAt (Logged event false) to = Unit {0}
GoesOnAt (Synced false) to = Unit {0}
GoesOnAt act to = IsOverAt to → ⊥

-- in the run by the clock
fails_within : (p : Place) (act : Act) (to : Stand) → Stops p act → to ≡ Within (next p act) → Fails act to
fails_within p (Logged event false) to (d, over) same = (d, same ∙ ap Within over)
fails_within p (Synced false) to (d, over) same = (d, same ∙ ap Within over)
fails_within p act to stops same = tt

on_within : (p : Place) (act : Act) (to : Stand) → GoesOn p act → to ≡ Within (next p act) → GoesOnAt act to
on_within p (Logged event false) to on same = tt
on_within p (Synced false) to on same = tt
on_within p act to on same = λ over. on (subst IsOverAt same over)

module _ (channels : List Bool) where
  -- where a run is over no deal is due
  over_none : (d : Day) (deals : List Deal) (to : Stand) → IsMarketRun channels (Within (Over d)) deals to → acts_of deals ≡ []
  over_none d [] to same = refl
  over_none d (Asked shown batch ∷ deals) to (mid, goes, rest) = absurd goes
  over_none d (Answered answers ∷ deals) to (mid, goes, rest) = absurd goes
  over_none d (ToldOfChange answer ∷ deals) to (mid, goes, rest) = absurd goes
  over_none d (Lost shown ∷ deals) to (mid, goes, rest) = absurd goes
  over_none d (Moved now whole ∷ deals) to (mid, goes, rest) = absurd goes
  over_none d (act ∷ deals) to (mid, (due, same), rest) = absurd due

  -- what cannot be logged, or on the disk, is the last act
  fails_at : (p : Stand) (act : Act) (to : Stand) → GoesByDeal channels p (Ran act) to → Fails act to
  fails_at (Within p) act to (due, same) = fails_within p act to (stops p act due) same
  fails_at (Filing shown d tag batch sold) (Logged (Amended Sold line) false) to goes = (d, goes)
  fails_at (Filing shown d tag batch sold) (Logged (Amended Cancelled line) done) to goes = absurd goes
  fails_at (Filing shown d tag batch sold) (Logged (Amended Changed line) done) to goes = absurd goes
  fails_at (Filing shown d tag batch sold) (Logged (Amended SoldByRulesTwo line) done) to goes = absurd goes
  fails_at (Filing shown d tag batch sold) (Logged (Amended Delayed line) done) to goes = absurd goes
  fails_at (Filing shown d tag batch sold) (Logged (Amended DroppedOne line) done) to goes = absurd goes
  fails_at (Filing shown d tag batch sold) (Logged (Amended Out line) done) to goes = absurd goes
  fails_at (Filing shown d tag batch sold) (Logged (OnLink event) done) to goes = absurd goes
  fails_at (Filing shown d tag batch sold) (Logged (WithoutLink rules) done) to goes = absurd goes
  fails_at (Filing shown d tag batch sold) (Logged (HeardByRulesTwo octets) done) to goes = absurd goes
  fails_at (Filing shown d tag batch sold) (Synced false) to goes = (d, goes)
  fails_at (Telling shown d tag batch sold) (Logged event false) to goes = absurd goes
  fails_at (Telling shown d tag batch sold) (Synced false) to goes = absurd goes
  fails_at (Changing shown request) (Logged (Amended kind line) false) to goes = (shown, goes)
  fails_at (Changing shown request) (Logged (OnLink event) done) to goes = absurd goes
  fails_at (Changing shown request) (Logged (WithoutLink rules) done) to goes = absurd goes
  fails_at (Changing shown request) (Logged (HeardByRulesTwo octets) done) to goes = absurd goes
  fails_at (Changing shown request) (Synced false) to goes = absurd goes
  fails_at (Noted shown d request) (Synced false) to goes = (d, goes)
  fails_at (Noted shown d request) (Logged event false) to goes = absurd goes
  fails_at (Kept shown d request) (Logged event false) to goes = absurd goes
  fails_at (Kept shown d request) (Synced false) to goes = absurd goes
  fails_at (Leaving shown d) (Logged (Amended kind line) false) to goes = (d, goes)
  fails_at (Leaving shown d) (Logged (OnLink event) done) to goes = absurd goes
  fails_at (Leaving shown d) (Logged (WithoutLink rules) done) to goes = absurd goes
  fails_at (Leaving shown d) (Logged (HeardByRulesTwo octets) done) to goes = absurd goes
  fails_at (Leaving shown d) (Synced false) to goes = (d, goes)
  fails_at (Left shown d) (Logged event false) to goes = absurd goes
  fails_at (Left shown d) (Synced false) to goes = absurd goes
  fails_at p act to goes = tt

  -- after any other the run goes on
  goes_on_at : (p : Stand) (act : Act) (to : Stand) → GoesByDeal channels p (Ran act) to → GoesOnAt act to
  goes_on_at (Within p) act to (due, same) = on_within p act to (goes_on p act due) same
  goes_on_at (Filing shown d tag batch sold) (Logged (Amended Sold line) true) to (d1, is, under, same) = λ over. subst IsOverAt same over
  goes_on_at (Filing shown d tag batch sold) (Logged (Amended Sold line) false) to goes = tt
  goes_on_at (Filing shown d tag batch sold) (Synced true) to goes = λ over. subst IsOverAt goes over
  goes_on_at (Filing shown d tag batch sold) (Synced false) to goes = tt
  goes_on_at (Changing shown request) (Logged (Amended kind line) true) to (d, is, tells, same) = λ over. subst IsOverAt same over
  goes_on_at (Changing shown request) (Logged (Amended kind line) false) to goes = tt
  goes_on_at (Noted shown d request) (Synced true) to goes = λ over. subst IsOverAt goes over
  goes_on_at (Noted shown d request) (Synced false) to goes = tt
  goes_on_at (Leaving shown d) (Logged (Amended kind line) true) to (d1, is, step, same) = λ over. subst IsOverAt same over
  goes_on_at (Leaving shown d) (Logged (Amended kind line) false) to goes = tt
  goes_on_at (Leaving shown d) (Synced true) to goes = λ over. subst IsOverAt goes over
  goes_on_at (Leaving shown d) (Synced false) to goes = tt
  goes_on_at p act to goes = absurd goes

  asked_on : (p : Stand) (shown : Day) (request : Option Request) (to : Stand) → GoesByDeal channels p (Asked shown request) to → IsOverAt to → ⊥
  asked_on (Within (Between d)) shown None to (is, same) over = subst IsOverAt same over
  asked_on (Within (Between d)) shown (Some (Sell batch)) to (is, same) over = subst IsOverAt same over
  asked_on (Within (Between d)) shown (Some (Cancel row)) to (is, same) over = subst IsOverAt same over
  asked_on (Within (Between d)) shown (Some (Change row booking)) to (is, same) over = subst IsOverAt same over
  asked_on p shown batch to goes over = goes

  answered_on : (p : Stand) (answers : List Answer) (to : Stand) → GoesByDeal channels p (Answered answers) to → IsOverAt to → ⊥
  answered_on (Within p) answers to goes over = goes
  answered_on (Filing shown d tag batch sold) answers to (none, nothing, told, same) over = subst IsOverAt same over
  answered_on (Telling shown d tag batch sold) answers to (are, told, same) over = subst IsOverAt same over
  answered_on p answers to goes over = goes

  change_told_on : (p : Stand) (answer : Result (Unit {0}) NoChange) (to : Stand) → GoesByDeal channels p (ToldOfChange answer) to → IsOverAt to → ⊥
  change_told_on (Changing shown request) (Err why) to (not, same) over = subst IsOverAt same over
  change_told_on (Kept shown d request) (Ok done) to same over = subst IsOverAt same over
  change_told_on p answer to goes over = goes

  lost_on : (p : Stand) (shown : Day) (to : Stand) → GoesByDeal channels p (Lost shown) to → IsOverAt to → ⊥
  lost_on (Within (Between d)) shown to (is, same) over = subst IsOverAt same over
  lost_on p shown to goes over = goes

  moved_on : (p : Stand) (now : Day) (whole : Bool) (to : Stand) → GoesByDeal channels p (Moved now whole) to → IsOverAt to → ⊥
  moved_on (Left shown d) now whole to (is, left, same) over = subst IsOverAt same over
  moved_on p now whole to goes over = goes

  module _ {D : Type 0} (holds may_leave : D → List ℕ → Type 0) (moment : D → ℕ) (left_since : D → ℕ → List ℕ → Type 0) (has_failed : D → Bool) where
    abbrev OnItsLog : Option D → Act → Option D → Type 0
    OnItsLog = OnLog holds may_leave moment left_since has_failed

    abbrev StoppedBy : List Act → Option D → Type 0
    StoppedBy = Stopped holds may_leave moment left_since has_failed

    pub stopped_sale : (p : Stand) (d : Day) (deals : List Deal) (o after : Option D) → (IsOverAt p → ⊥) → IsMarketRun channels p deals (Within (Over d)) → Chain OnItsLog o (acts_of deals) after → StoppedBy (acts_of deals) after
    stopped_sale p d [] o after going same chain = absurd (going (subst IsOverAt (sym same) tt))
    stopped_sale p d (Asked shown batch ∷ deals) o after going (mid, goes, rest) chain = stopped_sale mid d deals o after (asked_on p shown batch mid goes) rest chain
    stopped_sale p d (Answered answers ∷ deals) o after going (mid, goes, rest) chain = stopped_sale mid d deals o after (answered_on p answers mid goes) rest chain
    stopped_sale p d (ToldOfChange answer ∷ deals) o after going (mid, goes, rest) chain = stopped_sale mid d deals o after (change_told_on p answer mid goes) rest chain
    stopped_sale p d (Lost shown ∷ deals) o after going (mid, goes, rest) chain = stopped_sale mid d deals o after (lost_on p shown mid goes) rest chain
    stopped_sale p d (Moved now whole ∷ deals) o after going (mid, goes, rest) chain = stopped_sale mid d deals o after (moved_on p now whole mid goes) rest chain
    stopped_sale p d (Ran (Logged event false) ∷ deals) o after going (mid, goes, rest) chain =
        let f = fails_at p (Logged event false) mid goes in
        let none = over_none f.0 deals (Within (Over d)) (subst (λ (s : Stand). IsMarketRun channels s deals (Within (Over d))) f.1 rest) in
        subst (λ (xs : List Act). StoppedBy (Logged event false ∷ xs) after) (sym none) (refused holds may_leave moment left_since has_failed event o after (subst (λ (xs : List Act). Chain OnItsLog o (Logged event false ∷ xs) after) none chain))
    stopped_sale p d (Ran (Synced false) ∷ deals) o after going (mid, goes, rest) chain =
        let f = fails_at p (Synced false) mid goes in
        let none = over_none f.0 deals (Within (Over d)) (subst (λ (s : Stand). IsMarketRun channels s deals (Within (Over d))) f.1 rest) in
        subst (λ (xs : List Act). StoppedBy (Synced false ∷ xs) after) (sym none) (unsynced holds may_leave moment left_since has_failed o after (subst (λ (xs : List Act). Chain OnItsLog o (Synced false ∷ xs) after) none chain))
    stopped_sale p d (Ran (Logged event true) ∷ deals) o after going (mid, goes, rest) chain = let c = chain_first OnItsLog o after (Logged event true) (acts_of deals) chain in stopped_sale mid d deals c.0 after (goes_on_at p (Logged event true) mid goes) rest c.2
    stopped_sale p d (Ran (Synced true) ∷ deals) o after going (mid, goes, rest) chain = let c = chain_first OnItsLog o after (Synced true) (acts_of deals) chain in stopped_sale mid d deals c.0 after (goes_on_at p (Synced true) mid goes) rest c.2
    stopped_sale p d (Ran (Began second begin) ∷ deals) o after going (mid, goes, rest) chain = let c = chain_first OnItsLog o after (Began second begin) (acts_of deals) chain in stopped_sale mid d deals c.0 after (goes_on_at p (Began second begin) mid goes) rest c.2
    stopped_sale p d (Ran (Dropped loss) ∷ deals) o after going (mid, goes, rest) chain = let c = chain_first OnItsLog o after (Dropped loss) (acts_of deals) chain in stopped_sale mid d deals c.0 after (goes_on_at p (Dropped loss) mid goes) rest c.2
    stopped_sale p d (Ran (Wrote octets done) ∷ deals) o after going (mid, goes, rest) chain = let c = chain_first OnItsLog o after (Wrote octets done) (acts_of deals) chain in stopped_sale mid d deals c.0 after (goes_on_at p (Wrote octets done) mid goes) rest c.2
    stopped_sale p d (Ran (Read room answer) ∷ deals) o after going (mid, goes, rest) chain = let c = chain_first OnItsLog o after (Read room answer) (acts_of deals) chain in stopped_sale mid d deals c.0 after (goes_on_at p (Read room answer) mid goes) rest c.2
    stopped_sale p d (Ran (Took message) ∷ deals) o after going (mid, goes, rest) chain = let c = chain_first OnItsLog o after (Took message) (acts_of deals) chain in stopped_sale mid d deals c.0 after (goes_on_at p (Took message) mid goes) rest c.2
    stopped_sale p d (Ran EndedDay ∷ deals) o after going (mid, goes, rest) chain = let c = chain_first OnItsLog o after EndedDay (acts_of deals) chain in stopped_sale mid d deals c.0 after (goes_on_at p EndedDay mid goes) rest c.2

-- ---- how a run with sales has ended

pub sale_ok : {W : Type 0} {dealt : W → List Deal → W → Type 0} {channels : List Bool} {old new : W} {d d1 : Day} {last : ℕ} {r : Result (Unit {0}) CannotLog} → r ≡ Ok tt → IsSaleRun dealt channels old new d d1 last r → IsWholeSaleRun dealt channels old new d d1 last
sale_ok {dealt = dealt} {channels = channels} {old = old} {new = new} {d = d} {d1 = d1} {last = last} is run = subst (λ (r : Result (Unit {0}) CannotLog). IsSaleRun dealt channels old new d d1 last r) is run

pub sale_err : {W : Type 0} {dealt : W → List Deal → W → Type 0} {channels : List Bool} {old new : W} {d : Day} {last : ℕ} {r : Result (Unit {0}) CannotLog} {fault : CannotLog} (d1 : Day) → r ≡ Err fault → IsSaleRun dealt channels old new d d1 last r → IsBrokenRun dealt channels old new d last
sale_err {dealt = dealt} {channels = channels} {old = old} {new = new} {d = d} {last = last} d1 is run = subst (λ (r : Result (Unit {0}) CannotLog). IsSaleRun dealt channels old new d d1 last r) is run

-- ---- over a data link

module _ {W D : Type 0} (did : W → List WireAct → W → Type 0) (holds may_leave : D → List ℕ → Type 0) (moment : D → ℕ) (left_since : D → ℕ → List ℕ → Type 0) (has_failed : D → Bool) (channels : List Bool) (old new : LineWorld W D) (from : Day) (last : ℕ) where
  abbrev Breaks : Type 0
  Breaks = IsBrokenRun (deals_by_line did holds may_leave moment left_since has_failed) channels old new from last

  on_disk : (acts : List Act) → Chain (GoesByLine did holds may_leave moment left_since has_failed) old acts new → Chain (OnLog holds may_leave moment left_since has_failed) old.log.disk acts new.log.disk
  on_disk acts chain = chain_map (GoesByLine did holds may_leave moment left_since has_failed) (OnLog holds may_leave moment left_since has_failed) (λ w. w.log.disk) (λ s t act p. p.logged) old new acts chain

  -- why a run is over before its end
  pub why_broken : (run : Breaks) → Stopped holds may_leave moment left_since has_failed (acts_of run.run.deals) new.log.disk
  why_broken run = stopped_sale channels holds may_leave moment left_since has_failed (Within (Between from)) run.over run.run.deals old.log.disk new.log.disk (λ none. none) run.run.goes (on_disk (acts_of run.run.deals) run.run.done)

  -- it has a journal
  pub broken_kept : (kept : Log D) (o : Option D) → old.log ≡ kept → kept.disk ≡ o → Breaks → is_some o ≡ true
  broken_kept kept (Some disk) by is run = refl
  broken_kept kept None by is run =
      let start : old.log.disk ≡ None = ap (λ (r : Log D). r.disk) by ∙ is in
      let acts = acts_of run.run.deals in
      let none = none_on holds may_leave moment left_since has_failed acts new.log.disk (subst (λ (x : Option D). Chain (OnLog holds may_leave moment left_since has_failed) x acts new.log.disk) start (on_disk acts run.run.done)) in
      let some = (why_broken run).1 in
      absurd cc

-- ---- over a data link, with the door beside its wire

module _ {W D S : Type 0} (did : W → List WireAct → W → Type 0) (lent : S → Lending → S → Type 0) (holds may_leave : D → List ℕ → Type 0) (moment : D → ℕ) (left_since : D → ℕ → List ℕ → Type 0) (has_failed : D → Bool) where
  abbrev Office : Type 0
  Office = LineWorld (OfficeWire W S) D

  abbrev Dealt : Office → List Deal → Office → Type 0
  Dealt = deals_at_door did lent holds may_leave moment left_since has_failed

  pub sells_by : (wire : W) (schedule : Schedule) (kept : Log D) (premises : Premises S) (turns : ℕ) (from to : Day) (before after : List (Option GivenUp)) (start old new : Office) → start ≡ old → old.line.wire.wire ≡ wire → old.line.wire.door ≡ premises.beside → old.line.wire.shown ≡ 0 → old.line.wire.heard ≡ None → old.schedule ≡ schedule → old.log ≡ kept → old.line.end.network ≡ true → old.line.post ≡ post_from from.moment
      → ((run : IsWholeSaleRun Dealt premises.channels start new from to turns) × IsToldAtDoor lent premises turns run.run.deals × NotesGivenUp (acts_of run.run.deals) before after)
      → SellsByLine did lent holds may_leave moment left_since has_failed wire schedule kept premises turns from to before after
  sells_by wire schedule kept premises turns from to before after start old new same over beside unshown unheard scheduled by side told begun =
      let both = subst (λ (s : Office). (run : IsWholeSaleRun Dealt premises.channels s new from to turns) × IsToldAtDoor lent premises turns run.run.deals × NotesGivenUp (acts_of run.run.deals) before after) same begun in
      record {
        old = old;
        new = new;
        over = over;
        beside = beside;
        unshown = unshown;
        unheard = unheard;
        scheduled = scheduled;
        kept_by = by;
        side = side;
        told_before = told;
        sells = both.0;
        told = both.1;
        noted = both.2;
        out = both.0.out (never_ends (did_at_door did lent) holds may_leave moment left_since has_failed old new (acts_of both.0.run.deals) both.0.run.done);
        apart = λ later. starts_apart (did_at_door did lent) holds may_leave moment left_since has_failed old new (acts_of both.0.run.deals) both.0.run.done (lost_before from.moment old.line.post told later);
      }

  pub stops_by : (wire : W) (schedule : Schedule) (kept : Log D) (premises : Premises S) (turns : ℕ) (from : Day) (start old new : Office) → start ≡ old → old.line.wire.wire ≡ wire → old.line.wire.door ≡ premises.beside → old.line.wire.shown ≡ 0 → old.line.wire.heard ≡ None → old.schedule ≡ schedule → old.log ≡ kept
      → ((run : IsBrokenRun Dealt premises.channels start new from turns) × IsToldAtDoor lent premises turns run.run.deals) → StopsSelling did lent holds may_leave moment left_since has_failed wire schedule kept premises turns from
  stops_by wire schedule kept premises turns from start old new same over beside unshown unheard scheduled by begun =
      let both = subst (λ (s : Office). (run : IsBrokenRun Dealt premises.channels s new from turns) × IsToldAtDoor lent premises turns run.run.deals) same begun in
      let stopped = why_broken (did_at_door did lent) holds may_leave moment left_since has_failed premises.channels old new from turns both.0 in
      record {
        old = old;
        new = new;
        over = over;
        beside = beside;
        unshown = unshown;
        unheard = unheard;
        scheduled = scheduled;
        kept_by = by;
        stops = both.0;
        told = both.1;
        disk = stopped.0;
        disk_is = stopped.1;
        cause = stopped.2;
      }

  -- a run that is over before its end has a journal
  pub selling_kept : (wire : W) (schedule : Schedule) (kept : Log D) (premises : Premises S) (turns : ℕ) (from : Day) (o : Option D) → kept.disk ≡ o → StopsSelling did lent holds may_leave moment left_since has_failed wire schedule kept premises turns from → is_some o ≡ true
  selling_kept wire schedule kept premises turns from o is stops = broken_kept (did_at_door did lent) holds may_leave moment left_since has_failed premises.channels stops.old stops.new from turns kept o stops.kept_by is stops.stops
