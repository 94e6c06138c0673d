-- Runs over a data link on which nobody asks for anything.
use Rattle.std.proofs.Common.{◌≡◌, ℕ, Bool, true, is_some, List, Option, Some, None, refl, subst}
use Rattle.std.specs.Borrow.{Bor}
use Rattle.bx_day.specs.Day.{Day}
use Rattle.bx_day.specs.declared.outcome.GivenUp.{GivenUp}
use Rattle.bx_journal.specs.declared.file.FileDisk.{FileDisk}
use Rattle.bx_journal.specs.declared.head.Head.{Head}
use Rattle.bx_line_world.specs.Posts.{post_from}
use Rattle.bx_line_world.specs.Wires.{WireAct}
use Rattle.bx_line_world.specs.declared.line_world.LineWorld.{LineWorld}
use Rattle.bx_line_world.proofs.Apart.{starts_apart, lost_before}
use Rattle.bx_line_world.proofs.Never.{never_ends}
use Rattle.bx_live.specs.declared.log.Log.{Log}
use Rattle.bx_live.specs.declared.schedule.Schedule.{Schedule}
use Rattle.bx_market.specs.Deals.{Deal, acts_of}
use Rattle.bx_market.specs.SaleRuns.{IsWholeSaleRun, IsBrokenRun}
use Rattle.bx_journal_files.specs.Resuming.{IsKeptBy}
use Rattle.bx_live_commands.specs.LiveRuns.{deals_by_line, RunsByLine, StopsByLine}
use Rattle.bx_office_world.specs.GivingUp.{NotesGivenUp}
use Rattle.bx_live_commands.specs.Unasked.{AskNothing}
use Rattle.bx_live_commands.proofs.SaleStops.{why_broken, broken_kept}

module _ {W D : Type 0} (did : W → List WireAct → W → Type 0) (holds may_leave : D → List ℕ → Type 0) (moment : D → ℕ) (left_since : D → ℕ → List ℕ → Type 0) (has_failed : D → Bool) where
  abbrev Dealt : LineWorld W D → List Deal → LineWorld W D → Type 0
  Dealt = deals_by_line did holds may_leave moment left_since has_failed

  abbrev RanUnasked : List Bool → LineWorld W D → LineWorld W D → Day → Day → ℕ → List (Option GivenUp) → List (Option GivenUp) → Type 0
  RanUnasked channels old new from to turns before after = (run : IsWholeSaleRun Dealt channels old new from to turns) × AskNothing run.run.deals × NotesGivenUp (acts_of run.run.deals) before after

  abbrev BrokeUnasked : List Bool → LineWorld W D → LineWorld W D → Day → ℕ → Type 0
  BrokeUnasked channels old new from turns = (run : IsBrokenRun Dealt channels old new from turns) × AskNothing run.run.deals

  pub by_line : (wire : W) (schedule : Schedule) (kept : Log D) (channels : List Bool) (turns : ℕ) (from to : Day) (before after : List (Option GivenUp)) (start old new : LineWorld W D) → start ≡ old → old.line.wire ≡ wire → old.schedule ≡ schedule → old.log ≡ kept → old.line.end.network ≡ true → old.line.post ≡ post_from from.moment
      → RanUnasked channels start new from to turns before after → RunsByLine did holds may_leave moment left_since has_failed wire schedule kept channels turns from to before after
  by_line wire schedule kept channels turns from to before after start old new same over scheduled by side told begun =
      let both = subst (λ (s : LineWorld W D). RanUnasked channels s new from to turns before after) same begun in
      let acts = acts_of both.0.run.deals in
      record {
        old = old;
        new = new;
        over = over;
        scheduled = scheduled;
        kept_by = by;
        side = side;
        told_before = told;
        leaves = both.0;
        unasked = both.1;
        noted = both.2;
        out = both.0.out (never_ends did holds may_leave moment left_since has_failed old new acts both.0.run.done);
        apart = λ later. starts_apart did holds may_leave moment left_since has_failed old new acts both.0.run.done (lost_before from.moment old.line.post told later);
      }

  -- where it is over before its end the journal's disk has failed
  pub stopped_line : (wire : W) (schedule : Schedule) (kept : Log D) (channels : List Bool) (turns : ℕ) (from : Day) (start old new : LineWorld W D) → start ≡ old → old.line.wire ≡ wire → old.schedule ≡ schedule → old.log ≡ kept
      → BrokeUnasked channels start new from turns → StopsByLine did holds may_leave moment left_since has_failed wire schedule kept channels turns from
  stopped_line wire schedule kept channels turns from start old new same over scheduled by begun =
      let both = subst (λ (s : LineWorld W D). BrokeUnasked channels s new from turns) same begun in
      let stopped = why_broken did holds may_leave moment left_since has_failed channels old new from turns both.0 in
      record {
        old = old;
        new = new;
        over = over;
        scheduled = scheduled;
        kept_by = by;
        stops = both.0;
        unasked = both.1;
        disk = stopped.0;
        disk_is = stopped.1;
        cause = stopped.2;
      }

  -- and there is one
  pub failed_line : (wire : W) (schedule : Schedule) (kept : Log D) (channels : List Bool) (turns : ℕ) (from : Day) → StopsByLine did holds may_leave moment left_since has_failed wire schedule kept channels turns from → is_some kept.disk ≡ true
  failed_line wire schedule kept channels turns from stops = broken_kept did holds may_leave moment left_since has_failed channels stops.old stops.new from turns kept kept.disk stops.kept_by refl stops.stops

-- where a log is kept a journal is named

pub journal_kept_by : {F : Type 0} (head : Head) (channels : List Bool) (opened day : Day) (kept : Log (FileDisk F)) (o : Option (Bor (List ℕ))) → IsKeptBy head channels o opened day kept → is_some kept.disk ≡ true → is_some o ≡ true
journal_kept_by head channels opened day kept (Some name) k there = refl
journal_kept_by {F = F} head channels opened day kept None k there = subst (λ (x : Option (FileDisk F)). is_some x ≡ true) k there
