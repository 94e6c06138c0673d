-- A world after a rehearsal.
use Rattle.std.proofs.Common.{◌≡◌, ◌∙◌, ℕ, Bool, true, is_some, List, Option, None, Result, Ok, Err, OnErr, refl}
use Rattle.bx_day.specs.Day.{Day}
use Rattle.bx_devices.specs.declared.watched.Watched.{Watched}
use Rattle.bx_frames.specs.declared.fault.LinkFault.{LinkFault}
use Rattle.bx_frames.specs.declared.frame.Frame.{Frame}
use Rattle.bx_journal.specs.declared.head.Head.{Head}
use Rattle.bx_live.specs.Acts.{Act}
use Rattle.bx_live.specs.declared.world.CannotLog.{CannotLog}
use Rattle.bx_live.specs.Chains.{Chain}
use Rattle.bx_live.specs.Logs.{OnLog}
use Rattle.bx_world.specs.Rehearsals.{Rehearses, OnLost}
use Rattle.bx_live.specs.declared.log.Log.{Log}
use Rattle.bx_world.specs.declared.rehearsal.Rehearsal.{Rehearsal}
use Rattle.bx_live.proofs.Projections.{chain_map}
use Rattle.bx_world.proofs.Losing.{none_ended}
use Rattle.bx_rehearsal_commands.specs.Runs.{RunsIn}
use Rattle.bx_rehearsal_commands.specs.Rehearsals.{IsOnLog, RehearsesTowards}
use Rattle.bx_rehearsal_commands.specs.RehearsalsInside.{IsPutAway}
use Rattle.bx_rehearsal_commands.specs.WaitingDisks.{waiting_holds, no_crash, no_waiting_moment, none_left, waiting_failed, HasBegun}
use Rattle.bx_rehearsal_commands.specs.declared.rehearsing.Opened.{Opened}
use Rattle.bx_rehearsal_commands.specs.declared.rehearsing.Rehearsed.{Rehearsed}
use Rattle.bx_rehearsal_commands.specs.declared.waiting.WaitingDisk.{WaitingDisk}
use Rattle.bx_rehearsal_commands.proofs.Logged.{journal_kept, stopped_kept, unput_kept}
use Rattle.bx_rehearsal_commands.proofs.Runs.{whole_run}

-- any world with such a journal, which a lost link ends
module _ {W D F : Type 0} (step : W → Act → W → Type 0) (kept : W → Option (WaitingDisk D)) (lost : W → Option LinkFault) (holds may_leave : D → List ℕ → Type 0) (has_failed : D → Bool) (files : F → Option (List ℕ)) where
  pub on_log : ((s t : W) (act : Act) → step s act t → OnLog (waiting_holds holds) no_crash no_waiting_moment none_left (waiting_failed has_failed) (kept s) act (kept t)) → ((s t : W) (act : Act) → step s act t → OnLost (lost s) act (lost t))
      → (opened : Opened D) (rehearsed : Rehearsed D) (old new : W) (done : Result (Unit {0}) CannotLog) (file : Option (Watched F)) (first : ℕ) → done ≡ Ok tt
      → (r : RunsIn (Chain step) old new opened.turns opened.exchange rehearsed.exchange done files file first rehearsed.is_whole) → HasBegun holds opened.head opened.disk (kept old) → IsPutAway holds may_leave (kept new) rehearsed.disk → lost new ≡ rehearsed.lost
      → IsOnLog holds may_leave files opened file first rehearsed r.ran.acts
  on_log records loses opened rehearsed old new done file first is r begun away lost_is =
      let acts = r.ran.acts in
      let whole = whole_run (Chain step) files old new opened.turns opened.exchange rehearsed.exchange done file first rehearsed.is_whole is r in
      record {
        run = whole.run;
        after = whole.after;
        reached = λ none. whole.reached (none_ended (lost old) (lost new) acts (chain_map step OnLost lost loses old new acts r.ran.done) (lost_is ∙ none));
        journal = journal_kept holds may_leave has_failed opened.head opened.disk rehearsed.disk (kept old) (kept new) acts opened.exchange rehearsed.exchange begun away
            (chain_map step (OnLog (waiting_holds holds) no_crash no_waiting_moment none_left (waiting_failed has_failed)) kept records old new acts r.ran.done) whole.run;
        captured = r.kept;
      }

  -- one that is over before its end, or is not put away, has a journal
  pub failed_run : ((s t : W) (act : Act) → step s act t → OnLog (waiting_holds holds) no_crash no_waiting_moment none_left (waiting_failed has_failed) (kept s) act (kept t)) → (head : Head) (disk : Option D) (old new : W) (turns : ℕ) (from to : Day) (done : Result (Unit {0}) CannotLog) (e : CannotLog)
      (file : Option (Watched F)) (first : ℕ) (is_whole : Bool) → done ≡ Err e → RunsIn (Chain step) old new turns from to done files file first is_whole → HasBegun holds head disk (kept old) → is_some disk ≡ true
  failed_run records head disk old new turns from to (Err fault) e file first is_whole is r begun =
      stopped_kept holds may_leave has_failed head disk (kept old) (kept new) r.ran.acts from to begun (chain_map step (OnLog (waiting_holds holds) no_crash no_waiting_moment none_left (waiting_failed has_failed)) kept records old new r.ran.acts r.ran.done) r.ran.goes
  failed_run records head disk old new turns from to (Ok v) e file first is_whole is r begun = absurd cc

  pub failed_away : ((s t : W) (act : Act) → step s act t → OnLog (waiting_holds holds) no_crash no_waiting_moment none_left (waiting_failed has_failed) (kept s) act (kept t)) → (head : Head) (disk : Option D) (old new : W) (turns : ℕ) (from to : Day) (done : Result (Unit {0}) CannotLog)
      (file : Option (Watched F)) (first : ℕ) (is_whole : Bool) → RunsIn (Chain step) old new turns from to done files file first is_whole → HasBegun holds head disk (kept old) → is_some (kept new) ≡ true → is_some disk ≡ true
  failed_away records head disk old new turns from to done file first is_whole r begun there =
      unput_kept holds may_leave has_failed head disk (kept old) (kept new) r.ran.acts begun (chain_map step (OnLog (waiting_holds holds) no_crash no_waiting_moment none_left (waiting_failed has_failed)) kept records old new r.ran.acts r.ran.done) there

-- what holds anyway, at a refusal
pub at_any : {A E P : Type 0} (r : Result A E) → P → OnErr r P
at_any (Ok v) p = tt
at_any (Err e) p = p

-- ---- a world of one peer

module _ {P D F : Type 0} (wrote : P → List ℕ → Bool → P → Type 0) (gave : P → ℕ → Result Frame LinkFault → P → Type 0) (parted : P → Option LinkFault → P → Type 0) (holds may_leave : D → List ℕ → Type 0) (has_failed : D → Bool) (files : F → Option (List ℕ)) where
  abbrev Alone : Rehearsal P (WaitingDisk D) → Act → Rehearsal P (WaitingDisk D) → Type 0
  Alone = Rehearses wrote gave parted (waiting_holds holds) no_crash no_waiting_moment none_left (waiting_failed has_failed)

  abbrev with_peer : P → Log (WaitingDisk D) → Rehearsal P (WaitingDisk D)
  with_peer peer kept = record { peer = peer; log = kept; lost = None }

  pub towards_stopped : (opened : Opened D) (peer : P) (kept : Log (WaitingDisk D)) (new : Rehearsal P (WaitingDisk D)) (to : Day) (done : Result (Unit {0}) CannotLog) (e : CannotLog)
      (file : Option (Watched F)) (first : ℕ) (is_whole : Bool) → done ≡ Err e → HasBegun holds opened.head opened.disk kept.disk → RunsIn (Chain Alone) (with_peer peer kept) new opened.turns opened.exchange to done files file first is_whole → is_some opened.disk ≡ true
  towards_stopped opened peer kept new to done e file first is_whole is begun r =
      failed_run Alone (λ w. w.log.disk) (λ w. w.lost) holds may_leave has_failed files (λ s t act p. p.logged) opened.head opened.disk (with_peer peer kept) new opened.turns opened.exchange to done e file first is_whole is r begun

  pub towards_unput : (opened : Opened D) (peer : P) (kept : Log (WaitingDisk D)) (new : Rehearsal P (WaitingDisk D)) (to : Day) (done : Result (Unit {0}) CannotLog)
      (file : Option (Watched F)) (first : ℕ) (is_whole : Bool) → HasBegun holds opened.head opened.disk kept.disk → RunsIn (Chain Alone) (with_peer peer kept) new opened.turns opened.exchange to done files file first is_whole → is_some new.log.disk ≡ true → is_some opened.disk ≡ true
  towards_unput opened peer kept new to done file first is_whole begun r there =
      failed_away Alone (λ w. w.log.disk) (λ w. w.lost) holds may_leave has_failed files (λ s t act p. p.logged) opened.head opened.disk (with_peer peer kept) new opened.turns opened.exchange to done file first is_whole r begun there

  pub rehearsed_towards : (opened : Opened D) (peer : P) (file : Option (Watched F)) (first : ℕ) (rehearsed : Rehearsed D) (kept : Log (WaitingDisk D)) (new : Rehearsal P (WaitingDisk D)) (done : Result (Unit {0}) CannotLog)
      → done ≡ Ok tt → HasBegun holds opened.head opened.disk kept.disk → IsPutAway holds may_leave new.log.disk rehearsed.disk → new.lost ≡ rehearsed.lost
      → RunsIn (Chain Alone) (with_peer peer kept) new opened.turns opened.exchange rehearsed.exchange done files file first rehearsed.is_whole
      → RehearsesTowards wrote gave parted holds may_leave has_failed files opened peer file first rehearsed
  rehearsed_towards opened peer file first rehearsed kept new done is begun away lost_is r = record {
    acts = r.ran.acts;
    old = with_peer peer kept;
    new = new;
    peer_is = refl;
    begun = begun;
    unlost = refl;
    went = r.ran.done;
    lost = lost_is;
    day = on_log Alone (λ w. w.log.disk) (λ w. w.lost) holds may_leave has_failed files (λ s t act p. p.logged) (λ s t act p. p.lost) opened rehearsed (with_peer peer kept) new done file first is r begun away lost_is;
  }
