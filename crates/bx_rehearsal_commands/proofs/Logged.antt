-- What the journal of a rehearsal has after the day.
use Rattle.std.proofs.Common.{◌≡◌, ℕ, Bool, true, false, is_some, List, [], ◌∷◌, ◌++◌, Option, Some, None, refl, subst}
use Rattle.bx_day.specs.Day.{Day}
use Rattle.bx_events.specs.Events.{LiveEvent}
use Rattle.bx_journal.specs.Events.{AreEvents}
use Rattle.bx_journal.specs.Heads.{IsJournalDay}
use Rattle.bx_journal.specs.declared.head.Head.{Head}
use Rattle.bx_journal.specs.Logging.{IsSettled, IsPending}
use Rattle.bx_journal.specs.Text.{journal_text}
use Rattle.bx_journal.proofs.Logged.{pending}
use Rattle.bx_live.specs.Acts.{Act, Began, Dropped, Logged, Synced, Wrote, Read, Took, EndedDay, logged_by}
use Rattle.bx_live.specs.Runs.{Place, Between, Over, Done, IsRun, next}
use Rattle.bx_live.specs.Written.{Filed, filed_by}
use Rattle.bx_live.proofs.Onward.{filed_law}
use Rattle.bx_live.specs.Chains.{Chain, chain_first}
use Rattle.bx_world.proofs.Kept.{stops, stopped}
use Rattle.bx_world.specs.Kept.{keeps_log}
use Rattle.bx_live.specs.Logs.{OnLog, OnDisk}
use Rattle.bx_live.proofs.Projections.{kept_on}
use Rattle.bx_journal_files.proofs.Going.{over_of}
use Rattle.bx_journal_files.proofs.Unkept.{none_on, none_keeps}
use Rattle.bx_rehearsal_commands.specs.Rehearsals.{IsJournalOf}
use Rattle.bx_rehearsal_commands.specs.RehearsalsInside.{IsPutAway}
use Rattle.bx_rehearsal_commands.specs.WaitingDisks.{waiting_holds, no_crash, no_waiting_moment, none_left, waiting_failed, HasBegun}
use Rattle.bx_rehearsal_commands.specs.declared.waiting.WaitingDisk.{WaitingDisk}

-- ---- in a run that comes to its end nothing failed

stopped_never : (p : Place) (act : Act) (acts : List Act) (e d : Day) → next p act ≡ Over d → IsRun (next p act) acts (Done e) → ⊥
stopped_never p act acts e d same goes =
    let at_end = subst (λ (xs : List Act). IsRun (Over d) xs (Done e)) (stopped p act acts (Done e) d same goes) (subst (λ (x : Place). IsRun x acts (Done e)) same goes) in
    cc

all_kept : (p : Place) (e : Day) (acts : List Act) → IsRun p acts (Done e) → keeps_log acts ≡ true
all_kept p e [] same = refl
all_kept p e (Logged event true ∷ acts) (due, goes) = all_kept (next p (Logged event true)) e acts goes
all_kept p e (Logged event false ∷ acts) (due, goes) = let s = stops p (Logged event false) due in absurd (stopped_never p (Logged event false) acts e s.0 s.1 goes)
all_kept p e (Synced true ∷ acts) (due, goes) = all_kept (next p (Synced true)) e acts goes
all_kept p e (Synced false ∷ acts) (due, goes) = let s = stops p (Synced false) due in absurd (stopped_never p (Synced false) acts e s.0 s.1 goes)
all_kept p e (Began second begin ∷ acts) (due, goes) = all_kept (next p (Began second begin)) e acts goes
all_kept p e (Dropped loss ∷ acts) (due, goes) = all_kept (next p (Dropped loss)) e acts goes
all_kept p e (Wrote octets done ∷ acts) (due, goes) = all_kept (next p (Wrote octets done)) e acts goes
all_kept p e (Read room answer ∷ acts) (due, goes) = all_kept (next p (Read room answer)) e acts goes
all_kept p e (Took message ∷ acts) (due, goes) = all_kept (next p (Took message)) e acts goes
all_kept p e (EndedDay ∷ acts) (due, goes) = all_kept (next p EndedDay) e acts goes

-- ---- what a disk holds after acts, all of which went well

module _ {D : Type 0} (holds may_leave : D → List ℕ → Type 0) (moment : D → ℕ) (left_since : D → ℕ → List ℕ → Type 0) (has_failed : D → Bool) (head : Head) where
  abbrev Step : D → Act → D → Type 0
  Step = OnDisk holds may_leave moment left_since has_failed

  abbrev Holds : Filed → D → Type 0
  Holds f disk = IsPending holds may_leave disk head f.disk f.more

  held_on : (acts : List Act) (f : Filed) (u v : D) → keeps_log acts ≡ true → Chain Step u acts v → Holds f u → Holds (filed_by acts f) v
  held_on [] f u v kept e h = subst (λ (x : D). Holds f x) e h
  held_on (Logged event true ∷ acts) f u v kept chain h =
      let (mid, writes, more) = chain_first Step u v (Logged event true) acts chain in
      held_on acts (record { disk = f.disk; more = f.more ++ event ∷ [] }) mid v kept more (writes.written refl head f.disk f.more h)
  held_on (Logged event false ∷ acts) f u v kept chain h = cc
  held_on (Synced true ∷ acts) f u v kept chain h =
      let (mid, commits, more) = chain_first Step u v (Synced true) acts chain in
      held_on acts (record { disk = f.disk ++ f.more; more = [] }) mid v kept more (commits.committed refl head f.disk f.more h)
  held_on (Synced false ∷ acts) f u v kept chain h = cc
  held_on (Began second begin ∷ acts) f u v kept chain h = let (mid, same, more) = chain_first Step u v (Began second begin) acts chain in held_on acts f mid v kept more (subst (λ (x : D). Holds f x) same h)
  held_on (Dropped loss ∷ acts) f u v kept chain h = let (mid, same, more) = chain_first Step u v (Dropped loss) acts chain in held_on acts f mid v kept more (subst (λ (x : D). Holds f x) same h)
  held_on (Wrote octets done ∷ acts) f u v kept chain h = let (mid, same, more) = chain_first Step u v (Wrote octets done) acts chain in held_on acts f mid v kept more (subst (λ (x : D). Holds f x) same h)
  held_on (Read room answer ∷ acts) f u v kept chain h = let (mid, same, more) = chain_first Step u v (Read room answer) acts chain in held_on acts f mid v kept more (subst (λ (x : D). Holds f x) same h)
  held_on (Took message ∷ acts) f u v kept chain h = let (mid, same, more) = chain_first Step u v (Took message) acts chain in held_on acts f mid v kept more (subst (λ (x : D). Holds f x) same h)
  held_on (EndedDay ∷ acts) f u v kept chain h = let (mid, same, more) = chain_first Step u v EndedDay acts chain in held_on acts f mid v kept more (subst (λ (x : D). Holds f x) same h)

  -- of a journal that had no event, and a run that came to its end
  pub held_whole : (acts : List Act) (u v : D) (d e : Day) → IsRun (Between d) acts (Done e) → Chain Step u acts v → IsSettled holds may_leave u head [] → AreEvents (logged_by acts) × holds v (journal_text head (logged_by acts))
  held_whole acts u v d e run chain settled =
      let held = held_on acts (record { disk = []; more = [] }) u v (all_kept (Between d) e acts run) chain (pending holds may_leave u head [] settled) in
      (subst AreEvents (filed_law acts) held.events_are, subst (λ (es : List LiveEvent). holds v (journal_text head es)) (filed_law acts) held.written)

-- ---- a journal that waited, and is put away

module _ {D : Type 0} (holds may_leave : D → List ℕ → Type 0) (has_failed : D → Bool) (head : Head) where
  abbrev Kept : Option (WaitingDisk D) → Act → Option (WaitingDisk D) → Type 0
  Kept = OnLog (waiting_holds holds) no_crash no_waiting_moment none_left (waiting_failed has_failed)

  put_away : (events : List LiveEvent) (disk : D) (w : WaitingDisk D) (o : Option (WaitingDisk D)) (closed : Option D) → o ≡ Some w → IsPutAway holds may_leave o closed → (IsJournalDay head.day → holds disk [] → AreEvents events × waiting_holds holds w (journal_text head events))
      → IsJournalOf holds may_leave (Some disk) closed head events
  put_away events disk w o (Some closed) is away held = λ dated empty.
      let h = held dated empty in
      let settled = subst (λ (x : Option (WaitingDisk D)). IsPutAway holds may_leave x (Some closed)) is away (journal_text head events) h.1 in
      record { day_is = dated; events_are = h.0; written = settled.0; durable = settled.1 }
  put_away events disk w o None is away held = absurd (subst (λ (x : Option (WaitingDisk D)). IsPutAway holds may_leave x None) is away)

  pub journal_kept : (disk closed : Option D) (o p : Option (WaitingDisk D)) (acts : List Act) (d e : Day) → HasBegun holds head disk o → IsPutAway holds may_leave p closed → Chain Kept o acts p → IsRun (Between d) acts (Done e)
      → IsJournalOf holds may_leave disk closed head (logged_by acts)
  journal_kept None closed o p acts d e begun away chain run =
      subst (λ (x : Option (WaitingDisk D)). IsPutAway holds may_leave x closed) (none_on (waiting_holds holds) no_crash no_waiting_moment none_left (waiting_failed has_failed) acts p (subst (λ (x : Option (WaitingDisk D)). Chain Kept x acts p) begun chain)) away
  journal_kept (Some disk) closed None p acts d e begun away chain run = absurd begun
  journal_kept (Some disk) closed (Some first) p acts d e begun away chain run =
      let (last, is, onto) = kept_on (waiting_holds holds) no_crash no_waiting_moment none_left (waiting_failed has_failed) first p acts chain in
      put_away (logged_by acts) disk last p closed is away (λ dated empty. held_whole (waiting_holds holds) no_crash no_waiting_moment none_left (waiting_failed has_failed) head acts first last d e run onto (begun dated empty))

  -- ---- what can't be logged, or away, is kept

  -- a run that is over before its end has a journal
  pub stopped_kept : (disk : Option D) (o p : Option (WaitingDisk D)) (acts : List Act) (d e : Day) → HasBegun holds head disk o → Chain Kept o acts p → IsRun (Between d) acts (Over e) → is_some disk ≡ true
  stopped_kept (Some disk) o p acts d e begun chain run = refl
  stopped_kept None o p acts d e begun chain run =
      absurd (over_of (Between d) e acts (none_keeps (waiting_holds holds) no_crash no_waiting_moment none_left (waiting_failed has_failed) acts p (subst (λ (x : Option (WaitingDisk D)). Chain Kept x acts p) begun chain)) run)

  -- and so has one that is not put away
  pub unput_kept : (disk : Option D) (o p : Option (WaitingDisk D)) (acts : List Act) → HasBegun holds head disk o → Chain Kept o acts p → is_some p ≡ true → is_some disk ≡ true
  unput_kept (Some disk) o p acts begun chain there = refl
  unput_kept None o p acts begun chain there =
      let none = none_on (waiting_holds holds) no_crash no_waiting_moment none_left (waiting_failed has_failed) acts p (subst (λ (x : Option (WaitingDisk D)). Chain Kept x acts p) begun chain) in
      subst (λ (x : Option (WaitingDisk D)). is_some x ≡ true) none there
