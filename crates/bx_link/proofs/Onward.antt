-- Whatever is written belongs to the last event.
use Rattle.bx_events.specs.declared.rules.Rules.TheVariants.{Three}
use Rattle.std.proofs.Common.{◌≡◌, ℕ, ◌+◌, List, [], ◌∷◌, ◌++◌, refl, sym, ap, ◌∙◌, subst, true, false, Bool, Result, Ok, Err, ◌==◌, if◌then◌else◌}
use Rattle.std.proofs.lemmas.List.{append-nil, append_assoc}
use Rattle.bx_events.specs.Events.{Event, Tick, Receive, OnLink, WithoutLink}
use Rattle.bx_frames.specs.declared.fault.LinkFault.{LinkFault}
use Rattle.bx_frames.specs.declared.frame.Frame.{Frame}
use Rattle.bx_frames.specs.declared.frame.Frame.TheVariants as frames
use Rattle.bx_far.specs.FarDay.{FarDay}
use Rattle.bx_far.specs.Course.{far_line_next, far_line_text}
use Rattle.bx_live.specs.declared.world.Begin.{Begin}
use Rattle.bx_live.specs.declared.world.Begin.TheVariants as begins
use Rattle.bx_live.specs.declared.world.Loss.{Loss}
use Rattle.bx_live.specs.Acts.{Act, Began, Wrote, Read}
use Rattle.bx_link.specs.Events.{far_events}
use Rattle.bx_link.specs.Runs.{FarPlace, Between, Owing, Hearing, Losing, IsFarActDue, IsFarRun, far_run_next, far_day_at, far_owing}
use Rattle.bx_link.specs.Written.{IsFarWrittenFor}
use Rattle.bx_link.proofs.Due.{by_due}
use Rattle.bx_link.proofs.Days.{far_after, more_taken, step_day}

-- ---- lists of acts, one after the other

events_on : (xs ys : List Act) → far_events (xs ++ ys) ≡ far_events xs ++ far_events ys
events_on [] ys = refl
events_on (Began second begins.Joined ∷ xs) ys = ap (λ es. OnLink Tick ∷ es) (events_on xs ys)
events_on (Began second begins.Alone ∷ xs) ys = ap (λ es. WithoutLink Three ∷ es) (events_on xs ys)
events_on (Began second begins.Late ∷ xs) ys = ap (λ es. WithoutLink Three ∷ es) (events_on xs ys)
events_on (Read room (Ok (frames.Message octets)) ∷ xs) ys = ap (λ es. OnLink (Receive octets.items) ∷ es) (events_on xs ys)
events_on (act ∷ xs) ys = events_on xs ys

after_on : (xs : List Act) (act : Act) (d : FarDay) → far_after (xs ++ act ∷ []) d ≡ far_after (act ∷ []) (far_after xs d)
after_on [] act d = refl
after_on (x ∷ xs) act d = more_taken x (xs ++ act ∷ []) d ∙ (after_on xs act (far_after (x ∷ []) d) ∙ ap (far_after (act ∷ [])) (sym (more_taken x xs d)))

-- ---- what is owed

abbrev Owes : FarDay → List Act → FarPlace → Type 0
Owes d acts (Owing day room text) = IsFarWrittenFor d acts text
Owes d acts point = Unit {0}

record Stands (d : FarDay) (acts : List Act) (p : FarPlace) : Type 0 where
  day : far_day_at p ≡ far_after acts d
  owes : Owes d acts p

module _ (d : FarDay) (acts : List Act) where
  abbrev after_act : Act → List Act
  after_act act = acts ++ act ∷ []

  abbrev KeepsOwed : FarPlace → Act → Type 0
  KeepsOwed p act = Stands d acts p → Owes d (after_act act) (far_run_next p act)

  -- an event that is told by the act, by the day as it is before it
  told_now : (p : FarPlace) (act : Act) (event : Event) → far_events (act ∷ []) ≡ OnLink event ∷ [] → Stands d acts p → IsFarWrittenFor d (after_act act) (far_line_text (far_day_at p) event)
  told_now p act event tells stands = record {
    earlier = far_events acts;
    event = event;
    last = events_on acts (act ∷ []) ∙ ap (λ es. far_events acts ++ es) tells;
    text = ap (λ (x : FarDay). far_line_text x event) stands.day;
  }

  owed_begun : (day : FarDay) (begin : Begin) → KeepsOwed (Between day) (Began (day.moment + 1) begin)
  owed_begun day begins.Joined stands = told_now (Between day) (Began (day.moment + 1) begins.Joined) Tick refl stands
  owed_begun day begin stands = tt

  owed_wrote : (day : FarDay) (room : ℕ) (text : List ℕ) (done : Bool) → KeepsOwed (Owing day room text) (Wrote text done)
  owed_wrote day room text true stands = tt
  owed_wrote day room text false stands = tt

  owing_owes : (day : FarDay) (room : ℕ) (text : List ℕ) (before : List Act) → IsFarWrittenFor d before text → Owes d before (far_owing day room text)
  owing_owes day room [] before written = tt
  owing_owes day room (octet ∷ text) before written = written

  either_owes : (b : Bool) (day : FarDay) (loss : Loss) (before : List Act) → Owes d before (if b then Between day else Losing day loss)
  either_owes true day loss before = tt
  either_owes false day loss before = tt

  owed_heard : (day : FarDay) (room : ℕ) (answer : Result Frame LinkFault) → KeepsOwed (Hearing day room) (Read room answer)
  owed_heard day room (Ok (frames.Message octets)) stands =
      let act = Read room (Ok (frames.Message octets)) in
      owing_owes (far_line_next day (Receive octets.items)) _ (far_line_text day (Receive octets.items)) (after_act act) (told_now (Hearing day room) act (Receive octets.items) refl stands)
  owed_heard day room (Ok (frames.EndOfTurn said)) stands = either_owes (said == day.moment) day _ _
  owed_heard day room (Ok frames.EndOfDay) stands = tt
  owed_heard day room (Err fault) stands = tt

  keeps_owed : (p : FarPlace) (act : Act) → IsFarActDue p act → KeepsOwed p act
  keeps_owed = by_due KeepsOwed owed_begun owed_wrote owed_heard (λ day loss stands. tt) (λ day stands. tt) (λ day stands. tt)

  stands_on : (p : FarPlace) (act : Act) → IsFarActDue p act → Stands d acts p → Stands d (after_act act) (far_run_next p act)
  stands_on p act due stands = record {
    day = step_day p act due ∙ (ap (far_after (act ∷ [])) stands.day ∙ sym (after_on acts act d));
    owes = keeps_owed p act due stands;
  }

  written_now : (p : FarPlace) (octets : List ℕ) (done : Bool) → IsFarActDue p (Wrote octets done) → Stands d acts p → IsFarWrittenFor d acts octets
  written_now (Owing day room text) octets done due stands = subst (IsFarWrittenFor d acts) (sym due) stands.owes
  written_now p octets done due stands = absurd due

written_after : (d : FarDay) (acts : List Act) (p : FarPlace) → Stands d acts p → (before following : List Act) (octets : List ℕ) (done : Bool) (to : FarPlace) → IsFarRun p (before ++ Wrote octets done ∷ following) to → IsFarWrittenFor d (acts ++ before) octets
written_after d acts p stands [] following octets done to (due, goes) = subst (λ xs. IsFarWrittenFor d xs octets) (sym (append-nil acts)) (written_now d acts p octets done due stands)
written_after d acts p stands (act ∷ before) following octets done to (due, goes) =
    subst (λ xs. IsFarWrittenFor d xs octets) (append_assoc acts (act ∷ []) before) (written_after d (acts ++ act ∷ []) (far_run_next p act) (stands_on d acts p act due stands) before following octets done to goes)

pub written_law : (d : FarDay) (before following : List Act) (octets : List ℕ) (done : Bool) (to : FarPlace) → IsFarRun (Between d) (before ++ Wrote octets done ∷ following) to → IsFarWrittenFor d before octets
written_law d before following octets done to run = written_after d [] (Between d) (record { day = refl; owes = tt }) before following octets done to run
