-- Days that went through journals, of what followed these.
use Rattle.std.proofs.Common.{◌≡◌, ◌∙◌, ◌⊎◌, inl, inr, ℕ, Bool, List, [], ◌∷◌, ◌++◌, length, Option, Some, None, Result, Ok, Err, OnOk, ap, sym, subst, append_assoc}
use Rattle.std.specs.Prelude.{IfOk}
use Rattle.std.specs.Io.KnownBytes.{Consumes}
use Rattle.std.proofs.lemmas.List.{append-nil}
use Rattle.bx_check_commands.specs.PlanFiles.{IsUnopened}
use Rattle.bx_check_commands.specs.declared.fault.CommandFault.{CommandFault}
use Rattle.bx_check_commands.specs.declared.fault.CommandFault.TheVariants as commands
use Rattle.bx_day.specs.Day.{Day}
use Rattle.bx_day.specs.declared.outcome.GivenUp.{GivenUp}
use Rattle.bx_sales.specs.GivenUps.{none_given_up, noted_by}
use Rattle.bx_day_openings.specs.declared.fault.DayCommandFault.{DayCommandFault}
use Rattle.bx_day_openings.specs.declared.fault.DayCommandFault.TheVariants as faults
use Rattle.bx_day_openings.specs.Followed.{IsFollowedWhole}
use Rattle.bx_day_openings.specs.JournalRefusals.{IsNoJournalText, IsNoJournal}
use Rattle.bx_day_openings.specs.Replays.{IsDayThrough, IsDayNoted, IsReadSoFar, HasBadAmendment, IsNoReplay, HasNoReplay}
use Rattle.bx_events.specs.Events.{LiveEvent, Amended}
use Rattle.bx_events.specs.declared.amendment.Amendment.{Amendment}
use Rattle.bx_journal.specs.Follows.{WasRefused, IsFollowed}
use Rattle.bx_journal.specs.Lines.{whole_text}
use Rattle.bx_journal.specs.Reading.{recovered, events_before}
use Rattle.bx_journal.specs.declared.fault.JournalFault.{JournalFault}
use Rattle.bx_journal.specs.declared.fault.JournalFault.TheVariants.{BadLine, OtherPlan, OtherDay, OtherRules, NotBegun, ReadFailed}
use Rattle.bx_journal.specs.declared.head.Wanted.{Wanted}
use Rattle.bx_journal.proofs.Recoveries.{the_events}
use Rattle.bx_day_openings.specs.Going.{IsStopped, GoesFrom}
use Rattle.bx_day_openings.specs.Selling.{day_goes, IsAfter}
use Rattle.bx_day_openings.specs.declared.amending.AmendmentFault.{AmendmentFault}
use Rattle.bx_day_openings.specs.declared.selling.Selling.{Selling}

-- ---- what was followed, said of a part of it

module _ {F G : Type 0} (followed : F → List LiveEvent → F → Type 0) (goes : G → List LiveEvent → G → Type 0) (part : F → G) (faulted : Bool) (before after : Option (List ℕ)) (wanted : Wanted) (f g : F)
    (on : (events : List LiveEvent) → followed f events g → goes (part f) events (part g)) where
  refused_as : (fault : JournalFault) → WasRefused followed before after wanted f g fault → WasRefused goes before after wanted (part f) (part g) fault
  refused_as fault r = record { read = r.read; consumed = r.consumed; is = r.is; events = r.events; are = r.are; followed_all = on r.events r.followed_all }

  pub followed_as : (result : Result ℕ JournalFault) → IsFollowed followed faulted before after wanted f g result → IsFollowed goes faulted before after wanted (part f) (part g) result
  followed_as (Ok n) r = record { text = r.text; consumed = r.consumed; at_end = r.at_end; events = r.events; is = r.is; followed_all = on r.events r.followed_all }
  followed_as (Err (BadLine n)) r = refused_as (BadLine n) r
  followed_as (Err OtherPlan) r = refused_as OtherPlan r
  followed_as (Err OtherDay) r = refused_as OtherDay r
  followed_as (Err OtherRules) r = refused_as OtherRules r
  followed_as (Err NotBegun) r = record { text = r.text; consumed = r.consumed; at_end = r.at_end; is = r.is; followed_none = on [] r.followed_none }
  followed_as (Err ReadFailed) r = record { read = r.read; held = r.held; consumed = r.consumed; events = r.events; is = r.is; followed_all = on r.events r.followed_all; cause = r.cause }

-- ---- a line that is none

none_in : (before following : List LiveEvent) (kind : Amendment) (line : List ℕ) → [] ≡ before ++ Amended kind line ∷ following → ⊥
none_in [] following kind line e = cc
none_in (event ∷ before) following kind line e = cc

prefix_of : (before after : Option (List ℕ)) (read : List ℕ) → Consumes before after read → (known : List ℕ) → before ≡ Some known → (rest : List ℕ) × (known ≡ read ++ rest)
prefix_of None after read c known is = absurd cc
prefix_of (Some xs) None read c known is = absurd c
prefix_of (Some xs) (Some ys) read c known is = let same : xs ≡ known = cc in (ys, sym same ∙ c)

-- it followed the events up to a line that is none, and those after that not
module _ {F : Type 0} (followed : F → List LiveEvent → F → Type 0) (faulted : Bool) (before after : Option (List ℕ)) (wanted : Wanted) (f g : F) (channels : List Bool) (opened day : Day) (fault : AmendmentFault)
    (stop : (events : List LiveEvent) → followed f events g → IsStopped (day_goes channels) (λ (d : Day). d) channels opened events day fault) where
  by_events : (events : List LiveEvent) → IsReadSoFar wanted before events → followed f events g → HasBadAmendment channels wanted before opened fault
  by_events events read h = let s = stop events h in record { events = events; read = read; amendment = s.amendment; day = day; through = s.went; why = s.why }

  by_refusal : (why : JournalFault) → WasRefused followed before after wanted f g why → HasBadAmendment channels wanted before opened fault
  by_refusal why r = by_events r.events (record {
    read = r.read;
    prefix = prefix_of before after r.read r.consumed;
    are = inr (subst (λ (l : List ℕ). events_before wanted l ≡ r.events) (append-nil r.read) (r.are []));
  }) r.followed_all

  no_stop : followed f [] g → HasBadAmendment channels wanted before opened fault
  no_stop h = let s = stop [] h in absurd (none_in s.amendment.before s.amendment.following s.amendment.kind s.amendment.line s.amendment.are)

  cut_prefix : (read held : List ℕ) → Consumes before after (read ++ held) → (known : List ℕ) → before ≡ Some known → (rest : List ℕ) × (known ≡ read ++ rest)
  cut_prefix read held c known is = let p = prefix_of before after (read ++ held) c known is in (held ++ p.0, p.1 ∙ append_assoc read held p.0)

  pub bad_sale : (result : Result ℕ JournalFault) → IsFollowed followed faulted before after wanted f g result → HasBadAmendment channels wanted before opened fault
  bad_sale (Ok n) r = by_events r.events (record { read = r.text; prefix = prefix_of before after r.text r.consumed; are = inl (the_events (length (whole_text r.text)) n (recovered wanted r.text) r.events r.is) }) r.followed_all
  bad_sale (Err (BadLine n)) r = by_refusal (BadLine n) r
  bad_sale (Err OtherPlan) r = by_refusal OtherPlan r
  bad_sale (Err OtherDay) r = by_refusal OtherDay r
  bad_sale (Err OtherRules) r = by_refusal OtherRules r
  bad_sale (Err NotBegun) r = no_stop r.followed_none
  bad_sale (Err ReadFailed) r = by_cut r.is where
    by_cut : (recovered wanted r.read ≡ Ok r.events) ⊎ ((recovered wanted r.read ≡ Err NotBegun) × (r.events ≡ [])) → HasBadAmendment channels wanted before opened fault
    by_cut (inl is) = by_events r.events (record { read = r.read; prefix = cut_prefix r.read r.held r.consumed; are = inl is }) r.followed_all
    by_cut (inr (not, none)) = no_stop (subst (λ (es : List LiveEvent). followed f es g) none r.followed_all)

-- ---- an exchange that follows

module _ (channels : List Bool) (opened : Day) (f g : Selling) (on_channels : f.channels ≡ channels) (opens : f.exchange ≡ opened) (fresh : f.fault ≡ None) (events : List LiveEvent) (h : IsAfter f events g) where
  goes_from : GoesFrom (day_goes channels) (λ (d : Day). d) channels None opened events g.exchange g.fault
  goes_from =
      subst (λ (d : Day). GoesFrom (day_goes channels) (λ (x : Day). x) channels None d events g.exchange g.fault) opens
      (subst (λ (cs : List Bool). GoesFrom (day_goes cs) (λ (x : Day). x) cs None f.exchange events g.exchange g.fault) on_channels
      (subst (λ (s : Option AmendmentFault). GoesFrom (day_goes f.channels) (λ (x : Day). x) f.channels s f.exchange events g.exchange g.fault) fresh h.1))

  pub went : g.fault ≡ None → day_goes channels opened events g.exchange
  went whole = subst (λ (s : Option AmendmentFault). GoesFrom (day_goes channels) (λ (x : Day). x) channels None opened events g.exchange s) whole goes_from

  pub stopped : (fault : AmendmentFault) → g.fault ≡ Some fault → IsStopped (day_goes channels) (λ (d : Day). d) channels opened events g.exchange fault
  stopped fault is = subst (λ (s : Option AmendmentFault). GoesFrom (day_goes channels) (λ (x : Day). x) channels None opened events g.exchange s) is goes_from

pub goes_on : (channels : List Bool) (wanted : Wanted) (before : Option (List ℕ)) (opened at day : Day) (r : Result (Unit {0}) DayCommandFault) (v : Unit {0}) → r ≡ Ok v → day ≡ at → OnOk r (IsFollowedWhole (day_goes channels) wanted before opened at) → IsDayThrough channels wanted before opened day
goes_on channels wanted before opened at day r v is same followed =
    let f = subst (λ (x : Result (Unit {0}) DayCommandFault). OnOk x (IsFollowedWhole (day_goes channels) wanted before opened at)) is followed in
    record { events = f.events; journal = f.journal; through = subst (λ (d : Day). day_goes channels opened f.events d) (sym same) f.all }

-- and what was noted of the same events
pub noted_through : (channels : List Bool) (wanted : Wanted) (before : Option (List ℕ)) (opened day : Day) (given_up : List (Option GivenUp)) (f g : Selling) (r : Result (Unit {0}) DayCommandFault) (v : Unit {0}) → r ≡ Ok v
    → f.channels ≡ channels → f.exchange ≡ opened → f.fault ≡ None → f.given_up.items ≡ none_given_up → g.fault ≡ None → day ≡ g.exchange → given_up ≡ g.given_up.items → OnOk r (IsFollowedWhole IsAfter wanted before f g) → IsDayNoted channels wanted before opened day given_up
noted_through channels wanted before opened day given_up f g r v is on_channels opens fresh none whole same list followed =
    let h = subst (λ (x : Result (Unit {0}) DayCommandFault). OnOk x (IsFollowedWhole IsAfter wanted before f g)) is followed in
    record {
      events = h.events;
      journal = h.journal;
      through = subst (λ (d : Day). day_goes channels opened h.events d) (sym same) (went channels opened f g on_channels opens fresh h.events h.all whole);
      noted = list ∙ h.all.3 whole ∙ ap (λ (l : List (Option GivenUp)). noted_by l h.events) none;
    }

-- a fault of the journal's text
pub no_replay : (name : List ℕ) (wanted : Wanted) (channels : List Bool) (opened : Day) (before after : Option (List ℕ)) (faulted : Bool) (fault : DayCommandFault) → IsNoJournal name wanted before after faulted fault → IsNoReplay name wanted channels opened before after faulted fault
no_replay name wanted channels opened before after faulted (faults.Amendment why) none = absurd none
no_replay name wanted channels opened before after faulted (faults.Command commands.Memory) none = absurd none
no_replay name wanted channels opened before after faulted fault none = none

pub if_ok : {A E : Type 0} (P Q : A → Type 0) (r : Result A E) → ((a : A) → P a → Q a) → IfOk r P → IfOk r Q
if_ok P Q (Ok a) f p = f a p
if_ok P Q (Err e) f p = tt

-- ---- of a file

untold : (wanted : Wanted) (before : Option (List ℕ)) (fault : JournalFault) → IsNoJournalText wanted before fault → IsNoJournalText wanted None fault
untold wanted before fault none = record { text = none.text; told = λ known is. absurd cc; first = none.first }

pub of_file : (name : List ℕ) (wanted : Wanted) (channels : List Bool) (opened : Day) (before after : Option (List ℕ)) (faulted : Bool) (fault : DayCommandFault) → IsNoReplay name wanted channels opened before after faulted fault → HasNoReplay name wanted channels opened fault
of_file name wanted channels opened before after faulted (faults.Amendment why) bad = record {
  events = bad.events;
  read = record { read = bad.read.read; prefix = λ known is. absurd cc; are = bad.read.are };
  amendment = bad.amendment;
  day = bad.day;
  through = bad.through;
  why = bad.why;
}
of_file name wanted channels opened before after faulted (faults.Journal (BadLine n)) none = untold wanted before (BadLine n) none
of_file name wanted channels opened before after faulted (faults.Journal OtherPlan) none = untold wanted before OtherPlan none
of_file name wanted channels opened before after faulted (faults.Journal OtherDay) none = untold wanted before OtherDay none
of_file name wanted channels opened before after faulted (faults.Journal OtherRules) none = untold wanted before OtherRules none
of_file name wanted channels opened before after faulted (faults.Command (commands.CannotRead n)) (same, cut) = same
of_file name wanted channels opened before after faulted (faults.Command commands.Memory) none = tt
of_file name wanted channels opened before after faulted fault none = absurd none

pub unopened : (name : List ℕ) (wanted : Wanted) (channels : List Bool) (opened : Day) (fault : CommandFault) → IsUnopened name fault → HasNoReplay name wanted channels opened (faults.Command fault)
unopened name wanted channels opened (commands.CannotRead n) same = same
unopened name wanted channels opened commands.Memory none = tt
unopened name wanted channels opened fault none = absurd none
