-- A journal that was given under its name, and one in a file, which does not tell its octets.
use Rattle.std.proofs.Common.{◌≡◌, ◌⊎◌, inl, inr, ℕ, Bool, false, List, Option, None, refl, subst}
use Rattle.bx_check_commands.specs.PlanFiles.{IsUnopened}
use Rattle.bx_check_commands.specs.declared.fault.CommandFault.{CommandFault}
use Rattle.bx_check_commands.specs.declared.fault.CommandFault.TheVariants as commands
use Rattle.bx_day.specs.Day.{Day}
use Rattle.bx_day.specs.declared.outcome.GivenUp.{GivenUp}
use Rattle.bx_day_openings.specs.JournalRefusals.{IsNoJournalText}
use Rattle.bx_day_openings.specs.OpeningRefusals.{IsNoFile}
use Rattle.bx_day_openings.specs.Replays.{IsDayThrough, HasBadAmendment, IsNoReplay}
use Rattle.bx_day_openings.specs.declared.amending.AmendmentFault.{AmendmentFault}
use Rattle.bx_day_openings.specs.declared.fault.DayCommandFault.{DayCommandFault}
use Rattle.bx_day_openings.specs.declared.fault.DayCommandFault.TheVariants as faults
use Rattle.bx_devices.specs.declared.watched.Watched.{Watched}
use Rattle.bx_journal.specs.Heads.{of_any_day}
use Rattle.bx_journal.specs.declared.fault.JournalFault.{JournalFault}
use Rattle.bx_journal.specs.declared.fault.JournalFault.TheVariants.{BadLine, OtherPlan, OtherDay, OtherRules}
use Rattle.bx_journal.specs.declared.head.Wanted.{Wanted}
use Rattle.bx_request.specs.declared.request.AuditRequest.{AuditRequest}
use Rattle.bx_audit.specs.AuditRefusals.{StopsAudit, IsAuditRefusalBy, IsAuditRefusal}
use Rattle.bx_audit.specs.Audits.{IsDayAuditedBy, IsAuditToldBy, IsAuditTold}
use Rattle.bx_audit.specs.Given.{TellsNothing}
use Rattle.bx_audit.specs.Unrecorded.{IsNoJournalOf}
use Rattle.bx_audit.proofs.Audited.{untold}

-- ---- a journal of a name that is none

module _ (name plan : List ℕ) (channels : List Bool) (opened : Day) where
  pub no_journal : (gives : List ℕ → Option (List ℕ) → Type 0) (before after : Option (List ℕ)) (faulted : Bool) (fault : DayCommandFault) → gives name before → IsNoReplay name (of_any_day plan) channels opened before after faulted fault → IsNoJournalOf gives name plan channels opened fault
  no_journal gives before after faulted (faults.Amendment why) given none = (before, given, none)
  no_journal gives before after faulted (faults.Journal (BadLine n)) given none = (before, given, none)
  no_journal gives before after faulted (faults.Journal OtherPlan) given none = (before, given, none)
  no_journal gives before after faulted (faults.Journal OtherDay) given none = (before, given, none)
  no_journal gives before after faulted (faults.Journal OtherRules) given none = (before, given, none)
  no_journal gives before after faulted (faults.Command (commands.CannotRead n)) given (same, cut) = same
  no_journal gives before after faulted (faults.Command commands.Memory) given none = tt
  no_journal gives before after faulted fault given none = absurd none

  pub no_journal_as : (gives : List ℕ → Option (List ℕ) → Type 0) (before after : Option (List ℕ)) (faulted : Bool) (wanted : Wanted) (fault : DayCommandFault) → wanted ≡ of_any_day plan → gives name before → IsNoReplay name wanted channels opened before after faulted fault → IsNoJournalOf gives name plan channels opened fault
  no_journal_as gives before after faulted wanted fault is given why = no_journal gives before after faulted fault given (subst (λ (w : Wanted). IsNoReplay name w channels opened before after faulted fault) is why)

  pub unopened : (gives : List ℕ → Option (List ℕ) → Type 0) (fault : CommandFault) → IsUnopened name fault → IsNoJournalOf gives name plan channels opened (faults.Command fault)
  unopened gives (commands.CannotRead n) same = same
  unopened gives commands.Memory none = tt
  unopened gives fault none = absurd none

  -- what one relation gives, another does
  module _ (gives more : List ℕ → Option (List ℕ) → Type 0) (on : (text : Option (List ℕ)) → gives name text → more name text) where
    pub given_so : (fault : DayCommandFault) → IsNoJournalOf gives name plan channels opened fault → IsNoJournalOf more name plan channels opened fault
    given_so (faults.Amendment why) (before, given, none) = (before, on before given, none)
    given_so (faults.Journal (BadLine n)) (before, given, none) = (before, on before given, none)
    given_so (faults.Journal OtherPlan) (before, given, none) = (before, on before given, none)
    given_so (faults.Journal OtherDay) (before, given, none) = (before, on before given, none)
    given_so (faults.Journal OtherRules) (before, given, none) = (before, on before given, none)
    given_so (faults.Command (commands.CannotRead n)) same = same
    given_so (faults.Command commands.Memory) none = tt
    given_so fault none = absurd none

-- ---- of a file

untold_text : (wanted : Wanted) (before : Option (List ℕ)) (fault : JournalFault) → IsNoJournalText wanted before fault → IsNoJournalText wanted None fault
untold_text wanted before fault none = record { text = none.text; told = λ known is. absurd cc; first = none.first }

untold_amendment : (channels : List Bool) (wanted : Wanted) (before : Option (List ℕ)) (opened : Day) (why : AmendmentFault) → HasBadAmendment channels wanted before opened why → HasBadAmendment channels wanted None opened why
untold_amendment channels wanted before opened why bad = record {
  events = bad.events;
  read = record { read = bad.read.read; prefix = λ known is. absurd cc; are = bad.read.are };
  amendment = bad.amendment;
  day = bad.day;
  through = bad.through;
  why = bad.why;
}

untold_through : (channels : List Bool) (wanted : Wanted) (before : Option (List ℕ)) (opened day : Day) → IsDayThrough channels wanted before opened day → IsDayThrough channels wanted None opened day
untold_through channels wanted before opened day t = record {
  events = t.events;
  journal = record { text = t.journal.text; told = λ known is. absurd cc; are = t.journal.are };
  through = t.through;
}

module _ (journals : List ℕ → Option (List ℕ) → Type 0) where
  untold_journal : (name plan : List ℕ) (channels : List Bool) (opened : Day) (fault : DayCommandFault) → IsNoJournalOf journals name plan channels opened fault → IsNoJournalOf TellsNothing name plan channels opened fault
  untold_journal name plan channels opened (faults.Amendment why) (before, given, bad) = (None, refl, untold_amendment channels (of_any_day plan) before opened why bad)
  untold_journal name plan channels opened (faults.Journal (BadLine n)) (before, given, none) = (None, refl, untold_text (of_any_day plan) before (BadLine n) none)
  untold_journal name plan channels opened (faults.Journal OtherPlan) (before, given, none) = (None, refl, untold_text (of_any_day plan) before OtherPlan none)
  untold_journal name plan channels opened (faults.Journal OtherDay) (before, given, none) = (None, refl, untold_text (of_any_day plan) before OtherDay none)
  untold_journal name plan channels opened (faults.Journal OtherRules) (before, given, none) = (None, refl, untold_text (of_any_day plan) before OtherRules none)
  untold_journal name plan channels opened (faults.Command (commands.CannotRead n)) same = same
  untold_journal name plan channels opened (faults.Command commands.Memory) none = tt
  untold_journal name plan channels opened fault none = absurd none

  module _ {F : Type 0} (gives : List ℕ → Option (List ℕ) → Type 0) (contents : F → Option (List ℕ)) (request : AuditRequest) where
    untold_day : (day : Day) (given_up : List (Option GivenUp)) (is_whole : Bool) → IsDayAuditedBy gives journals contents request day given_up is_whole → IsDayAuditedBy gives TellsNothing contents request day given_up is_whole
    untold_day day given_up is_whole a = record {
      opened = a.opened;
      channels = a.channels;
      digest = a.digest;
      opens = a.opens;
      first = a.first;
      begins = a.begins;
      file = a.file;
      file_opens = a.file_opens;
      before = None;
      given = refl;
      closed = a.closed;
      audited = untold contents a.digest a.channels a.before a.file a.closed a.first a.opened day given_up a.audited;
      whole = a.whole;
    }

    pub untold_audit : (before after : Option (List ℕ)) (is_whole : Bool) → IsAuditToldBy gives journals contents request before after is_whole → IsAuditTold gives contents request before after is_whole
    untold_audit before after is_whole told = record { day = told.day; given_up = told.given_up; audit = untold_day told.day told.given_up is_whole told.audit; written = told.written }

    untold_stop : (fault : DayCommandFault) → StopsAudit gives journals request fault → StopsAudit gives TellsNothing request fault
    untold_stop fault (inl why) = inl why
    untold_stop fault (inr (inl why)) = inr (inl why)
    untold_stop fault (inr (inr (inl (first, (opened, channels, digest, opens, why))))) =
        inr (inr (inl (first, (opened, channels, digest, opens, untold_journal request.journal.now digest channels opened fault why))))
    untold_stop fault (inr (inr (inr (first, (opened, channels, digest, opens, (before, given, (day, through))), why)))) =
        inr (inr (inr (first, (opened, channels, digest, opens, (None, refl, (day, untold_through channels (of_any_day digest) before opened day through))), why)))

    untold_why : (before after : Option (List ℕ)) (still : Type 0) (fault : DayCommandFault)
        → (StopsAudit gives journals request fault × still) ⊎ (IsAuditToldBy gives journals contents request before after false × IsNoFile request.capture fault)
        → (StopsAudit gives TellsNothing request fault × still) ⊎ (IsAuditTold gives contents request before after false × IsNoFile request.capture fault)
    untold_why before after still fault (inl (why, same)) = inl (untold_stop fault why, same)
    untold_why before after still fault (inr (told, why)) = inr (untold_audit before after false told, why)

    pub untold_refusal : {W : Type 0} (output : W → Option (List ℕ)) (old new : Watched W) (fault : DayCommandFault) → IsAuditRefusalBy gives journals request contents output old new fault → IsAuditRefusal gives request contents output old new fault
    untold_refusal output old new (faults.Command commands.CannotWrite) cut = (cut.0, record { day = cut.1.day; given_up = cut.1.given_up; is_whole = cut.1.is_whole; audit = untold_day cut.1.day cut.1.given_up cut.1.is_whole cut.1.audit; written = cut.1.written })
    untold_refusal output old new fault why = untold_why _ _ _ fault why
