use Rattle.std.proofs.Common.{◌≡◌, List, [], ℕ, Bool, Option, Some, Result, Ok, Err, OnOk, None, refl, ap, ◌∙◌, subst}
use Rattle.std.specs.Prelude.{IfErr}
use Rattle.std.proofs.lemmas.Result.{err_from_is_err_and}
use Rattle.bx_day_openings.specs.Followed.{IsFollowedWhole}
use Rattle.bx_day_openings.specs.Replays.{HasBadAmendment, IsNoReplay}
use Rattle.bx_day_openings.specs.declared.fault.DayCommandFault.{DayCommandFault}
use Rattle.bx_day_openings.specs.declared.fault.DayCommandFault.TheVariants.{Journal}
use Rattle.bx_devices.specs.Watching.{device_of, is_faulted}
use Rattle.bx_journal.specs.declared.fault.JournalFault.TheVariants.{OtherDay}
use Rattle.bx_journal.specs.declared.head.Wanted.{Wanted}
use Rattle.bx_journal.specs.Heads.{of_any_day}
use Rattle.bx_journal.proofs.AnyDay.{never_other_day}
use Rattle.bx_day_openings.specs.JournalRefusals.{IsNoJournal}
use Rattle.bx_day_openings.proofs.ToldJournals.{not_followed, followed_whole}
use Rattle.bx_day_openings.proofs.Replays.{followed_as, bad_sale, no_replay}
use Rattle.bx_day_openings.specs.declared.amending.AmendmentFault.{AmendmentFault}
use Rattle.bx_capture.specs.Keeping.{keeps_nil}
use Rattle.bx_audit.specs.Audits.{IsKeptSoFar}
use Rattle.bx_audit.specs.Followed.{Taken, IsTakenNoted, taken_of}
use Rattle.bx_day.specs.declared.outcome.GivenUp.{GivenUp}
use Rattle.bx_sales.specs.GivenUps.{none_given_up}
use Rattle.bx_audit.proofs.Audited.{audited, kept_so_far, same_taken, followed_some, taken_whole, taken_to, stopped_day}
use Rattle.bx_audit.proofs.telling.audited_day.Goals as goal

pub returns-in-Some-clause-refused : goal.returns-in-Some-clause-refused
returns-in-Some-clause-refused g c =
    let read = c.read_journal-whole in
    let end = read.new.follower in
    let first = c.new-captured.result in
    let o = c.args.opening in
    let before = g.R.Read.remaining (device_of c.args.journal.now) in
    let a = taken_of first.end first.file first.first in
    let b = taken_of end.captured.end end.captured.file end.captured.first in
    let opens : a ≡ taken_of o.exchange c.args.file.now c.args.first = same_taken first.end o.exchange first.file c.args.file.now first.first c.args.first c.new-captured.ensures.end (c.new-captured.ensures.file ∙ c.take.ensures.value) c.new-captured.ensures.first in
    subst (λ (w : Wanted). HasBadAmendment o.channels w before o.exchange c.in-Some.fault) c.of_any_day-wanted.ensures
    (bad_sale _ (is_faulted read.new.device) before (g.R.Read.remaining (device_of read.new.device)) c.of_any_day-wanted.result _ end o.channels o.exchange end.captured.end c.in-Some.fault
    (λ events h. stopped_day g.W.Write.contents o.channels o.channels end.channels None end.fault a b c.args.first c.args.file.now o.exchange refl refl opens events h.0 c.in-Some.fault c.in-Some.is) read.result read.ensures.read)

pub returns-in-Some-clause-kept : goal.returns-in-Some-clause-kept
returns-in-Some-clause-kept g c =
    let read = c.read_journal-whole in
    let end = read.new.follower in
    let first = c.new-captured.result in
    let o = c.args.opening in
    let before = g.R.Read.remaining (device_of c.args.journal.now) in
    let a = taken_of first.end first.file first.first in
    let b = taken_of end.captured.end end.captured.file end.captured.first in
    let opens : a ≡ taken_of o.exchange c.args.file.now c.args.first = same_taken first.end o.exchange first.file c.args.file.now first.first c.args.first c.new-captured.ensures.end (c.new-captured.ensures.file ∙ c.take.ensures.value) c.new-captured.ensures.first in
    let some = followed_some _ (is_faulted read.new.device) before (g.R.Read.remaining (device_of read.new.device)) c.of_any_day-wanted.result _ end read.result read.ensures.read in
    let stop = taken_to g.W.Write.contents o.channels o.channels end.channels None end.fault a b c.args.first c.args.file.now o.exchange refl refl opens some.0 some.1.0 c.in-Some.fault c.in-Some.is in
    kept_so_far g.W.Write.contents o.channels c.args.file.now c.args.first o.exchange stop.amendment.before b stop.went

pub returns-in_err-journal_read-clause-refused : goal.returns-in_err-journal_read-clause-refused
returns-in_err-journal_read-clause-refused g c =
    let read = c.read_journal-whole in
    let o = c.args.opening in
    let before = g.R.Read.remaining (device_of c.args.journal.now) in
    let after = g.R.Read.remaining (device_of read.new.device) in
    let fault = c.in_err-journal_read.field-0.0 in
    let p = err_from_is_err_and c.from_residual-in_err-journal_read.result c.from_residual-in_err-journal_read.ensures.1 in
    rw (p.1, p.2)
    (subst (λ (w : Wanted). IsNoReplay c.args.name.now w o.channels o.exchange before after (is_faulted read.new.device) fault) c.of_any_day-wanted.ensures
    (no_replay c.args.name.now c.of_any_day-wanted.result o.channels o.exchange before after (is_faulted read.new.device) fault
    (not_followed _ (is_faulted read.new.device) before after c.of_any_day-wanted.result _ read.new.follower c.args.name read.result (Err fault) c.in_err-journal_read.ensures read.ensures.read)))

abbrev the_err : {T : Type 0} → DayCommandFault → Result T DayCommandFault
the_err f = Err f

same_fault : {T : Type 0} (f g : DayCommandFault) → the_err {T = T} f ≡ the_err g → f ≡ g
same_fault f g e = cc

not_other : (name plan : List ℕ) (wanted : Wanted) (before after : Option (List ℕ)) (faulted : Bool) (fault : DayCommandFault) → wanted ≡ of_any_day plan → IsNoJournal name wanted before after faulted fault → fault ≡ Journal OtherDay → ⊥
not_other name plan wanted before after faulted fault is refused same =
    let text = subst (λ (f : DayCommandFault). IsNoJournal name wanted before after faulted f) same refused in
    never_other_day wanted (ap (λ (w : Wanted). w.day) is) text.text text.first

pub returns-in_err-journal_read-clause-any_day : goal.returns-in_err-journal_read-clause-any_day
returns-in_err-journal_read-clause-any_day g c =
    let read = c.read_journal-whole in
    let before = g.R.Read.remaining (device_of c.args.journal.now) in
    let after = g.R.Read.remaining (device_of read.new.device) in
    let fault = c.in_err-journal_read.field-0.0 in
    let p = err_from_is_err_and c.from_residual-in_err-journal_read.result c.from_residual-in_err-journal_read.ensures.1 in
    rw (p.1, p.2)
    (λ e. not_other c.args.name.now c.args.opening.digest c.of_any_day-wanted.result before after (is_faulted read.new.device) fault c.of_any_day-wanted.ensures
    (not_followed _ (is_faulted read.new.device) before after c.of_any_day-wanted.result _ read.new.follower c.args.name read.result (Err fault) c.in_err-journal_read.ensures read.ensures.read) (same_fault fault (Journal OtherDay) e))

not_some : (s : Option AmendmentFault) → ((fault : AmendmentFault) → s ≡ Some fault → ⊥) → s ≡ None
not_some None never = refl
not_some (Some fault) never = absurd (never fault refl)

on_err : {T : Type 0} (P : Type 0) (r : Result T DayCommandFault) → P → IfErr r (λ fault. P)
on_err P (Ok v) p = tt
on_err P (Err fault) p = p

pub returns-in_err-journal_read-clause-kept : goal.returns-in_err-journal_read-clause-kept
returns-in_err-journal_read-clause-kept g c =
    let read = c.read_journal-whole in
    let end = read.new.follower in
    let first = c.new-captured.result in
    let o = c.args.opening in
    let before = g.R.Read.remaining (device_of c.args.journal.now) in
    let a = taken_of first.end first.file first.first in
    let b = taken_of end.captured.end end.captured.file end.captured.first in
    let opens : a ≡ taken_of o.exchange c.args.file.now c.args.first = same_taken first.end o.exchange first.file c.args.file.now first.first c.args.first c.new-captured.ensures.end (c.new-captured.ensures.file ∙ c.take.ensures.value) c.new-captured.ensures.first in
    let whole : end.fault ≡ None = not_some end.fault c.in_default.not-Some in
    let some = followed_some _ (is_faulted read.new.device) before (g.R.Read.remaining (device_of read.new.device)) c.of_any_day-wanted.result _ end read.result read.ensures.read in
    on_err (IsKeptSoFar g.W.Write.contents o.channels c.args.file.now b.file c.args.first o.exchange) c.from_residual-in_err-journal_read.result
    (kept_so_far g.W.Write.contents o.channels c.args.file.now c.args.first o.exchange some.0 b
    (taken_whole g.W.Write.contents o.channels o.channels end.channels None end.fault a b c.args.first c.args.file.now o.exchange refl refl opens some.0 some.1.0 whole))

pub returns-clause-audited : goal.returns-clause-audited
returns-clause-audited g c =
    let read = c.read_journal-whole in
    let end = read.new.follower in
    let first = c.new-captured.result in
    let o = c.args.opening in
    let contents = g.W.Write.contents in
    let before = g.R.Read.remaining (device_of c.args.journal.now) in
    let after = g.R.Read.remaining (device_of read.new.device) in
    let a = taken_of first.end first.file first.first in
    let b = taken_of end.captured.end end.captured.file end.captured.first in
    let opens : a ≡ taken_of o.exchange c.args.file.now c.args.first = same_taken first.end o.exchange first.file c.args.file.now first.first c.args.first c.new-captured.ensures.end (c.new-captured.ensures.file ∙ c.take.ensures.value) c.new-captured.ensures.first in
    let whole : end.fault ≡ None = not_some end.fault c.in_default.not-Some in
    let list = c.in_ok-given_up in
    let followed = followed_as _ (IsTakenNoted contents o.channels) (λ x. (taken_of x.captured.end x.captured.file x.captured.first, x.given_up.items)) (is_faulted read.new.device) before after c.of_any_day-wanted.result _ end
    (λ events h. (taken_whole contents o.channels o.channels end.channels None end.fault a b first.first first.file first.end refl refl refl events h.0 whole, h.1 whole)) read.result read.ensures.read in
    let all = followed_whole (IsTakenNoted contents o.channels) (is_faulted read.new.device) before after c.of_any_day-wanted.result (a, list.given_up.items) (b, end.given_up.items) c.args.name read.result c.journal_read.result c.journal_read.ensures followed in
    audited contents o.digest o.channels before c.args.file.now c.args.first o.exchange b end.given_up.items c.journal_read.result c.in_ok-journal_read.field-0 c.in_ok-journal_read.was
    (subst (λ (w : Wanted). OnOk c.journal_read.result (IsFollowedWhole (IsTakenNoted contents o.channels) w before (taken_of o.exchange c.args.file.now c.args.first, none_given_up) (b, end.given_up.items))) c.of_any_day-wanted.ensures
    (subst (λ (l : List (Option GivenUp)). OnOk c.journal_read.result (IsFollowedWhole (IsTakenNoted contents o.channels) c.of_any_day-wanted.result before (taken_of o.exchange c.args.file.now c.args.first, l) (b, end.given_up.items))) list.ensures
    (subst (λ (t : Taken _). OnOk c.journal_read.result (IsFollowedWhole (IsTakenNoted contents o.channels) c.of_any_day-wanted.result before (t, list.given_up.items) (b, end.given_up.items))) opens all)))

pub returns-in_err-given_up-clause-kept : goal.returns-in_err-given_up-clause-kept
returns-in_err-given_up-clause-kept g c =
    let o = c.args.opening in
    let contents = g.W.Write.contents in
    on_err (IsKeptSoFar contents o.channels c.args.file.now c.args.file.now c.args.first o.exchange) c.from_residual.result
    (record { events = []; day = o.exchange; octets = []; through = (refl, refl); kept = keeps_nil contents c.args.file.now })
