use Rattle.std.proofs.Common.{subst, sym}
use Rattle.bx_audit.specs.AuditRefusals.{IsAuditRefusal}
use Rattle.bx_audit.specs.Audits.{IsAuditToldWhole}
use Rattle.bx_audit.specs.Charted.{IsDayCharted}
use Rattle.bx_audit.specs.LastPlans.{IsSoldTold}
use Rattle.bx_audit.specs.Recorded.{AreRecordsTold}
use Rattle.bx_audit.specs.Uncharted.{IsDayChartCommandRefusal}
use Rattle.bx_audit.specs.Unrecorded.{IsRecordsCommandRefusal}
use Rattle.bx_audit.specs.Unsold.{IsSoldRefusal}
use Rattle.bx_cli.specs.Statuses.{IsRefusedForGood, IsRequestDone, IsRequestRefused}
use Rattle.bx_devices.specs.Devices.{writing_of}
use Rattle.bx_devices.specs.Watching.{device_of}
use Rattle.bx_cli.proofs.Standard.{done_at, refused_at, done_by, refused_by, not_zero, few_at, never_three, live_few, live_refused, live_for_good}
use Rattle.bx_journal_files.specs.Lasting.{does_last}
use Rattle.bx_plan_commands.specs.FileRequests as plans
use Rattle.bx_request.specs.declared.request.Request.{Request}
use Rattle.bx_cli.proofs.words.run.Goals as goal

pub returns-in-Files-clause-done : goal.returns-in-Files-clause-done
returns-in-Files-clause-done g c zero =
    subst (λ (r : Request). IsRequestDone g.row.H.Denot (g.R.Read.remaining (device_of c.args.input.now)) r g.H.File.Write.contents g.W.Write.contents c.args.output.now c.run_on_files-done.new.output) (sym c.in-Files.is)
    (done_by _ _ _ c.new-inputs.ensures (λ gives. plans.IsDone gives c.in-Files.request (writing_of g.W.Write.contents c.args.output.now c.run_on_files-done.new.output)) c.run_on_files-done.result c.status_of.result c.status_of.ensures.done c.run_on_files-done.ensures.done zero)

pub returns-in-Files-clause-refused : goal.returns-in-Files-clause-refused
returns-in-Files-clause-refused g c one =
    subst (λ (r : Request). IsRequestRefused g.row.H.Denot (g.R.Read.remaining (device_of c.args.input.now)) r g.H.File.Write.contents g.W.Write.contents c.args.output.now c.run_on_files-done.new.output) (sym c.in-Files.is)
    (refused_by _ _ _ c.new-inputs.ensures (λ gives. plans.IsFileRefused gives c.in-Files.request g.W.Write.contents c.args.output.now c.run_on_files-done.new.output) c.run_on_files-done.result c.status_of.result c.status_of.ensures.done c.run_on_files-done.ensures.refused (not_zero _ one))

pub returns-in-Records-clause-done : goal.returns-in-Records-clause-done
returns-in-Records-clause-done g c zero =
    subst (λ (r : Request). IsRequestDone g.row.H.Denot (g.R.Read.remaining (device_of c.args.input.now)) r g.H.File.Write.contents g.W.Write.contents c.args.output.now c.record_files-done.new.output) (sym c.in-Records.is)
    (let (day, written, told) = done_by _ _ _ c.new-inputs.ensures (λ gives. AreRecordsTold gives c.in-Records.request (writing_of g.W.Write.contents c.args.output.now c.record_files-done.new.output) (writing_of g.E.Write.contents c.args.errors.now c.record_files-done.new.errors)) c.record_files-done.result c.status_of-in-Records.result c.status_of-in-Records.ensures.done c.record_files-done.ensures.done zero in
    (day, written))

pub returns-in-Records-clause-refused : goal.returns-in-Records-clause-refused
returns-in-Records-clause-refused g c one =
    subst (λ (r : Request). IsRequestRefused g.row.H.Denot (g.R.Read.remaining (device_of c.args.input.now)) r g.H.File.Write.contents g.W.Write.contents c.args.output.now c.record_files-done.new.output) (sym c.in-Records.is)
    (refused_by _ _ _ c.new-inputs.ensures (λ gives. IsRecordsCommandRefusal gives c.in-Records.request g.W.Write.contents c.args.output.now c.record_files-done.new.output) c.record_files-done.result c.status_of-in-Records.result c.status_of-in-Records.ensures.done c.record_files-done.ensures.refused (not_zero _ one))

pub returns-in-Far-clause-done : goal.returns-in-Far-clause-done
returns-in-Far-clause-done g c zero =
    subst (λ (r : Request). IsRequestDone g.row.H.Denot (g.R.Read.remaining (device_of c.args.input.now)) r g.H.File.Write.contents g.W.Write.contents c.args.output.now c.far_on_files-done.new.output) (sym c.in-Far.is)
    (done_at c.far_on_files-done.result c.status_of-in-Far.result c.status_of-in-Far.ensures.done c.far_on_files-done.ensures.done zero)

pub returns-in-Far-clause-refused : goal.returns-in-Far-clause-refused
returns-in-Far-clause-refused g c one =
    subst (λ (r : Request). IsRequestRefused g.row.H.Denot (g.R.Read.remaining (device_of c.args.input.now)) r g.H.File.Write.contents g.W.Write.contents c.args.output.now c.far_on_files-done.new.output) (sym c.in-Far.is)
    (refused_at c.far_on_files-done.result c.status_of-in-Far.result c.status_of-in-Far.ensures.done c.far_on_files-done.ensures.refused (not_zero _ one))

pub returns-in-Rehearsal-clause-done : goal.returns-in-Rehearsal-clause-done
returns-in-Rehearsal-clause-done g c zero =
    subst (λ (r : Request). IsRequestDone g.row.H.Denot (g.R.Read.remaining (device_of c.args.input.now)) r g.H.File.Write.contents g.W.Write.contents c.args.output.now c.rehearse_on_files-done.new.output) (sym c.in-Rehearsal.is)
    (done_at c.rehearse_on_files-done.result c.status_of-in-Rehearsal.result c.status_of-in-Rehearsal.ensures.done c.rehearse_on_files-done.ensures.done zero)

pub returns-in-Rehearsal-clause-refused : goal.returns-in-Rehearsal-clause-refused
returns-in-Rehearsal-clause-refused g c one =
    subst (λ (r : Request). IsRequestRefused g.row.H.Denot (g.R.Read.remaining (device_of c.args.input.now)) r g.H.File.Write.contents g.W.Write.contents c.args.output.now c.rehearse_on_files-done.new.output) (sym c.in-Rehearsal.is)
    (refused_at c.rehearse_on_files-done.result c.status_of-in-Rehearsal.result c.status_of-in-Rehearsal.ensures.done c.rehearse_on_files-done.ensures.refused (not_zero _ one))

pub returns-in-FarLine-clause-done : goal.returns-in-FarLine-clause-done
returns-in-FarLine-clause-done g c zero =
    subst (λ (r : Request). IsRequestDone g.row.H.Denot (g.R.Read.remaining (device_of c.args.input.now)) r g.H.File.Write.contents g.W.Write.contents c.args.output.now c.far_by_line-done.new.output) (sym c.in-FarLine.is)
    (done_at c.far_by_line-done.result c.status_of-in-FarLine.result c.status_of-in-FarLine.ensures.done c.far_by_line-done.ensures.done zero)

pub returns-in-FarLine-clause-refused : goal.returns-in-FarLine-clause-refused
returns-in-FarLine-clause-refused g c one =
    subst (λ (r : Request). IsRequestRefused g.row.H.Denot (g.R.Read.remaining (device_of c.args.input.now)) r g.H.File.Write.contents g.W.Write.contents c.args.output.now c.far_by_line-done.new.output) (sym c.in-FarLine.is)
    (refused_at c.far_by_line-done.result c.status_of-in-FarLine.result c.status_of-in-FarLine.ensures.done c.far_by_line-done.ensures.refused (not_zero _ one))

pub returns-in-Live-clause-done : goal.returns-in-Live-clause-done
returns-in-Live-clause-done g c zero =
    subst (λ (r : Request). IsRequestDone g.row.H.Denot (g.R.Read.remaining (device_of c.args.input.now)) r g.H.File.Write.contents g.W.Write.contents c.args.output.now c.live_on_files-done.new.output) (sym c.in-Live.is)
    (done_at c.live_on_files-done.result c.live_status.result c.live_status.ensures.done c.live_on_files-done.ensures.done zero)

pub returns-in-Live-clause-refused : goal.returns-in-Live-clause-refused
returns-in-Live-clause-refused g c one =
    subst (λ (r : Request). IsRequestRefused g.row.H.Denot (g.R.Read.remaining (device_of c.args.input.now)) r g.H.File.Write.contents g.W.Write.contents c.args.output.now c.live_on_files-done.new.output) (sym c.in-Live.is)
    (live_refused does_last c.live_status.result c.live_on_files-done.result c.live_status.ensures.done c.live_status.ensures.refused c.live_on_files-done.ensures.refused one)

pub returns-in-Audit-clause-done : goal.returns-in-Audit-clause-done
returns-in-Audit-clause-done g c zero =
    subst (λ (r : Request). IsRequestDone g.row.H.Denot (g.R.Read.remaining (device_of c.args.input.now)) r g.H.File.Write.contents g.W.Write.contents c.args.output.now c.audit_files-done.new.output) (sym c.in-Audit.is)
    (done_by _ _ _ c.new-inputs.ensures (λ gives. IsAuditToldWhole gives g.H.File.Write.contents c.in-Audit.request (writing_of g.W.Write.contents c.args.output.now c.audit_files-done.new.output)) c.audit_files-done.result c.status_of-in-Audit.result c.status_of-in-Audit.ensures.done c.audit_files-done.ensures.done zero)

pub returns-in-Audit-clause-refused : goal.returns-in-Audit-clause-refused
returns-in-Audit-clause-refused g c one =
    subst (λ (r : Request). IsRequestRefused g.row.H.Denot (g.R.Read.remaining (device_of c.args.input.now)) r g.H.File.Write.contents g.W.Write.contents c.args.output.now c.audit_files-done.new.output) (sym c.in-Audit.is)
    (refused_by _ _ _ c.new-inputs.ensures (λ gives. IsAuditRefusal gives c.in-Audit.request g.H.File.Write.contents g.W.Write.contents c.args.output.now c.audit_files-done.new.output) c.audit_files-done.result c.status_of-in-Audit.result c.status_of-in-Audit.ensures.done c.audit_files-done.ensures.refused (not_zero _ one))

pub returns-in-Decode-clause-done : goal.returns-in-Decode-clause-done
returns-in-Decode-clause-done g c zero =
    subst (λ (r : Request). IsRequestDone g.row.H.Denot (g.R.Read.remaining (device_of c.args.input.now)) r g.H.File.Write.contents g.W.Write.contents c.args.output.now c.decode-done.new.output) (sym c.in-Decode.is)
    (done_at c.decode-done.result c.status_of-in-Decode.result c.status_of-in-Decode.ensures.done c.decode-done.ensures.done zero)

pub returns-in-Decode-clause-refused : goal.returns-in-Decode-clause-refused
returns-in-Decode-clause-refused g c one =
    subst (λ (r : Request). IsRequestRefused g.row.H.Denot (g.R.Read.remaining (device_of c.args.input.now)) r g.H.File.Write.contents g.W.Write.contents c.args.output.now c.decode-done.new.output) (sym c.in-Decode.is)
    (refused_at c.decode-done.result c.status_of-in-Decode.result c.status_of-in-Decode.ensures.done c.decode-done.ensures.refused (not_zero _ one))

pub returns-in-Sold-clause-done : goal.returns-in-Sold-clause-done
returns-in-Sold-clause-done g c zero =
    subst (λ (r : Request). IsRequestDone g.row.H.Denot (g.R.Read.remaining (device_of c.args.input.now)) r g.H.File.Write.contents g.W.Write.contents c.args.output.now c.sold_files-done.new.output) (sym c.in-Sold.is)
    (done_by _ _ _ c.new-inputs.ensures (λ gives. IsSoldTold gives c.in-Sold.request (writing_of g.W.Write.contents c.args.output.now c.sold_files-done.new.output)) c.sold_files-done.result c.status_of-in-Sold.result c.status_of-in-Sold.ensures.done c.sold_files-done.ensures.done zero)

pub returns-in-Sold-clause-refused : goal.returns-in-Sold-clause-refused
returns-in-Sold-clause-refused g c one =
    subst (λ (r : Request). IsRequestRefused g.row.H.Denot (g.R.Read.remaining (device_of c.args.input.now)) r g.H.File.Write.contents g.W.Write.contents c.args.output.now c.sold_files-done.new.output) (sym c.in-Sold.is)
    (refused_by _ _ _ c.new-inputs.ensures (λ gives. IsSoldRefusal gives c.in-Sold.request g.W.Write.contents c.args.output.now c.sold_files-done.new.output) c.sold_files-done.result c.status_of-in-Sold.result c.status_of-in-Sold.ensures.done c.sold_files-done.ensures.refused (not_zero _ one))

pub returns-in-DayChart-clause-done : goal.returns-in-DayChart-clause-done
returns-in-DayChart-clause-done g c zero =
    subst (λ (r : Request). IsRequestDone g.row.H.Denot (g.R.Read.remaining (device_of c.args.input.now)) r g.H.File.Write.contents g.W.Write.contents c.args.output.now c.chart_day_files-done.new.output) (sym c.in-DayChart.is)
    (done_by _ _ _ c.new-inputs.ensures (λ gives. IsDayCharted gives c.in-DayChart.request (writing_of g.W.Write.contents c.args.output.now c.chart_day_files-done.new.output)) c.chart_day_files-done.result c.status_of-in-DayChart.result c.status_of-in-DayChart.ensures.done c.chart_day_files-done.ensures.done zero)

pub returns-in-DayChart-clause-refused : goal.returns-in-DayChart-clause-refused
returns-in-DayChart-clause-refused g c one =
    subst (λ (r : Request). IsRequestRefused g.row.H.Denot (g.R.Read.remaining (device_of c.args.input.now)) r g.H.File.Write.contents g.W.Write.contents c.args.output.now c.chart_day_files-done.new.output) (sym c.in-DayChart.is)
    (refused_by _ _ _ c.new-inputs.ensures (λ gives. IsDayChartCommandRefusal gives c.in-DayChart.request g.W.Write.contents c.args.output.now c.chart_day_files-done.new.output) c.chart_day_files-done.result c.status_of-in-DayChart.result c.status_of-in-DayChart.ensures.done c.chart_day_files-done.ensures.refused (not_zero _ one))

pub returns-in-Files-clause-status : goal.returns-in-Files-clause-status
returns-in-Files-clause-status g c = few_at c.run_on_files-done.result c.status_of.result c.status_of.ensures.done c.status_of.ensures.refused

pub returns-in-Files-clause-for_good : goal.returns-in-Files-clause-for_good
returns-in-Files-clause-for_good g c three = absurd (never_three c.run_on_files-done.result c.status_of.result c.status_of.ensures.done c.status_of.ensures.refused three)

pub returns-in-Records-clause-status : goal.returns-in-Records-clause-status
returns-in-Records-clause-status g c = few_at c.record_files-done.result c.status_of-in-Records.result c.status_of-in-Records.ensures.done c.status_of-in-Records.ensures.refused

pub returns-in-Records-clause-for_good : goal.returns-in-Records-clause-for_good
returns-in-Records-clause-for_good g c three = absurd (never_three c.record_files-done.result c.status_of-in-Records.result c.status_of-in-Records.ensures.done c.status_of-in-Records.ensures.refused three)

pub returns-in-Far-clause-status : goal.returns-in-Far-clause-status
returns-in-Far-clause-status g c = few_at c.far_on_files-done.result c.status_of-in-Far.result c.status_of-in-Far.ensures.done c.status_of-in-Far.ensures.refused

pub returns-in-Far-clause-for_good : goal.returns-in-Far-clause-for_good
returns-in-Far-clause-for_good g c three = absurd (never_three c.far_on_files-done.result c.status_of-in-Far.result c.status_of-in-Far.ensures.done c.status_of-in-Far.ensures.refused three)

pub returns-in-Rehearsal-clause-status : goal.returns-in-Rehearsal-clause-status
returns-in-Rehearsal-clause-status g c = few_at c.rehearse_on_files-done.result c.status_of-in-Rehearsal.result c.status_of-in-Rehearsal.ensures.done c.status_of-in-Rehearsal.ensures.refused

pub returns-in-Rehearsal-clause-for_good : goal.returns-in-Rehearsal-clause-for_good
returns-in-Rehearsal-clause-for_good g c three = absurd (never_three c.rehearse_on_files-done.result c.status_of-in-Rehearsal.result c.status_of-in-Rehearsal.ensures.done c.status_of-in-Rehearsal.ensures.refused three)

pub returns-in-FarLine-clause-status : goal.returns-in-FarLine-clause-status
returns-in-FarLine-clause-status g c = few_at c.far_by_line-done.result c.status_of-in-FarLine.result c.status_of-in-FarLine.ensures.done c.status_of-in-FarLine.ensures.refused

pub returns-in-FarLine-clause-for_good : goal.returns-in-FarLine-clause-for_good
returns-in-FarLine-clause-for_good g c three = absurd (never_three c.far_by_line-done.result c.status_of-in-FarLine.result c.status_of-in-FarLine.ensures.done c.status_of-in-FarLine.ensures.refused three)

pub returns-in-Audit-clause-status : goal.returns-in-Audit-clause-status
returns-in-Audit-clause-status g c = few_at c.audit_files-done.result c.status_of-in-Audit.result c.status_of-in-Audit.ensures.done c.status_of-in-Audit.ensures.refused

pub returns-in-Audit-clause-for_good : goal.returns-in-Audit-clause-for_good
returns-in-Audit-clause-for_good g c three = absurd (never_three c.audit_files-done.result c.status_of-in-Audit.result c.status_of-in-Audit.ensures.done c.status_of-in-Audit.ensures.refused three)

pub returns-in-Decode-clause-status : goal.returns-in-Decode-clause-status
returns-in-Decode-clause-status g c = few_at c.decode-done.result c.status_of-in-Decode.result c.status_of-in-Decode.ensures.done c.status_of-in-Decode.ensures.refused

pub returns-in-Decode-clause-for_good : goal.returns-in-Decode-clause-for_good
returns-in-Decode-clause-for_good g c three = absurd (never_three c.decode-done.result c.status_of-in-Decode.result c.status_of-in-Decode.ensures.done c.status_of-in-Decode.ensures.refused three)

pub returns-in-Sold-clause-status : goal.returns-in-Sold-clause-status
returns-in-Sold-clause-status g c = few_at c.sold_files-done.result c.status_of-in-Sold.result c.status_of-in-Sold.ensures.done c.status_of-in-Sold.ensures.refused

pub returns-in-Sold-clause-for_good : goal.returns-in-Sold-clause-for_good
returns-in-Sold-clause-for_good g c three = absurd (never_three c.sold_files-done.result c.status_of-in-Sold.result c.status_of-in-Sold.ensures.done c.status_of-in-Sold.ensures.refused three)

pub returns-in-DayChart-clause-status : goal.returns-in-DayChart-clause-status
returns-in-DayChart-clause-status g c = few_at c.chart_day_files-done.result c.status_of-in-DayChart.result c.status_of-in-DayChart.ensures.done c.status_of-in-DayChart.ensures.refused

pub returns-in-DayChart-clause-for_good : goal.returns-in-DayChart-clause-for_good
returns-in-DayChart-clause-for_good g c three = absurd (never_three c.chart_day_files-done.result c.status_of-in-DayChart.result c.status_of-in-DayChart.ensures.done c.status_of-in-DayChart.ensures.refused three)

pub returns-in-Live-clause-status : goal.returns-in-Live-clause-status
returns-in-Live-clause-status g c = live_few does_last c.live_status.result c.live_on_files-done.result c.live_status.ensures.done c.live_status.ensures.refused

pub returns-in-Live-clause-for_good : goal.returns-in-Live-clause-for_good
returns-in-Live-clause-for_good g c three =
    subst (λ (r : Request). IsRefusedForGood g.row.H.Denot r g.H.File.Write.contents g.W.Write.contents c.args.output.now c.live_on_files-done.new.output) (sym c.in-Live.is)
    (live_for_good does_last c.live_status.result c.live_on_files-done.result c.live_status.ensures.done c.live_status.ensures.refused c.live_on_files-done.ensures.refused three)
