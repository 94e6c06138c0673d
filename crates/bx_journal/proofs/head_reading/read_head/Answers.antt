use Rattle.std.proofs.Common.{◌≡◌, true, false, sym, ◌∙◌}
use Rattle.std.proofs.lemmas.Result.{err_from_is_err_and}
use Rattle.bx_devices.specs.Watching.{device_of, is_faulted}
use Rattle.bx_journal.specs.Versions.{has_day}
use Rattle.bx_journal.proofs.HeadLines.{version_failed, version_passed, plan_failed, plan_passed, day_failed, day_passed, day_follows, undated_taken, past_head}
use Rattle.bx_journal.proofs.head_reading.read_head.Goals as goal

pub returns-in_err-version-clause-head : goal.returns-in_err-version-clause-head
returns-in_err-version-clause-head g c =
    let p = err_from_is_err_and c.from_residual.result c.from_residual.ensures.1 in
    let remaining = g.R.Read.remaining in
    rw (p.1, p.2) (version_failed c.args.wanted.now (is_faulted c.read_version.new.device) (remaining (device_of c.args.device.now)) (remaining (device_of c.read_version.new.device)) c.args.pieces.now c.read_version.new.pieces c.in_err-version.field-0.0 c.in_err-version.ensures.line)

pub returns-in_err-read_plan_line-clause-head : goal.returns-in_err-read_plan_line-clause-head
returns-in_err-read_plan_line-clause-head g c =
    let p = err_from_is_err_and c.from_residual-in_err-read_plan_line.result c.from_residual-in_err-read_plan_line.ensures.1 in
    let remaining = g.R.Read.remaining in
    let one = version_passed c.args.wanted.now (is_faulted c.read_version.new.device) (remaining (device_of c.args.device.now)) (remaining (device_of c.read_version.new.device)) c.args.pieces.now c.read_version.new.pieces c.in_ok-version.version c.in_ok-version.ensures.line in
    rw (p.1, p.2) (plan_failed c.args.wanted.now (is_faulted c.read_plan_line.new.device) (remaining (device_of c.args.device.now)) (remaining (device_of c.read_version.new.device)) (remaining (device_of c.read_plan_line.new.device)) c.args.pieces.now c.read_version.new.pieces c.read_plan_line.new.pieces c.in_ok-version.version c.in_err-read_plan_line.field-0.0 one c.in_err-read_plan_line.ensures.line)

pub returns-in_err-read_day_line-clause-head : goal.returns-in_err-read_day_line-clause-head
returns-in_err-read_day_line-clause-head g c =
    let p = err_from_is_err_and c.from_residual-in_err-read_day_line.result c.from_residual-in_err-read_day_line.ensures.1 in
    let remaining = g.R.Read.remaining in
    let one = version_passed c.args.wanted.now (is_faulted c.read_version.new.device) (remaining (device_of c.args.device.now)) (remaining (device_of c.read_version.new.device)) c.args.pieces.now c.read_version.new.pieces c.in_ok-version.version c.in_ok-version.ensures.line in
    let two = plan_passed c.args.wanted.now (is_faulted c.read_plan_line.new.device) (remaining (device_of c.args.device.now)) (remaining (device_of c.read_version.new.device)) (remaining (device_of c.read_plan_line.new.device)) c.args.pieces.now c.read_version.new.pieces c.read_plan_line.new.pieces c.in_ok-version.version one c.in_ok-read_plan_line.ensures.line in
    let told : has_day c.in_ok-version.version ≡ true = sym c.has_day.ensures ∙ c.if-has_day.true in
    let at = day_follows c.args.wanted.now (is_faulted c.read_plan_line.new.device) (remaining (device_of c.args.device.now)) (remaining (device_of c.read_version.new.device)) (remaining (device_of c.read_plan_line.new.device)) c.args.pieces.now c.read_version.new.pieces c.read_plan_line.new.pieces c.in_ok-version.version told two in
    rw (p.1, p.2) (day_failed c.args.wanted.now (is_faulted c.read_day_line.new.device) (remaining (device_of c.args.device.now)) (remaining (device_of c.read_plan_line.new.device)) (remaining (device_of c.read_day_line.new.device)) c.args.pieces.now c.read_plan_line.new.pieces c.read_day_line.new.pieces c.in_ok-version.version c.in_err-read_day_line.field-0.0 at c.in_err-read_day_line.ensures.line)

pub returns-in_ok-read_day_line-clause-head : goal.returns-in_ok-read_day_line-clause-head
returns-in_ok-read_day_line-clause-head g c =
    let remaining = g.R.Read.remaining in
    let one = version_passed c.args.wanted.now (is_faulted c.read_version.new.device) (remaining (device_of c.args.device.now)) (remaining (device_of c.read_version.new.device)) c.args.pieces.now c.read_version.new.pieces c.in_ok-version.version c.in_ok-version.ensures.line in
    let two = plan_passed c.args.wanted.now (is_faulted c.read_plan_line.new.device) (remaining (device_of c.args.device.now)) (remaining (device_of c.read_version.new.device)) (remaining (device_of c.read_plan_line.new.device)) c.args.pieces.now c.read_version.new.pieces c.read_plan_line.new.pieces c.in_ok-version.version one c.in_ok-read_plan_line.ensures.line in
    let told : has_day c.in_ok-version.version ≡ true = sym c.has_day.ensures ∙ c.if-has_day.true in
    let at = day_follows c.args.wanted.now (is_faulted c.read_plan_line.new.device) (remaining (device_of c.args.device.now)) (remaining (device_of c.read_version.new.device)) (remaining (device_of c.read_plan_line.new.device)) c.args.pieces.now c.read_version.new.pieces c.read_plan_line.new.pieces c.in_ok-version.version told two in
    day_passed c.args.wanted.now (is_faulted c.read_day_line.new.device) (remaining (device_of c.args.device.now)) (remaining (device_of c.read_plan_line.new.device)) (remaining (device_of c.read_day_line.new.device)) c.args.pieces.now c.read_plan_line.new.pieces c.read_day_line.new.pieces c.in_ok-version.version told at c.in_ok-read_day_line.ensures.line

pub returns-else-has_day-clause-head : goal.returns-else-has_day-clause-head
returns-else-has_day-clause-head g c =
    let remaining = g.R.Read.remaining in
    let one = version_passed c.args.wanted.now (is_faulted c.read_version.new.device) (remaining (device_of c.args.device.now)) (remaining (device_of c.read_version.new.device)) c.args.pieces.now c.read_version.new.pieces c.in_ok-version.version c.in_ok-version.ensures.line in
    let two = plan_passed c.args.wanted.now (is_faulted c.read_plan_line.new.device) (remaining (device_of c.args.device.now)) (remaining (device_of c.read_version.new.device)) (remaining (device_of c.read_plan_line.new.device)) c.args.pieces.now c.read_version.new.pieces c.read_plan_line.new.pieces c.in_ok-version.version one c.in_ok-read_plan_line.ensures.line in
    let none : has_day c.in_ok-version.version ≡ false = sym c.has_day.ensures ∙ c.if-has_day.false in
    undated_taken c.args.wanted.now (is_faulted c.read_plan_line.new.device) (remaining (device_of c.args.device.now)) (remaining (device_of c.read_version.new.device)) (remaining (device_of c.read_plan_line.new.device)) c.args.pieces.now c.read_version.new.pieces c.read_plan_line.new.pieces c.in_ok-version.version none two

pub returns-in_ok-read_day_line-clause-past : goal.returns-in_ok-read_day_line-clause-past
returns-in_ok-read_day_line-clause-past g c =
    let remaining = g.R.Read.remaining in
    past_head c.args.wanted.now (remaining (device_of c.args.device.now)) (remaining (device_of c.read_day_line.new.device)) c.args.pieces.now c.read_day_line.new.pieces c.in_ok-version.version (returns-in_ok-read_day_line-clause-head g c)

pub returns-else-has_day-clause-past : goal.returns-else-has_day-clause-past
returns-else-has_day-clause-past g c =
    let remaining = g.R.Read.remaining in
    past_head c.args.wanted.now (remaining (device_of c.args.device.now)) (remaining (device_of c.read_plan_line.new.device)) c.args.pieces.now c.read_plan_line.new.pieces c.in_ok-version.version (returns-else-has_day-clause-head g c)
