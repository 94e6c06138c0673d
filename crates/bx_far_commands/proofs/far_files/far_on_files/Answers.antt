use Rattle.bx_devices.specs.Watching.{device_of}
use Rattle.bx_far_commands.proofs.KeptDays.{all_told, cut_refusal}
use Rattle.bx_far_commands.proofs.far_files.far_on_files.Goals as goal

pub returns-clause-done : goal.returns-clause-done
returns-clause-done g c =
    all_told g.H.File.Write.contents c.args.request.sight.capture (g.W.Write.contents (device_of c.args.output.now)) (g.W.Write.contents (device_of c.far_files.new.output)) c.in_ok-is_whole.is_whole c.in_ok-is_whole.ensures.told c.captured.result c.captured.ensures.whole

pub returns-clause-refused : goal.returns-clause-refused
returns-clause-refused g c =
    cut_refusal g.H.File.Write.contents g.W.Write.contents c.args.request c.args.output.now c.far_files.new.output c.in_ok-is_whole.is_whole c.in_ok-is_whole.ensures.told c.captured.result c.captured.ensures.cut
