use Rattle.bx_devices.specs.Watching.{device_of}
use Rattle.bx_far_commands.proofs.ToldLines.{all_told, cut_refusal}
use Rattle.bx_far_commands.proofs.line_files.far_by_line.Goals as goal

pub returns-clause-done : goal.returns-clause-done
returns-clause-done g c =
    all_told g.row.H.Denot g.H.File.Write.contents c.args.request c.capture_asked.result (g.W.Write.contents (device_of c.args.output.now)) (g.W.Write.contents (device_of c.far_line_files.new.output)) c.in_ok-is_whole.is_whole c.capture_asked.ensures
    c.in_ok-is_whole.ensures.told c.captured.result c.captured.ensures.whole

pub returns-clause-refused : goal.returns-clause-refused
returns-clause-refused g c =
    cut_refusal g.row.H.Denot g.H.File.Write.contents c.args.request g.W.Write.contents c.capture_asked.result c.args.output.now c.far_line_files.new.output c.in_ok-is_whole.is_whole c.capture_asked.ensures
    c.in_ok-is_whole.ensures.told c.captured.result c.captured.ensures.cut
