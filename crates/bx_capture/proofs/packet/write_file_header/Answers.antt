use Rattle.std.proofs.Common.{rules}
use Rattle.bx_capture.proofs.packet.write_file_header.Goals as goal

pub returns : goal.returns
returns g c = search rules steps 400000
