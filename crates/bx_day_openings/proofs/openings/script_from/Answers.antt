use Rattle.std.proofs.Common.{List, ℕ, subst}
use Rattle.csv.specs.Reading.{strip_bom}
use Rattle.bx_devices.specs.Watching.{device_of}
use Rattle.bx_far.specs.ScriptTexts.{IsScript}
use Rattle.bx_day_openings.proofs.Texts.{text_told}
use Rattle.bx_day_openings.proofs.openings.script_from.Goals as goal

pub returns-in-Ok-read-clause-found : goal.returns-in-Ok-read-clause-found
returns-in-Ok-read-clause-found g c =
    let text = c.in-Ok.text.items in
    record {
      text = text;
      told = text_told (g.R.Read.remaining (device_of c.args.input.now)) (g.R.Read.remaining (device_of c.read_octets.new.r)) text c.in-Ok.ensures.all;
      script_of = subst (λ (t : List ℕ). IsScript (strip_bom t) c.in-Ok-read.script) c.deref.ensures.value c.in-Ok-read.ensures.ok;
    }
