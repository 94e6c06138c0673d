use Rattle.std.proofs.Common.{refl, inr}
use Rattle.bx_line_world.proofs.line_world.LineWorldWorld.write_turn.Goals as goal

pub returns : goal.returns
returns g c = record {
  logged = refl;
  schedule = refl;
  line = record { messages = c.args.sent.now; text = inr (c.args._moment, refl); gives = c.give_all.ensures };
  second = (refl, refl);
}
