use Rattle.std.proofs.Common.{◌≡◌, subst₂, sym}
use Rattle.bx_rehearsal_commands.proofs.RunCaptured.{run_kept}
use Rattle.bx_rehearsal_commands.proofs.running.run_in.Goals as goal

pub returns : goal.returns
returns g c =
    let whole = c.run_live-done.ensures.ran in
    let ran = whole.0 in
    let first : c.args.world ≡ c.new-world.result.world.world = search (c.new-telling.ensures, c.new-world.ensures.world) in
    let last : c.run_live-done.new.world.world.world ≡ c.into_world.result = search (c.into_world-telling.ensures, c.clear.ensures, c.into_world.ensures) in
    record {
      ran = record { acts = ran.acts; done = subst₂ (λ (u v : g.row.W.Denot). g.W.World.did u ran.acts v) (sym first) last ran.done.0; goes = ran.goes };
      after = whole.1;
      reached = whole.2;
      kept = run_kept g.F.Write.contents ran.acts c.new-world.result c.run_live-done.new.world c.args.view.file c.args.view.first c.is_whole-is_whole.result c.new-world.ensures.file c.new-world.ensures.first c.is_whole-is_whole.ensures ran.done.1;
    }
