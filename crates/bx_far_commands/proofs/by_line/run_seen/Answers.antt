use Rattle.std.proofs.Common.{◌≡◌, subst₂, sym}
use Rattle.bx_far_commands.proofs.by_line.run_seen.Goals as goal

pub returns : goal.returns
returns g c =
    let whole = c.run_far_live.ensures.ran in
    let ran = whole.0 in
    let first : c.args.world ≡ c.new-world.result.world.world = search (c.new-telling.ensures, c.new-world.ensures.world) in
    let last : c.run_far_live.new.world.world.world ≡ c.into_world.result = search (c.into_world-telling.ensures, c.into_world.ensures) in
    record {
      acts = ran.acts;
      run = record {
        went = subst₂ (λ (u v : g.row.W.Denot). g.W.World.did u ran.acts v) (sym first) last ran.done.0;
        run = ran.goes;
        day = whole.1;
        reached = whole.2;
      };
      captured = record {
        old = c.new-world.result;
        new = c.run_far_live.new.world;
        into = c.new-world.ensures.file;
        begins = c.new-world.ensures.first;
        captures = ran.done.1;
        whole = c.is_whole-is_whole.ensures;
      };
    }
