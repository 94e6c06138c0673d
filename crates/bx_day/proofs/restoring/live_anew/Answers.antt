use Rattle.std.proofs.Common.{◌≡◌, ◌≤◌, ◌<◌, ◌+◌, true, ℕ, arith, sym, subst}
use Rattle.bx_channels.specs.ChannelNumbers.{IsChannel}
use Rattle.bx_day.specs.Day.{is_live, entry_at}
use Rattle.bx_day.specs.Reading.{Seated}
use Rattle.bx_day.specs.RestoringInside.{AreLiveBelow}
use Rattle.bx_day.proofs.Once.{each_at}
use Rattle.bx_day.proofs.Restored.{nothing_live, one_live}
use Rattle.bx_day.proofs.SlotLemmas.{live_accepted}
use Rattle.bx_day.proofs.restoring.live_anew.Goals as goal

pub loop-index-init : goal.loop-index-init
loop-index-init c = nothing_live c.args.entries.now

pub loop-index-preserved : goal.loop-index-preserved
loop-index-preserved c =
    let es = c.args.entries.now in
    let n = c.loop-index.index in
    subst (AreLiveBelow es (n + 1)) (sym c.put_live.ensures) (one_live es n c.loop-index.live c.requires.apart (omega (arith, c.loop-index-test.true)) (λ live. high n (each_at Seated es n (omega (arith, c.loop-index-test.true)) c.requires.seated) live) c.loop-index.invariant)
  where
    high : (n : ℕ) → Seated (entry_at c.args.entries.now n) → is_live (entry_at c.args.entries.now n).standing ≡ true → (entry_at c.args.entries.now n).channel < 32
    high n seat live =
        let e = entry_at c.args.entries.now n in
        let on : IsChannel e.channel = seat.channel (live_accepted e.standing live) in
        let most : e.channel ≤ 31 = on.1 in
        omega (arith, most)
