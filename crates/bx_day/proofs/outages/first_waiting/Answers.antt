use Rattle.std.proofs.Common.{◌≡◌, ◌≤◌, ◌<◌, ◌+◌, ℕ, true, arith, sym, subst}
use Rattle.bx_channels.specs.ChannelNumbers.{IsChannel}
use Rattle.bx_day.specs.Day.{is_unoffered, entry_at}
use Rattle.bx_day.specs.Outlasting.{AreEarliest}
use Rattle.bx_day.specs.Reading.{Seated}
use Rattle.bx_day.proofs.Once.{each_at}
use Rattle.bx_day.proofs.WaitingAnew.{nothing_seen, one_seen}
use Rattle.bx_day.proofs.outages.first_waiting.Goals as goal
use Rattle.bx_day.proofs.Receive.{unoffered_accepted}

pub loop-index-init : goal.loop-index-init
loop-index-init c = nothing_seen c.args.entries.now

pub put_waiting-requires-clause-slots : goal.put_waiting-requires-clause-slots
put_waiting-requires-clause-slots c k i is =
    let low : i < c.loop-index.index = ((c.loop-index.invariant.each k).there i is).0 in
    omega (arith, low, c.loop-index-test.true)

pub loop-index-preserved : goal.loop-index-preserved
loop-index-preserved c =
    let es = c.args.entries.now in
    let n = c.loop-index.index in
    subst (AreEarliest es (n + 1)) (sym c.put_waiting.ensures) (one_seen es n c.loop-index.first (λ waits. high n (each_at Seated es n (omega (arith, c.loop-index-test.true)) c.requires.seated) waits) c.loop-index.invariant)
  where
    high : (n : ℕ) → Seated (entry_at c.args.entries.now n) → is_unoffered (entry_at c.args.entries.now n).standing ≡ true → (entry_at c.args.entries.now n).channel < 32
    high n seat waits =
        let e = entry_at c.args.entries.now n in
        let on : IsChannel e.channel = seat.channel (unoffered_accepted e.standing waits) in
        let most : e.channel ≤ 31 = on.1 in
        omega (arith, most)
