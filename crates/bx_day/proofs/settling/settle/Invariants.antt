use Rattle.std.proofs.Common.{◌≡◌, map}
use Rattle.bx_day.specs.Day.{Day}
use Rattle.bx_day.specs.Ticks.{after_in}
use Rattle.bx_day.proofs.SettleLemmas.{AreSettledBelow, AreLeft}
use Rattle.bx_day.specs.declared.entry.Link.{Link}
use Rattle.bx_day.proofs.settling.settle.Given as goal

abbrev pub invariant-loop-number : goal.invariant-loop-number
invariant-loop-number l = record {
  left : AreLeft l.number l.fn.live l.fn.waiting l.live l.waiting;
  settled : (link : Link) (d : Day) → l.entries ≡ map (after_in link d) d.entries → AreSettledBelow link d l.number l.fn.live l.fn.waiting l.following l.live l.waiting;
}
