use Rattle.std.proofs.Common.{◌≡◌, ◌++◌, drop}
use Rattle.bx_market.specs.Choices.{promised}
use Rattle.bx_market.proofs.choosing.promised.Given as goal

abbrev pub invariant-loop-entry : goal.invariant-loop-entry
invariant-loop-entry l = l.rows ++ promised l.channels l.moment (drop l.entry-index l.exchange.entries) ≡ promised l.channels l.moment l.exchange.entries
