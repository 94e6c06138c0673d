use Rattle.std.proofs.Common.{◌-◌, refl}
use Rattle.bx_office_world.proofs.Keyings.{keys_kept}
use Rattle.bx_office_world.proofs.ledger.Ledger.tell.Goals as goal

pub returns-then-count-gt0 : goal.returns-then-count-gt0
returns-then-count-gt0 c = keys_kept c.args.self.now.requests.items (c.len-count.result - 1) c.index_mut.result.now _ c.index_mut.ensures.value refl
