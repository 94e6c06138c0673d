use Rattle.std.proofs.Common.{refl, arith}
use Rattle.bx_office_world.specs.KnownKeys.{keys_in}
use Rattle.bx_office_world.proofs.Keyings.{key_count, keys_kept, known_still}
use Rattle.bx_office_world.proofs.ledger.Ledger.sell.Goals as goal

pub returns-in-Sold : goal.returns-in-Sold
returns-in-Sold c =
    let requests = c.args.self.now.requests.items in
    known_still (keys_in requests) _ c.args.tag.key c.in-Some.place (keys_kept requests c.in-Some.place c.index_mut.result.now _ c.index_mut.ensures.value refl)
    (omega (arith, c.in-Some.ensures.some.0, key_count requests)) c.in-Some.ensures.some.1
