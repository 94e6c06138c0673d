use Rattle.std.proofs.Common.{refl}
use Rattle.bx_office_world.proofs.world.Office.serve.Goals as goal

pub returns-in-Some : goal.returns-in-Some
returns-in-Some g c = record {
  next = record {
    next = c.serve_at.result;
    asked = record { desk = c.args.self.now.desk; opened_is = refl; requests = c.args.self.now.ledger.requests.items; served = c.serve_at.ensures.served };
    wanted = rw c.in-Some.is refl;
    waits = rw c.in-Some.is refl;
    opened = refl;
    keys = c.serve_at.ensures.keys;
    given_up = refl;
  };
}

pub returns-in-None : goal.returns-in-None
returns-in-None g c = record {
  next = record {
    next = c.serve_at.result;
    asked = record { desk = c.args.self.now.desk; opened_is = refl; requests = c.args.self.now.ledger.requests.items; served = c.serve_at.ensures.served };
    wanted = rw c.in-None.is refl;
    waits = rw c.in-None.is refl;
    opened = refl;
    keys = c.serve_at.ensures.keys;
    given_up = refl;
  };
}
