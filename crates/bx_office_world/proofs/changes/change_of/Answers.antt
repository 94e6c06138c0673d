use Rattle.std.proofs.Common.{refl, inr, subst, List, ℕ}
use Rattle.bx_office_door.proofs.Standing.{is_there}
use Rattle.bx_office_world.specs.Changes.{IsChangeIn, IsBadChange}
use Rattle.bx_office_world.proofs.changes.change_of.Goals as goal

pub returns-in-Ok : goal.returns-in-Ok
returns-in-Ok c = (
  refl,
  record {
    client = c.in_ok-client.client.now;
    there = c.in_ok-client.ensures;
    change = subst (λ (text : List ℕ). IsChangeIn c.args.desk.now.opened.now text c.in-Ok.booking) c.body.ensures c.in-Ok.ensures.change;
  },
)

pub returns-in-Err : goal.returns-in-Err
returns-in-Err c = inr (record {
  client = c.in_ok-client.client.now;
  there = c.in_ok-client.ensures;
  fault = c.in-Err.fault;
  read = subst (λ (text : List ℕ). IsBadChange c.args.desk.now.opened.now text c.in-Err.fault) c.body.ensures c.in-Err.ensures.fault;
  reply = c.refuse.ensures.reply;
  is = rw (← c.bad_status.ensures, ← c.bad_change_words.ensures) c.refuse.ensures.is;
  answered = is_there c.args.number c.refuse.ensures.reply _ _ c.in_ok-client.client.now c.in_ok-client.ensures c.refuse.ensures.answered;
})
