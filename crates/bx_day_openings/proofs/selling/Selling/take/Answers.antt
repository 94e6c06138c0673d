use Rattle.std.proofs.Common.{Some, refl}
use Rattle.bx_day_openings.specs.declared.amending.AmendmentFault.TheVariants.{Memory}
use Rattle.bx_day_openings.specs.declared.selling.Selling.{Selling}
use Rattle.bx_day_openings.proofs.FollowedEvents.{not_amended, of_memory}
use Rattle.bx_day_openings.proofs.selling.Selling.take.Goals as goal

pub returns-then-is_err : goal.returns-then-is_err
returns-then-is_err c none =
    let a = c.args.self.now in
    let b : Selling = record a { tags = c.keep_tag.new.tags; fault = Some Memory } in
    not_amended a b refl c.args.kind c.args.line.now Memory none refl refl (of_memory a.channels c.args.kind c.args.line.now a.exchange)

pub returns-in-Err : goal.returns-in-Err
returns-in-Err c none =
    let a = c.args.self.now in
    let b : Selling = record a { exchange = c.amend_again.new.exchange; fault = Some c.in-Err.fault; tags = c.keep_tag.new.tags } in
    not_amended a b refl c.args.kind c.args.line.now c.in-Err.fault none refl c.in-Err.ensures.kept c.in-Err.ensures.refused
