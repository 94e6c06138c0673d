use Rattle.bx_plan_commands.proofs.CallTimes.{turned}
use Rattle.bx_plan_commands.proofs.quote_files.booking_of.Goals as goal

pub returns-then-end-start : goal.returns-then-end-start
returns-then-end-start c = record { booking = tt; none = turned c.args.call.now.day (λ words. words.0.now) (λ words. words.1.now) c.args.call.now _ _ c.in_ok-start.ensures.times c.if-end-start.true }
