use Rattle.bx_chart.proofs.Joined.{on_ok, worded}
use Rattle.bx_chart.proofs.frame.add_service.Goals as goal

pub returns : goal.returns
returns c = on_ok c.add_number.result (worded c.args.picture.now.text.items _ _ _) c.add_number.ensures
