use Rattle.bx_chart.proofs.Joined.{on_ok, two, worded}
use Rattle.bx_chart.proofs.frame.add_must.Goals as goal

pub returns : goal.returns
returns c = on_ok c.add_number-2.result (λ q. two c.args.picture.now.text.items _ _ _ _ (worded c.args.picture.now.text.items _ _ _ c.in_ok-add_number.ensures) (worded c.add_number.new.self.text.items _ _ _ q)) c.add_number-2.ensures
