use Rattle.bx_chart.proofs.Joined.{on_ok, two, worded}
use Rattle.bx_day_chart.proofs.head.add_link_words.Goals as goal

pub returns : goal.returns
returns c = on_ok c.add.result (two c.args.picture.now.text.items _ _ _ _ (worded c.args.picture.now.text.items _ _ _ c.in_ok-add_number.ensures)) c.add.ensures.added
