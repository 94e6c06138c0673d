use Rattle.std.proofs.Common.{◌≡◌, OnOk, List, Bool, [], length, sym, ap, subst, ◌∙◌}
use Rattle.bx_day.specs.Day.{Day}
use Rattle.bx_live.specs.Runs.{Between}
use Rattle.bx_sales.specs.Sold.{AreSoldInTurn}
use Rattle.bx_market.specs.Choices.{eligible_marks}
use Rattle.bx_market.specs.Choosing.{IsBestOnLeft}
use Rattle.bx_market.specs.Choosing.{chosen_rows}
use Rattle.bx_market.specs.Offers.{OrOver}
use Rattle.bx_market.specs.Stands.{Within, Filing}
use Rattle.bx_market.proofs.Eligible.{eligible_count}
use Rattle.bx_market.proofs.Noted.{always_ok, moment_sold}
use Rattle.bx_market.proofs.offering.sell_chosen.Goals as goal

pub sell_at_once-requires : goal.sell_at_once-requires
sell_at_once-requires g c = c.requires.best.best.one_each

pub note_all-requires-clause-eligible : goal.note_all-requires-clause-eligible
note_all-requires-clause-eligible g c = ap length c.requires.eligible ∙ eligible_count c.args.exchange.now.moment (length c.args.exchange.now.entries) c.args.batch.now

pub note_all-requires-clause-chosen : goal.note_all-requires-clause-chosen
note_all-requires-clause-chosen g c = c.requires.best.best.one_each

pub returns-then-sell_at_once-clause-sold : goal.returns-then-sell_at_once-clause-sold
returns-then-sell_at_once-clause-sold g c =
    let d = c.args.exchange.now in
    let d1 = c.sell_at_once.new.exchange in
    let rows = chosen_rows c.args.batch.now c.args.choice.now.chosen.items in
    let sold = subst (λ (left : List Bool). AreSoldInTurn left rows d d1) c.channels_left-left.ensures (c.sell_at_once.ensures.sold c.if-sell_at_once.true) in
    c.note_all.ensures c.args.channels d d1 (sym c.moment-moment.ensures.value) c.requires.eligible c.requires.best.best sold

pub returns-then-sell_at_once-clause-moment : goal.returns-then-sell_at_once-clause-moment
returns-then-sell_at_once-clause-moment g c =
    always_ok c.note_all.result (moment_sold c.channels_left-left.result (chosen_rows c.args.batch.now c.args.choice.now.chosen.items) c.args.exchange.now c.sell_at_once.new.exchange (c.sell_at_once.ensures.sold c.if-sell_at_once.true))

pub sell_in_turn-requires-clause-eligible : goal.sell_in_turn-requires-clause-eligible
sell_in_turn-requires-clause-eligible g c =
    subst (λ (x : Day). c.args.choice.now.eligible.items ≡ eligible_marks x.moment (length x.entries) c.args.batch.now) (sym (c.sell_at_once.ensures.kept c.if-sell_at_once.false)) c.requires.eligible

pub sell_in_turn-requires-clause-best : goal.sell_in_turn-requires-clause-best
sell_in_turn-requires-clause-best g c =
    subst (λ (x : Day). IsBestOnLeft c.args.channels x c.args.batch.now c.args.choice.now.chosen.items) (sym (c.sell_at_once.ensures.kept c.if-sell_at_once.false)) c.requires.best

pub returns-clause-sold : goal.returns-clause-sold
returns-clause-sold g c =
    subst (λ (x : Day). OrOver g.W.Market.dealt c.args.channels c.args.world.now c.sell_in_turn.new.world (Filing x x c.args.tag c.args.batch.now []) (Within (Between c.sell_in_turn.new.exchange)) c.sell_in_turn.result)
    (c.sell_at_once.ensures.kept c.if-sell_at_once.false) c.sell_in_turn.ensures.sold

pub returns-clause-moment : goal.returns-clause-moment
returns-clause-moment g c =
    subst (λ (x : Day). OnOk c.sell_in_turn.result (c.sell_in_turn.new.exchange.moment ≡ x.moment)) (c.sell_at_once.ensures.kept c.if-sell_at_once.false) c.sell_in_turn.ensures.moment
