use Rattle.bx_office.proofs.Verdicts.{found, is_question, verdict_is}
use Rattle.bx_office.proofs.heads.gated.Goals as goal

pub returns-clause-verdict : goal.returns-clause-verdict
returns-clause-verdict c h at = verdict_is c.args.place c.args.input.now c.args.spans.now c.args.head.now h _ c.let_through.result at
    (is_question _ _ _ _ c.of-method.ensures c.of-target.ensures (found c.value_of-host.result _ c.value_of-host.ensures) (found c.value_of-origin.result _ c.value_of-origin.ensures) (found c.value_of-content.result _ c.value_of-content.ensures) (found c.value_of-key.result _ c.value_of-key.ensures)
    c.are_doubled.ensures c.are_coded.ensures c.says_length.ensures)
    c.let_through.ensures
