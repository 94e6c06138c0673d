use Rattle.std.proofs.Common.{rules, sym, ◌∙◌}
use Rattle.std.proofs.lemmas.Result.{err_from_is_err_and}
use Rattle.bx_live_commands.proofs.OpenOffices.{last_of}
use Rattle.bx_live_commands.proofs.ToldLive.{live_stopped}
use Rattle.bx_live_commands.proofs.live_files.live_on_files.Goals as goal

pub returns-in_err-end-clause-refused : goal.returns-in_err-end-clause-refused
returns-in_err-end-clause-refused g c =
    let p = err_from_is_err_and c.from_residual.result c.from_residual.ensures.1 in
    rw (p.1, p.2)
    (live_stopped g.row.H.Denot _ c.args.request g.H.File.Write.contents g.W.Write.contents c.args.output.now c.in_err-end.field-0.0 c.in_err-end.ensures.stopped)

pub returns-then-has_call-clause-refused : goal.returns-then-has_call-clause-refused
returns-then-has_call-clause-refused g c = record {
  day = c.in_ok-end.end.exchange;
  told = c.in_ok-end.end.given_up.items;
  live = c.in_ok-end.ensures.ran;
  up = sym c.has_call.ensures ∙ c.if-has_call.true;
  last = last_of g.row.H.Denot g.H.File.Write.contents c.args.request c.in_ok-end.end.exchange c.in_ok-end.end.given_up.items c.in_ok-end.ensures.ran (sym c.has_call.ensures ∙ c.if-has_call.true);
  written = search rules;
}
