use Rattle.std.proofs.Common.{◌≡◌, ◌++◌, List, ℕ, map, subst, refl, ap, ◌∙◌}
use Rattle.std.specs.List.{flat_map}
use Rattle.std.proofs.lemmas.Result.{err_from_is_err_and}
use Rattle.bx_text.specs.Lines.{line_text}
use Rattle.bx_text.specs.Gathering.{Gathers, held}
use Rattle.bx_text.proofs.GatheringSteps.{puts_then, puts_failed}
use Rattle.bx_day.specs.declared.entry.Entry.{Entry}
use Rattle.bx_day.specs.Day.{Day}
use Rattle.bx_day.specs.Telling.{entry_fields, maintenance_fields, outcomes_text}
use Rattle.bx_day.proofs.outcome_lines.put_outcomes.Goals as goal

pub returns-in_err-put_entries : goal.returns-in_err-put_entries
returns-in_err-put_entries g c =
    let p = err_from_is_err_and c.from_residual.result c.from_residual.ensures.1 in
    let d = c.args.exchange.now in
    let first : List ℕ = flat_map line_text (map (entry_fields c.args.given_up.now) c.deref.result.now) in
    let last : List ℕ = line_text (maintenance_fields d.maintenance) in
    let entries : c.deref.result.now ≡ d.entries = c.deref.ensures.value ∙ ap (λ (x : Day). x.entries) c.exchange.view_is in
    let text : outcomes_text c.args.given_up.now d ≡ first ++ last = rw entries refl in
    rw p.1 (puts_failed g.W.Write.contents (held c.args.writer.now c.args.block.now) (held c.put_entries.new.writer c.put_entries.new.block) c.in_err-put_entries.field-0.0 p.0 first last (outcomes_text c.args.given_up.now d) text c.in_err-put_entries.ensures)

pub returns : goal.returns
returns g c =
    let d = c.args.exchange.now in
    let contents = g.W.Write.contents in
    let first : List ℕ = flat_map line_text (map (entry_fields c.args.given_up.now) c.deref.result.now) in
    let whole = puts_then contents (held c.args.writer.now c.args.block.now) (held c.put_entries.new.writer c.put_entries.new.block) (held c.put.new.w c.put.new.self) c.put.result first c.deref-2.result.now c.in_ok-put_entries.ensures c.put.ensures in
    let entries : c.deref.result.now ≡ d.entries = c.deref.ensures.value ∙ ap (λ (x : Day). x.entries) c.exchange.view_is in
    let line : c.deref-2.result.now ≡ line_text (maintenance_fields d.maintenance) = c.deref-2.ensures.0 ∙ c.maintenance_line.ensures ∙ ap (λ (x : Day). line_text (maintenance_fields x.maintenance)) c.exchange.view_is in
    let text : first ++ c.deref-2.result.now ≡ outcomes_text c.args.given_up.now d = ap (λ (es : List Entry). flat_map line_text (map (entry_fields c.args.given_up.now) es) ++ c.deref-2.result.now) entries ∙ ap (λ (t : List ℕ). flat_map line_text (map (entry_fields c.args.given_up.now) d.entries) ++ t) line in
    subst (λ (t : List ℕ). Gathers contents (held c.args.writer.now c.args.block.now) (held c.put.new.w c.put.new.self) c.put.result t) text whole
