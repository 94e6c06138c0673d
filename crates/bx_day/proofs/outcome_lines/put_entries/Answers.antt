use Rattle.std.proofs.Common.{◌≡◌, ℕ, List, [], ◌∷◌, ◌<◌, Option, length, map, get_or, sym, ap, ◌∙◌, arith}
use Rattle.std.specs.Prelude.{decimal}
use Rattle.std.proofs.lemmas.List.{get_or-map, get_or_read, length-map}
use Rattle.std.proofs.lemmas.Result.{err_from_is_err_and}
use Rattle.bx_text.specs.Gathering.{held}
use Rattle.bx_text.specs.Lines.{line_text}
use Rattle.bx_text.proofs.GatheringSteps.{line_put, line_failed}
use Rattle.bx_day.specs.Day.{no_entry}
use Rattle.bx_day.specs.Reading.{outcome_of}
use Rattle.bx_day.specs.Telling.{entry_fields, told_fields}
use Rattle.bx_day.specs.declared.outcome.GivenUp.{GivenUp}
use Rattle.bx_day.specs.declared.entry.Entry.{Entry}
use Rattle.bx_day.proofs.outcome_lines.put_entries.Goals as goal

pub returns-in_err-put : goal.returns-in_err-put
returns-in_err-put g c =
    let p = err_from_is_err_and c.from_residual.result c.from_residual.ensures.1 in
    let entries = c.args.entries.now in
    let i = c.loop-entry.entry-index in
    let told : Entry → List (List ℕ) = entry_fields c.args.given_up.now in
    let within : i < length (map told entries) = omega (arith, length-map entries told, c.loop-entry-test.true) in
    let item = get_or_read entries i c.entry-item.result c.loop-entry-test.true c.entry-item.is no_entry in
    let line : get_or (map told entries) i [] ≡ told c.entry-item.result = get_or-map told entries i no_entry [] c.loop-entry-test.true ∙ ap told (sym item) in
    rw p.1 (line_failed g.W.Write.contents (map told entries) i (held c.args.writer.now c.args.block.now) (held c.loop-entry.writer c.loop-entry.block) (held c.put.new.w c.put.new.self) c.in_err-put.field-0.0 p.0 (told c.entry-item.result) c.deref.result.now within line
    (c.deref.ensures.0 ∙ c.entry_line.ensures ∙ ap (λ (how : Option GivenUp). line_text (decimal c.entry-item.result.row ∷ told_fields how (outcome_of c.entry-item.result.standing))) c.how_given_up.ensures) c.loop-entry.invariant c.in_err-put.ensures)

pub loop-entry-preserved : goal.loop-entry-preserved
loop-entry-preserved g c =
    let entries = c.args.entries.now in
    let i = c.loop-entry.entry-index in
    let told : Entry → List (List ℕ) = entry_fields c.args.given_up.now in
    let within : i < length (map told entries) = omega (arith, length-map entries told, c.loop-entry-test.true) in
    let item = get_or_read entries i c.entry-item.result c.loop-entry-test.true c.entry-item.is no_entry in
    let line : get_or (map told entries) i [] ≡ told c.entry-item.result = get_or-map told entries i no_entry [] c.loop-entry-test.true ∙ ap told (sym item) in
    line_put g.W.Write.contents (map told entries) i (held c.args.writer.now c.args.block.now) (held c.loop-entry.writer c.loop-entry.block) (held c.put.new.w c.put.new.self) (told c.entry-item.result) c.deref.result.now within line
    (c.deref.ensures.0 ∙ c.entry_line.ensures ∙ ap (λ (how : Option GivenUp). line_text (decimal c.entry-item.result.row ∷ told_fields how (outcome_of c.entry-item.result.standing))) c.how_given_up.ensures) c.loop-entry.invariant c.in_ok-put.ensures
