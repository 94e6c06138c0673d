use Rattle.std.proofs.Common.{◌≡◌, ◌∙◌, ◌++◌, ℕ, List, ap, ap₂, length, option_copied, arith}
use Rattle.bx_chart.proofs.Joined.{on_ok, two}
use Rattle.bx_day.specs.declared.entry.Entry.{Entry}
use Rattle.bx_day_chart.specs.Heads.{day_opening, heading, link_words, tally}
use Rattle.bx_day_chart.proofs.head.add_head.Goals as goal

pub returns : goal.returns
returns c =
    let old = c.args.picture.now.text.items in
    let clock = option_copied c.args.clock in
    let t1 = c.add_opening.new.picture.text.items in
    let t2 = c.add_heading.new.picture.text.items in
    let t3 = c.add_tally.new.picture.text.items in
    let opening = c.in_ok-add_opening.ensures ∙ ap (λ (h : ℕ). old ++ day_opening h) c.height.ensures.value in
    let paid = c.in_ok-add_heading.ensures ∙ ap₂ (λ (es : List Entry) (m : ℕ). t1 ++ heading es clock c.args.sight.now.is_over m) c.entries-entries.ensures c.moment-now.ensures.value in
    let counts = c.in_ok-add_tally.ensures ∙ ap (λ (es : List Entry). t2 ++ tally es) c.entries-entries.ensures in
    let spans = c.args.sight.now.outages.spans in
    let count : c.len.result ≡ length spans.items = omega (arith, c.len.ensures, spans.ok.0) in
    let outages = c.in_ok-add_link_words.ensures ∙ ap (λ (n : ℕ). t3 ++ link_words n) count in
    let above = two old _ _ _ _ (two old _ _ _ _ (two old _ _ _ _ opening paid) counts) outages in
    on_ok c.add_legend.result (two old _ _ _ _ above) c.add_legend.ensures
