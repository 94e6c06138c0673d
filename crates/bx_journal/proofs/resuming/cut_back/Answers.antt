use Rattle.std.proofs.Common.{◌≡◌, ◌+◌, ℕ, List, length, take, ap, sym, ◌∙◌, arith}
use Rattle.std.proofs.lemmas.List.{take_all}
use Rattle.bx_journal.specs.Disk.{Only, Follows, IsCutAt}
use Rattle.bx_journal.specs.Inside.{IsCutBack}
use Rattle.bx_journal.proofs.Moments.{started, goes_on}
use Rattle.bx_journal.proofs.resuming.cut_back.Goals as goal

uncut : (len : ℕ) (text left : List ℕ) → left ≡ text → IsCutBack len text left
uncut len text left is = (len + length text, omega arith, is ∙ sym (take_all (len + length text) text (omega arith)))

leaves : (len : ℕ) (text : List ℕ) (before after : List ℕ → Type 0) → Only text before → Follows (IsCutAt len) before after → (c : List ℕ) → after c → IsCutBack len text c
leaves len text before after only follows c left =
    let from = follows c left in
    let n = from.2 in
    (n.0, n.1, n.2 ∙ ap (take n.0) (only from.0 from.1))

pub returns-in_err-cut-clause-any_moment : goal.returns-in_err-cut-clause-any_moment
returns-in_err-cut-clause-any_moment g c = λ text only.
    let P = IsCutBack c.args.len text in
    let here = leaves c.args.len text _ _ only c.cut.ensures.crash in
    let at_start = started g.D.Disk.moment g.D.Disk.left_since c.args.disk.now P (λ f left. uncut c.args.len text f (only f (g.met.D.Disk.only_now c.args.disk.now f left))) in
    let cut = goes_on g.D.Disk.moment g.D.Disk.left_since c.args.disk.now c.args.disk.now c.cut.new.self P _ at_start c.cut.ensures.time here in
    cut

pub returns-clause-any_moment : goal.returns-clause-any_moment
returns-clause-any_moment g c = λ text only.
    let P = IsCutBack c.args.len text in
    let here = leaves c.args.len text _ _ only c.cut.ensures.crash in
    let at_start = started g.D.Disk.moment g.D.Disk.left_since c.args.disk.now P (λ f left. uncut c.args.len text f (only f (g.met.D.Disk.only_now c.args.disk.now f left))) in
    let cut = goes_on g.D.Disk.moment g.D.Disk.left_since c.args.disk.now c.args.disk.now c.cut.new.self P _ at_start c.cut.ensures.time here in
    let synced = goes_on g.D.Disk.moment g.D.Disk.left_since c.args.disk.now c.cut.new.self c.sync.new.self P _ cut c.sync.ensures.time (λ f now. here f (c.sync.ensures.crash f now)) in
    synced
