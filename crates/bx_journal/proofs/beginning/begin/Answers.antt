use Rattle.std.proofs.Common.{◌⊎◌, inl, inr, ⊎_elim, ◌≡◌, [], ℕ, List, take, ap, sym, ◌∙◌, subst}
use Rattle.bx_journal.specs.Disk.{Only, IsTorn}
use Rattle.bx_journal.specs.declared.head.Head.{Head}
use Rattle.bx_journal.specs.Heads.{IsJournalDay}
use Rattle.bx_journal.specs.Text.{journal_text}
use Rattle.bx_journal.specs.Logging.{IsUnbegun}
use Rattle.bx_journal.proofs.Moments.{started, goes_on}
use Rattle.bx_journal.proofs.Logged.{ok_then}
use Rattle.bx_journal.proofs.Prefixes.{head_prefix}
use Rattle.bx_journal.proofs.beginning.begin.Goals as goal

-- what the write of the head may leave
leaves : (head : Head) (text c : List ℕ) → IsJournalDay head.day → text ≡ journal_text head [] → (c ≡ []) ⊎ IsTorn text [] c → IsUnbegun head c
leaves head text c day is (inl none) = subst (IsUnbegun head) (sym none) (head_prefix head day 0)
leaves head text c day is (inr torn) = subst (IsUnbegun head) (sym (torn.1 ∙ ap (λ (h : List ℕ). take torn.0 h) is)) (head_prefix head day torn.0)

pub returns-in_err-append-clause-any_moment : goal.returns-in_err-append-clause-any_moment
returns-in_err-append-clause-any_moment g c = λ day holds only.
    let P = IsUnbegun c.args.head.now in
    let text = c.deref.ensures.0 ∙ c.head_text-text.ensures in
    let here : (f : List ℕ) → g.D.Disk.may_leave c.append.new.self f → P f = λ f left. leaves c.args.head.now c.deref.result.now f day text (⊎_elim (λ was. inl (only f was)) (λ torn. inr (torn [] holds)) (c.append.ensures.crash f left)) in
    let at_start = started g.D.Disk.moment g.D.Disk.left_since c.args.disk.now P (λ f left. subst P (sym (only f (g.met.D.Disk.only_now c.args.disk.now f left))) (head_prefix c.args.head.now day 0)) in
    let written = goes_on g.D.Disk.moment g.D.Disk.left_since c.args.disk.now c.args.disk.now c.append.new.self P _ at_start c.append.ensures.time here in
    written

pub returns-clause-any_moment : goal.returns-clause-any_moment
returns-clause-any_moment g c = λ day holds only.
    let P = IsUnbegun c.args.head.now in
    let text = c.deref.ensures.0 ∙ c.head_text-text.ensures in
    let here : (f : List ℕ) → g.D.Disk.may_leave c.append.new.self f → P f = λ f left. leaves c.args.head.now c.deref.result.now f day text (⊎_elim (λ was. inl (only f was)) (λ torn. inr (torn [] holds)) (c.append.ensures.crash f left)) in
    let at_start = started g.D.Disk.moment g.D.Disk.left_since c.args.disk.now P (λ f left. subst P (sym (only f (g.met.D.Disk.only_now c.args.disk.now f left))) (head_prefix c.args.head.now day 0)) in
    let written = goes_on g.D.Disk.moment g.D.Disk.left_since c.args.disk.now c.args.disk.now c.append.new.self P _ at_start c.append.ensures.time here in
    let synced = goes_on g.D.Disk.moment g.D.Disk.left_since c.args.disk.now c.append.new.self c.sync.new.self P _ written c.sync.ensures.time (λ f now. here f (c.sync.ensures.crash f now)) in
    synced

pub returns-clause-begun : goal.returns-clause-begun
returns-clause-begun g c = ok_then c.sync.result c.sync.ensures.durable (λ durable day holds.
    let text = c.deref.ensures.0 ∙ c.head_text-text.ensures in
    let written = c.in_ok-append.ensures.written [] holds in
    record {
      day_is = day;
      events_are = tt;
      written = subst (g.D.Disk.holds c.sync.new.self) text (c.sync.ensures.kept _ written);
      durable = subst (λ t. Only t (g.D.Disk.may_leave c.sync.new.self)) text (durable _ written);
    })
