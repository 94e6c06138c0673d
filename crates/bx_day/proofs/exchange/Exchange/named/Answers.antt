use Rattle.std.proofs.Common.{◌≡◌, ◌<◌, ◌≤◌, ◌+◌, List, Some, None, true, false, sym, subst, ap, ◌∙◌, length, arith, []}
use Rattle.std.proofs.lemmas.Bool.{false_from_ne_true, true≢false, false≢true}
use Rattle.std.specs.Prelude.{is_some}
use Rattle.bx_calls.specs.Said.{said_under}
use Rattle.bx_events.specs.declared.rules.Rules.TheVariants.{Three}
use Rattle.bx_q931.specs.Messages.{PlainMessage, plain_message}
use Rattle.bx_q931.specs.declared.kind.Kind.TheVariants.{Setup}
use Rattle.bx_q931.specs.declared.reference.Reference.TheVariants.{Dummy}
use Rattle.bx_day.specs.Day.{Day, entry_at}
use Rattle.bx_day.specs.Receipts.{names}
use Rattle.bx_day.specs.Reading.{IsExchange}
use Rattle.bx_day.specs.Slots.{slot_at, IsLiveOn}
use Rattle.bx_day.specs.declared.entry.Entry.{Entry}
use Rattle.bx_day.proofs.SlotLemmas.{IsFirstBelow, first_stays, first_found, first_is, first_inside, named_there, named_live, live_seated, slot_is, slot_none, entry_is, some_is}
use Rattle.bx_day.proofs.exchange.Exchange.named.Goals.{in-Some+then-is_named, in-Some+else-is_named, in_default}
use Rattle.bx_day.proofs.exchange.Exchange.named.Goals as goal

pub index-requires : goal.index-requires
index-requires c =
    let x = c.self.inside in
    let n = c.loop-number.number in
    let slot : slot_at x.live n ≡ Some c.in-Some.index = slot_is x.live n _ (Some c.in-Some.index) (omega (arith, c.self.invariant.slots.live_size, c.loop-number-test.true)) c.in-Some.is in
    omega (arith, ((c.self.invariant.slots.lives n).there c.in-Some.index slot).0, x.entries.ok)

pub loop-number-preserved : goal.loop-number-preserved
loop-number-preserved c u m =
    let d = c.args.self.now in
    let x = c.self.inside in
    let n = c.loop-number.number in
    let s = said_under u c.args.reference c.args.flag m in
    let test = names s in
    let lives : IsLiveOn d.entries n (slot_at x.live n) = subst (λ (y : Day). IsLiveOn y.entries n (slot_at x.live n)) c.self.view_is (c.self.invariant.slots.lives n) in
    let size : n < length x.live = omega (arith, c.self.invariant.slots.live_size, c.loop-number-test.true) in
    let entries : x.entries.items ≡ d.entries = ap (λ (y : Day). y.entries) c.self.view_is in
    elim c.match-self-number.branch [
      | in-Some+then-is_named w ↦
          let j = w.in-Some.index in
          let slot : slot_at x.live n ≡ Some j = slot_is x.live n _ (Some j) size w.in-Some.is in
          let inside : j < length d.entries = (lives.there j slot).0 in
          let item : w.index.result.now ≡ entry_at d.entries j = entry_is x.entries.items d j w.index.result.now entries (subst (λ (es : List Entry). j < length es) (sym entries) inside) w.index.ensures in
          let here : test (entry_at d.entries j) ≡ true = ap test (sym item) ∙ sym (w.is_named.ensures u m) ∙ w.if-is_named.true in
          subst (IsFirstBelow test d.entries (n + 1)) (sym (w.first-is ∙ ap (λ k. Some k) w.earlier.ensures))
          (first_found test d.entries n j c.loop-number.first inside here (λ k lt on t. some_is k j (sym (named_there s d.entries n k (slot_at x.live n) lives lt on t) ∙ slot)) (c.loop-number.invariant u m))
      | in-Some+else-is_named w ↦
          let j = w.in-Some.index in
          let slot : slot_at x.live n ≡ Some j = slot_is x.live n _ (Some j) size w.in-Some.is in
          let inside : j < length d.entries = (lives.there j slot).0 in
          let item : w.index.result.now ≡ entry_at d.entries j = entry_is x.entries.items d j w.index.result.now entries (subst (λ (es : List Entry). j < length es) (sym entries) inside) w.index.ensures in
          let here : test (entry_at d.entries j) ≡ false = ap test (sym item) ∙ sym (w.is_named.ensures u m) ∙ w.if-is_named.false in
          subst (IsFirstBelow test d.entries (n + 1)) (sym w.first-is)
          (first_stays test d.entries n c.loop-number.first (λ k lt on. false_from_ne_true (test (entry_at d.entries k)) (λ t.
          let same : k ≡ j = some_is k j (sym (named_there s d.entries n k (slot_at x.live n) lives lt on t) ∙ slot) in
          true≢false (sym t ∙ subst (λ i. test (entry_at d.entries i) ≡ false) (sym same) here))) (c.loop-number.invariant u m))
      | in_default w ↦
          let slot : slot_at x.live n ≡ None = slot_none x.live n _ size w.in_default.not-Some in
          subst (IsFirstBelow test d.entries (n + 1)) (sym w.first-is)
          (first_stays test d.entries n c.loop-number.first (λ k lt on. false_from_ne_true (test (entry_at d.entries k)) (λ t.
          false≢true (ap is_some (sym slot ∙ named_there s d.entries n k (slot_at x.live n) lives lt on t)))) (c.loop-number.invariant u m))
    ]

pub returns-clause-first : goal.returns-clause-first
returns-clause-first c u m =
    let d = c.args.self.now in
    let s = said_under u c.args.reference c.args.flag m in
    let h : IsExchange d = subst IsExchange c.self.view_is c.self.invariant.exchange in
    first_is (names s) d.entries c.loop-number.number c.loop-number.first (λ k lt t.
    let is = live_seated d k h lt (named_live s (entry_at d.entries k) t) in
    let high : (entry_at d.entries k).channel ≤ 31 = is.1 in
    omega (arith, high, c.loop-number-test.false)) (c.loop-number.invariant u m)

pub returns-clause-inside : goal.returns-clause-inside
returns-clause-inside c =
    let m : PlainMessage = plain_message Dummy Setup [] in
    first_inside (names (said_under Three c.args.reference c.args.flag m)) c.args.self.now.entries c.loop-number.number c.loop-number.first (c.loop-number.invariant Three m)
