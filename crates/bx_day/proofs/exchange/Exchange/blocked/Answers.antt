use Rattle.std.proofs.Common.{◌≡◌, ◌<◌, ◌+◌, None, sym, subst, ap, ◌∙◌, length, arith}
use Rattle.std.proofs.lemmas.Bool.{false≢true}
use Rattle.std.proofs.lemmas.List.{get_or_default}
use Rattle.std.specs.Prelude.{is_some}
use Rattle.bx_day.specs.Day.{Day, is_held}
use Rattle.bx_day.specs.Reading.{IsExchange}
use Rattle.bx_day.specs.Slots.{slot_at, IsLiveOn}
use Rattle.bx_day.proofs.SlotLemmas.{IsBlockedBelow, none_blocked, blocked_held, blocked_free, all_blocked, held_is, unheld}
use Rattle.bx_day.proofs.exchange.Exchange.blocked.Goals.{in-Some+then-is_some, in-Some+else-is_some, in_default}
use Rattle.bx_day.proofs.exchange.Exchange.blocked.Goals as goal

pub loop-number-init : goal.loop-number-init
loop-number-init c =
    let d = c.args.self.now in
    subst (IsBlockedBelow d 1) (sym (ap (λ (y : Day). y.maintenance) c.self.view_is)) (none_blocked d (subst IsExchange c.self.view_is c.self.invariant.exchange))

pub loop-number-preserved : goal.loop-number-preserved
loop-number-preserved c =
    let d = c.args.self.now in
    let x = c.self.inside in
    let n = c.loop-number.number in
    let h : IsExchange d = subst IsExchange c.self.view_is c.self.invariant.exchange in
    let size : n < length x.live = omega (arith, c.self.invariant.slots.live_size, c.loop-number-test.true) in
    let lives : IsLiveOn d.entries n (slot_at x.live n) = subst (λ (y : Day). IsLiveOn y.entries n (slot_at x.live n)) c.self.view_is (c.self.invariant.slots.lives n) in
    let held : is_held d.entries n ≡ is_some (slot_at x.live n) = held_is d.entries n (slot_at x.live n) lives in
    elim c.match-new.branch [
      | in-Some+then-is_some w ↦
          subst (IsBlockedBelow d (n + 1)) (sym w.blocked-is) (blocked_held d n w.in-Some.channel c.loop-number.blocked w.with-blocked.result w.in-Some.ensures.value (held ∙ ap is_some (get_or_default x.live n None _ size) ∙ sym w.is_some.ensures ∙ w.if-is_some.true) w.with-blocked.ensures.added w.with-blocked.ensures.others c.loop-number.invariant)
      | in-Some+else-is_some w ↦
          subst (IsBlockedBelow d (n + 1)) (sym w.blocked-is) (blocked_free d n c.loop-number.blocked (held ∙ ap is_some (get_or_default x.live n None _ size) ∙ sym w.is_some.ensures ∙ w.if-is_some.false) c.loop-number.invariant)
      | in_default w ↦
          subst (IsBlockedBelow d (n + 1)) (sym w.blocked-is) (blocked_free d n c.loop-number.blocked (unheld d n h (λ is. false≢true (w.in_default.ensures.exactly.1 is))) c.loop-number.invariant)
    ]

pub returns : goal.returns
returns c = all_blocked c.args.self.now c.loop-number.number c.loop-number.blocked (subst IsExchange c.self.view_is c.self.invariant.exchange) (omega (arith, c.loop-number-test.false)) c.loop-number.invariant
