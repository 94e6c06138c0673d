use Rattle.std.proofs.Common.{◌≡◌, ◌≤◌, ◌+◌, Bool, List, Option, None, length, map, arith, sym, subst, ap, ◌∙◌}
use Rattle.bx_calls.specs.PlainCalls.{PlainUserCall}
use Rattle.bx_far.specs.declared.row.ScriptRow.{ScriptRow}
use Rattle.bx_far.specs.FarDay.{FarDay, Begun, begin_rows, far_begun, far_tick, no_messages, second_said, second_maintenance, with_held}
use Rattle.bx_calls.specs.Sending.{Sent, in_order, spelled}
use Rattle.bx_far.specs.Seats.{AreSeated, live_calls}
use Rattle.bx_far.specs.Inside.{calls_now, call_slot_at}
use Rattle.bx_far.specs.BegunTicks.{after_slot}
use Rattle.bx_far.proofs.Passing.{few, started, early, ticked_is, later_split, rows_room, seconds_size, seconds_seated, seconds_free}
use Rattle.bx_far.proofs.far.Far.tick.Goals.{After-spell}
use Rattle.bx_far.proofs.far.Far.tick.Goals as goal

pub invariant_of-turn : goal.invariant_of-turn
invariant_of-turn c =
    let x = c.self.inside in
    let t = x.moment + 1 in
    let was : c.replace-calls.result ≡ x.calls = c.replace-calls.ensures.value in
    let now : c.second-said.new.calls ≡ map (after_slot t) x.calls = c.second-said.ensures.calls ∙ ap (map (after_slot t)) was in
    record {
      size = ap length now ∙ seconds_size t x.calls ∙ c.self.invariant.size;
      seated = subst (AreSeated 0) (sym now) (seconds_seated t 0 x.calls c.self.invariant.seated);
      slots = c.second-said.ensures.slots;
      spoken = c.second-said.ensures.spoken;
      free = λ k unset. ap (λ (xs : List (Option PlainUserCall)). call_slot_at xs k) now ∙ seconds_free t k x.calls (subst (λ (xs : List (Option PlainUserCall)). call_slot_at xs k ≡ None) was (c.held-blocked.ensures.free k unset));
      first = c.self.invariant.first;
    }

pub begin_rows-requires-clause-room : goal.begin_rows-requires-clause-room
begin_rows-requires-clause-room c =
    let x = c.self.inside in
    let all : x.next + calls_now (x.moment + 1) x.script ≤ 16001 = omega (arith, c.self.invariant.room, later_split x.moment x.script) in
    subst (λ (rows : List ScriptRow). x.next + calls_now (x.moment + 1) rows ≤ 16001) (sym c.rows.ensures) all

pub spell-requires : goal.spell-requires
spell-requires c = few c.turn.inside.said c.turn.invariant.slots c.turn.invariant.spoken

-- what the tick has begun
begun_is : (c : After-spell) → let x = c.self.inside in let y = c.turn.inside in
    ◌≡◌ {A = Begun} (record { calls = live_calls y.calls; said = y.said; blocked = y.blocked; next = y.next })
    (far_begun (record { script = x.script; moment = x.moment; calls = live_calls x.calls; maintenance = x.maintenance; next = x.next }) (x.moment + 1))
begun_is c =
    let x = c.self.inside in
    let t = x.moment + 1 in
    let was : c.replace-calls.result ≡ x.calls = c.replace-calls.ensures.value in
    let now : c.second-said.new.calls ≡ map (after_slot t) x.calls = c.second-said.ensures.calls ∙ ap (map (after_slot t)) was in
    let said = c.second-said.ensures.said ∙ ap (λ (xs : List (Option PlainUserCall)). second_said t (live_calls xs) no_messages) was in
    let blocked = c.held-blocked.ensures.held ∙ ap (λ (xs : List (Option PlainUserCall)). with_held (live_calls xs) x.maintenance) was in
    c.turn.view_is ∙ c.begin_rows.ensures
    ∙ ap (λ (rows : List ScriptRow). begin_rows t rows (record { calls = live_calls c.second-said.new.calls; said = c.second-said.result; blocked = c.held-blocked.result; next = x.next })) c.rows.ensures
    ∙ ap (begin_rows t x.script) (started t x.calls c.second-said.new.calls x.maintenance c.held-blocked.result c.second-said.result x.next now said blocked)

pub invariant_of-self : goal.invariant_of-self
invariant_of-self c =
    let x = c.self.inside in
    let t = x.moment + 1 in
    let v : FarDay = record { script = x.script; moment = x.moment; calls = live_calls x.calls; maintenance = x.maintenance; next = x.next } in
    let room : (far_begun v t).next ≤ x.next + calls_now t x.script = rows_room t x.script _ in
    let next : c.turn.inside.next ≡ (far_begun v t).next = ap (λ (b : Begun). b.next) (begun_is c) in
    record {
      moment_limit = omega (arith, c.if-self-ge-LAST_MOMENT.false);
      size = c.turn.invariant.size;
      seated = c.turn.invariant.seated;
      first = c.turn.invariant.first;
      room = omega (arith, next, room, c.self.invariant.room, later_split x.moment x.script);
    }

pub returns-clause-day : goal.returns-clause-day
returns-clause-day c =
    let x = c.self.inside in
    let t = x.moment + 1 in
    let v : FarDay = record { script = x.script; moment = x.moment; calls = live_calls x.calls; maintenance = x.maintenance; next = x.next } in
    let maintenance = c.second-said.ensures.maintenance ∙ ap (λ (xs : List (Option PlainUserCall)). second_maintenance t (live_calls xs) x.maintenance) c.replace-calls.ensures.value in
    ap (λ (b : Begun). record v { moment = t; calls = b.calls; maintenance = c.second-said.new.maintenance; next = b.next }) (begun_is (goal.at.returns-clause-day c).After-spell)
    ∙ ap (λ (ms : List Bool). record v { moment = t; calls = (far_begun v t).calls; maintenance = ms; next = (far_begun v t).next }) maintenance
    ∙ sym (ap (λ (s : Sent FarDay). s.day) (ticked_is v (early x.moment (omega (arith, c.if-self-ge-LAST_MOMENT.false)))))
    ∙ ap (λ (d : FarDay). (far_tick d).day) c.self.view_is

pub returns-clause-sent : goal.returns-clause-sent
returns-clause-sent c =
    let x = c.self.inside in
    let v : FarDay = record { script = x.script; moment = x.moment; calls = live_calls x.calls; maintenance = x.maintenance; next = x.next } in
    c.spell.ensures
    ∙ ap (λ (b : Begun). spelled (in_order b.said)) (begun_is (goal.at.returns-clause-sent c).After-spell)
    ∙ sym (ap (λ (s : Sent FarDay). spelled s.sent) (ticked_is v (early x.moment (omega (arith, c.if-self-ge-LAST_MOMENT.false)))))
    ∙ ap (λ (d : FarDay). spelled (far_tick d).sent) c.self.view_is
