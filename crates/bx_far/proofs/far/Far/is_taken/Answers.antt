use Rattle.std.proofs.Common.{◌≡◌, ◌<◌, ◌||◌, Bool, length, is_some, arith, sym, subst, ap, ◌∙◌}
use Rattle.bx_channels.specs.Marks.{is_marked}
use Rattle.bx_far.specs.FarDay.{FarDay, holder}
use Rattle.bx_far.specs.Inside.{call_slot_at}
use Rattle.bx_far.proofs.Kept.{slot_read, holder_slot}
use Rattle.bx_far.proofs.far.Far.is_taken.Goals as goal

pub returns-then-is_some : goal.returns-then-is_some
returns-then-is_some c =
    let d = c.args.self.now in
    let slots = c.self.inside.calls in
    let lt : c.number.result < length slots = omega (arith, c.number.ensures.channel.1, c.self.invariant.size) in
    let here : call_slot_at slots c.args.channel ≡ c.index-self-number.result = subst (λ n. call_slot_at slots n ≡ c.index-self-number.result) c.number.ensures.value (slot_read slots c.number.result c.index-self-number.result c.index-self-number.is lt) in
    let held : is_some (holder d c.args.channel) ≡ c.is_some.result = ap is_some (holder_slot d slots c.args.channel (ap (λ (x : FarDay). x.calls) c.self.view_is) c.self.invariant.seated ∙ here ∙ c.index-self-number.is) ∙ sym c.is_some.ensures in
    c.if-is_some.true ∙ sym (ap (λ (b : Bool). b || is_marked d.maintenance c.args.channel) (held ∙ c.if-is_some.true))

pub returns-else-is_some : goal.returns-else-is_some
returns-else-is_some c =
    let d = c.args.self.now in
    let slots = c.self.inside.calls in
    let lt : c.number.result < length slots = omega (arith, c.number.ensures.channel.1, c.self.invariant.size) in
    let here : call_slot_at slots c.args.channel ≡ c.index-self-number.result = subst (λ n. call_slot_at slots n ≡ c.index-self-number.result) c.number.ensures.value (slot_read slots c.number.result c.index-self-number.result c.index-self-number.is lt) in
    let held : is_some (holder d c.args.channel) ≡ c.is_some.result = ap is_some (holder_slot d slots c.args.channel (ap (λ (x : FarDay). x.calls) c.self.view_is) c.self.invariant.seated ∙ here ∙ c.index-self-number.is) ∙ sym c.is_some.ensures in
    c.has.ensures ∙ ap (λ (x : FarDay). is_marked x.maintenance c.args.channel) c.self.view_is ∙ sym (ap (λ (b : Bool). b || is_marked d.maintenance c.args.channel) (held ∙ c.if-is_some.false))
