use Rattle.std.proofs.lemmas.Grind.{common_steps}
use Rattle.std.proofs.Common.{rules, ◌≡◌, Bool, true, false, List, [], take, get_or, replicate, refl, ◌∙◌, subst, arith, inl, inr}
use Rattle.std.specs.List.{Contains}
use Rattle.std.proofs.lemmas.Bool.{cases_lt}
use Rattle.std.proofs.lemmas.List.{take_more, get_or-replicate, get_or_past}
use Rattle.bx_base.specs.Channels.{AreChannels, HasJust, has_channel}
use Rattle.bx_base.proofs.ChannelLists.{AreChannels-push, HasJust-push}
use Rattle.bx_base.proofs.channel_set.ChannelSet.from_numbers.Goals as goal

none_yet : (set : List Bool) → set ≡ replicate 32 false → HasJust set []
none_yet set e n = (
  λ h. let out : has_channel (replicate 32 false) n ≡ true = subst (λ (s : List Bool). has_channel s n ≡ true) e h in
      elim (cases_lt n 32) [ inl a ↦ (let f = get_or-replicate 32 n false false a in cc) | inr a ↦ (let f = get_or_past (replicate 32 false) n false a in cc) ],
  λ h. absurd (omega (arith, h.1)),
)

no_channels : AreChannels []
no_channels = record { each = λ k d b. absurd (omega arith); once = λ i j a b. absurd (omega arith) }

pub loop-number-init : goal.loop-number-init
loop-number-init c = record { channels = no_channels; just = none_yet c.empty-set.result c.empty-set.ensures }

pub loop-number-preserved : goal.loop-number-preserved
loop-number-preserved c =
    let numbers = c.args.numbers.now in
    let i = c.loop-number.number-index in
    let prefix = take i numbers in
    let n = get_or numbers i 0 in
    let more = take_more numbers i 0 (omega arith) in
    let new : Contains prefix n → ⊥ = λ h. (let is = (c.loop-number.invariant.just n).1 h in cc c.in-Some.ensures.value) in
    rw more (record {
      channels = AreChannels-push prefix n c.loop-number.invariant.channels (c.in-Some.ensures.exactly.0 refl) new;
      just = HasJust-push c.loop-number.set c.with-set.result prefix n c.loop-number.invariant.just (subst (λ m. has_channel c.with-set.result m ≡ true) c.in-Some.ensures.value c.with-set.ensures.added) (λ k other. c.with-set.ensures.others k (λ e. other (e ∙ c.in-Some.ensures.value)));
    })

pub returns-in_default-clause-fault : goal.returns-in_default-clause-fault
returns-in_default-clause-fault c = grind (arith, common_steps) steps 60000

pub returns-then-has-clause-fault : goal.returns-then-has-clause-fault
returns-then-has-clause-fault c = search rules steps 2000000
