use Rattle.std.proofs.Common.{rules, ◌≡◌, ℕ, true, false, replicate, refl, inl, inr}
use Rattle.std.proofs.lemmas.List.{get_or-replicate, get_or_past}
use Rattle.std.proofs.lemmas.Bool.{cases_lt}
use Rattle.bx_channels.specs.ChannelNumbers.{IsChannel}
use Rattle.bx_base.specs.Channels.{has_channel}
use Rattle.bx_base.proofs.channel_set.ChannelSet.empty.Goals as goal

none_at : (n : ℕ) → has_channel (replicate 32 false) n ≡ true → IsChannel n
none_at n h = elim (cases_lt n 32) [ inl a ↦ (let e = get_or-replicate 32 n false false a in cc) | inr a ↦ (let e = get_or_past (replicate 32 false) n false a in cc) ]

pub invariant_of-result : goal.invariant_of-result
invariant_of-result c = record { slots = refl; only = none_at }

pub returns : goal.returns
returns c = search rules steps 60000
