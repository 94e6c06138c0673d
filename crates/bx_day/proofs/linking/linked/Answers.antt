use Rattle.std.proofs.Common.{◌≡◌, ◌<◌, ◌≤◌, ◌+◌, ◌-◌, ℕ, Some, None, slice_set, length, sym, ap, subst, ◌∙◌, arith, slice_index_or, refl}
use Rattle.std.proofs.lemmas.List.{get_or_default}
use Rattle.bx_day.specs.Day.{entry_at, no_entry}
use Rattle.bx_base.specs.Orders.{no_place as no_start, index_in}
use Rattle.bx_day.specs.Reading.{Seated}
use Rattle.bx_day.specs.declared.entry.Entry.{Entry}
use Rattle.bx_day.proofs.Once.{each_at}
use Rattle.bx_day.proofs.LinkLemmas.{IsPlan, AreLinkedFrom, none_linked, one_linked, all_linked}
use Rattle.bx_day.proofs.linking.linked.Goals.{After-index-entries-index}
use Rattle.bx_day.proofs.linking.linked.Goals as goal

pub loop-k-init : goal.loop-k-init
loop-k-init c =
    let order = c.in_ok-order.order.items in
    none_linked c.args.entries.now order (length order - 0) c.in_ok-following.following.items (omega arith) (sym c.in_ok-following.following.ok.0 ∙ c.in_ok-following.ensures.len)

-- the entry that is read, by its place in the order
read_is : (c : After-index-entries-index) → let es = c.args.entries.now in let order = c.in_ok-order.order.items in let p = c.len.result - 1 - c.loop-k.k in let r = c.index.result.now.1 in
    (p < length order) × (r ≡ index_in order p) × ((slice_index_or es r c.index-entries-index.result).channel ≡ (entry_at es r).channel)
read_is c =
    let es = c.args.entries.now in
    let order = c.in_ok-order.order.items in
    let p = c.len.result - 1 - c.loop-k.k in
    let lt : p < length order = omega (arith, c.loop-k-test.true, c.len-k-end.ensures, c.len.ensures, c.in_ok-order.order.ok) in
    let place : c.index.result.now ≡ slice_index_or order p no_start = c.index.ensures ∙ get_or_default order p c.index.result.now no_start lt in
    let inside : c.index.result.now.1 < length es = subst (λ (x : ℕ × ℕ). x.1 < length es) (sym place) (c.in_ok-order.ensures.each p lt).within in
    (lt, ap (λ (x : ℕ × ℕ). x.1) place, ap (λ (e : Entry). e.channel) (get_or_default es c.index.result.now.1 c.index-entries-index.result no_entry inside))

low : (c : After-index-entries-index) → (slice_index_or c.args.entries.now c.index.result.now.1 c.index-entries-index.result).channel ≤ 31
low c =
    let es = c.args.entries.now in
    let i = index_in c.in_ok-order.order.items (c.len.result - 1 - c.loop-k.k) in
    let read = read_is c in
    let here = c.in_ok-order.ensures.each (c.len.result - 1 - c.loop-k.k) read.0 in
    let high : (entry_at es i).channel ≤ 31 = ((each_at Seated es i here.within c.requires.seated).channel here.passes).1 in
    omega (arith, high, read.2, ap (λ (n : ℕ). (entry_at es n).channel) read.1)

pub bounds-first-channel : goal.bounds-first-channel
bounds-first-channel c = omega (arith, low (goal.at.bounds-first-channel c).After-index-entries-index)

pub bounds-first-channel-in-loop-k : goal.bounds-first-channel-in-loop-k
bounds-first-channel-in-loop-k c = omega (arith, low (goal.at.bounds-first-channel-in-loop-k c).After-index-entries-index)

pub loop-k-preserved : goal.loop-k-preserved
loop-k-preserved c =
    let es = c.args.entries.now in
    let order = c.in_ok-order.order.items in
    let p = c.len.result - 1 - c.loop-k.k in
    let r = c.index.result.now.1 in
    let read = read_is (goal.at.loop-k-preserved c).After-index-entries-index in
    let channel = (slice_index_or es r c.index-entries-index.result).channel in
    let plan : IsPlan es order = record { sorted = c.in_ok-order.ensures; apart = c.requires.apart; seated = c.requires.seated; ordered = c.requires.ordered } in
    let before : AreLinkedFrom es order (p + 1) c.loop-k.first c.loop-k.following.items = subst (λ n. AreLinkedFrom es order n c.loop-k.first c.loop-k.following.items) (omega (arith, c.loop-k-test.true, c.len-k-end.ensures, c.len.ensures, c.in_ok-order.order.ok)) c.loop-k.invariant in
    subst (λ n. AreLinkedFrom es order n (slice_set c.loop-k.first channel (Some r)) (slice_set c.loop-k.following.items r (slice_index_or c.loop-k.first channel None))) (omega (arith, c.loop-k-test.true, c.len-k-end.ensures, c.len.ensures, c.in_ok-order.order.ok))
    (one_linked es order p r channel c.loop-k.first c.loop-k.following.items (slice_index_or c.loop-k.first channel None) plan read.0 read.1 read.2 refl before)

pub returns : goal.returns
returns c =
    let es = c.args.entries.now in
    let order = c.in_ok-order.order.items in
    let plan : IsPlan es order = record { sorted = c.in_ok-order.ensures; apart = c.requires.apart; seated = c.requires.seated; ordered = c.requires.ordered } in
    all_linked es order c.loop-k.first c.loop-k.following.items plan (subst (λ n. AreLinkedFrom es order n c.loop-k.first c.loop-k.following.items) (omega (arith, c.loop-k-test.false, c.len-k-end.ensures, c.in_ok-order.order.ok)) c.loop-k.invariant)
