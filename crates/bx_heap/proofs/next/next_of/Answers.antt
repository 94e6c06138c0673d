use Rattle.std.proofs.Common.{ℕ, List, Some, sym, ap, subst, inl, inr}
use Rattle.std.specs.List.{Contains}
use Rattle.std.proofs.lemmas.List.Elements.{Contains-push, Contains-push_cases}
use Rattle.bx_heap.proofs.next.next_of.Goals as goal

pub bounds-ranks-place : goal.bounds-ranks-place
bounds-ranks-place c =
    let place = c.in-Some.place in
    let last = subst (λ (xs : List ℕ). Contains xs place) (sym c.in-Some.ensures.items) (Contains-push c.pop.new.self.items place) in
    c.requires place (c.loop-place.invariant.only place last)

pub returns-then-ranks-place-eq0-clause-kept : goal.returns-then-ranks-place-eq0-clause-kept
returns-then-ranks-place-eq0-clause-kept c = λ v h n.
    let there = subst (λ (xs : List ℕ). Contains xs v) c.in-Some.ensures.items (c.loop-place.invariant.kept v h n) in
    elim (Contains-push_cases c.pop.new.self.items c.in-Some.place v there) [ inl a ↦ inl a | inr e ↦ inr (ap Some e) ]
