use Rattle.std.proofs.Common.{rules, ◌≡◌, ◌<◌, ◌≤◌, ◌⊎◌, inl, inr, length, sym, ap, ◌∙◌, arith, true≢false}
use Rattle.std.proofs.lemmas.Bool.{cases_lt}
use Rattle.std.proofs.lemmas.Slice.Eq.{bytes_eq-Decides}
use Rattle.bx_office_world.specs.KnownKeys.{keys_in, key_at}
use Rattle.bx_office_world.proofs.Keyings.{key_is}
use Rattle.bx_office_world.proofs.ledger.Ledger.place_of.Goals as goal

pub returns-then-eq-clause-some : goal.returns-then-eq-clause-some
returns-then-eq-clause-some c =
    let inside : c.loop-place.place < length c.args.self.now.requests.items = search rules in (
      inside,
      key_is c.args.self.now.requests.items c.loop-place.place c.index.result.now c.index.ensures inside
          ∙ (bytes_eq-Decides c.index.result.now.tag.key c.args.key.now).0 (sym c.eq.ensures ∙ c.if-eq.true),
    )

pub loop-place-preserved : goal.loop-place-preserved
loop-place-preserved c i inside is = by_order (cases_lt i c.loop-place.place) where
  there : c.loop-place.place < length c.args.self.now.requests.items
  there = search rules

  by_order : (i < c.loop-place.place) ⊎ (c.loop-place.place ≤ i) → ⊥
  by_order (inl before) = c.loop-place.invariant i before is
  by_order (inr after) =
      let here : c.loop-place.place ≡ i = omega (arith, inside, after) in
      let found = sym (key_is c.args.self.now.requests.items c.loop-place.place c.index.result.now c.index.ensures there) ∙ ap (key_at (keys_in c.args.self.now.requests.items)) here ∙ is in
      true≢false (sym ((bytes_eq-Decides c.index.result.now.tag.key c.args.key.now).1 found) ∙ sym c.eq.ensures ∙ c.if-eq.false)
