use Rattle.std.proofs.Common.{◌≡◌, ◌<◌, ◌≤◌, ◌⊎◌, inl, inr, ℕ, Some, None, slice_index_or, sym, ap, ◌∙◌, subst, arith}
use Rattle.std.proofs.lemmas.Bool.{cases_lt}
use Rattle.bx_sales.specs.declared.tag.Tag.{Tag}
use Rattle.bx_office_world.specs.declared.ledger.Ledger.{Ledger}
use Rattle.bx_office_world.specs.KnownKeys.{keys_in, KnowsKey}
use Rattle.bx_office_world.proofs.Keyings.{same_tag}
use Rattle.bx_office_world.proofs.ledger.Ledger.new.Goals.{in-Some+in_ok-sell, in_default}
use Rattle.bx_office_world.proofs.ledger.Ledger.new.Goals as goal

pub loop-place-preserved : goal.loop-place-preserved
loop-place-preserved c i tag inside is = by_order (cases_lt i c.loop-place.place) where
  in_place : (i ≡ c.loop-place.place) → slice_index_or c.args.tags.now c.loop-place.place None ≡ Some tag
  in_place here = ap (λ (k : ℕ). slice_index_or c.args.tags.now k None) (sym here) ∙ is

  by_order : (i < c.loop-place.place) ⊎ (c.loop-place.place ≤ i) → KnowsKey (keys_in c.match-tags-place.ledger.requests.items) tag.key
  by_order (inl before) = elim c.match-tags-place.branch [
    | in-Some+in_ok-sell w ↦ subst (λ (l : Ledger). KnowsKey (keys_in l.requests.items) tag.key) (sym w.ledger-is) (w.in_ok-sell.ensures.1 tag.key (c.loop-place.invariant i tag before is))
    | in_default w ↦ subst (λ (l : Ledger). KnowsKey (keys_in l.requests.items) tag.key) (sym w.ledger-is) (c.loop-place.invariant i tag before is)
  ]
  by_order (inr after) =
      let here : i ≡ c.loop-place.place = omega (arith, inside, after) in
      elim c.match-tags-place.branch [
        | in-Some+in_ok-sell w ↦
            subst (λ (l : Ledger). KnowsKey (keys_in l.requests.items) tag.key) (sym w.ledger-is)
            (subst (λ (t : Tag). KnowsKey (keys_in w.sell.new.self.requests.items) t.key) (same_tag w.in-Some.tag tag (sym w.in-Some.is ∙ in_place here)) w.in_ok-sell.ensures.0)
        | in_default w ↦ absurd (w.in_default.not-Some tag (in_place here))
      ]
