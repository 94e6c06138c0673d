-- Lanes, one after another.
use Rattle.std.proofs.Common.{◌≡◌, ◌∙◌, ◌+◌, ◌*◌, ℕ, suc, Bool, true, false, List, [], ◌++◌, ap, sym, append_assoc, append-nil, if◌then◌else◌, arith}
use Rattle.bx_base.specs.Channels.{has_channel}
use Rattle.bx_base.proofs.SumLemmas.{sum_below-next}
use Rattle.bx_chart.specs.Bars.{lane_of}
use Rattle.bx_chart.specs.Frames.{lane, lanes_below}

module _ (channels : List Bool) (n top : ℕ) (old text : List ℕ) (so_far : text ≡ old ++ lanes_below channels n) (down : top ≡ 92 + 16 * lane_of channels n) where
  abbrev there : Bool → List ℕ
  there b = if b then lane n (92 + 16 * lane_of channels n) else []

  next : (b : Bool) → has_channel channels n ≡ b → old ++ (lanes_below channels n ++ there b) ≡ old ++ lanes_below channels (n + 1)
  next b is = let q : suc n ≡ n + 1 = omega arith in ap (λ (x : Bool). old ++ (lanes_below channels n ++ there x)) (sym is) ∙ ap (λ (m : ℕ). old ++ lanes_below channels m) q

  pub lane_added : (new : List ℕ) → has_channel channels n ≡ true → new ≡ text ++ lane n top → new ≡ old ++ lanes_below channels (n + 1)
  lane_added new is added = added ∙ ap (λ (t : List ℕ). t ++ lane n top) so_far ∙ append_assoc old (lanes_below channels n) (lane n top) ∙ ap (λ (m : ℕ). old ++ (lanes_below channels n ++ lane n m)) down ∙ next true is

  pub none_added : has_channel channels n ≡ false → text ≡ old ++ lanes_below channels (n + 1)
  none_added is = so_far ∙ ap (λ (t : List ℕ). old ++ t) (sym (append-nil (lanes_below channels n))) ∙ next false is

  lanes_so_far : (b : Bool) → has_channel channels n ≡ b → lane_of channels (n + 1) ≡ lane_of channels n + (if b then 1 else 0)
  lanes_so_far b is = sum_below-next n (λ (m : ℕ). if has_channel channels m then 1 else 0) ∙ ap (λ (x : Bool). lane_of channels n + (if x then 1 else 0)) is

  pub down_more : has_channel channels n ≡ true → top + 16 ≡ 92 + 16 * lane_of channels (n + 1)
  down_more is = let q : lane_of channels (n + 1) ≡ lane_of channels n + 1 = lanes_so_far true is in omega (arith, down, q)

  pub down_same : has_channel channels n ≡ false → top ≡ 92 + 16 * lane_of channels (n + 1)
  down_same is = let q : lane_of channels (n + 1) ≡ lane_of channels n + 0 = lanes_so_far false is in omega (arith, down, q)
