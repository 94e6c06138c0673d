use Rattle.std.proofs.Common.{◌≡◌, ℤ, pos, nat_abs, ◌-ℤ◌, ◌≤◌, to_z, of_z, w64, arith}
use Rattle.std.proofs.lemmas.Int.{ints}
use Rattle.bx_heap.specs.Searching.{setting_of}
use Rattle.bx_heap.proofs.Settled.{begins}
use Rattle.bx_heap.proofs.frontier.Frontier.new.Goals as goal

computed : (x y : ℤ) → nat_abs y ≤ 550000000000000000 → x ≡ y → to_z w64 (of_z w64 (pos 0 -ℤ to_z w64 (of_z w64 x))) ≡ (pos 0 -ℤ y)
computed x y h e = omega (arith, ints)

pub returns : goal.returns
returns c = λ part flow.
    let level = to_z w64 (of_z w64 (pos 0 -ℤ to_z w64 (of_z w64 c.at.result))) in
    let first = begins (setting_of part c.args.line.now flow c.args.potentials.now) c.requires level (computed c.at.result _ (c.at.ensures.small 0) c.at.ensures.value) in
    rw (c.in_ok-push.ensures.items, c.new-tight.ensures.items, c.new.ensures.items, c.new-2.ensures, c.in_ok-lengths.ensures.items_if_clones_equal (λ y h. h), c.in_ok-vec.ensures.items_if_clones_equal (λ y h. h), c.in_ok-vec-2.ensures.items_if_clones_equal (λ y h. h), c.places-places.ensures.count) first
