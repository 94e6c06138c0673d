use Rattle.std.proofs.Common.{refl, None, replicate}
use Rattle.bx_far.proofs.Kept.{opening_far, empty_seated}
use Rattle.bx_far.proofs.far.Far.new.Goals as goal

pub invariant_of-result : goal.invariant_of-result
invariant_of-result c = opening_far c.args.script (replicate 32 None) c.count-rows.ensures.limit refl (empty_seated 32 0)
