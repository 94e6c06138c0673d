use Rattle.std.proofs.Common.{◌≡◌, ◌<◌, ◌≤◌, ℕ, List, length, [], ◌∷◌, ◌∙◌, refl, arith}
use Rattle.std.proofs.lemmas.Bool.{lt-ltb, le-ltb}
use Rattle.bx_q931.specs.Values.{after_interface}
use Rattle.bx_q931.proofs.channel_field.following_interface.Goals as goal

goes_on : (o : ℕ) (os rest : List ℕ) → rest ≡ o ∷ os → o < 128 → after_interface os ≡ after_interface rest
unfolding after_interface
goes_on o os rest e h = rw (e, lt-ltb o 128 h) refl

ends : (o : ℕ) (os rest : List ℕ) → rest ≡ o ∷ os → 128 ≤ o → os ≡ after_interface rest
unfolding after_interface
ends o os rest e h = rw (e, le-ltb o 128 h) refl

nothing : (rest : List ℕ) → length rest ≡ 0 → rest ≡ after_interface rest
unfolding after_interface
nothing [] e = refl
nothing (o ∷ os) e = absurd (omega (arith, e))

pub loop-octet-preserved : goal.loop-octet-preserved
loop-octet-preserved c = goes_on c.in-Some.octet.now _ _ c.in-Some.ensures.cases.0 c.if-octet-ge128.false ∙ c.loop-octet.invariant

pub returns-then-octet-ge128 : goal.returns-then-octet-ge128
returns-then-octet-ge128 c = ends c.in-Some.octet.now _ _ c.in-Some.ensures.cases.0 c.if-octet-ge128.true ∙ c.loop-octet.invariant

pub returns-in_default : goal.returns-in_default
returns-in_default c = nothing _ c.in_default.ensures.cases ∙ c.loop-octet.invariant
