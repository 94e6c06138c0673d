use Rattle.std.proofs.Common.{◌≡◌, length}
use Rattle.bx_q931.specs.Values.{after_interface}
use Rattle.bx_q931.proofs.channel_field.following_interface.Given as goal

abbrev pub invariant-loop-octet : goal.invariant-loop-octet
invariant-loop-octet l = after_interface l.rest ≡ after_interface l.octets

abbrev pub decreases-loop-octet : goal.decreases-loop-octet
decreases-loop-octet l = length l.rest
