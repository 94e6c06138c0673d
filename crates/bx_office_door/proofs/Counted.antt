-- What came is no more than there was room for.
use Rattle.std.proofs.Common.{ℕ, ◌≤◌, arith}
use Rattle.bx_office_door.specs.Streams.{IsCome, octet_count}
use Rattle.bx_office_door.specs.declared.stream.Came.{Came}
use Rattle.bx_office_door.specs.declared.stream.Came.TheVariants.{Nothing, Octets, End}

pub count_within : (came : Came) (most : ℕ) → IsCome came most → octet_count came ≤ most
count_within Nothing most fits = omega arith
count_within (Octets count) most fits = fits
count_within End most fits = omega arith
