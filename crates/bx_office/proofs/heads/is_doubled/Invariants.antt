use Rattle.std.proofs.Common.{◌≡◌, map, drop}
use Rattle.httparse.specs.Spans.{header_bytes}
use Rattle.http1.specs.Fields.{values_named}
use Rattle.bx_office.specs.Heads.{are_more, is_doubled}
use Rattle.bx_office.proofs.heads.is_doubled.Given as goal

abbrev pub invariant-loop-span : goal.invariant-loop-span
invariant-loop-span l = are_more l.has_one (values_named l.name (map (header_bytes l.input) (drop l.span-index l.spans))) ≡ is_doubled (values_named l.name (map (header_bytes l.input) l.spans))
