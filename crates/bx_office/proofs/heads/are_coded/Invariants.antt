use Rattle.std.proofs.Common.{◌≡◌, map, drop, codes}
use Rattle.httparse.specs.Spans.{header_bytes}
use Rattle.http1.specs.Fields.{values_named}
use Rattle.bx_office.specs.Heads.{are_coded}
use Rattle.bx_office.proofs.heads.are_coded.Given as goal

abbrev pub invariant-loop-span : goal.invariant-loop-span
invariant-loop-span l = are_coded (values_named (codes "content-encoding") (map (header_bytes l.input) (drop l.span-index l.spans))) ≡ are_coded (values_named (codes "content-encoding") (map (header_bytes l.input) l.spans))
