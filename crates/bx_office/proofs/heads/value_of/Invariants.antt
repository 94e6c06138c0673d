use Rattle.std.proofs.Common.{◌≡◌, map, drop}
use Rattle.httparse.specs.Spans.{header_bytes}
use Rattle.http1.specs.Fields.{values_named}
use Rattle.bx_office.specs.Heads.{first_field_of}
use Rattle.bx_office.proofs.heads.value_of.Given as goal

abbrev pub invariant-loop-span : goal.invariant-loop-span
invariant-loop-span l = first_field_of (values_named l.name (map (header_bytes l.input) (drop l.span-index l.spans))) ≡ first_field_of (values_named l.name (map (header_bytes l.input) l.spans))
