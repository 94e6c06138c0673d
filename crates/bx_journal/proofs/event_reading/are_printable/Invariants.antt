use Rattle.std.proofs.Common.{◌≡◌, drop}
use Rattle.std.specs.List.{list_all}
use Rattle.bx_journal.specs.Events.{is_printable}
use Rattle.bx_journal.proofs.event_reading.are_printable.Given as goal

abbrev pub invariant-loop-octet : goal.invariant-loop-octet
invariant-loop-octet l = list_all is_printable l.octets ≡ list_all is_printable (drop l.octet-index l.octets)
