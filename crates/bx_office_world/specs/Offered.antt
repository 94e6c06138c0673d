-- What is offered of a batch.
use Rattle.std.specs.Prelude.{List}
use Rattle.std.specs.List.{filter}
use Rattle.bx_base.specs.Bookings.{Row}
use Rattle.bx_office_world.specs.Sold.{is_offered}
use Rattle.bx_office_world.specs.declared.desk.Opened.{Opened}
use Rattle.bx_office_world.specs.declared.tariff.Terms.{Terms}

-- the terms of an office that was opened with this
abbrev pub terms_of : Opened → Terms
terms_of opened = record { last = opened.last; rate = opened.rate }

-- the bookings of a batch that are offered by these terms, in their order
abbrev pub offered_of : Terms → List Row → List Row
offered_of terms wanted = filter (is_offered terms) wanted
