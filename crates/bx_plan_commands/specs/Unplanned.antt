-- Private: why there are no bookings, or no plan of them.
use Rattle.std.specs.Prelude.{Bool, List}
use Rattle.bx_base.specs.Bookings.{Row}
use Rattle.bx_devices.specs.Devices.{Reading}
use Rattle.bx_book.specs.Rows.{Span}
use Rattle.bx_book.specs.Streams.{IsStreamFault}
use Rattle.bx_book.specs.declared.stream.StreamFault.TheVariants as stream
use Rattle.bx_planner.specs.Musts.{IsTooManyMust}
use Rattle.bx_plan_commands.specs.declared.planning.RunFault.{RunFault}
use Rattle.bx_plan_commands.specs.declared.planning.RunFault.TheVariants.{ReadFailed, TooLong, Book, TooManyMust, Memory}

-- why there are no bookings
abbrev pub AreUnread : Reading → Span → RunFault → Type 0
AreUnread input span ReadFailed = IsStreamFault input span stream.ReadFailed
AreUnread input span TooLong = IsStreamFault input span stream.TooLong
AreUnread input span (Book fault) = IsStreamFault input span (stream.Book fault)
AreUnread input span Memory = IsStreamFault input span stream.Memory
AreUnread input span _ = ⊥

-- why there is no plan
abbrev pub IsWithoutPlan : List Row → List Bool → RunFault → Type 0
IsWithoutPlan rows channels (TooManyMust moment) = IsTooManyMust rows channels moment
IsWithoutPlan rows channels Memory = Unit {0}
IsWithoutPlan rows channels _ = ⊥
