-- That free starts are those at which a booking may be sold beside all that is promised.
use Rattle.std.specs.Prelude.{◌≡◌, ◌↔◌, ◌+◌, ◌≤◌, ◌<◌, [], ◌∷◌, true, length}
use Rattle.bx_base.specs.Bookings.{Row}
use Rattle.bx_base.specs.declared.booking.TheConstants.{MAX_MOMENT}
use Rattle.bx_base.specs.declared.bookings.TheConstants.{MAX_BOOKINGS}
use Rattle.bx_day.specs.Day.{Day}
use Rattle.bx_market.specs.Choices.{IsChoice}
use Rattle.bx_sales.specs.Left.{left_in_service}
use Rattle.bx_office_world.specs.FreeStarts.{IsWished, IsFreeStart}
use Rattle.bx_office_world.specs.declared.desk.Opened.{Opened}
use Rattle.bx_office_world.specs.declared.wish.Wish.{Wish}

-- on a day on which the channels that are left carry what is promised, and which has a row left, a batch of one booking of the wished length may be chosen just where its start is free
abbrev pub IsFreeWhereItFits : Type 0
IsFreeWhereItFits = (opened : Opened) (d : Day) (wish : Wish) (row : Row) → IsChoice (left_in_service opened.channels d) d [] [] → length d.entries < MAX_BOOKINGS
    → IsWished d.moment opened.last wish row.start → row.end ≡ row.start + wish.length → row.end ≤ MAX_MOMENT
    → IsFreeStart opened d wish row.start ↔ IsChoice (left_in_service opened.channels d) d (row ∷ []) (true ∷ [])
