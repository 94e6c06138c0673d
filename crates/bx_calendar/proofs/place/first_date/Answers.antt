use Rattle.std.proofs.Common.{rules}
use Rattle.bx_calendar.proofs.place.first_date.Goals as goal

pub returns-then-octet_at-ne45 : goal.returns-then-octet_at-ne45
returns-then-octet_at-ne45 c = search rules steps 400000

pub returns : goal.returns
returns c = search rules steps 2000000
