-- The figures of a day, as OpenMetrics.
use Rattle.std.specs.Prelude.{ℕ, ◌+◌, ◌-◌, ◌==◌, length, List, [], ◌∷◌, ◌++◌, codes, decimal, if◌then◌else◌, Option, Some, None}
use Rattle.bx_base.specs.declared.bookings.TheConstants.{MAX_BOOKINGS}
use Rattle.bx_day.specs.Day.{Day}
use Rattle.bx_day.specs.declared.entry.Entry.{Entry}
use Rattle.bx_records.specs.Totals.{how_many, pays_of}
use Rattle.bx_office_world.specs.Maintenance.{maintained}
use Rattle.bx_office_world.specs.Tallies.{is_such}
use Rattle.bx_office_world.specs.declared.metrics.Figures.{Figures}
use Rattle.bx_office_world.specs.declared.tallies.Became.{Became}
use Rattle.bx_office_world.specs.declared.tallies.Became.TheVariants.{Refused, Waiting, Live, Carried, Unanswered, Missed}

abbrev pub word_of : Became → List ℕ
word_of Refused = codes "refused"
word_of Waiting = codes "waiting"
word_of Live = codes "live"
word_of Carried = codes "carried"
word_of Unanswered = codes "unanswered"
word_of Missed = codes "missed"

-- what stands before a value, the value, and LF
abbrev pub family_text : List ℕ → ℕ → List ℕ
family_text head value = head ++ decimal value ++ codes "\n"

abbrev pub sample : List ℕ → Became → ℕ → List ℕ
sample name became value = name ++ codes "{outcome=\"" ++ word_of became ++ codes "\"} " ++ decimal value ++ codes "\n"

-- how many bookings there are, by what has become of them
abbrev pub bookings_text : List Entry → List ℕ
bookings_text entries = codes "# TYPE bx_bookings gauge\n# HELP bx_bookings Bookings of the last plan, by what has become of them.\n"
    ++ sample (codes "bx_bookings") Refused (how_many (is_such Refused) entries) ++ sample (codes "bx_bookings") Waiting (how_many (is_such Waiting) entries) ++ sample (codes "bx_bookings") Live (how_many (is_such Live) entries) ++ sample (codes "bx_bookings") Carried (how_many (is_such Carried) entries) ++ sample (codes "bx_bookings") Unanswered (how_many (is_such Unanswered) entries) ++ sample (codes "bx_bookings") Missed (how_many (is_such Missed) entries)

-- what they pay
abbrev pub pays_text : List Entry → List ℕ
pays_text entries = codes "# TYPE bx_pay gauge\n# HELP bx_pay What these bookings pay.\n"
    ++ sample (codes "bx_pay") Refused (pays_of (is_such Refused) entries) ++ sample (codes "bx_pay") Waiting (pays_of (is_such Waiting) entries) ++ sample (codes "bx_pay") Live (pays_of (is_such Live) entries) ++ sample (codes "bx_pay") Carried (pays_of (is_such Carried) entries) ++ sample (codes "bx_pay") Unanswered (pays_of (is_such Unanswered) entries) ++ sample (codes "bx_pay") Missed (pays_of (is_such Missed) entries)

-- how many rows the day has left: so many more may be sold
abbrev pub rows_left_head : List ℕ
rows_left_head = codes "# TYPE bx_rows_left gauge\n# HELP bx_rows_left Bookings that the last plan has room for.\nbx_rows_left "

abbrev pub rows_left_text : List Entry → List ℕ
rows_left_text entries = family_text rows_left_head (MAX_BOOKINGS - length entries)

-- how many channels are in maintenance
abbrev pub maintenance_head : List ℕ
maintenance_head = codes "# TYPE bx_channels_in_maintenance gauge\n# HELP bx_channels_in_maintenance Channels that have no call until the next day.\nbx_channels_in_maintenance "

abbrev pub maintenance_text : Day → List ℕ
maintenance_text d = family_text maintenance_head (maintained d)

abbrev pub link_text : Figures → List ℕ
link_text figures = family_text (codes "# TYPE bx_seconds_without_link gauge\n# HELP bx_seconds_without_link Seconds that began without a link.\nbx_seconds_without_link ") figures.alone
    ++ family_text (codes "# TYPE bx_late_seconds gauge\n# HELP bx_late_seconds Seconds that began more than a second late.\nbx_late_seconds ") figures.late

-- how often calls were cleared with a cause: a line where it came
abbrev pub cause_line : List ℕ → ℕ → ℕ → List ℕ
cause_line name cause count = name ++ decimal cause ++ codes "\"} " ++ decimal count ++ codes "\n"

abbrev pub clearing_line : ℕ → ℕ → List ℕ
clearing_line cause count = if count == 0 then [] else cause_line (codes "bx_clearings_received{cause=\"") cause count

abbrev pub clearing_lines : ℕ → List ℕ → List ℕ
clearing_lines cause [] = []
clearing_lines cause (count ∷ more) = clearing_line cause count ++ clearing_lines (cause + 1) more

abbrev pub clearings_text : List ℕ → List ℕ
clearings_text counts = codes "# TYPE bx_clearings_received gauge\n# HELP bx_clearings_received Messages of the far end that clear a call, by their cause (ITU-T Q.850).\n" ++ clearing_lines 0 counts

abbrev pub office_text : Figures → List ℕ
office_text figures = family_text (codes "# TYPE bx_answers gauge\n# HELP bx_answers Requests that were answered of the day.\nbx_answers ") figures.answers
    ++ family_text (codes "# TYPE bx_bookings_sold gauge\n# HELP bx_bookings_sold Bookings that were sold.\nbx_bookings_sold ") figures.sold
    ++ family_text (codes "# TYPE bx_bookings_dropped gauge\n# HELP bx_bookings_dropped Bookings that were given up for want of a channel.\nbx_bookings_dropped ") figures.dropped

-- how long ago the journal was brought to the disk, where it was
abbrev pub sync_text : Option ℕ → List ℕ
sync_text None = []
sync_text (Some seconds) = family_text (codes "# TYPE bx_sync_age_seconds gauge\n# UNIT bx_sync_age_seconds seconds\n# HELP bx_sync_age_seconds Seconds since the journal was brought to the disk last.\nbx_sync_age_seconds ") seconds

abbrev pub moment_head : List ℕ
moment_head = codes "# TYPE bx_moment_seconds gauge\n# UNIT bx_moment_seconds seconds\n# HELP bx_moment_seconds Seconds of the day so far.\nbx_moment_seconds "

-- what the exchange tells, and what the world has counted
abbrev pub day_text : Day → List ℕ
day_text d = family_text moment_head d.moment ++ bookings_text d.entries ++ pays_text d.entries ++ rows_left_text d.entries ++ maintenance_text d

abbrev pub figures_text : Figures → List ℕ
figures_text figures = link_text figures ++ clearings_text figures.clearings ++ office_text figures ++ sync_text figures.since_sync

abbrev pub metrics_text : Day → Figures → List ℕ
metrics_text d figures = day_text d ++ figures_text figures ++ codes "# EOF\n"
