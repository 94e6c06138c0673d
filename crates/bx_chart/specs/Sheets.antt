-- What a sheet is, in the words of `Hours`.
use Rattle.bx_chart.specs.Hours.{Room}
use Rattle.bx_chart.specs.declared.sheet.Sheet.{Sheet}

-- what a sheet has room for
abbrev pub room : Sheet → Room
room sheet = record { seconds = sheet.seconds; lanes = sheet.lanes; has_bands = sheet.has_bands }
