-- How a capture begins: the second of its moment 0, and its file.
use Rattle.std.specs.Prelude.{◌≡◌, ⊤, ℕ, pos, false, List, Option, Some, None, MatchOption}
use Rattle.std.specs.Io.KnownBytes.{Appends}
use Rattle.bx_calendar.specs.DayParts.{start_of}
use Rattle.bx_calendar.specs.NamedDays.{IsDayOf}
use Rattle.bx_calendar.specs.declared.day.Day.{Day}
use Rattle.bx_capture.specs.Packets.{file_header}
use Rattle.bx_devices.specs.declared.watched.Watched.{Watched}
use Rattle.bx_devices.specs.Watching.{device_of, is_faulted}
use Rattle.bx_request.specs.declared.request.CaptureWords.{CaptureWords}

-- that at which the day starts that is named; 0 where none is named, or nothing is to be captured
abbrev pub IsFirstOf : Option CaptureWords → ℕ → Type 0
IsFirstOf None first = first ≡ 0
IsFirstOf (Some capture) first = MatchOption capture.day (first ≡ 0) (λ words. (day : Day) × IsDayOf words.0.now words.1.now day × (pos first ≡ start_of day))

-- there is a file just where something is to be captured; its header was written to it as it was created, and no write of it failed
abbrev pub IsFileFor : {F : Type 0} → (F → Option (List ℕ)) → Option CaptureWords → Option (Watched F) → Type 0
IsFileFor contents None None = ⊤
IsFileFor {F = F} contents (Some capture) (Some file) = (created : F) × Appends (contents created) (contents (device_of file)) file_header × (is_faulted file ≡ false)
IsFileFor contents capture file = ⊥
