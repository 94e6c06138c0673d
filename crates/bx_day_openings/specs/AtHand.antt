-- What a command of a day has opened, as far as no file tells its octets.
use Rattle.std.specs.Prelude.{ℕ, List, Option}
use Rattle.bx_devices.specs.declared.watched.Watched.{Watched}
use Rattle.bx_far.specs.FarDay.{FarDay}
use Rattle.bx_request.specs.declared.request.CaptureWords.{CaptureWords}
use Rattle.bx_day_openings.specs.CaptureOpenings.{IsFirstOf, IsFileFor}
use Rattle.bx_day_openings.specs.Openings.{IsFarOpening}

-- the second that moment 0 has in a capture
abbrev pub HasFirst : Option CaptureWords → Type 0
HasFirst capture = (first : ℕ) × IsFirstOf capture first

-- the far end
abbrev pub HasFarEnd : Type 0
HasFarEnd = (far : FarDay) × IsFarOpening far

-- the file of a capture
abbrev pub HasFile : {F : Type 0} → (F → Option (List ℕ)) → Option CaptureWords → Type 0
HasFile {F = F} contents capture = (file : Option (Watched F)) × IsFileFor contents capture file
