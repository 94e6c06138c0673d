-- Why what a day needs is not opened.
use Rattle.std.specs.Prelude.{◌≡◌, ◌⊎◌, ℕ, List, Option, Some, None, MatchOption}
use Rattle.csv.specs.Reading.{strip_bom}
use Rattle.bx_calendar.specs.DayParts.{start_of}
use Rattle.bx_calendar.specs.NamedDays.{IsDayOf, IsDayFault}
use Rattle.bx_calendar.specs.declared.day.Day.{Day}
use Rattle.bx_calendar.specs.declared.day.DayFault.{DayFault}
use Rattle.bx_capture.specs.Starts.{IsNameable}
use Rattle.bx_check_commands.specs.PlanFiles.{HasNoProvedPlan}
use Rattle.bx_check_commands.specs.declared.fault.CommandFault.TheVariants.{CannotRead, Memory}
use Rattle.bx_far.specs.ScriptTexts.{IsScriptFault}
use Rattle.bx_far.specs.declared.fault.ScriptFault.{ScriptFault}
use Rattle.bx_far.specs.declared.fault.ScriptFault.TheVariants as scripts
use Rattle.bx_request.specs.declared.request.CaptureWords.{CaptureWords}
use Rattle.bx_day_openings.specs.declared.fault.DayCommandFault.{DayCommandFault}
use Rattle.bx_day_openings.specs.declared.fault.DayCommandFault.TheVariants.{Command, Script, Capture, CannotListen, CannotConnect, CannotWriteFile}
use Rattle.bx_day_openings.specs.declared.fault.DayCommandFault.TheVariants as faults

-- a file of this name is not read, or holds no plan that is proved, or memory runs out
abbrev pub IsNoOpening : List ℕ → DayCommandFault → Type 0
IsNoOpening name (Command fault) = HasNoProvedPlan name fault
IsNoOpening name _ = ⊥

-- this text, which is what there was to read where the input tells it, is no script, with this first fault
pub record IsNoScriptText (before : Option (List ℕ)) (fault : ScriptFault) : Type 0 where
  pub text : List ℕ
  pub told : (known : List ℕ) → before ≡ Some known → text ≡ known
  pub first : IsScriptFault (strip_bom text) fault

-- a file of this name is not read, or holds a text that is no script, with just this first fault, or memory runs out
abbrev pub IsNoFarEnd : List ℕ → DayCommandFault → Type 0
IsNoFarEnd name (Command (CannotRead n)) = n.now ≡ name
IsNoFarEnd name (Command Memory) = Unit {0}
IsNoFarEnd name (Script fault) = (¬ (fault ≡ scripts.Memory)) × IsNoScriptText None fault
IsNoFarEnd name _ = ⊥

-- the file of this capture
abbrev pub IsFileOf : Option CaptureWords → List ℕ → Type 0
IsFileOf None name = ⊥
IsFileOf (Some capture) name = name ≡ capture.file.now

-- the day of this capture is none, by just this fault
abbrev pub IsNoCaptureDay : Option CaptureWords → DayFault → Type 0
IsNoCaptureDay None fault = ⊥
IsNoCaptureDay (Some capture) fault = MatchOption capture.day ⊥ (λ words. IsDayFault words.0.now words.1.now fault)

-- the seconds of the day of this capture are beyond what it can name
abbrev pub IsUnnameable : Option CaptureWords → Type 0
IsUnnameable None = ⊥
IsUnnameable (Some capture) = MatchOption capture.day ⊥ (λ words. (day : Day) × IsDayOf words.0.now words.1.now day × (¬ IsNameable (start_of day)))

-- there is to be a capture, and its day is none, or beyond what it can name
abbrev pub IsNoFirst : Option CaptureWords → DayCommandFault → Type 0
IsNoFirst capture (faults.Day fault) = IsNoCaptureDay capture fault
IsNoFirst capture (Capture fault) = IsUnnameable capture
IsNoFirst capture _ = ⊥

-- its file is not written
abbrev pub IsNoFile : Option CaptureWords → DayCommandFault → Type 0
IsNoFile capture (CannotWriteFile name) = IsFileOf capture name.now
IsNoFile capture _ = ⊥

-- there is no listener, or no peer
abbrev pub IsUnheard : DayCommandFault → Type 0
IsUnheard CannotListen = Unit {0}
IsUnheard _ = ⊥

-- there is no exchange
abbrev pub IsUnconnected : DayCommandFault → Type 0
IsUnconnected CannotConnect = Unit {0}
IsUnconnected _ = ⊥

-- there is no socket at this end's port, or it may not speak to the other
abbrev pub IsNoLine : DayCommandFault → Type 0
IsNoLine fault = IsUnheard fault ⊎ IsUnconnected fault
