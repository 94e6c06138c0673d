-- Private: the words of the names of commands, and refusals that are no help.
use Rattle.std.specs.Prelude.{⊤, ℕ, List, codes}
use Rattle.bx_words.specs.declared.command_line.Name.{Name}
use Rattle.bx_words.specs.declared.command_line.Name.TheVariants.{Plan, Check, Amend, Capacity, Explain, Quote, Chart, Day, Serve, Far, Audit, Records, Sold, Decode}
use Rattle.bx_words.specs.declared.reading.Refusal.{Refusal}
use Rattle.bx_words.specs.declared.reading.Refusal.TheVariants.{Memory, Help, Wrong}

abbrev pub command_word : Name → List ℕ
command_word Plan = codes "plan"
command_word Check = codes "check"
command_word Amend = codes "amend"
command_word Capacity = codes "capacity"
command_word Explain = codes "explain"
command_word Quote = codes "quote"
command_word Chart = codes "chart"
command_word Day = codes "day"
command_word Serve = codes "serve"
command_word Far = codes "far"
command_word Audit = codes "audit"
command_word Records = codes "records"
command_word Sold = codes "sold"
command_word Decode = codes "decode"

-- what is wrong with words is no help
abbrev pub IsNoHelp : Refusal → Type 0
IsNoHelp (Wrong text) = ⊤
IsNoHelp Memory = ⊤
IsNoHelp (Help text) = ⊥
