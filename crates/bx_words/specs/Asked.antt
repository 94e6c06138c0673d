-- What a command line asks for.
use Rattle.std.specs.Prelude.{◌≡◌, ◌⊎◌, ◌||◌, ⊤, ℕ, Bool, true, List, Option, Some, Result, Ok, Err, codes, nat_eq, option_map, slice_get}
use Rattle.std.specs.Borrow.{Bor}
use Rattle.std.specs.List.{list_any, starts_with}
use Rattle.std.specs.Str.{bytes_eq}
use Rattle.clap.specs.declared.parser.matches.Found.{Found}
use Rattle.bx_request.specs.declared.request.Request.{Request}
use Rattle.bx_words.specs.Filled.{IsAskedBy, command_of}
use Rattle.bx_words.specs.declared.reading.Refusal.{Refusal}
use Rattle.bx_words.specs.declared.reading.Refusal.TheVariants.{Memory, Help, Wrong}

abbrev pub first_word : List (Bor (List ℕ)) → Option (List ℕ)
first_word words = option_map (λ word. word.now) (slice_get words 0)

-- the first word is that of its command, and what the options of that command have fills it
pub record IsCommandOf (words : List (Bor (List ℕ))) (request : Request) : Type 0 where
  pub found : Found
  pub first : first_word words ≡ Some (command_of request)
  pub asked : IsAskedBy (command_of request) found request

-- an option that asks for help or for the version
abbrev pub is_help_option : List ℕ → Bool
is_help_option word = bytes_eq word (codes "--help") || bytes_eq word (codes "--version") || starts_with nat_eq word (codes "-h") || starts_with nat_eq word (codes "-V")

-- that is what the words ask for
abbrev pub AskForHelp : List (Bor (List ℕ)) → Type 0
AskForHelp words = (first_word words ≡ Some (codes "help")) ⊎ (list_any (λ word. is_help_option word.now) words ≡ true)

-- what words ask for; nothing is said of what is wrong with them
abbrev pub AreWordsRead : List (Bor (List ℕ)) → Result Request Refusal → Type 0
AreWordsRead words (Ok request) = IsCommandOf words request
AreWordsRead words (Err (Help text)) = AskForHelp words
AreWordsRead words (Err (Wrong text)) = ⊤
AreWordsRead words (Err Memory) = ⊤
