-- The command that the first word names.
use Rattle.std.proofs.Common.{◌≡◌, ℕ, List, Some, Result, Ok, Err, rules, sym, subst, slice_get}
use Rattle.std.specs.Prelude.{MatchResult}
use Rattle.std.specs.Borrow.{Bor}
use Rattle.clap.specs.declared.parser.matches.Found.{Found}
use Rattle.bx_request.specs.declared.request.Request.{Request}
use Rattle.bx_words.specs.Asked.{IsCommandOf, first_word}
use Rattle.bx_words.specs.Inside.{IsNoHelp}
use Rattle.bx_words.specs.Filled.{IsAskedBy, command_of}
use Rattle.bx_words.specs.declared.reading.Refusal.{Refusal}

module _ (words : List (Bor (List ℕ))) (word : Bor (List ℕ)) (command : List ℕ) (at : Some word ≡ slice_get words 0) (named : command ≡ word.now) where
  named_so : (request : Request) → command_of request ≡ command → first_word words ≡ Some (command_of request)
  named_so request is = search rules

  pub named_first : (found : Found) (result : Result Request Refusal) → MatchResult result (IsAskedBy command found) IsNoHelp → MatchResult result (IsCommandOf words) IsNoHelp
  named_first found (Ok request) asked = record {
    found = found;
    first = named_so request asked.command_is;
    asked = subst (λ (word : List ℕ). IsAskedBy word found request) (sym asked.command_is) asked;
  }
  named_first found (Err refusal) no_help = no_help
