-- What is told of a journal that was followed.
use Rattle.std.proofs.Common.{◌≡◌, ◌∙◌, ◌⊎◌, inl, inr, ℕ, Bool, true, List, [], ◌++◌, length, Option, Some, None, Result, Ok, Err, OnOk, refl, ap, sym, subst, arith, Bor}
use Rattle.std.specs.Prelude.{IfErr}
use Rattle.std.proofs.lemmas.List.{append-nil, length-append}
use Rattle.std.specs.Io.KnownBytes.{Consumes, IsAtEnd}
use Rattle.bx_day_openings.specs.declared.fault.DayCommandFault.{DayCommandFault}
use Rattle.bx_events.specs.Events.{LiveEvent}
use Rattle.bx_journal.specs.Follows.{WasCutOff, IsFollowed}
use Rattle.bx_journal.specs.Lines.{whole_text}
use Rattle.bx_journal.specs.Reading.{recovered}
use Rattle.bx_journal.specs.declared.fault.JournalFault.{JournalFault}
use Rattle.bx_journal.specs.declared.fault.JournalFault.TheVariants.{BadLine, OtherPlan, OtherDay, OtherRules, NotBegun, ReadFailed}
use Rattle.bx_journal.specs.declared.head.Wanted.{Wanted}
use Rattle.bx_journal.proofs.Recoveries.{the_events}
use Rattle.bx_day_openings.specs.JournalRefusals.{IsNoJournalText, IsNoJournal, IsCutOff}
use Rattle.bx_day_openings.specs.Answers.{told_of}
use Rattle.bx_day_openings.specs.Followed.{IsFollowedWhole}

text_told : (before after : Option (List ℕ)) (text : List ℕ) → Consumes before after text → IsAtEnd after → (known : List ℕ) → before ≡ Some known → text ≡ known
text_told None after text consumed end known is = absurd cc
text_told (Some xs) None text consumed end known is = absurd consumed
text_told (Some xs) (Some ys) text consumed end known is =
    let same : xs ≡ known = cc in
    sym (append-nil text) ∙ ap (λ (l : List ℕ). text ++ l) (sym end) ∙ sym consumed ∙ same

faulty_text : (wanted : Wanted) (read : List ℕ) (before after : Option (List ℕ)) (fault : JournalFault) → Consumes before after read → ((more : List ℕ) → recovered wanted (read ++ more) ≡ Err fault) → IsNoJournalText wanted before fault
faulty_text wanted read None after fault consumed is = record { text = read ++ []; told = λ known e. absurd cc; first = is [] }
faulty_text wanted read (Some text) None fault consumed is = absurd consumed
faulty_text wanted read (Some text) (Some rest) fault consumed is = record { text = text; told = λ known e. cc; first = ap (recovered wanted) consumed ∙ is rest }

module _ {F : Type 0} (followed : F → List LiveEvent → F → Type 0) (faulted : Bool) (before after : Option (List ℕ)) (wanted : Wanted) (f g : F) where
  cut_off : WasCutOff followed faulted before after wanted f g → IsCutOff before after faulted
  cut_off r = by_cause r.cause where
    by_cause : ((faulted ≡ true) × (r.held ≡ [])) ⊎ (length r.read ≡ 18446744073709551615) → IsCutOff before after faulted
    by_cause (inl (failed, none)) = inl failed
    by_cause (inr count) = inr (length (r.read ++ r.held), omega (arith, length-append r.read r.held, count), (r.read ++ r.held, refl, r.consumed))

  module _ (name : Bor (List ℕ)) where
    whole_if : (whole : Result ℕ JournalFault) → IsFollowed followed faulted before after wanted f g whole → OnOk (told_of name whole) (IsFollowedWhole followed wanted before f g)
    whole_if (Ok n) r = record {
      events = r.events;
      journal = record { text = r.text; told = text_told before after r.text r.consumed r.at_end; are = inl (the_events (length (whole_text r.text)) n (recovered wanted r.text) r.events r.is) };
      all = r.followed_all;
    }
    whole_if (Err NotBegun) r = record { events = []; journal = record { text = r.text; told = text_told before after r.text r.consumed r.at_end; are = inr (r.is, refl) }; all = r.followed_none }
    whole_if whole r = tt

    refused_if : (whole : Result ℕ JournalFault) → IsFollowed followed faulted before after wanted f g whole → IfErr (told_of name whole) (IsNoJournal name.now wanted before after faulted)
    refused_if (Ok n) r = tt
    refused_if (Err NotBegun) r = tt
    refused_if (Err (BadLine n)) r = faulty_text wanted r.read before after (BadLine n) r.consumed r.is
    refused_if (Err OtherPlan) r = faulty_text wanted r.read before after OtherPlan r.consumed r.is
    refused_if (Err OtherDay) r = faulty_text wanted r.read before after OtherDay r.consumed r.is
    refused_if (Err OtherRules) r = faulty_text wanted r.read before after OtherRules r.consumed r.is
    refused_if (Err ReadFailed) r = (refl, cut_off r)

    pub followed_whole : (whole : Result ℕ JournalFault) (result : Result (Unit {0}) DayCommandFault) → result ≡ told_of name whole → IsFollowed followed faulted before after wanted f g whole → OnOk result (IsFollowedWhole followed wanted before f g)
    followed_whole whole result same r = subst (λ (x : Result (Unit {0}) DayCommandFault). OnOk x (IsFollowedWhole followed wanted before f g)) (sym same) (whole_if whole r)

    pub not_followed : (whole : Result ℕ JournalFault) (result : Result (Unit {0}) DayCommandFault) → result ≡ told_of name whole → IsFollowed followed faulted before after wanted f g whole → IfErr result (IsNoJournal name.now wanted before after faulted)
    not_followed whole result same r = subst (λ (x : Result (Unit {0}) DayCommandFault). IfErr x (IsNoJournal name.now wanted before after faulted)) (sym same) (refused_if whole r)
