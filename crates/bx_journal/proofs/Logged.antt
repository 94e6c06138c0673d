-- A journal with one event more, and what a crash leaves of its line.
use Rattle.std.proofs.Common.{◌≡◌, ◌⊎◌, inl, inr, ℕ, List, append_assoc, [], ◌∷◌, ◌++◌, length, take, Result, Ok, Err, OnOk, refl, ap, sym, ◌∙◌, subst, arith, length-append}
use Rattle.std.specs.List.{flat_map}
use Rattle.std.proofs.lemmas.List.{append-nil, take_all, take_at, take-append-le, flat_map_more, map_push}
use Rattle.std.proofs.lemmas.Bool.{cases_lt}
use Rattle.bx_events.specs.Events.{LiveEvent}
use Rattle.bx_journal.specs.Disk.{IsTorn}
use Rattle.bx_journal.specs.declared.version.Version.{Version}
use Rattle.bx_journal.specs.declared.version.Version.TheVariants.{Dated}
use Rattle.bx_journal.specs.Inside.{IsEvent, lines_of}
use Rattle.bx_journal.specs.Events.{IsEventIn, AreEvents, AreEventsIn}
use Rattle.bx_journal.specs.Lines.{line_ended}
use Rattle.bx_journal.specs.Text.{line_of, rules_line, plan_line, day_line, journal_text}
use Rattle.bx_journal.specs.Heads.{IsJournalDay, wanted_of}
use Rattle.bx_journal.specs.declared.head.Head.{Head}
use Rattle.bx_journal.specs.declared.head.TheConstants.{RULES}
use Rattle.bx_journal.specs.Reading.{recovered}
use Rattle.bx_journal.specs.Logging.{IsSettled, IsPending, IsPrefix}
use Rattle.bx_journal.proofs.WholeLines.{torn_line, prefix_without_lf}
use Rattle.bx_journal.proofs.ReadAgain.{line_without_lf, recovered_again}

pub are_more : (v : Version) (es : List LiveEvent) (e : LiveEvent) → AreEventsIn v es → IsEventIn v e → AreEventsIn v (es ++ e ∷ [])
are_more v [] e are is = (is, tt)
are_more v (x ∷ es) e are is = (are.0, are_more v es e are.1 is)

pub text_more : (head : Head) (es : List LiveEvent) (e : LiveEvent) → journal_text head (es ++ e ∷ []) ≡ journal_text head es ++ line_ended (line_of e)
text_more head es e =
    ap (λ (ls : List (List ℕ)). flat_map line_ended (rules_line RULES ∷ plan_line head.plan ∷ day_line head.day ∷ ls)) (map_push line_of es e)
    ∙ sym (flat_map_more line_ended [] (lines_of head es) (line_of e))

-- the text alone is read as its events
pub recovered_whole : (head : Head) (es : List LiveEvent) → IsJournalDay head.day → AreEvents es → recovered (wanted_of head) (journal_text head es) ≡ Ok es
recovered_whole head es day are = ap (recovered (wanted_of head)) (sym (append-nil (journal_text head es))) ∙ recovered_again head es [] day are refl

-- a prefix of the line of one event more
pub prefix_left : (head : Head) (es : List LiveEvent) (e : LiveEvent) (n : ℕ) → IsJournalDay head.day → AreEvents es → IsEvent e
    → (recovered (wanted_of head) (journal_text head es ++ take n (line_ended (line_of e))) ≡ Ok es) ⊎ (recovered (wanted_of head) (journal_text head es ++ take n (line_ended (line_of e))) ≡ Ok (es ++ e ∷ []))
prefix_left head es e n day are is = elim (cases_lt (length (line_of e)) n) [
  | inl whole ↦
      let all : take n (line_ended (line_of e)) ≡ line_ended (line_of e) = take_all n (line_ended (line_of e)) (omega (arith, length-append (line_of e) (10 ∷ []))) in
      inr (ap (λ (l : List ℕ). recovered (wanted_of head) (journal_text head es ++ l)) all ∙ ap (recovered (wanted_of head)) (sym (text_more head es e)) ∙ recovered_whole head (es ++ e ∷ []) day (are_more Dated es e are is))
  | inr torn ↦
      let prefix : take n (line_ended (line_of e)) ≡ take n (line_of e) = take-append-le n (line_of e) (10 ∷ []) torn in
      inl (ap (λ (l : List ℕ). recovered (wanted_of head) (journal_text head es ++ l)) prefix ∙ recovered_again head es (take n (line_of e)) day are (torn_line _ (prefix_without_lf n (line_of e) (line_without_lf Dated e is))))
]

-- with one event more, which is not in the journal
pub longer : (head : Head) (es more : List LiveEvent) (e : LiveEvent) (c : List ℕ) → IsPrefix head es more c → IsPrefix head es (more ++ e ∷ []) c
longer head es more e c f = (f.0, omega (arith, f.1, length-append more (e ∷ [])), f.2 ∙ ap (λ (l : List LiveEvent). Ok (es ++ l)) (sym (take-append-le f.0 more (e ∷ []) f.1)))

-- all that were written, with the last of them or without
last : (head : Head) (es more : List LiveEvent) (e : LiveEvent) (c : List ℕ) → (recovered (wanted_of head) c ≡ Ok (es ++ more)) ⊎ (recovered (wanted_of head) c ≡ Ok ((es ++ more) ++ e ∷ [])) → IsPrefix head es (more ++ e ∷ []) c
last head es more e c (inl without) =
    (length more, omega (arith, length-append more (e ∷ [])), without ∙ ap (λ (l : List LiveEvent). Ok (es ++ l)) (sym (take_at more (e ∷ []) (length more) refl)))
last head es more e c (inr with) =
    let all : take (length (more ++ e ∷ [])) (more ++ e ∷ []) ≡ more ++ e ∷ [] = take_all (length (more ++ e ∷ [])) (more ++ e ∷ []) (omega arith) in
    (length (more ++ e ∷ []), omega arith, with ∙ ap Ok (append_assoc es more (e ∷ []) ∙ ap (λ (l : List LiveEvent). es ++ l) (sym all)))

-- what the write of its line may leave
pub write_leaves : (head : Head) (es more : List LiveEvent) (e : LiveEvent) (line : List ℕ) → IsJournalDay head.day → AreEvents (es ++ more) → IsEvent e → line ≡ line_ended (line_of e)
    → (c : List ℕ) → IsPrefix head es more c ⊎ IsTorn line (journal_text head (es ++ more)) c → IsPrefix head es (more ++ e ∷ []) c
write_leaves head es more e line day are is text c (inl was) = longer head es more e c was
write_leaves head es more e line day are is text c (inr torn) =
    let whole : c ≡ journal_text head (es ++ more) ++ take torn.0 (line_ended (line_of e)) = torn.1 ∙ ap (λ (l : List ℕ). journal_text head (es ++ more) ++ take torn.0 l) text in
    let P : List ℕ → Type 0 = λ d. (recovered (wanted_of head) d ≡ Ok (es ++ more)) ⊎ (recovered (wanted_of head) d ≡ Ok ((es ++ more) ++ e ∷ [])) in
    last head es more e c (subst P (sym whole) (prefix_left head (es ++ more) e torn.0 day are is))

-- nothing is pending
pub settled_prefix : (head : Head) (es : List LiveEvent) (c : List ℕ) → IsJournalDay head.day → AreEvents es → c ≡ journal_text head es → IsPrefix head es [] c
settled_prefix head es c day are is = (0, omega arith, ap (recovered (wanted_of head)) is ∙ recovered_whole head es day are ∙ ap Ok (sym (append-nil es)))

pub pending : {D : Type 0} (holds may_leave : D → List ℕ → Type 0) (disk : D) (head : Head) (es : List LiveEvent) → IsSettled holds may_leave disk head es → IsPending holds may_leave disk head es []
pending {D} holds may_leave disk head es s = record {
  day_is = s.day_is;
  events_are = subst AreEvents (sym (append-nil es)) s.events_are;
  written = subst (λ (l : List LiveEvent). holds disk (journal_text head l)) (sym (append-nil es)) s.written;
  left = λ c left. settled_prefix head es c s.day_is s.events_are (s.durable c left);
}

pub ok_then : {P Q E : Type 0} (r : Result (Unit {0}) E) → OnOk r P → (P → Q) → OnOk r Q
ok_then (Ok x) p f = f p
ok_then (Err e) p f = tt
