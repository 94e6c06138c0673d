-- What was read of a device that tells its octets is its text, or a prefix of it.
use Rattle.std.proofs.Common.{◌≡◌, ◌≤◌, ℕ, Bool, List, [], ◌++◌, length, take, Option, Some, None, Result, Ok, Err, refl, ap, sym, ◌∙◌, subst, append_assoc}
use Rattle.std.proofs.lemmas.List.{append-nil}
use Rattle.std.specs.Io.KnownBytes.{Consumes, IsAtEnd}
use Rattle.bx_events.specs.Events.{LiveEvent}
use Rattle.bx_day.specs.Day.{Day}
use Rattle.bx_day.specs.Outages.{live_day_after}
use Rattle.bx_journal.specs.declared.fault.JournalFault.{JournalFault}
use Rattle.bx_journal.specs.declared.fault.JournalFault.TheVariants.{BadLine, OtherPlan, OtherDay, OtherRules, NotBegun, ReadFailed}
use Rattle.bx_journal.specs.declared.head.Head.{Head}
use Rattle.bx_journal.specs.declared.head.Wanted.{Wanted}
use Rattle.bx_journal.specs.Reading.{recovered, journal_in, events_before}
use Rattle.bx_journal.specs.Lines.{whole_text}
use Rattle.bx_journal.specs.Follows.{WasRefused, IsFollowed}
use Rattle.bx_journal.specs.Heads.{IsWanted}
use Rattle.bx_journal.specs.Logging.{IsPrefix}
use Rattle.bx_journal.proofs.OneText.{with_less}
use Rattle.bx_journal.proofs.Recoveries.{the_events}
use Rattle.bx_recovery.specs.Recovered.{goes_on_by, IsDayBefore, IsRecovered, IsPrefixDay}

pub record Splits (text read : List ℕ) : Type 0 where
  pub rest : List ℕ
  pub is : text ≡ read ++ rest

splits : (text read : List ℕ) (after : Option (List ℕ)) → Consumes (Some text) after read → Splits text read
splits text read None c = absurd c
splits text read (Some rest) c = record { rest = rest; is = c }

whole : (text read : List ℕ) (after : Option (List ℕ)) → Consumes (Some text) after read → IsAtEnd after → text ≡ read
whole text read None c e = absurd c
whole text read (Some rest) c e = c ∙ ap (λ (l : List ℕ). read ++ l) e ∙ append-nil read

module _ (wanted : Wanted) (text : List ℕ) (after : Option (List ℕ)) (old new : Day) where
  before_fault : (fault : JournalFault) → WasRefused goes_on_by (Some text) after wanted old new fault → IsDayBefore wanted text old new fault
  before_fault fault r =
      let s = splits text r.read after r.consumed in
      record {
        is = ap (recovered wanted) s.is ∙ r.is s.rest;
        day = r.followed_all ∙ ap (λ (es : List LiveEvent). live_day_after es old) (sym (ap (events_before wanted) s.is ∙ r.are s.rest));
      }

  known : (faulted : Bool) (result : Result ℕ JournalFault) → IsFollowed goes_on_by faulted (Some text) after wanted old new result → IsRecovered wanted text old new result
  known faulted (Ok n) r = record { events = r.events; is = ap (journal_in wanted) (whole text r.text after r.consumed r.at_end) ∙ r.is; day = r.followed_all }
  known faulted (Err (BadLine n)) r = before_fault (BadLine n) r
  known faulted (Err OtherPlan) r = before_fault OtherPlan r
  known faulted (Err OtherDay) r = before_fault OtherDay r
  known faulted (Err OtherRules) r = before_fault OtherRules r
  known faulted (Err NotBegun) r = (ap (recovered wanted) (whole text r.text after r.consumed r.at_end) ∙ r.is, r.followed_none)
  known faulted (Err ReadFailed) r =
      let s = splits text (r.read ++ r.held) after r.consumed in
      record { prefix = r.read; rest = r.held ++ s.rest; splits = s.is ∙ append_assoc r.read r.held s.rest; events = r.events; is = r.is; day = r.followed_all }

pub day_known : (wanted : Wanted) (text : List ℕ) (before after : Option (List ℕ)) (old new : Day) (faulted : Bool) (result : Result ℕ JournalFault) → before ≡ Some text → IsFollowed goes_on_by faulted before after wanted old new result → IsRecovered wanted text old new result
day_known wanted text before after old new faulted result is r = known wanted text after old new faulted result (subst (λ (b : Option (List ℕ)). IsFollowed goes_on_by faulted b after wanted old new result) is r)

ok_events : (xs ys : List LiveEvent) (r : Result (List LiveEvent) JournalFault) → r ≡ Ok xs → r ≡ Ok ys → xs ≡ ys
ok_events xs ys r a b = cc

not_both : (xs : List LiveEvent) (f : JournalFault) (r : Result (List LiveEvent) JournalFault) → r ≡ Ok xs → r ≡ Err f → ⊥
not_both xs f r a b = absurd cc

-- what a crash left, as it is read where this is wanted
abbrev IsPrefixOf : Wanted → List LiveEvent → List LiveEvent → List ℕ → Type 0
IsPrefixOf wanted before more text = (n : ℕ) × (n ≤ length more) × (recovered wanted text ≡ Ok (before ++ take n more))

prefix_by : (wanted : Wanted) (text : List ℕ) (old new : Day) (result : Result ℕ JournalFault) (before more : List LiveEvent) → IsRecovered wanted text old new result → IsPrefixOf wanted before more text → IsPrefixDay before more old new result
prefix_by wanted text old new (Ok n) before more r f =
    let events = the_events (length (whole_text text)) n (recovered wanted text) r.events r.is in
    (f.0, f.1, r.day ∙ ap (λ (es : List LiveEvent). live_day_after es old) (ok_events r.events (before ++ take f.0 more) (recovered wanted text) events f.2))
prefix_by wanted text old new (Err (BadLine n)) before more r f = absurd (not_both _ (BadLine n) (recovered wanted text) f.2 r.is)
prefix_by wanted text old new (Err OtherPlan) before more r f = absurd (not_both _ OtherPlan (recovered wanted text) f.2 r.is)
prefix_by wanted text old new (Err OtherDay) before more r f = absurd (not_both _ OtherDay (recovered wanted text) f.2 r.is)
prefix_by wanted text old new (Err OtherRules) before more r f = absurd (not_both _ OtherRules (recovered wanted text) f.2 r.is)
prefix_by wanted text old new (Err NotBegun) before more r f = absurd (not_both _ NotBegun (recovered wanted text) f.2 r.0)
prefix_by wanted text old new (Err ReadFailed) before more r f = refl

-- of the journal of a head that is wanted
pub prefix_day : (wanted : Wanted) (head : Head) (text : List ℕ) (old new : Day) (result : Result ℕ JournalFault) (before more : List LiveEvent) → IsWanted wanted head → IsRecovered wanted text old new result → IsPrefix head before more text → IsPrefixDay before more old new result
prefix_day wanted head text old new result before more is r f = prefix_by wanted text old new result before more r (f.0, f.1, with_less head wanted text (before ++ take f.0 more) is f.2)

-- what a follower has followed, said of its day
module _ {F : Type 0} (followed : F → List LiveEvent → F → Type 0) (day : F → Day) (goes : (f g : F) (events : List LiveEvent) → followed f events g → goes_on_by (day f) events (day g))
    (faulted : Bool) (before after : Option (List ℕ)) (wanted : Wanted) (f g : F) where
  refused_day : (fault : JournalFault) → WasRefused followed before after wanted f g fault → WasRefused goes_on_by before after wanted (day f) (day g) fault
  refused_day fault r = record { read = r.read; consumed = r.consumed; is = r.is; events = r.events; are = r.are; followed_all = goes f g r.events r.followed_all }

  pub followed_day : (result : Result ℕ JournalFault) → IsFollowed followed faulted before after wanted f g result → IsFollowed goes_on_by faulted before after wanted (day f) (day g) result
  followed_day (Ok n) r = record { text = r.text; consumed = r.consumed; at_end = r.at_end; events = r.events; is = r.is; followed_all = goes f g r.events r.followed_all }
  followed_day (Err (BadLine n)) r = refused_day (BadLine n) r
  followed_day (Err OtherPlan) r = refused_day OtherPlan r
  followed_day (Err OtherDay) r = refused_day OtherDay r
  followed_day (Err OtherRules) r = refused_day OtherRules r
  followed_day (Err NotBegun) r = record { text = r.text; consumed = r.consumed; at_end = r.at_end; is = r.is; followed_none = goes f g [] r.followed_none }
  followed_day (Err ReadFailed) r = record { read = r.read; held = r.held; consumed = r.consumed; events = r.events; is = r.is; followed_all = goes f g r.events r.followed_all; cause = r.cause }
