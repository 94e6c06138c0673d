-- Bookings that are counted one after another.
use Rattle.std.proofs.Common.{◌≡◌, sym, subst, ◌+◌, ◌≤◌, ℕ, Bool, true, false, List, ◌∷◌, drop, length, if◌then◌else◌, arith}
use Rattle.std.proofs.lemmas.List.{drop_all}
use Rattle.bx_day.specs.declared.entry.Entry.{Entry}
use Rattle.bx_day.specs.declared.entry.Standing.{Standing}
use Rattle.bx_records.specs.Tallies.{IsTallyOf, IsTallySoFar, IsTotalSoFar}
use Rattle.bx_records.specs.Totals.{how_many, pays_of, total_of}
use Rattle.bx_records.specs.declared.tallies.Tally.{Tally}

at_most_one : (b : Bool) → (if b then 1 else 0) ≤ 1
at_most_one true = omega arith
at_most_one false = omega arith

-- one more
pub one_counted : (test : Standing → Bool) (entries : List Entry) (k : ℕ) (entry : Entry) (old new : Tally) → drop k entries ≡ entry ∷ drop (k + 1) entries
    → (b : Bool) → b ≡ test entry.standing → new.count ≡ old.count + (if b then 1 else 0) → new.pay ≡ old.pay + (if b then entry.booking.pay else 0) → new.pay ≤ old.pay + 1000000000
    → IsTallySoFar test entries k old → IsTallySoFar test entries (k + 1) new
one_counted test entries k entry old new cut b is count pay limit t =
    let before : old.count + ((if b then 1 else 0) + how_many test (drop (k + 1) entries)) ≡ how_many test entries = subst (λ (c : Bool). old.count + ((if c then 1 else 0) + how_many test (drop (k + 1) entries)) ≡ how_many test entries) (sym is) (subst (λ (es : List Entry). old.count + how_many test es ≡ how_many test entries) cut t.count) in
    let paid : old.pay + ((if b then entry.booking.pay else 0) + pays_of test (drop (k + 1) entries)) ≡ pays_of test entries = subst (λ (c : Bool). old.pay + ((if c then entry.booking.pay else 0) + pays_of test (drop (k + 1) entries)) ≡ pays_of test entries) (sym is) (subst (λ (es : List Entry). old.pay + pays_of test es ≡ pays_of test entries) cut t.pay) in
    record {
      count = omega (arith, before, count);
      pay = omega (arith, paid, pay);
      few = omega (arith, count, at_most_one b, t.few);
      limit = omega (arith, limit, t.limit);
    }

-- all
pub all_counted : (test : Standing → Bool) (entries : List Entry) (k : ℕ) (tally : Tally) → length entries ≤ k → IsTallySoFar test entries k tally → IsTallyOf test entries tally
all_counted test entries k tally past t =
    let count : tally.count + 0 ≡ how_many test entries = subst (λ (es : List Entry). tally.count + how_many test es ≡ how_many test entries) (drop_all k entries past) t.count in
    let pay : tally.pay + 0 ≡ pays_of test entries = subst (λ (es : List Entry). tally.pay + pays_of test es ≡ pays_of test entries) (drop_all k entries past) t.pay in
    record { count = omega (arith, count); pay = omega (arith, pay) }

-- ---- numbers of bookings, together

pub one_added : (f : Entry → ℕ) (entries : List Entry) (k : ℕ) (entry : Entry) (old new n : ℕ) → drop k entries ≡ entry ∷ drop (k + 1) entries → n ≡ f entry → n ≤ 4294967295 → new ≡ old + n → IsTotalSoFar f entries k old → IsTotalSoFar f entries (k + 1) new
one_added f entries k entry old new n cut is small more t =
    let before : old + (f entry + total_of f (drop (k + 1) entries)) ≡ total_of f entries = subst (λ (es : List Entry). old + total_of f es ≡ total_of f entries) cut t.total_is in
    record { total_is = omega (arith, before, is, more); limit = omega (arith, small, more, t.limit) }

pub all_added : (f : Entry → ℕ) (entries : List Entry) (k total : ℕ) → length entries ≤ k → IsTotalSoFar f entries k total → total ≡ total_of f entries
all_added f entries k total past t =
    let whole : total + 0 ≡ total_of f entries = subst (λ (es : List Entry). total + total_of f es ≡ total_of f entries) (drop_all k entries past) t.total_is in
    omega (arith, whole)
