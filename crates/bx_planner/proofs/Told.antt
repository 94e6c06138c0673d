-- What was written of an answer.
use Rattle.std.proofs.Common.{◌≡◌, ℕ, ◌+◌, Bool, true, false, List, [], ◌∷◌, ◌++◌, length, Result, Ok, Err, sym, ◌∙◌, ap, subst, arith, add-one, refl, not}
use Rattle.std.specs.Prelude.{OnOk, IfErr, ◌↔◌}
use Rattle.std.specs.List.{flat_map}
use Rattle.std.specs.Io.KnownBytes.{Appends}
use Rattle.std.proofs.lemmas.Grind.{flat_map-append}
use Rattle.std.proofs.lemmas.List.{append-nil, length_push}
use Rattle.bx_base.specs.Bookings.{Row}
use Rattle.bx_devices.specs.Devices.{Writing}
use Rattle.bx_devices.specs.Octets.{AppendsPrefix}
use Rattle.bx_base.specs.PlanParts.{Parts}
use Rattle.bx_base.specs.Plans.{is_accepted}
use Rattle.bx_planner.specs.declared.answer.Quote.{Quote}
use Rattle.bx_planner.specs.declared.answer.NoQuote.{NoQuote}
use Rattle.bx_planner.specs.declared.answer.NoQuote.TheVariants.{Accepted, Memory}
use Rattle.bx_planner.specs.declared.writing.QuoteFault.{QuoteFault}
use Rattle.bx_planner.specs.declared.writing.QuoteFault.TheVariants as fault
use Rattle.bx_planner.specs.Named.{picked}
use Rattle.bx_planner.specs.Quotes.{IsQuote}
use Rattle.bx_planner.specs.Texts.{refused_line, refused_rows}
use Rattle.bx_planner.specs.Writing.{IsToldOfRow}
use Rattle.bx_planner.specs.QuotesInside.{IsWriteFault}

abbrev pub Put : Type 0
Put = Result (Unit {0}) QuoteFault

pub told : (r : Put) (rows : List Row) (plan : Parts) (i : ℕ) (text : Quote → List ℕ) (quote : Quote) (output : Writing) (octets : List ℕ) → IsQuote rows plan i quote → octets ≡ text quote → OnOk r (Appends output.before output.after octets) → OnOk r (IsToldOfRow rows plan i text output)
told (Ok x) rows plan i text quote output octets is same written = record { quote = quote; is = is; written = subst (λ (t : List ℕ). Appends output.before output.after t) same written }
told (Err e) rows plan i text quote output octets is same written = tt

-- the one way in which a text is not written
pub not_written : (r : Put) (P : QuoteFault → Type 0) (output : Writing) (octets text : List ℕ) → octets ≡ text → (output.is_faulted ≡ true → AppendsPrefix output.before output.after text → P fault.WriteFailed) → IfErr r (IsWriteFault output octets) → IfErr r P
not_written (Ok x) P output octets text same then fails = tt
not_written (Err fault.WriteFailed) P output octets text same then fails = then fails.0 (subst (λ (t : List ℕ). AppendsPrefix output.before output.after t) same fails.1)
not_written (Err (fault.Quote fail)) P output octets text same then fails = absurd fails

picked_more : (test : ℕ → Bool) (n : ℕ) → test n ≡ true → picked test (n + 1) ≡ picked test n ++ (n + 1) ∷ []
picked_more test n h = rw (add-one, h) refl

picked_same : (test : ℕ → Bool) (n : ℕ) → test n ≡ false → picked test (n + 1) ≡ picked test n
picked_same test n h = rw (add-one, h) (append-nil (picked test n))

refused_test : (plan : Parts) (n : ℕ) (b : Bool) → is_accepted plan.assigned n ≡ b → not (is_accepted plan.assigned n) ≡ not b
refused_test plan n b h = ap not h

-- one more row, which is refused
pub lines_more : (plan : Parts) (n : ℕ) (before after : List ℕ) → is_accepted plan.assigned n ≡ false → before ≡ flat_map (refused_line plan) (refused_rows plan n) → after ≡ before ++ refused_line plan (n + 1) → after ≡ flat_map (refused_line plan) (refused_rows plan (n + 1))
lines_more plan n before after h b a =
    let rows = picked_more (λ j. not (is_accepted plan.assigned j)) n (refused_test plan n false h) in
    let split = flat_map-append (refused_line plan) (refused_rows plan n) ((n + 1) ∷ []) in
    a ∙ (ap (λ (t : List ℕ). t ++ refused_line plan (n + 1)) b ∙ (ap (λ (t : List ℕ). flat_map (refused_line plan) (refused_rows plan n) ++ t) (sym (append-nil (refused_line plan (n + 1)))) ∙ (sym split ∙ ap (λ (named : List ℕ). flat_map (refused_line plan) named) (sym rows))))

pub count_more : (plan : Parts) (n refused : ℕ) → is_accepted plan.assigned n ≡ false → refused ≡ length (refused_rows plan n) → refused + 1 ≡ length (refused_rows plan (n + 1))
count_more plan n refused h e =
    let rows = ap (λ (named : List ℕ). length named) (picked_more (λ j. not (is_accepted plan.assigned j)) n (refused_test plan n false h)) in
    omega (arith, rows, length_push (refused_rows plan n) (n + 1), e)

-- one more row, which is accepted
pub rows_same : (plan : Parts) (n : ℕ) → is_accepted plan.assigned n ≡ true → refused_rows plan (n + 1) ≡ refused_rows plan n
rows_same plan n h = picked_same (λ j. not (is_accepted plan.assigned j)) n (refused_test plan n true h)

abbrev pub Found : Type 0
Found = Result Quote NoQuote

-- a fail of the call below is told where it is answered, and only there
pub as_told : {X : Type 0} (fail other : NoQuote) → (◌≡◌ {A = Found} (Err fail) (Err other)) ↔ X → (◌≡◌ {A = Put} (Err (fault.Quote fail)) (Err (fault.Quote other))) ↔ X
as_told fail other both = (
  λ e. let same : fail ≡ other = cc in both.0 (rw same refl),
  λ x. let found = both.1 x in let same : fail ≡ other = cc in rw same refl,
)

no_quote : (r : Put) (fail : NoQuote) (output : Writing) (octets : List ℕ) → IfErr r (IsWriteFault output octets) → r ≡ Err (fault.Quote fail) → ⊥
no_quote (Ok x) fail output octets failed e = cc
no_quote (Err fault.WriteFailed) fail output octets failed e = cc
no_quote (Err (fault.Quote other)) fail output octets failed e = absurd failed

-- no such fail is told where a quote was found, and its text was put
pub never_told : {X : Type 0} (r : Put) (quote : Quote) (fail : NoQuote) (output : Writing) (octets : List ℕ) → IfErr r (IsWriteFault output octets) → (◌≡◌ {A = Found} (Ok quote) (Err fail)) ↔ X → (r ≡ Err (fault.Quote fail)) ↔ X
never_told r quote fail output octets failed both = (
  λ e. absurd (no_quote r fail output octets failed e),
  λ x. let found = both.1 x in absurd (let none : ⊥ = cc in none),
)

-- nor where there was no memory for it
pub no_memory : {X : Type 0} (quote : Quote) (named : ℕ) → (◌≡◌ {A = Found} (Ok quote) (Err (Accepted named))) ↔ X → (◌≡◌ {A = Put} (Err (fault.Quote Memory)) (Err (fault.Quote (Accepted named)))) ↔ X
no_memory quote named both = (
  λ e. absurd (let none : ⊥ = cc in none),
  λ x. let found = both.1 x in absurd (let none : ⊥ = cc in none),
)
