-- The lines of a batch, one after another.
use Rattle.std.proofs.Common.{◌≡◌, ◌<◌, ◌+◌, ◌++◌, ◌∷◌, ◌∙◌, ap, ap₂, sym, suc, ℕ, Bool, true, false, List, length, drop, drop-cons, append_assoc, arith, if◌then◌else◌}
use Rattle.std.proofs.lemmas.List.{drop-drop}
use Rattle.bx_base.specs.Bookings.{Row, row_at, no_row}
use Rattle.bx_market.specs.declared.market.Answer.{Answer}
use Rattle.bx_office_world.specs.declared.tariff.Terms.{Terms}
use Rattle.bx_office_world.specs.Sold.{is_offered, is_sold_answer, next_answer, answer_line, unoffered_line, sold_lines}

-- the place of the next one that is sold
abbrev pub next_place : Answer → ℕ → ℕ
next_place answer place = if is_sold_answer answer then place + 1 else place

module _ (terms : Terms) (wanted : List Row) (i : ℕ) (inside : i < length wanted) (row place told : ℕ) (answers : List Answer) where
  -- the lines that are left, with the first of them taken apart
  abbrev split_lines : Bool → Row → List ℕ
  split_lines b booking =
      if b
      then answer_line row booking (next_answer (drop told answers)) place ++ sold_lines terms (row + 1) (next_place (next_answer (drop told answers)) place) (drop (i + 1) wanted) (drop 1 (drop told answers))
      else (unoffered_line row terms booking ++ sold_lines terms (row + 1) place (drop (i + 1) wanted) (drop told answers))

  next_wanted : drop i wanted ≡ row_at wanted i ∷ drop (i + 1) wanted
  next_wanted = drop-cons wanted i no_row inside ∙ ap (λ (n : ℕ). row_at wanted i ∷ drop n wanted) (let q : suc i ≡ i + 1 = omega arith in q)

  split : (booking : Row) (b : Bool) → row_at wanted i ≡ booking → is_offered terms booking ≡ b → sold_lines terms row place (drop i wanted) (drop told answers) ≡ split_lines b booking
  split booking b at is =
      ap (λ (ws : List Row). sold_lines terms row place ws (drop told answers)) (next_wanted ∙ ap (λ (r : Row). r ∷ drop (i + 1) wanted) at)
      ∙ ap (λ (b : Bool). split_lines b booking) is

  pub after_one_offered : (booking : Row) (answer : Answer) (next : ℕ) (text new whole : List ℕ) → row_at wanted i ≡ booking → is_offered terms booking ≡ true → answer ≡ next_answer (drop told answers) → next_place answer place ≡ next
      → text ++ sold_lines terms row place (drop i wanted) (drop told answers) ≡ whole → new ≡ text ++ answer_line row booking answer place
      → new ++ sold_lines terms (row + 1) next (drop (i + 1) wanted) (drop (told + 1) answers) ≡ whole
  after_one_offered booking answer next text new whole at is told_so after before more =
      let line = answer_line row booking answer place in
      let rest = sold_lines terms (row + 1) next (drop (i + 1) wanted) (drop (told + 1) answers) in
      let left : sold_lines terms row place (drop i wanted) (drop told answers) ≡ line ++ rest =
      split booking true at is
      ∙ ap (λ (a : Answer). answer_line row booking a place ++ sold_lines terms (row + 1) (next_place a place) (drop (i + 1) wanted) (drop 1 (drop told answers))) (sym told_so)
      ∙ ap₂ (λ (p : ℕ) (told : List Answer). line ++ sold_lines terms (row + 1) p (drop (i + 1) wanted) told) after (drop-drop 1 told answers) in
      ap (λ (t : List ℕ). t ++ rest) more ∙ append_assoc text line rest ∙ ap (λ (t : List ℕ). text ++ t) (sym left) ∙ before

  pub after_one_unoffered : (booking : Row) (text new whole : List ℕ) → row_at wanted i ≡ booking → is_offered terms booking ≡ false
      → text ++ sold_lines terms row place (drop i wanted) (drop told answers) ≡ whole → new ≡ text ++ unoffered_line row terms booking
      → new ++ sold_lines terms (row + 1) place (drop (i + 1) wanted) (drop told answers) ≡ whole
  after_one_unoffered booking text new whole at is before more =
      let rest = sold_lines terms (row + 1) place (drop (i + 1) wanted) (drop told answers) in
      ap (λ (t : List ℕ). t ++ rest) more ∙ append_assoc text (unoffered_line row terms booking) rest ∙ ap (λ (t : List ℕ). text ++ t) (sym (split booking false at is)) ∙ before
