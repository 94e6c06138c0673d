-- The lines that are built are those of the text.
use Rattle.std.proofs.Common.{◌≡◌, ◌≢◌, ℕ, Bool, List, [], ◌∷◌, ◌++◌, length, map, refl, sym, ap, ◌∙◌, arith, length-append}
use Rattle.std.specs.Prelude.{codes, decimal}
use Rattle.bx_text.specs.Lines.{line_text, members_from, spaced}
use Rattle.bx_text.proofs.MemberSteps.{members_line}
use Rattle.bx_day.specs.Telling.{or_none, maintenance_fields}

-- no number was added
none_added : (ns : List ℕ) (line : List ℕ) → line ≡ codes "maintenance" ++ spaced ns → length line ≡ 11 → ns ≡ []
none_added [] line e l = refl
none_added (n ∷ ns) line e l = absurd (omega (arith, ap length e, length-append (codes "maintenance") (spaced (n ∷ ns))))

none_whole : (ns : List ℕ) (line whole : List ℕ) → line ≡ codes "maintenance" ++ spaced ns → ns ≡ [] → whole ≡ (line ++ codes " none") ++ 10 ∷ [] → whole ≡ line_text (codes "maintenance" ∷ or_none (map decimal ns))
none_whole ns line whole e none end =
    end ∙ ap (λ (l : List ℕ). (l ++ codes " none") ++ 10 ∷ []) (e ∙ ap (λ (xs : List ℕ). codes "maintenance" ++ spaced xs) none)
    ∙ ap (λ (xs : List ℕ). line_text (codes "maintenance" ∷ or_none (map decimal xs))) (sym none)

some_whole : (ns : List ℕ) (line whole : List ℕ) → line ≡ codes "maintenance" ++ spaced ns → length line ≢ 11 → whole ≡ line ++ 10 ∷ [] → whole ≡ line_text (codes "maintenance" ∷ or_none (map decimal ns))
some_whole [] line whole e other end = absurd (other (ap length e))
some_whole (n ∷ ns) line whole e other end = members_line (codes "maintenance") (codes "maintenance") line whole (n ∷ ns) refl e end

module _ (bs : List Bool) (line whole : List ℕ) (told : line ≡ codes "maintenance" ++ spaced (members_from 0 bs)) where
  pub maintained_none : length line ≡ 11 → whole ≡ (line ++ codes " none") ++ 10 ∷ [] → whole ≡ line_text (maintenance_fields bs)
  maintained_none l end = none_whole (members_from 0 bs) line whole told (none_added (members_from 0 bs) line told l) end

  pub maintained_some : length line ≢ 11 → whole ≡ line ++ 10 ∷ [] → whole ≡ line_text (maintenance_fields bs)
  maintained_some l end = some_whole (members_from 0 bs) line whole told l end
