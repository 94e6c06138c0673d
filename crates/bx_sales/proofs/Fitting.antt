-- What channels carry fits on them, and what fits on them fits beside calls on other channels.
use Rattle.std.proofs.Common.{◌≡◌, ℕ, suc, ◌<◌, ◌≤◌, ◌&&◌, Bool, true, false, cond, map, is_some, List, [], ◌∷◌, length, Option, None, get_or, slice_index_or, refl, sym, ap, ◌∙◌, arith, ◌⊎◌, inl, inr}
use Rattle.std.proofs.lemmas.Bool.{cases_lt, and_parts, true≢false}
use Rattle.std.proofs.lemmas.List.{get_or-map, get_or_past, length-map}
use Rattle.bx_base.specs.Bookings.{Row, row_at, is_running, Carries}
use Rattle.bx_base.specs.Plans.{is_accepted, channel_at}
use Rattle.bx_base.proofs.Duality.{running-le-count}
use Rattle.bx_base.proofs.SumLemmas.{sum_below-le}
use Rattle.bx_colour.specs.Beside.{counts_on, marks_beside}
use Rattle.bx_colour.specs.Colouring.{is_in, FitsChannels}
use Rattle.bx_colour.proofs.RoomBeside.{marked_beside}

pub marked_so : (assigned : List (Option ℕ)) (i : ℕ) → is_in (map is_some assigned) i ≡ is_accepted assigned i
marked_so assigned i = by_order (cases_lt i (length assigned)) where
  by_order : (i < length assigned) ⊎ (length assigned ≤ i) → get_or (map is_some assigned) i false ≡ is_some (get_or assigned i None)
  by_order (inl inside) = get_or-map is_some assigned i None false inside
  by_order (inr beyond) = get_or_past (map is_some assigned) i false (let n = length-map assigned is_some in omega (arith, beyond, n)) ∙ sym (ap is_some (get_or_past assigned i None beyond))

pub fitting : (rows : List Row) (channels : List Bool) (assigned : List (Option ℕ)) → length assigned ≡ length rows → Carries rows channels (is_accepted assigned) (channel_at assigned) → FitsChannels rows (map is_some assigned) channels
fitting rows channels assigned count carries = record {
  one_each = length-map assigned is_some ∙ count;
  enough = λ moment.
      let most = running-le-count rows channels (is_accepted assigned) (channel_at assigned) carries moment in
      let each = sum_below-le (length rows) (λ i. cond (is_in (map is_some assigned) i && is_running (row_at rows i) moment) 1 0) (λ i. cond (is_accepted assigned i && is_running (row_at rows i) moment) 1 0)
      (λ i lt. let e = ap (λ (b : Bool). cond {A = ℕ} (b && is_running (row_at rows i) moment) 1 0) (marked_so assigned i) in omega (arith, e)) in
      omega (arith, most, each);
}

-- what fits as a whole fits beside calls on other channels, which do not count
pub fits_without_others : (own : List (Option ℕ)) (rows : List Row) (channels marks : List Bool) → FitsChannels rows marks channels → FitsChannels rows (marks_beside own channels marks) channels
fits_without_others own rows channels marks fits = record {
  one_each = size own marks ∙ fits.one_each;
  enough = λ moment.
      let most = fits.enough moment in
      let each = sum_below-le (length rows) (λ i. cond (is_in (marks_beside own channels marks) i && is_running (row_at rows i) moment) 1 0) (λ i. cond (is_in marks i && is_running (row_at rows i) moment) 1 0)
      (λ i lt. fewer (is_in (marks_beside own channels marks) i) (is_in marks i) (is_running (row_at rows i) moment) (still i)) in
      omega (arith, most, each);
}
  where
    size : (own : List (Option ℕ)) (marks : List Bool) → length (marks_beside own channels marks) ≡ length marks
    size [] marks = refl
    size (o ∷ own) [] = refl
    size (o ∷ own) (m ∷ marks) = ap suc (size own marks)

    still : (i : ℕ) → is_in (marks_beside own channels marks) i ≡ true → is_in marks i ≡ true
    still i h = (and_parts (is_in marks i) (counts_on channels (slice_index_or own i None)) (sym (marked_beside own channels marks i) ∙ h)).0

    fewer : (a b r : Bool) → (a ≡ true → b ≡ true) → cond {A = ℕ} (a && r) 1 0 ≤ cond {A = ℕ} (b && r) 1 0
    fewer false b r h = omega arith
    fewer true false r h = absurd (true≢false (sym (h refl)))
    fewer true true r h = omega arith
