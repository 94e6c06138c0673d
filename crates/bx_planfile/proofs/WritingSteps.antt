-- The lines of bookings, and the text of a plan in its parts.
use Rattle.std.proofs.Common.{◌≡◌, ℕ, zero, suc, ◌<◌, List, [], ◌∷◌, ◌++◌, length, get_or, map, Option, None, Result, Ok, Err, refl, sym, ap, subst, ◌∙◌, arith}
use Rattle.std.specs.List.{flat_map}
use Rattle.std.proofs.lemmas.Grind.{flat_map-append}
use Rattle.bx_base.specs.Bookings.{Row, row_at}
use Rattle.bx_planfile.specs.declared.version.Version.{Version}
use Rattle.bx_planfile.specs.declared.fault.PlanWriteFault.{PlanWriteFault}
use Rattle.bx_text.specs.Lines.{line_text, named}
use Rattle.std.specs.Prelude.{codes, OnOk}
use Rattle.bx_base.specs.declared.plan.Plan.{Plan}
use Rattle.bx_base.specs.PlanParts.{parts_of}
use Rattle.bx_planfile.specs.declared.version.Version.TheVariants.{Three}
use Rattle.bx_planfile.specs.Text.{booking_fields, booking_lines, price_fields, plan_text}
use Rattle.bx_planfile.specs.Writing.{head_lines, foot_lines}
use Rattle.bx_text.specs.Gathering.{HeldBlock, Gathers}
use Rattle.bx_text.proofs.GatheringSteps.{done, puts_then, puts_failed}

abbrev pub Written : Type 0
Written = Result (Unit {0}) PlanWriteFault

-- ---- lines of bookings

pub length-booking_lines : (version : Version) (rows : List Row) (assigned : List (Option ℕ)) → length assigned ≡ length rows → length (booking_lines version rows assigned) ≡ length rows
length-booking_lines version [] assigned e = refl
length-booking_lines version (r ∷ rows) [] e = absurd (omega arith)
length-booking_lines version (r ∷ rows) (a ∷ assigned) e = ap suc (length-booking_lines version rows assigned (omega arith))

pub booking_line_at : (version : Version) (rows : List Row) (assigned : List (Option ℕ)) (i : ℕ) → length assigned ≡ length rows → i < length rows → get_or (booking_lines version rows assigned) i [] ≡ booking_fields version (row_at rows i) (get_or assigned i None)
booking_line_at version [] assigned i e lt = absurd (omega arith)
booking_line_at version (r ∷ rows) [] i e lt = absurd (omega arith)
booking_line_at version (r ∷ rows) (a ∷ assigned) zero e lt = refl
booking_line_at version (r ∷ rows) (a ∷ assigned) (suc i) e lt = booking_line_at version rows assigned i (omega arith) (omega arith)

-- ---- a text of five parts

module _ (plan : Plan) where
  abbrev pub head_text : List ℕ
  head_text = flat_map line_text (head_lines plan)

  abbrev pub rows_text : List ℕ
  rows_text = flat_map line_text (booking_lines Three plan.bookings plan.assigned.items)

  abbrev pub count_text : List ℕ
  count_text = line_text (named (codes "prices") (length plan.prices.items))

  abbrev pub prices_text : List ℕ
  prices_text = flat_map line_text (map price_fields plan.prices.items)

  abbrev pub foot_text : List ℕ
  foot_text = flat_map line_text (foot_lines plan)

  -- the text that is written
  written_text : plan_text Three (parts_of plan) ≡ head_text ++ (rows_text ++ (count_text ++ (prices_text ++ foot_text)))
  written_text =
      let tail = named (codes "prices") (length plan.prices.items) ∷ (map price_fields plan.prices.items ++ foot_lines plan) in
      flat_map-append line_text (head_lines plan) (booking_lines Three plan.bookings plan.assigned.items ++ tail)
      ∙ ap (λ (r : List ℕ). head_text ++ r) (flat_map-append line_text (booking_lines Three plan.bookings plan.assigned.items) tail)
      ∙ ap (λ (r : List ℕ). head_text ++ (rows_text ++ (count_text ++ r))) (flat_map-append line_text (map price_fields plan.prices.items) (foot_lines plan))

-- a part is put after another, or it fails before others, and so does the text
module _ {W : Type 0} {contents : W → Option (List ℕ)} {a b : HeldBlock W} where
  pub following : {d : HeldBlock W} {r : Written} {s t : List ℕ} → Gathers contents a b (done {E = PlanWriteFault}) s → Gathers contents b d r t → Gathers contents a d r (s ++ t)
  following {d} {r} {s} {t} p q = puts_then contents a b d r s t p q

  pub failing : {e f : PlanWriteFault} {s : List ℕ} (rest : List ℕ) → Gathers {T = Unit {0}} contents a b (Err e) s → Gathers {T = Unit {0}} contents a b (Err f) (s ++ rest)
  failing {e} {f} {s} rest p = puts_failed contents a b e f s rest (s ++ rest) refl p

  pub in_text : (plan : Plan) {r : Written} → Gathers contents a b r (head_text plan ++ (rows_text plan ++ (count_text plan ++ (prices_text plan ++ foot_text plan)))) → Gathers contents a b r (plan_text Three (parts_of plan))
  in_text plan {r} = subst (λ (t : List ℕ). Gathers contents a b r t) (sym (written_text plan))

pub on_ok : {T E : Type 0} (r : Result T E) (P : Type 0) → P → OnOk r P
on_ok (Ok x) P h = h
on_ok (Err e) P h = tt
