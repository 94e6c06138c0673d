-- What the best plan that holds a row says of the plan that leaves it out.
use Rattle.std.proofs.Common.{◌≡◌, ◌≢◌, ℕ, ◌+◌, ◌-◌, ◌<◌, ◌≤◌, Bool, true, false, cond, eqb, ◌&&◌, not, List, length, refl, sym, ◌∙◌, ap, arith, inl, inr}
use Rattle.std.specs.Prelude.{ℤ, pos, ◌+ℤ◌, ◌-ℤ◌, ◌≤ℤ◌}
use Rattle.std.proofs.lemmas.Int.{ints}
use Rattle.std.proofs.lemmas.Bool.{and_parts, cases_eq, eq-eqb, ne_eqb, not-true}
use Rattle.std.proofs.lemmas.List.{get_or-set_same, length-set}
use Rattle.bx_base.specs.Bookings.{Row, row_at, no_row, IsLawful, pay_of}
use Rattle.bx_base.specs.Bound.{Charge, cost_of, term_of, bound_of}
use Rattle.bx_base.specs.Channels.{count_of}
use Rattle.bx_base.specs.PlanParts.{Parts}
use Rattle.bx_base.specs.Plans.{is_accepted}
use Rattle.bx_base.proofs.Duality.{pay-le-bound}
use Rattle.bx_base.proofs.SumLemmas.{sum_below-same, sum_below-add}
use Rattle.bx_planner.specs.Amending.{IsBestPlan}
use Rattle.bx_planner.specs.Named.{AreRowsThatPass, pay_of_rows, traded, picked}
use Rattle.bx_planner.specs.QuotesInside.{is_apart}
use Rattle.bx_planner.specs.Thresholds.{others, offered, IsThreshold}
use Rattle.bx_planner.specs.Weighing.{IsSettledRow, rows_held}
use Rattle.bx_planner.proofs.Places.{pay_offered, pay_split, lawful_offered}
use Rattle.bx_planner.proofs.Holding.{lawful_from_held, holds_held, lawful_held, pay_held, bound_change}
use Rattle.bx_planner.proofs.Picking.{are_rows, pay_picked, trade_is_other}

-- a set is lawful where it is so as far as there are rows
pub lawful_as : (rows : List Row) (channels : List Bool) (a b : ℕ → Bool) → ((j : ℕ) → j < length rows → a j ≡ b j) → IsLawful rows channels b → IsLawful rows channels a
lawful_as rows channels a b same lawful =
    let carries = lawful.carried.1 in
    record {
      carried = (
        lawful.carried.0,
        record {
          in_service = λ i h p. carries.in_service i h (sym (same i h) ∙ p);
          apart = λ i j l h p q o. carries.apart i j l h (sym (same i (omega arith)) ∙ p) (sym (same j h) ∙ q) o;
        },
      );
      has_musts = λ i h m. same i h ∙ lawful.has_musts i h m;
    }

pay_order : (pay total : ℕ) (whole : ℤ) → pos pay ≤ℤ whole → whole ≡ pos total → pay ≤ total
pay_order pay total whole h e = omega (arith, ints)

cost_order : (pay cost total : ℕ) (whole held_whole : ℤ) → pos pay ≤ℤ held_whole → held_whole +ℤ pos 0 ≡ whole +ℤ (pos 0 -ℤ pos cost) → whole ≡ pos total → cost + pay ≤ total
cost_order pay cost total whole held_whole h e t = omega (arith, ints)

free_term : (prices : List Charge) (row : Row) → row.must ≡ false → row.pay ≡ 0 → term_of prices row ≡ pos 0
free_term prices row free none = rw (free, none) (ap (λ (n : ℕ). pos n) (less_of_none (cost_of prices row)))
  where
    less_of_none : (c : ℕ) → 0 - c ≡ 0
    less_of_none c = omega arith

one_pay : (a t : Bool) (pay : ℕ) → ◌≡◌ {A = ℕ} (cond a pay 0 + cond (true && (t && not a)) pay 0) (cond t pay 0 + cond (true && (a && not t)) pay 0)
one_pay true true pay = omega arith
one_pay true false pay = omega arith
one_pay false true pay = omega arith
one_pay false false pay = omega arith

module _ (plan : Parts) (rows : List Row) (i : ℕ) (settled : IsSettledRow plan rows i) where
  -- what lawful sets pay beside the row is no more than the plan's total
  most_beside : (set : ℕ → Bool) → IsLawful rows plan.channels set → pay_of rows (others set i) ≤ plan.total
  most_beside set lawful =
      let free = offered rows i 0 in
      let weak = pay-le-bound free plan.channels plan.prices set (lawful_offered rows i settled.inside plan.channels 0 set lawful) in
      let less = pay_order (pay_of free set) plan.total (bound_of free (count_of plan.channels) plan.prices) weak settled.proved in
      let e = pay_offered rows i settled.inside 0 set in
      omega (arith, less, e)

  -- and with the row they pay no more than that less what its seconds cost
  most_and_cost : (set : ℕ → Bool) → IsLawful rows plan.channels set → set i ≡ true → cost_of plan.prices (row_at rows i) + pay_of rows (others set i) ≤ plan.total
  most_and_cost set lawful holds =
      let free = offered rows i 0 in
      let row = record (row_at rows i) { pay = 0 } in
      let there = get_or-set_same rows i row no_row settled.inside in
      let inside : i < length free = (let many = length-set rows i row in omega (arith, settled.inside, many)) in
      let is_free : (row_at free i).must ≡ false = ap (λ (r : Row). r.must) there ∙ settled.free in
      let is_nothing : (row_at free i).pay ≡ 0 = ap (λ (r : Row). r.pay) there in
      let weak = pay-le-bound (rows_held free i) plan.channels plan.prices set (lawful_held free i inside plan.channels set (lawful_offered rows i settled.inside plan.channels 0 set lawful) holds) in
      let change = bound_change free i (record (row_at free i) { must = true }) (count_of plan.channels) plan.prices inside in
      let term : term_of plan.prices (row_at free i) ≡ pos 0 = free_term plan.prices (row_at free i) is_free is_nothing in
      let new : term_of plan.prices (record (row_at free i) { must = true }) ≡ pos 0 -ℤ pos (cost_of plan.prices (row_at rows i)) = rw there refl in
      let same = pay_held free i inside set in
      let e = pay_offered rows i settled.inside 0 set in
      let less = cost_order (pay_of (rows_held free i) set) (cost_of plan.prices (row_at rows i)) plan.total (bound_of free (count_of plan.channels) plan.prices) (bound_of (rows_held free i) (count_of plan.channels) plan.prices) weak (ap (λ (z : ℤ). bound_of (rows_held free i) (count_of plan.channels) plan.prices +ℤ z) (sym term) ∙ (change ∙ ap (λ (z : ℤ). bound_of free (count_of plan.channels) plan.prices +ℤ z) new)) settled.proved in
      omega (arith, less, same, e)

  module _ (best : Parts) (is_best : IsBestPlan (rows_held rows i) plan.channels best) where
    taken_lawful : IsLawful rows plan.channels (is_accepted best.assigned)
    taken_lawful = lawful_from_held rows i settled.inside plan.channels (is_accepted best.assigned) is_best.lawful

    taken_holds : is_accepted best.assigned i ≡ true
    taken_holds = holds_held rows i settled.inside plan.channels (is_accepted best.assigned) is_best.lawful

    pays_holding : (set : ℕ → Bool) → set i ≡ true → pay_of (rows_held rows i) set ≡ pay_of rows (others set i) + (row_at rows i).pay
    pays_holding set holds =
        let e = pay_split rows i settled.inside set in
        let one : ◌≡◌ {A = ℕ} (cond (set i) (row_at rows i).pay 0) (row_at rows i).pay = rw holds refl in
        omega (arith, e, one, pay_held rows i settled.inside set)

    -- the second total is what the others pay in it, and the row
    second_total : best.total ≡ pay_of rows (others (is_accepted best.assigned) i) + (row_at rows i).pay
    second_total = is_best.total_of ∙ pays_holding (is_accepted best.assigned) taken_holds

    plan_pays : pay_of rows (others (is_accepted plan.assigned) i) ≡ plan.total
    plan_pays =
        let e = pay_split rows i settled.inside (is_accepted plan.assigned) in
        let none : ◌≡◌ {A = ℕ} (cond (is_accepted plan.assigned i) (row_at rows i).pay 0) 0 = rw settled.left_out refl in
        omega (arith, e, none, settled.paid)

    -- the difference of the totals is no less than nothing
    pub not_less : best.total ≤ plan.total + (row_at rows i).pay
    not_less = let most = most_beside (is_accepted best.assigned) taken_lawful in omega (arith, most, second_total)

    pub threshold_is : IsThreshold rows plan.channels i (plan.total + (row_at rows i).pay - best.total)
    threshold_is =
        let beside = pay_of rows (others (is_accepted best.assigned) i) in
        let most = most_beside (is_accepted best.assigned) taken_lawful in
        record {
          without = plan.total;
          beside = beside;
          most_without = record { set = is_accepted plan.assigned; lawful = settled.lawful; holds = settled.left_out; pays = plan_pays; limit = λ set lawful h. most_beside set lawful };
          most_beside = record {
            set = is_accepted best.assigned;
            lawful = taken_lawful;
            holds = taken_holds;
            pays = refl;
            limit = λ set lawful h. (
                let less = is_best.best set (lawful_held rows i settled.inside plan.channels set lawful h) in
                omega (arith, less, pays_holding set h, second_total));
          };
          less = omega (arith, most, second_total);
        }

    pub cost_below : cost_of plan.prices (row_at rows i) ≤ plan.total + (row_at rows i).pay - best.total
    cost_below =
        let most = most_and_cost (is_accepted best.assigned) taken_lawful taken_holds in
        omega (arith, most, second_total)

    abbrev accepted : ℕ → Bool
    accepted = is_accepted plan.assigned

    abbrev taken : ℕ → Bool
    taken = is_accepted best.assigned

    apart_parts : (one other : ℕ → Bool) (j : ℕ) → is_apart one other i j ≡ true → (j ≢ i) × (one j ≡ true) × (other j ≡ false)
    apart_parts one other j h =
        let both = and_parts (not (eqb j i)) (one j && not (other j)) h in
        let inner = and_parts (one j) (not (other j)) both.1 in
        let differs = not-true (eqb j i) both.0 in
        (λ s. (let e = eq-eqb j i s in cc), inner.0, not-true (other j) inner.1)

    pub instead_named : AreRowsThatPass (length plan.rows) accepted (picked (is_apart accepted taken i) (length rows))
    instead_named =
        are_rows (length plan.rows) (is_apart accepted taken i) accepted (length rows) (λ j h e. let p = apart_parts accepted taken j e in (settled.others_known j h p.0, p.1))

    pub besides_named : AreRowsThatPass (length plan.rows) (λ j. not (eqb j i) && not (accepted j)) (picked (is_apart taken accepted i) (length rows))
    besides_named =
        are_rows (length plan.rows) (is_apart taken accepted i) (λ j. not (eqb j i) && not (accepted j)) (length rows) (λ j h e.
        let p = apart_parts taken accepted j e in
        (settled.others_known j h p.0, (rw (ne_eqb j i p.0, p.2) refl)))

    pub trade_lawful : IsLawful rows plan.channels (traded accepted i (picked (is_apart accepted taken i) (length rows)) (picked (is_apart taken accepted i) (length rows)))
    trade_lawful =
        lawful_as rows plan.channels (traded accepted i (picked (is_apart accepted taken i) (length rows)) (picked (is_apart taken accepted i) (length rows))) taken (λ j h. trade_is_other accepted taken (length rows) i j taken_holds h) taken_lawful

    row_paid : (j : ℕ) → ◌≡◌ {A = ℕ} (cond (others accepted i j) (row_at rows j).pay 0 + cond (is_apart taken accepted i j) (row_at rows j).pay 0) (cond (others taken i j) (row_at rows j).pay 0 + cond (is_apart accepted taken i j) (row_at rows j).pay 0)
    row_paid j =
        elim (cases_eq j i) [
          | inl s ↦ (rw (eq-eqb j i s) refl)
          | inr d ↦ (rw (ne_eqb j i d) (one_pay (accepted j) (taken j) (row_at rows j).pay))
        ]

    pub trade_settles : (plan.total + (row_at rows i).pay - best.total) + pay_of_rows rows (picked (is_apart taken accepted i) (length rows)) ≡ pay_of_rows rows (picked (is_apart accepted taken i) (length rows))
    trade_settles =
        let n = length rows in
        let most = most_beside taken taken_lawful in
        let a = λ (j : ℕ). cond {A = ℕ} (others accepted i j) (row_at rows j).pay 0 in
        let b = λ (j : ℕ). cond {A = ℕ} (is_apart taken accepted i j) (row_at rows j).pay 0 in
        let c = λ (j : ℕ). cond {A = ℕ} (others taken i j) (row_at rows j).pay 0 in
        let d = λ (j : ℕ). cond {A = ℕ} (is_apart accepted taken i j) (row_at rows j).pay 0 in
        let each = sum_below-same n (λ j. a j + b j) (λ j. c j + d j) (λ j h. row_paid j) in
        omega (arith, most, second_total, plan_pays, each, sum_below-add n a b, sum_below-add n c d, pay_picked rows (is_apart taken accepted i) n, pay_picked rows (is_apart accepted taken i) n)
