-- The last plan of a day that is told.
use Rattle.std.proofs.Common.{◌≡◌, ◌∙◌, ℕ, ◌≤◌, Bool, true, List, ◌++◌, map, is_some, length, Option, Result, sym, ap, ap₂, subst, arith}
use Rattle.bx_base.specs.Bookings.{Row, Carries, IsLawful, pay_of}
use Rattle.bx_base.specs.PlanParts.{Parts}
use Rattle.bx_base.specs.Plans.{is_accepted, channel_at}
use Rattle.bx_check.specs.Check.{IsOutcome}
use Rattle.bx_check.specs.declared.checker.CheckFault.{CheckFault}
use Rattle.bx_colour.specs.Colouring.{IsFirstFit, is_in}
use Rattle.bx_day.specs.Day.{Day, opening}
use Rattle.bx_day.specs.Outages.{live_day_after}
use Rattle.bx_events.specs.Events.{LiveEvent}
use Rattle.bx_planfile.specs.OneBooking.{row_on}
use Rattle.bx_planner.specs.Choices.{IsBest, planned}
use Rattle.bx_planner.specs.Musts.{IsTooManyMust}
use Rattle.bx_planner.proofs.FewMusts.{few_musts}
use Rattle.bx_sales.specs.Journal.{sold_in, rows_after, marks_after, RunsThrough, AreAllLeft, HasLastPlan}
use Rattle.bx_sales.proofs.Fitting.{marked_so}
use Rattle.bx_sales.proofs.Journal.{amended_plan}
use Rattle.bx_audit.proofs.BestAfter.{still_lawful, still_best}
use Rattle.bx_audit.proofs.CheckedLast.{told}
use Rattle.bx_audit.proofs.FirstFitAfter.{stays_first_fit}
use Rattle.bx_audit.proofs.GivenChannels.{channels_now}
use Rattle.bx_audit.proofs.Held.{held_of, held_carries, held_lawful, held_first_fit, all_held}
use Rattle.bx_audit.proofs.SalesAlone.{rows_by_sales, marks_by_sales}
use Rattle.bx_audit.specs.DayChannels.{channels_on}
use Rattle.bx_audit.specs.HeldRows.{rows_as_held}
use Rattle.bx_audit.specs.LastPlans.{has_sales_alone, HasFirstFit, IsLastOutcome, IsLastPlan}
use Rattle.bx_audit.specs.PlansOfDays.{rows_held_on, ArePrices, IsPlanOfDay}
use Rattle.bx_audit.specs.Recorded.{IsDayTold}

module _ (gives : List ℕ → Option (List ℕ) → Type 0) (plan journal : List ℕ) (channels : List Bool) (day : Day) (of_day : IsDayTold gives plan journal channels day) where
  abbrev morning : Parts
  morning = of_day.opens.plan

  abbrev events : List LiveEvent
  events = of_day.through.events

  abbrev sold : List Row
  sold = sold_in row_on events

  -- the bookings of the last plan, and which of them it accepts
  abbrev rows : List Row
  rows = rows_after row_on events morning.rows

  abbrev marks : List Bool
  marks = marks_after events (map is_some morning.assigned)

  abbrev all : List Row
  all = rows_as_held rows marks

  -- ---- the morning

  count : length morning.assigned ≡ length morning.rows
  count = of_day.opens.tied.2.limits.one_each

  carried : Carries morning.rows channels (is_accepted morning.assigned) (channel_at morning.assigned)
  carried = subst (λ (cs : List Bool). Carries morning.rows cs (is_accepted morning.assigned) (channel_at morning.assigned)) (sym of_day.opens.in_service) of_day.opens.tied.2.proved.best.carried

  lawful : IsLawful morning.rows channels (is_accepted morning.assigned)
  lawful = subst (λ (cs : List Bool). IsLawful morning.rows cs (is_accepted morning.assigned)) (sym of_day.opens.in_service) of_day.opens.tied.2.proved.best.lawful

  best : IsBest morning.rows channels (pay_of morning.rows (is_accepted morning.assigned))
  best = subst (λ (cs : List Bool). IsBest morning.rows cs (pay_of morning.rows (is_accepted morning.assigned))) (sym of_day.opens.in_service)
      (subst (λ (total : ℕ). IsBest morning.rows morning.channels total) of_day.opens.tied.2.proved.best.paid of_day.opens.tied.2.proved.best.best)

  -- ---- the day

  went : RunsThrough channels row_on events (opening morning.rows morning.assigned) day
  went = subst (λ (d : Day). RunsThrough channels row_on events d day) of_day.opens.opens of_day.through.through

  has_plan : HasLastPlan channels rows marks events day
  has_plan = amended_plan channels row_on morning.rows morning.assigned events day count of_day.opens.tied.2.limits.rows carried went

  channels_are : channels_on day ≡ has_plan.last
  channels_are = let h = has_plan in ap channels_on h.day ∙ channels_now rows channels h.last events h.one_each h.bookings h.carried

  -- where the morning is first fit, and no channel was lost, so are these
  still_first : AreAllLeft channels day → HasFirstFit morning → IsFirstFit all channels marks (channels_on day)
  still_first whole first =
      held_first_fit rows marks channels marks (channels_on day)
      (stays_first_fit channels row_on morning.rows morning.assigned events day count of_day.opens.tied.2.limits.rows carried
      (subst (λ (cs : List Bool). IsFirstFit morning.rows cs (map is_some morning.assigned) morning.assigned) (sym of_day.opens.in_service) first) went whole)

  held_on : rows_held_on day ≡ all
  held_on = held_of day.entries ∙ ap₂ (λ (rs : List Row) (ms : List Bool). rows_as_held rs ms) has_plan.rows_are has_plan.marks_are

  pub day_room : (t : ℕ) → IsTooManyMust (rows_held_on day) channels t → ⊥
  day_room t many =
      let h = has_plan in
      let carries = held_carries rows marks channels (is_accepted h.last) (channel_at h.last) h.carried in
      let holds = held_lawful rows marks channels (is_accepted h.last) (channel_at h.last) (λ i. sym (marked_so h.last i) ∙ ap (λ (ms : List Bool). is_in ms i) h.accepted) carries in
      let few = few_musts all channels (is_accepted h.last) holds t in
      let here = (subst (λ (rs : List Row). IsTooManyMust rs channels t) held_on many).here in
      absurd (omega (arith, few, here))

  -- ---- after sales alone

  module _ (alone : has_sales_alone events ≡ true) where
    sold_marks : marks ≡ map is_some morning.assigned ++ map (λ (row : Row). true) sold
    sold_marks = marks_by_sales row_on events (map is_some morning.assigned) alone

    sold_rows : all ≡ morning.rows ++ sold
    sold_rows =
        let h = has_plan in
        let rows_are = rows_by_sales row_on events morning.rows alone in
        let still = still_lawful morning.rows sold channels morning.assigned count lawful best h.last (h.accepted ∙ sold_marks) (subst (λ (rs : List Row). Carries rs channels (is_accepted h.last) (channel_at h.last)) rows_are h.carried) in
        ap (λ (rs : List Row). rows_as_held rs marks) rows_are
        ∙ all_held (morning.rows ++ sold) marks (λ i lt must. sym (ap (λ (ms : List Bool). is_in ms i) h.accepted) ∙ marked_so h.last i ∙ still.has_musts i lt must)

    -- no choice of them pays more
    pub most_paid : (assigned : List (Option ℕ)) → map is_some assigned ≡ marks → (set : ℕ → Bool) → IsLawful all channels set → pay_of all set ≤ pay_of all (is_accepted assigned)
    most_paid assigned accepted set l =
        subst (λ (rs : List Row). pay_of rs set ≤ pay_of rs (is_accepted assigned)) (sym sold_rows)
        (still_best morning.rows sold channels morning.assigned count lawful best assigned (accepted ∙ sold_marks) set (subst (λ (rs : List Row). IsLawful rs channels set) sold_rows l))

  -- ---- its last plan

  module _ (last : Parts) (p : IsPlanOfDay day channels last) where
    assigned_are : last.assigned ≡ has_plan.last
    assigned_are = p.assigned_are ∙ channels_are

    accepted : map is_some last.assigned ≡ marks
    accepted = ap (λ (a : List (Option ℕ)). map is_some a) assigned_are ∙ has_plan.accepted

    checked : (outcome : Result ℕ CheckFault) × IsOutcome last.rows last.channels last outcome × IsLastOutcome events outcome
    checked =
        let h = has_plan in
        let carries = subst (λ (a : List (Option ℕ)). Carries all channels (is_accepted a) (channel_at a)) (sym assigned_are) (held_carries rows marks channels (is_accepted h.last) (channel_at h.last) h.carried) in
        let prices = subst (λ (rs : List Row). ArePrices rs channels last.prices) held_on p.priced in
        let paid = subst (λ (rs : List Row). last.total ≡ pay_of rs (is_accepted last.assigned)) held_on p.paid in
        let holds = held_lawful rows marks channels (is_accepted last.assigned) (channel_at last.assigned) (λ i. sym (marked_so last.assigned i) ∙ ap (λ (ms : List Bool). is_in ms i) accepted) carries in
        let t = told all channels last.assigned last.prices last.total carries holds paid prices events (λ alone. let most = most_paid alone last.assigned accepted prices.set prices.lawful in omega (arith, most, paid)) in (
          t.0,
          subst (λ (rs : List Row). IsOutcome rs last.channels (planned rs last.channels last.assigned last.prices last.total) t.0) (sym (p.rows_are ∙ held_on))
              (subst (λ (cs : List Bool). IsOutcome all cs (planned all cs last.assigned last.prices last.total) t.0) (sym p.in_service) t.1),
          t.2,
        )

    first_fit : AreAllLeft last.channels day → HasFirstFit morning → IsFirstFit last.rows last.channels marks last.assigned
    first_fit whole first =
        subst (λ (a : List (Option ℕ)). IsFirstFit last.rows last.channels marks a) (sym p.assigned_are)
        (subst (λ (rs : List Row). IsFirstFit rs last.channels marks (channels_on day)) (sym (p.rows_are ∙ held_on))
        (subst (λ (cs : List Bool). IsFirstFit all cs marks (channels_on day)) (sym p.in_service) (still_first (subst (λ (cs : List Bool). AreAllLeft cs day) p.in_service whole) first)))

    pub last_of : IsLastPlan gives plan journal last
    last_of = record {
      morning = morning;
      digest = of_day.digest;
      tied = of_day.opens.tied;
      before = of_day.before;
      given = of_day.given;
      events = events;
      on_log = of_day.through.journal;
      day = day;
      through = subst (λ (cs : List Bool). RunsThrough cs row_on events (opening morning.rows morning.assigned) day) (sym p.in_service) went;
      rows_are = p.rows_are ∙ held_on;
      in_service = p.in_service ∙ of_day.opens.in_service;
      accepted = accepted;
      assigned_are = p.assigned_are;
      of_plan = subst (λ (a : List (Option ℕ)). day ≡ live_day_after events (opening rows a)) (sym assigned_are) has_plan.day;
      first_fit = first_fit;
      sold_on = λ alone. record {
        rows_are = p.rows_are ∙ held_on ∙ sold_rows alone;
        accepted = accepted ∙ sold_marks alone;
        first_fit = λ whole first. subst (λ (ms : List Bool). IsFirstFit last.rows last.channels ms last.assigned) (sold_marks alone) (first_fit whole first);
      };
      outcome = checked.0;
      checked = checked.1;
      allowed = checked.2;
    }
