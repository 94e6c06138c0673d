-- What is carried from a day on, whatever went before it.
use Rattle.std.proofs.Common.{◌≡◌, ◌≤◌, ◌<◌, inl, inr, ℕ, ◌+◌, ◌==◌, Bool, true, false, List, [], ◌∷◌, ◌++◌, length, Option, refl, sym, ap, subst, ◌∙◌, arith, if◌then◌else◌}
use Rattle.std.proofs.lemmas.Bool.{false≢true, true≢false, eqb-true}
use Rattle.bx_base.specs.Bookings.{Row, row_at, AreBookings, Carries}
use Rattle.bx_base.specs.Plans.{is_accepted, channel_at}
use Rattle.bx_events.specs.Events.{LiveEvent}
use Rattle.bx_day.specs.Day.{Day, opening, is_held, is_unoffered}
use Rattle.bx_day.specs.Law.{standing_at}
use Rattle.bx_day.specs.Outages.{live_day_after}
use Rattle.bx_day.specs.declared.entry.Standing.{Standing}
use Rattle.bx_day.specs.declared.entry.Standing.TheVariants.{Unoffered}
use Rattle.bx_day.proofs.Law.{live_run, opening_fits, opening_framed, opening_placed}
use Rattle.bx_day.proofs.OpeningDay.{opening_size}
use Rattle.bx_day.proofs.Tick.{runs_at}
use Rattle.bx_two_ends.specs.Earning.{LiveSecond, events_of, has_link, is_linked, AreAnswered, IsSettledDay, HasSecondsFrom, IsCarriedBy}
use Rattle.bx_two_ends.proofs.Calm.{IsCalm, Stands, IsDueIn, settled_cleared, settled_awake, cleared_at, booked_run}
use Rattle.bx_two_ends.proofs.Carrying.{cleared_quiet}
use Rattle.bx_two_ends.proofs.EarnedDays.{after_both, seconds_are, size_after}

-- a second with a link is after the moment from which on it is looked for
pub link_after : (seconds : List LiveSecond) (m t : ℕ) → has_link m seconds t ≡ true → m < t
link_after [] m t h = absurd (false≢true h)
link_after (s ∷ ss) m t h = at (t == m + 1) refl (link_after ss (m + 1) t)
  where
    at : (b : Bool) → (t == m + 1) ≡ b → (has_link (m + 1) ss t ≡ true → m + 1 < t) → m < t
    at true is rest = (let same : t ≡ m + 1 = eqb-true t (m + 1) is in omega (arith, same))
    at false is rest = (let later = rest (sym (ap (λ b. if b then is_linked s else has_link (m + 1) ss t) is) ∙ h) in omega (arith, later))

waits_is : (s : Standing) → is_unoffered s ≡ true → s ≡ Unoffered
waits_is Unoffered h = refl
waits_is s h = absurd (false≢true h)

module _ (rows : List Row) (channels : List Bool) (assigned : List (Option ℕ)) (events : List LiveEvent) (seconds : List LiveSecond) (i cleared offered ended : ℕ) (b : AreBookings rows) (h : Carries rows channels (is_accepted assigned) (channel_at assigned)) where
  abbrev D : Day
  D = live_day_after events (opening rows assigned)

  settled_calm : IsSettledDay D → IsCalm rows assigned D
  settled_calm s = record {
    fits = live_run rows assigned events (opening rows assigned) (record { day = opening_fits rows channels assigned b h; framed = (opening_framed 1 rows assigned, opening_placed rows assigned) });
    size = size_after rows events (opening rows assigned) (opening_size 1 rows assigned);
    clean = s.clean;
    quiet = λ j. cleared_quiet (standing_at D j) (cleared_at D j (settled_cleared (standing_at D j) (s.settled j))) (settled_awake (standing_at D j) (s.settled j));
  }

  module _ (s : IsSettledDay D) (k : HasSecondsFrom rows assigned D seconds i cleared offered ended) where
    early : D.moment < offered
    early = link_after seconds D.moment offered k.offers

    late : offered < (row_at rows i).end
    late = (runs_at (row_at rows i) offered k.runs).1

    free : cleared ≤ D.moment → is_held D.entries (channel_at assigned i) ≡ false
    free low = elim k.clears [
      | inl p ↦ p.1
      | inr p ↦ (let following = link_after seconds D.moment cleared p in absurd (omega (arith, following, low)))
    ]

    stands : Stands rows assigned i cleared offered ended D
    stands = record {
      calm = settled_calm s;
      early = λ less. inl (waits_is (standing_at D i) k.waits);
      free = λ low less held. absurd (true≢false (sym held ∙ free low));
      up = λ low less. absurd (let e = early in omega (arith, low, e));
      over = λ past. absurd (let e = early in let l = late in omega (arith, past, e, l));
      done = λ past. absurd (let e = early in let l = late in let o = k.over in omega (arith, past, e, l, o));
    }

    due : IsDueIn seconds D.moment cleared
    due = elim k.clears [
      | inl p ↦ inl (let same = p.0 in omega (arith, same))
      | inr p ↦ inr p
    ]

    pub carried_from : D.moment + length seconds ≤ 300000 → AreAnswered seconds D → IsCarriedBy offered (row_at rows i).end (standing_at (live_day_after (events ++ events_of seconds) (opening rows assigned)) i)
    carried_from few ok = subst (λ x. IsCarriedBy offered (row_at rows i).end (standing_at x i)) (sym (after_both events (events_of seconds) (opening rows assigned) ∙ seconds_are seconds D))
        (booked_run rows assigned i cleared offered ended seconds D (record { inside = k.inside; outward = k.outward; alone = k.alone; before = k.later; runs = k.runs; late = late; over = k.over }) stands ok few due (inr k.offers) (inr k.ends))
