-- A second of the exchange without a link keeps what is true of two ends: it sends nothing, and no call becomes Active.
use Rattle.bx_events.specs.declared.rules.Rules.TheVariants.{Three}
use Rattle.std.proofs.Common.{◌≡◌, ℕ, suc, ◌+◌, true, false, List, [], ◌++◌, Option, refl, sym, ap, subst, ◌∙◌, nat_le}
use Rattle.std.proofs.lemmas.Bool.{false≢true}
use Rattle.bx_q931.specs.Outgoing.{Outgoing}
use Rattle.bx_calls.specs.PlainCalls.{PlainNetCall}
use Rattle.bx_calls.specs.NetTable.{net_unlinked}
use Rattle.bx_calls.specs.declared.transition.Transition.{Transition}
use Rattle.bx_day.specs.declared.entry.Entry.{Entry}
use Rattle.bx_day.specs.declared.entry.Link.TheVariants.{Down}
use Rattle.bx_day.specs.declared.entry.Moved.{Moved}
use Rattle.bx_day.specs.declared.entry.Standing.{Standing}
use Rattle.bx_day.specs.declared.entry.Standing.TheVariants.{Refused, Unoffered, OnCall}
use Rattle.bx_day.specs.Day.{is_back, Day, entry_at, is_free}
use Rattle.bx_day.specs.Invariant.{is_refused}
use Rattle.bx_day.specs.Law.{standing_at}
use Rattle.bx_day.specs.Outages.{without_link}
use Rattle.bx_day.specs.Ticks.{unlinked_at, second_in, passed_in}
use Rattle.bx_day.proofs.Law.{at_map_in}
use Rattle.bx_day.proofs.Tick.{by_cases, unlinked, in_refused, offers, offers_parts}
use Rattle.bx_two_ends.proofs.NetworkRows.{unlinked_goes}
use Rattle.bx_two_ends.proofs.Outward.{is_started, Seat, Seats, OutwardStanding, OutwardStandings}
use Rattle.bx_two_ends.proofs.ExchangeTicks.{second_started, follow_started, goes_outward}
use Rattle.bx_two_ends.proofs.ExchangeLimits.{StandingWithin, ExchangeWithin, second_within, follow_within}

-- ---- how a booking stands after it

without_at : (d : Day) (i : ℕ) → standing_at (passed_in (Down Three) d).day i ≡ (second_in (Down Three) d (entry_at d.entries i)).standing
without_at d i = ap (λ (e : Entry). e.standing) (at_map_in (Down Three) d d.entries i)

-- what holds of each booking of its own, holds after it
each_after : (P : ℕ → Standing → Type 0) (d : Day) → ((i : ℕ) → P i (unlinked_at Three (entry_at d.entries i) (d.moment + 1) (standing_at d i)).standing) → (i : ℕ) → P i (standing_at (passed_in (Down Three) d).day i)
each_after P d goes i = subst (P i) (sym (without_at d i)) (goes i)

pub without_started : (d : Day) (i : ℕ) → is_started (standing_at d i) ≡ true → is_started (standing_at (passed_in (Down Three) d).day i) ≡ true
without_started d = each_after (λ i s. is_started (standing_at d i) ≡ true → is_started s ≡ true) d (λ i.
    let e = entry_at d.entries i in
    let t = d.moment + 1 in
    unlinked Three e t e.standing (λ m. is_started e.standing ≡ true → is_started m.standing ≡ true)
    (λ c a p h. follow_started a t (net_unlinked Three 1 c t e.booking.end).reply (net_unlinked Three 1 c t e.booking.end).next)
    (λ h. second_started e t false false e.standing h))

pub without_seats : (assigned : List (Option ℕ)) (d : Day) → Seats assigned d.entries → Seats assigned (passed_in (Down Three) d).day.entries
without_seats assigned d seats i q =
    let e = entry_at d.entries i in
    let p : Seat assigned i e = seats i (in_refused (Down Three) (d.moment + 1) (is_back d) (is_free d e.channel) e e.standing (sym (ap is_refused (without_at d i)) ∙ q)) in
    subst (Seat assigned i) (sym (at_map_in (Down Three) d d.entries i)) (record { reference = p.reference; few = p.few; channel = p.channel; in_service = p.in_service; number = p.number })

alone_outward : (i t : ℕ) (sent far_sent : List Outgoing) (e : Entry) (s : Standing) → OutwardStanding (suc i) sent far_sent s → OutwardStanding (suc i) (sent ++ []) far_sent (unlinked_at Three e t s).standing
alone_outward i t sent far_sent e Refused h = tt
alone_outward i t sent far_sent e Unoffered h =
    let P : Moved → Type 0 = λ m. OutwardStanding (suc i) (sent ++ []) far_sent m.standing in
    by_cases (offers e t false) _ _ P (λ offered. absurd (false≢true (offers_parts e t false offered).2)) (λ _. by_cases (nat_le e.booking.end t) _ _ P (λ _. tt) (λ _. tt))
alone_outward i t sent far_sent e (OnCall c a) h =
    let step : Transition PlainNetCall = net_unlinked Three 1 c t e.booking.end in
    goes_outward i sent [] far_sent c false a t step.reply step.reply step.next (unlinked_goes Three c.reference c.channel c.origin t e.booking.end c.state) h (λ _ k. absurd (false≢true k)) (λ _ _. refl)
alone_outward i t sent far_sent e s h = tt

pub without_standings : (sent far_sent : List Outgoing) (d : Day) → OutwardStandings sent far_sent d → OutwardStandings (sent ++ []) far_sent (passed_in (Down Three) d).day
without_standings sent far_sent d h = each_after (λ i s. OutwardStanding (suc i) (sent ++ []) far_sent s) d
    (λ i. alone_outward i (d.moment + 1) sent far_sent (entry_at d.entries i) (standing_at d i) (h i))

pub without_within : (assigned : List (Option ℕ)) (d : Day) → Seats assigned d.entries → ExchangeWithin d → ExchangeWithin (without_link d)
without_within assigned d seats h = by_cases (nat_le 300000 d.moment) _ _ ExchangeWithin (λ _. h)
    (λ _. each_after (λ i s. StandingWithin s) d (λ i.
    let e = entry_at d.entries i in
    let t = d.moment + 1 in
    unlinked Three e t e.standing (λ m. StandingWithin m.standing)
    (λ c a p. let step : Transition PlainNetCall = net_unlinked Three 1 c t e.booking.end in
    follow_within c c.state false a t step.reply step.reply step.next (unlinked_goes Three c.reference c.channel c.origin t e.booking.end c.state) (subst StandingWithin p (h i)))
    (second_within assigned i t e false false e.standing (seats i) (h i)).standing))
