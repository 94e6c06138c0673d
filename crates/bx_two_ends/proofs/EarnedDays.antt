-- The opening of a day whose far end answers, its seconds as events, and a link that is never lost.
use Rattle.bx_events.specs.declared.rules.Rules.TheVariants.{Two}
use Rattle.std.proofs.Common.{◌≡◌, ◌≢◌, ℕ, zero, suc, ◌+◌, ◌≤◌, ◌<◌, ◌==◌, Bool, true, false, List, [], ◌∷◌, ◌++◌, map, length, Option, Some, None, arith, refl, sym, subst, ap, ◌∙◌, nat_le, nat_lt, inl, inr, ◌⊎◌, if◌then◌else◌, slice_index_or, replicate, is_some, take}
use Rattle.std.proofs.lemmas.Bool.{false≢true, true≢false, and_from, le-leb, lt-ltb, eq-eqb, false_from_ne_true, cases_lt, eqb-true}
use Rattle.bx_channels.specs.Marks.{is_marked}
use Rattle.bx_base.specs.Bookings.{Row, row_at, is_running, AreBookings, Carries}
use Rattle.bx_base.specs.Plans.{is_accepted, channel_at}
use Rattle.bx_events.specs.Events.{LiveEvent, OnLink, WithoutLink, Amended, Tick, Receive, HeardByRulesTwo}
use Rattle.bx_day.specs.Day.{Day, opening, entry_of, entries_from, entry_at, is_live, is_held}
use Rattle.bx_two_ends.specs.Earning.{LiveSecond, Linked, Unlinked, events_in, events_of, heard_in, second_after, seconds_after, has_link, AreAnswered, AreCleared, IsAlone, HasSeconds, IsCalled, IsTalking, IsLongEnough, IsPunctual, IsCarriedBy, IsDayOfPlan, is_linked}
use Rattle.bx_day.specs.Law.{standing_at}
use Rattle.bx_calls.specs.Sending.{Sent}
use Rattle.bx_day.specs.Outages.{without_link, without_link_by, live_happens, live_day_after}
use Rattle.bx_day.specs.Ticks.{tick}
use Rattle.bx_day.specs.declared.entry.Link.TheVariants.{Up, Down}
use Rattle.bx_day.specs.Run.{receive_octets, receive_octets_by}
use Rattle.bx_day.specs.declared.entry.Entry.{Entry}
use Rattle.bx_day.specs.declared.entry.Standing.{Standing}
use Rattle.bx_day.specs.declared.entry.Standing.TheVariants.{Unoffered}
use Rattle.bx_two_ends.proofs.Carrying.{IsQuietCall}
use Rattle.bx_two_ends.proofs.Calm.{IsCalm, IsBooked, Stands, IsDueIn, answered_cleared, settled_on, active_on, booked_run, called_run, calm_run}
use Rattle.bx_day.proofs.Passing.{map_size}
use Rattle.bx_day.proofs.Law.{RunFits, live_run, opening_fits, opening_framed, opening_placed}
use Rattle.bx_day.proofs.OpeningDay.{opening_size, opening_at}
use Rattle.bx_day.proofs.SlotLemmas.{holds_parts}
use Rattle.bx_day.proofs.Tick.{by_cases, runs_at}
use Rattle.bx_two_ends.proofs.Turning.{held_by, octets_day, set_size, octets_day_by}

-- ---- the opening

pub unmarked : (n c : ℕ) → is_marked (replicate n false) c ≡ false
unmarked zero c = refl
unmarked (suc n) zero = refl
unmarked (suc n) (suc c) = unmarked n c

-- an entry that is not live
record IsIdle (s : Standing) : Type 0 where
  live : is_live s ≡ false
  quiet : IsQuietCall s

idle_of : (k : ℕ) (b : Row) (a : Option ℕ) → IsIdle (entry_of k b a).standing
idle_of k b None = record { live = refl; quiet = tt }
idle_of k b (Some c) = record { live = refl; quiet = tt }

idle_at : (k : ℕ) (rows : List Row) (assigned : List (Option ℕ)) (j : ℕ) → IsIdle (entry_at (entries_from k rows assigned) j).standing
idle_at k [] assigned j = record { live = refl; quiet = tt }
idle_at k (b ∷ bs) [] zero = idle_of k b None
idle_at k (b ∷ bs) [] (suc j) = idle_at (k + 1) bs [] j
idle_at k (b ∷ bs) (a ∷ as') zero = idle_of k b a
idle_at k (b ∷ bs) (a ∷ as') (suc j) = idle_at (k + 1) bs as' j

pub waits_of : (k : ℕ) (b : Row) (a : Option ℕ) → is_some a ≡ true → (entry_of k b a).standing ≡ Unoffered
waits_of k b None h = absurd (false≢true h)
waits_of k b (Some c) h = refl

pub opening_calm : (rows : List Row) (channels : List Bool) (assigned : List (Option ℕ)) → AreBookings rows → Carries rows channels (is_accepted assigned) (channel_at assigned) → IsCalm rows assigned (opening rows assigned)
opening_calm rows channels assigned b h = record {
  fits = record { day = opening_fits rows channels assigned b h; framed = (opening_framed 1 rows assigned, opening_placed rows assigned) };
  size = opening_size 1 rows assigned;
  clean = unmarked 32;
  quiet = λ j. (idle_at 1 rows assigned j).quiet;
}

pub opening_stands : (rows : List Row) (channels : List Bool) (assigned : List (Option ℕ)) (i cleared offered ended : ℕ) → AreBookings rows → Carries rows channels (is_accepted assigned) (channel_at assigned) → is_accepted assigned i ≡ true → IsBooked rows assigned i cleared offered ended → Stands rows assigned i cleared offered ended (opening rows assigned)
opening_stands rows channels assigned i cleared offered ended b h accepted k = record {
  calm = opening_calm rows channels assigned b h;
  early = λ less. inl (ap (λ (e : Entry). e.standing) (opening_at 1 (i + 1) rows assigned i (let q : 1 + i ≡ i + 1 = omega arith in q) k.inside) ∙ waits_of (i + 1) (row_at rows i) (slice_index_or assigned i None) accepted);
  free = λ low less held. absurd (nobody (channel_at assigned i) held);
  up = λ low less. absurd (omega (arith, low, k.before));
  over = λ late. absurd (omega (arith, late, k.late));
  done = λ late. absurd (omega (arith, late, k.late, k.over));
}
  where
    nobody : (c : ℕ) → is_held (entries_from 1 rows assigned) c ≡ true → ⊥
    nobody c held = (let p = held_by (entries_from 1 rows assigned) c held in true≢false (sym (holds_parts c (entry_at (entries_from 1 rows assigned) p.0) p.2).0 ∙ (idle_at 1 rows assigned p.0).live))

-- ---- seconds as events

pub after_both : (xs ys : List LiveEvent) (d : Day) → live_day_after (xs ++ ys) d ≡ live_day_after ys (live_day_after xs d)
after_both [] ys d = refl
after_both (x ∷ xs) ys d = after_both xs ys (live_happens d x).day

pub heard_is : (received : List (List ℕ)) (d : Day) → live_day_after (map (λ octets. OnLink (Receive octets)) received) d ≡ heard_in received d
heard_is [] d = refl
heard_is (octets ∷ rest) d = heard_is rest (receive_octets d octets).day

second_is : (s : LiveSecond) (d : Day) → live_day_after (events_in s) d ≡ second_after s d
second_is (Linked received) d = heard_is received (live_happens d (OnLink Tick)).day
second_is Unlinked d = refl

pub seconds_are : (seconds : List LiveSecond) (d : Day) → live_day_after (events_of seconds) d ≡ seconds_after seconds d
seconds_are [] d = refl
seconds_are (s ∷ ss) d = after_both (events_in s) (events_of ss) d ∙ ap (live_day_after (events_of ss)) (second_is s d) ∙ seconds_are ss (second_after s d)

-- ---- what is carried

due_from : (seconds : List LiveSecond) (t : ℕ) → (t ≡ 0) ⊎ (has_link 0 seconds t ≡ true) → IsDueIn seconds 0 t
due_from seconds t (inl none) = inl (omega (arith, none))
due_from seconds t (inr h) = inr h

pub carried_in : (rows : List Row) (channels : List Bool) (assigned : List (Option ℕ)) (seconds : List LiveSecond) (i cleared offered ended : ℕ) → AreBookings rows → Carries rows channels (is_accepted assigned) (channel_at assigned) → length seconds ≤ 300000 → AreAnswered seconds (opening rows assigned) → HasSeconds rows assigned seconds i cleared offered ended
    → IsCarriedBy offered (row_at rows i).end (standing_at (live_day_after (events_of seconds) (opening rows assigned)) i)
carried_in rows channels assigned seconds i cleared offered ended b h few ok s =
    let k : IsBooked rows assigned i cleared offered ended = record { inside = s.inside; outward = s.outward; alone = s.alone; before = s.before; runs = s.runs; late = (runs_at (row_at rows i) offered s.runs).1; over = s.over } in
    subst (λ x. IsCarriedBy offered (row_at rows i).end (standing_at x i)) (sym (seconds_are seconds (opening rows assigned)))
    (booked_run rows assigned i cleared offered ended seconds (opening rows assigned) k (opening_stands rows channels assigned i cleared offered ended b h s.accepted k) ok (omega (arith, few))
    (due_from seconds cleared s.clears) (inr s.offers) (inr s.ends))

pub in_service : (rows : List Row) (channels : List Bool) (assigned : List (Option ℕ)) (seconds : List LiveSecond) (c : ℕ) → AreBookings rows → Carries rows channels (is_accepted assigned) (channel_at assigned) → length seconds ≤ 300000 → AreCleared seconds (opening rows assigned) → is_marked (live_day_after (events_of seconds) (opening rows assigned)).maintenance c ≡ false
in_service rows channels assigned seconds c b h few ok =
    subst (λ (x : Day). is_marked x.maintenance c ≡ false) (sym (seconds_are seconds (opening rows assigned)))
    ((calm_run rows assigned seconds (opening rows assigned) (opening_calm rows channels assigned b h) ok (omega (arith, few))).clean c)

-- a second with a link is one of them
pub link_inside : (seconds : List LiveSecond) (m t : ℕ) → has_link m seconds t ≡ true → t ≤ m + length seconds
link_inside [] m t h = absurd (false≢true h)
link_inside (s ∷ ss) m t h = at (t == m + 1) refl (link_inside ss (m + 1) t)
  where
    at : (b : Bool) → (t == m + 1) ≡ b → (has_link (m + 1) ss t ≡ true → t ≤ (m + 1) + length ss) → t ≤ m + length (s ∷ ss)
    at true is rest = (let same : t ≡ m + 1 = eqb-true t (m + 1) is in omega (arith, same))
    at false is rest = (let le = rest (sym (ap (λ b. if b then is_linked s else has_link (m + 1) ss t) is) ∙ h) in omega (arith, le))

-- an inward booking that is called
pub called_in : (rows : List Row) (channels : List Bool) (assigned : List (Option ℕ)) (seconds : List LiveSecond) (i begun connected ended : ℕ) → AreBookings rows → Carries rows channels (is_accepted assigned) (channel_at assigned) → length seconds ≤ 300000 → AreCleared seconds (opening rows assigned) → IsCalled rows assigned seconds i begun connected ended
    → IsCarriedBy connected (row_at rows i).end (standing_at (live_day_after (events_of seconds) (opening rows assigned)) i)
called_in rows channels assigned seconds i begun connected ended b h few ok s =
    let size : connected ≤ 0 + length seconds = link_inside seconds 0 connected s.connects in
    subst (λ x. IsCarriedBy connected (row_at rows i).end (standing_at x i)) (sym (seconds_are seconds (opening rows assigned)))
    (called_run rows assigned i connected ended begun seconds (opening rows assigned) (record { inside = s.inside; runs = s.runs; over = s.over }) (opening_calm rows channels assigned b h) ok (omega (arith, few))
    (λ calm m. settled_on rows assigned i connected (seconds_after (take begun seconds) (opening rows assigned)) calm s.live s.settled (omega (arith, m, s.before)))
    (omega (arith, size, s.before)) (inr s.connects) (inr s.ends))

-- one whose call is Active
pub talking_in : (rows : List Row) (channels : List Bool) (assigned : List (Option ℕ)) (seconds : List LiveSecond) (i begun ended : ℕ) → AreBookings rows → Carries rows channels (is_accepted assigned) (channel_at assigned) → length seconds ≤ 300000 → AreCleared seconds (opening rows assigned) → IsTalking rows assigned seconds i begun ended
    → IsCarriedBy begun (row_at rows i).end (standing_at (live_day_after (events_of seconds) (opening rows assigned)) i)
talking_in rows channels assigned seconds i begun ended b h few ok s =
    let size : ended ≤ 0 + length seconds = link_inside seconds 0 ended s.ends in
    subst (λ x. IsCarriedBy begun (row_at rows i).end (standing_at x i)) (sym (seconds_are seconds (opening rows assigned)))
    (called_run rows assigned i begun ended begun seconds (opening rows assigned) (record { inside = s.inside; runs = s.runs; over = s.over }) (opening_calm rows channels assigned b h) ok (omega (arith, few))
    (λ calm m. active_on rows assigned i begun (seconds_after (take begun seconds) (opening rows assigned)) calm s.live s.active (omega (arith, m)))
    (omega (arith, size, s.runs, s.over)) (inl (omega arith)) (inr s.ends))

-- where each SETUP is answered too
pub cleared_from : (seconds : List LiveSecond) (d : Day) → AreAnswered seconds d → AreCleared seconds d
cleared_from [] d h = tt
cleared_from (Unlinked ∷ ss) d h = cleared_from ss (without_link d) h
cleared_from (Linked received ∷ ss) d h = (answered_cleared (tick d).day (heard_in received (tick d).day) h.0, cleared_from ss (heard_in received (tick d).day) h.1)

-- ---- a link that is never lost

abbrev pub on_link : List (List (List ℕ)) → List LiveSecond
on_link turns = map (λ (received : List (List ℕ)). Linked received) turns

pub on_link_size : (turns : List (List (List ℕ))) → length (on_link turns) ≡ length turns
on_link_size [] = refl
on_link_size (x ∷ xs) = ap suc (on_link_size xs)

pub all_linked : (turns : List (List (List ℕ))) (m t : ℕ) → m < t → t ≤ m + length turns → has_link m (on_link turns) t ≡ true
all_linked [] m t low high = absurd (omega (arith, low, high))
all_linked (x ∷ xs) m t low high = at (t == m + 1) refl (λ other. all_linked xs (m + 1) t (omega (arith, low, other)) (omega (arith, high)))
  where
    at : (b : Bool) → (t == m + 1) ≡ b → (t ≢ m + 1 → has_link (m + 1) (on_link xs) t ≡ true) → (if t == m + 1 then true else has_link (m + 1) (on_link xs) t) ≡ true
    at true is more = ap (λ b. if b then true else has_link (m + 1) (on_link xs) t) is
    at false is more = ap (λ b. if b then true else has_link (m + 1) (on_link xs) t) is ∙ more (λ same. true≢false (sym (eq-eqb t (m + 1) same) ∙ is))

pub runs_from : (b : Row) (t : ℕ) → b.start ≤ t → t < b.end → is_running b t ≡ true
runs_from b t low high = and_from (nat_le b.start t) (nat_lt t b.end) (le-leb b.start t low) (lt-ltb t b.end high)

-- no two accepted bookings of a channel run at once
pub alone_in : (rows : List Row) (channels : List Bool) (assigned : List (Option ℕ)) (i t u : ℕ) → Carries rows channels (is_accepted assigned) (channel_at assigned) → i < length rows → is_accepted assigned i ≡ true → (row_at rows i).start ≤ t → u < (row_at rows i).end → IsAlone rows assigned i t u
alone_in rows channels assigned i t u h inside accepted low high j m lt other a same from to = false_from_ne_true (is_running (row_at rows j) m) (λ runs.
    let mine : is_running (row_at rows i) m ≡ true = runs_from (row_at rows i) m (omega (arith, low, from)) (omega (arith, high, to)) in
    elim (cases_lt i j) [
      | inl less ↦ h.apart i j less lt accepted a (m, mine, runs) (sym same)
      | inr le ↦ h.apart j i (omega (arith, le, other)) inside a accepted (m, runs, mine) same
    ])

-- each second to a moment up to the last turn has a link, but for the opening
pub linked_or_first : (turns : List (List (List ℕ))) (t : ℕ) → t ≤ length turns → (t ≡ 0) ⊎ (has_link 0 (on_link turns) t ≡ true)
linked_or_first turns zero le = inl refl
linked_or_first turns (suc t) le = inr (all_linked turns 0 (suc t) (omega arith) (omega (arith, le)))

-- the same from a second before its start, where no booking of its channel ends at its start
pub free_from_start : (rows : List Row) (channels : List Bool) (assigned : List (Option ℕ)) (i : ℕ) → AreBookings rows → Carries rows channels (is_accepted assigned) (channel_at assigned) → i < length rows → is_accepted assigned i ≡ true
    → ((j : ℕ) → j < length rows → is_accepted assigned j ≡ true → channel_at assigned j ≡ channel_at assigned i → (row_at rows j).end ≢ (row_at rows i).start) → (s : ℕ) → (row_at rows i).start ≡ suc s → IsAlone rows assigned i s (suc s)
free_from_start rows channels assigned i b h inside accepted after_none s is j m lt other a same from to = false_from_ne_true (is_running (row_at rows j) m) (λ runs.
    let order : (row_at rows i).start < (row_at rows i).end = (b.each i inside).in_order in
    let p = runs_at (row_at rows j) m runs in
    let past : suc s < (row_at rows j).end = past_end s m (row_at rows j).end from p.1 (λ e. after_none j lt a same (e ∙ sym is)) in
    true≢false (sym (runs_from (row_at rows j) (suc s) (omega (arith, p.0, to)) past)
    ∙ alone_in rows channels assigned i (suc s) (suc s) h inside accepted (omega (arith, is)) (omega (arith, is, order)) j (suc s) lt other a same (omega arith) (omega arith)))
  where
    past_end : (s m e : ℕ) → s ≤ m → m < e → e ≢ suc s → suc s < e
    past_end s m e le lt ne = omega (arith, le, lt, ne)

pub carried_unbroken : (rows : List Row) (channels : List Bool) (assigned : List (Option ℕ)) (turns : List (List (List ℕ))) (i : ℕ) → AreBookings rows → Carries rows channels (is_accepted assigned) (channel_at assigned) → length turns ≤ 300000 → AreAnswered (on_link turns) (opening rows assigned) → IsLongEnough rows assigned i (length turns)
    → IsCarriedBy ((row_at rows i).start + 1) (row_at rows i).end (standing_at (live_day_after (events_of (on_link turns)) (opening rows assigned)) i)
carried_unbroken rows channels assigned turns i b h few ok k =
    let s = (row_at rows i).start in
    let end = (row_at rows i).end in
    carried_in rows channels assigned (on_link turns) i s (s + 1) end b h (omega (arith, few, on_link_size turns)) ok (record {
      inside = k.inside;
      accepted = k.accepted;
      outward = k.outward;
      alone = alone_in rows channels assigned i s (s + 1) h k.inside k.accepted (omega arith) k.seconds;
      clears = linked_or_first turns s (omega (arith, k.seconds, k.over));
      before = omega arith;
      runs = runs_from (row_at rows i) (s + 1) (omega arith) k.seconds;
      offers = all_linked turns 0 (s + 1) (omega arith) (omega (arith, k.seconds, k.over));
      over = omega arith;
      ends = all_linked turns 0 end (omega (arith, k.seconds)) (omega (arith, k.over));
    })

pub carried_punctual : (rows : List Row) (channels : List Bool) (assigned : List (Option ℕ)) (turns : List (List (List ℕ))) (i : ℕ) → AreBookings rows → Carries rows channels (is_accepted assigned) (channel_at assigned) → length turns ≤ 300000 → AreAnswered (on_link turns) (opening rows assigned) → IsPunctual rows assigned i (length turns)
    → IsCarriedBy (row_at rows i).start (row_at rows i).end (standing_at (live_day_after (events_of (on_link turns)) (opening rows assigned)) i)
carried_punctual rows channels assigned turns i b h few ok k = at (row_at rows i).start refl k.first
  where
    end : ℕ
    end = (row_at rows i).end

    order : (row_at rows i).start < end
    order = (b.each i k.inside).in_order

    at : (s : ℕ) → (row_at rows i).start ≡ s → 1 ≤ s → IsCarriedBy (row_at rows i).start end (standing_at (live_day_after (events_of (on_link turns)) (opening rows assigned)) i)
    at zero is one = absurd (omega (arith, one))
    at (suc s) is one = subst (λ u. IsCarriedBy u end (standing_at (live_day_after (events_of (on_link turns)) (opening rows assigned)) i)) (sym is)
        (carried_in rows channels assigned (on_link turns) i s (suc s) end b h (omega (arith, few, on_link_size turns)) ok (record {
          inside = k.inside;
          accepted = k.accepted;
          outward = k.outward;
          alone = free_from_start rows channels assigned i b h k.inside k.accepted k.after_none s is;
          clears = linked_or_first turns s (omega (arith, is, order, k.over));
          before = omega arith;
          runs = runs_from (row_at rows i) (suc s) (omega (arith, is)) (omega (arith, is, order));
          offers = all_linked turns 0 (suc s) (omega arith) (omega (arith, is, order, k.over));
          over = omega arith;
          ends = all_linked turns 0 end (omega (arith, order)) (omega (arith, k.over));
        }))

-- ---- what no event changes

pub size_after : (rows : List Row) (events : List LiveEvent) (d : Day) → length d.entries ≡ length rows → length (live_day_after events d).entries ≡ length rows
size_after rows [] d h = h
size_after rows (OnLink Tick ∷ es) d h = size_after rows es (tick d).day (by_cases (nat_le 300000 d.moment) _ _ (λ (s : Sent Day). length s.day.entries ≡ length rows) (λ _. h) (λ _. map_size Up d d.entries ∙ h))
size_after rows (OnLink (Receive octets) ∷ es) d h = size_after rows es (receive_octets d octets).day (octets_day (λ x. length x.entries ≡ length rows) d octets h (λ s i. set_size d.entries i _ ∙ h) (λ s i op. set_size d.entries i _ ∙ h))
size_after rows (WithoutLink rules ∷ es) d h = size_after rows es (without_link_by rules d) (by_cases (nat_le 300000 d.moment) _ _ (λ (x : Day). length x.entries ≡ length rows) (λ _. h) (λ _. map_size (Down rules) d d.entries ∙ h))
size_after rows (Amended kind line ∷ es) d h = size_after rows es d h
size_after rows (HeardByRulesTwo octets ∷ es) d h = size_after rows es (receive_octets_by Two d octets).day (octets_day_by Two (λ x. length x.entries ≡ length rows) d octets h (λ s i. set_size d.entries i _ ∙ h) (λ s i op. set_size d.entries i _ ∙ h))

pub stays_plan : (rows : List Row) (channels : List Bool) (assigned : List (Option ℕ)) (events : List LiveEvent) → AreBookings rows → Carries rows channels (is_accepted assigned) (channel_at assigned) → IsDayOfPlan rows assigned (live_day_after events (opening rows assigned))
stays_plan rows channels assigned events b h =
    let fits : RunFits rows assigned (live_day_after events (opening rows assigned)) = live_run rows assigned events (opening rows assigned) (record { day = opening_fits rows channels assigned b h; framed = (opening_framed 1 rows assigned, opening_placed rows assigned) }) in
    record {
      size = size_after rows events (opening rows assigned) (opening_size 1 rows assigned);
      booking = λ i lt. (fits.framed.0 i lt).booking;
      accepted = λ i lt. (fits.framed.0 i lt).accepted;
    }
