-- Where the far end answers each turn, no channel breaks, and an outward booking is carried from its second second with a link
-- at the latest. A second is taken as a whole: what the far end has answered after its messages is enough.
use Rattle.bx_events.specs.declared.rules.Rules.TheVariants.{Three}
use Rattle.std.proofs.Common.{◌≡◌, ◌≢◌, ℕ, suc, ◌+◌, ◌≤◌, ◌<◌, ◌==◌, ◌&&◌, ◌||◌, not, Bool, true, false, List, [], ◌∷◌, length, take, Option, arith, refl, sym, subst, ap, ◌∙◌, nat_le, inl, inr, ◌⊎◌, if◌then◌else◌, zero}
use Rattle.std.specs.List.{list_any}
use Rattle.std.proofs.lemmas.Bool.{false≢true, true≢false, and_from, leb-true, eqb-true, eq-eqb, false_from_ne_true, cases_eq, cases_lt}
use Rattle.bx_channels.specs.Marks.{is_marked}
use Rattle.bx_calls.specs.NetTable.{net_is_clearing}
use Rattle.bx_calls.specs.PlainCalls.{PlainNetCall}
use Rattle.bx_base.specs.Bookings.{Row, row_at, is_running}
use Rattle.bx_events.specs.Events.{Tick}
use Rattle.bx_base.specs.Plans.{channel_at}
use Rattle.bx_day.specs.Day.{is_back, Day, entry_at, is_live, is_held, is_free}
use Rattle.bx_two_ends.specs.Asking.{StandingUnasked}
use Rattle.bx_two_ends.specs.Earning.{LiveSecond, Linked, Unlinked, heard_in, second_after, seconds_after, is_linked, has_link, is_settled, is_going, IsCleared, IsAllAnswered, AreCleared, AreAnswered, IsAlone, IsCarriedBy}
use Rattle.bx_day.specs.Law.{OnLive, standing_at}
use Rattle.bx_day.specs.Moves.{is_active}
use Rattle.bx_day.specs.Outages.{without_link}
use Rattle.bx_day.specs.Ticks.{second_in, second_at, unlinked_at, waits, breaks_in, maintained_in, passed_in, tick}
use Rattle.bx_day.specs.declared.entry.Activity.{Activity}
use Rattle.bx_day.specs.declared.entry.Entry.{Entry}
use Rattle.bx_day.specs.declared.entry.Link.{Link}
use Rattle.bx_day.specs.declared.entry.Link.TheVariants.{Up, Down}
use Rattle.bx_day.specs.declared.entry.Standing.{Standing}
use Rattle.bx_day.specs.declared.entry.Standing.TheVariants.{Unoffered, OnCall}
use Rattle.bx_two_ends.proofs.Carrying.{IsUp, IsOver, IsKept, IsQuietCall, up_going, up_tick, end_tick, over_tick, waits_offered, waits_stays, up_unlinked, end_unlinked, over_unlinked, up_kept, over_cleared, carried_over, carried_unlinked, whole_tick, whole_unlinked, quiet_unlinked, cleared_quiet, settled_going, settled_unasked, active_up, IsBegun, begun_tick, begun_unlinked, begun_or_up}
use Rattle.bx_day.proofs.Law.{RunFits, at_map_in, happens_fits, without_run}
use Rattle.bx_day.proofs.Passing.{tick_is, map_size}
use Rattle.bx_day.proofs.Once.{decide}
use Rattle.bx_day.proofs.SlotLemmas.{holds_parts, holds_from}
use Rattle.bx_day.proofs.Tick.{offers, unlinked, second_live, WasLive, Before, Offered}
use Rattle.bx_two_ends.proofs.Turning.{IsClean, IsTurn, heard_turn, heard_kept, heard_over, heard_waits, on_live_at, up_of, keeps_of, runs_of, fits_at, live_accepted, held_by, held_at}

-- ---- what a second makes of one booking

pub after_standing : (link : Link) (d : Day) (i : ℕ) → standing_at (passed_in link d).day i ≡ (second_in link d (entry_at d.entries i)).standing
after_standing link d i = ap (λ (e : Entry). e.standing) (at_map_in link d d.entries i)

pub cleared_at : (d : Day) (i : ℕ) → OnLive (standing_at d i) (λ call a. net_is_clearing call.state ≡ false) → (c : PlainNetCall) (a : Activity) → standing_at d i ≡ OnCall c a → net_is_clearing c.state ≡ false
cleared_at d i h = on_live_at (standing_at d i) (λ call a. net_is_clearing call.state ≡ false) h

-- where each SETUP is answered too
pub settled_cleared : (s : Standing) → OnLive s (λ call a. is_settled call ≡ true) → OnLive s (λ call a. net_is_clearing call.state ≡ false)
settled_cleared (OnCall c a) h = settled_going c h
settled_cleared s h = tt

pub settled_awake : (s : Standing) → OnLive s (λ call a. is_settled call ≡ true) → StandingUnasked s
settled_awake (OnCall c a) h = settled_unasked c h
settled_awake s h = tt

pub answered_cleared : (called left : Day) → IsAllAnswered called left → IsCleared called left
answered_cleared called left h = record { cleared = λ i. settled_cleared (standing_at left i) (h.settled i); awake = λ i. settled_awake (standing_at left i) (h.settled i); kept = h.kept }

-- ---- between two turns

-- a day between two turns: no channel is in maintenance, and no RELEASE or STATUS ENQUIRY waits for an answer
pub record IsCalm (rows : List Row) (assigned : List (Option ℕ)) (d : Day) : Type 0 where
  pub fits : RunFits rows assigned d
  pub size : length d.entries ≡ length rows
  pub clean : IsClean d
  pub quiet : (j : ℕ) → IsQuietCall (standing_at d j)

no_breaks : (link : Link) (d : Day) (c : ℕ) (es : List Entry) → ((j : ℕ) → (second_in link d (entry_at es j)).broken ≡ false) → list_any (breaks_in link d c) es ≡ false
no_breaks link d c [] h = refl
no_breaks link d c (e ∷ es) h = none (second_in link d e).broken (e.channel == c) (list_any (breaks_in link d c) es) (h 0) (no_breaks link d c es (λ j. h (suc j)))
  where
    none : (x y z : Bool) → x ≡ false → z ≡ false → (x && y || z) ≡ false
    none false y z p q = q
    none true y z p q = absurd (true≢false p)

same_marks : (link : Link) (d : Day) (c : ℕ) (bs : List Bool) → ((j : ℕ) → (second_in link d (entry_at d.entries j)).broken ≡ false) → maintained_in link d c bs ≡ bs
same_marks link d c [] h = refl
same_marks link d c (b ∷ bs) h = ap (λ x. (b || x) ∷ maintained_in link d (c + 1) bs) (no_breaks link d c d.entries h) ∙ ap (λ x. x ∷ maintained_in link d (c + 1) bs) (right b) ∙ ap (λ xs. b ∷ xs) (same_marks link d (c + 1) bs h)
  where
    right : (x : Bool) → (x || false) ≡ x
    right true = refl
    right false = refl

pub marks_kept : (link : Link) (d : Day) → ((j : ℕ) → (second_in link d (entry_at d.entries j)).broken ≡ false) → IsClean d → IsClean (passed_in link d).day
marks_kept link d h clean c = ap (λ bs. is_marked bs c) (same_marks link d 0 d.maintenance h) ∙ clean c

-- the day after the tick
pub called_turn : (rows : List Row) (assigned : List (Option ℕ)) (d : Day) → d.moment < 300000 → IsCalm rows assigned d → IsTurn rows assigned (d.moment + 1) (passed_in Up d).day
called_turn rows assigned d early h = record {
  fits = subst (λ (s : Day). RunFits rows assigned s) (ap (λ s. s.day) (tick_is d early)) (happens_fits rows assigned d Tick h.fits);
  size = map_size Up d d.entries ∙ h.size;
  moment = refl;
  clean = marks_kept Up d (λ j. let e = entry_at d.entries j in whole_tick (d.moment + 1) e (is_back d) (is_free d e.channel) e.standing (h.quiet j)) h.clean;
}

-- and after what was answered in it
pub calm_linked : (rows : List Row) (assigned : List (Option ℕ)) (d : Day) (received : List (List ℕ)) → d.moment < 300000 → IsCalm rows assigned d → IsCleared (passed_in Up d).day (heard_in received (passed_in Up d).day) → IsCalm rows assigned (heard_in received (passed_in Up d).day)
calm_linked rows assigned d received early h ok =
    let left : Day = heard_in received (passed_in Up d).day in
    let last = heard_turn rows assigned (d.moment + 1) received (passed_in Up d).day (called_turn rows assigned d early h) in
    record { fits = last.fits; size = last.size; clean = last.clean; quiet = λ j. cleared_quiet (standing_at left j) (cleared_at left j (ok.cleared j)) (ok.awake j) }

-- a second without a link
pub without_is : (d : Day) → d.moment < 300000 → without_link d ≡ (passed_in (Down Three) d).day
without_is d early = ap (λ b. if b then d else (passed_in (Down Three) d).day) (false_from_ne_true (nat_le 300000 d.moment) (λ late. let le : 300000 ≤ d.moment = leb-true 300000 d.moment late in absurd (omega (arith, le, early))))

pub calm_unlinked : (rows : List Row) (assigned : List (Option ℕ)) (d : Day) → d.moment < 300000 → IsCalm rows assigned d → IsCalm rows assigned (passed_in (Down Three) d).day
calm_unlinked rows assigned d early h = record {
  fits = subst (RunFits rows assigned) (without_is d early) (without_run Three rows assigned d h.fits);
  size = map_size (Down Three) d d.entries ∙ h.size;
  clean = marks_kept (Down Three) d (λ j. let e = entry_at d.entries j in whole_unlinked (d.moment + 1) e e.standing) h.clean;
  quiet = λ j. (let e = entry_at d.entries j in subst IsQuietCall (sym (after_standing (Down Three) d j)) (quiet_unlinked (d.moment + 1) e e.standing (h.quiet j)));
}

-- ---- one outward booking, which runs at moment offered, and whose channel no other has from moment cleared to that

pub record IsBooked (rows : List Row) (assigned : List (Option ℕ)) (i cleared offered ended : ℕ) : Type 0 where
  pub inside : i < length rows
  pub outward : (row_at rows i).inward ≡ false
  pub alone : IsAlone rows assigned i cleared offered
  pub before : cleared < offered
  pub runs : is_running (row_at rows i) offered ≡ true
  pub late : offered < (row_at rows i).end
  pub over : (row_at rows i).end ≤ ended

-- a day between two turns, and how far the booking has come
pub record Stands (rows : List Row) (assigned : List (Option ℕ)) (i cleared offered ended : ℕ) (d : Day) : Type 0 where
  pub calm : IsCalm rows assigned d
  pub early : d.moment < offered → (standing_at d i ≡ Unoffered) ⊎ IsUp offered (standing_at d i)
  pub free : cleared ≤ d.moment → d.moment < offered → is_held d.entries (channel_at assigned i) ≡ true → IsUp offered (standing_at d i)
  pub up : offered ≤ d.moment → d.moment < (row_at rows i).end → IsUp offered (standing_at d i)
  pub over : (row_at rows i).end ≤ d.moment → IsOver offered (row_at rows i).end (standing_at d i)
  pub done : ended ≤ d.moment → IsCarriedBy offered (row_at rows i).end (standing_at d i)

abbrev pub following : Day → List (List ℕ) → Day
following d received = heard_in received (passed_in Up d).day

-- ---- a second with a link: the booking of index i

pub record IsLink (rows : List Row) (assigned : List (Option ℕ)) (i : ℕ) (d : Day) (received : List (List ℕ)) : Type 0 where
  pub inside : i < length rows
  pub fits : RunFits rows assigned d
  pub quiet : IsQuietCall (standing_at d i)
  pub first : IsTurn rows assigned (d.moment + 1) (passed_in Up d).day
  pub last : IsTurn rows assigned (d.moment + 1) (following d received)
  pub ok : IsCleared (passed_in Up d).day (following d received)

-- a call that was Active is Active after the turn, where it goes on after the tick
link_keeps : (rows : List Row) (assigned : List (Option ℕ)) (i u : ℕ) (d : Day) (received : List (List ℕ)) → IsLink rows assigned i d received → is_going (standing_at (passed_in Up d).day i) ≡ true → IsKept u (standing_at (passed_in Up d).day i) → IsUp u (standing_at (following d received) i)
link_keeps rows assigned i u d received h going kept =
    let left : Day = following d received in
    keeps_of left.moment u (entry_at left.entries i) (standing_at left i) (fits_at left i h.last.fits.day) (h.ok.kept i going) (h.ok.cleared i) (heard_kept u (d.moment + 1) i received (passed_in Up d).day refl kept)

-- and any outward one, where each SETUP is answered
abbrev pub IsSettledAt : Day → ℕ → Type 0
IsSettledAt d i = OnLive (standing_at d i) (λ call a. is_settled call ≡ true)

link_talks : (rows : List Row) (assigned : List (Option ℕ)) (i u : ℕ) (d : Day) (received : List (List ℕ)) → IsLink rows assigned i d received → IsSettledAt (following d received) i → is_going (standing_at (passed_in Up d).day i) ≡ true → (row_at rows i).inward ≡ false → d.moment + 1 ≤ u → IsUp u (standing_at (following d received) i)
link_talks rows assigned i u d received h settled going out le =
    let left : Day = following d received in
    up_of left.moment u (entry_at left.entries i) (standing_at left i) (fits_at left i h.last.fits.day) (h.ok.kept i going) settled (ap (λ (b : Row). b.inward) (h.last.fits.framed.0 i h.inside).booking ∙ out) (omega (arith, le, h.last.moment))

-- an Active call stays Active while its booking runs
link_up : (rows : List Row) (assigned : List (Option ℕ)) (i u : ℕ) (d : Day) (received : List (List ℕ)) → IsLink rows assigned i d received → d.moment + 1 < (row_at rows i).end → IsUp u (standing_at d i) → IsUp u (standing_at (following d received) i)
link_up rows assigned i u d received h less up =
    let called : Day = (passed_in Up d).day in
    let e = entry_at d.entries i in
    let now : IsUp u (standing_at called i) = subst (IsUp u) (sym (after_standing Up d i)) (up_tick u (d.moment + 1) e (is_back d) (is_free d e.channel) e.standing up h.quiet (subst (λ (b : Row). d.moment + 1 < b.end) (sym (h.fits.framed.0 i h.inside).booking) less)) in
    link_keeps rows assigned i u d received h (up_going u (standing_at called i) now) (up_kept u (standing_at called i) now)

-- where a call is being cleared after the tick, it is over after the turn
link_clears : (rows : List Row) (assigned : List (Option ℕ)) (i u end : ℕ) (d : Day) (received : List (List ℕ)) → IsLink rows assigned i d received → IsOver u end (standing_at (passed_in Up d).day i) → IsCarriedBy u end (standing_at (following d received) i)
link_clears rows assigned i u end d received h over =
    let left : Day = following d received in
    over_cleared u end (standing_at left i) (heard_over u end (d.moment + 1) i received (passed_in Up d).day refl over) (cleared_at left i (h.ok.cleared i))

-- at its end it is carried
link_end : (rows : List Row) (assigned : List (Option ℕ)) (i u : ℕ) (d : Day) (received : List (List ℕ)) → IsLink rows assigned i d received → d.moment + 1 ≡ (row_at rows i).end → IsUp u (standing_at d i) → IsCarriedBy u (row_at rows i).end (standing_at (following d received) i)
link_end rows assigned i u d received h is up =
    let e = entry_at d.entries i in
    let book : e.booking ≡ row_at rows i = (h.fits.framed.0 i h.inside).booking in
    let over : IsOver u e.booking.end (second_at e (d.moment + 1) (is_back d) (is_free d e.channel) e.standing).standing = end_tick u (d.moment + 1) e (is_back d) (is_free d e.channel) e.standing up (is ∙ ap (λ (b : Row). b.end) (sym book)) in
    link_clears rows assigned i u (row_at rows i).end d received h (subst (λ (b : Row). IsOver u b.end (standing_at (passed_in Up d).day i)) book (subst (IsOver u e.booking.end) (sym (after_standing Up d i)) over))

link_over : (rows : List Row) (assigned : List (Option ℕ)) (i u : ℕ) (d : Day) (received : List (List ℕ)) → IsLink rows assigned i d received → IsOver u (row_at rows i).end (standing_at d i) → IsCarriedBy u (row_at rows i).end (standing_at (following d received) i)
link_over rows assigned i u d received h was =
    let e = entry_at d.entries i in
    let book : e.booking ≡ row_at rows i = (h.fits.framed.0 i h.inside).booking in
    let over : IsOver u e.booking.end (second_at e (d.moment + 1) (is_back d) (is_free d e.channel) e.standing).standing = over_tick u (d.moment + 1) e (is_back d) (is_free d e.channel) e.standing (subst (λ (b : Row). IsOver u b.end e.standing) (sym book) was) in
    link_clears rows assigned i u (row_at rows i).end d received h (subst (λ (b : Row). IsOver u b.end (standing_at (passed_in Up d).day i)) book (subst (IsOver u e.booking.end) (sym (after_standing Up d i)) over))

-- one that waits is offered and Active, or could not be offered and waits on
link_waits : (rows : List Row) (assigned : List (Option ℕ)) (i u : ℕ) (d : Day) (received : List (List ℕ)) → IsLink rows assigned i d received → IsSettledAt (following d received) i → (row_at rows i).inward ≡ false → d.moment + 1 < (row_at rows i).end → d.moment + 1 ≤ u → standing_at d i ≡ Unoffered
    → ((standing_at (following d received) i ≡ Unoffered) × (offers (entry_at d.entries i) (d.moment + 1) (is_free d (entry_at d.entries i).channel) ≡ false)) ⊎ IsUp u (standing_at (following d received) i)
link_waits rows assigned i u d received h settled out less le is =
    let called : Day = (passed_in Up d).day in
    let e = entry_at d.entries i in
    let n = d.moment + 1 in
    let back = is_back d in
    let free = is_free d e.channel in
    let book : e.booking ≡ row_at rows i = (h.fits.framed.0 i h.inside).booking in
    let now : standing_at called i ≡ (waits e n back free).standing = after_standing Up d i ∙ ap (λ s. (second_at e n back free s).standing) is in
    decide (offers e n free)
    (λ yes. inr (link_talks rows assigned i u d received h settled (ap is_going now ∙ waits_offered n e back free yes) out le))
    (λ stays.
    let waiting : standing_at called i ≡ Unoffered = now ∙ waits_stays n e back free stays (subst (λ (b : Row). n < b.end) (sym book) less) in
    let outward : (entry_at called.entries i).booking.inward ≡ false = ap (λ (b : Row). b.inward) (h.first.fits.framed.0 i h.inside).booking ∙ out in
    inl ((heard_waits n i received called refl (outward, waiting)).1, stays))

-- after a turn that no other booking of its channel runs in, nobody else has the channel
pub link_free : (rows : List Row) (assigned : List (Option ℕ)) (i cleared offered : ℕ) (d : Day) (received : List (List ℕ)) → IsLink rows assigned i d received → IsAlone rows assigned i cleared offered → cleared ≤ d.moment + 1 → d.moment + 1 ≤ offered → is_held (following d received).entries (channel_at assigned i) ≡ true → is_live (standing_at (following d received) i) ≡ true
link_free rows assigned i cleared offered d received h alone low high held =
    let left : Day = following d received in
    let c = channel_at assigned i in
    let p = held_by left.entries c held in
    let j = p.0 in
    let q = holds_parts c (entry_at left.entries j) p.2 in
    elim (cases_eq j i) [
      | inl same ↦ subst (λ k. is_live (standing_at left k) ≡ true) same q.0
      | inr other ↦ absurd (
          let runs : is_running (entry_at left.entries j).booking left.moment ≡ true = runs_of left.moment (entry_at left.entries j) (standing_at left j) (fits_at left j h.last.fits.day) q.0 (h.ok.cleared j) in
          let size : j < length rows = subst (λ k. j < k) h.last.size p.1 in
          let f = h.last.fits.framed.0 j size in
          let now : is_running (row_at rows j) (d.moment + 1) ≡ true = subst (λ t. is_running (row_at rows j) t ≡ true) h.last.moment (subst (λ b. is_running b left.moment ≡ true) f.booking runs) in
          true≢false (sym now ∙ alone j (d.moment + 1) size other (live_accepted rows assigned left j h.last.fits size q.0) (sym f.channel ∙ q.1) low high))
    ]

-- ---- a second with a link, and how far the booking has come

unoffered_up : (u : ℕ) (s : Standing) → s ≡ Unoffered → IsUp u s → ⊥
unoffered_up u s is up = subst (IsUp u) is up

pub free_from : (d : Day) (c : ℕ) → is_held d.entries c ≡ false → is_marked d.maintenance c ≡ false → is_free d c ≡ true
free_from d c held marked = and_from (not (is_held d.entries c)) (not (is_marked d.maintenance c)) (ap not held) (ap not marked)

pub offers_from : (e : Entry) (t : ℕ) (free : Bool) → is_running e.booking t ≡ true → e.booking.inward ≡ false → free ≡ true → offers e t free ≡ true
offers_from e t free runs out is = and_from (is_running e.booking t && not e.booking.inward) free (and_from (is_running e.booking t) (not e.booking.inward) runs (ap not out)) is

pub offers_none : (e : Entry) (t : ℕ) → offers e t false ≡ false
offers_none e t = none (is_running e.booking t && not e.booking.inward)
  where
    none : (b : Bool) → (b && false) ≡ false
    none true = refl
    none false = refl

-- what is left of the cases below: the booking before its second with a link
link_early : (rows : List Row) (assigned : List (Option ℕ)) (i cleared offered ended : ℕ) (d : Day) (received : List (List ℕ)) → IsBooked rows assigned i cleared offered ended → Stands rows assigned i cleared offered ended d → IsLink rows assigned i d received → IsSettledAt (following d received) i → d.moment + 1 ≤ offered
    → ((standing_at (following d received) i ≡ Unoffered) × (offers (entry_at d.entries i) (d.moment + 1) (is_free d (entry_at d.entries i).channel) ≡ false) × (standing_at d i ≡ Unoffered)) ⊎ IsUp offered (standing_at (following d received) i)
link_early rows assigned i cleared offered ended d received b s h settled le =
    let less : d.moment + 1 < (row_at rows i).end = omega (arith, le, b.late) in
    elim (s.early (omega (arith, le))) [
      | inl waits ↦ elim (link_waits rows assigned i offered d received h settled b.outward less le waits) [
        | inl still ↦ inl (still.0, still.1, waits)
        | inr up ↦ inr up
      ]
      | inr up ↦ inr (link_up rows assigned i offered d received h less up)
    ]

pub unoffered_live : (s : Standing) → s ≡ Unoffered → is_live s ≡ true → ⊥
unoffered_live s is live = false≢true (sym (ap is_live is) ∙ live)

link_offers : (rows : List Row) (assigned : List (Option ℕ)) (i cleared offered ended : ℕ) (d : Day) (received : List (List ℕ)) → IsBooked rows assigned i cleared offered ended → Stands rows assigned i cleared offered ended d → IsLink rows assigned i d received → IsSettledAt (following d received) i → d.moment + 1 ≡ offered → IsUp offered (standing_at (following d received) i)
link_offers rows assigned i cleared offered ended d received b s h settled is =
    elim (link_early rows assigned i cleared offered ended d received b s h settled (omega (arith, is))) [
      | inl still ↦ absurd (
          let e = entry_at d.entries i in
          let f = h.fits.framed.0 i h.inside in
          let runs : is_running e.booking (d.moment + 1) ≡ true = subst (λ (r : Row). is_running r (d.moment + 1) ≡ true) (sym f.booking) (subst (λ t. is_running (row_at rows i) t ≡ true) (sym is) b.runs) in
          let out : e.booking.inward ≡ false = ap (λ (r : Row). r.inward) f.booking ∙ b.outward in
          let held : is_held d.entries (channel_at assigned i) ≡ false = false_from_ne_true (is_held d.entries (channel_at assigned i)) (λ yes. unoffered_up offered (standing_at d i) still.2 (s.free (omega (arith, is, b.before)) (omega (arith, is)) yes)) in
          let free : is_free d e.channel ≡ true = free_from d e.channel (subst (λ c. is_held d.entries c ≡ false) (sym f.channel) held) (s.calm.clean e.channel) in
          true≢false (sym (offers_from e (d.moment + 1) (is_free d e.channel) runs out free) ∙ still.1))
      | inr up ↦ up
    ]

link_over_at : (rows : List Row) (assigned : List (Option ℕ)) (i cleared offered ended : ℕ) (d : Day) (received : List (List ℕ)) → IsBooked rows assigned i cleared offered ended → Stands rows assigned i cleared offered ended d → IsLink rows assigned i d received → (row_at rows i).end ≤ d.moment + 1 → IsCarriedBy offered (row_at rows i).end (standing_at (following d received) i)
link_over_at rows assigned i cleared offered ended d received b s h le = elim (cases_lt d.moment (row_at rows i).end) [
  | inl less ↦ (let is : d.moment + 1 ≡ (row_at rows i).end = omega (arith, less, le) in link_end rows assigned i offered d received h is (s.up (omega (arith, is, b.late)) less))
  | inr past ↦ link_over rows assigned i offered d received h (s.over past)
]

pub link_stands : (rows : List Row) (assigned : List (Option ℕ)) (i cleared offered ended : ℕ) (d : Day) (received : List (List ℕ)) → d.moment < 300000 → IsBooked rows assigned i cleared offered ended → Stands rows assigned i cleared offered ended d → IsAllAnswered (passed_in Up d).day (following d received) → Stands rows assigned i cleared offered ended (following d received)
link_stands rows assigned i cleared offered ended d received early b s ok =
    let called : Day = (passed_in Up d).day in
    let left : Day = following d received in
    let n = d.moment + 1 in
    let end = (row_at rows i).end in
    let first = called_turn rows assigned d early s.calm in
    let last = heard_turn rows assigned n received called first in
    let h : IsLink rows assigned i d received = record { inside = b.inside; fits = s.calm.fits; quiet = s.calm.quiet i; first = first; last = last; ok = answered_cleared called left ok } in
    let at : left.moment ≡ n = last.moment in
    record {
      calm = calm_linked rows assigned d received early s.calm (answered_cleared called left ok);
      early = λ less. elim (link_early rows assigned i cleared offered ended d received b s h (ok.settled i) (omega (arith, less, at))) [ inl still ↦ inl still.0 | inr up ↦ inr up ];
      free = λ low less held. elim (link_early rows assigned i cleared offered ended d received b s h (ok.settled i) (omega (arith, less, at))) [
        | inl still ↦ absurd (unoffered_live (standing_at left i) still.0 (link_free rows assigned i cleared offered d received h b.alone (omega (arith, low, at)) (omega (arith, less, at)) held))
        | inr up ↦ up
      ];
      up = λ low less. elim (cases_lt d.moment offered) [
        | inl before ↦ link_offers rows assigned i cleared offered ended d received b s h (ok.settled i) (omega (arith, before, low, at))
        | inr past ↦ link_up rows assigned i offered d received h (omega (arith, less, at)) (s.up past (omega (arith, less, at)))
      ];
      over = λ late. carried_over offered end (standing_at left i) (link_over_at rows assigned i cleared offered ended d received b s h (omega (arith, late, at)));
      done = λ late. link_over_at rows assigned i cleared offered ended d received b s h (omega (arith, late, at, b.over));
    }

-- ---- a second without a link

down_live : (d : Day) (e : Entry) → is_live (second_in (Down Three) d e).standing ≡ true → is_live e.standing ≡ true
down_live d e = unlinked Three e (d.moment + 1) e.standing (λ m. is_live m.standing ≡ true → is_live e.standing ≡ true) (λ c a p _. ap is_live p) (λ live. was (second_live (d.moment + 1) false false e e.standing live))
  where
    was : WasLive (d.moment + 1) false e → is_live e.standing ≡ true
    was (Before live) = live
    was (Offered accepted runs free) = absurd (false≢true free)

-- a channel that is held after it was held before
pub down_held : (d : Day) (c : ℕ) → is_held (passed_in (Down Three) d).day.entries c ≡ true → is_held d.entries c ≡ true
down_held d c held =
    let p = held_by (passed_in (Down Three) d).day.entries c held in
    let q = holds_parts c (entry_at (passed_in (Down Three) d).day.entries p.0) p.2 in
    let e = entry_at d.entries p.0 in
    held_at d.entries c p.0 (holds_from c e (down_live d e (sym (ap is_live (after_standing (Down Three) d p.0)) ∙ q.0)) (sym (ap (λ (x : Entry). x.channel) (at_map_in (Down Three) d d.entries p.0)) ∙ q.1))

down_stands : (rows : List Row) (assigned : List (Option ℕ)) (i cleared offered ended : ℕ) (d : Day) → d.moment < 300000 → IsBooked rows assigned i cleared offered ended → Stands rows assigned i cleared offered ended d
    → (cleared ≢ d.moment + 1) → (offered ≢ d.moment + 1) → (ended ≢ d.moment + 1) → Stands rows assigned i cleared offered ended (passed_in (Down Three) d).day
down_stands rows assigned i cleared offered ended d early b s nc nf ne =
    let e = entry_at d.entries i in
    let n = d.moment + 1 in
    let book : e.booking ≡ row_at rows i = (s.calm.fits.framed.0 i b.inside).booking in
    let here = after_standing (Down Three) d i in
    let rises : n < (row_at rows i).end → IsUp offered e.standing → IsUp offered (standing_at (passed_in (Down Three) d).day i) =
    λ less up. subst (IsUp offered) (sym here) (up_unlinked offered n e e.standing up (subst (λ (r : Row). n < r.end) (sym book) less)) in
    record {
      calm = calm_unlinked rows assigned d early s.calm;
      early = λ less. elim (s.early (omega (arith, less))) [
        | inl waits ↦ inl (here ∙ ap (λ x. (unlinked_at Three e n x).standing) waits ∙ waits_stays n e false false (offers_none e n) (subst (λ (r : Row). n < r.end) (sym book) (omega (arith, less, b.late))))
        | inr up ↦ inr (rises (omega (arith, less, b.late)) up)
      ];
      free = λ low less held. rises (omega (arith, less, b.late)) (s.free (below cleared d.moment low nc) (omega (arith, less)) (down_held d (channel_at assigned i) held));
      up = λ low less. rises less (s.up (below offered d.moment low nf) (omega (arith, less)));
      over = λ late. elim (cases_lt d.moment (row_at rows i).end) [
        | inl less ↦ (let is : n ≡ (row_at rows i).end = omega (arith, less, late) in
            subst (IsOver offered (row_at rows i).end) (sym here) (subst (λ (r : Row). IsOver offered r.end (unlinked_at Three e n e.standing).standing) book (end_unlinked offered n e e.standing (s.up (omega (arith, is, b.late)) less) (is ∙ ap (λ (r : Row). r.end) (sym book)))))
        | inr past ↦ subst (IsOver offered (row_at rows i).end) (sym here) (subst (λ (r : Row). IsOver offered r.end (unlinked_at Three e n e.standing).standing) book (over_unlinked offered n e e.standing (subst (λ (r : Row). IsOver offered r.end e.standing) (sym book) (s.over past))))
      ];
      done = λ late. subst (IsCarriedBy offered (row_at rows i).end) (sym here) (subst (λ (r : Row). IsCarriedBy offered r.end (unlinked_at Three e n e.standing).standing) book (carried_unlinked offered n e e.standing (subst (λ (r : Row). IsCarriedBy offered r.end e.standing) (sym book) (s.done (below ended d.moment late ne)))));
    }
  where
    below : (t m : ℕ) → t ≤ m + 1 → t ≢ m + 1 → t ≤ m
    below t m le ne = omega (arith, le, ne)

-- ---- all seconds

-- a moment that is past, or whose second is to come and has a link
abbrev pub IsDueIn : List LiveSecond → ℕ → ℕ → Type 0
IsDueIn seconds m t = (t ≤ m) ⊎ (has_link m seconds t ≡ true)

pub due_after : (s : LiveSecond) (ss : List LiveSecond) (m t : ℕ) → IsDueIn (s ∷ ss) m t → IsDueIn ss (m + 1) t
due_after s ss m t (inl le) = inl (omega (arith, le))
due_after s ss m t (inr h) = at (t == m + 1) refl
  where
    at : (b : Bool) → (t == m + 1) ≡ b → IsDueIn ss (m + 1) t
    at true is = inl (let same : t ≡ m + 1 = eqb-true t (m + 1) is in omega (arith, same))
    at false is = inr (sym (ap (λ b. if b then is_linked s else has_link (m + 1) ss t) is) ∙ h)

pub not_due : (ss : List LiveSecond) (m t : ℕ) → IsDueIn (Unlinked ∷ ss) m t → t ≢ m + 1
not_due ss m t (inl le) is = omega (arith, le, is)
not_due ss m t (inr h) is = false≢true (sym (ap (λ b. if b then false else has_link (m + 1) ss t) (eq-eqb t (m + 1) is)) ∙ h)

pub day_linked : (d : Day) (received : List (List ℕ)) → d.moment < 300000 → second_after (Linked received) d ≡ following d received
day_linked d received early = ap (λ x. heard_in received x.day) (tick_is d early)

pub turn_linked : (P : Day → Day → Type 0) (d : Day) (received : List (List ℕ)) → d.moment < 300000 → P (tick d).day (heard_in received (tick d).day) → P (passed_in Up d).day (following d received)
turn_linked P d received early ok = subst (λ x. P x.day (heard_in received x.day)) (tick_is d early) ok

pub linked_turn : (P : Day → Day → Type 0) (d : Day) (received : List (List ℕ)) → d.moment < 300000 → P (passed_in Up d).day (following d received) → P (tick d).day (heard_in received (tick d).day)
linked_turn P d received early ok = subst (λ x. P x.day (heard_in received x.day)) (sym (tick_is d early)) ok

pub booked_run : (rows : List Row) (assigned : List (Option ℕ)) (i cleared offered ended : ℕ) (seconds : List LiveSecond) (d : Day) → IsBooked rows assigned i cleared offered ended → Stands rows assigned i cleared offered ended d → AreAnswered seconds d → d.moment + length seconds ≤ 300000
    → IsDueIn seconds d.moment cleared → IsDueIn seconds d.moment offered → IsDueIn seconds d.moment ended → IsCarriedBy offered (row_at rows i).end (standing_at (seconds_after seconds d) i)
booked_run rows assigned i cleared offered ended [] d b s ok few dc do_ de = elim de [ inl le ↦ s.done le | inr h ↦ absurd (false≢true h) ]
booked_run rows assigned i cleared offered ended (Linked received ∷ ss) d b s ok few dc do_ de =
    let early : d.moment < 300000 = omega (arith, few) in
    let left : Day = following d received in
    let is : second_after (Linked received) d ≡ left = day_linked d received early in
    let next = link_stands rows assigned i cleared offered ended d received early b s (turn_linked IsAllAnswered d received early ok.0) in
    let first = called_turn rows assigned d early s.calm in
    let at : left.moment ≡ d.moment + 1 = (heard_turn rows assigned (d.moment + 1) received (passed_in Up d).day first).moment in
    subst (λ x. IsCarriedBy offered (row_at rows i).end (standing_at (seconds_after ss x) i)) (sym is)
    (booked_run rows assigned i cleared offered ended ss left b next (subst (AreAnswered ss) is ok.1) (omega (arith, few, at))
    (subst (λ m. IsDueIn ss m cleared) (sym at) (due_after (Linked received) ss d.moment cleared dc))
    (subst (λ m. IsDueIn ss m offered) (sym at) (due_after (Linked received) ss d.moment offered do_))
    (subst (λ m. IsDueIn ss m ended) (sym at) (due_after (Linked received) ss d.moment ended de)))
booked_run rows assigned i cleared offered ended (Unlinked ∷ ss) d b s ok few dc do_ de =
    let early : d.moment < 300000 = omega (arith, few) in
    let is : without_link d ≡ (passed_in (Down Three) d).day = without_is d early in
    let next = down_stands rows assigned i cleared offered ended d early b s (not_due ss d.moment cleared dc) (not_due ss d.moment offered do_) (not_due ss d.moment ended de) in
    subst (λ x. IsCarriedBy offered (row_at rows i).end (standing_at (seconds_after ss x) i)) (sym is)
    (booked_run rows assigned i cleared offered ended ss (passed_in (Down Three) d).day b next (subst (AreAnswered ss) is ok) (omega (arith, few))
    (due_after Unlinked ss d.moment cleared dc) (due_after Unlinked ss d.moment offered do_) (due_after Unlinked ss d.moment ended de))

-- no channel is ever in maintenance
pub calm_run : (rows : List Row) (assigned : List (Option ℕ)) (seconds : List LiveSecond) (d : Day) → IsCalm rows assigned d → AreCleared seconds d → d.moment + length seconds ≤ 300000 → IsCalm rows assigned (seconds_after seconds d)
calm_run rows assigned [] d h ok few = h
calm_run rows assigned (Linked received ∷ ss) d h ok few =
    let early : d.moment < 300000 = omega (arith, few) in
    let left : Day = following d received in
    let is : second_after (Linked received) d ≡ left = day_linked d received early in
    let at : left.moment ≡ d.moment + 1 = (heard_turn rows assigned (d.moment + 1) received (passed_in Up d).day (called_turn rows assigned d early h)).moment in
    subst (λ x. IsCalm rows assigned (seconds_after ss x)) (sym is) (calm_run rows assigned ss left (calm_linked rows assigned d received early h (turn_linked IsCleared d received early ok.0)) (subst (AreCleared ss) is ok.1) (omega (arith, few, at)))
calm_run rows assigned (Unlinked ∷ ss) d h ok few =
    let early : d.moment < 300000 = omega (arith, few) in
    let is : without_link d ≡ (passed_in (Down Three) d).day = without_is d early in
    subst (λ x. IsCalm rows assigned (seconds_after ss x)) (sym is) (calm_run rows assigned ss (passed_in (Down Three) d).day (calm_unlinked rows assigned d early h) (subst (AreCleared ss) is ok) (omega (arith, few)))

-- ---- a booking whose call is live, and is settled or Active

pub record IsInward (rows : List Row) (i connected ended : ℕ) : Type 0 where
  pub inside : i < length rows
  pub runs : connected < (row_at rows i).end
  pub over : (row_at rows i).end ≤ ended

-- a day between two turns, and how far its call has come
pub record Connects (rows : List Row) (assigned : List (Option ℕ)) (i connected ended : ℕ) (d : Day) : Type 0 where
  pub calm : IsCalm rows assigned d
  pub early : d.moment < connected → IsBegun (standing_at d i) ⊎ IsUp connected (standing_at d i)
  pub up : connected ≤ d.moment → d.moment < (row_at rows i).end → IsUp connected (standing_at d i)
  pub over : (row_at rows i).end ≤ d.moment → IsOver connected (row_at rows i).end (standing_at d i)
  pub done : ended ≤ d.moment → IsCarriedBy connected (row_at rows i).end (standing_at d i)

-- a tick connects it
link_connects : (rows : List Row) (assigned : List (Option ℕ)) (i u : ℕ) (d : Day) (received : List (List ℕ)) → IsLink rows assigned i d received → d.moment + 1 < (row_at rows i).end → d.moment + 1 ≤ u → IsBegun (standing_at d i) → IsUp u (standing_at (following d received) i)
link_connects rows assigned i u d received h less le begun =
    let called : Day = (passed_in Up d).day in
    let e = entry_at d.entries i in
    let now : IsUp u (standing_at called i) = subst (IsUp u) (sym (after_standing Up d i)) (begun_tick u (d.moment + 1) e (is_back d) (is_free d e.channel) e.standing begun (subst (λ (b : Row). d.moment + 1 < b.end) (sym (h.fits.framed.0 i h.inside).booking) less) le) in
    link_keeps rows assigned i u d received h (up_going u (standing_at called i) now) (up_kept u (standing_at called i) now)

link_inward : (rows : List Row) (assigned : List (Option ℕ)) (i connected ended : ℕ) (d : Day) (received : List (List ℕ)) → d.moment < 300000 → IsInward rows i connected ended → Connects rows assigned i connected ended d → IsCleared (passed_in Up d).day (following d received) → Connects rows assigned i connected ended (following d received)
link_inward rows assigned i connected ended d received early b s ok =
    let left : Day = following d received in
    let n = d.moment + 1 in
    let first = called_turn rows assigned d early s.calm in
    let last = heard_turn rows assigned n received (passed_in Up d).day first in
    let h : IsLink rows assigned i d received = record { inside = b.inside; fits = s.calm.fits; quiet = s.calm.quiet i; first = first; last = last; ok = ok } in
    let at : left.moment ≡ n = last.moment in
    let rises : n ≤ connected → IsUp connected (standing_at left i) = λ le. elim (s.early (omega (arith, le))) [
      | inl begun ↦ link_connects rows assigned i connected d received h (omega (arith, le, b.runs)) le begun
      | inr up ↦ link_up rows assigned i connected d received h (omega (arith, le, b.runs)) up
    ] in
    let ends : (row_at rows i).end ≤ n → IsCarriedBy connected (row_at rows i).end (standing_at left i) = λ le. elim (cases_lt d.moment (row_at rows i).end) [
      | inl less ↦ (let is : n ≡ (row_at rows i).end = omega (arith, less, le) in link_end rows assigned i connected d received h is (s.up (omega (arith, is, b.runs)) less))
      | inr past ↦ link_over rows assigned i connected d received h (s.over past)
    ] in
    record {
      calm = calm_linked rows assigned d received early s.calm ok;
      early = λ less. inr (rises (omega (arith, less, at)));
      up = λ low less. elim (cases_lt d.moment connected) [
        | inl before ↦ rises (omega (arith, before))
        | inr past ↦ link_up rows assigned i connected d received h (omega (arith, less, at)) (s.up past (omega (arith, less, at)))
      ];
      over = λ late. carried_over connected (row_at rows i).end (standing_at left i) (ends (omega (arith, late, at)));
      done = λ late. ends (omega (arith, late, at, b.over));
    }

down_inward : (rows : List Row) (assigned : List (Option ℕ)) (i connected ended : ℕ) (d : Day) → d.moment < 300000 → IsInward rows i connected ended → Connects rows assigned i connected ended d → (connected ≢ d.moment + 1) → (ended ≢ d.moment + 1) → Connects rows assigned i connected ended (passed_in (Down Three) d).day
down_inward rows assigned i connected ended d early b s nc ne =
    let e = entry_at d.entries i in
    let n = d.moment + 1 in
    let book : e.booking ≡ row_at rows i = (s.calm.fits.framed.0 i b.inside).booking in
    let here = after_standing (Down Three) d i in
    let rises : n < (row_at rows i).end → IsUp connected e.standing → IsUp connected (standing_at (passed_in (Down Three) d).day i) =
    λ less up. subst (IsUp connected) (sym here) (up_unlinked connected n e e.standing up (subst (λ (r : Row). n < r.end) (sym book) less)) in
    record {
      calm = calm_unlinked rows assigned d early s.calm;
      early = λ less. elim (s.early (omega (arith, less))) [
        | inl begun ↦ inl (subst IsBegun (sym here) (begun_unlinked n e e.standing begun (subst (λ (r : Row). n < r.end) (sym book) (omega (arith, less, b.runs)))))
        | inr up ↦ inr (rises (omega (arith, less, b.runs)) up)
      ];
      up = λ low less. rises less (s.up (below connected d.moment low nc) (omega (arith, less)));
      over = λ late. elim (cases_lt d.moment (row_at rows i).end) [
        | inl less ↦ (let is : n ≡ (row_at rows i).end = omega (arith, less, late) in
            subst (IsOver connected (row_at rows i).end) (sym here) (subst (λ (r : Row). IsOver connected r.end (unlinked_at Three e n e.standing).standing) book (end_unlinked connected n e e.standing (s.up (omega (arith, is, b.runs)) less) (is ∙ ap (λ (r : Row). r.end) (sym book)))))
        | inr past ↦ subst (IsOver connected (row_at rows i).end) (sym here) (subst (λ (r : Row). IsOver connected r.end (unlinked_at Three e n e.standing).standing) book (over_unlinked connected n e e.standing (subst (λ (r : Row). IsOver connected r.end e.standing) (sym book) (s.over past))))
      ];
      done = λ late. subst (IsCarriedBy connected (row_at rows i).end) (sym here) (subst (λ (r : Row). IsCarriedBy connected r.end (unlinked_at Three e n e.standing).standing) book (carried_unlinked connected n e e.standing (subst (λ (r : Row). IsCarriedBy connected r.end e.standing) (sym book) (s.done (below ended d.moment late ne)))));
    }
  where
    below : (t m : ℕ) → t ≤ m + 1 → t ≢ m + 1 → t ≤ m
    below t m le ne = omega (arith, le, ne)

inward_run : (rows : List Row) (assigned : List (Option ℕ)) (i connected ended : ℕ) (seconds : List LiveSecond) (d : Day) → IsInward rows i connected ended → Connects rows assigned i connected ended d → AreCleared seconds d → d.moment + length seconds ≤ 300000
    → IsDueIn seconds d.moment connected → IsDueIn seconds d.moment ended → IsCarriedBy connected (row_at rows i).end (standing_at (seconds_after seconds d) i)
inward_run rows assigned i connected ended [] d b s ok few dc de = elim de [ inl le ↦ s.done le | inr h ↦ absurd (false≢true h) ]
inward_run rows assigned i connected ended (Linked received ∷ ss) d b s ok few dc de =
    let early : d.moment < 300000 = omega (arith, few) in
    let left : Day = following d received in
    let is : second_after (Linked received) d ≡ left = day_linked d received early in
    let next = link_inward rows assigned i connected ended d received early b s (turn_linked IsCleared d received early ok.0) in
    let at : left.moment ≡ d.moment + 1 = (heard_turn rows assigned (d.moment + 1) received (passed_in Up d).day (called_turn rows assigned d early s.calm)).moment in
    subst (λ x. IsCarriedBy connected (row_at rows i).end (standing_at (seconds_after ss x) i)) (sym is)
    (inward_run rows assigned i connected ended ss left b next (subst (AreCleared ss) is ok.1) (omega (arith, few, at))
    (subst (λ m. IsDueIn ss m connected) (sym at) (due_after (Linked received) ss d.moment connected dc))
    (subst (λ m. IsDueIn ss m ended) (sym at) (due_after (Linked received) ss d.moment ended de)))
inward_run rows assigned i connected ended (Unlinked ∷ ss) d b s ok few dc de =
    let early : d.moment < 300000 = omega (arith, few) in
    let is : without_link d ≡ (passed_in (Down Three) d).day = without_is d early in
    let next = down_inward rows assigned i connected ended d early b s (not_due ss d.moment connected dc) (not_due ss d.moment ended de) in
    subst (λ x. IsCarriedBy connected (row_at rows i).end (standing_at (seconds_after ss x) i)) (sym is)
    (inward_run rows assigned i connected ended ss (passed_in (Down Three) d).day b next (subst (AreCleared ss) is ok) (omega (arith, few)) (due_after Unlinked ss d.moment connected dc) (due_after Unlinked ss d.moment ended de))

-- from the day on at which its call is settled, or Active
abbrev pub IsOn : ℕ → ℕ → Day → Type 0
IsOn connected i d = ((d.moment < connected) × (IsBegun (standing_at d i) ⊎ IsUp connected (standing_at d i))) ⊎ ((connected ≡ d.moment) × IsUp connected (standing_at d i))

pub settled_on : (rows : List Row) (assigned : List (Option ℕ)) (i connected : ℕ) (d : Day) → IsCalm rows assigned d → is_live (standing_at d i) ≡ true → IsSettledAt d i → d.moment < connected → IsOn connected i d
settled_on rows assigned i connected d calm live settled before =
    inl (before, begun_or_up connected d.moment (entry_at d.entries i) (standing_at d i) (fits_at d i calm.fits.day) live (on_live_at (standing_at d i) (λ call a. is_settled call ≡ true) settled) (omega (arith, before)))

pub active_on : (rows : List Row) (assigned : List (Option ℕ)) (i connected : ℕ) (d : Day) → IsCalm rows assigned d → is_live (standing_at d i) ≡ true → OnLive (standing_at d i) (λ call a. is_active call.state ≡ true) → connected ≡ d.moment → IsOn connected i d
active_on rows assigned i connected d calm live active is =
    inr (is, active_up connected d.moment (entry_at d.entries i) (standing_at d i) (fits_at d i calm.fits.day) live (on_live_at (standing_at d i) (λ call a. is_active call.state ≡ true) active) (omega (arith, is)))

called_now : (rows : List Row) (assigned : List (Option ℕ)) (i connected ended : ℕ) (d : Day) → IsInward rows i connected ended → IsCalm rows assigned d → IsOn connected i d → Connects rows assigned i connected ended d
called_now rows assigned i connected ended d b calm (inl on) = record {
  calm = calm;
  early = λ _. on.1;
  up = λ low less. absurd (omega (arith, low, on.0));
  over = λ late. absurd (omega (arith, late, on.0, b.runs));
  done = λ late. absurd (omega (arith, late, on.0, b.runs, b.over));
}
called_now rows assigned i connected ended d b calm (inr on) = record {
  calm = calm;
  early = λ _. inr on.1;
  up = λ low less. on.1;
  over = λ late. absurd (omega (arith, late, on.0, b.runs));
  done = λ late. absurd (omega (arith, late, on.0, b.runs, b.over));
}

-- a moment that is past in so many seconds, or whose second is to come and has a link
abbrev pub IsDueBy : List LiveSecond → ℕ → ℕ → ℕ → Type 0
IsDueBy seconds m n t = (t ≤ m + n) ⊎ (has_link m seconds t ≡ true)

due_now : (seconds : List LiveSecond) (m t : ℕ) → IsDueBy seconds m 0 t → IsDueIn seconds m t
due_now seconds m t (inl le) = inl (omega (arith, le))
due_now seconds m t (inr h) = inr h

due_next : (s : LiveSecond) (ss : List LiveSecond) (m n t : ℕ) → IsDueBy (s ∷ ss) m (suc n) t → IsDueBy ss (m + 1) n t
due_next s ss m n t (inl le) = inl (omega (arith, le))
due_next s ss m n t (inr h) = elim (due_after s ss m t (inr h)) [ inl le ↦ inl (omega (arith, le)) | inr more ↦ inr more ]

pub called_run : (rows : List Row) (assigned : List (Option ℕ)) (i connected ended n : ℕ) (seconds : List LiveSecond) (d : Day) → IsInward rows i connected ended → IsCalm rows assigned d → AreCleared seconds d → d.moment + length seconds ≤ 300000
    → (IsCalm rows assigned (seconds_after (take n seconds) d) → d.moment + n ≡ (seconds_after (take n seconds) d).moment → IsOn connected i (seconds_after (take n seconds) d)) → n ≤ length seconds → IsDueBy seconds d.moment n connected → IsDueIn seconds d.moment ended → IsCarriedBy connected (row_at rows i).end (standing_at (seconds_after seconds d) i)
called_run rows assigned i connected ended zero seconds d b calm ok few on size dc de =
    inward_run rows assigned i connected ended seconds d b (called_now rows assigned i connected ended d b calm (on calm (omega arith))) ok few (due_now seconds d.moment connected dc) de
called_run rows assigned i connected ended (suc n) [] d b calm ok few on size dc de = absurd (omega (arith, size))
called_run rows assigned i connected ended (suc n) (Linked received ∷ ss) d b calm ok few on size dc de =
    let early : d.moment < 300000 = omega (arith, few) in
    let left : Day = following d received in
    let is : second_after (Linked received) d ≡ left = day_linked d received early in
    let at : left.moment ≡ d.moment + 1 = (heard_turn rows assigned (d.moment + 1) received (passed_in Up d).day (called_turn rows assigned d early calm)).moment in
    subst (λ x. IsCarriedBy connected (row_at rows i).end (standing_at (seconds_after ss x) i)) (sym is)
    (called_run rows assigned i connected ended n ss left b (calm_linked rows assigned d received early calm (turn_linked IsCleared d received early ok.0)) (subst (AreCleared ss) is ok.1) (omega (arith, few, at))
    (subst (λ x. IsCalm rows assigned (seconds_after (take n ss) x) → x.moment + n ≡ (seconds_after (take n ss) x).moment → IsOn connected i (seconds_after (take n ss) x)) is (λ c m. on c (omega (arith, m, at, ap (λ (x : Day). x.moment) is)))) (omega (arith, size))
    (subst (λ m. IsDueBy ss m n connected) (sym at) (due_next (Linked received) ss d.moment n connected dc))
    (subst (λ m. IsDueIn ss m ended) (sym at) (due_after (Linked received) ss d.moment ended de)))
called_run rows assigned i connected ended (suc n) (Unlinked ∷ ss) d b calm ok few on size dc de =
    let early : d.moment < 300000 = omega (arith, few) in
    let is : without_link d ≡ (passed_in (Down Three) d).day = without_is d early in
    subst (λ x. IsCarriedBy connected (row_at rows i).end (standing_at (seconds_after ss x) i)) (sym is)
    (called_run rows assigned i connected ended n ss (passed_in (Down Three) d).day b (calm_unlinked rows assigned d early calm) (subst (AreCleared ss) is ok) (omega (arith, few))
    (subst (λ x. IsCalm rows assigned (seconds_after (take n ss) x) → x.moment + n ≡ (seconds_after (take n ss) x).moment → IsOn connected i (seconds_after (take n ss) x)) is (λ c m. on c (omega (arith, m, ap (λ (x : Day). x.moment) is)))) (omega (arith, size))
    (due_next Unlinked ss d.moment n connected dc) (due_after Unlinked ss d.moment ended de))
