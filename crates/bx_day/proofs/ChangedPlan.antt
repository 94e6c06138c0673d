-- The law of the day of a changed plan: the opening days of both, and what is tested at the end.
use Rattle.std.proofs.Common.{◌≡◌, ℕ, zero, suc, ◌+◌, ◌≤◌, ◌<◌, true, List, [], ◌∷◌, length, Option, Some, None, arith, refl, sym, subst, ap, ◌∙◌, inl, inr, slice_index_or}
use Rattle.std.specs.List.{AllByRecursion}
use Rattle.bx_base.specs.Bookings.{Row, row_at, AreBookings}
use Rattle.bx_calls.specs.Shared.{no_channel}
use Rattle.bx_events.specs.Events.{LiveEvent}
use Rattle.bx_day.specs.declared.entry.Entry.{Entry}
use Rattle.bx_day.specs.Day.{Day, entry_at, entry_of, entries_from, opening}
use Rattle.bx_day.specs.Outages.{live_day_after}
use Rattle.bx_day.specs.Passing.{day_of}
use Rattle.bx_day.specs.Changed.{was_never_live, with_past, referred, with_references, changed, said_at_each, IsAhead, AgreesAt, AgreesWith}
use Rattle.bx_day.proofs.Changed.{IsShared, AreShared, onto, idle_kept, few_shared, GoesThere, run_onto}
use Rattle.bx_day.proofs.Law.{reference_of_entry}
use Rattle.bx_day.proofs.Once.{none≢some}
use Rattle.bx_day.proofs.OpeningDay.{opening_size, opening_at}
use Rattle.bx_day.proofs.Resting.{IsToCome}
use Rattle.bx_day.proofs.SlotLemmas.{some_is}
use Rattle.bx_day.proofs.Staying.{run_size, references_stay}

-- ---- of lists, index by index

all_from : (m : ℕ) (ns : List Entry) → ((i : ℕ) → i < length ns → IsToCome m (entry_at ns i)) → AllByRecursion (IsToCome m) ns
all_from m [] h = tt
all_from m (n ∷ ns) h = (h 0 (omega arith), all_from m ns (λ i lt. h (suc i) (omega (arith, lt))))

pub shared_from : (m : ℕ) (es ns : List Entry) → length es ≤ length ns → ((i : ℕ) → i < length es → IsShared m (entry_at es i) (entry_at ns i)) → ((i : ℕ) → length es ≤ i → i < length ns → IsToCome m (entry_at ns i)) → AreShared m es ns
shared_from m [] ns le old new = all_from m ns (λ i lt. new i (omega arith) lt)
shared_from m (e ∷ es) [] le old new = absurd (omega (arith, le))
shared_from m (e ∷ es) (n ∷ ns) le old new = (old 0 (omega arith), shared_from m es ns (omega (arith, le)) (λ i lt. old (suc i) (omega (arith, lt))) (λ i low lt. new (suc i) (omega (arith, low)) (omega (arith, lt))))

-- ---- with the references of those before

pub referred_size : (es ns : List Entry) → length es ≤ length ns → length (with_references es ns) ≡ length ns
referred_size [] ns le = refl
referred_size (e ∷ es) [] le = absurd (omega (arith, le))
referred_size (e ∷ es) (n ∷ ns) le = ap suc (referred_size es ns (omega (arith, le)))

pub referred_at : (es ns : List Entry) (i : ℕ) → length es ≤ length ns → i < length es → entry_at (with_references es ns) i ≡ referred (entry_at es i) (entry_at ns i)
referred_at [] ns i le lt = absurd (omega (arith, lt))
referred_at (e ∷ es) [] i le lt = absurd (omega (arith, le))
referred_at (e ∷ es) (n ∷ ns) zero le lt = refl
referred_at (e ∷ es) (n ∷ ns) (suc i) le lt = referred_at es ns i (omega (arith, le)) (omega (arith, lt))

pub beyond_referred : (es ns : List Entry) (i : ℕ) → length es ≤ length ns → length es ≤ i → entry_at (with_references es ns) i ≡ entry_at ns i
beyond_referred [] ns i le low = refl
beyond_referred (e ∷ es) [] i le low = absurd (omega (arith, le))
beyond_referred (e ∷ es) (n ∷ ns) zero le low = absurd (omega (arith, low))
beyond_referred (e ∷ es) (n ∷ ns) (suc i) le low = beyond_referred es ns i (omega (arith, le)) (omega (arith, low))

-- which they have anyway
same_references : (es ns : List Entry) → length es ≤ length ns → ((i : ℕ) → i < length es → (entry_at es i).reference ≡ (entry_at ns i).reference) → with_references es ns ≡ ns
same_references [] ns le same = refl
same_references (e ∷ es) [] le same = absurd (omega (arith, le))
same_references (e ∷ es) (n ∷ ns) le same =
    ap (λ (r : ℕ). record n { reference = r } ∷ with_references es ns) (same 0 (omega arith))
    ∙ ap (λ xs. n ∷ xs) (same_references es ns (omega (arith, le)) (λ i lt. same (suc i) (omega (arith, lt))))

-- all that stand at the opening are idle
abbrev Idle : Entry → Type 0
Idle e = was_never_live e.standing ≡ true

opening_idle : (k : ℕ) (rows : List Row) (assigned : List (Option ℕ)) → AllByRecursion Idle (entries_from k rows assigned)
opening_idle k [] assigned = tt
opening_idle k (b ∷ bs) [] = (refl, opening_idle (k + 1) bs [])
opening_idle k (b ∷ bs) (None ∷ as') = (refl, opening_idle (k + 1) bs as')
opening_idle k (b ∷ bs) (Some c ∷ as') = (refl, opening_idle (k + 1) bs as')

idle_past : (es ns : List Entry) → length es ≤ length ns → AllByRecursion Idle es → with_past es ns ≡ ns
idle_past [] ns le h = refl
idle_past (e ∷ es) [] le h = absurd (omega (arith, le))
idle_past (e ∷ es) (n ∷ ns) le h = ap (λ x. x ∷ with_past es ns) (idle_kept e n h.0) ∙ ap (λ xs. n ∷ xs) (idle_past es ns (omega (arith, le)) h.1)

-- ---- one booking

pub come_of : (t k : ℕ) (b : Row) (a : Option ℕ) → IsAhead t b a → b.start < b.end → IsToCome (t + 1) (entry_of k b a)
come_of t k b None ahead order = record { order = order; rests = tt }
come_of t k b (Some c) ahead order = record { order = order; rests = (let q : t < b.start = ahead refl in omega (arith, q)) }

-- with the reference of another
come_referred : (m : ℕ) (e n : Entry) → IsToCome m n → IsToCome m (referred e n)
come_referred m e n h = record { order = h.order; rests = h.rests }

pub shared_of : (t k : ℕ) (e : Entry) (b : Row) (a : Option ℕ) → b.start < b.end → AgreesAt t e b a → IsShared (t + 1) e (referred e (entry_of k b a))
shared_of t k e b None order h = elim h [
  | inl idle ↦ inl (idle.0, come_referred (t + 1) e (entry_of k b None) (come_of t k b None idle.1 order))
  | inr same ↦ absurd (none≢some e.channel same.channel)
]
shared_of t k e b (Some c) order h = elim h [
  | inl idle ↦ inl (idle.0, come_referred (t + 1) e (entry_of k b (Some c)) (come_of t k b (Some c) idle.1 order))
  | inr same ↦ inr (record {
    reference = refl;
    start = same.start;
    end = elim same.end [ inl q ↦ inl q | inr p ↦ inr (omega (arith, p.0), omega (arith, p.1)) ];
    number = same.number;
    inward = same.inward;
    channel = some_is c e.channel same.channel;
    waits = refl;
    accepted = same.accepted;
  })
]

-- ---- the law

-- of both plans, where the second agrees with the day of the first
module _ (rows : List Row) (assigned : List (Option ℕ)) (rows' : List Row) (assigned' : List (Option ℕ)) (events : List LiveEvent) (bookings : AreBookings rows) (bookings' : AreBookings rows') where
  abbrev pub now : Day
  now = live_day_after events (opening rows assigned)

  abbrev old : List Entry
  old = entries_from 1 rows assigned

  abbrev pub new : List Entry
  new = entries_from 1 rows' assigned'

  -- references are the rows 1, 2, .. to the end
  reference_now : (i : ℕ) → i < length now.entries → (entry_at now.entries i).reference ≡ i + 1
  reference_now i lt =
      let inside : i < length rows = omega (arith, run_size events (opening rows assigned), lt, opening_size 1 rows assigned) in
      references_stay events (opening rows assigned) i
      ∙ ap (λ (e : Entry). e.reference) (opening_at 1 (i + 1) rows assigned i (let q : 1 + i ≡ i + 1 = omega arith in q) inside)
      ∙ reference_of_entry (i + 1) (row_at rows i) (slice_index_or assigned i None)

  new_at : (i : ℕ) → i < length rows' → entry_at new i ≡ entry_of (i + 1) (row_at rows' i) (slice_index_or assigned' i None)
  new_at i lt = opening_at 1 (i + 1) rows' assigned' i (let q : 1 + i ≡ i + 1 = omega arith in q) lt

  module _ (x : AgreesWith now rows' assigned') where
    fewer : length now.entries ≤ length new
    fewer = let le : length now.entries ≤ length rows' = x.longer in omega (arith, le, opening_size 1 rows' assigned')

    -- so those of the other plan are the same
    with_now : with_references now.entries new ≡ new
    with_now = same_references now.entries new fewer (λ i lt.
        let lt' : i < length rows' = omega (arith, lt, x.longer) in
        reference_now i lt ∙ sym (ap (λ (e : Entry). e.reference) (new_at i lt') ∙ reference_of_entry (i + 1) (row_at rows' i) (slice_index_or assigned' i None)))

    pub shared_now : AreShared (now.moment + 1) now.entries new
    shared_now = shared_from (now.moment + 1) now.entries new fewer
        (λ i lt.
        let lt' : i < length rows' = omega (arith, lt, x.longer) in
        subst (IsShared (now.moment + 1) (entry_at now.entries i))
        (ap (referred (entry_at now.entries i)) (sym (new_at i lt')) ∙ sym (referred_at now.entries new i fewer lt) ∙ ap (λ (es : List Entry). entry_at es i) with_now)
        (shared_of now.moment (i + 1) (entry_at now.entries i) (row_at rows' i) (slice_index_or assigned' i None) (bookings'.each i lt').in_order (x.each i lt)))
        (λ i low inside.
        let lt' : i < length rows' = omega (arith, inside, opening_size 1 rows' assigned') in
        subst (IsToCome (now.moment + 1)) (sym (new_at i lt')) (come_of now.moment (i + 1) (row_at rows' i) (slice_index_or assigned' i None) (x.later i low lt') (bookings'.each i lt').in_order))

    there : GoesThere (now.moment + 1) new events (opening rows assigned)
    there = run_onto (now.moment + 1) events (opening rows assigned) new shared_now (omega arith)

    pub opening_onto : onto new (opening rows assigned) ≡ opening rows' assigned'
    opening_onto = ap (λ es. day_of 0 0 es no_channel) (idle_past old new (few_shared (now.moment + 1) old new there.shared) (opening_idle 1 rows assigned))

    pub changed_day : live_day_after events (opening rows' assigned') ≡ changed rows' assigned' now
    changed_day = ap (live_day_after events) (sym opening_onto) ∙ there.day ∙ ap (λ (es : List Entry). record now { entries = with_past now.entries es }) (sym with_now)

    pub changed_said : said_at_each events (opening rows' assigned') ≡ said_at_each events (opening rows assigned)
    changed_said = ap (said_at_each events) (sym opening_onto) ∙ there.said
