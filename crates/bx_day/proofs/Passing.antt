-- What a pass over the bookings says, and the day that it leaves.
use Rattle.std.proofs.Common.{◌≡◌, ℕ, zero, suc, ◌+◌, ◌≤◌, ◌<◌, ◌&&◌, ◌||◌, not, Bool, true, false, List, [], ◌∷◌, ◌++◌, map, length, Option, None, arith, refl, sym, subst, ap, ap₂, ◌∙◌, slice_index_or, nat_le, if◌then◌else◌, flat_map, length-append, drop, take, take_all, append-nil}
use Rattle.std.specs.List.{AllByRecursion}
use Rattle.std.proofs.lemmas.Bool.{false≢true, true≢false, leb-true}
use Rattle.std.proofs.lemmas.List.{drop_all}
use Rattle.bx_channels.specs.ChannelNumbers.{IsChannel}
use Rattle.bx_q931.specs.Outgoing.{Outgoing}
use Rattle.bx_calls.specs.Shared.{cons_some}
use Rattle.bx_channels.specs.Marks.{is_marked}
use Rattle.bx_day.specs.Day.{is_back, Day, is_held, is_free, every_channel}
use Rattle.bx_day.specs.Ticks.{second_at, second_by, second_in, after_in, said_on, tick, ticked, passed_in}
use Rattle.bx_day.specs.Moves.{stays}
use Rattle.bx_day.specs.Invariant.{is_refused}
use Rattle.bx_day.specs.Reading.{Seated, IsExchange}
use Rattle.bx_day.specs.Passing.{SaysOnEach, AreBlocked}
use Rattle.bx_calls.specs.Sending.{in_order}
use Rattle.bx_day.specs.declared.entry.Moved.{Moved}
use Rattle.bx_day.specs.declared.entry.Link.{Link}
use Rattle.bx_day.specs.declared.entry.Link.TheVariants.{Up, Down}
use Rattle.bx_day.specs.declared.entry.Entry.{Entry}
use Rattle.bx_day.specs.declared.entry.Standing.{Standing}
use Rattle.bx_day.specs.declared.entry.Standing.TheVariants.{Refused}
use Rattle.bx_day.proofs.Tick.{unlinked, in_refused, passed_fits}
use Rattle.bx_day.proofs.Once.{decide, off_channel, says_once}
use Rattle.bx_day.proofs.Law.{at_map_in}

pub and_false : (b : Bool) → (b && false) ≡ false
and_false true = refl
and_false false = refl

pub or_true : (b : Bool) → (b || true) ≡ true
or_true true = refl
or_true false = refl

not_or : (a b : Bool) → not (a || b) ≡ (not a && not b)
not_or true b = refl
not_or false b = refl

pub free_is : (d : Day) (blocked : List Bool) (c k : ℕ) → c ≡ k → AreBlocked d blocked → not (is_marked blocked c) ≡ is_free d k
free_is d blocked c k on set = ap not (set c) ∙ not_or (is_held d.entries c) (is_marked d.maintenance c) ∙ ap (is_free d) on

-- what a booking does, where its channel is known to be blocked or not
pub moved_is : (link : Link) (d : Day) (e e' : Entry) (m : Moved) (blocked : List Bool) (c : ℕ) → e ≡ e' → c ≡ e.channel → AreBlocked d blocked → m ≡ second_by link e (d.moment + 1) (is_back d) (not (is_marked blocked c)) e.standing → m ≡ second_in link d e'
moved_is link d e e' m blocked c same on set is =
    is ∙ ap (λ f. second_by link e (d.moment + 1) (is_back d) f e.standing) (free_is d blocked c e.channel on set) ∙ ap (second_in link d) same

-- a refused booking stays, says nothing and breaks nothing
pub refused_stays : (t : ℕ) (back free : Bool) (e : Entry) (s : Standing) → is_refused s ≡ true → second_at e t back free s ≡ stays s
refused_stays t back free e Refused h = refl
refused_stays t back free e s h = absurd (false≢true h)

pub refused_stays_in : (link : Link) (t : ℕ) (back free : Bool) (e : Entry) (s : Standing) → is_refused s ≡ true → second_by link e t back free s ≡ stays s
refused_stays_in Up t back free e s h = refused_stays t back free e s h
refused_stays_in (Down rules) t back free e s h = unlinked rules e t s (λ m. m ≡ stays s) (λ c a p. absurd (true≢false (sym h ∙ ap is_refused p))) (refused_stays t false false e s h)

pub no_channel : (e : Entry) → Seated e → (IsChannel e.channel → ⊥) → is_refused e.standing ≡ true
no_channel e seat never = decide (is_refused e.standing) (λ yes. yes) (λ accepted. absurd (never (seat.channel accepted)))

-- ---- all that is said is at most a message for each channel, in their order

abbrev numbers : ℕ → ℕ → List ℕ
numbers zero n = []
numbers (suc k) n = n ∷ numbers k (n + 1)

somes_on : (f : ℕ → List Outgoing) (n : ℕ) (said : List (Option Outgoing)) → ((c : ℕ) → c < length said → cons_some (slice_index_or said c None) [] ≡ f (n + c)) → in_order said ≡ flat_map f (numbers (length said) n)
somes_on f n [] h = refl
somes_on f n (o ∷ os) h = ap₂ (λ x xs. x ++ xs) (h 0 (omega arith) ∙ ap f (let q : n + 0 ≡ n = omega arith in q)) (somes_on f (n + 1) os (λ c lt. h (suc c) (omega (arith, lt)) ∙ ap f (let q : n + suc c ≡ (n + 1) + c = omega arith in q)))

without : (f : ℕ → List Outgoing) → f 0 ≡ [] → f 16 ≡ [] → flat_map f (numbers 32 0) ≡ flat_map f every_channel
without f none signalling = rw none (rw signalling refl)

pub all_somes : (d : Day) (said : List (Option Outgoing)) → length said ≡ 32 → AllByRecursion Seated d.entries → SaysOnEach Up d said → in_order said ≡ flat_map (λ c. said_on d c d.entries) every_channel
all_somes d said size seats slots =
    let f : ℕ → List Outgoing = λ c. said_on d c d.entries in
    somes_on f 0 said (λ c lt. slots c ∙ ap f (let q : c ≡ 0 + c = omega arith in q)) ∙ ap (λ n. flat_map f (numbers n 0)) size ∙ without f (off_channel Up d 0 d.entries seats (λ i. absurd (omega (arith, i.0)))) (off_channel Up d 16 d.entries seats (λ i. i.2 refl))

few_each : (f : ℕ → List Outgoing) → ((c : ℕ) → length (f c) ≤ 1) → (cs : List ℕ) → length (flat_map f cs) ≤ length cs
few_each f one [] = omega arith
few_each f one (c ∷ cs) = omega (arith, length-append (f c) (flat_map f cs), one c, few_each f one cs)

pub few_said : (d : Day) → ((c : ℕ) → length (said_on d c d.entries) ≤ 1) → length (flat_map (λ c. said_on d c d.entries) every_channel) ≤ 30
few_said d one = few_each (λ c. said_on d c d.entries) one every_channel

-- ---- the whole tick

pub sent_is : (d : Day) (said : List (Option Outgoing)) → IsExchange d → length said ≡ 32 → SaysOnEach Up d said → in_order said ≡ (ticked d).sent
sent_is d said h size each = all_somes d said size h.seated each

pub few_somes : (d : Day) (said : List (Option Outgoing)) → IsExchange d → length said ≡ 32 → SaysOnEach Up d said → length (in_order said) ≤ 30
few_somes d said h size each = subst (λ (os : List Outgoing). length os ≤ 30) (sym (sent_is d said h size each)) (few_said d (says_once d h))

all_seated : (link : Link) (d : Day) (es : List Entry) → AllByRecursion Seated es → AllByRecursion Seated (map (after_in link d) es)
all_seated link d [] h = tt
all_seated link d (e ∷ es) h = (record { row = h.0.row; reference = h.0.reference; channel = λ accepted. h.0.channel (in_refused link (d.moment + 1) (is_back d) (is_free d e.channel) e e.standing accepted) }, all_seated link d es h.1)

pub map_size : (link : Link) (d : Day) (es : List Entry) → length (map (after_in link d) es) ≡ length es
map_size link d [] = refl
map_size link d (e ∷ es) = ap suc (map_size link d es)

-- a second leaves a day that an exchange may be in
pub passed_stays : (link : Link) (d : Day) → d.moment < 300000 → IsExchange d → IsExchange (passed_in link d).day
passed_stays link d early h = record {
  moment = omega (arith, early);
  rows = omega (arith, h.rows, map_size link d d.entries);
  day = passed_fits link d h.day;
  seated = all_seated link d d.entries h.seated;
  numbered = λ i lt. ap (λ (e : Entry). e.row) (at_map_in link d d.entries i) ∙ h.numbered i (omega (arith, lt, map_size link d d.entries));
}

pub tick_is : (d : Day) → d.moment < 300000 → tick d ≡ ticked d
tick_is d early = decide (nat_le 300000 d.moment) (λ late. absurd (let le : 300000 ≤ d.moment = leb-true 300000 d.moment late in omega (arith, le, early))) (λ less. ap (λ b. if b then (record { day = d; sent = [] }) else ticked d) less)

-- a slice that was written whole
pub refilled : {X : Type 0} (n : ℕ) (xs ys : List X) → length xs ≡ length ys → n ≡ length ys → take n (xs ++ drop (length xs) ys) ≡ xs
refilled n xs ys same all = ap (λ zs. take n (xs ++ zs)) (drop_all (length xs) ys (omega (arith, same))) ∙ ap (take n) (append-nil xs) ∙ take_all n xs (omega (arith, same, all))
