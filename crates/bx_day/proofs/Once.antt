-- In one second at most one booking of a channel says something.
use Rattle.std.proofs.Common.{◌≡◌, ℕ, zero, suc, ◌+◌, ◌≤◌, ◌<◌, ◌==◌, not, Bool, true, false, List, [], ◌∷◌, length, Option, Some, None, arith, refl, sym, subst, ap, ◌∙◌, nat_le, is_some}
use Rattle.std.specs.List.{AllByRecursion}
use Rattle.std.proofs.lemmas.Bool.{false≢true, true≢false, eqb-true}
use Rattle.bx_channels.specs.ChannelNumbers.{IsChannel}
use Rattle.bx_q931.specs.Outgoing.{Outgoing}
use Rattle.bx_calls.specs.Shared.{cons_some}
use Rattle.bx_day.specs.Day.{is_back, Day, is_live, is_held, is_free, entry_at}
use Rattle.bx_day.specs.Ticks.{second_at, second_by, second_in, waits, said_in, SaysOnce}
use Rattle.bx_day.specs.Invariant.{Apart, Pairs, is_refused}
use Rattle.bx_day.specs.Reading.{Seated, IsExchange}
use Rattle.bx_day.specs.declared.entry.Moved.{Moved}
use Rattle.bx_day.specs.declared.entry.Link.{Link}
use Rattle.bx_day.specs.declared.entry.Link.TheVariants.{Up, Down}
use Rattle.bx_day.specs.declared.entry.Entry.{Entry}
use Rattle.bx_day.specs.declared.entry.Standing.{Standing}
use Rattle.bx_day.specs.declared.entry.Standing.TheVariants.{Refused, Unoffered, OnCall}
use Rattle.bx_day.proofs.Tick.{by_cases, unlinked, never_offered, with_standing, offers, offers_parts, WasLive, Before, Offered, Holding, live_apart, all_hold}

pub none≢some : {X : Type 0} (x : X) → None ≡ Some x → ⊥
none≢some x e = false≢true (ap is_some e)

pub decide : {P : Type 0} (b : Bool) → (b ≡ true → P) → (b ≡ false → P) → P
decide true f g = f refl
decide false f g = g refl

pub not_back : (a r : Bool) → a ≡ not r → r ≡ not a
not_back true true h = absurd (true≢false h)
not_back false false h = absurd (false≢true h)
not_back a r h = refl

-- ---- what each entry has, an entry has

pub each_at : (P : Entry → Type 0) (es : List Entry) (n : ℕ) → n < length es → AllByRecursion P es → P (entry_at es n)
each_at P [] n lt h = absurd (omega arith)
each_at P (e ∷ es) zero lt h = h.0
each_at P (e ∷ es) (suc n) lt h = each_at P es n (omega arith) h.1

-- ---- in one second at most one booking of a channel says something

-- a booking that says something at a tick was live before, or is offered at it
waits_says : (t : ℕ) (back free : Bool) (e : Entry) (o : Outgoing) → (waits e t back free).said ≡ Some o → WasLive t free (with_standing e Unoffered)
waits_says t back free e o =
    by_cases (offers e t free) _ _ (λ (m : Moved). m.said ≡ Some o → WasLive t free (with_standing e Unoffered))
    (λ offered says. let p = offers_parts e t free offered in Offered refl p.0 p.2)
    (λ _. by_cases (nat_le e.booking.end t) _ _ (λ (m : Moved). m.said ≡ Some o → WasLive t free (with_standing e Unoffered))
    (λ ended says. absurd (none≢some o says))
    (λ going says. absurd (none≢some o says)))

pub says : (t : ℕ) (back free : Bool) (e : Entry) (s : Standing) (o : Outgoing) → (second_at e t back free s).said ≡ Some o → WasLive t free (with_standing e s)
says t back free e Unoffered o h = waits_says t back free e o h
says t back free e (OnCall c a) o h = Before refl
says t back free e s o h = absurd (none≢some o h)

pub in_says : (link : Link) (t : ℕ) (back free : Bool) (e : Entry) (s : Standing) (o : Outgoing) → (second_by link e t back free s).said ≡ Some o → WasLive t free (with_standing e s)
in_says Up t back free e s o h = says t back free e s o h
in_says (Down rules) t back free e s o h = unlinked rules e t s (λ m. m.said ≡ Some o → WasLive t free (with_standing e s)) (λ c a p _. Before (ap is_live p)) (λ now. never_offered t free (with_standing e s) (says t false false e s o now)) h

pub was_live : (link : Link) (d : Day) (e : Entry) (o : Outgoing) → (second_in link d e).said ≡ Some o → WasLive (d.moment + 1) (is_free d e.channel) e
was_live link d e o h = in_says link (d.moment + 1) (is_back d) (is_free d e.channel) e e.standing o h

-- nothing is said where the first has nothing to say and the rest has not
quiet : (o : Option Outgoing) (os : List Outgoing) → ((x : Outgoing) → o ≡ Some x → ⊥) → os ≡ [] → cons_some o os ≡ []
quiet None os never h = h
quiet (Some x) os never h = absurd (never x refl)

quiet_after : (link : Link) (d : Day) (e : Entry) (c : ℕ) (fs : List Entry) → e.channel ≡ c → WasLive (d.moment + 1) (is_free d e.channel) e → Holding (is_held d.entries) e → AllByRecursion (Holding (is_held d.entries)) fs → AllByRecursion (Apart e) fs → said_in link d c fs ≡ []
quiet_after link d e c [] on was he hs ps = refl
quiet_after link d e c (f ∷ fs) on was he hs ps =
    let rest = quiet_after link d e c fs on was he hs.1 ps.1 in
    by_cases (f.channel == c) _ _ (λ (os : List Outgoing). os ≡ [])
    (λ same. quiet (second_in link d f).said (said_in link d c fs) (λ x h. live_apart d e f ps.0 he hs.0 was (was_live link d f x h) (on ∙ sym (eqb-true f.channel c same))) rest)
    (λ _. rest)

at_most_one : (o : Option Outgoing) (os : List Outgoing) → length os ≤ 1 → ((x : Outgoing) → o ≡ Some x → os ≡ []) → length (cons_some o os) ≤ 1
at_most_one None os le h = le
at_most_one (Some x) os le h = rw (h x refl) (omega arith)

pub once : (link : Link) (d : Day) (c : ℕ) (es : List Entry) → AllByRecursion (Holding (is_held d.entries)) es → Pairs Apart es → length (said_in link d c es) ≤ 1
once link d c [] hs ps = omega arith
once link d c (e ∷ es) hs ps =
    by_cases (e.channel == c) _ _ (λ (os : List Outgoing). length os ≤ 1)
    (λ on. at_most_one (second_in link d e).said (said_in link d c es) (once link d c es hs.1 ps.1) (λ x h. quiet_after link d e c es (eqb-true e.channel c on) (was_live link d e x h) hs.0 hs.1 ps.0))
    (λ _. once link d c es hs.1 ps.1)

-- nothing is said on what is no channel
live_refused : (s : Standing) → is_live s ≡ true → is_refused s ≡ false
live_refused Refused h = absurd (false≢true h)
live_refused s h = refl

spoken_refused : (t : ℕ) (free : Bool) (e : Entry) → WasLive t free e → is_refused e.standing ≡ false
spoken_refused t free e (Before live) = live_refused e.standing live
spoken_refused t free e (Offered r runs f) = r

pub off_channel : (link : Link) (d : Day) (c : ℕ) (es : List Entry) → AllByRecursion Seated es → (IsChannel c → ⊥) → said_in link d c es ≡ []
off_channel link d c [] seats never = refl
off_channel link d c (e ∷ es) seats never =
    let rest = off_channel link d c es seats.1 never in
    by_cases (e.channel == c) _ _ (λ (os : List Outgoing). os ≡ [])
    (λ on. quiet (second_in link d e).said (said_in link d c es) (λ x h. never (subst IsChannel (eqb-true e.channel c on) (seats.0.channel (spoken_refused (d.moment + 1) (is_free d e.channel) e (was_live link d e x h))))) rest)
    (λ _. rest)

pub says_once_in : (link : Link) (d : Day) → IsExchange d → (c : ℕ) → length (said_in link d c d.entries) ≤ 1
says_once_in link d h c = once link d c d.entries (all_hold d.entries) h.day.pairs

pub says_once : (d : Day) → IsExchange d → SaysOnce d
says_once d h c = says_once_in Up d h c
