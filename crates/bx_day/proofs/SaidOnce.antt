-- What is said on a channel, and which channels are in maintenance, by single bookings.
use Rattle.std.proofs.Common.{◌≡◌, ℕ, zero, suc, ◌+◌, ◌≤◌, ◌<◌, ◌==◌, ◌||◌, Bool, true, false, List, [], ◌∷◌, length, Option, Some, None, arith, refl, subst, ap, ap₂, ◌∙◌, inl, inr, if◌then◌else◌}
use Rattle.std.specs.List.{list_any}
use Rattle.std.proofs.lemmas.Bool.{true≢false, false≢true, eqb-true, eq-eqb, or_cases}
use Rattle.bx_q931.specs.Outgoing.{Outgoing}
use Rattle.bx_calls.specs.Shared.{cons_some}
use Rattle.bx_channels.specs.Marks.{is_marked}
use Rattle.bx_day.specs.Day.{Day, entry_at}
use Rattle.bx_day.specs.Ticks.{second_in, said_in, breaks_in, maintained_in}
use Rattle.bx_day.specs.declared.entry.Entry.{Entry}
use Rattle.bx_day.proofs.Tick.{by_cases}
use Rattle.bx_day.specs.declared.entry.Link.{Link}

-- ---- what is said on a channel, where one booking of it says something, and where none does

pub no_more : (os : List Outgoing) → length os ≤ 0 → os ≡ []
no_more [] le = refl
no_more (o ∷ os) le = absurd (omega (arith, le))

pub tail_of : (p : Option Outgoing) (os : List Outgoing) → length (cons_some p os) ≤ 1 → length os ≤ 1
tail_of None os le = le
tail_of (Some x) os le = omega (arith, le)

pub after_one : (p : Option Outgoing) (o : Outgoing) (os : List Outgoing) → os ≡ o ∷ [] → length (cons_some p os) ≤ 1 → cons_some p os ≡ o ∷ []
after_one None o os is le = is
after_one (Some x) o os is le = absurd (let one : length os ≡ 1 = ap length is in omega (arith, le, one))

pub said_alone : (link : Link) (d : Day) (c : ℕ) (es : List Entry) (i : ℕ) (o : Outgoing) → i < length es → (entry_at es i).channel ≡ c → (second_in link d (entry_at es i)).said ≡ Some o → length (said_in link d c es) ≤ 1 → said_in link d c es ≡ o ∷ []
said_alone link d c [] i o lt on says le = absurd (omega (arith, lt))
said_alone link d c (e ∷ es) zero o lt on says le =
    let whole : said_in link d c (e ∷ es) ≡ o ∷ said_in link d c es = rw (eq-eqb e.channel c on) (ap (λ p. cons_some p (said_in link d c es)) says) in
    let small : length (o ∷ said_in link d c es) ≤ 1 = subst (λ (os : List Outgoing). length os ≤ 1) whole le in
    whole ∙ ap (λ os. o ∷ os) (no_more (said_in link d c es) (omega (arith, small)))
said_alone link d c (e ∷ es) (suc i) o lt on says le = at (e.channel == c) refl (λ small. said_alone link d c es i o (omega (arith, lt)) on says small)
  where
    at : (b : Bool) → (e.channel == c) ≡ b → (length (said_in link d c es) ≤ 1 → said_in link d c es ≡ o ∷ []) → said_in link d c (e ∷ es) ≡ o ∷ []
    at true h rest =
        let whole : said_in link d c (e ∷ es) ≡ cons_some (second_in link d e).said (said_in link d c es) = ap (λ b. if b then cons_some (second_in link d e).said (said_in link d c es) else said_in link d c es) h in
        let small : length (cons_some (second_in link d e).said (said_in link d c es)) ≤ 1 = subst (λ (os : List Outgoing). length os ≤ 1) whole le in
        whole ∙ after_one (second_in link d e).said o (said_in link d c es) (rest (tail_of (second_in link d e).said (said_in link d c es) small)) small
    at false h rest =
        let whole : said_in link d c (e ∷ es) ≡ said_in link d c es = ap (λ b. if b then cons_some (second_in link d e).said (said_in link d c es) else said_in link d c es) h in
        whole ∙ rest (subst (λ (os : List Outgoing). length os ≤ 1) whole le)

pub none_said : (link : Link) (d : Day) (c : ℕ) (es : List Entry) → ((i : ℕ) → i < length es → (entry_at es i).channel ≡ c → (second_in link d (entry_at es i)).said ≡ None) → said_in link d c es ≡ []
none_said link d c [] h = refl
none_said link d c (e ∷ es) h =
    let rest = none_said link d c es (λ i lt. h (suc i) (omega (arith, lt))) in
    by_cases (e.channel == c) _ _ (λ (os : List Outgoing). os ≡ [])
    (λ on. ap (λ p. cons_some p (said_in link d c es)) (h 0 (omega arith) (eqb-true e.channel c on)) ∙ rest)
    (λ _. rest)

-- ---- the channels in maintenance

pub maintained_size : (link : Link) (d : Day) (k : ℕ) (bs : List Bool) → length (maintained_in link d k bs) ≡ length bs
maintained_size link d k [] = refl
maintained_size link d k (b ∷ bs) = ap suc (maintained_size link d (k + 1) bs)

pub maintained_at : (link : Link) (d : Day) (k c : ℕ) (bs : List Bool) → c < length bs → is_marked (maintained_in link d k bs) c ≡ (is_marked bs c || list_any (breaks_in link d (k + c)) d.entries)
maintained_at link d k c [] lt = absurd (omega (arith, lt))
maintained_at link d k zero (b ∷ bs) lt = ap (λ n. b || list_any (breaks_in link d n) d.entries) (let q : k ≡ k + 0 = omega arith in q)
maintained_at link d k (suc c) (b ∷ bs) lt = maintained_at link d (k + 1) c bs (omega (arith, lt)) ∙ ap (λ n. is_marked bs c || list_any (breaks_in link d n) d.entries) (let q : k + 1 + c ≡ k + suc c = omega arith in q)

pub same_set : (xs ys : List Bool) → length xs ≡ length ys → ((c : ℕ) → c < length xs → is_marked xs c ≡ is_marked ys c) → xs ≡ ys
same_set [] [] size h = refl
same_set (x ∷ xs) (y ∷ ys) size h = ap₂ (λ b bs. b ∷ bs) (h 0 (omega arith)) (same_set xs ys (omega (arith, size)) (λ c lt. h (suc c) (omega (arith, lt))))
same_set xs ys size h = absurd (omega (arith, size))

pub any_there : (p : Entry → Bool) (es : List Entry) → list_any p es ≡ true → (i : ℕ) × (i < length es) × (p (entry_at es i) ≡ true)
any_there p [] h = absurd (false≢true h)
any_there p (e ∷ es) h = elim (or_cases (p e) (list_any p es) h) [
  | inl here ↦ (0, omega arith, here)
  | inr more ↦ (let f = any_there p es more in (suc f.0, omega (arith, f.1), f.2))
]

pub none_there : (p : Entry → Bool) (es : List Entry) (i : ℕ) → list_any p es ≡ false → i < length es → p (entry_at es i) ≡ false
none_there p [] i h lt = absurd (omega (arith, lt))
none_there p (e ∷ es) zero h lt = first (p e) (list_any p es) h
  where
    first : (a b : Bool) → (a || b) ≡ false → a ≡ false
    first true b h = absurd (true≢false h)
    first false b h = refl
none_there p (e ∷ es) (suc i) h lt = none_there p es i (rest (p e) (list_any p es) h) (omega (arith, lt))
  where
    rest : (a b : Bool) → (a || b) ≡ false → b ≡ false
    rest true b h = absurd (true≢false h)
    rest false b h = h
