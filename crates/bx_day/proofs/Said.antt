-- Each message of a tick is said by some booking.
use Rattle.std.proofs.Common.{ℕ, ◌==◌, List, [], ◌∷◌, ◌++◌, Option, Some, None, nat_le}
use Rattle.std.specs.List.{AllByRecursion, flat_map}
use Rattle.bx_q931.specs.Outgoing.{Outgoing}
use Rattle.bx_day.specs.declared.entry.Entry.{Entry}
use Rattle.bx_calls.specs.Shared.{cons_some}
use Rattle.bx_day.specs.Day.{Day, every_channel}
use Rattle.bx_day.specs.Ticks.{tick, said_on, second_in}
use Rattle.bx_calls.specs.Sending.{Sent}
use Rattle.bx_day.proofs.Tick.{by_cases}
use Rattle.bx_day.specs.declared.entry.Link.TheVariants.{Up}

abbrev pub OfSaid : (Outgoing → Type 0) → Option Outgoing → Type 0
OfSaid P None = Unit {0}
OfSaid P (Some o) = P o

all_cons_some : (P : Outgoing → Type 0) (said : Option Outgoing) (os : List Outgoing) → OfSaid P said → AllByRecursion P os → AllByRecursion P (cons_some said os)
all_cons_some P None os h hs = hs
all_cons_some P (Some o) os h hs = (h, hs)

all_append : (P : Outgoing → Type 0) (xs ys : List Outgoing) → AllByRecursion P xs → AllByRecursion P ys → AllByRecursion P (xs ++ ys)
all_append P [] ys h k = k
all_append P (x ∷ xs) ys h k = (h.0, all_append P xs ys h.1 k)

all_on : (P : Outgoing → Type 0) (d : Day) (c : ℕ) (es : List Entry) → AllByRecursion (λ e. OfSaid P (second_in Up d e).said) es → AllByRecursion P (said_on d c es)
all_on P d c [] h = tt
all_on P d c (e ∷ es) h = by_cases (e.channel == c) _ _ (λ (os : List Outgoing). AllByRecursion P os) (λ _. all_cons_some P (second_in Up d e).said (said_on d c es) h.0 (all_on P d c es h.1)) (λ _. all_on P d c es h.1)

pub all_over : (P : Outgoing → Type 0) (d : Day) (cs : List ℕ) → AllByRecursion (λ e. OfSaid P (second_in Up d e).said) d.entries → AllByRecursion P (flat_map (λ c. said_on d c d.entries) cs)
all_over P d [] h = tt
all_over P d (c ∷ cs) h = all_append P (said_on d c d.entries) (flat_map (λ k. said_on d k d.entries) cs) (all_on P d c d.entries h) (all_over P d cs h)

-- what holds of all that bookings say holds of all messages of a tick
pub all_said : (P : Outgoing → Type 0) (d : Day) → AllByRecursion (λ e. OfSaid P (second_in Up d e).said) d.entries → AllByRecursion P (tick d).sent
all_said P d h = by_cases (nat_le 300000 d.moment) _ _ (λ (s : Sent Day). AllByRecursion P s.sent) (λ _. tt) (λ _. all_over P d every_channel h)
