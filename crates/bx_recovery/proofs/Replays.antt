-- Events one after another.
use Rattle.std.proofs.Common.{◌≡◌, ℕ, ◌+◌, ◌<◌, List, [], ◌∷◌, ◌++◌, length, take, get_or, refl, sym, ap, ◌∙◌, append_assoc}
use Rattle.std.proofs.lemmas.List.{append-nil, take_more}
use Rattle.bx_q931.specs.Outgoing.{Outgoing, out_octets}
use Rattle.bx_day.specs.Day.{Day}
use Rattle.bx_events.specs.Events.{Event, Tick}
use Rattle.bx_day.specs.Run.{happens, day_after, sent_over}
use Rattle.bx_calls.specs.Sending.{spelled}

day_more : (xs : List Event) (e : Event) (d : Day) → day_after (xs ++ e ∷ []) d ≡ (happens (day_after xs d) e).day
day_more [] e d = refl
day_more (x ∷ xs) e d = day_more xs e (happens d x).day

sent_more : (xs : List Event) (e : Event) (d : Day) → sent_over (xs ++ e ∷ []) d ≡ sent_over xs d ++ (happens (day_after xs d) e).sent
sent_more [] e d = append-nil (happens d e).sent
sent_more (x ∷ xs) e d = ap (λ (r : List Outgoing). (happens d x).sent ++ r) (sent_more xs e (happens d x).day) ∙ sym (append_assoc (happens d x).sent (sent_over xs (happens d x).day) (happens (day_after xs (happens d x).day) e).sent)

spelled_more : (xs ys : List Outgoing) → spelled (xs ++ ys) ≡ spelled xs ++ spelled ys
spelled_more [] ys = refl
spelled_more (x ∷ xs) ys = ap (λ r. record { items = out_octets x } ∷ r) (spelled_more xs ys)

module _ (events : List Event) (i : ℕ) (e : Event) (d : Day) (lt : i < length events) (at : get_or events i Tick ≡ e) where
  one_more : take (i + 1) events ≡ take i events ++ e ∷ []
  one_more = take_more events i Tick lt ∙ ap (λ (x : Event). take i events ++ x ∷ []) at

  pub next_day : (now next : Day) → now ≡ day_after (take i events) d → next ≡ (happens now e).day → next ≡ day_after (take (i + 1) events) d
  next_day now next so_far step = step ∙ ap (λ (x : Day). (happens x e).day) so_far ∙ sym (ap (λ (xs : List Event). day_after xs d) one_more ∙ day_more (take i events) e d)

  pub next_sent : (now : Day) (before after : _) → now ≡ day_after (take i events) d → before ≡ spelled (sent_over (take i events) d) → after ≡ before ++ spelled (happens now e).sent → after ≡ spelled (sent_over (take (i + 1) events) d)
  next_sent now before after so_far sent step =
      step ∙ ap (λ (xs : _). xs ++ spelled (happens now e).sent) sent ∙ ap (λ (x : Day). spelled (sent_over (take i events) d) ++ spelled (happens x e).sent) so_far
      ∙ sym (ap (λ (xs : List Event). spelled (sent_over xs d)) one_more ∙ ap spelled (sent_more (take i events) e d) ∙ spelled_more (sent_over (take i events) d) (happens (day_after (take i events) d) e).sent)
