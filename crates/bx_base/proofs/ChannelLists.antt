-- One more number in a list of channels.
use Rattle.std.proofs.Common.{◌≡◌, ◌≢◌, ℕ, ◌<◌, Bool, true, List, [], ◌∷◌, ◌++◌, length, sym, ◌∙◌, subst, arith, inl, inr}
use Rattle.std.specs.List.{Contains}
use Rattle.std.proofs.lemmas.Bool.{cases_lt, cases_eq}
use Rattle.std.proofs.lemmas.List.{get_or_append_left, get_or_push, length_push}
use Rattle.std.proofs.lemmas.List.Elements.{All-push, Contains-append_left, Contains-get_or, Contains-push, Contains-push_cases}
use Rattle.bx_channels.specs.ChannelNumbers.{IsChannel}
use Rattle.bx_base.specs.Channels.{AreChannels, HasJust, has_channel}

pub AreChannels-push : (prefix : List ℕ) (n : ℕ) → AreChannels prefix → IsChannel n → (Contains prefix n → ⊥) → AreChannels (prefix ++ n ∷ [])
AreChannels-push prefix n h channel new =
    record {
      each = All-push IsChannel prefix n h.each channel;
      once = λ i j a b.
          let size = length_push prefix n in
          let within : i < length prefix = omega (arith, size) in
          let first = get_or_append_left prefix (n ∷ []) 0 i within in
          elim (cases_lt j (length prefix)) [
            | inl c ↦ (λ e. h.once i j a c (sym first ∙ e ∙ get_or_append_left prefix (n ∷ []) 0 j c))
            | inr c ↦ (λ e. new (subst (Contains prefix) (sym first ∙ e ∙ get_or_push prefix n 0 j (omega (arith, size))) (Contains-get_or prefix i 0 within)))
          ];
    }

-- a set with the number too has just the numbers so far and that one
pub HasJust-push : (set added : List Bool) (prefix : List ℕ) (n : ℕ) → HasJust set prefix → has_channel added n ≡ true → ((k : ℕ) → k ≢ n → has_channel added k ≡ has_channel set k) → HasJust added (prefix ++ n ∷ [])
HasJust-push set added prefix n h here others k = (
  λ is. elim (cases_eq k n) [
    | inl e ↦ subst (Contains (prefix ++ n ∷ [])) (sym e) (Contains-push prefix n)
    | inr e ↦ Contains-append_left prefix (n ∷ []) k ((h k).0 (sym (others k e) ∙ is))
  ],
  λ is. elim (cases_eq k n) [
    | inl e ↦ subst (λ m. has_channel added m ≡ true) (sym e) here
    | inr e ↦ elim (Contains-push_cases prefix n k is) [ inl c ↦ others k e ∙ (h k).1 c | inr c ↦ absurd (e (sym c)) ]
  ],
)
