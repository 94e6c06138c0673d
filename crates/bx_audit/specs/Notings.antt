-- Private: outages while they are noted.
use Rattle.std.specs.Prelude.{◌≡◌, ℕ, true, List, [], ◌∷◌}
use Rattle.bx_events.specs.Events.{Tick, Receive, LiveEvent, OnLink, WithoutLink, Amended, HeardByRulesTwo}
use Rattle.bx_audit.specs.Noted.{next_moment, outages_from, noted_at}
use Rattle.bx_audit.specs.declared.noting.Noting.{Noting}

-- the moment to which a day has come that was at this one
abbrev pub moment_after : ℕ → List LiveEvent → ℕ
moment_after m [] = m
moment_after m (OnLink Tick ∷ events) = moment_after (next_moment m) events
moment_after m (OnLink (Receive octets) ∷ events) = moment_after m events
moment_after m (WithoutLink rules ∷ events) = moment_after (next_moment m) events
moment_after m (Amended kind line ∷ events) = moment_after m events
moment_after m (HeardByRulesTwo octets ∷ events) = moment_after m events

-- none yet, at moment 0
pub record IsFresh (x : Noting) : Type 0 where
  pub outages : x.outages.spans.items ≡ []
  pub moment : x.moment ≡ 0

-- the seconds without a link of these events were noted, where all were
pub record WasNoted (old : Noting) (events : List LiveEvent) (new : Noting) : Type 0 where
  pub whole : old.is_whole ≡ true
  pub outages : new.outages.spans.items ≡ outages_from old.moment events old.outages.spans.items
  pub moment : new.moment ≡ moment_after old.moment events

abbrev pub IsNoted : Noting → List LiveEvent → Noting → Type 0
IsNoted old events new = new.is_whole ≡ true → WasNoted old events new

-- the second that begins was noted as one without a link, where all were
abbrev pub IsSecondNoted : Noting → Noting → Type 0
IsSecondNoted old new =
    new.is_whole ≡ true →
    (old.is_whole ≡ true) × (new.outages.spans.items ≡ noted_at old.moment old.outages.spans.items)
