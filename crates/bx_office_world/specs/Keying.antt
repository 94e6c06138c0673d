-- Under a key one batch is asked for at most, and none where something was asked for under it before.
use Rattle.std.specs.Prelude.{◌≡◌, ◌<◌, ℕ, List, [], ◌∷◌, ◌++◌, length, Option, Some, None}
use Rattle.bx_day.specs.Day.{Day}
use Rattle.bx_sales.specs.declared.tag.Tag.{Tag}
use Rattle.bx_market.specs.Deals.{Deal, Ran, Asked, Answered, ToldOfChange, Lost, Moved}
use Rattle.bx_market.specs.declared.market.Request.{Request}
use Rattle.bx_market.specs.declared.market.Request.TheVariants.{Sell, Cancel, Change}
use Rattle.bx_office_world.specs.KnownKeys.{key_at, KnowsKey}

abbrev pub LacksKey : List (List ℕ) → List ℕ → Type 0
LacksKey keys key = (i : ℕ) → i < length keys → ¬ (key_at keys i ≡ key)

-- a key that is put down is none that was
abbrev pub IsKeyPut : List (List ℕ) → Option Tag → List (List ℕ) → Type 0
IsKeyPut old None new = new ≡ old
IsKeyPut old (Some tag) new = new ≡ old ++ tag.key ∷ []

abbrev pub IsKeyNew : List (List ℕ) → Option Tag → Type 0
IsKeyNew keys None = Unit {0}
IsKeyNew keys (Some tag) = LacksKey keys tag.key

-- the key of what is asked for: a change has none
abbrev pub request_tag : Request → Option Tag
request_tag (Sell batch) = batch.tag
request_tag (Cancel row) = None
request_tag (Change row booking) = None

-- the keys under which something was asked for, before these deals and after them: each batch that is asked for has none of those before it
abbrev pub AskOnce : List Deal → List (List ℕ) → List (List ℕ) → Type 0
AskOnce [] old new = new ≡ old
AskOnce (Asked day (Some request) ∷ deals) old new = (mid : List (List ℕ)) × IsKeyNew old (request_tag request) × IsKeyPut old (request_tag request) mid × AskOnce deals mid new
AskOnce (Asked day None ∷ deals) old new = AskOnce deals old new
AskOnce (Ran act ∷ deals) old new = AskOnce deals old new
AskOnce (Answered answers ∷ deals) old new = AskOnce deals old new
AskOnce (ToldOfChange answer ∷ deals) old new = AskOnce deals old new
AskOnce (Lost day ∷ deals) old new = AskOnce deals old new
AskOnce (Moved day whole ∷ deals) old new = AskOnce deals old new

-- so a batch is under no key that was known, and two batches are not under one
abbrev pub IsSoldOncePerKey : Type 0
IsSoldOncePerKey = (before between : List Deal) (d e : Day) (first second : Request) (tag other : Tag) (after : List Deal) (old new : List (List ℕ)) →
    AskOnce (before ++ Asked d (Some first) ∷ (between ++ Asked e (Some second) ∷ after)) old new →
    request_tag first ≡ Some tag → request_tag second ≡ Some other →
    (¬ KnowsKey old tag.key) × (¬ (tag.key ≡ other.key))
