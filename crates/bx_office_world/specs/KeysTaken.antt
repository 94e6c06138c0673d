-- Private: what becomes of the keys under which something is asked for, and of what is told under them.
use Rattle.std.specs.Prelude.{◌≡◌, ℕ, List, Option, Some, None}
use Rattle.bx_market.specs.declared.market.Answer.{Answer}
use Rattle.bx_market.specs.declared.market.Batch.{Batch}
use Rattle.bx_market.specs.declared.market.Request.{Request}
use Rattle.bx_office_world.specs.KnownKeys.{KnowsKey}
use Rattle.bx_office_world.specs.Keying.{IsKeyPut, IsKeyNew, request_tag}
use Rattle.bx_office_world.specs.declared.ledger.Told.{Told}
use Rattle.bx_office_world.specs.declared.ledger.Told.TheVariants as told
use Rattle.bx_office_world.specs.declared.serving.Pending.{Pending}
use Rattle.bx_office_world.specs.declared.serving.Selling.{Selling}

abbrev pub KeepsKeys : List (List ℕ) → List (List ℕ) → Type 0
KeepsKeys old new = (key : List ℕ) → KnowsKey old key → KnowsKey new key

-- what is asked for next is under a key under which nothing was asked for before, and which is put down; or under none
abbrev pub IsKeyTaken : List (List ℕ) → Option (Pending × Request) → List (List ℕ) → Type 0
IsKeyTaken old None new = new ≡ old
IsKeyTaken old (Some next) new = IsKeyNew old (request_tag next.1) × IsKeyPut old (request_tag next.1) new

-- what is asked for next is under a key under which nothing was asked for before, and which is put down; or under none
abbrev pub IsBatchKeyTaken : List (List ℕ) → Option (Selling × Batch) → List (List ℕ) → Type 0
IsBatchKeyTaken old None new = new ≡ old
IsBatchKeyTaken old (Some next) new = IsKeyNew old next.1.tag × IsKeyPut old next.1.tag new

-- these answers are kept, or memory ran out
abbrev pub IsKeptTold : List Answer → Told → Type 0
IsKeptTold answers (told.Answers kept) = kept.items ≡ answers
IsKeptTold answers (told.Sold count) = Unit {0}
