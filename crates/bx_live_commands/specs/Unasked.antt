-- A run of a day without an office: nobody asks for anything.
use Rattle.std.specs.Prelude.{◌≡◌, List, [], ◌∷◌, Option, None}
use Rattle.bx_day.specs.declared.outcome.GivenUp.{GivenUp}
use Rattle.bx_live.specs.Acts.{Act}
use Rattle.bx_market.specs.Deals.{Deal, Ran, Asked, Answered, ToldOfChange, Lost, Moved, acts_of}
use Rattle.bx_office_world.specs.GivingUp.{NotesGivenUp}

-- each time that it was asked, nothing was wanted
abbrev pub AskNothing : List Deal → Type 0
AskNothing [] = Unit {0}
AskNothing (Ran act ∷ deals) = AskNothing deals
AskNothing (Asked shown request ∷ deals) = (request ≡ None) × AskNothing deals
AskNothing (Answered answers ∷ deals) = AskNothing deals
AskNothing (ToldOfChange answer ∷ deals) = AskNothing deals
AskNothing (Lost shown ∷ deals) = AskNothing deals
AskNothing (Moved now whole ∷ deals) = AskNothing deals

module _ {W : Type 0} (did : W → List Act → W → Type 0) where
  -- between two states of a world without customers lie the acts of the world inside, nobody asks for anything, and what is noted is just
  -- what was logged
  pub record IsUnattended (s t : W) (before after : List (Option GivenUp)) (deals : List Deal) : Type 0 where
    pub acts : did s (acts_of deals) t
    pub unasked : AskNothing deals
    pub noted : NotesGivenUp (acts_of deals) before after
