-- What an office has told at its door in a run, and what it has noted.
use Rattle.std.proofs.Common.{◌≡◌, ◌∙◌, ℕ, List, Option, None, subst}
use Rattle.bx_day.specs.declared.outcome.GivenUp.{GivenUp}
use Rattle.bx_live.specs.Acts.{Act}
use Rattle.bx_market.specs.Deals.{Deal}
use Rattle.bx_office_door.specs.Lending.{Lending}
use Rattle.bx_office_world.specs.Counters.{AtCounter}
use Rattle.bx_office_world.specs.GivingUp.{NotesGivenUp}
use Rattle.bx_office_world.specs.declared.desk.Opened.{Opened}
use Rattle.bx_office_world.specs.declared.serving.Pending.{Pending}
use Rattle.bx_live_commands.specs.OfficeRuns.{IsOpenedWith, IsToldAtDoor}
use Rattle.bx_live_commands.specs.declared.by_office.Premises.{Premises}

pub told_at_door : {S : Type 0} (lent : S → Lending → S → Type 0) (premises : Premises S) (turns : ℕ) (deals : List Deal) (opened first : Opened) (old new : S) (waited waits : Option Pending) → IsOpenedWith premises turns opened → first ≡ opened → old ≡ premises.door → waited ≡ None
    → AtCounter lent first deals old waited new waits → IsToldAtDoor lent premises turns deals
told_at_door {S} lent premises turns deals opened first old new waited waits with_these is door nobody told = record {
  opened = opened;
  opened_with = with_these;
  door = new;
  waits = waits;
  told = subst (λ (o : Opened). AtCounter lent o deals premises.door None new waits) is
      (subst (λ (c : S). AtCounter lent first deals c None new waits) door (subst (λ (p : Option Pending). AtCounter lent first deals old p new waits) nobody told));
}

-- of an office that was opened with this list, and has handed out that one
pub noted_between : (acts : List Act) (before first last after : List (Option GivenUp)) → first ≡ before → after ≡ last → NotesGivenUp acts first last → NotesGivenUp acts before after
noted_between acts before first last after with_this handed noted = subst (λ (g : List (Option GivenUp)). NotesGivenUp acts g after) with_this (handed ∙ noted)
