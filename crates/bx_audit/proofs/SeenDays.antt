-- A day that was followed with its outages.
use Rattle.std.proofs.Common.{◌≡◌, ◌∙◌, ℕ, Bool, true, List, Option, None, Result, Ok, OnOk, refl, ap₂, sym, subst}
use Rattle.bx_check_commands.specs.declared.fault.CommandFault.TheVariants as commands
use Rattle.bx_day.specs.Day.{Day}
use Rattle.bx_day_chart.specs.declared.outages.Outage.{Outage}
use Rattle.bx_day_openings.proofs.Replays.{went}
use Rattle.bx_day_openings.specs.Followed.{IsFollowedWhole}
use Rattle.bx_day_openings.specs.JournalRefusals.{IsNoJournal}
use Rattle.bx_day_openings.specs.declared.fault.DayCommandFault.{DayCommandFault}
use Rattle.bx_day_openings.specs.declared.fault.DayCommandFault.TheVariants as faults
use Rattle.bx_events.specs.Events.{LiveEvent}
use Rattle.bx_journal.specs.declared.head.Wanted.{Wanted}
use Rattle.bx_day_openings.specs.Selling.{day_goes}
use Rattle.bx_audit.specs.Chartings.{HasFollowed, IsNotSeen}
use Rattle.bx_audit.specs.Noted.{outages_from}
use Rattle.bx_audit.specs.Notings.{IsFresh, IsNoted}
use Rattle.bx_audit.specs.Seen.{IsSeenThrough}
use Rattle.bx_audit.specs.declared.charting.Charting.{Charting}

-- an exchange went through these, and their outages were noted
abbrev pub SeenGoes : List Bool → Charting → List LiveEvent → Charting → Type 0
SeenGoes channels old events new = day_goes channels old.selling.exchange events new.selling.exchange × IsNoted old.noting events new.noting

-- where no line was wrong
pub goes_seen : (channels : List Bool) (a b : Charting) → a.selling.channels ≡ channels → a.selling.fault ≡ None → b.selling.fault ≡ None → (events : List LiveEvent) → HasFollowed a events b → SeenGoes channels a events b
goes_seen channels a b on_channels fresh whole events h = (went channels a.selling.exchange a.selling b.selling on_channels refl fresh events h.0 whole, h.1)

module _ (channels : List Bool) (wanted : Wanted) (before : Option (List ℕ)) (opened day : Day) (a b : Charting) (outages : List Outage) where
  of_whole : a.selling.exchange ≡ opened → IsFresh a.noting → day ≡ b.selling.exchange → b.noting.is_whole ≡ true → outages ≡ b.noting.outages.spans.items → IsFollowedWhole (SeenGoes channels) wanted before a b → IsSeenThrough channels wanted before opened day outages
  of_whole opens fresh same whole are f =
      let noted = f.all.1 whole in
      record {
        events = f.events;
        journal = f.journal;
        through = subst (λ (d : Day). day_goes channels opened f.events d) (sym same) (subst (λ (d : Day). day_goes channels d f.events b.selling.exchange) opens f.all.0);
        noted = are ∙ noted.outages ∙ ap₂ (λ (m : ℕ) (os : List Outage). outages_from m f.events os) fresh.moment fresh.outages;
      }

  pub seen_through : (r : Result (Unit {0}) DayCommandFault) (v : Unit {0}) → r ≡ Ok v → a.selling.exchange ≡ opened → IsFresh a.noting → day ≡ b.selling.exchange → b.noting.is_whole ≡ true → outages ≡ b.noting.outages.spans.items → OnOk r (IsFollowedWhole (SeenGoes channels) wanted before a b) → IsSeenThrough channels wanted before opened day outages
  seen_through r v is opens fresh same whole are followed = of_whole opens fresh same whole are (subst (λ (x : Result (Unit {0}) DayCommandFault). OnOk x (IsFollowedWhole (SeenGoes channels) wanted before a b)) is followed)

-- a fault of the journal's text
pub not_seen : (name : List ℕ) (wanted : Wanted) (channels : List Bool) (opened : Day) (before after : Option (List ℕ)) (faulted : Bool) (fault : DayCommandFault) → IsNoJournal name wanted before after faulted fault → IsNotSeen name wanted channels opened before after faulted fault
not_seen name wanted channels opened before after faulted (faults.Command commands.Memory) none = tt
not_seen name wanted channels opened before after faulted (faults.Amendment why) none = absurd none
not_seen name wanted channels opened before after faulted fault none = none
