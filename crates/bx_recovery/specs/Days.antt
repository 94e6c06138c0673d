-- Private: Days one after another.
use Rattle.std.specs.Prelude.{◌≡◌, List, [], ◌∷◌, ◌++◌}
use Rattle.std.proofs.Common.{refl, sym, ap, ◌∙◌}
use Rattle.bx_events.specs.Events.{LiveEvent}
use Rattle.bx_day.specs.Day.{Day}
use Rattle.bx_day.specs.Outages.{live_happens, live_day_after}

live_day_on : (xs ys : List LiveEvent) (d : Day) → live_day_after (xs ++ ys) d ≡ live_day_after ys (live_day_after xs d)
live_day_on [] ys d = refl
live_day_on (x ∷ xs) ys d = live_day_on xs ys (live_happens d x).day

pub days_join : (xs ys : List LiveEvent) (d e f : Day) → e ≡ live_day_after xs d → f ≡ live_day_after ys e → f ≡ live_day_after (xs ++ ys) d
days_join xs ys d e f p q = q ∙ ap (live_day_after ys) p ∙ sym (live_day_on xs ys d)
