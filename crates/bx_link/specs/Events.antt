-- The events of a far end's day, as the acts of its run tell them.
use Rattle.bx_events.specs.declared.rules.Rules.TheVariants.{Three}
use Rattle.std.specs.Prelude.{List, [], ◌∷◌, ◌++◌, ℕ, Ok}
use Rattle.bx_events.specs.Events.{Event, Tick, Receive, LiveEvent, OnLink, WithoutLink, Amended, HeardByRulesTwo}
use Rattle.bx_frames.specs.declared.frame.Frame.TheVariants as frames
use Rattle.bx_live.specs.declared.world.Begin.TheVariants as begins
use Rattle.bx_live.specs.Acts.{Act, Began, Read}

-- a second that begins is one with a link or without; and each message that is read is heard
abbrev pub far_events : List Act → List LiveEvent
far_events [] = []
far_events (Began second begins.Joined ∷ acts) = OnLink Tick ∷ far_events acts
far_events (Began second begins.Alone ∷ acts) = WithoutLink Three ∷ far_events acts
far_events (Began second begins.Late ∷ acts) = WithoutLink Three ∷ far_events acts
far_events (Read room (Ok (frames.Message octets)) ∷ acts) = OnLink (Receive octets.items) ∷ far_events acts
far_events (act ∷ acts) = far_events acts

-- what is told of the events on a link; of seconds without one, of what amends the plan, and of what came to an exchange of the rules 2,
-- nothing is
abbrev pub told_on_link : {D : Type 0} → (D → LiveEvent → D) → (D → Event → List ℕ) → List LiveEvent → D → List ℕ
told_on_link next text [] d = []
told_on_link next text (OnLink event ∷ events) d = text d event ++ told_on_link next text events (next d (OnLink event))
told_on_link next text (WithoutLink rules ∷ events) d = told_on_link next text events (next d (WithoutLink rules))
told_on_link next text (Amended kind line ∷ events) d = told_on_link next text events (next d (Amended kind line))
told_on_link next text (HeardByRulesTwo octets ∷ events) d = told_on_link next text events (next d (HeardByRulesTwo octets))
