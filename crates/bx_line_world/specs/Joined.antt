-- All acts of a day as one list of events of its data link, and what went over its wire for them.
use Rattle.std.specs.Prelude.{◌≡◌, ℕ, Bool, true, List, [], ◌∷◌, ◌++◌, Some, Ok}
use Rattle.arrayvec.specs.ArrayVec.{ArrayVec}
use Rattle.bx_frames.specs.declared.frame.Frame.TheVariants as frames
use Rattle.bx_lapd.specs.Links.{Link}
use Rattle.bx_lapd.specs.Once.{IsPartOf}
use Rattle.bx_lapd.specs.World.{messages_of}
use Rattle.bx_live.specs.Acts.{Act, Wrote, Read, Took}
use Rattle.bx_line_world.specs.Wires.{WireAct}
use Rattle.bx_line_world.specs.Posts.{no_post}
use Rattle.bx_line_world.specs.Lines.{LineEvent, Given, wire_acts_of, step_of, shown_by, passed_after}
use Rattle.bx_line_world.specs.Days.{IsTextOfMessages}
use Rattle.bx_line_world.specs.declared.line.Line.{Line}
use Rattle.bx_line_world.specs.declared.line_world.LineWorld.{LineWorld}

-- an end of a link with its clock: what an event of it needs to be known
pub record LinkEnd : Type 0 where
  pub network : Bool
  pub link : Link
  pub shown : ℕ
  pub passed : ℕ

abbrev pub end_of : {W : Type 0} → Line W → LinkEnd
end_of s = record { network = s.end.network; link = s.end.link; shown = s.shown; passed = s.passed }

-- a line with this end, of which nothing waits
abbrev pub line_at : LinkEnd → Line (Unit {0})
line_at u = record { end = record { network = u.network; link = u.link; dropped = 0 }; wire = tt; shown = u.shown; passed = u.passed; post = no_post }

-- by the table of the link
abbrev pub after_event : LinkEnd → LineEvent → LinkEnd
after_event u e = record { network = u.network; link = (step_of (line_at u) e).link; shown = shown_by u.shown e; passed = passed_after (line_at u) e }

abbrev pub after_events : LinkEnd → List LineEvent → LinkEnd
after_events u [] = u
after_events u (e ∷ es) = after_events (after_event u e) es

-- the clock readings, waits and frames of events, one after another
abbrev pub wire_acts : LinkEnd → List LineEvent → List WireAct
wire_acts u [] = []
wire_acts u (e ∷ es) = wire_acts_of (line_at u) e ++ wire_acts (after_event u e) es

-- the messages that the link delivers at events
abbrev pub delivered : LinkEnd → List LineEvent → List (ArrayVec ℕ)
delivered u [] = []
delivered u (e ∷ es) = messages_of (step_of (line_at u) e).told ++ delivered (after_event u e) es

-- the messages that are given to it
abbrev pub given_in : List LineEvent → List (ArrayVec ℕ)
given_in [] = []
given_in (Given m shown ∷ es) = m ∷ given_in es
given_in (e ∷ es) = given_in es

-- the messages that the day reads
abbrev pub read_in : List Act → List (ArrayVec ℕ)
read_in [] = []
read_in (Read room (Ok (frames.Message m)) ∷ acts) = m ∷ read_in acts
read_in (Took (Some m) ∷ acts) = m ∷ read_in acts
read_in (act ∷ acts) = read_in acts

-- the messages that the day writes, in their order: those of each act, or a prefix of them where it failed
abbrev pub AreWritten : List Act → List (ArrayVec ℕ) → Type 0
AreWritten [] given = given ≡ []
AreWritten (Wrote octets done ∷ acts) given =
    (here : List (ArrayVec ℕ)) × (rest : List (ArrayVec ℕ)) × (more : List (ArrayVec ℕ)) × IsTextOfMessages (here ++ rest) octets × (done ≡ true → rest ≡ []) × (given ≡ here ++ more) × AreWritten acts more
AreWritten (act ∷ acts) given = AreWritten acts given

-- A day has gone over a link: at these events, of which the table of the link says all, just this went over the wire. Given to the link is
-- what the day wrote, each message once and in order; and what it read, with what still waits, is a part of what waited and was
-- delivered, in its order.
pub record GoesOverLink {W D : Type 0} (did : W → List WireAct → W → Type 0) (old new : LineWorld W D) (acts : List Act) : Type 0 where
  pub events : List LineEvent
  pub wire : did old.line.wire (wire_acts (end_of old.line) events) new.line.wire
  pub link : end_of new.line ≡ after_events (end_of old.line) events
  pub written : AreWritten acts (given_in events)
  pub read : IsPartOf (read_in acts ++ new.line.post.messages.items) (old.line.post.messages.items ++ delivered (end_of old.line) events)
