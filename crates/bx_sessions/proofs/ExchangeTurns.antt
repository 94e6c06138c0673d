-- Turns of the exchange, one after another.
use Rattle.std.proofs.Common.{◌≡◌, ℕ, ◌+◌, suc, List, [], ◌∷◌, ◌++◌, refl, sym, ap, ◌∙◌, subst, arith, Option, Ok, Err, Bool, true, false, ◌⊎◌, inl, inr}
use Rattle.std.specs.Io.KnownBytes.{Appends}
use Rattle.bx_devices.specs.declared.watched.Watched.{Watched}
use Rattle.bx_devices.specs.Watching.{device_of, is_faulted}
use Rattle.bx_day.specs.Day.{Day}
use Rattle.bx_devices.specs.declared.octets.WriteFailed.{WriteFailed as Failed}
use Rattle.bx_events.specs.Events.{Event, Tick}
use Rattle.bx_day.specs.Run.{day_after}
use Rattle.bx_frames.specs.Courses.{after, told, ticks_of}
use Rattle.bx_day.specs.Course.{exchange_next, exchange_text}
use Rattle.bx_frames.specs.Frames.{is_far, day_frame}
use Rattle.bx_frames.specs.Writing.{Sends}
use Rattle.bx_frames.specs.Talks.{Talk, stop, with_events}
use Rattle.bx_link.specs.Talking.{follow_talk}
use Rattle.bx_sessions.specs.Talking.{exchange_turn, talk_in}
use Rattle.bx_frames.specs.Heard.{TalksThrough, Went, no_tick}
use Rattle.bx_sessions.specs.Hearing.{Opens, Hears}
use Rattle.bx_sessions.specs.Days.{Talks, EndsDay}
use Rattle.bx_frames.specs.declared.fault.LinkFault.{LinkFault}
use Rattle.bx_frames.specs.declared.fault.LinkFault.TheVariants.{ReadFailed, WriteFailed, EndedInFrame}
use Rattle.bx_frames.specs.declared.frame.Receiver.TheVariants.{Exchange}
use Rattle.bx_frames.proofs.ReadAnswers.{gave, faulty}
use Rattle.bx_frames.proofs.Composing.{SoFar, nothing_yet, then_goes, then_so_far, all_goes}
use Rattle.bx_frames.proofs.Events.{ticks_more, no_last}
use Rattle.bx_link.proofs.Following.{over, broken, follow_on, follow_fault, written_whole, still_written}
use Rattle.bx_frames.proofs.Turns.{turn_nothing, turn_local}
use Rattle.bx_frames.proofs.WritingFrames.{done, stopped}

-- the end of the day does not come to an exchange
pub as_turned : {D R W : Type 0} {next : D → Event → D} {text : D → Event → List ℕ} {finds : List ℕ → Talk} {remaining : R → Option (List ℕ)} {contents : W → Option (List ℕ)} {r r1 : Watched R} {w w1 : Watched W} {d d1 : D}
    (kept : List Event → Type 0) (b : Bool) → (gave b ≡ Ok false → is_far Exchange ≡ true) → (went : Went Exchange next text finds no_tick remaining contents r r1 w w1 d d1 (gave b)) × kept went.events
    → (went : Went Exchange next text finds no_tick remaining contents r r1 w w1 d d1 (gave true)) × kept went.events
as_turned kept true none p = p
as_turned kept false none p = let e = none refl in cc

-- ---- one more turn

pub only_write : (fault : LinkFault) → (broken fault ≡ Ok tt) ⊎ (broken fault ≡ Err WriteFailed) → fault ≡ WriteFailed
only_write fault (inl e) = cc
only_write fault (inr e) = cc

-- the turns after this one
abbrev pub Onward : ℕ → Day → List Event → List ℕ → Talk
Onward turns d1 events = talk_in turns (after exchange_next events d1)

-- after the tick
abbrev pub Open : ℕ → Day → List ℕ → Talk
Open turns d1 text = follow_talk (exchange_turn d1 text) (Onward turns d1) (exchange_turn d1 text)

module _ {R W : Type 0} (remaining : R → Option (List ℕ)) (contents : W → Option (List ℕ)) (turns : ℕ) (r : Watched R) (w w1 : Watched W) (d d1 : Day) where
  by_tick : d1 ≡ exchange_next d Tick → (text : List ℕ) → talk_in (suc turns) d text ≡ with_events (Tick ∷ []) (Open turns d1 text)
  unfolding talk_in
  by_tick e text = ap (λ (x : Day). with_events (Tick ∷ []) (follow_talk (exchange_turn x text) (λ events. talk_in turns (after exchange_next events x)) (exchange_turn x text))) (sym e)

  -- nothing has come
  not_yet : d1 ≡ exchange_next d Tick → talk_in (suc turns) d [] ≡ with_events (Tick ∷ []) (stop (Err EndedInFrame) [] [])
  not_yet e = by_tick e [] ∙ ap (λ (t : Talk). with_events (Tick ∷ []) (follow_talk t (Onward turns d1) t)) (turn_nothing Exchange d1.moment 64)

  -- the tick was written
  pub turn_opened : Opens contents w w1 d d1 over → SoFar exchange_next exchange_text (talk_in (suc turns) d) (Open turns d1) remaining contents r r w w1 d d1 (Tick ∷ [])
  turn_opened p = record {
    day = p.day;
    talk = λ known e. record { read = []; is_read = record { rest = known; splits = refl; is_left = e }; splits = by_tick p.day };
    written = written_whole true (Appends (contents (device_of w)) (contents (device_of w1)) (told exchange_next exchange_text (Tick ∷ []) d)) p.written.whole;
    reader = refl;
    counted = omega arith;
    writer = still_written true (is_faulted w1 ≡ is_faulted w) p.written.unfaulted;
  }

  -- or not whole
  pub open_failed : (fault : LinkFault) → Opens contents w w1 d d1 (broken fault) → TalksThrough Exchange exchange_next exchange_text (talk_in (suc turns) d) remaining contents r r w w1 d d1 (Tick ∷ []) (faulty fault)
  open_failed fault p =
      let write = only_write fault p.answer in
      record {
        day = p.day;
        talk = λ known e.
            let same = not_yet p.day in
            inr (inr (
              ap (λ (f : LinkFault). faulty f) write,
              record {
                read = [];
                is_read = record { rest = known; splits = refl; is_left = e };
                all = sym (ap (λ (t : Talk). t.events) same);
                following = ap (λ (t : Talk). t.following) same;
                rest = ap (λ (t : Talk). t.rest) same;
                cut = inl (ap (λ (t : Talk). t.ending) same);
              },
            ));
        written = p.written;
        faulted = λ e. let read : fault ≡ ReadFailed = cc in cc;
        counted = omega arith;
        unfaulted = inl refl;
      }

module _ {R W : Type 0} (remaining : R → Option (List ℕ)) (contents : W → Option (List ℕ)) (turns : ℕ) (r r1 : Watched R) (w w1 : Watched W) (d1 d2 : Day) where
  -- the turn was heard
  pub turn_closed : (hears : Hears remaining contents r r1 w w1 d1 d2 over)
      → SoFar exchange_next exchange_text (Open turns d1) (talk_in turns d2) remaining contents r r1 w w1 d1 d2 hears.events
  turn_closed hears =
      let so = follow_on Exchange (exchange_turn d1) (Onward turns d1) (exchange_turn d1) exchange_next exchange_text remaining contents r r1 w w1 d1 d2 hears.events (turn_local Exchange d1.moment 64) hears.goes in
      subst (λ (x : Day). SoFar exchange_next exchange_text (Open turns d1) (talk_in turns x) remaining contents r r1 w w1 d1 d2 hears.events) (sym hears.goes.day) so

  -- or it had a fault
  pub close_failed : (fault : LinkFault) (hears : Hears remaining contents r r1 w w1 d1 d2 (broken fault))
      → TalksThrough Exchange exchange_next exchange_text (Open turns d1) remaining contents r r1 w w1 d1 d2 hears.events (faulty fault)
  close_failed fault hears =
      follow_fault Exchange (exchange_turn d1) (Onward turns d1) (exchange_turn d1) exchange_next exchange_text remaining contents r r1 w w1 d1 d2 hears.events fault
      (λ last. absurd (no_last hears.events hears.ticks last)) hears.goes

-- ---- all turns

-- some turns of a talk are over, and so many are still to come
pub record TalkedSoFar {R W : Type 0} (remaining : R → Option (List ℕ)) (contents : W → Option (List ℕ)) (all turns : ℕ) (r r' : Watched R) (w w' : Watched W) (d d' : Day) : Type 0 where
  pub events : List Event
  pub so_far : SoFar exchange_next exchange_text (talk_in all d) (talk_in turns d') remaining contents r r' w w' d d' events
  pub ticks : ticks_of events + turns ≡ all

-- and this was kept of them
abbrev pub KeptSoFar : {R W : Type 0} → (R → Option (List ℕ)) → (W → Option (List ℕ)) → ℕ → ℕ → Watched R → Watched R → Watched W → Watched W → Day → Day → (List Event → Type 0) → Type 0
KeptSoFar remaining contents all turns r r' w w' d d' kept = (p : TalkedSoFar remaining contents all turns r r' w w' d d') × kept p.events

module _ {R W : Type 0} (remaining : R → Option (List ℕ)) (contents : W → Option (List ℕ)) (all : ℕ) (r : Watched R) (w : Watched W) (d : Day) where
  abbrev pub nothing_happened : TalkedSoFar remaining contents all all r r w w d d
  nothing_happened = record { events = []; so_far = nothing_yet exchange_next exchange_text (talk_in all d) remaining contents r w d; ticks = omega arith }

pub no_more_turns : (d : Day) (more : List ℕ) → talk_in 0 d more ≡ stop (Ok true) more more
unfolding talk_in
no_more_turns d more = refl

module _ {R W : Type 0} {remaining : R → Option (List ℕ)} {contents : W → Option (List ℕ)} {all : ℕ} {r r1 : Watched R} {w w1 : Watched W} {d d1 : Day} where
  abbrev pub talk_over : TalkedSoFar remaining contents all 0 r r1 w w1 d d1 → Talks remaining contents all r r1 w w1 d d1 (gave true)
  talk_over p = record {
    events = p.events;
    goes = all_goes exchange_next exchange_text (talk_in all d) (talk_in 0 d1) remaining contents r r1 w w1 d d1 p.events (no_more_turns d1) Exchange p.so_far;
    ticks = omega (arith, p.ticks);
  }

  module _ {turns : ℕ} (p : TalkedSoFar remaining contents all (suc turns) r r1 w w1 d d1) {w2 : Watched W} {d2 : Day} where
    -- the tick was not written whole
    abbrev pub talk_not_opened : {fault : LinkFault} → Opens contents w1 w2 d1 d2 (broken fault) → Talks remaining contents all r r1 w w2 d d2 (faulty fault)
    talk_not_opened {fault} opens = record {
      events = p.events ++ Tick ∷ [];
      goes = then_goes exchange_next exchange_text (talk_in all d) (talk_in (suc turns) d1) remaining contents r r1 r1 w w1 w2 d d1 d2 p.events (Tick ∷ []) p.so_far Exchange (faulty fault)
          (open_failed remaining contents turns r1 w1 w2 d1 d2 fault opens);
      ticks = (omega (arith, p.ticks, ticks_more p.events (Tick ∷ [])), omega (arith, p.ticks, ticks_more p.events (Tick ∷ [])));
    }

    module _ (opens : Opens contents w1 w2 d1 d2 over) where
      pub opened_so_far : SoFar exchange_next exchange_text (talk_in all d) (Open turns d2) remaining contents r r1 w w2 d d2 (p.events ++ Tick ∷ [])
      opened_so_far =
          then_so_far exchange_next exchange_text (talk_in all d) (talk_in (suc turns) d1) remaining contents r r1 r1 w w1 w2 d d1 d2 p.events (Tick ∷ []) p.so_far (Open turns d2)
          (turn_opened remaining contents turns r1 w1 w2 d1 d2 opens)

      module _ {r3 : Watched R} {w3 : Watched W} {d3 : Day} where
        -- the turn was heard to its end
        abbrev pub turn_over : Hears remaining contents r1 r3 w2 w3 d2 d3 over → TalkedSoFar remaining contents all turns r r3 w w3 d d3
        turn_over hears = record {
          events = (p.events ++ Tick ∷ []) ++ hears.events;
          so_far = then_so_far exchange_next exchange_text (talk_in all d) (Open turns d2) remaining contents r r1 r3 w w2 w3 d d2 d3 (p.events ++ Tick ∷ []) hears.events opened_so_far
              (talk_in turns d3) (turn_closed remaining contents turns r1 r3 w2 w3 d2 d3 hears);
          ticks = omega (arith, p.ticks, ticks_more p.events (Tick ∷ []), ticks_more (p.events ++ Tick ∷ []) hears.events, hears.ticks);
        }

        -- or to a fault
        abbrev pub turn_failed : {fault : LinkFault} → Hears remaining contents r1 r3 w2 w3 d2 d3 (broken fault) → Talks remaining contents all r r3 w w3 d d3 (faulty fault)
        turn_failed {fault} hears = record {
          events = (p.events ++ Tick ∷ []) ++ hears.events;
          goes = then_goes exchange_next exchange_text (talk_in all d) (Open turns d2) remaining contents r r1 r3 w w2 w3 d d2 d3 (p.events ++ Tick ∷ []) hears.events opened_so_far Exchange (faulty fault)
              (close_failed remaining contents turns r1 r3 w2 w3 d2 d3 fault hears);
          ticks = (
            omega (arith, p.ticks, ticks_more p.events (Tick ∷ []), ticks_more (p.events ++ Tick ∷ []) hears.events, hears.ticks),
            omega (arith, p.ticks, ticks_more p.events (Tick ∷ []), ticks_more (p.events ++ Tick ∷ []) hears.events, hears.ticks),
          );
        }

-- ---- the end of the day

pub day_written : {W : Type 0} (contents : W → Option (List ℕ)) (w w1 : Watched W) → Sends contents w w1 done day_frame → EndsDay contents w w1 (gave true)
day_written contents w w1 p = record {
  whole = inr (refl, p.written);
  part = λ e. cc;
  faulted = λ e. cc;
  unfaulted = inl p.unfaulted;
}

pub day_not_written : {W : Type 0} (contents : W → Option (List ℕ)) (w w1 : Watched W) (e : Failed) → Sends contents w w1 (stopped e) day_frame → EndsDay contents w w1 (faulty WriteFailed)
day_not_written contents w w1 e p = record { whole = inl refl; part = λ _. p.part; faulted = λ _. search (p.faulted); unfaulted = inr refl }

pub no_end : (fault : LinkFault) → ¬ (faulty fault ≡ gave true)
no_end fault e = cc

-- ---- the exchange's day

pub day_of_events : (events : List Event) (d : Day) → after exchange_next events d ≡ day_after events d
day_of_events [] d = refl
day_of_events (x ∷ xs) d = day_of_events xs (exchange_next d x)
