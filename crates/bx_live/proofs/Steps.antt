-- Acts of a run, one after another.
use Rattle.std.proofs.Common.{◌≡◌, ℕ, List, [], ◌∷◌, ◌++◌, refl, sym, ap, ◌∙◌, subst, true, false, true≢false, Bool, ◌+◌, Result, Ok, Err, ◌==◌, if◌then◌else◌, arith}
use Rattle.std.proofs.lemmas.Bool.Decides.{nat_tests}
use Rattle.std.specs.Result.{IsErr, IsErrAnd}
use Rattle.arrayvec.specs.ArrayVec.{ArrayVec}
use Rattle.bx_events.specs.Events.{Event, Receive, OnLink}
use Rattle.bx_day.specs.Day.{Day}
use Rattle.bx_day.specs.Course.{exchange_next, exchange_sent, exchange_text}
use Rattle.bx_frames.specs.declared.fault.LinkFault.TheVariants.{WriteFailed, WrongMoment}
use Rattle.bx_frames.specs.declared.frame.Frame.TheVariants as frames
use Rattle.bx_live.specs.declared.world.Loss.TheVariants as losses
use Rattle.bx_live.specs.declared.turn.Stop.{Stop}
use Rattle.bx_live.specs.declared.turn.Stop.TheVariants as stops
use Rattle.bx_live.specs.Acts.{Act, Began, Logged, ended, begins_none}
use Rattle.bx_live.specs.Runs.{Place, Between, begun, heard, Logging, Receiving, with_reply, replying, Losing, Over, IsDue, next, IsRun, owing, happened}
use Rattle.bx_live.specs.Running.{Runs, RunsInside}
use Rattle.bx_live.specs.Seconds.{after_second, IsSecondRun}
use Rattle.bx_live.specs.declared.running.Second.{Second}
use Rattle.bx_live.specs.declared.running.Second.TheVariants.{Ended}
use Rattle.bx_live.specs.declared.world.Begin.{Begin}
use Rattle.bx_live.specs.declared.world.Begin.TheVariants as begins
use Rattle.bx_live.specs.declared.world.CannotLog.{CannotLog}
use Rattle.bx_live.specs.Inside.{or_stopped}

pub run_more : (p q r : Place) (xs ys : List Act) → IsRun p xs q → IsRun q ys r → IsRun p (xs ++ ys) r
run_more p q r [] ys e more = subst (λ x. IsRun x ys r) (sym e) more
run_more p q r (x ∷ xs) ys (due, goes) more = (due, run_more (next p x) q r xs ys goes more)

-- what an event that is logged owes, by what the exchange sends for it
pub owed : (d d1 : Day) (room : ℕ) (e : Event) (sent : List (ArrayVec ℕ)) (text : List ℕ) → d1 ≡ exchange_next d e → sent ≡ exchange_sent d e → text ≡ exchange_text d e → happened d room (OnLink e) ≡ owing d1 room sent text
owed d d1 room e sent text day messages octets =
    ap (λ x. owing x room (exchange_sent d e) (exchange_text d e)) (sym day) ∙ (ap (λ x. owing d1 room x (exchange_text d e)) (sym messages) ∙ ap (λ x. owing d1 room sent x) (sym octets))

pub begins_on : (xs ys : List Act) → begins_none xs ≡ true → begins_none ys ≡ true → begins_none (xs ++ ys) ≡ true
begins_on [] ys e f = f
begins_on (Began second begin ∷ xs) ys e f = absurd (true≢false (sym e))
begins_on (x ∷ xs) ys e f = begins_on xs ys e f

module _ {W : Type 0} {did : W → List Act → W → Type 0} where
  -- nothing was done yet
  abbrev pub none_ran : (nothing : (w : W) → did w [] w) (w : W) (p : Place) → Runs did w w p p
  none_ran nothing w p = record { acts = []; done = nothing w; goes = refl }

  abbrev pub none_done : (nothing : (w : W) → did w [] w) (w : W) (p : Place) → RunsInside did w w p p
  none_done nothing w p = record { acts = []; done = nothing w; goes = refl; inside = refl }

  abbrev pub as_run : {u v : W} {p q : Place} → RunsInside did u v p q → Runs did u v p q
  as_run run = record { acts = run.acts; done = run.done; goes = run.goes }

  -- one act was due, and done
  abbrev pub one_done : {u v : W} (p : Place) (act : Act) → begins_none (act ∷ []) ≡ true → did u (act ∷ []) v → IsDue p act → RunsInside did u v p (next p act)
  one_done p act inside done due = record { acts = act ∷ []; done = done; goes = (due, refl); inside = inside }

  -- an event was logged
  pub on_log : {u v : W} (d d1 : Day) (room : ℕ) (e : Event) (sent : List (ArrayVec ℕ)) (text : List ℕ) → did u (Logged (OnLink e) true ∷ []) v → d1 ≡ exchange_next d e → sent ≡ exchange_sent d e → text ≡ exchange_text d e
      → RunsInside did u v (Logging d room (OnLink e)) (owing d1 room sent text)
  on_log d d1 room e sent text done day messages octets = record { acts = Logged (OnLink e) true ∷ []; done = done; goes = (refl, owed d d1 room e sent text day messages octets); inside = refl }

  -- octets that came were logged
  pub received_on : {u v : W} (d d1 : Day) (room : ℕ) (owed : List (List ℕ)) (octets text : List ℕ) → did u (Logged (OnLink (Receive octets)) true ∷ []) v → d1 ≡ exchange_next d (Receive octets) → text ≡ exchange_text d (Receive octets)
      → RunsInside did u v (Receiving d room owed octets) (replying d1 (with_reply owed text) room)
  received_on d d1 room owed octets text done day is = record {
    acts = Logged (OnLink (Receive octets)) true ∷ [];
    done = done;
    goes = (refl, ap (λ (x : Day). replying x (with_reply owed (exchange_text d (Receive octets))) room) (sym day) ∙ ap (λ (t : List ℕ). replying d1 (with_reply owed t) room) (sym is));
    inside = refl;
  }

  module _ (more : (u v w : W) (xs ys : List Act) → did u xs v → did v ys w → did u (xs ++ ys) w) where
    abbrev pub then_ran : {u v w : W} {p q r : Place} → Runs did u v p q → Runs did v w q r → Runs did u w p r
    then_ran {u} {v} {w} {p} {q} {r} a b = record { acts = a.acts ++ b.acts; done = more u v w a.acts b.acts a.done b.done; goes = run_more p q r a.acts b.acts a.goes b.goes }

    abbrev pub then_done : {u v w : W} {p q r : Place} → RunsInside did u v p q → RunsInside did v w q r → RunsInside did u w p r
    then_done {u} {v} {w} {p} {q} {r} a b = record { acts = a.acts ++ b.acts; done = more u v w a.acts b.acts a.done b.done; goes = run_more p q r a.acts b.acts a.goes b.goes; inside = begins_on a.acts b.acts a.inside b.inside }

    -- a second began, and was gone through
    pub second_done : {u v w : W} (d d1 : Day) (begin : Begin) (r : Result Second CannotLog) → did u (Began (d.moment + 1) begin ∷ []) v → RunsInside did v w (begun d begin) (after_second d1 r)
        → (r ≡ Ok Ended → ended (Began (d.moment + 1) begin ∷ []) ≡ true) → IsSecondRun did u w d d1 r
    second_done {u} {v} {w} d d1 begin r began rest said = record {
      run = record { acts = Began (d.moment + 1) begin ∷ rest.acts; done = more u v w (Began (d.moment + 1) begin ∷ []) rest.acts began rest.done; goes = (refl, rest.goes) };
      one = record { begin = begin; following = rest.acts; are = refl; one = rest.inside };
      said = λ e. said_on begin (said e);
    } where
      said_on : (begin : Begin) → ended (Began (d.moment + 1) begin ∷ []) ≡ true → ended (Began (d.moment + 1) begin ∷ rest.acts) ≡ true
      said_on begins.Ended e = refl
      said_on begin e = absurd (true≢false (sym e))

-- ---- how a turn stops

pub by_log : (place : Place) (d : Day) (r : Result (Unit {0}) Stop) → IsErr r × IsErrAnd r (λ stop. stop ≡ stops.Log) → Over d ≡ or_stopped place d r
by_log place d (Ok done) p = let e = p.0 in cc
by_log place d (Err stop) p = ap (λ (x : Stop). or_stopped {A = Unit {0}} place d (Err x)) (sym p.1)

pub by_write : (place : Place) (d : Day) (r : Result (Unit {0}) Stop) → IsErr r × IsErrAnd r (λ stop. stop ≡ stops.Link WriteFailed) → Losing d (losses.Fault WriteFailed) ≡ or_stopped place d r
by_write place d (Ok done) p = let e = p.0 in cc
by_write place d (Err stop) p = ap (λ (x : Stop). or_stopped {A = Unit {0}} place d (Err x)) (sym p.1)

-- a run to a place is one to another name of it
pub at_place : {W : Type 0} {did : W → List Act → W → Type 0} {u v : W} {p : Place} (q r : Place) → q ≡ r → RunsInside did u v p q → RunsInside did u v p r
at_place {W} {did} {u} {v} {p} q r e run = subst (λ (x : Place). RunsInside did u v p x) e run

-- ---- an end of turn

chosen : (b : Bool) (p q : Place) → b ≡ true → (if b then p else q) ≡ p
chosen true p q e = refl
chosen false p q e = cc

not_chosen : (b : Bool) (p q : Place) → b ≡ false → (if b then p else q) ≡ q
not_chosen true p q e = cc
not_chosen false p q e = refl

pub ended_right : (d : Day) (room said : ℕ) → said ≡ d.moment → heard d room (Ok (frames.EndOfTurn said)) ≡ Between d
ended_right d room said e = chosen (said == d.moment) (Between d) (Losing d (losses.Fault WrongMoment)) (grind (arith, nat_tests, e))

pub ended_wrong : (d : Day) (room said : ℕ) → ¬ (said ≡ d.moment) → heard d room (Ok (frames.EndOfTurn said)) ≡ Losing d (losses.Fault WrongMoment)
ended_wrong d room said e = not_chosen (said == d.moment) (Between d) (Losing d (losses.Fault WrongMoment)) (grind (arith, nat_tests, e))
