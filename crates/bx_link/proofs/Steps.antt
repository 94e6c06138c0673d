-- Acts of a run, one after another.
use Rattle.std.proofs.Common.{◌≡◌, ℕ, List, [], ◌∷◌, ◌++◌, refl, sym, ap, ◌∙◌, subst, true, false, Bool, Option, Some, None, option_map, unwrap_or, is_some, Ok, ◌==◌, if◌then◌else◌, arith}
use Rattle.std.proofs.lemmas.Bool.{false≢true}
use Rattle.std.proofs.lemmas.Bool.Decides.{nat_tests}
use Rattle.std.proofs.lemmas.List.{append-nil}
use Rattle.arrayvec.specs.ArrayVec.{ArrayVec}
use Rattle.bx_events.specs.Events.{Event, Receive}
use Rattle.bx_far.specs.Course.{far_line_next, far_line_text}
use Rattle.bx_far.specs.FarDay.{FarDay}
use Rattle.bx_far.specs.LiveReceipts.{far_receive_live_octets}
use Rattle.bx_frames.specs.Courses.{reply_frame}
use Rattle.bx_frames.specs.Frames.{frames_of, message_frame, turn_frame}
use Rattle.bx_calls.specs.Sending.{reply_list, spelled}
use Rattle.bx_q931.specs.Outgoing.{Outgoing, out_octets}
use Rattle.bx_frames.specs.declared.fault.LinkFault.TheVariants.{WrongMoment}
use Rattle.bx_frames.specs.declared.frame.Frame.TheVariants as frames
use Rattle.bx_live.specs.declared.world.Loss.TheVariants as losses
use Rattle.bx_live.specs.Acts.{Act, Wrote}
use Rattle.bx_link.specs.Runs.{FarPlace, Between, Losing, Owing, far_run_heard, far_owing, IsFarActDue, far_run_next, IsFarRun}
use Rattle.bx_link.specs.Running.{FarRuns}

pub run_more : (p q r : FarPlace) (xs ys : List Act) → IsFarRun p xs q → IsFarRun q ys r → IsFarRun p (xs ++ ys) r
run_more p q r [] ys e more = subst (λ x. IsFarRun x ys r) (sym e) more
run_more p q r (x ∷ xs) ys (due, goes) more = (due, run_more (far_run_next p x) q r xs ys goes more)

module _ {W : Type 0} {did : W → List Act → W → Type 0} where
  -- nothing was done yet
  abbrev pub none_done : (nothing : (w : W) → did w [] w) (w : W) (p : FarPlace) → FarRuns did w w p p
  none_done nothing w p = record { acts = []; done = nothing w; goes = refl }

  -- one act was due, and done
  abbrev pub one_done : {u v : W} (p : FarPlace) (act : Act) → did u (act ∷ []) v → IsFarActDue p act → FarRuns did u v p (far_run_next p act)
  one_done p act done due = record { acts = act ∷ []; done = done; goes = (due, refl) }

  module _ (more : (u v w : W) (xs ys : List Act) → did u xs v → did v ys w → did u (xs ++ ys) w) where
    abbrev pub then_done : {u v w : W} {p q r : FarPlace} → FarRuns did u v p q → FarRuns did v w q r → FarRuns did u w p r
    then_done {u} {v} {w} {p} {q} {r} a b = record { acts = a.acts ++ b.acts; done = more u v w a.acts b.acts a.done b.done; goes = run_more p q r a.acts b.acts a.goes b.goes }

  -- what is sent in a second was due, and written, or not all of it
  pub turn_written : {u v : W} (d : FarDay) (room : ℕ) (sent sent1 : List (ArrayVec ℕ)) (moment moment1 : ℕ) (done : Bool) → sent ≡ sent1 → moment ≡ moment1 → did u (Wrote (frames_of sent ++ turn_frame moment) done ∷ []) v
      → FarRuns did u v (Owing d room (frames_of sent1 ++ turn_frame moment1)) (far_run_next (Owing d room (frames_of sent1 ++ turn_frame moment1)) (Wrote (frames_of sent1 ++ turn_frame moment1) done))
  turn_written {u} {v} d room sent sent1 moment moment1 done messages at written =
      let text = frames_of sent1 ++ turn_frame moment1 in
      one_done (Owing d room text) (Wrote text done)
      (subst (λ (m : ℕ). did u (Wrote (frames_of sent1 ++ turn_frame m) done ∷ []) v) at (subst (λ (xs : List (ArrayVec ℕ)). did u (Wrote (frames_of xs ++ turn_frame moment) done ∷ []) v) messages written))
      refl

  -- a run from or to a place is one from or to another name of it
  pub at_place : {u v : W} {p : FarPlace} (q r : FarPlace) → q ≡ r → FarRuns did u v p q → FarRuns did u v p r
  at_place {u} {v} {p} q r e run = subst (λ (x : FarPlace). FarRuns did u v p x) e run

  pub from_place : {u v : W} {p : FarPlace} (q r : FarPlace) → q ≡ r → FarRuns did u v q p → FarRuns did u v r p
  from_place {u} {v} {p} q r e run = subst (λ (x : FarPlace). FarRuns did u v x p) e run

-- ---- what is written for an event

-- the day and the octets by other names
pub owing_same : (d d1 : FarDay) (room : ℕ) (text text1 : List ℕ) → d ≡ d1 → text ≡ text1 → Owing d room text ≡ Owing d1 room text1
owing_same d d1 room text text1 day octets = ap (λ x. Owing x room text) day ∙ ap (λ x. Owing d1 room x) octets

-- a run from there
pub owed_after : {W : Type 0} {did : W → List Act → W → Type 0} {u v : W} {p : FarPlace} (d d1 : FarDay) (event : Event) (room : ℕ) (text : List ℕ) → d1 ≡ far_line_next d event → text ≡ far_line_text d event → FarRuns did u v (far_owing d1 room text) p → FarRuns did u v (far_owing (far_line_next d event) room (far_line_text d event)) p
owed_after d d1 event room text day octets run =
    from_place (far_owing d1 room text) (far_owing (far_line_next d event) room (far_line_text d event)) (ap (λ x. far_owing x room text) day ∙ ap (λ x. far_owing (far_line_next d event) room x) octets) run

-- the frame of the reply to a message
reply_written : (reply : Option (ArrayVec ℕ)) (said : Option Outgoing) → option_map (λ o. o.items) reply ≡ option_map out_octets said → reply_frame reply ≡ frames_of (spelled (reply_list said))
reply_written None None e = refl
reply_written None (Some o) e = absurd (false≢true (ap is_some e))
reply_written (Some reply) None e = absurd (false≢true (sym (ap is_some e)))
reply_written (Some reply) (Some o) e = ap (λ xs. message_frame (unwrap_or xs [])) e ∙ sym (append-nil (message_frame (out_octets o)))

-- a run from there, where the message was heard as these octets
pub answered_after : {W : Type 0} {did : W → List Act → W → Type 0} {u v : W} {p : FarPlace} (d d1 : FarDay) (octets heard : List ℕ) (room : ℕ) (reply : Option (ArrayVec ℕ))
    → heard ≡ octets → d1 ≡ (far_receive_live_octets d heard).day → option_map (λ o. o.items) reply ≡ option_map out_octets (far_receive_live_octets d heard).reply
    → FarRuns did u v (far_owing d1 room (reply_frame reply)) p → FarRuns did u v (far_owing (far_line_next d (Receive octets)) room (far_line_text d (Receive octets))) p
answered_after d d1 octets heard room reply same day said run =
    owed_after d d1 (Receive octets) room (reply_frame reply)
    (day ∙ ap (λ xs. (far_receive_live_octets d xs).day) same)
    (reply_written reply (far_receive_live_octets d octets).reply (said ∙ ap (λ xs. option_map out_octets (far_receive_live_octets d xs).reply) same))
    run

-- ---- an end of turn

abbrev ended_as : FarDay → Bool → FarPlace
ended_as d right = if right then Between d else Losing d (losses.Fault WrongMoment)

pub ended_right : (d : FarDay) (room said : ℕ) → said ≡ d.moment → far_run_heard d room (Ok (frames.EndOfTurn said)) ≡ Between d
ended_right d room said e = let right : (said == d.moment) ≡ true = grind (arith, nat_tests, e) in ap (ended_as d) right

pub ended_wrong : (d : FarDay) (room said : ℕ) → ¬ (said ≡ d.moment) → far_run_heard d room (Ok (frames.EndOfTurn said)) ≡ Losing d (losses.Fault WrongMoment)
ended_wrong d room said e = let wrong : (said == d.moment) ≡ false = grind (arith, nat_tests, e) in ap (ended_as d) wrong
