-- The day of a far end that was run.
use Rattle.std.proofs.Common.{◌≡◌, ℕ, ◌+◌, ◌≤◌, min, List, ap, ◌∙◌, Option, Result, arith}
use Rattle.bx_devices.specs.declared.watched.Watched.{Watched}
use Rattle.bx_far.specs.FarDay.{FarDay}
use Rattle.bx_link.specs.Days.{RunsFarDay}
use Rattle.bx_events.specs.Events.{Event}
use Rattle.bx_frames.specs.Courses.{ticks_of}
use Rattle.bx_frames.specs.declared.fault.LinkFault.{LinkFault}
use Rattle.bx_day_openings.specs.Openings.{IsFarOpening}
use Rattle.bx_far_commands.specs.Days.{IsFarMoment}

pub run_far : {R W : Type 0} {remaining : R → Option (List ℕ)} {contents : W → Option (List ℕ)} {r r1 : Watched R} {w w1 : Watched W} (d d1 : FarDay) (result : Result (Unit {0}) LinkFault) (moment : ℕ)
    (P : List Event → FarDay → Type 0) → IsFarOpening d → (runs : RunsFarDay remaining contents r r1 w w1 d d1 result) → moment ≡ d1.moment → P runs.talks.events d → (run : IsFarMoment moment) × P run.events run.opened
run_far d d1 result moment P opening runs same p =
    let events = runs.talks.events in
    let first : d.moment ≡ 0 = ap (λ (x : FarDay). x.moment) opening.opens in
    let within : d.moment ≤ 300000 = omega (arith, first) in
    let run : IsFarMoment moment = record {
      opened = d;
      opens = opening;
      events = events;
      reached = same ∙ ap (λ (x : FarDay). x.moment) runs.talks.goes.day;
      ticks = same ∙ runs.moment within ∙ ap (λ (n : ℕ). min (n + ticks_of events) 300000) first ∙ ap (λ (n : ℕ). min n 300000) (omega arith);
    } in
    (run, p)
