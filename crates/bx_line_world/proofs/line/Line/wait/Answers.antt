use Rattle.std.proofs.Common.{ℕ, [], ◌∷◌, refl, sym, ◌∙◌, subst, take, Some, None}
use Rattle.bx_lapd.specs.Endpoints.{hear_octets}
use Rattle.bx_line_world.specs.Wires.{Waited}
use Rattle.bx_line_world.specs.Lines.{Heard, Passed, Quiet, slice_of}
use Rattle.bx_line_world.proofs.Stepping.{served_by}
use Rattle.bx_line_world.proofs.line.Line.wait.Goals as goal

pub returns : goal.returns
returns g c =
    let o = c.args.self.now in
    let b = c.look.new.self in
    let until = c.args.until in
    let octets = take c.in-Some.count c.receive.new.room in
    let before = subst (λ (n : ℕ). g.W.Wire.did o.wire (Waited n (Some octets) ∷ []) c.receive.new.self) c.slice-slice.ensures c.in-Some.ensures.came in (
      Heard until octets b.shown,
      refl,
      served_by g.met.W.Wire.did_more o (record o { wire = c.receive.new.self }) b c.carry_out.new.self c.receive-done.new.self c.receive-done.result (Heard until octets b.shown) (Waited (slice_of o until) (Some octets) ∷ [])
          (λ e t. hear_octets e.network e.link octets t) c.now-now.result
          refl before c.look.ensures c.now-now.ensures.now refl refl refl refl (sym c.passes_over.ensures ∙ c.if-passes_over.false) c.receive-done.ensures.step c.receive-done.ensures.side c.carry_out.ensures,
      refl,
    )

pub returns-then-passes_over : goal.returns-then-passes_over
returns-then-passes_over g c =
    let o = c.args.self.now in
    let octets = take c.in-Some.count c.receive.new.room in
    let before = subst (λ (n : ℕ). g.W.Wire.did o.wire (Waited n (Some octets) ∷ []) c.receive.new.self) c.slice-slice.ensures c.in-Some.ensures.came in
    (Passed c.args.until octets, refl, record { wire = before; network = refl; link = refl; post = refl; shown = refl; passed = refl; taken = sym c.passes_over.ensures ∙ c.if-passes_over.true }, refl)

pub returns-in_default : goal.returns-in_default
returns-in_default g c =
    let o = c.args.self.now in
    let quiet = subst (λ (n : ℕ). g.W.Wire.did o.wire (Waited n None ∷ []) c.receive.new.self) c.slice-slice.ensures c.in_default.ensures.came in
    (Quiet c.args.until, refl, record { wire = quiet; network = refl; link = refl; post = refl; shown = refl; passed = refl; taken = tt }, refl)
