use Rattle.std.proofs.Common.{rules, refl, sym, subst, ◌≡◌, ℕ, List}
use Rattle.bx_channels.specs.Numbers.{IsNumber}
use Rattle.bx_book.specs.Rows.{Span, IsMomentOf}
use Rattle.bx_book.proofs.row.booking.Goals as goal

moment_at : {span : Span} {moment : ℕ} {field other : List ℕ} → field ≡ other → IsMomentOf span field moment → IsMomentOf span other moment
moment_at {span = span} {moment = moment} same h = subst (λ f. IsMomentOf span f moment) same h

pub returns-then-end-start : goal.returns-then-end-start
returns-then-end-start c = (refl, c.in_ok-start.start, c.in_ok-end.end, record { wide = search rules steps 400000; starts = moment_at c.field.ensures c.in_ok-start.ensures; ends = moment_at c.field-2.ensures c.in_ok-end.ensures }, search rules steps 60000)

pub returns-in_default : goal.returns-in_default
returns-in_default c = (
  refl,
  (c.in_ok-start.start, c.in_ok-end.end, record { wide = search rules steps 400000; starts = moment_at c.field.ensures c.in_ok-start.ensures; ends = moment_at c.field-2.ensures c.in_ok-end.ensures }, search rules steps 400000),
  λ number. let some = c.in_default.ensures.exactly.1 (subst IsNumber (sym c.field-3.ensures) number) in cc,
)

pub returns-in_default-pay : goal.returns-in_default-pay
returns-in_default-pay c = (refl, ((c.in_ok-start.start, c.in_ok-end.end, record { wide = search rules steps 400000; starts = moment_at c.field.ensures c.in_ok-start.ensures; ends = moment_at c.field-2.ensures c.in_ok-end.ensures }, search rules steps 400000), search rules steps 400000), search rules steps 400000)

pub returns-in_default-must_mark : goal.returns-in_default-must_mark
returns-in_default-must_mark c =
    (refl, (((c.in_ok-start.start, c.in_ok-end.end, record { wide = search rules steps 400000; starts = moment_at c.field.ensures c.in_ok-start.ensures; ends = moment_at c.field-2.ensures c.in_ok-end.ensures }, search rules steps 400000), search rules steps 400000), search rules steps 400000), search rules steps 400000)

pub returns-in_default-direction : goal.returns-in_default-direction
returns-in_default-direction c =
    (refl, (((c.in_ok-start.start, c.in_ok-end.end, record { wide = search rules steps 400000; starts = moment_at c.field.ensures c.in_ok-start.ensures; ends = moment_at c.field-2.ensures c.in_ok-end.ensures }, search rules steps 400000), search rules steps 400000), search rules steps 400000), search rules steps 400000, search rules steps 400000)

pub returns-in-Some-new : goal.returns-in-Some-new
returns-in-Some-new c = search rules steps 2000000

pub returns-in_err-start : goal.returns-in_err-start
returns-in_err-start c = search rules steps 2000000

pub marked-requires : goal.marked-requires
marked-requires c = search rules steps 400000
