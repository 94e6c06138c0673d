use Rattle.std.proofs.Common.{◌≡◌, ℕ, List, Option, map, length, Err, ap, subst, sym, ◌∙◌, inl, inr, arith}
use Rattle.std.proofs.lemmas.Bool.{cases_lt}
use Rattle.bx_base.specs.Bookings.{Row}
use Rattle.bx_colour.specs.Beside.{IsShortOfChannels}
use Rattle.bx_colour.specs.ChangedRows.{IsFirstFitAmong, choices_of}
use Rattle.bx_day.specs.Changed.{AgreesWith}
use Rattle.bx_day.specs.declared.entry.Entry.{Entry}
use Rattle.bx_sales.specs.GoingOn.{own_at, own_of}
use Rattle.bx_sales.proofs.Beside.{begun_apart, agrees_beside}
use Rattle.bx_sales.proofs.going_on.go_on_beside.Goals as goal

pub returns-in-Err-NoChannel-clause-no_channel : goal.returns-in-Err-NoChannel-clause-no_channel
returns-in-Err-NoChannel-clause-no_channel c = λ is fits.
    let d = c.args.exchange.now in
    let own_are : c.deref-2.result.now ≡ own_of d =
    c.deref-2.ensures.value ∙ c.in-Ok.ensures ∙ ap (λ (t : ℕ). map (own_at t) c.entries.result.now) c.moment-moment.ensures.value ∙ ap (λ (es : List Entry). map (own_at d.moment) es) c.entries.ensures in
    let short = subst (λ (o : List (Option ℕ)). IsShortOfChannels c.args.bookings o c.args.channels c.args.marks.now) own_are (c.in-Err-NoChannel.ensures.enough (ap (λ f. Err f) c.in-Err-NoChannel.field-0-is)) in
    short d.moment (begun_apart d c.moment-moment.ensures.state c.args.bookings c.args.marks.now c.requires.keeps) fits

pub returns-in-Err-OtherPlan-clause-more : goal.returns-in-Err-OtherPlan-clause-more
returns-in-Err-OtherPlan-clause-more c = λ is.
    elim (cases_lt (length c.args.exchange.now.entries) (length c.args.bookings)) [
      | inl more ↦ more
      | inr few ↦ absurd (
          let d = c.args.exchange.now in
          let assigned = c.in-Ok-colour_beside.assigned.items in
          let own_are : c.deref-2.result.now ≡ own_of d =
          c.deref-2.ensures.value ∙ c.in-Ok.ensures ∙ ap (λ (t : ℕ). map (own_at t) c.entries.result.now) c.moment-moment.ensures.value ∙ ap (λ (es : List Entry). map (own_at d.moment) es) c.entries.ensures in
          let fit = subst (λ (o : List (Option ℕ)). IsFirstFitAmong c.args.bookings (choices_of o c.args.channels) c.args.marks.now assigned) own_are c.in-Ok-colour_beside.ensures.first_fit in
          let parts = c.in-Some.ensures.parts in
          let agreed = agrees_beside d c.args.bookings c.args.marks.now c.requires.keeps c.args.channels assigned fit (λ more. absurd (omega (arith, more, few))) in
          c.in-Err-OtherPlan.ensures.other.0 (ap (λ f. Err f) c.in-Err-OtherPlan.field-0-is)
          (subst (λ a. AgreesWith d c.in-Some.plan.bookings a) (sym (ap (λ v. v.items) parts.2)) (subst (λ (rs : List Row). AgreesWith d rs assigned) (sym parts.0) agreed)))
    ]

pub returns-in-Err-OtherPlan-clause-took_over : goal.returns-in-Err-OtherPlan-clause-took_over
returns-in-Err-OtherPlan-clause-took_over c = λ is by_row.
    let d = c.args.exchange.now in
    let assigned = c.in-Ok-colour_beside.assigned.items in
    let own_are : c.deref-2.result.now ≡ own_of d =
    c.deref-2.ensures.value ∙ c.in-Ok.ensures ∙ ap (λ (t : ℕ). map (own_at t) c.entries.result.now) c.moment-moment.ensures.value ∙ ap (λ (es : List Entry). map (own_at d.moment) es) c.entries.ensures in
    let fit = subst (λ (o : List (Option ℕ)). IsFirstFitAmong c.args.bookings (choices_of o c.args.channels) c.args.marks.now assigned) own_are c.in-Ok-colour_beside.ensures.first_fit in
    let parts = c.in-Some.ensures.parts in
    let agreed = agrees_beside d c.args.bookings c.args.marks.now c.requires.keeps c.args.channels assigned fit (λ more. by_row) in
    c.in-Err-OtherPlan.ensures.other.0 (ap (λ f. Err f) c.in-Err-OtherPlan.field-0-is)
    (subst (λ a. AgreesWith d c.in-Some.plan.bookings a) (sym (ap (λ v. v.items) parts.2)) (subst (λ (rs : List Row). AgreesWith d rs assigned) (sym parts.0) agreed))
