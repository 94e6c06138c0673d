-- The day of a run is that of the last plan, by the law of journals.
use Rattle.std.proofs.Common.{◌≡◌, ℕ, Bool, List, [], ◌∷◌, ◌++◌, length, Option, refl, sym, ap, ◌∙◌, subst}
use Rattle.bx_base.specs.Bookings.{Row, AreBookings, Carries}
use Rattle.bx_base.specs.Plans.{is_accepted, channel_at}
use Rattle.bx_colour.specs.Colouring.{IsFirstFit}
use Rattle.bx_day.specs.Day.{Day, opening}
use Rattle.bx_day.specs.Outages.{live_happens, live_day_after}
use Rattle.bx_events.specs.Events.{LiveEvent, OnLink, WithoutLink, Amended, HeardByRulesTwo}
use Rattle.bx_sales.specs.Journal.{RunsThrough, rows_after, marks_after, AreAllLeft}
use Rattle.bx_sales.proofs.Journal.{told_by, through_more}
use Rattle.bx_planfile.specs.OneBooking.{row_on}

-- the events before that do not amend the plan
abbrev others : List LiveEvent → List LiveEvent
others [] = []
others (Amended kind line ∷ events) = others events
others (OnLink event ∷ events) = OnLink event ∷ others events
others (WithoutLink rules ∷ events) = WithoutLink rules ∷ others events
others (HeardByRulesTwo octets ∷ events) = HeardByRulesTwo octets ∷ others events

others_day : (events more : List LiveEvent) (d : Day) → live_day_after (others events ++ more) d ≡ live_day_after (events ++ more) d
others_day [] more d = refl
others_day (Amended kind line ∷ events) more d = others_day events more d
others_day (OnLink event ∷ events) more d = others_day events more (live_happens d (OnLink event)).day
others_day (WithoutLink rules ∷ events) more d = others_day events more (live_happens d (WithoutLink rules)).day
others_day (HeardByRulesTwo octets ∷ events) more d = others_day events more (live_happens d (HeardByRulesTwo octets)).day

others_rows : (events more : List LiveEvent) (rows : List Row) → rows_after row_on (others events ++ more) rows ≡ rows_after row_on more rows
others_rows [] more rows = refl
others_rows (Amended kind line ∷ events) more rows = others_rows events more rows
others_rows (OnLink event ∷ events) more rows = others_rows events more rows
others_rows (WithoutLink rules ∷ events) more rows = others_rows events more rows
others_rows (HeardByRulesTwo octets ∷ events) more rows = others_rows events more rows

others_marks : (events more : List LiveEvent) (marks : List Bool) → marks_after (others events ++ more) marks ≡ marks_after more marks
others_marks [] more marks = refl
others_marks (Amended kind line ∷ events) more marks = others_marks events more marks
others_marks (OnLink event ∷ events) more marks = others_marks events more marks
others_marks (WithoutLink rules ∷ events) more marks = others_marks events more marks
others_marks (HeardByRulesTwo octets ∷ events) more marks = others_marks events more marks

through_others : (channels : List Bool) (events : List LiveEvent) (d : Day) → RunsThrough channels row_on (others events) d (live_day_after events d)
through_others channels [] d = refl
through_others channels (Amended kind line ∷ events) d = through_others channels events d
through_others channels (OnLink event ∷ events) d = through_others channels events (live_happens d (OnLink event)).day
through_others channels (WithoutLink rules ∷ events) d = through_others channels events (live_happens d (WithoutLink rules)).day
through_others channels (HeardByRulesTwo octets ∷ events) d = through_others channels events (live_happens d (HeardByRulesTwo octets)).day

pub day_following : (channels : List Bool) (rows : List Row) (accepted : List Bool) (assigned : List (Option ℕ)) (earlier events : List LiveEvent) (d d1 : Day) → length accepted ≡ length rows → AreBookings rows → Carries rows channels (is_accepted assigned) (channel_at assigned) → IsFirstFit rows channels accepted assigned
    → d ≡ live_day_after earlier (opening rows assigned) → RunsThrough channels row_on events d d1 → AreAllLeft channels d1 → (last : List (Option ℕ))
    → IsFirstFit (rows_after row_on events rows) channels (marks_after events accepted) last → d1 ≡ live_day_after (earlier ++ events) (opening (rows_after row_on events rows) last)
day_following channels rows accepted assigned earlier events d d1 count bookings carries first is through left last fit =
    let all = others earlier ++ events in
    let a = opening rows assigned in
    let run = through_more channels row_on (others earlier) events a d d1 (subst (λ (x : Day). RunsThrough channels row_on (others earlier) a x) (sym is) (through_others channels earlier a)) through in
    let same : rows_after row_on all rows ≡ rows_after row_on events rows = others_rows earlier events rows in
    let marks : marks_after all accepted ≡ marks_after events accepted = others_marks earlier events accepted in
    let fits = subst (λ (ms : List Bool). IsFirstFit (rows_after row_on all rows) channels ms last) (sym marks) (subst (λ (rs : List Row). IsFirstFit rs channels (marks_after events accepted) last) (sym same) fit) in
    let told = told_by channels row_on rows accepted assigned all d1 count bookings carries first run left last fits in
    told ∙ (ap (λ (rs : List Row). live_day_after all (opening rs last)) same ∙ others_day earlier events (opening (rows_after row_on events rows) last))
