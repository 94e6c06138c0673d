-- A journal that amends the plan by sales alone, and by channels that are left.
use Rattle.std.proofs.Common.{◌≡◌, ◌∙◌, ℕ, Bool, true, List, [], ◌∷◌, ◌++◌, map, sym, append_assoc, append-nil}
use Rattle.bx_base.specs.Bookings.{Row}
use Rattle.bx_events.specs.Events.{LiveEvent, OnLink, WithoutLink, Amended, HeardByRulesTwo}
use Rattle.bx_events.specs.declared.amendment.Amendment.TheVariants.{Sold, Cancelled, Changed, SoldByRulesTwo, Delayed, Dropped, Out}
use Rattle.bx_sales.specs.Journal.{sold_in, rows_after, marks_after}
use Rattle.bx_sales.specs.Tags.{row_behind}
use Rattle.bx_audit.specs.LastPlans.{has_sales_alone}

pub rows_by_sales : (row_on : List ℕ → Row) (events : List LiveEvent) (rows : List Row) → has_sales_alone events ≡ true → rows_after row_on events rows ≡ rows ++ sold_in row_on events
rows_by_sales row_on [] rows alone = sym (append-nil rows)
rows_by_sales row_on (Amended Sold line ∷ events) rows alone =
    rows_by_sales row_on events (rows ++ row_behind row_on line ∷ []) alone ∙ append_assoc rows (row_behind row_on line ∷ []) (sold_in row_on events)
rows_by_sales row_on (Amended Cancelled line ∷ events) rows alone = absurd cc
rows_by_sales row_on (Amended Changed line ∷ events) rows alone = absurd cc
rows_by_sales row_on (Amended SoldByRulesTwo line ∷ events) rows alone =
    rows_by_sales row_on events (rows ++ row_behind row_on line ∷ []) alone ∙ append_assoc rows (row_behind row_on line ∷ []) (sold_in row_on events)
rows_by_sales row_on (Amended Delayed line ∷ events) rows alone = absurd cc
rows_by_sales row_on (Amended Dropped line ∷ events) rows alone = absurd cc
rows_by_sales row_on (Amended Out line ∷ events) rows alone = rows_by_sales row_on events rows alone
rows_by_sales row_on (OnLink event ∷ events) rows alone = rows_by_sales row_on events rows alone
rows_by_sales row_on (WithoutLink rules ∷ events) rows alone = rows_by_sales row_on events rows alone
rows_by_sales row_on (HeardByRulesTwo octets ∷ events) rows alone = rows_by_sales row_on events rows alone

pub marks_by_sales : (row_on : List ℕ → Row) (events : List LiveEvent) (marks : List Bool) → has_sales_alone events ≡ true → marks_after events marks ≡ marks ++ map (λ (row : Row). true) (sold_in row_on events)
marks_by_sales row_on [] marks alone = sym (append-nil marks)
marks_by_sales row_on (Amended Sold line ∷ events) marks alone =
    marks_by_sales row_on events (marks ++ true ∷ []) alone ∙ append_assoc marks (true ∷ []) (map (λ (row : Row). true) (sold_in row_on events))
marks_by_sales row_on (Amended Cancelled line ∷ events) marks alone = absurd cc
marks_by_sales row_on (Amended Changed line ∷ events) marks alone = absurd cc
marks_by_sales row_on (Amended SoldByRulesTwo line ∷ events) marks alone =
    marks_by_sales row_on events (marks ++ true ∷ []) alone ∙ append_assoc marks (true ∷ []) (map (λ (row : Row). true) (sold_in row_on events))
marks_by_sales row_on (Amended Delayed line ∷ events) marks alone = absurd cc
marks_by_sales row_on (Amended Dropped line ∷ events) marks alone = absurd cc
marks_by_sales row_on (Amended Out line ∷ events) marks alone = marks_by_sales row_on events marks alone
marks_by_sales row_on (OnLink event ∷ events) marks alone = marks_by_sales row_on events marks alone
marks_by_sales row_on (WithoutLink rules ∷ events) marks alone = marks_by_sales row_on events marks alone
marks_by_sales row_on (HeardByRulesTwo octets ∷ events) marks alone = marks_by_sales row_on events marks alone
