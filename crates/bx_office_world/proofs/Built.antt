-- The figures of a day, as they are built.
use Rattle.std.proofs.Common.{◌≡◌, ap, ◌∙◌, ℕ, List, ◌++◌, Result, OnOk}
use Rattle.bx_day.specs.Day.{Day}
use Rattle.bx_day.specs.declared.entry.Entry.{Entry}
use Rattle.bx_office_world.specs.Metrics.{family_text, moment_head, bookings_text, pays_text, rows_left_text, maintenance_text, day_text}
use Rattle.bx_office_world.proofs.Pieces.{joined, joined_on}

-- what the exchange tells
pub day_told : {T E : Type 0} (r : Result T E) (t0 t1 t2 t3 t4 t5 : List ℕ) (d : Day) (n : ℕ) (es es' es'' : List Entry) → n ≡ d.moment → es ≡ d.entries → es' ≡ d.entries → es'' ≡ d.entries
    → t1 ≡ t0 ++ family_text moment_head n → t2 ≡ t1 ++ bookings_text es → t3 ≡ t2 ++ pays_text es' → t4 ≡ t3 ++ rows_left_text es'' → OnOk r (t5 ≡ t4 ++ maintenance_text d) → OnOk r (t5 ≡ t0 ++ day_text d)
day_told r t0 t1 t2 t3 t4 t5 d n es es' es'' moment one two three f1 f2 f3 f4 f5 =
    let e1 : t1 ≡ t0 ++ family_text moment_head d.moment = f1 ∙ ap (λ (m : ℕ). t0 ++ family_text moment_head m) moment in
    let g2 : t2 ≡ t1 ++ bookings_text d.entries = f2 ∙ ap (λ (xs : List Entry). t1 ++ bookings_text xs) one in
    let g3 : t3 ≡ t2 ++ pays_text d.entries = f3 ∙ ap (λ (xs : List Entry). t2 ++ pays_text xs) two in
    let g4 : t4 ≡ t3 ++ rows_left_text d.entries = f4 ∙ ap (λ (xs : List Entry). t3 ++ rows_left_text xs) three in
    let e2 : t2 ≡ t0 ++ (family_text moment_head d.moment ++ bookings_text d.entries) = joined t0 t1 t2 (family_text moment_head d.moment) (bookings_text d.entries) e1 g2 in
    let e3 : t3 ≡ t0 ++ (family_text moment_head d.moment ++ bookings_text d.entries ++ pays_text d.entries) = joined t0 t2 t3 (family_text moment_head d.moment ++ bookings_text d.entries) (pays_text d.entries) e2 g3 in
    let e4 : t4 ≡ t0 ++ (family_text moment_head d.moment ++ bookings_text d.entries ++ pays_text d.entries ++ rows_left_text d.entries) = joined t0 t3 t4 (family_text moment_head d.moment ++ bookings_text d.entries ++ pays_text d.entries) (rows_left_text d.entries) e3 g4 in
    joined_on r t0 t4 t5 (family_text moment_head d.moment ++ bookings_text d.entries ++ pays_text d.entries ++ rows_left_text d.entries) (maintenance_text d) e4 f5
