-- A best choice of a batch that was sold in one step: booking by booking it is put in the journal, on the days on which they are sold in turn.
use Rattle.std.specs.Result.{is_ok}
use Rattle.std.proofs.Common.{OnOk, OnErr, ◌≡◌, ℕ, zero, suc, ◌+◌, ◌<◌, Bool, true, false, cond, List, [], ◌∷◌, ◌++◌, length, drop, Option, Result, Ok, Err, refl, sym, subst, ap, ◌∙◌, arith, append_assoc}
use Rattle.bx_base.specs.Bookings.{Row, row_at, AreBookings}
use Rattle.bx_colour.specs.Colouring.{is_in}
use Rattle.bx_day.specs.Day.{Day}
use Rattle.bx_live.specs.declared.world.CannotLog.{CannotLog}
use Rattle.bx_live.specs.Acts.{Act}
use Rattle.bx_live.specs.Runs.{Between, Over}
use Rattle.bx_sales.specs.Left.{left_below, left_in_service}
use Rattle.bx_sales.specs.Sold.{AreSoldInTurn}
use Rattle.bx_sales.specs.declared.tag.Tag.{Tag}
use Rattle.bx_market.specs.declared.market.Answer.{Answer}
use Rattle.bx_market.specs.declared.market.Answer.TheVariants.{Accepted, Refused}
use Rattle.bx_market.specs.Choices.{is_eligible, IsBestBatch}
use Rattle.bx_market.specs.Choosing.{chosen_rows}
use Rattle.bx_market.specs.Deals.{Deal, all_ran, sold_of}
use Rattle.bx_market.specs.Offers.{Asks, IsOffered, IsOfferSettled, IsSoldWhere, IsNotedInAny, OrOver, TellsOfAny, why_not}
use Rattle.bx_market.specs.Stands.{Within, Filing}
use Rattle.bx_market.proofs.Batches.{sold_none, offered_more, or_more}
use Rattle.bx_market.proofs.Settled.{AreSettled, as_result, none_settled, step, all_told}
use Rattle.bx_market.proofs.Steps.{none_asked, then_asked, at_stand}

-- ---- the chosen bookings, one more looked at

chosen_next : (batch : List Row) (chosen : List Bool) (i : ℕ) → i < length batch → length chosen ≡ length batch → chosen_rows (drop i batch) (drop i chosen) ≡ cond (is_in chosen i) (row_at batch i ∷ chosen_rows (drop (suc i) batch) (drop (suc i) chosen)) (chosen_rows (drop (suc i) batch) (drop (suc i) chosen))
chosen_next [] chosen i lt count = absurd (omega (arith, lt))
chosen_next (row ∷ batch) [] i lt count = absurd (omega (arith, count))
chosen_next (row ∷ batch) (true ∷ chosen) zero lt count = refl
chosen_next (row ∷ batch) (false ∷ chosen) zero lt count = refl
chosen_next (row ∷ batch) (c ∷ chosen) (suc i) lt count = chosen_next batch chosen i (omega (arith, lt)) (omega (arith, count))

module _ (batch : List Row) (chosen : List Bool) (i : ℕ) (lt : i < length batch) (count : length chosen ≡ length batch) (old new whole : List Row) (before : old ++ chosen_rows (drop i batch) (drop i chosen) ≡ whole) where
  abbrev rest : List Row
  rest = chosen_rows (drop (suc i) batch) (drop (suc i) chosen)

  at_next : new ++ rest ≡ whole → new ++ chosen_rows (drop (i + 1) batch) (drop (i + 1) chosen) ≡ whole
  at_next e = let n : suc i ≡ i + 1 = omega arith in subst (λ (k : ℕ). new ++ chosen_rows (drop k batch) (drop k chosen) ≡ whole) n e

  pub chosen_then : is_in chosen i ≡ true → (row : Row) → row ≡ row_at batch i → new ≡ old ++ row ∷ [] → new ++ chosen_rows (drop (i + 1) batch) (drop (i + 1) chosen) ≡ whole
  chosen_then marked row is added =
      let next : chosen_rows (drop i batch) (drop i chosen) ≡ row_at batch i ∷ rest = chosen_next batch chosen i lt count ∙ ap (λ (b : Bool). cond b (row_at batch i ∷ rest) rest) marked in
      at_next (ap (λ (l : List Row). l ++ rest) (added ∙ ap (λ (r : Row). old ++ r ∷ []) is) ∙ (append_assoc old (row_at batch i ∷ []) rest ∙ (ap (λ (l : List Row). old ++ l) (sym next) ∙ before)))

  pub chosen_else : is_in chosen i ≡ false → new ≡ old → new ++ chosen_rows (drop (i + 1) batch) (drop (i + 1) chosen) ≡ whole
  chosen_else unmarked same =
      let next : chosen_rows (drop i batch) (drop i chosen) ≡ rest = chosen_next batch chosen i lt count ∙ ap (λ (b : Bool). cond b (row_at batch i ∷ rest) rest) unmarked in
      at_next (ap (λ (l : List Row). l ++ rest) same ∙ (ap (λ (l : List Row). old ++ l) (sym next) ∙ before))

pub none_left : (batch : List Row) (chosen : List Bool) → chosen_rows (drop (length batch) batch) (drop (length batch) chosen) ≡ []
none_left [] chosen = refl
none_left (row ∷ batch) [] = nothing (drop (length batch) batch) where
  nothing : (rows : List Row) → chosen_rows rows [] ≡ []
  nothing [] = refl
  nothing (r ∷ rows) = refl
none_left (row ∷ batch) (c ∷ chosen) = none_left batch chosen

-- ---- the day on which the first of them are in the journal

pub record AreNoted {W : Type 0} (dealt : W → List Deal → W → Type 0) (channels : List Bool) (u v : W) (d d1 : Day) (tag : Option Tag) (batch : List Row) (chosen : List Bool) (answers : List Answer) (index : ℕ) : Type 0 where
  pub now : Day
  pub left : AreSoldInTurn (left_in_service channels d) (chosen_rows (drop index batch) (drop index chosen)) now d1
  pub settled : AreSettled (left_in_service channels d) d batch chosen now answers
  pub run : Asks dealt channels u v (Filing d d tag batch []) (Filing d now tag batch (sold_of batch answers))

-- none is looked at yet
module _ {W : Type 0} {did : W → List Act → W → Type 0} {dealt : W → List Deal → W → Type 0} (channels : List Bool) (by : (v w : W) (acts : List Act) → did v acts w → dealt v (all_ran acts) w) (none : (w : W) → did w [] w) where
  pub none_noted : (u : W) (d d1 : Day) (tag : Option Tag) (batch : List Row) (chosen : List Bool) (answers : List Answer) → answers ≡ [] → AreSoldInTurn (left_in_service channels d) (chosen_rows batch chosen) d d1 → AreNoted dealt channels u u d d1 tag batch chosen answers 0
  none_noted u d d1 tag batch chosen answers empty sold =
      let nothing : sold_of batch answers ≡ [] = ap (sold_of batch) empty ∙ sold_none batch in record {
        now = d;
        left = sold;
        settled = none_settled (left_in_service channels d) d batch chosen answers empty;
        run = at_stand (Filing d d tag batch []) (Filing d d tag batch (sold_of batch answers)) (ap (Filing d d tag batch) (sym nothing)) (none_asked channels by none u (Filing d d tag batch []));
      }

-- the day after the next one
record IsSoldWhereOf (channels : List Bool) (is_chosen : Bool) (row : Row) (rest : List Row) (now d1 : Day) : Type 0 where
  next : Day
  is : IsSoldWhere channels is_chosen row now next
  left : AreSoldInTurn channels rest next d1
  moment : next.moment ≡ now.moment

next_of : (channels : List Bool) (b : Bool) (row : Row) (rest rows : List Row) (now d1 : Day) → rows ≡ cond b (row ∷ rest) rest → AreSoldInTurn channels rows now d1 → IsSoldWhereOf channels b row rest now d1
next_of channels true row more rows now d1 are sold =
    let (next, is, left) = subst (λ (rs : List Row). AreSoldInTurn channels rs now d1) are sold in
    record { next = next; is = is; left = left; moment = ap (λ (x : Day). x.moment) is.gone_on.day }
next_of channels false row more rows now d1 are sold = record { next = now; is = refl; left = subst (λ (rs : List Row). AreSoldInTurn channels rs now d1) are sold; moment = refl }

module _ {W : Type 0} (dealt : W → List Deal → W → Type 0) (more : (u v w : W) (xs ys : List Deal) → dealt u xs v → dealt v ys w → dealt u (xs ++ ys) w) (channels : List Bool) (u v w : W) (d d1 : Day) (tag : Option Tag) (batch : List Row) (chosen : List Bool) (best : IsBestBatch (left_in_service channels d) d batch chosen)
    (answers : List Answer) (i : ℕ) (noted : AreNoted dealt channels u v d d1 tag batch chosen answers i) (at : length answers ≡ i) (lt : i < length batch) where
  abbrev on_left : List Bool
  on_left = left_in_service channels d

  -- on the days on the way the same channels are left
  same_left : left_in_service channels noted.now ≡ on_left
  same_left = ap (λ (lost : List Bool). left_below 32 lost channels) noted.settled.maintenance

  here : (b : Bool) → b ≡ is_in chosen i → IsSoldWhereOf on_left b (row_at batch i) (chosen_rows (drop (suc i) batch) (drop (suc i) chosen)) noted.now d1
  here b is = subst (λ (c : Bool). IsSoldWhereOf on_left c (row_at batch i) (chosen_rows (drop (suc i) batch) (drop (suc i) chosen)) noted.now d1) (sym is)
      (next_of on_left (is_in chosen i) (row_at batch i) (chosen_rows (drop (suc i) batch) (drop (suc i) chosen)) (chosen_rows (drop i batch) (drop i chosen)) noted.now d1 (chosen_next batch chosen i lt best.one_each) noted.left)

  settled_so : (b : Bool) (a : Answer) (next : Day) → IsSoldWhere on_left b (row_at batch i) noted.now next → a ≡ Accepted → b ≡ true → IsOfferSettled on_left (row_at batch i) noted.now next (Ok a)
  settled_so b a next is accepted marked =
      subst (λ (x : Answer). IsOfferSettled on_left (row_at batch i) noted.now next (Ok x)) (sym accepted) (subst (λ (c : Bool). IsSoldWhere on_left c (row_at batch i) noted.now next) marked is)

  next_sold : (b : Bool) (row : Row) → row ≡ row_at batch i → (next : Day) → IsSoldWhere on_left b (row_at batch i) noted.now next → IsSoldWhere (left_in_service channels noted.now) b row noted.now next
  next_sold b row row_is next is = subst (λ (l : List Bool). IsSoldWhere l b row noted.now next) (sym same_left) (subst (λ (r : Row). IsSoldWhere on_left b r noted.now next) (sym row_is) is)

  -- one booking more
  pub noted_next : AreBookings batch → (a : Answer) (row : Row) (eligible is_chosen : Bool) → row ≡ row_at batch i → eligible ≡ is_eligible d batch i → is_chosen ≡ is_in chosen i
      → IsNotedInAny dealt tag v w row is_chosen (Ok a) → (is_chosen ≡ true → a ≡ Accepted) → (is_chosen ≡ false → as_result a ≡ as_result (Refused (why_not d.moment row eligible)))
      → AreNoted dealt channels u w d d1 tag batch chosen (answers ++ a ∷ []) (i + 1)
  noted_next bookings a row eligible is_chosen row_is eligible_is chosen_is in_any accepted left_out =
      let n = here is_chosen chosen_is in
      let sold = sold_of batch answers in
      let next_is : IsSoldWhere (left_in_service channels noted.now) is_chosen row noted.now n.next = next_sold is_chosen row row_is n.next n.is in
      let offered : IsOffered dealt channels tag v w d batch sold row noted.now n.next (Ok a) = in_any channels d noted.now n.next batch sold next_is in
      let so : is_chosen ≡ true → IsOfferSettled on_left row noted.now n.next (Ok a) = λ h. subst (λ (r : Row). IsOfferSettled on_left r noted.now n.next (Ok a)) (sym row_is) (settled_so is_chosen a n.next n.is (accepted h) h) in
      let left : is_chosen ≡ false → as_result a ≡ as_result (Refused (why_not noted.now.moment row eligible)) = λ h. left_out h ∙ ap (λ (t : ℕ). as_result (Refused (why_not t row eligible))) (sym noted.settled.moment) in
      let k : suc i ≡ i + 1 = omega arith in record {
        now = n.next;
        left = subst (λ (j : ℕ). AreSoldInTurn on_left (chosen_rows (drop j batch) (drop j chosen)) n.next d1) k n.left;
        settled = step on_left d batch chosen best noted.now answers noted.settled i at lt bookings dealt channels tag v w n.next a row eligible is_chosen row_is eligible_is chosen_is n.moment offered so left;
        run = then_asked more noted.run (offered_more channels tag v w d noted.now n.next batch answers a i row offered row_is at lt);
      }

  -- it could not be logged
  pub noted_over : (row : Row) (is_chosen : Bool) (fault : CannotLog) → row ≡ row_at batch i → is_chosen ≡ is_in chosen i → IsNotedInAny dealt tag v w row is_chosen (Err fault) → (over : Day) × Asks dealt channels u w (Filing d d tag batch []) (Within (Over over))
  noted_over row is_chosen fault row_is chosen_is in_any =
      let n = here is_chosen chosen_is in
      let next_is : IsSoldWhere (left_in_service channels noted.now) is_chosen row noted.now n.next = next_sold is_chosen row row_is n.next n.is in
      let bad = in_any channels d noted.now n.next batch (sold_of batch answers) next_is in
      (bad.0, then_asked more noted.run bad.1)

-- all of them are in the journal, and are told
module _ {W : Type 0} (dealt : W → List Deal → W → Type 0) (more : (u v w : W) (xs ys : List Deal) → dealt u xs v → dealt v ys w → dealt u (xs ++ ys) w) (channels : List Bool) (u v w : W) (d d1 : Day) (tag : Option Tag) (batch : List Row) (chosen : List Bool) (best : IsBestBatch (left_in_service channels d) d batch chosen)
    (answers : List Answer) (i : ℕ) (noted : AreNoted dealt channels u v d d1 tag batch chosen answers i) where
  pub noted_all : i ≡ length batch → length answers ≡ length batch → (is_any_sold : Bool) → (is_any_sold ≡ false → sold_of batch answers ≡ []) → (result : Result (Unit {0}) CannotLog) → TellsOfAny dealt v w answers is_any_sold result
      → OrOver dealt channels u w (Filing d d tag batch []) (Within (Between d1)) result
  noted_all at count is_any_sold none result tells =
      let left = subst (λ (j : ℕ). AreSoldInTurn (left_in_service channels d) (chosen_rows (drop j batch) (drop j chosen)) noted.now d1) at noted.left in
      let last : d1 ≡ noted.now = subst (λ (rs : List Row). AreSoldInTurn (left_in_service channels d) rs noted.now d1) (none_left batch chosen) left in
      let told = all_told (left_in_service channels d) d batch chosen best noted.now answers noted.settled count in
      let on = tells channels d noted.now tag batch told none in
      or_more channels more u v w (Filing d d tag batch []) (Filing d noted.now tag batch (sold_of batch answers)) (Within (Between d1)) result noted.run
      (subst (λ (x : Day). OrOver dealt channels v w (Filing d noted.now tag batch (sold_of batch answers)) (Within (Between x)) result) (sym last) on)

-- the moment stays
pub moment_sold : (channels : List Bool) (rows : List Row) (d d1 : Day) → AreSoldInTurn channels rows d d1 → d1.moment ≡ d.moment
moment_sold channels [] d d1 same = ap (λ (x : Day). x.moment) same
moment_sold channels (row ∷ rows) d d1 (next, is, rest) = moment_sold channels rows next d1 rest ∙ ap (λ (x : Day). x.moment) is.gone_on.day

-- what is known of an answer that is well
pub ok_is : {A E P : Type 0} (r : Result A E) → true ≡ is_ok r → OnOk r P → P
ok_is (Ok a) well p = p
ok_is (Err e) well p = absurd cc

-- and of one that is not
pub bad_is : {A E P : Type 0} (r : Result A E) → false ≡ is_ok r → OnErr r P → P
bad_is (Ok a) bad p = absurd cc
bad_is (Err e) bad p = p

pub always_ok : {A E P : Type 0} (r : Result A E) → P → OnOk r P
always_ok (Ok a) p = p
always_ok (Err e) p = tt
