-- Days of both ends over a link that is lost: what is left of it, second by second, and what is carried behind it.
use Rattle.std.proofs.Common.{◌≡◌, ◌≢◌, inl, inr, ℕ, zero, suc, ◌+◌, ◌≤◌, ◌<◌, ◌==◌, max, not, Bool, true, false, List, [], ◌∷◌, ◌++◌, length, replicate, slice_index_or, Option, Some, None, refl, sym, ap, subst, ◌∙◌, arith, if◌then◌else◌}
use Rattle.std.specs.List.{AllByRecursion}
use Rattle.std.proofs.Math.Nat.{le-max_left, le-max_right}
use Rattle.std.proofs.lemmas.Bool.{eq-eqb, true≢false, false≢true, cases_lt, cases_eq}
use Rattle.bx_base.specs.Bookings.{Row, row_at, is_running, AreBookings, Carries}
use Rattle.bx_base.specs.Channels.{IsChannelSet}
use Rattle.bx_base.specs.Plans.{is_accepted, channel_at}
use Rattle.bx_channels.specs.Marks.{is_marked}
use Rattle.bx_q931.specs.Outgoing.{Outgoing}
use Rattle.bx_calls.specs.NetTable.{net_is_clearing, net_second}
use Rattle.bx_calls.specs.PlainCalls.{PlainNetCall, PlainUserCall}
use Rattle.bx_day.specs.Day.{Day, entry_at, is_back, is_held, is_live}
use Rattle.bx_day.specs.Invariant.{StandingFits}
use Rattle.bx_day.specs.Law.{OnLive, standing_at}
use Rattle.bx_day.specs.Moves.{is_active}
use Rattle.bx_day.specs.Ticks.{tick}
use Rattle.bx_day.specs.declared.entry.Activity.{Activity}
use Rattle.bx_day.specs.declared.entry.Entry.{Entry}
use Rattle.bx_day.specs.declared.entry.Standing.{Standing}
use Rattle.bx_day.specs.declared.entry.Standing.TheVariants.{OnCall, Carried}
use Rattle.bx_day.proofs.OpeningDay.{opening_at}
use Rattle.bx_day.proofs.SlotLemmas.{holds_parts}
use Rattle.bx_far.specs.FarDay.{holder, far_tick}
use Rattle.bx_far.specs.declared.row.ScriptRow.{ScriptRow}
use Rattle.bx_far.specs.declared.row.ScriptRow.TheVariants.{Follows, Calls}
use Rattle.bx_two_ends.specs.Earning.{seconds_after, has_link, is_settled, is_settled_in, is_going, IsAllAnswered, AreAnswered, IsAlone, IsCarriedBy}
use Rattle.bx_two_ends.specs.Lockstep.{Ends, far_heard, far_says, exchange_says, received_in, ends_after, ends_opening, turns_from, AnswersAtOnce}
use Rattle.bx_two_ends.specs.LossyLink.{LinkSecond, Whole, Cut, Lost, coming, ends_cut, ends_apart, ends_in, ends_over, day_of_both, LosesWithLink, IsLongBehind, answers_in, calls_in, replies_of}
use Rattle.bx_two_ends.proofs.OneChannel.{Left, none_waits, IsPart, messages_on, NearTicks, near_left, near_outlasts, far_outlasts}
use Rattle.bx_two_ends.proofs.Answering.{going_live}
use Rattle.bx_two_ends.proofs.Calm.{IsCalm, Stands, IsDueIn, booked_run, settled_cleared}
use Rattle.bx_two_ends.proofs.Carrying.{IsUp, IsQuietCall, is_pressed, active_up, going_runs}
use Rattle.bx_two_ends.proofs.ChannelDays.{BetweenBy, Between, PairOn, IsComing}
use Rattle.bx_two_ends.proofs.ChannelDays as days
use Rattle.bx_two_ends.proofs.ChannelMessages.{IsToFar, IsToNear}
use Rattle.bx_two_ends.proofs.ChannelStates.{IsLoose, IsLost, IsSettling, Idle, Talking, Waiting, Clearing, IsActiveHere, active_is, IsUnbrokenNear, IsKeptOn, TurnLeavesBy, TurnLeaves, asked_by, asked_in, passed_by, passed_in_turn, left_in}
use Rattle.bx_two_ends.proofs.EarnedDays.{alone_in, runs_from, waits_of}
use Rattle.bx_two_ends.proofs.FarCalled.{at_once}
use Rattle.bx_two_ends.proofs.FarChannel.{IsFollowed, far_opens}
use Rattle.bx_two_ends.proofs.Naming.{live_inside}
use Rattle.bx_two_ends.proofs.ChannelTurns.{loose_of, lost_loose, lost_after, lost_kept, lost_called, settling_called, lost_whole, settling_whole, lost_cut, settling_cut}
use Rattle.bx_two_ends.proofs.NearChannel.{chan_of, ends_of, NearFits, near_opens, near_unique}
use Rattle.bx_two_ends.proofs.Turning.{fits_at, held_by, live_accepted, runs_of}

-- ---- which messages come: all, or some

abbrev AllCome : List Outgoing → List Outgoing → Type 0
AllCome xs ys = xs ≡ ys

pub whole_comes : (chan : ℕ → ℕ) → IsComing chan AllCome
whole_comes chan = record {
  on = λ k xs ys is. ap (messages_on chan k) is;
  calls = λ xs ys is all. subst (AllByRecursion (IsToFar chan)) (sym is) all;
  answers = λ xs ys is all. subst (AllByRecursion IsToNear) (sym is) all;
  same = λ xs. refl;
}

part_all : (P : Outgoing → Type 0) (xs ys : List Outgoing) → IsPart xs ys → AllByRecursion P ys → AllByRecursion P xs
part_all P xs [] is all = subst (AllByRecursion P) (sym is) tt
part_all P xs (y ∷ ys) (inl p) all = part_all P xs ys p all.1
part_all P xs (y ∷ ys) (inr p) all = subst (AllByRecursion P) (sym p.1) (all.0, part_all P p.0 ys p.2 all.1)

part_same : (xs : List Outgoing) → IsPart xs xs
part_same [] = refl
part_same (x ∷ xs) = inr (xs, refl, part_same xs)

part_on : (chan : ℕ → ℕ) (k : ℕ) (xs ys : List Outgoing) → IsPart xs ys → IsPart (messages_on chan k xs) (messages_on chan k ys)
part_on chan k xs [] is = ap (messages_on chan k) is
part_on chan k xs (y ∷ ys) (inl p) = at (chan y.reference == k) (part_on chan k xs ys p)
  where
    at : (b : Bool) → IsPart (messages_on chan k xs) (messages_on chan k ys) → IsPart (messages_on chan k xs) (if b then y ∷ messages_on chan k ys else messages_on chan k ys)
    at true q = inl q
    at false q = q
part_on chan k xs (y ∷ ys) (inr p) = subst (λ zs. IsPart (messages_on chan k zs) (messages_on chan k (y ∷ ys))) (sym p.1) (at (chan y.reference == k) (part_on chan k p.0 ys p.2))
  where
    at : (b : Bool) → IsPart (messages_on chan k p.0) (messages_on chan k ys) → IsPart (if b then y ∷ messages_on chan k p.0 else messages_on chan k p.0) (if b then y ∷ messages_on chan k ys else messages_on chan k ys)
    at true q = inr (messages_on chan k p.0, refl, q)
    at false q = q

pub part_comes : (chan : ℕ → ℕ) → IsComing chan IsPart
part_comes chan = record {
  on = part_on chan;
  calls = λ xs ys is all. part_all (IsToFar chan) xs ys is all;
  answers = λ xs ys is all. part_all IsToNear xs ys is all;
  same = part_same;
}

none_come : (ys : List Outgoing) → IsPart [] ys
none_come [] = refl
none_come (y ∷ ys) = inl (none_come ys)

coming_part : (flags : List Bool) (ys : List Outgoing) → IsPart (coming flags ys) ys
coming_part [] ys = none_come ys
coming_part (b ∷ bs) [] = refl
coming_part (true ∷ bs) (y ∷ ys) = inr (coming bs ys, refl, coming_part bs ys)
coming_part (false ∷ bs) (y ∷ ys) = inl (coming_part bs ys)

-- ---- a day between two seconds

module _ (rows : List Row) (assigned : List (Option ℕ)) where
  abbrev Ending : ℕ → ℕ
  Ending = ends_of rows

  -- after a second without a link; with a whole link since moment b
  abbrev pub Apart : ℕ → Ends → Type 0
  Apart t e = Between rows assigned (λ k v w. IsLost Ending k t v w) t e × (is_back e.exchange ≡ true)

  abbrev pub Settling : ℕ → ℕ → Ends → Type 0
  Settling b t e = Between rows assigned (λ k v w. IsSettling Ending k b t v w) t e

  -- each second finds one of these
  pub data Ready (t : ℕ) (e : Ends) : Type 0 where
    Behind : Apart t e → Ready t e
    Settles : (b : ℕ) → b ≤ t → Settling b t e → Ready t e

  -- ---- a whole turn

  whole_step : (wait : Option (List ℕ) → ℕ) (Pairs Leaves : ℕ → Option PlainNetCall → Option PlainUserCall → Type 0) (t : ℕ) (back : Bool)
      → ((k : ℕ) (near : Option PlainNetCall) (far : Option PlainUserCall) (called : Left PlainNetCall) → Pairs k near far → NearTicks Ending back k (t + 1) near called → TurnLeavesBy wait (Leaves k) Ending k t far called called.said ((asked_by wait k t far called.said).said ++ (passed_by wait k t far called.said).said) (left_in t called ((asked_by wait k t far called.said).said ++ (passed_by wait k t far called.said).said)).said)
      → (k : ℕ) (near : Option PlainNetCall) (far : Option PlainUserCall) (called : Left PlainNetCall) (come received replies : List Outgoing) → Pairs k near far → NearTicks Ending back k (t + 1) near called → come ≡ called.said → received ≡ (asked_by wait k t far come).said ++ (passed_by wait k t far come).said → replies ≡ (left_in t called received).said → TurnLeavesBy wait (Leaves k) Ending k t far called come received replies
  whole_step wait Pairs Leaves t back f k near far called come received replies pair ticks a b c =
      subst (λ xs. TurnLeavesBy wait (Leaves k) Ending k t far called come received xs) (sym c)
      (subst (λ xs. TurnLeavesBy wait (Leaves k) Ending k t far called come xs (left_in t called xs).said) (sym b)
      (subst (λ xs. TurnLeavesBy wait (Leaves k) Ending k t far called xs ((asked_by wait k t far xs).said ++ (passed_by wait k t far xs).said) (left_in t called ((asked_by wait k t far xs).said ++ (passed_by wait k t far xs).said)).said) (sym a)
      (f k near far called pair ticks)))

  lost_step : (t : ℕ) (back : Bool) → back ≡ true → (k : ℕ) (near : Option PlainNetCall) (far : Option PlainUserCall) (called : Left PlainNetCall) → IsLost Ending k t near far → NearTicks Ending back k (t + 1) near called → TurnLeaves (IsSettling Ending k t (t + 1)) Ending k t far called called.said ((asked_in k t far called.said).said ++ (passed_in_turn k t far called.said).said) (left_in t called ((asked_in k t far called.said).said ++ (passed_in_turn k t far called.said).said)).said
  lost_step t back is k near far called pair ticks = lost_whole Ending k t near far called pair (subst (λ b. NearTicks Ending b k (t + 1) near called) is ticks)

  -- what a turn leaves, and which calls it keeps
  pub record TurnedBy (wait : Option (List ℕ) → ℕ) (Leaves : ℕ → Option PlainNetCall → Option PlainUserCall → Type 0) (t : ℕ) (e after : Ends) : Type 0 where
    pub left : BetweenBy wait rows assigned Leaves (t + 1) after
    pub called : NearFits rows assigned (t + 1) (tick e.exchange).day
    pub kept : (i : ℕ) → is_live (standing_at (tick e.exchange).day i) ≡ true → t + 1 < (row_at rows i).end → is_live (standing_at after.exchange i) ≡ true

  -- the same where none waits
  abbrev pub Turned : (ℕ → Option PlainNetCall → Option PlainUserCall → Type 0) → ℕ → Ends → Ends → Type 0
  Turned Leaves t e after = TurnedBy none_waits Leaves t e after

  pub whole_turn : (wait : Option (List ℕ) → ℕ) (Pairs Leaves : ℕ → Option PlainNetCall → Option PlainUserCall → Type 0) (t : ℕ) (e : Ends) → t < 300000 → BetweenBy wait rows assigned Pairs t e
      → ((k : ℕ) (c : PlainNetCall) (far : Option PlainUserCall) → Pairs k (Some c) far → IsUnbrokenNear (net_second c (t + 1) (Ending c.reference)).next × IsKeptOn Ending (t + 1) (Some c) (near_left (net_second c (t + 1) (Ending c.reference)).next))
      → ((k : ℕ) (near : Option PlainNetCall) (far : Option PlainUserCall) (called : Left PlainNetCall) → Pairs k near far → NearTicks Ending (is_back e.exchange) k (t + 1) near called → TurnLeavesBy wait (Leaves k) Ending k t far called called.said ((asked_by wait k t far called.said).said ++ (passed_by wait k t far called.said).said) (left_in t called ((asked_by wait k t far called.said).said ++ (passed_by wait k t far called.said).said)).said)
      → TurnedBy wait Leaves t e (ends_after e)
  whole_turn wait Pairs Leaves t e early h unbroken f =
      let step = whole_step wait Pairs Leaves t (is_back e.exchange) f in
      record {
        left = days.between_after rows assigned wait AllCome (whole_comes (chan_of assigned)) Pairs Leaves t e early h unbroken step (tick e.exchange).sent refl (received_in e) refl (exchange_says (received_in e) (tick e.exchange).day) refl;
        called = (days.ticked rows assigned wait AllCome (whole_comes (chan_of assigned)) Pairs Leaves t e early h unbroken step (tick e.exchange).sent refl).fits;
        kept = days.kept_live rows assigned wait AllCome (whole_comes (chan_of assigned)) Pairs Leaves t e early h unbroken step (tick e.exchange).sent refl (received_in e) refl (exchange_says (received_in e) (tick e.exchange).day) refl;
      }

  pub settling_turn : (b t : ℕ) (e : Ends) → t < 300000 → Settling b t e → Turned (λ k v w. IsSettling Ending k b (t + 1) v w) t e (ends_after e)
  settling_turn b t e early h = whole_turn none_waits (λ k v w. IsSettling Ending k b t v w) (λ k v w. IsSettling Ending k b (t + 1) v w) t e early h
      (λ k c far p. settling_called Ending k b t c far p) (λ k near far called p ticks. settling_whole Ending (is_back e.exchange) k b t near far called p ticks)

  pub apart_turn : (t : ℕ) (e : Ends) → t < 300000 → Apart t e → Turned (λ k v w. IsSettling Ending k t (t + 1) v w) t e (ends_after e)
  apart_turn t e early h = whole_turn none_waits (λ k v w. IsLost Ending k t v w) (λ k v w. IsSettling Ending k t (t + 1) v w) t e early h.0
      (λ k c far p. lost_called Ending k t c far p) (lost_step t (is_back e.exchange) h.1)

  -- ---- a turn that is cut

  part_turn : (Pairs : ℕ → Option PlainNetCall → Option PlainUserCall → Type 0) (calls answers replies : List Bool) (t : ℕ) (e : Ends) → t < 300000 → Between rows assigned Pairs t e
      → ((k : ℕ) (c : PlainNetCall) (far : Option PlainUserCall) → Pairs k (Some c) far → IsUnbrokenNear (net_second c (t + 1) (Ending c.reference)).next × IsKeptOn Ending (t + 1) (Some c) (near_left (net_second c (t + 1) (Ending c.reference)).next))
      → ((k : ℕ) (near : Option PlainNetCall) (far : Option PlainUserCall) (called : Left PlainNetCall) (come received said : List Outgoing) → Pairs k near far → NearTicks Ending (is_back e.exchange) k (t + 1) near called → IsPart come called.said → IsPart received ((asked_in k t far come).said ++ (passed_in_turn k t far come).said) → IsPart said (left_in t called received).said → TurnLeaves (IsLoose Ending k (t + 1)) Ending k t far called come received said)
      → Turned (λ k v w. IsLoose Ending k (t + 1) v w) t e (ends_cut calls answers replies e)
  part_turn Pairs calls answers replies t e early h unbroken f =
      let come = calls_in calls e in
      let first = coming_part calls (tick e.exchange).sent in
      let received = answers_in calls answers e in
      let second = coming_part answers (e.pending ++ (far_says come e.far ++ (far_tick (far_heard come e.far)).sent)) in
      let said = replies_of calls answers replies e in
      let third = coming_part replies (exchange_says received (tick e.exchange).day) in
      record {
        left = days.between_after rows assigned none_waits IsPart (part_comes (chan_of assigned)) Pairs (λ k v w. IsLoose Ending k (t + 1) v w) t e early h unbroken f come first received second said third;
        called = (days.ticked rows assigned none_waits IsPart (part_comes (chan_of assigned)) Pairs (λ k v w. IsLoose Ending k (t + 1) v w) t e early h unbroken f come first).fits;
        kept = days.kept_live rows assigned none_waits IsPart (part_comes (chan_of assigned)) Pairs (λ k v w. IsLoose Ending k (t + 1) v w) t e early h unbroken f come first received second said third;
      }

  pub cut_turn : (calls answers replies : List Bool) (t : ℕ) (e : Ends) → t < 300000 → Ready t e → Turned (λ k v w. IsLoose Ending k (t + 1) v w) t e (ends_cut calls answers replies e)
  cut_turn calls answers replies t e early (Behind h) = part_turn (λ k v w. IsLost Ending k t v w) calls answers replies t e early h.0
      (λ k c far p. lost_called Ending k t c far p)
      (λ k near far called come received said p ticks a b c. lost_cut Ending k t near far called come received said p (subst (λ x. NearTicks Ending x k (t + 1) near called) h.1 ticks) a b c)
  cut_turn calls answers replies t e early (Settles b low h) = part_turn (λ k v w. IsSettling Ending k b t v w) calls answers replies t e early h
      (λ k c far p. settling_called Ending k b t c far p)
      (λ k near far called come received said p ticks x y z. settling_cut Ending (is_back e.exchange) k b t near far called come received said p ticks x y z)

  -- ---- a second without a link

  loose_at : (k t : ℕ) (near : Option PlainNetCall) (far : Option PlainUserCall) → IsLoose Ending k t near far → IsLost Ending k (t + 1) (near_outlasts Ending (t + 1) near) (far_outlasts (t + 1) far) × IsKeptOn Ending (t + 1) near (near_outlasts Ending (t + 1) near)
  loose_at k t near far p = (lost_after Ending k t near far p, lost_kept Ending k t near far p)

  pub lost_turn : (Pairs : ℕ → Option PlainNetCall → Option PlainUserCall → Type 0) (t : ℕ) (e : Ends) → t < 300000 → Between rows assigned Pairs t e → ((k : ℕ) (near : Option PlainNetCall) (far : Option PlainUserCall) → Pairs k near far → IsLoose Ending k t near far) → Apart (t + 1) (ends_apart e)
  lost_turn Pairs t e early h f = (
    days.between_apart rows assigned none_waits Pairs (λ k v w. IsLost Ending k (t + 1) v w) t e early h (λ k near far p. loose_at k t near far (f k near far p)),
    days.back_apart rows assigned none_waits Pairs (λ k v w. IsLost Ending k (t + 1) v w) t e early h (λ k near far p. loose_at k t near far (f k near far p)),
  )

  -- ---- all seconds

  pub ready_near : (t : ℕ) (e : Ends) → Ready t e → NearFits rows assigned t e.exchange
  ready_near t e (Behind h) = h.0.near
  ready_near t e (Settles b low h) = h.near

  pub whole_ready : (t : ℕ) (e : Ends) → t < 300000 → Ready t e → (b : ℕ) × (b ≤ t) × Settling b (t + 1) (ends_after e)
  whole_ready t e early (Behind h) = (t, omega arith, (apart_turn t e early h).left)
  whole_ready t e early (Settles b low h) = (b, low, (settling_turn b t e early h).left)

  pub lost_ready : (t : ℕ) (e : Ends) → t < 300000 → Ready t e → Apart (t + 1) (ends_apart e)
  lost_ready t e early (Behind h) = lost_turn (λ k v w. IsLost Ending k t v w) t e early h.0 (λ k near far p. lost_loose Ending k t near far p)
  lost_ready t e early (Settles b low h) = lost_turn (λ k v w. IsSettling Ending k b t v w) t e early h (λ k near far p. loose_of Ending k b t near far p)

  -- all seconds, and what each of them keeps beside
  pub seconds_keep : (Q : Ends → Type 0)
      → ((t : ℕ) (e : Ends) → t < 300000 → Ready t e → Q e → Q (ends_after e))
      → ((calls answers replies : List Bool) (t : ℕ) (e : Ends) → t < 300000 → Ready t e → Q e → Q (ends_cut calls answers replies e))
      → ((t : ℕ) (e : Ends) → t < 300000 → NearFits rows assigned t e.exchange → Q e → Q (ends_apart e))
      → (seconds : List LinkSecond) (t : ℕ) (e : Ends) → LosesWithLink seconds → t + length seconds ≤ 300000 → Ready t e → Q e → Ready (t + length seconds) (ends_over seconds e) × Q (ends_over seconds e)
  seconds_keep Q whole cut lost [] t e ok few h q = (subst (λ n. Ready n e) (let is : t ≡ t + 0 = omega arith in is) h, q)
  seconds_keep Q whole cut lost (Whole ∷ ss) t e ok few h q =
      let next = whole_ready t e (omega (arith, few)) h in
      let is : (t + 1) + length ss ≡ t + length (Whole ∷ ss) = omega arith in
      subst (λ n. Ready n (ends_over ss (ends_after e)) × Q (ends_over ss (ends_after e))) is (seconds_keep Q whole cut lost ss (t + 1) (ends_after e) ok (omega (arith, few)) (Settles next.0 (let low = next.1 in omega (arith, low)) next.2) (whole t e (omega (arith, few)) h q))
  seconds_keep Q whole cut lost (Lost ∷ ss) t e ok few h q =
      let is : (t + 1) + length ss ≡ t + length (Lost ∷ ss) = omega arith in
      subst (λ n. Ready n (ends_over ss (ends_apart e)) × Q (ends_over ss (ends_apart e))) is (seconds_keep Q whole cut lost ss (t + 1) (ends_apart e) ok (omega (arith, few)) (Behind (lost_ready t e (omega (arith, few)) h)) (lost t e (omega (arith, few)) (ready_near t e h) q))
  seconds_keep Q whole cut lost (Cut calls answers replies ∷ []) t e ok few h q = absurd ok
  seconds_keep Q whole cut lost (Cut calls answers replies ∷ Whole ∷ ss) t e ok few h q = absurd ok
  seconds_keep Q whole cut lost (Cut calls answers replies ∷ Cut c a r ∷ ss) t e ok few h q = absurd ok
  seconds_keep Q whole cut lost (Cut calls answers replies ∷ Lost ∷ ss) t e ok few h q =
      let left : Ends = ends_cut calls answers replies e in
      let loose = (cut_turn calls answers replies t e (omega (arith, few)) h).left in
      let is : (t + 2) + length ss ≡ t + length (Cut calls answers replies ∷ Lost ∷ ss) = omega arith in
      let one : t + 1 + 1 ≡ t + 2 = omega arith in
      let apart : Apart (t + 2) (ends_apart left) = subst (λ n. Apart n (ends_apart left)) one (lost_turn (λ k v w. IsLoose Ending k (t + 1) v w) (t + 1) left (omega (arith, few)) loose (λ k near far p. p)) in
      subst (λ n. Ready n (ends_over ss (ends_apart left)) × Q (ends_over ss (ends_apart left))) is (seconds_keep Q whole cut lost ss (t + 2) (ends_apart left) ok (omega (arith, few)) (Behind apart)
      (lost (t + 1) left (omega (arith, few)) loose.near (cut calls answers replies t e (omega (arith, few)) h q)))

  pub all_ready : (seconds : List LinkSecond) (t : ℕ) (e : Ends) → LosesWithLink seconds → t + length seconds ≤ 300000 → Ready t e → Ready (t + length seconds) (ends_over seconds e)
  all_ready seconds t e ok few h = (seconds_keep (λ x. Unit {0}) (λ t x early r q. tt) (λ c a r t x early w q. tt) (λ t x early n q. tt) seconds t e ok few h tt).0

  -- ---- five seconds behind what was lost, each call is up at both ends

  abbrev IsUpOrNone : Option PlainNetCall → Type 0
  IsUpOrNone None = Unit {0}
  IsUpOrNone (Some c) = IsActiveHere c.state

  pub steady_up : (k b t : ℕ) (near : Option PlainNetCall) (far : Option PlainUserCall) → b + 5 ≤ t → IsSettling Ending k b t near far → IsUpOrNone near
  steady_up k b t near far late (Idle none free) = subst IsUpOrNone (sym none) tt
  steady_up k b t near far late (Talking c x is there nc fc same up up' runs) = subst IsUpOrNone (sym is) up
  steady_up k b t near far late (Waiting c is free nc put at runs) = absurd (omega (arith, late, at))
  steady_up k b t near far late (Clearing c is free nc sent soon past) = absurd (omega (arith, late, soon))

  pub standing_up : (b t : ℕ) (e : Ends) → b + 5 ≤ t → Settling b t e → (i : ℕ) (c : PlainNetCall) (a : Activity) → standing_at e.exchange i ≡ OnCall c a → IsActiveHere c.state
  standing_up b t e late h i c a is =
      let k = (entry_at e.exchange.entries i).channel in
      let p = h.pairs k (days.live_channel rows assigned t i e.exchange c a h.near is) in
      subst IsUpOrNone (near_unique rows assigned t e.exchange k i p.call c a h.near p.is is refl) (steady_up k b t p.call (holder e.far k) late p.pair)

  settled_of : (s : Standing) → ((c : PlainNetCall) (a : Activity) → s ≡ OnCall c a → IsActiveHere c.state) → OnLive s (λ call a. is_settled call ≡ true)
  settled_of (OnCall c a) f = ap (λ s. is_settled_in s c.origin) (active_is c.state (f c a refl))
  settled_of s f = tt

  quiet_of : (s : Standing) → ((c : PlainNetCall) (a : Activity) → s ≡ OnCall c a → IsActiveHere c.state) → IsQuietCall s
  quiet_of (OnCall c a) f = ap is_pressed (active_is c.state (f c a refl))
  quiet_of s f = tt

  -- the booking of a call that goes on goes on too
  going_on : (t i : ℕ) (d : Day) → NearFits rows assigned t d → is_going (standing_at d i) ≡ true → t < (row_at rows i).end
  going_on t i d h going =
      let inside : i < length rows = subst (λ n. i < n) h.size (live_inside d.entries i (going_live (standing_at d i) going)) in
      let fits : StandingFits t (entry_at d.entries i) (standing_at d i) = subst (λ n. StandingFits n (entry_at d.entries i) (standing_at d i)) h.moment (fits_at d i h.fits.day) in
      subst (λ (r : Row). t < r.end) (h.fits.framed.0 i inside).booking (at (standing_at d i) fits going)
    where
      uncleared : (b : Bool) → not b ≡ true → b ≡ false
      uncleared true q = absurd (false≢true q)
      uncleared false q = refl

      at : (s : Standing) → StandingFits t (entry_at d.entries i) s → is_going s ≡ true → t < (entry_at d.entries i).booking.end
      at (OnCall c a) fits q = (going_runs t (entry_at d.entries i) c a fits (uncleared (net_is_clearing c.state) q)).1
      at s fits q = absurd (false≢true q)

  -- ---- from then on each turn is answered

  steady_answers : (b t : ℕ) (e : Ends) → t < 300000 → b + 5 ≤ t → Settling b t e → IsAllAnswered (tick e.exchange).day (ends_after e).exchange × Settling b (t + 1) (ends_after e)
  steady_answers b t e early late h =
      let w = settling_turn b t e early h in (
        record {
          settled = λ i. settled_of (standing_at (ends_after e).exchange i) (standing_up b (t + 1) (ends_after e) (omega (arith, late)) w.left i);
          kept = λ i going. w.kept i (going_live (standing_at (tick e.exchange).day i) going) (going_on (t + 1) i (tick e.exchange).day w.called going);
        },
        w.left,
      )

  pub steady_run : (n b t : ℕ) (e : Ends) → t + n ≤ 300000 → b + 5 ≤ t → Settling b t e → AreAnswered (turns_from n e) e.exchange
  steady_run zero b t e few late h = tt
  steady_run (suc n) b t e few late h =
      let w = steady_answers b t e (omega (arith, few)) late h in
      (w.0, steady_run n b (t + 1) (ends_after e) (omega (arith, few)) (omega (arith, late)) w.1)

  -- so many whole seconds
  pub settling_run : (n b t : ℕ) (e : Ends) → t + n ≤ 300000 → Settling b t e → Settling b (t + n) (ends_over (replicate n Whole) e)
  settling_run zero b t e few h = subst (λ m. Settling b m e) (let is : t ≡ t + 0 = omega arith in is) h
  settling_run (suc n) b t e few h =
      let is : (t + 1) + n ≡ t + suc n = omega arith in
      subst (λ m. Settling b m (ends_over (replicate n Whole) (ends_after e))) is (settling_run n b (t + 1) (ends_after e) (omega (arith, few)) (settling_turn b t e (omega (arith, few)) h).left)

  pub ready_run : (n t : ℕ) (e : Ends) → t + suc n ≤ 300000 → Ready t e → (b : ℕ) × (b ≤ t) × Settling b (t + suc n) (ends_over (replicate (suc n) Whole) e)
  ready_run n t e few h =
      let first = whole_ready t e (omega (arith, few)) h in
      let is : (t + 1) + n ≡ t + suc n = omega arith in
      (first.0, first.1, subst (λ m. Settling first.0 m (ends_over (replicate n Whole) (ends_after e))) is (settling_run n first.0 (t + 1) (ends_after e) (omega (arith, few)) first.2))

  steady_calm : (b t : ℕ) (e : Ends) → b + 5 ≤ t → Settling b t e → IsCalm rows assigned e.exchange
  steady_calm b t e late h = record {
    fits = h.near.fits;
    size = h.near.size;
    clean = h.near.clean;
    quiet = λ i. quiet_of (standing_at e.exchange i) (standing_up b t e late h i);
  }

  -- ---- a booking from then on

  -- it is Active, where its call is live
  steady_talks : (b t u i : ℕ) (e : Ends) → b + 5 ≤ t → t ≤ u → Settling b t e → is_live (standing_at e.exchange i) ≡ true → IsUp u (standing_at e.exchange i)
  steady_talks b t u i e late le h live = active_up u t (entry_at e.exchange.entries i) (standing_at e.exchange i)
      (subst (λ n. StandingFits n (entry_at e.exchange.entries i) (standing_at e.exchange i)) h.near.moment (fits_at e.exchange i h.near.fits.day)) live
      (λ c a is. ap is_active (active_is c.state (standing_up b t e late h i c a is))) le

  -- no other holds its channel, where none runs at that moment
  steady_held : (b t i : ℕ) (e : Ends) → b + 5 ≤ t → Settling b t e → IsAlone rows assigned i t t → is_held e.exchange.entries (channel_at assigned i) ≡ true → is_live (standing_at e.exchange i) ≡ true
  steady_held b t i e late h alone held =
      let d = e.exchange in
      let p = held_by d.entries (channel_at assigned i) held in
      let j = p.0 in
      let q = holds_parts (channel_at assigned i) (entry_at d.entries j) p.2 in
      elim (cases_eq j i) [
        | inl same ↦ subst (λ k. is_live (standing_at d k) ≡ true) same q.0
        | inr other ↦ absurd (
            let clear = settled_cleared (standing_at d j) (settled_of (standing_at d j) (standing_up b t e late h j)) in
            let runs : is_running (entry_at d.entries j).booking d.moment ≡ true = runs_of d.moment (entry_at d.entries j) (standing_at d j) (fits_at d j h.near.fits.day) q.0 clear in
            let size : j < length rows = subst (λ k. j < k) h.near.size p.1 in
            let f = h.near.fits.framed.0 j size in
            let now : is_running (row_at rows j) t ≡ true = subst (λ n. is_running (row_at rows j) n ≡ true) h.near.moment (subst (λ r. is_running r d.moment ≡ true) f.booking runs) in
            true≢false (sym now ∙ alone j t size other (live_accepted rows assigned d j h.near.fits size q.0) (sym f.channel ∙ q.1) (omega arith) (omega arith)))
      ]

  -- how far it has come at moment t, where it is offered after that
  pub steady_stands : (channels : List Bool) (b t i offered : ℕ) (e : Ends) → Carries rows channels (is_accepted assigned) (channel_at assigned) → b + 5 ≤ t → Settling b t e → i < length rows → is_accepted assigned i ≡ true → (row_at rows i).start + 1 ≤ offered → t + 1 ≤ offered → offered < (row_at rows i).end → (cleared : ℕ) → cleared + 1 ≡ offered → Stands rows assigned i cleared offered (row_at rows i).end e.exchange
  steady_stands channels b t i offered e carries late h inside accepted begun later runs cleared before =
      let at : e.exchange.moment ≡ t = h.near.moment in
      record {
        calm = steady_calm b t e late h;
        early = λ less. elim (h.alive i inside accepted (omega (arith, later, runs))) [
          | inl waits ↦ inl waits
          | inr live ↦ inr (steady_talks b t offered i e late (omega (arith, later)) h live)
        ];
        free = λ low less held. steady_talks b t offered i e late (omega (arith, later)) h (steady_held b t i e late h
            (alone_in rows channels assigned i t t carries inside accepted (omega (arith, low, at, begun, before)) (omega (arith, later, runs))) held);
        up = λ low less. absurd (omega (arith, low, at, later));
        over = λ past. absurd (omega (arith, past, at, later, runs));
        done = λ past. absurd (omega (arith, past, at, later, runs));
      }

  -- ---- its seconds

  all_have_link : (n m t : ℕ) (e : Ends) → m < t → t ≤ m + n → has_link m (turns_from n e) t ≡ true
  all_have_link zero m t e low high = absurd (omega (arith, low, high))
  all_have_link (suc n) m t e low high = at (t == m + 1) refl (λ other. all_have_link n (m + 1) t (ends_after e) (omega (arith, low, other)) (omega (arith, high)))
    where
      at : (b : Bool) → (t == m + 1) ≡ b → (t ≢ m + 1 → has_link (m + 1) (turns_from n (ends_after e)) t ≡ true) → (if t == m + 1 then true else has_link (m + 1) (turns_from n (ends_after e)) t) ≡ true
      at true is more = ap (λ b. if b then true else has_link (m + 1) (turns_from n (ends_after e)) t) is
      at false is more = ap (λ b. if b then true else has_link (m + 1) (turns_from n (ends_after e)) t) is ∙ more (λ same. true≢false (sym (eq-eqb t (m + 1) same) ∙ is))

  turns_size : (n : ℕ) (e : Ends) → length (turns_from n e) ≡ n
  turns_size zero e = refl
  turns_size (suc n) e = ap suc (turns_size n (ends_after e))

  turns_are : (n : ℕ) (e : Ends) → seconds_after (turns_from n e) e.exchange ≡ (ends_over (replicate n Whole) e).exchange
  turns_are zero e = refl
  turns_are (suc n) e = turns_are n (ends_after e)

  pub carried_later : (u v end : ℕ) (s : Standing) → u ≤ v → IsCarriedBy u end s → IsCarriedBy v end s
  carried_later u v end (Carried from until) le h = (let low = h.0 in omega (arith, low, le), h.1)
  carried_later u v end s le h = absurd h

  due_in : (n t u : ℕ) (e : Ends) → e.exchange.moment ≡ t → u ≤ t + n → IsDueIn (turns_from n e) e.exchange.moment u
  due_in n t u e at le = elim (cases_lt e.exchange.moment u) [
    | inl less ↦ inr (all_have_link n e.exchange.moment u e less (omega (arith, le, at)))
    | inr past ↦ inl past
  ]

  -- five seconds behind what was lost, for n more
  carried_steady : (channels : List Bool) (b t n i offered cleared : ℕ) (e : Ends) → Carries rows channels (is_accepted assigned) (channel_at assigned) → t + n ≤ 300000 → b + 5 ≤ t → Settling b t e → i < length rows → is_accepted assigned i ≡ true → (row_at rows i).inward ≡ false → (row_at rows i).start + 1 ≤ offered → t + 1 ≤ offered → offered < (row_at rows i).end → (row_at rows i).end ≤ t + n → cleared + 1 ≡ offered
      → IsCarriedBy offered (row_at rows i).end (standing_at (ends_over (replicate n Whole) e).exchange i)
  carried_steady channels b t n i offered cleared e carries few late h inside accepted outward begun later runs over before =
      let at : e.exchange.moment ≡ t = h.near.moment in
      let low : (row_at rows i).start ≤ cleared = omega (arith, begun, before) in
      subst (λ d. IsCarriedBy offered (row_at rows i).end (standing_at d i)) (turns_are n e)
      (booked_run rows assigned i cleared offered (row_at rows i).end (turns_from n e) e.exchange
      (record {
        inside = inside;
        outward = outward;
        alone = alone_in rows channels assigned i cleared offered carries inside accepted low runs;
        before = omega (arith, before);
        runs = runs_from (row_at rows i) offered (omega (arith, begun)) runs;
        late = runs;
        over = omega arith;
      })
      (steady_stands channels b t i offered e carries late h inside accepted begun later runs cleared before)
      (steady_run n b t e few late h)
      (omega (arith, at, few, turns_size n e))
      (due_in n t cleared e at (omega (arith, before, runs, over)))
      (due_in n t offered e at (omega (arith, runs, over)))
      (due_in n t (row_at rows i).end e at over))

  -- behind any seconds
  pub carried_behind : (channels : List Bool) (m n i : ℕ) (e : Ends) → Carries rows channels (is_accepted assigned) (channel_at assigned) → m + n ≤ 300000 → Ready m e → IsLongBehind rows assigned i m n
      → IsCarriedBy (max ((row_at rows i).start + 1) (m + 6)) (row_at rows i).end (standing_at (ends_over (replicate n Whole) e).exchange i)
  carried_behind channels m (suc (suc (suc (suc (suc n))))) i e carries few h k =
      let first = ready_run 4 m e (omega (arith, few)) h in
      let low = first.1 in
      elim (cases_lt (m + 5) (row_at rows i).start) [
        | inl after ↦ carried_later ((row_at rows i).start + 1) (max ((row_at rows i).start + 1) (m + 6)) (row_at rows i).end _ (le-max_left ((row_at rows i).start + 1) (m + 6))
            (carried_steady channels first.0 (m + 5) n i ((row_at rows i).start + 1) (row_at rows i).start (ends_over (replicate 5 Whole) e) carries (omega (arith, few)) (omega (arith, low)) first.2 k.inside k.accepted k.outward (omega arith) (omega (arith, after)) k.seconds (let over = k.over in omega (arith, over)) refl)
        | inr before ↦ carried_later (m + 6) (max ((row_at rows i).start + 1) (m + 6)) (row_at rows i).end _ (le-max_right ((row_at rows i).start + 1) (m + 6))
            (carried_steady channels first.0 (m + 5) n i (m + 6) (m + 5) (ends_over (replicate 5 Whole) e) carries (omega (arith, few)) (omega (arith, low)) first.2 k.inside k.accepted k.outward (omega (arith, before)) (omega arith) k.behind (let over = k.over in omega (arith, over)) (let is : m + 5 + 1 ≡ m + 6 = omega arith in is))
      ]
  carried_behind channels m zero i e carries few h k = absurd (let over = k.over in let behind = k.behind in omega (arith, over, behind))
  carried_behind channels m (suc zero) i e carries few h k = absurd (let over = k.over in let behind = k.behind in omega (arith, over, behind))
  carried_behind channels m (suc (suc zero)) i e carries few h k = absurd (let over = k.over in let behind = k.behind in omega (arith, over, behind))
  carried_behind channels m (suc (suc (suc zero))) i e carries few h k = absurd (let over = k.over in let behind = k.behind in omega (arith, over, behind))
  carried_behind channels m (suc (suc (suc (suc zero)))) i e carries few h k = absurd (let over = k.over in let behind = k.behind in omega (arith, over, behind))

  -- the seconds before, and those behind them
  pub over_both : (xs ys : List LinkSecond) (e : Ends) → ends_over (xs ++ ys) e ≡ ends_over ys (ends_over xs e)
  over_both [] ys e = refl
  over_both (x ∷ xs) ys e = over_both xs ys (ends_in x e)

-- ---- of every carried plan, and a script that answers each call at once

once_follows : (script : List ScriptRow) → AnswersAtOnce script → AllByRecursion IsFollowed script
once_follows [] h = tt
once_follows (Follows number policy ∷ rows) h = (tt, once_follows rows h.1)
once_follows (Calls number moment channel ∷ rows) h = absurd h.0

pub opening_ready : (rows : List Row) (channels : List Bool) (assigned : List (Option ℕ)) (script : List ScriptRow) → AreBookings rows → IsChannelSet channels → Carries rows channels (is_accepted assigned) (channel_at assigned) → AnswersAtOnce script → Ready rows assigned 0 (ends_opening rows assigned script)
opening_ready rows channels assigned script b set carries once =
    let near = near_opens rows channels assigned b set carries in
    let far = far_opens none_waits (chan_of assigned) script (λ called. at_once script called once) (once_follows script once) in
    Settles 0 (omega arith) (record {
      near = near.fits;
      far = far.0;
      pending = tt;
      silent = λ k ch. refl;
      pairs = λ k ch. record { call = None; is = near.here k; pair = Idle refl (far.1 k) };
      alive = λ i inside accepted later. inl (ap (λ (e : Entry). e.standing) (opening_at 1 (i + 1) rows assigned i (let q : 1 + i ≡ i + 1 = omega arith in q) inside) ∙ waits_of (i + 1) (row_at rows i) (slice_index_or assigned i None) accepted);
    })

pub carried_over : (rows : List Row) (channels : List Bool) (assigned : List (Option ℕ)) (script : List ScriptRow) (seconds : List LinkSecond) (whole i : ℕ) → AreBookings rows → IsChannelSet channels → Carries rows channels (is_accepted assigned) (channel_at assigned) → AnswersAtOnce script → LosesWithLink seconds → length seconds + whole ≤ 300000 → IsLongBehind rows assigned i (length seconds) whole
    → IsCarriedBy (max ((row_at rows i).start + 1) (length seconds + 6)) (row_at rows i).end (standing_at (day_of_both rows assigned script seconds whole).exchange i)
carried_over rows channels assigned script seconds whole i b set carries once ok few long =
    subst (λ (e : Ends). IsCarriedBy (max ((row_at rows i).start + 1) (length seconds + 6)) (row_at rows i).end (standing_at e.exchange i)) (sym (over_both rows assigned seconds (replicate whole Whole) (ends_opening rows assigned script)))
    (carried_behind rows assigned channels (length seconds) whole i (ends_over seconds (ends_opening rows assigned script)) carries few
    (subst (λ n. Ready rows assigned n (ends_over seconds (ends_opening rows assigned script))) (let q : 0 + length seconds ≡ length seconds = omega arith in q)
    (all_ready rows assigned seconds 0 (ends_opening rows assigned script) ok (omega (arith, few)) (opening_ready rows channels assigned script b set carries once))) long)

ready_clean : (rows : List Row) (assigned : List (Option ℕ)) (t c : ℕ) (e : Ends) → Ready rows assigned t e → (is_marked e.exchange.maintenance c ≡ false) × (is_marked e.far.maintenance c ≡ false)
ready_clean rows assigned t c e (Behind h) = (h.0.near.clean c, h.0.far.clean c)
ready_clean rows assigned t c e (Settles b low h) = (h.near.clean c, h.far.clean c)

pub in_service_over : (rows : List Row) (channels : List Bool) (assigned : List (Option ℕ)) (script : List ScriptRow) (seconds : List LinkSecond) (channel : ℕ) → AreBookings rows → IsChannelSet channels → Carries rows channels (is_accepted assigned) (channel_at assigned) → AnswersAtOnce script → LosesWithLink seconds → length seconds ≤ 300000
    → (is_marked (ends_over seconds (ends_opening rows assigned script)).exchange.maintenance channel ≡ false) × (is_marked (ends_over seconds (ends_opening rows assigned script)).far.maintenance channel ≡ false)
in_service_over rows channels assigned script seconds channel b set carries once ok few =
    ready_clean rows assigned (0 + length seconds) channel (ends_over seconds (ends_opening rows assigned script)) (all_ready rows assigned seconds 0 (ends_opening rows assigned script) ok (omega (arith, few)) (opening_ready rows channels assigned script b set carries once))
