-- A turn of both ends, channel by channel: what the messages of each channel leave of the calls on it.
use Rattle.std.proofs.Common.{◌≡◌, ◌⊎◌, inl, inr, ℕ, suc, ◌+◌, ◌<◌, true, List, [], ◌++◌, length, map, Option, Some, None, refl, sym, ap, subst, ◌∙◌, arith}
use Rattle.std.specs.List.{AllByRecursion}
use Rattle.bx_base.specs.Bookings.{Row, row_at}
use Rattle.bx_base.specs.Plans.{is_accepted}
use Rattle.bx_channels.specs.ChannelNumbers.{IsChannel}
use Rattle.bx_q931.specs.Outgoing.{Outgoing, out_octets}
use Rattle.bx_calls.specs.NetTable.{net_second}
use Rattle.bx_calls.specs.PlainCalls.{PlainNetCall, PlainUserCall}
use Rattle.bx_calls.specs.UserTable.{user_second}
use Rattle.bx_day.specs.Day.{Day, entry_at, is_back, is_live}
use Rattle.bx_day.specs.Invariant.{is_refused}
use Rattle.bx_day.specs.Law.{standing_at}
use Rattle.bx_day.specs.Reading.{Seated}
use Rattle.bx_day.specs.Outages.{without_link}
use Rattle.bx_day.specs.Ticks.{tick}
use Rattle.bx_day.specs.declared.entry.Activity.{Activity}
use Rattle.bx_day.specs.declared.entry.Standing.{Standing}
use Rattle.bx_day.specs.declared.entry.Standing.TheVariants.{Unoffered, OnCall}
use Rattle.bx_day.proofs.Once.{each_at}
use Rattle.bx_far.specs.FarDay.{FarDay, holder, is_on, far_tick, far_without_link}
use Rattle.bx_two_ends.specs.Earning.{heard_in}
use Rattle.bx_two_ends.specs.Lockstep.{Ends, far_heard, far_says, exchange_says}
use Rattle.bx_two_ends.specs.LossyLink.{ends_apart}
use Rattle.bx_two_ends.proofs.OneChannel.{Left, messages_on, NearTicks, near_left, near_outlasts, none_waits, far_meets_all_by, far_passes, far_outlasts}
use Rattle.bx_two_ends.proofs.ChannelMessages.{IsToFar, IsToNear, on_joined}
use Rattle.bx_two_ends.proofs.ChannelStates.{IsUnbrokenNear, IsUnbrokenFar, IsThere, IsKeptOn, TurnLeavesBy, asked_by, passed_by, left_in, last_by}
use Rattle.bx_two_ends.proofs.FarCalls.{first_found}
use Rattle.bx_two_ends.proofs.FarChannel.{IsFarOf, FarFits, FarRuns, FarTicksOn, FarOutlasts, far_run, far_tick_on, far_unlinked_on}
use Rattle.bx_two_ends.proofs.History.{all_joined}
use Rattle.bx_two_ends.proofs.Naming.{live_inside}
use Rattle.bx_two_ends.proofs.NearChannel.{chan_of, ends_of, IsOutward, NearFits, NearIs, NearRun, near_unique, near_run}
use Rattle.bx_two_ends.proofs.NearTicks.{NearUnlinked, TickOn, NearTick, near_unlinked, near_ticks}
use Rattle.std.proofs.lemmas.Bool.{eqb-true, false≢true}

-- ---- what stands between two seconds

abbrev pub IsAlive : Standing → Type 0
IsAlive s = (s ≡ Unoffered) ⊎ (is_live s ≡ true)

-- what is there of channel k at both ends
pub record PairOn (Pairs : ℕ → Option PlainNetCall → Option PlainUserCall → Type 0) (e : Ends) (k : ℕ) : Type 0 where
  pub call : Option PlainNetCall
  pub is : NearIs e.exchange k call
  pub pair : Pairs k call (holder e.far k)

pub record BetweenBy (wait : Option (List ℕ) → ℕ) (rows : List Row) (assigned : List (Option ℕ)) (Pairs : ℕ → Option PlainNetCall → Option PlainUserCall → Type 0) (t : ℕ) (e : Ends) : Type 0 where
  pub near : NearFits rows assigned t e.exchange
  pub far : FarFits wait (chan_of assigned) t e.far
  pub pending : AllByRecursion IsToNear e.pending
  pub silent : (k : ℕ) → IsChannel k → messages_on (chan_of assigned) k e.pending ≡ []
  pub pairs : (k : ℕ) → IsChannel k → PairOn Pairs e k
  pub alive : (i : ℕ) → i < length rows → is_accepted assigned i ≡ true → t < (row_at rows i).end → IsAlive (standing_at e.exchange i)

-- the same where none waits
abbrev pub Between : List Row → List (Option ℕ) → (ℕ → Option PlainNetCall → Option PlainUserCall → Type 0) → ℕ → Ends → Type 0
Between rows assigned Pairs t e = BetweenBy none_waits rows assigned Pairs t e

-- which of some messages come
pub record IsComing (chan : ℕ → ℕ) (Comes : List Outgoing → List Outgoing → Type 0) : Type 0 where
  pub on : (k : ℕ) (xs ys : List Outgoing) → Comes xs ys → Comes (messages_on chan k xs) (messages_on chan k ys)
  pub calls : (xs ys : List Outgoing) → Comes xs ys → AllByRecursion (IsToFar chan) ys → AllByRecursion (IsToFar chan) xs
  pub answers : (xs ys : List Outgoing) → Comes xs ys → AllByRecursion IsToNear ys → AllByRecursion IsToNear xs
  pub same : (xs : List Outgoing) → Comes xs xs

module _ (rows : List Row) (assigned : List (Option ℕ)) where
  -- ---- live calls

  pub live_channel : (t i : ℕ) (d : Day) (c : PlainNetCall) (a : Activity) → NearFits rows assigned t d → standing_at d i ≡ OnCall c a → IsChannel (entry_at d.entries i).channel
  live_channel t i d c a h is = (each_at Seated d.entries i (live_inside d.entries i (ap is_live is)) h.exchange.seated).channel (ap is_refused is)

  pub there_live : (t i k : ℕ) (d : Day) (v : Option PlainNetCall) → NearFits rows assigned t d → NearIs d k v → IsThere (suc i) v → is_live (standing_at d i) ≡ true
  there_live t i k d None h is there = absurd there
  there_live t i k d (Some c) h is there =
      let o : (c.reference ≡ suc is.0) × _ = subst (IsOutward is.0) is.2 (h.outward is.0) in
      let r : suc is.0 ≡ suc i = sym o.0 ∙ there in
      let same : is.0 ≡ i = omega (arith, r) in
      ap (λ j. is_live (standing_at d j)) (sym same) ∙ ap is_live is.2

  pub live_there : (t i : ℕ) (d : Day) (v : Option PlainNetCall) → NearFits rows assigned t d → is_live (standing_at d i) ≡ true → NearIs d (entry_at d.entries i).channel v → IsThere (suc i) v
  live_there t i d v h live is = at (standing_at d i) refl live
    where
      at : (s : Standing) → standing_at d i ≡ s → is_live s ≡ true → IsThere (suc i) v
      at (OnCall c a) same l = subst (IsThere (suc i)) (sym (near_unique rows assigned t d (entry_at d.entries i).channel i v c a h is same refl)) (subst (IsOutward i) same (h.outward i)).0
      at s same l = absurd (false≢true l)

  -- ---- a turn, of whose messages these come

  module _ (wait : Option (List ℕ) → ℕ) (Comes : List Outgoing → List Outgoing → Type 0) (coming : IsComing (chan_of assigned) Comes) (Pairs Leaves : ℕ → Option PlainNetCall → Option PlainUserCall → Type 0) (t : ℕ) (e : Ends) (early : t < 300000) (h : BetweenBy wait rows assigned Pairs t e)
      (unbroken : (k : ℕ) (c : PlainNetCall) (far : Option PlainUserCall) → Pairs k (Some c) far → IsUnbrokenNear (net_second c (t + 1) (ends_of rows c.reference)).next × IsKeptOn (ends_of rows) (t + 1) (Some c) (near_left (net_second c (t + 1) (ends_of rows c.reference)).next))
      (step : (k : ℕ) (near : Option PlainNetCall) (far : Option PlainUserCall) (called : Left PlainNetCall) (come received replies : List Outgoing) → Pairs k near far → NearTicks (ends_of rows) (is_back e.exchange) k (t + 1) near called → Comes come called.said → Comes received ((asked_by wait k t far come).said ++ (passed_by wait k t far come).said) → Comes replies (left_in t called received).said → TurnLeavesBy wait (Leaves k) (ends_of rows) k t far called come received replies)
      (come : List Outgoing) (first : Comes come (tick e.exchange).sent) where
    abbrev Chan : ℕ → ℕ
    Chan = chan_of assigned

    abbrev D1 : Day
    D1 = (tick e.exchange).day

    abbrev F1 : FarDay
    F1 = far_heard come e.far

    abbrev F2 : FarDay
    F2 = (far_tick (far_heard come e.far)).day

    call_unbroken : (i : ℕ) (c : PlainNetCall) (a : Activity) → standing_at e.exchange i ≡ OnCall c a → IsUnbrokenNear (net_second c (t + 1) (ends_of rows c.reference)).next
    call_unbroken i c a is =
        let k = (entry_at e.exchange.entries i).channel in
        let p = h.pairs k (live_channel t i e.exchange c a h.near is) in
        let same : p.call ≡ Some c = near_unique rows assigned t e.exchange k i p.call c a h.near p.is is refl in
        (unbroken k c (holder e.far k) (subst (λ v. Pairs k v (holder e.far k)) same p.pair)).0

    pub ticked : NearTick rows assigned t e.exchange (tick e.exchange)
    ticked = near_ticks rows assigned t e.exchange h.near early call_unbroken

    pub tick_on : (k : ℕ) (ch : IsChannel k) → TickOn rows assigned t e.exchange (tick e.exchange) k (h.pairs k ch).call
    tick_on k ch = ticked.here k (h.pairs k ch).call ch (h.pairs k ch).is

    called_far : FarRuns wait Chan t e.far come (far_heard come e.far) (far_says come e.far)
    called_far = far_run wait Chan t come e.far (coming.calls come (tick e.exchange).sent first ticked.says) h.far

    -- what comes on a channel
    come_on : (k : ℕ) (ch : IsChannel k) → Comes (messages_on Chan k come) (tick_on k ch).left.said
    come_on k ch = subst (Comes (messages_on Chan k come)) (tick_on k ch).said (coming.on k come (tick e.exchange).sent first)

    far_unbroken : (k : ℕ) (x : PlainUserCall) → holder F1 k ≡ Some x → IsUnbrokenFar (user_second x (t + 1)).next
    far_unbroken k x is =
        let p = first_found (IsFarOf Chan) (is_on k) F1.calls x is called_far.fits.each in
        let ch : IsChannel k = subst IsChannel (eqb-true x.channel k p.0) p.1.in_service in
        let far = holder e.far k in
        let ck = messages_on Chan k come in
        let all = (asked_by wait k t far ck).said ++ (passed_by wait k t far ck).said in
        let called = (tick_on k ch).left in
        (step k (h.pairs k ch).call far called ck all (left_in t called all).said (h.pairs k ch).pair (tick_on k ch).ticks (come_on k ch) (coming.same all) (coming.same (left_in t called all).said)).unbroken x (sym (called_far.held k) ∙ is)

    passed_far : FarTicksOn wait Chan t F1 (far_tick F1)
    passed_far = far_tick_on wait Chan t F1 called_far.fits early far_unbroken

    -- what the far end says
    abbrev pub answers_all : List Outgoing
    answers_all = e.pending ++ (far_says come e.far ++ (far_tick F1).sent)

    module _ (received : List Outgoing) (second : Comes received answers_all) (replies : List Outgoing) (third : Comes replies (exchange_says received D1)) where
      abbrev L1 : Day
      L1 = heard_in (map (λ o. out_octets o) received) D1

      abbrev F3 : FarDay
      F3 = far_heard replies F2

      abbrev left_ends : Ends
      left_ends = record { exchange = L1; far = F3; pending = far_says replies F2 }

      answers_on : (k : ℕ) (ch : IsChannel k) → messages_on Chan k answers_all ≡ (asked_by wait k t (holder e.far k) (messages_on Chan k come)).said ++ (passed_by wait k t (holder e.far k) (messages_on Chan k come)).said
      answers_on k ch =
          on_joined Chan k e.pending (far_says come e.far ++ (far_tick F1).sent)
          ∙ ap (λ xs. xs ++ messages_on Chan k (far_says come e.far ++ (far_tick F1).sent)) (h.silent k ch)
          ∙ on_joined Chan k (far_says come e.far) (far_tick F1).sent
          ∙ ap (λ xs. xs ++ messages_on Chan k (far_tick F1).sent) (called_far.said k)
          ∙ ap (λ xs. (asked_by wait k t (holder e.far k) (messages_on Chan k come)).said ++ xs) (passed_far.said k ∙ ap (λ v. (far_passes (t + 1) v).said) (called_far.held k))

      heard_near : NearRun rows assigned (t + 1) D1 received
      heard_near = near_run rows assigned (t + 1) received D1 ticked.fits (coming.answers received answers_all second (all_joined IsToNear e.pending (far_says come e.far ++ (far_tick F1).sent) h.pending (all_joined IsToNear (far_says come e.far) (far_tick F1).sent called_far.says passed_far.says)))

      last_far : FarRuns wait Chan (t + 1) F2 replies (far_heard replies F2) (far_says replies F2)
      last_far = far_run wait Chan (t + 1) replies F2 (coming.calls replies (exchange_says received D1) third heard_near.says) passed_far.fits

      turned : (k : ℕ) (ch : IsChannel k) → TurnLeavesBy wait (Leaves k) (ends_of rows) k t (holder e.far k) (tick_on k ch).left (messages_on Chan k come) (messages_on Chan k received) (messages_on Chan k replies)
      turned k ch = step k (h.pairs k ch).call (holder e.far k) (tick_on k ch).left (messages_on Chan k come) (messages_on Chan k received) (messages_on Chan k replies) (h.pairs k ch).pair (tick_on k ch).ticks (come_on k ch)
          (subst (Comes (messages_on Chan k received)) (answers_on k ch) (coming.on k received answers_all second))
          (subst (Comes (messages_on Chan k replies)) (heard_near.said k (tick_on k ch).left.call (tick_on k ch).near) (coming.on k replies (exchange_says received D1) third))

      -- what the far end has on a channel after it
      last_on : (k : ℕ) → far_meets_all_by wait (t + 1) k (holder F2 k) (messages_on Chan k replies) ≡ last_by wait k t (holder e.far k) (messages_on Chan k come) (messages_on Chan k replies)
      last_on k = ap (λ v. far_meets_all_by wait (t + 1) k v (messages_on Chan k replies)) (passed_far.held k ∙ ap (λ v. (far_passes (t + 1) v).call) (called_far.held k))

      -- a call that is live after the tick, and whose booking goes on, is so after the turn
      pub kept_live : (i : ℕ) → is_live (standing_at D1 i) ≡ true → t + 1 < (row_at rows i).end → is_live (standing_at L1 i) ≡ true
      kept_live i live later = at (standing_at D1 i) refl live
        where
          at : (s : Standing) → standing_at D1 i ≡ s → is_live s ≡ true → is_live (standing_at L1 i) ≡ true
          at (OnCall c a) is l =
              let k = (entry_at D1.entries i).channel in
              let ch : IsChannel k = live_channel (t + 1) i D1 c a ticked.fits is in
              let there : IsThere (suc i) (tick_on k ch).left.call = live_there (t + 1) i D1 (tick_on k ch).left.call ticked.fits (ap is_live is) (tick_on k ch).near in
              there_live (t + 1) i k L1 (left_in t (tick_on k ch).left (messages_on Chan k received)).call heard_near.fits (heard_near.here k (tick_on k ch).left.call (tick_on k ch).near)
              (kept_there (tick_on k ch).left.call (left_in t (tick_on k ch).left (messages_on Chan k received)).call there (turned k ch).kept)
            where
              kept_there : (v w : Option PlainNetCall) → IsThere (suc i) v → IsKeptOn (ends_of rows) (t + 1) v w → IsThere (suc i) w
              kept_there None w p q = absurd p
              kept_there (Some x) w p q = subst (λ r. IsThere r w) p (q (subst (λ r. t + 1 < ends_of rows r) (sym p) later))
          at s is l = absurd (false≢true l)

      live_on : (i : ℕ) → is_live (standing_at e.exchange i) ≡ true → t + 1 < (row_at rows i).end → is_live (standing_at D1 i) ≡ true
      live_on i live later = at (standing_at e.exchange i) refl live
        where
          at : (s : Standing) → standing_at e.exchange i ≡ s → is_live s ≡ true → is_live (standing_at D1 i) ≡ true
          at (OnCall c a) is l =
              let k = (entry_at e.exchange.entries i).channel in
              let ch : IsChannel k = live_channel t i e.exchange c a h.near is in
              let there : IsThere (suc i) (h.pairs k ch).call = live_there t i e.exchange (h.pairs k ch).call h.near (ap is_live is) (h.pairs k ch).is in
              there_live (t + 1) i k D1 (tick_on k ch).left.call ticked.fits (tick_on k ch).near (called_there k (h.pairs k ch).call (tick_on k ch).left (h.pairs k ch).pair (tick_on k ch).ticks there)
            where
              called_there : (k : ℕ) (v : Option PlainNetCall) (called : Left PlainNetCall) → Pairs k v (holder e.far k) → NearTicks (ends_of rows) (is_back e.exchange) k (t + 1) v called → IsThere (suc i) v → IsThere (suc i) called.call
              called_there k None called p q there = absurd there
              called_there k (Some x) called p q there =
                  let w = (unbroken k x (holder e.far k) p).1 (subst (λ r. t + 1 < ends_of rows r) (sym there) later) in
                  subst (λ (z : Left PlainNetCall). IsThere (suc i) z.call) (sym q) (subst (λ r. IsThere r (near_left (net_second x (t + 1) (ends_of rows x.reference)).next)) there w)
          at s is l = absurd (false≢true l)

      pub between_after : BetweenBy wait rows assigned Leaves (t + 1) left_ends
      between_after = record {
        near = heard_near.fits;
        far = last_far.fits;
        pending = last_far.says;
        silent = λ k ch. last_far.said k ∙ ap (λ (z : Left PlainUserCall). z.said) (last_on k) ∙ (turned k ch).quiet;
        pairs = λ k ch. record {
          call = (left_in t (tick_on k ch).left (messages_on Chan k received)).call;
          is = heard_near.here k (tick_on k ch).left.call (tick_on k ch).near;
          pair = subst (Leaves k (left_in t (tick_on k ch).left (messages_on Chan k received)).call) (sym (last_far.held k ∙ ap (λ (z : Left PlainUserCall). z.call) (last_on k))) (turned k ch).leaves;
        };
        alive = λ i inside accepted later. elim (h.alive i inside accepted (omega (arith, later))) [
          | inl waits ↦ elim (ticked.waits i inside waits later) [
            | inl still ↦ inl (heard_near.idle i (ap is_live still) ∙ still)
            | inr begun ↦ inr (kept_live i begun later)
          ]
          | inr live ↦ inr (kept_live i (live_on i live later) later)
        ];
      }

  -- ---- a second without a link

  module _ (wait : Option (List ℕ) → ℕ) (Pairs Leaves : ℕ → Option PlainNetCall → Option PlainUserCall → Type 0) (t : ℕ) (e : Ends) (early : t < 300000) (h : BetweenBy wait rows assigned Pairs t e)
      (apart : (k : ℕ) (near : Option PlainNetCall) (far : Option PlainUserCall) → Pairs k near far → Leaves k (near_outlasts (ends_of rows) (t + 1) near) (far_outlasts (t + 1) far) × IsKeptOn (ends_of rows) (t + 1) near (near_outlasts (ends_of rows) (t + 1) near)) where
    near_apart : NearUnlinked rows assigned t e.exchange (without_link e.exchange)
    near_apart = near_unlinked rows assigned t e.exchange h.near early

    far_apart : FarOutlasts wait (chan_of assigned) t e.far (far_without_link e.far)
    far_apart = far_unlinked_on wait (chan_of assigned) t e.far h.far early

    live_apart : (i : ℕ) → is_live (standing_at e.exchange i) ≡ true → t + 1 < (row_at rows i).end → is_live (standing_at (ends_apart e).exchange i) ≡ true
    live_apart i live later = at (standing_at e.exchange i) refl live
      where
        at : (s : Standing) → standing_at e.exchange i ≡ s → is_live s ≡ true → is_live (standing_at (ends_apart e).exchange i) ≡ true
        at (OnCall c a) is l =
            let k = (entry_at e.exchange.entries i).channel in
            let ch : IsChannel k = live_channel t i e.exchange c a h.near is in
            let there : IsThere (suc i) (h.pairs k ch).call = live_there t i e.exchange (h.pairs k ch).call h.near (ap is_live is) (h.pairs k ch).is in
            there_live (t + 1) i k (ends_apart e).exchange (near_outlasts (ends_of rows) (t + 1) (h.pairs k ch).call) near_apart.fits (near_apart.here k (h.pairs k ch).call (h.pairs k ch).is)
            (kept_there (h.pairs k ch).call (near_outlasts (ends_of rows) (t + 1) (h.pairs k ch).call) there (apart k (h.pairs k ch).call (holder e.far k) (h.pairs k ch).pair).1)
          where
            kept_there : (v w : Option PlainNetCall) → IsThere (suc i) v → IsKeptOn (ends_of rows) (t + 1) v w → IsThere (suc i) w
            kept_there None w p q = absurd p
            kept_there (Some x) w p q = subst (λ r. IsThere r w) p (q (subst (λ r. t + 1 < ends_of rows r) (sym p) later))
        at s is l = absurd (false≢true l)

    pub back_apart : is_back (ends_apart e).exchange ≡ true
    back_apart = near_apart.back

    pub between_apart : BetweenBy wait rows assigned Leaves (t + 1) (ends_apart e)
    between_apart = record {
      near = near_apart.fits;
      far = far_apart.fits;
      pending = tt;
      silent = λ k ch. refl;
      pairs = λ k ch. record {
        call = near_outlasts (ends_of rows) (t + 1) (h.pairs k ch).call;
        is = near_apart.here k (h.pairs k ch).call (h.pairs k ch).is;
        pair = subst (Leaves k (near_outlasts (ends_of rows) (t + 1) (h.pairs k ch).call)) (sym (far_apart.held k)) (apart k (h.pairs k ch).call (holder e.far k) (h.pairs k ch).pair).0;
      };
      alive = λ i inside accepted later. elim (h.alive i inside accepted (omega (arith, later))) [
        | inl waits ↦ inl (near_apart.waits i inside waits later)
        | inr live ↦ inr (live_apart i live later)
      ];
    }
