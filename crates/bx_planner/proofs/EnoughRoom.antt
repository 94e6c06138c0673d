-- A set of rows of which at no moment more run than there are channels can be carried. In the order of starts, and of the
-- rows at one start, each row gets a channel that none has which runs then.
use Rattle.std.proofs.Common.{zero, suc, ◌≡◌, ◌≢◌, ℕ, ◌<◌, ◌≤◌, Bool, true, false, cond, ◌&&◌, eqb, ltb, leb, List, length, refl, sym, ◌∙◌, ap, subst, arith, ◌⊎◌, inl, inr}
use Rattle.std.proofs.lemmas.Bool.{cases_lt, cases_eq, cases_Bool, and_parts, and_from, eqb-true, eq-eqb, ne_eqb, leb-true, ltb-true, le-leb, lt-ltb, cond-true, cond-false, false_from_ne_true}
use Rattle.std.proofs.lemmas.List.{get_or_past}
use Rattle.bx_base.specs.Sums.{sum_below}
use Rattle.bx_base.proofs.SumLemmas.{sum_below-le, sum_below-zero, sum_below-swap, sum_below-term, sum_below-one}
use Rattle.bx_base.specs.Channels.{has_channel, count_of}
use Rattle.bx_base.specs.Bookings.{Row, row_at, is_running, Overlap, IsCarried}
use Rattle.bx_planner.specs.Tight.{runs_at}
use Rattle.bx_planner.proofs.AllMusts.{short_sum}

-- one of the first n numbers is of one kind, or all are of the other
pub one_or_all : (P Q : ℕ → Type 0) (n : ℕ) → ((c : ℕ) → c < n → P c ⊎ Q c) → ((c : ℕ) × (c < n) × P c) ⊎ ((c : ℕ) → c < n → Q c)
one_or_all P Q zero h = inr (λ c b. absurd (omega arith))
one_or_all P Q (suc n) h =
    elim (one_or_all P Q n (λ c b. h c (omega arith))) [
      | inl found ↦ inl (found.0, omega (arith, found.1), found.2)
      | inr none ↦ elim (h n (omega arith)) [
        | inl here ↦ inl (n, omega arith, here)
        | inr here ↦ inr (λ c b. elim (cases_lt c n) [ inl a ↦ none c a | inr a ↦ (let s : n ≡ c = omega arith in subst Q s here) ])
      ]
    ]

-- the function with another value at one number
abbrev pub with : {A : Type 0} → ℕ → A → (ℕ → A) → ℕ → A
with k a f i = cond (eqb i k) a (f i)

pub with_same : {A : Type 0} (k : ℕ) (a : A) (f : ℕ → A) → with k a f k ≡ a
with_same k a f = cond-true (eqb k k) a (f k) (eq-eqb k k refl)

pub with_other : {A : Type 0} (k : ℕ) (a : A) (f : ℕ → A) (i : ℕ) → i ≢ k → with k a f i ≡ f i
with_other k a f i h = cond-false (eqb i k) a (f i) (ne_eqb i k h)

-- a number beyond the list is no channel
past_none : (channels : List Bool) → has_channel channels (length channels) ≡ false
past_none channels = get_or_past channels (length channels) false (omega arith)

running_from : (row : Row) (t : ℕ) → row.start ≤ t → t < row.end → is_running row t ≡ true
running_from row t a b = and_from (leb row.start t) (ltb t row.end) (le-leb row.start t a) (lt-ltb t row.end b)

running_within : (row : Row) (t : ℕ) → is_running row t ≡ true → (row.start ≤ t) × (t < row.end)
running_within row t h = let p = and_parts (leb row.start t) (ltb t row.end) h in (leb-true row.start t p.0, ltb-true t row.end p.1)

module _ (rows : List Row) (channels : List Bool) (set : ℕ → Bool) (ordered : (i : ℕ) → i < length rows → (row_at rows i).start < (row_at rows i).end) (room : (t : ℕ) → runs_at rows set t ≤ count_of channels) where
  -- a row whose turn has come at the moment t, before the row n
  abbrev Done : ℕ → ℕ → ℕ → Type 0
  Done t n i = ((row_at rows i).start < t) ⊎ (((row_at rows i).start ≡ t) × (i < n))

  -- channels for the rows whose turn has come
  record Served (t n : ℕ) (given : ℕ → ℕ) : Type 0 where
    early : (j : ℕ) → j < length rows → has_channel channels (given j) ≡ true → ((row_at rows j).start ≤ t) × (set j ≡ true)
    served : (j : ℕ) → j < length rows → set j ≡ true → Done t n j → has_channel channels (given j) ≡ true
    apart : (i j : ℕ) → i < j → j < length rows → has_channel channels (given i) ≡ true → has_channel channels (given j) ≡ true → Overlap (row_at rows i) (row_at rows j) → given i ≢ given j
    fresh : (j : ℕ) → j < length rows → (row_at rows j).start ≡ t → n ≤ j → has_channel channels (given j) ≡ false

  module _ (t n : ℕ) (given : ℕ → ℕ) (old : Served t n given) (within : n < length rows) (starts : (row_at rows n).start ≡ t) (in_set : set n ≡ true) where
    -- a row that runs has the channel
    abbrev holds : ℕ → ℕ → Bool
    holds c j = has_channel channels c && (is_running (row_at rows j) t && eqb (given j) c)

    abbrev runs_now : ℕ → Bool
    runs_now j = set j && is_running (row_at rows j) t

    held_by : (c j : ℕ) → j < length rows → holds c j ≡ true → (runs_now j ≡ true) × (given j ≡ c)
    held_by c j b h =
        let p = and_parts _ _ h in
        let q = and_parts _ _ p.1 in
        let e = eqb-true _ _ q.1 in
        (and_from _ _ (old.early j b (subst (λ (x : ℕ). has_channel channels x ≡ true) (sym e) p.0)).1 q.0, e)

    one_channel : (j : ℕ) → j < length rows → (b : Bool) → runs_now j ≡ b → sum_below (length channels) (λ c. cond (holds c j) 1 0) ≤ cond b 1 0
    one_channel j h true e = sum_below-one (length channels) (λ c. holds c j) (λ c d lt a b b'. let x = (held_by c j h b).1 in let y = (held_by d j h b').1 in omega (arith, x, y, lt))
    one_channel j h false e =
        let none = sum_below-zero (length channels) (λ c. cond (holds c j) 1 0) (λ c b. cond-false {A = ℕ} (holds c j) 1 0 (false_from_ne_true _ (λ p. let x = (held_by c j h p).0 in cc))) in
        omega (arith, none)

    none_of_next : sum_below (length channels) (λ c. cond (holds c n) 1 0) ≡ 0
    none_of_next = sum_below-zero (length channels) (λ c. cond (holds c n) 1 0) (λ c b. cond-false {A = ℕ} (holds c n) 1 0 (false_from_ne_true _ (λ p.
        let e = (held_by c n within p).1 in
        let has = (and_parts _ _ p).0 in
        let fresh = old.fresh n within starts (omega arith) in
        let has' : has_channel channels (given n) ≡ true = subst (λ (x : ℕ). has_channel channels x ≡ true) (sym e) has in
        cc)))

    next_runs : runs_now n ≡ true
    next_runs = let o = ordered n within in and_from _ _ in_set (running_from (row_at rows n) t (omega (arith, starts)) (omega (arith, starts, o)))

    not_all_held : ((c : ℕ) → c < length channels → (b : Bool) → has_channel channels c ≡ b → cond b 1 0 ≤ sum_below (length rows) (λ j. cond (holds c j) 1 0)) → ⊥
    not_all_held all =
        let each = sum_below-le (length channels) (λ c. cond (has_channel channels c) 1 0) (λ c. sum_below (length rows) (λ j. cond (holds c j) 1 0)) (λ c h. all c h (has_channel channels c) refl) in
        let swap = sum_below-swap (length rows) (length channels) (λ j c. cond {A = ℕ} (holds c j) 1 0) in
        let less = short_sum (length rows) (λ j. sum_below (length channels) (λ c. cond (holds c j) 1 0)) (λ j. cond (runs_now j) 1 0) n 1 (λ j h. one_channel j h (runs_now j) refl) within (omega (arith, none_of_next, cond-true {A = ℕ} (runs_now n) 1 0 next_runs)) in
        omega (arith, each, swap, less, room t)

    -- a channel that no row has which runs
    record IsFree (c : ℕ) : Type 0 where
      in_service : has_channel channels c ≡ true
      not_held : (j : ℕ) → j < length rows → is_running (row_at rows j) t ≡ true → given j ≢ c

    abbrev IsHeld : ℕ → Type 0
    IsHeld c = (b : Bool) → has_channel channels c ≡ b → cond b 1 0 ≤ sum_below (length rows) (λ j. cond (holds c j) 1 0)

    free_or_held : (c : ℕ) → (b : Bool) → has_channel channels c ≡ b → IsFree c ⊎ IsHeld c
    free_or_held c false e = inr (λ b f. let s : b ≡ false = sym f ∙ e in rw s (omega arith))
    free_or_held c true e =
        elim (one_or_all (λ j. holds c j ≡ true) (λ j. holds c j ≡ false) (length rows) (λ j h. cases_Bool (holds c j))) [
          | inl found ↦ inr (λ b f. let s : b ≡ true = sym f ∙ e in let term = sum_below-term (length rows) (λ j. cond {A = ℕ} (holds c j) 1 0) found.0 found.1 in rw s (omega (arith, term, cond-true {A = ℕ} (holds c found.0) 1 0 found.2)))
          | inr none ↦ inl (record { in_service = e; not_held = λ j h r g. let no_one = none j h in let all = and_from (has_channel channels c) _ e (and_from (is_running (row_at rows j) t) (eqb (given j) c) r (eq-eqb (given j) c g)) in cc })
        ]

    free_one : (c : ℕ) × IsFree c
    free_one =
        elim (one_or_all IsFree IsHeld (length channels) (λ c h. free_or_held c (has_channel channels c) refl)) [
          | inl found ↦ (found.0, found.2)
          | inr none ↦ absurd (not_all_held none)
        ]

    module _ (c : ℕ) (free : IsFree c) where
      abbrev after : ℕ → ℕ
      after = with n c given

      -- the next row overlaps no row that has the channel
      clear : (j : ℕ) → j < length rows → j ≢ n → has_channel channels (given j) ≡ true → (m : ℕ) → is_running (row_at rows j) m ≡ true → is_running (row_at rows n) m ≡ true → given j ≢ c
      clear j h d has m a b =
          let started = (old.early j h has).0 in
          let x = running_within (row_at rows j) m a in
          let y = running_within (row_at rows n) m b in
          free.not_held j h (running_from (row_at rows j) t started (omega (arith, x.1, y.0, starts)))

      same_has : (j : ℕ) → j ≢ n → has_channel channels (after j) ≡ true → has_channel channels (given j) ≡ true
      same_has j d h = subst (λ (x : ℕ). has_channel channels x ≡ true) (with_other n c given j d) h

      early_after : (j : ℕ) → j < length rows → has_channel channels (after j) ≡ true → ((row_at rows j).start ≤ t) × (set j ≡ true)
      early_after j h has =
          elim (cases_eq j n) [
            | inl s ↦ rw s (omega (arith, starts), in_set)
            | inr d ↦ old.early j h (same_has j d has)
          ]

      served_after : (j : ℕ) → j < length rows → set j ≡ true → Done t (suc n) j → has_channel channels (after j) ≡ true
      served_after j h s done =
          elim (cases_eq j n) [
            | inl e ↦ subst (λ (x : ℕ). has_channel channels x ≡ true) (sym (with_same n c given) ∙ ap after (sym e)) free.in_service
            | inr d ↦ subst (λ (x : ℕ). has_channel channels x ≡ true) (sym (with_other n c given j d)) (old.served j h s (elim done [ inl a ↦ inl a | inr a ↦ inr (a.0, omega (arith, a.1, d)) ]))
          ]

      apart_after : (i j : ℕ) → i < j → j < length rows → has_channel channels (after i) ≡ true → has_channel channels (after j) ≡ true → Overlap (row_at rows i) (row_at rows j) → after i ≢ after j
      apart_after i j lt h p q over =
          elim (cases_eq i n) [
            | inl e ↦ (
                let d : j ≢ n = λ f. omega (arith, lt, e, f) in
                let other = clear j h d (same_has j d q) over.0 over.2 (subst (λ (x : ℕ). is_running (row_at rows x) over.0 ≡ true) e over.1) in
                λ same. other (sym (with_other n c given j d) ∙ (sym same ∙ (ap after e ∙ with_same n c given))))
            | inr d ↦ elim (cases_eq j n) [
              | inl e ↦ (
                  let other = clear i (omega (arith, lt, h)) d (same_has i d p) over.0 over.1 (subst (λ (x : ℕ). is_running (row_at rows x) over.0 ≡ true) e over.2) in
                  λ same. other (sym (with_other n c given i d) ∙ (same ∙ (ap after e ∙ with_same n c given))))
              | inr f ↦ (λ same. old.apart i j lt h (same_has i d p) (same_has j f q) over (sym (with_other n c given i d) ∙ (same ∙ with_other n c given j f)))
            ]
          ]

      served_more : Served t (suc n) after
      served_more =
          record {
            early = early_after;
            served = served_after;
            apart = apart_after;
            fresh = λ j h s le. subst (λ (x : ℕ). has_channel channels x ≡ false) (sym (with_other n c given j (λ e. omega (arith, e, le)))) (old.fresh j h s (omega (arith, le)));
          }

    next_served : (given' : ℕ → ℕ) × Served t (suc n) given'
    next_served = let c = free_one in (after c.0 c.1, served_more c.0 c.1)

  skip : (t n : ℕ) (given : ℕ → ℕ) → Served t n given → ((row_at rows n).start ≡ t → set n ≡ true → ⊥) → Served t (suc n) given
  skip t n given old none =
      record {
        early = old.early;
        served = λ j h s done. old.served j h s (elim done [
          | inl a ↦ inl a
          | inr a ↦ elim (cases_lt j n) [ inl b ↦ inr (a.0, b) | inr b ↦ (let e : j ≡ n = omega (arith, a.1, b) in absurd (none (subst (λ (x : ℕ). (row_at rows x).start ≡ t) e a.0) (subst (λ (x : ℕ). set x ≡ true) e s))) ]
        ]);
        apart = old.apart;
        fresh = λ j h s le. old.fresh j h s (omega (arith, le));
      }

  at_moment : (t : ℕ) → (given : ℕ → ℕ) × Served t 0 given → (n : ℕ) → n ≤ length rows → (given : ℕ → ℕ) × Served t n given
  at_moment t first zero h = first
  at_moment t first (suc n) h =
      let before = at_moment t first n (omega arith) in
      elim (cases_eq (row_at rows n).start t) [
        | inl s ↦ elim (cases_Bool (set n)) [
          | inl in_set ↦ next_served t n before.0 before.1 (omega arith) s in_set
          | inr out ↦ (before.0, skip t n before.0 before.1 (λ a b. cc))
        ]
        | inr d ↦ (before.0, skip t n before.0 before.1 (λ a b. d a))
      ]

  later : (t : ℕ) (given : ℕ → ℕ) → Served t (length rows) given → Served (suc t) 0 given
  later t given old =
      record {
        early = λ j h has. (omega (arith, (old.early j h has).0), (old.early j h has).1);
        served = λ j h s done. old.served j h s (elim done [
          | inl a ↦ elim (cases_lt (row_at rows j).start t) [ inl b ↦ inl b | inr b ↦ inr (omega (arith, a, b), h) ]
          | inr a ↦ absurd (omega (arith, a.1))
        ]);
        apart = old.apart;
        fresh = λ j h s le. false_from_ne_true _ (λ has. omega (arith, (old.early j h has).0, s));
      }

  from_first : (t : ℕ) → (given : ℕ → ℕ) × Served t 0 given
  from_first zero = (
    λ j. length channels,
    record {
      early = λ j h has. (let past = past_none channels in absurd (cc));
      served = λ j h s done. elim done [ inl a ↦ absurd (omega (arith, a)) | inr a ↦ absurd (omega (arith, a.1)) ];
      apart = λ i j lt h p. (let past = past_none channels in absurd (cc));
      fresh = λ j h s le. past_none channels;
    },
  )
  from_first (suc t) =
      let before = at_moment t (from_first t) (length rows) (omega arith) in
      (before.0, later t before.0 before.1)

  -- the set can be carried
  pub carried_from_room : (last : ℕ) → ((i : ℕ) → i < length rows → (row_at rows i).start < last) → IsCarried rows channels set
  carried_from_room last all =
      let all_served = from_first last in
      let has : (i : ℕ) → i < length rows → set i ≡ true → has_channel channels (all_served.0 i) ≡ true = λ i h s. all_served.1.served i h s (inl (all i h)) in (
        all_served.0,
        record {
          in_service = has;
          apart = λ i j lt h s r over. all_served.1.apart i j lt h (has i (omega (arith, lt, h)) s) (has j h r) over;
        },
      )
