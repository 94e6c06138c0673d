-- A far end that answers each turn is one that answers each call within no seconds.
use Rattle.std.proofs.Common.{◌≡◌, ℕ, zero, suc, ◌+◌, ◌≤◌, ◌<◌, ◌==◌, true, false, List, [], ◌∷◌, length, take, arith, refl, sym, subst, ap, ◌∙◌, inl, inr, if◌then◌else◌}
use Rattle.std.proofs.lemmas.Bool.{false≢true, false_from_ne_true, eqb-true, eq-eqb}
use Rattle.bx_calls.specs.Sending.{Sent}
use Rattle.bx_calls.specs.declared.net_state.NetOrigin.{NetOrigin}
use Rattle.bx_calls.specs.declared.net_state.NetState.{NetState}
use Rattle.bx_calls.specs.declared.net_state.NetState.TheVariants.{OutgoingCallProceeding, Active}
use Rattle.bx_day.specs.Day.{Day, is_live}
use Rattle.bx_day.specs.Law.{OnLive, standing_at}
use Rattle.bx_day.specs.Outages.{without_link}
use Rattle.bx_day.specs.Run.{receive_octets}
use Rattle.bx_day.specs.Ticks.{tick}
use Rattle.bx_day.specs.declared.entry.Standing.{Standing}
use Rattle.bx_day.specs.declared.entry.Standing.TheVariants.{OnCall}
use Rattle.bx_day.proofs.Passing.{tick_is}
use Rattle.bx_two_ends.specs.Earning.{LiveSecond, Linked, Unlinked, heard_in, second_after, seconds_after, is_linked, has_link, is_settled, is_settled_in, IsAllAnswered, AreAnswered}
use Rattle.bx_two_ends.specs.Ringing.{is_given_up, IsInTime, AreInTime, AreAnsweredWithin}
use Rattle.bx_two_ends.proofs.Calm.{answered_cleared, due_after, without_is}
use Rattle.bx_two_ends.proofs.FromNow.{link_after}
use Rattle.bx_two_ends.proofs.Turning.{octets_day}

abbrev IsSettled : Standing → Type 0
IsSettled s = OnLive s (λ call a. is_settled call ≡ true)

heard_moment : (received : List (List ℕ)) (d : Day) → (heard_in received d).moment ≡ d.moment
heard_moment [] d = refl
heard_moment (octets ∷ rest) d = heard_moment rest (receive_octets d octets).day ∙ octets_day (λ x. x.moment ≡ d.moment) d octets refl (λ s i. refl) (λ s i op. refl)

next_moment : (s : LiveSecond) (d : Day) → d.moment < 300000 → (second_after s d).moment ≡ d.moment + 1
next_moment (Linked received) d early = heard_moment received (tick d).day ∙ ap (λ (x : Sent Day). x.day.moment) (tick_is d early)
next_moment Unlinked d early = ap (λ (x : Day). x.moment) (without_is d early)

-- ---- what is answered each turn is answered within no seconds

settled_in : (t : ℕ) (s : NetState) (o : NetOrigin) → is_settled_in s o ≡ true → is_given_up t s ≡ false
settled_in t Active o h = refl
settled_in t OutgoingCallProceeding o h = refl
settled_in t s o h = absurd (false≢true h)

settled_patient : (t : ℕ) (s : Standing) → IsSettled s → OnLive s (λ call a. is_given_up t call.state ≡ false)
settled_patient t (OnCall c a) h = settled_in t c.state c.origin h
settled_patient t s h = tt

answered_in_time : (called left : Day) → IsAllAnswered called left → IsInTime called left
answered_in_time called left h = record { cleared = answered_cleared called left h; waits = λ i. settled_patient (left.moment + 1) (standing_at left i) (h.settled i) }

all_in_time : (seconds : List LiveSecond) (d : Day) → AreAnswered seconds d → AreInTime seconds d
all_in_time [] d h = tt
all_in_time (Unlinked ∷ ss) d h = all_in_time ss (without_link d) h
all_in_time (Linked received ∷ ss) d h = (answered_in_time (tick d).day (heard_in received (tick d).day) h.0, all_in_time ss (heard_in received (tick d).day) h.1)

rest_answered : (s : LiveSecond) (ss : List LiveSecond) (d : Day) → AreAnswered (s ∷ ss) d → AreAnswered ss (second_after s d)
rest_answered (Linked received) ss d h = h.1
rest_answered Unlinked ss d h = h

answered_then : (seconds : List LiveSecond) (d : Day) → d.moment + length seconds ≤ 300000 → AreAnswered seconds d → (i k : ℕ) → has_link d.moment seconds (d.moment + k) ≡ true → IsSettled (standing_at (seconds_after (take k seconds) d) i)
answered_then [] d few ok i k h = absurd (false≢true h)
answered_then (s ∷ ss) d few ok i zero h = absurd (let after = link_after (s ∷ ss) d.moment (d.moment + 0) h in omega (arith, after))
answered_then (Linked received ∷ ss) d few ok i (suc zero) h = ok.0.settled i
answered_then (Unlinked ∷ ss) d few ok i (suc zero) h = absurd (false≢true (sym (ap (λ b. if b then false else has_link (d.moment + 1) ss (d.moment + 1)) (eq-eqb (d.moment + 1) (d.moment + 1) refl)) ∙ h))
answered_then (s ∷ ss) d few ok i (suc (suc k)) h =
    let early : d.moment < 300000 = omega (arith, few) in
    let at = next_moment s d early in
    answered_then ss (second_after s d) (omega (arith, few, at)) (rest_answered s ss d ok) i (suc k)
    (subst (λ m. has_link m ss (m + suc k) ≡ true) (sym at) (elim (due_after s ss d.moment (d.moment + suc (suc k)) (inr h)) [
      | inl le ↦ absurd (omega (arith, le))
      | inr more ↦ subst (λ t. has_link (d.moment + 1) ss t ≡ true) (let same : d.moment + suc (suc k) ≡ (d.moment + 1) + suc k = omega arith in same) more
    ]))

plus_none : (n : ℕ) → n + 0 ≡ n
plus_none n = omega arith

pub within_none : (seconds : List LiveSecond) (d : Day) → d.moment + length seconds ≤ 300000 → AreAnswered seconds d → AreAnsweredWithin (λ i. 0) seconds d
within_none seconds d few ok = record {
  in_time = all_in_time seconds d ok;
  answers = λ i n live h. answered_then seconds d few ok i (n + 0) h;
}

-- ---- and the other way round

abbrev AnswersThen : List LiveSecond → Day → Type 0
AnswersThen seconds d = (i n : ℕ) → is_live (standing_at (seconds_after (take n seconds) d) i) ≡ true → has_link d.moment seconds (d.moment + n) ≡ true → IsSettled (standing_at (seconds_after (take n seconds) d) i)

link_before : (s : LiveSecond) (ss : List LiveSecond) (m t : ℕ) → has_link (m + 1) ss t ≡ true → has_link m (s ∷ ss) t ≡ true
link_before s ss m t h = ap (λ b. if b then is_linked s else has_link (m + 1) ss t) (false_from_ne_true (t == m + 1) (λ is. let same : t ≡ m + 1 = eqb-true t (m + 1) is in let after = link_after ss (m + 1) t h in absurd (omega (arith, same, after)))) ∙ h

rest_then : (s : LiveSecond) (ss : List LiveSecond) (d : Day) → d.moment < 300000 → AnswersThen (s ∷ ss) d → AnswersThen ss (second_after s d)
rest_then s ss d early f i n live h = f i (suc n) live (link_before s ss d.moment (d.moment + suc n) (subst (λ t. has_link (d.moment + 1) ss t ≡ true) (let same : (d.moment + 1) + n ≡ d.moment + suc n = omega arith in same) (subst (λ m. has_link m ss (m + n) ≡ true) (next_moment s d early) h)))

on_live_or : (s : Standing) → (is_live s ≡ true → IsSettled s) → IsSettled s
on_live_or (OnCall c a) f = f refl
on_live_or s f = tt

answered_from : (seconds : List LiveSecond) (d : Day) → d.moment + length seconds ≤ 300000 → AreInTime seconds d → AnswersThen seconds d → AreAnswered seconds d
answered_from [] d few ok f = tt
answered_from (Unlinked ∷ ss) d few ok f =
    let early : d.moment < 300000 = omega (arith, few) in
    let at : (without_link d).moment ≡ d.moment + 1 = next_moment Unlinked d early in
    answered_from ss (without_link d) (omega (arith, few, at)) ok (rest_then Unlinked ss d early f)
answered_from (Linked received ∷ ss) d few ok f =
    let early : d.moment < 300000 = omega (arith, few) in
    let left : Day = heard_in received (tick d).day in
    let at : left.moment ≡ d.moment + 1 = next_moment (Linked received) d early in (
      record {
        settled = λ i. on_live_or (standing_at left i) (λ live. f i 1 live (ap (λ b. if b then true else has_link (d.moment + 1) ss (d.moment + 1)) (eq-eqb (d.moment + 1) (d.moment + 1) refl)));
        kept = ok.0.cleared.kept;
      },
      answered_from ss left (omega (arith, few, at)) ok.1 (rest_then (Linked received) ss d early f),
    )

pub none_within : (seconds : List LiveSecond) (d : Day) → d.moment + length seconds ≤ 300000 → AreAnsweredWithin (λ i. 0) seconds d → AreAnswered seconds d
none_within seconds d few h = answered_from seconds d few h.in_time (λ i n live link.
    subst (λ k. IsSettled (standing_at (seconds_after (take k seconds) d) i)) (plus_none n)
    (h.answers i n live (subst (λ k. has_link d.moment seconds (d.moment + k) ≡ true) (sym (plus_none n)) link)))
