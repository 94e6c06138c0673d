-- What the kept facts say of two ends is the law.
use Rattle.bx_two_ends.proofs.NetworkRows.{shows_connected}
use Rattle.std.proofs.Common.{◌≡◌, ◌⊎◌, inl, inr, ℕ, suc, ◌+◌, ◌-◌, true, false, List, Option, refl, sym, ap, subst, ◌∙◌, arith}
use Rattle.std.specs.List.{list_any}
use Rattle.std.proofs.lemmas.Bool.{true≢false, false≢true, and_parts}
use Rattle.bx_base.specs.Bookings.{Row}
use Rattle.bx_base.specs.Plans.{channel_at}
use Rattle.bx_calls.specs.PlainCalls.{PlainNetCall}
use Rattle.bx_calls.specs.NetTable.{net_flag, net_is_clearing}
use Rattle.bx_calls.specs.UserTable.{user_flag}
use Rattle.bx_calls.specs.declared.net_state.NetState.{NetState}
use Rattle.bx_calls.specs.declared.net_state.NetState.TheVariants.{DisconnectIndication, ReleaseRequest}
use Rattle.bx_calls.specs.declared.user_state.UserState.{UserState}
use Rattle.bx_calls.specs.declared.user_state.UserState.TheVariants as user
use Rattle.bx_day.specs.declared.entry.Activity.{Activity}
use Rattle.bx_day.specs.declared.entry.Standing.{Standing}
use Rattle.bx_day.specs.declared.entry.Standing.TheVariants.{OnCall}
use Rattle.bx_channels.specs.Marks.{is_marked}
use Rattle.bx_day.specs.Day.{entry_at}
use Rattle.bx_day.specs.Moves.{is_active}
use Rattle.bx_day.specs.Invariant.{EntryFits, StandingFits, is_refused}
use Rattle.bx_day.specs.Law.{OnLive, standing_at}
use Rattle.bx_day.proofs.Law.{held_apart}
use Rattle.bx_day.proofs.Receive.{all_at}
use Rattle.bx_two_ends.specs.World.{World}
use Rattle.bx_two_ends.specs.TwoEnds.{IsTwoEnds, IsUserActive, far_holds, acknowledges_call}
use Rattle.bx_two_ends.proofs.UserRows.{is_talking}
use Rattle.bx_two_ends.proofs.History.{shows, from_other, clears, found, other_parts}
use Rattle.bx_two_ends.proofs.Outward.{OutwardStanding, OutwardCall, Kept, Holds, Maintained, Cleared, OutwardReply, OfferedCall, KeepsOutward}
use Rattle.bx_two_ends.proofs.FarCalls.{all_calls}

on_live : (s : Standing) (P : PlainNetCall → Activity → Type 0) → ((c : PlainNetCall) (a : Activity) → s ≡ OnCall c a → P c a) → OnLive s P
on_live (OnCall c a) P f = f c a refl
on_live s P f = tt

abbrev IsHeld : World → ℕ → ℕ → Type 0
IsHeld w r ch = (far_holds w.far.calls r ch ≡ true) ⊎ (is_marked w.far.maintenance ch ≡ true)

from_kept : (assigned : List (Option ℕ)) (w : World) (r : ℕ) → Kept assigned w.sent w.far r → list_any (clears r) w.sent ≡ false → IsHeld w r (channel_at assigned (r - 1))
from_kept assigned w r (Holds h) calm = inl h
from_kept assigned w r (Maintained h) calm = inr h
from_kept assigned w r (Cleared h) calm = absurd (true≢false (sym h ∙ calm))

active_calm : (s : NetState) → is_active s ≡ true → net_is_clearing s ≡ false
active_calm (DisconnectIndication cause due) h = absurd (false≢true h)
active_calm (ReleaseRequest again cause due) h = absurd (false≢true h)
active_calm s h = refl

held : (rows : List Row) (assigned : List (Option ℕ)) (w : World) (i : ℕ) → KeepsOutward rows assigned w → (c : PlainNetCall) (a : Activity) → standing_at w.exchange i ≡ OnCall c a → net_flag c.origin ≡ false → is_active c.state ≡ true → IsHeld w (i + 1) c.channel
held rows assigned w i k c a at outward active =
    let own : OutwardCall (suc i) w.sent w.far_sent c = subst (OutwardStanding (suc i) w.sent w.far_sent) at (k.standings i) outward in
    let has : list_any (shows (suc i)) w.far_sent ≡ true = own.active active in
    let calm : list_any (clears (suc i)) w.sent ≡ false = own.calm (active_calm c.state active) in
    let x = found (λ o. o.flag ≡ true → OutwardReply assigned w.sent w.far o) (shows (suc i)) w.far_sent k.replies has in
    let p = and_parts (from_other (suc i) x.0) (shows_connected x.0.kind x.0.state) x.1 in
    let q = other_parts (suc i) x.0 p.0 in
    let kept : Kept assigned w.sent w.far (suc i) = subst (Kept assigned w.sent w.far) q.0 ((x.2 q.1).kept p.1) in
    let fits = subst (StandingFits w.exchange.moment (entry_at w.exchange.entries i)) at (all_at (EntryFits w.exchange.moment) tt w.exchange.entries i k.run.day.each) in
    let seat = k.seats i (ap is_refused at) in
    let on : channel_at assigned (suc i - 1) ≡ c.channel = ap (channel_at assigned) (minus i) ∙ sym (fits.channel ∙ seat.channel) in
    subst (λ n. IsHeld w n c.channel) (plus i) (subst (IsHeld w (suc i)) on (from_kept assigned w (suc i) kept calm))
  where
    plus : (n : ℕ) → suc n ≡ n + 1
    plus n = omega arith

    minus : (n : ℕ) → suc n - 1 ≡ n
    minus n = omega arith

pub talks : (s : UserState) → IsUserActive s → is_talking s ≡ true
talks (user.Active since) h = refl
talks s h = absurd h

pub says_two_ends : (rows : List Row) (assigned : List (Option ℕ)) (w : World) → KeepsOutward rows assigned w → IsTwoEnds rows w
says_two_ends rows assigned w k = record {
  held = λ i lt. on_live (standing_at w.exchange i) _ (λ c a at outward active. held rows assigned w i k c a at outward active);
  apart = λ i j lt _. held_apart rows assigned w.exchange k.run i j lt;
  far_apart = k.apart;
  acknowledged = all_calls (λ c. user_flag c.origin ≡ true → OfferedCall assigned w.sent c) (λ c. user_flag c.origin ≡ true → IsUserActive c.state → list_any (acknowledges_call c.reference) w.sent ≡ true)
      (λ c h f active. (h f).active (talks c.state active)) w.far.calls k.calls;
}
