-- A second of the far end without a link: its calls stay as they are but for their timers, and it says nothing.
use Rattle.std.proofs.Common.{◌≡◌, ◌≢◌, ℕ, ◌+◌, ◌-◌, ◌||◌, Bool, true, false, List, [], ◌∷◌, map, Option, arith, refl, sym, ap, ◌∙◌}
use Rattle.std.specs.List.{AllByRecursion, list_any}
use Rattle.bx_channels.specs.ChannelNumbers.{IsChannel}
use Rattle.bx_base.specs.Plans.{channel_at}
use Rattle.bx_q931.specs.Outgoing.{Outgoing}
use Rattle.bx_calls.specs.PlainCalls.{PlainUserCall}
use Rattle.bx_calls.specs.UserTable.{user_flag, user_later, user_unlinked}
use Rattle.bx_calls.specs.declared.times.Times.{Times}
use Rattle.bx_calls.specs.declared.times.Times.TheVariants.{NotYet}
use Rattle.bx_calls.specs.declared.user_state.UserState.{UserState}
use Rattle.bx_calls.specs.declared.user_state.UserState.TheVariants as user
use Rattle.bx_far.specs.FarDay.{FarDay, far_unlinked}
use Rattle.bx_far.proofs.Passing.{later_split}
use Rattle.bx_two_ends.specs.TwoEnds.{AreOnTheirOwn, offered_as}
use Rattle.bx_two_ends.proofs.FarHears.{FarBefore, saids_grow}
use Rattle.bx_two_ends.proofs.FarLimits.{UserCallWithin, FarWithin}
use Rattle.bx_two_ends.proofs.FarTicks.{FarTicked}
use Rattle.bx_two_ends.proofs.Inward.{InwardCall, InwardCalls}
use Rattle.bx_two_ends.proofs.InwardRows.{is_user_clearing, is_answering}
use Rattle.bx_two_ends.proofs.Outward.{Kept, Holds, Maintained, Cleared, OfferedCall}
use Rattle.bx_two_ends.proofs.UserRows.{is_talking, is_calling}

-- ---- states

same_by : (p : UserState → Bool) (t : ℕ) → ((again : Bool) (due later : ℕ) → p (user.CallInitiated again later) ≡ p (user.CallInitiated again due)) → ((due later : ℕ) → p (user.OutgoingCallProceeding later) ≡ p (user.OutgoingCallProceeding due)) → ((due later : ℕ) → p (user.ConnectRequest later) ≡ p (user.ConnectRequest due))
    → ((cause due later : ℕ) → p (user.DisconnectRequest cause later) ≡ p (user.DisconnectRequest cause due)) → ((was again : Times) (cause : Option ℕ) (due later : ℕ) → p (user.ReleaseRequest again cause later) ≡ p (user.ReleaseRequest was cause due)) → (s : UserState) → p (user_later t s) ≡ p s
same_by p t a b c d e (user.CallInitiated again due) = a again due _
same_by p t a b c d e (user.OutgoingCallProceeding due) = b due _
same_by p t a b c d e (user.ConnectRequest due) = c due _
same_by p t a b c d e (user.DisconnectRequest cause due) = d cause due _
same_by p t a b c d e (user.ReleaseRequest again cause due) = e again NotYet cause due _
same_by p t a b c d e s = refl

talking_later : (t : ℕ) (s : UserState) → is_talking (user_later t s) ≡ is_talking s
talking_later t s = same_by is_talking t (λ a d l. refl) (λ d l. refl) (λ d l. refl) (λ c d l. refl) (λ w a c d l. refl) s

calling_later : (t : ℕ) (s : UserState) → is_calling (user_later t s) ≡ is_calling s
calling_later t s = same_by is_calling t (λ a d l. refl) (λ d l. refl) (λ d l. refl) (λ c d l. refl) (λ w a c d l. refl) s

answering_later : (t : ℕ) (s : UserState) → is_answering (user_later t s) ≡ is_answering s
answering_later t s = same_by is_answering t (λ a d l. refl) (λ d l. refl) (λ d l. refl) (λ c d l. refl) (λ w a c d l. refl) s

clearing_later : (t : ℕ) (s : UserState) → is_user_clearing (user_later t s) ≡ is_user_clearing s
clearing_later t s = same_by is_user_clearing t (λ a d l. refl) (λ d l. refl) (λ d l. refl) (λ c d l. refl) (λ w a c d l. refl) s

-- ---- all calls

module _ (t : ℕ) where
  all_later : (P Q : PlainUserCall → Type 0) → ((c : PlainUserCall) → P c → Q (user_unlinked t c)) → (cs : List PlainUserCall) → AllByRecursion P cs → AllByRecursion Q (map (user_unlinked t) cs)
  all_later P Q f [] h = tt
  all_later P Q f (c ∷ cs) h = (f c h.0, all_later P Q f cs h.1)

  apart_later : (cs : List PlainUserCall) → AreOnTheirOwn cs → AreOnTheirOwn (map (user_unlinked t) cs)
  apart_later [] own = tt
  apart_later (c ∷ cs) own = (all_later (λ (o : PlainUserCall). c.channel ≢ o.channel) (λ (o : PlainUserCall). c.channel ≢ o.channel) (λ o p. p) cs own.0, apart_later cs own.1)

  any_later : (r c : ℕ) (cs : List PlainUserCall) → list_any (offered_as r c) cs ≡ list_any (offered_as r c) (map (user_unlinked t) cs)
  any_later r c [] = refl
  any_later r c (x ∷ xs) = ap (λ (b : Bool). offered_as r c x || b) (any_later r c xs)

-- ---- calls that the exchange began

pub far_unlinked_keeps : (assigned : List (Option ℕ)) (sent far_sent : List Outgoing) (f : FarDay) → FarBefore assigned sent far_sent f → FarTicked assigned sent far_sent (record { day = far_unlinked f; sent = [] })
far_unlinked_keeps assigned sent far_sent f b =
    let t = f.moment + 1 in
    record {
      replies = saids_grow assigned sent far_sent [] f (far_unlinked f) kept b.replies tt;
      calls = all_later t (λ c. user_flag c.origin ≡ true → OfferedCall assigned sent c) (λ c. user_flag c.origin ≡ true → OfferedCall assigned sent c)
          (λ c p u. record { known = (p u).known; channel = (p u).channel; in_service = (p u).in_service; offered = calling_later t c.state ∙ (p u).offered; active = λ a. (p u).active (sym (talking_later t c.state) ∙ a) }) f.calls b.calls;
      apart = apart_later t f.calls b.apart;
      size = b.size;
      places = all_later t (λ c. IsChannel c.channel) (λ c. IsChannel c.channel) (λ c p. p) f.calls b.places;
    }
  where
    kept : (r : ℕ) → Kept assigned sent f r → Kept assigned sent (far_unlinked f) r
    kept r (Holds h) = Holds (sym (any_later (f.moment + 1) r (channel_at assigned (r - 1)) f.calls) ∙ h)
    kept r (Maintained h) = Maintained h
    kept r (Cleared h) = Cleared h

-- ---- calls that the far end began

pub far_unlinked_inward : (named : ℕ → ℕ) (next t : ℕ) (sent far_sent : List Outgoing) (cs : List PlainUserCall) → InwardCalls named next sent far_sent cs → InwardCalls named next sent far_sent (map (user_unlinked t) cs)
far_unlinked_inward named next t sent far_sent cs h = all_later t (λ c. user_flag c.origin ≡ false → InwardCall named next sent far_sent c) (λ c. user_flag c.origin ≡ false → InwardCall named next sent far_sent c)
    (λ c p u. record {
      given = (p u).given;
      channel = (p u).channel;
      began = answering_later t c.state ∙ (p u).began;
      calm = λ q. (p u).calm (sym (clearing_later t c.state) ∙ q);
      active = λ q. (p u).active (sym (talking_later t c.state) ∙ q);
    }) cs h

-- ---- limits

pub far_unlinked_within : (f : FarDay) → FarWithin f → FarWithin (far_unlinked f)
far_unlinked_within f h = record {
  calls = all_later (f.moment + 1) UserCallWithin UserCallWithin (λ c p. record { reference = p.reference; channel = p.channel; number = p.number }) f.calls h.calls;
  first = h.first;
  room = omega (arith, h.room, later_split f.moment f.script);
}
