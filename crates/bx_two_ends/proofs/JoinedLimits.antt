-- What both ends say in turns is within the limits of a message, and the days within those that this needs.
use Rattle.std.proofs.Common.{◌≡◌, ℕ, Bool, true, false, List, [], ◌∷◌, ◌++◌, map, Option, Some, None, refl, sym, subst, ◌∙◌, if◌then◌else◌}
use Rattle.std.specs.List.{AllByRecursion}
use Rattle.bx_q931.specs.Outgoing.{Outgoing, out_octets}
use Rattle.bx_q931.specs.declared.channel_field.ChannelField.{ChannelField}
use Rattle.bx_q931.specs.declared.channel_field.ChannelField.TheVariants.{Named}
use Rattle.bx_q931.specs.declared.kind.Kind.{Kind}
use Rattle.bx_q931.specs.declared.kind.Kind.TheVariants as kinds
use Rattle.bx_calls.specs.PlainCalls.{PlainUserCall}
use Rattle.bx_calls.specs.Said.{Said}
use Rattle.bx_calls.specs.Sending.{Answered, unchanged, reply_list}
use Rattle.bx_calls.specs.declared.user_state.Policy.{Policy}
use Rattle.bx_calls.specs.declared.user_state.Policy.TheVariants as policies
use Rattle.bx_day.specs.Day.{Day, entry_at}
use Rattle.bx_day.specs.Invariant.{is_refused}
use Rattle.bx_day.specs.Law.{standing_at}
use Rattle.bx_day.specs.Receipts.{hears, takes_call, with_moved}
use Rattle.bx_day.specs.Run.{receive_octets}
use Rattle.bx_day.specs.declared.entry.Moved.{Moved}
use Rattle.bx_day.specs.declared.entry.Standing.{Standing}
use Rattle.bx_day.specs.declared.entry.Standing.TheVariants.{Refused}
use Rattle.bx_day.proofs.Receive.{open_parts}
use Rattle.bx_day.proofs.Tick.{with_standing}
use Rattle.bx_far.specs.FarDay.{FarDay, far_refuses, far_takes, far_called_on, far_called, far_stray, far_received_by, far_receive, is_taken, first_call, far_names}
use Rattle.bx_far.specs.Policies.{policy_of}
use Rattle.bx_two_ends.specs.Earning.{heard_in}
use Rattle.bx_two_ends.specs.Lockstep.{far_heard, far_says, exchange_says}
use Rattle.bx_two_ends.specs.Scripts.{IsScriptRow}
use Rattle.bx_two_ends.proofs.Delivery.{Sendable, said_from, receive_sent, far_receive_sent}
use Rattle.bx_two_ends.proofs.ExchangeHears.{set_at}
use Rattle.bx_two_ends.proofs.ExchangeLimits.{AnswerOk, ExchangeWithin, receive_ok}
use Rattle.bx_two_ends.proofs.FarLimits.{FarWithin, far_receive_ok}
use Rattle.bx_two_ends.proofs.History.{all_joined, listed}
use Rattle.bx_two_ends.proofs.Outward.{Seat, Seats}
use Rattle.bx_two_ends.proofs.Turning.{octets_day}

-- ---- the far end

-- its script and its moment stay
pub record Stays (f x : FarDay) : Type 0 where
  pub script : x.script ≡ f.script
  pub moment : x.moment ≡ f.moment

as_it_was : (f : FarDay) → Stays f f
as_it_was f = record { script = refl; moment = refl }

module _ (f : FarDay) (m : Said) (called : Option (List ℕ)) where
  takes_stays : (c : ℕ) (policy : Policy) → Stays f (far_takes f m c policy).day
  takes_stays c policies.Silent = as_it_was f
  takes_stays c policies.Busy = as_it_was f
  takes_stays c policy = record { script = refl; moment = refl }

  named_stays : (c : ℕ) (b : Bool) → Stays f (let x : Answered FarDay = if b then far_refuses f m 44 else far_takes f m c (policy_of f.script called) in x).day
  named_stays c true = as_it_was f
  named_stays c false = takes_stays c (policy_of f.script called)

  called_on_stays : (field : ChannelField) → Stays f (far_called_on f m called field).day
  called_on_stays (Named c exclusive) = named_stays c (is_taken f c)
  called_on_stays field = as_it_was f

  called_stays : (cause : Option ℕ) → Stays f (far_called f m called cause).day
  called_stays (Some cause) = as_it_was f
  called_stays None = called_on_stays m.heard.channel

  setup_stays : (b : Bool) → Stays f (let x : Answered FarDay = if b then unchanged f None else far_called f m called m.refused in x).day
  setup_stays true = as_it_was f
  setup_stays false = called_stays m.refused

  stray_stays : (kind : Kind) → Stays f (far_stray f m called kind).day
  stray_stays kinds.Setup = setup_stays m.flag
  stray_stays kind = as_it_was f

  call_stays : (call : Option PlainUserCall) → Stays f (far_received_by f m called call).day
  call_stays None = stray_stays m.heard.kind
  call_stays (Some call) = record { script = refl; moment = refl }

-- what holds of it
pub record FarHolds (f : FarDay) : Type 0 where
  pub script : AllByRecursion IsScriptRow f.script
  pub within : FarWithin f

-- after these messages, with what it says to them
pub record FarHeard (os : List Outgoing) (f : FarDay) : Type 0 where
  pub holds : FarHolds (far_heard os f)
  pub said : AllByRecursion Sendable (far_says os f)
  pub moment : (far_heard os f).moment ≡ f.moment

-- the same after an answer
record FarAnswers (os : List Outgoing) (t : ℕ) (y : Answered FarDay) : Type 0 where
  holds : FarHolds (far_heard os y.day)
  said : AllByRecursion Sendable (reply_list y.reply ++ far_says os y.day)
  moment : (far_heard os y.day).moment ≡ t

pub far_hears : (os : List Outgoing) (f : FarDay) → AllByRecursion Sendable os → FarHolds f → FarHeard os f
far_hears [] f s h = record { holds = h; said = tt; moment = refl }
far_hears (o ∷ os) f s h =
    let x : Answered FarDay = far_receive f (said_from o) o.called in
    let ok = far_receive_ok f o o.called h.within s.0 in
    let stays = call_stays f (said_from o) o.called (first_call (far_names (said_from o)) f.calls) in
    let rest = far_hears os x.day s.1 (record { script = subst (AllByRecursion IsScriptRow) (sym stays.script) h.script; within = ok.lims }) in
    let here : FarAnswers os f.moment x = record { holds = rest.holds; said = all_joined Sendable (reply_list x.reply) (far_says os x.day) (listed Sendable x.reply ok.reply) rest.said; moment = rest.moment ∙ stays.moment } in
    let there = subst (FarAnswers os f.moment) (sym (far_receive_sent f o s.0)) here in
    record { holds = there.holds; said = there.said; moment = there.moment }

-- ---- the exchange

refused_before : (s : Said) (t : ℕ) (st : Standing) → is_refused (hears s t st).standing ≡ false → is_refused st ≡ false
refused_before s t Refused q = q
refused_before s t st q = refl

module _ (assigned : List (Option ℕ)) (d : Day) where
  moved_seats : (i : ℕ) (m : Moved) → (is_refused m.standing ≡ false → is_refused (standing_at d i) ≡ false) → Seats assigned d.entries → Seats assigned (with_moved d i m).day.entries
  moved_seats i m before seats k = set_at (λ e. is_refused e.standing ≡ false → Seat assigned k e) d.entries i k (with_standing (entry_at d.entries i) m.standing)
      (λ q r. let p : Seat assigned k (entry_at d.entries i) = subst (λ n. Seat assigned n (entry_at d.entries i)) (sym q) (seats i (before r)) in
      record { reference = p.reference; few = p.few; channel = p.channel; in_service = p.in_service; number = p.number }) (seats k)

  heard_seats : (octets : List ℕ) → Seats assigned d.entries → Seats assigned (receive_octets d octets).day.entries
  heard_seats octets seats = octets_day (λ x. Seats assigned x.entries) d octets seats
      (λ s i. moved_seats i (hears s d.moment (standing_at d i)) (refused_before s d.moment (standing_at d i)) seats)
      (λ s i open'. moved_seats i (takes_call s (entry_at d.entries i)) (λ _. (open_parts d (entry_at d.entries i) open').accepted) seats)

-- what holds of it
pub record NearHolds (assigned : List (Option ℕ)) (d : Day) : Type 0 where
  pub seats : Seats assigned d.entries
  pub within : ExchangeWithin d

abbrev pub octets_of : List Outgoing → List (List ℕ)
octets_of os = map (λ o. out_octets o) os

pub record NearHeard (assigned : List (Option ℕ)) (os : List Outgoing) (d : Day) : Type 0 where
  pub holds : NearHolds assigned (heard_in (octets_of os) d)
  pub said : AllByRecursion Sendable (exchange_says os d)
  pub moment : (heard_in (octets_of os) d).moment ≡ d.moment

pub near_hears : (assigned : List (Option ℕ)) (os : List Outgoing) (d : Day) → AllByRecursion Sendable os → NearHolds assigned d → NearHeard assigned os d
near_hears assigned [] d s h = record { holds = h; said = tt; moment = refl }
near_hears assigned (o ∷ os) d s h =
    let x : Answered Day = receive_octets d (out_octets o) in
    let ok = subst (λ (y : Answered Day). AnswerOk y) (sym (receive_sent d o s.0)) (receive_ok assigned d o h.seats h.within s.0) in
    let moment : x.day.moment ≡ d.moment = octets_day (λ y. y.moment ≡ d.moment) d (out_octets o) refl (λ s i. refl) (λ s i open'. refl) in
    let rest = near_hears assigned os x.day s.1 (record { seats = heard_seats assigned d (out_octets o) h.seats; within = ok.lims }) in
    record { holds = rest.holds; said = all_joined Sendable (reply_list x.reply) (exchange_says os x.day) (listed Sendable x.reply ok.reply) rest.said; moment = rest.moment ∙ moment }
