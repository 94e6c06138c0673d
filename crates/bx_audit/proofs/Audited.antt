-- What a file has of the events that were followed, and what is told of it.
use Rattle.bx_events.specs.declared.rules.Rules.{Rules}
use Rattle.std.proofs.Common.{◌≡◌, ℕ, Bool, true, is_some, List, [], ◌∷◌, ◌++◌, length, Option, Some, None, Result, Ok, Err, OnOk, refl, sym, ap, ◌∙◌, ◌+◌, subst}
use Rattle.std.specs.List.{flat_map}
use Rattle.std.proofs.lemmas.List.{append-nil, length-set}
use Rattle.arrayvec.specs.ArrayVec.{ArrayVec}
use Rattle.bx_base.specs.PlanParts.{parts_of}
use Rattle.bx_day_openings.specs.Followed.{IsFollowedWhole}
use Rattle.bx_day_openings.specs.Tied.{IsTiedOf}
use Rattle.bx_day_openings.specs.TiedDays.{IsOpeningOf, IsOpened}
use Rattle.bx_day_openings.specs.declared.fault.DayCommandFault.{DayCommandFault}
use Rattle.bx_day_openings.specs.declared.plan_opening.DayOpening.{DayOpening}
use Rattle.bx_day_openings.specs.declared.tied.TiedPlan.{TiedPlan}
use Rattle.bx_devices.specs.declared.watched.Watched.{Watched}
use Rattle.bx_journal.specs.Follows.{IsFollowed}
use Rattle.bx_journal.specs.Heads.{of_any_day}
use Rattle.bx_journal.specs.declared.fault.JournalFault.{JournalFault}
use Rattle.bx_journal.specs.declared.fault.JournalFault.TheVariants.{NotBegun}
use Rattle.bx_journal.specs.declared.head.Wanted.{Wanted}
use Rattle.bx_audit.specs.Audits.{IsAudited, IsKeptSoFar}
use Rattle.bx_events.specs.Events.{Event, LiveEvent, OnLink, WithoutLink, Amended, HeardByRulesTwo}
use Rattle.std.specs.Option.{option_map}
use Rattle.bx_q931.specs.Outgoing.{Outgoing, out_octets}
use Rattle.bx_calls.specs.Sending.{reply_list, spelled}
use Rattle.bx_frames.specs.Courses.{reply_messages}
use Rattle.bx_capture.specs.Captures.{packet_sent, packets_for, Keeps, IsCaptured}
use Rattle.bx_capture.specs.Keeping.{keeps_nil, keeps_more}
use Rattle.bx_capture.specs.Packets.{packet}
use Rattle.bx_capture.specs.declared.packet.Direction.TheVariants.{Received}
use Rattle.bx_day.specs.Day.{Day}
use Rattle.bx_day.specs.Course.{exchange_next, exchange_sent}
use Rattle.bx_day.specs.Outages.{live_happens}
use Rattle.bx_planfile.specs.OneBooking.{row_on}
use Rattle.bx_events.specs.declared.amendment.Amendment.{Amendment}
use Rattle.bx_events.specs.declared.amendment.Amendment.TheVariants.{Sold, Cancelled, Changed, SoldByRulesTwo, Delayed, Dropped, Out}
use Rattle.bx_sales.specs.Amending.{AmendsDay, row_numbered}
use Rattle.bx_day_openings.specs.Going.{IsStopped, GoesFrom}
use Rattle.bx_day_openings.specs.Amendments.{IsBadAmendment}
use Rattle.bx_day_openings.specs.Selling.{day_goes}
use Rattle.bx_day_openings.specs.declared.amending.AmendmentFault.{AmendmentFault}
use Rattle.bx_audit.specs.Followed.{IsLiveCaptured, Taken, IsTaken, IsTakenNoted, IsRecaptured, taken_of}
use Rattle.bx_day.specs.declared.outcome.GivenUp.{GivenUp}
use Rattle.bx_day.specs.declared.outcome.GivenUp.TheVariants as how
use Rattle.bx_sales.specs.GivenUps.{none_given_up, noted_of}
use Rattle.bx_audit.specs.LiveCaptures.{live_packets_for, CapturesThrough}

-- an event on the link
pub captured_on_link : {W : Type 0} {contents : W → Option (List ℕ)} {first first' : ℕ} {file file' : Option (Watched W)} {d d' : Day} (e : Event)
    → IsCaptured exchange_next (packets_for exchange_next exchange_sent (λ (x : Day). x.moment) (λ (x : Day). x.moment)) contents first first' file file' d d' (e ∷ []) → IsLiveCaptured contents first first' file file' d d' (OnLink e ∷ [])
captured_on_link e p = record { day = p.day; stays = p.stays; kept = p.kept }

-- what came to an exchange of the rules 2, and the reply
pub same_reply : (o : Option (ArrayVec ℕ)) (r : Option Outgoing) → option_map (λ (x : ArrayVec ℕ). x.items) o ≡ option_map out_octets r → reply_messages o ≡ spelled (reply_list r)
same_reply None None e = refl
same_reply None (Some r) e = absurd cc
same_reply (Some o) None e = absurd cc
same_reply (Some o) (Some r) e =
    let same : o.items ≡ out_octets r = cc in
    ap (λ (l : List ℕ). record { items = l } ∷ []) same

pub captured_by_two : {W : Type 0} (contents : W → Option (List ℕ)) (first : ℕ) (file file1 file2 : Option (Watched W)) (d d' : Day) (came : List ℕ) (at : ℕ) (replies : List (ArrayVec ℕ))
    → at ≡ d.moment → replies ≡ spelled (live_happens d (HeardByRulesTwo came)).sent → d' ≡ (live_happens d (HeardByRulesTwo came)).day
    → Keeps contents file file1 (packet (first + at) Received came) → Keeps contents file1 file2 (flat_map (packet_sent (first + at)) replies) → IsLiveCaptured contents first first file file2 d d' (HeardByRulesTwo came ∷ [])
captured_by_two contents first file file1 file2 d d' came at replies moment sent day p q =
    let text = live_packets_for first d (HeardByRulesTwo came) in
    let same : packet (first + at) Received came ++ flat_map (packet_sent (first + at)) replies ≡ text ++ [] =
    ap (λ (n : ℕ). packet (first + n) Received came ++ flat_map (packet_sent (first + n)) replies) moment
    ∙ ap (λ (l : List (ArrayVec ℕ)). packet (first + d.moment) Received came ++ flat_map (packet_sent (first + d.moment)) l) sent
    ∙ sym (append-nil text) in
    record { day = day; stays = refl; kept = subst (Keeps contents file file2) same (keeps_more contents file file1 file2 (packet (first + at) Received came) (flat_map (packet_sent (first + at)) replies) p q) }

module _ {W : Type 0} (contents : W → Option (List ℕ)) (cs cs' : List Bool) (s s' : Option AmendmentFault) (a b : Taken W) (same : cs' ≡ cs) where
  taken_as : (events : List LiveEvent) → s ≡ None → GoesFrom (IsTaken contents cs) (λ (t : Taken W). t.day) cs None a events b s' → IsRecaptured contents cs cs' s s' a events b
  taken_as events none goes = (same, subst (λ (x : Option AmendmentFault). GoesFrom (IsTaken contents cs) (λ (t : Taken W). t.day) cs x a events b s') (sym none) goes)

  went : (events : List LiveEvent) → s ≡ None → s' ≡ s → IsTaken contents cs a events b → IsRecaptured contents cs cs' s s' a events b
  went events none still goes = taken_as events none (subst (λ (x : Option AmendmentFault). GoesFrom (IsTaken contents cs) (λ (t : Taken W). t.day) cs None a events b x) (sym (still ∙ none)) goes)

  pub on_link : (e : Event) → s ≡ None → s' ≡ s → IsLiveCaptured contents a.first b.first a.file b.file a.day b.day (OnLink e ∷ []) → IsRecaptured contents cs cs' s s' a (OnLink e ∷ []) b
  on_link e none still p = went (OnLink e ∷ []) none still (record { stays = p.stays; octets = live_packets_for a.first a.day (OnLink e) ++ []; through = ([], refl, (p.day, refl)); kept = p.kept })

  pub by_rules_two : (came : List ℕ) → s ≡ None → s' ≡ s → IsLiveCaptured contents a.first b.first a.file b.file a.day b.day (HeardByRulesTwo came ∷ []) → IsRecaptured contents cs cs' s s' a (HeardByRulesTwo came ∷ []) b
  by_rules_two came none still p =
      went (HeardByRulesTwo came ∷ []) none still (record { stays = p.stays; octets = live_packets_for a.first a.day (HeardByRulesTwo came) ++ []; through = ([], refl, (p.day, refl)); kept = p.kept })

  pub without_link : (rules : Rules) → s ≡ None → s' ≡ s → b.day ≡ (live_happens a.day (WithoutLink rules)).day → b.file ≡ a.file → b.first ≡ a.first → IsRecaptured contents cs cs' s s' a (WithoutLink rules ∷ []) b
  without_link rules none still day file first = went (WithoutLink rules ∷ []) none still (record { stays = first; octets = []; through = (day, refl); kept = subst (λ (f : Option (Watched W)). Keeps contents a.file f []) (sym file) (keeps_nil contents a.file) })

  pub amended_again : (kind : Amendment) (line : List ℕ) → s ≡ None → s' ≡ s → AmendsDay cs row_on kind line a.day b.day → b.file ≡ a.file → b.first ≡ a.first → IsRecaptured contents cs cs' s s' a (Amended kind line ∷ []) b
  amended_again kind line none still is file first =
      went (Amended kind line ∷ []) none still (record { stays = first; octets = []; through = (b.day, is, (refl, refl)); kept = subst (λ (f : Option (Watched W)). Keeps contents a.file f []) (sym file) (keeps_nil contents a.file) })

  pub not_amended : (kind : Amendment) (line : List ℕ) (fault : AmendmentFault) → s ≡ None → s' ≡ Some fault → b.day ≡ a.day → b.file ≡ a.file → b.first ≡ a.first → IsBadAmendment cs kind line a.day fault → IsRecaptured contents cs cs' s s' a (Amended kind line ∷ []) b
  not_amended kind line fault none is day file first why = taken_as (Amended kind line ∷ []) none (subst (λ (x : Option AmendmentFault). GoesFrom (IsTaken contents cs) (λ (t : Taken W). t.day) cs None a (Amended kind line ∷ []) b x) (sym is) (record {
    amendment = record { before = []; kind = kind; line = line; following = []; are = refl };
    went = record { stays = first; octets = []; through = (day, refl); kept = subst (λ (f : Option (Watched W)). Keeps contents a.file f []) (sym file) (keeps_nil contents a.file) };
    why = subst (λ (d : Day). IsBadAmendment cs kind line d fault) (sym day) why;
  }))

-- the list of what was given up stays as long as it is
pub noted_length : (given_up : List (Option GivenUp)) (kind : Amendment) (line : List ℕ) → length (noted_of given_up kind line) ≡ length given_up
noted_length given_up Cancelled line = length-set given_up (row_numbered line) (Some how.Cancelled)
noted_length given_up Dropped line = length-set given_up (row_numbered line) (Some how.Dropped)
noted_length given_up Sold line = refl
noted_length given_up Changed line = refl
noted_length given_up SoldByRulesTwo line = refl
noted_length given_up Delayed line = refl
noted_length given_up Out line = refl

pub stays_if : {W : Type 0} (contents : W → Option (List ℕ)) (cs : List Bool) (s : Option AmendmentFault) (a : Taken W) (events : List LiveEvent) → is_some s ≡ true → IsRecaptured contents cs cs s s a events a
stays_if contents cs None a events is = cc
stays_if contents cs (Some fault) a events is = (refl, (refl, refl))

-- ---- what was captured, without its packets

pub through_of : (channels : List Bool) (first : ℕ) (events : List LiveEvent) (d d1 : Day) (octets : List ℕ) → CapturesThrough channels first events d d1 octets → day_goes channels d events d1
through_of channels first [] d d1 octets h = h.0
through_of channels first (Amended kind line ∷ events) d d1 octets (amended, is, rest) = (amended, is, through_of channels first events amended d1 octets rest)
through_of channels first (OnLink event ∷ events) d d1 octets (more, are, rest) = through_of channels first events (live_happens d (OnLink event)).day d1 more rest
through_of channels first (HeardByRulesTwo came ∷ events) d d1 octets (more, are, rest) = through_of channels first events (live_happens d (HeardByRulesTwo came)).day d1 more rest
through_of channels first (WithoutLink rules ∷ events) d d1 octets rest = through_of channels first events (live_happens d (WithoutLink rules)).day d1 octets rest

-- from the day and the file as they were at the beginning
module _ {W : Type 0} (contents : W → Option (List ℕ)) (channels cs cs' : List Bool) (s s' : Option AmendmentFault) (a b : Taken W) (first : ℕ) (file : Option (Watched W)) (opened : Day) (on_channels : cs ≡ channels) (fresh : s ≡ None) (opens : a ≡ taken_of opened file first) (events : List LiveEvent) (h : IsRecaptured contents cs cs' s s' a events b) where
  from_start : GoesFrom (IsTaken contents channels) (λ (t : Taken W). t.day) channels None (taken_of opened file first) events b s'
  from_start =
      subst (λ (t : Taken W). GoesFrom (IsTaken contents channels) (λ (u : Taken W). u.day) channels None t events b s') opens
      (subst (λ (x : List Bool). GoesFrom (IsTaken contents x) (λ (t : Taken W). t.day) x None a events b s') on_channels
      (subst (λ (x : Option AmendmentFault). GoesFrom (IsTaken contents cs) (λ (t : Taken W). t.day) cs x a events b s') fresh h.1))

  pub taken_whole : s' ≡ None → IsTaken contents channels (taken_of opened file first) events b
  taken_whole whole = subst (λ (x : Option AmendmentFault). GoesFrom (IsTaken contents channels) (λ (t : Taken W). t.day) channels None (taken_of opened file first) events b x) whole from_start

  pub taken_to : (fault : AmendmentFault) → s' ≡ Some fault → IsStopped (IsTaken contents channels) (λ (t : Taken W). t.day) channels (taken_of opened file first) events b fault
  taken_to fault is = subst (λ (x : Option AmendmentFault). GoesFrom (IsTaken contents channels) (λ (t : Taken W). t.day) channels None (taken_of opened file first) events b x) is from_start

  pub stopped_day : (fault : AmendmentFault) → s' ≡ Some fault → IsStopped (day_goes channels) (λ (d : Day). d) channels opened events b.day fault
  stopped_day fault is = let t = taken_to fault is in record { amendment = t.amendment; went = through_of channels first t.amendment.before opened b.day t.went.octets t.went.through; why = t.why }

-- ---- the opening of a plan

pub opens_with : (gives : List ℕ → Option (List ℕ) → Type 0) (name : List ℕ) (tied : TiedPlan) (o : DayOpening) → IsTiedOf gives name (parts_of tied.plan) tied.digest → IsOpened tied o → IsOpeningOf gives name o.exchange o.channels o.digest
opens_with gives name tied o is opened = record { plan = parts_of tied.plan; tied = subst (λ (d : List ℕ). IsTiedOf gives name (parts_of tied.plan) d) (sym opened.digest) is; opens = opened.opens; in_service = opened.in_service }

-- ---- what was followed to its end, or to a fault

pub audited : {W : Type 0} (contents : W → Option (List ℕ)) (plan : List ℕ) (channels : List Bool) (before : Option (List ℕ)) (file : Option (Watched W)) (first : ℕ) (opened : Day) (b : Taken W) (given_up : List (Option GivenUp)) (r : Result (Unit {0}) DayCommandFault) (v : Unit {0}) → r ≡ Ok v
    → OnOk r (IsFollowedWhole (IsTakenNoted contents channels) (of_any_day plan) before (taken_of opened file first, none_given_up) (b, given_up)) → IsAudited plan channels before contents file b.file first opened b.day given_up
audited contents plan channels before file first opened b given_up r v is followed =
    let f = subst (λ (x : Result (Unit {0}) DayCommandFault). OnOk x (IsFollowedWhole (IsTakenNoted contents channels) (of_any_day plan) before (taken_of opened file first, none_given_up) (b, given_up))) is followed in
    record { events = f.events; journal = f.journal; octets = f.all.0.octets; through = f.all.0.through; kept = f.all.0.kept; noted = f.all.1 }

-- of a journal that does not tell its octets
pub untold : {W : Type 0} (contents : W → Option (List ℕ)) (plan : List ℕ) (channels : List Bool) (before : Option (List ℕ)) (file closed : Option (Watched W)) (first : ℕ) (opened day : Day) (given_up : List (Option GivenUp)) → IsAudited plan channels before contents file closed first opened day given_up → IsAudited plan channels None contents file closed first opened day given_up
untold contents plan channels before file closed first opened day given_up a = record { events = a.events; journal = record { text = a.journal.text; told = λ known is. absurd cc; are = a.journal.are }; octets = a.octets; through = a.through; kept = a.kept; noted = a.noted }

pub kept_so_far : {W : Type 0} (contents : W → Option (List ℕ)) (channels : List Bool) (file : Option (Watched W)) (first : ℕ) (opened : Day) (events : List LiveEvent) (b : Taken W) → IsTaken contents channels (taken_of opened file first) events b → IsKeptSoFar contents channels file b.file first opened
kept_so_far contents channels file first opened events b t = record { events = events; day = b.day; octets = t.octets; through = t.through; kept = t.kept }

pub same_taken : {W : Type 0} (d d1 : Day) (f f1 : Option (Watched W)) (n n1 : ℕ) → d ≡ d1 → f ≡ f1 → n ≡ n1 → taken_of d f n ≡ taken_of d1 f1 n1
same_taken d d1 f f1 n n1 p q r = cc

-- some events were followed, whatever came of it
pub followed_some : {F : Type 0} (followed : F → List LiveEvent → F → Type 0) (faulted : Bool) (before after : Option (List ℕ)) (wanted : Wanted) (f g : F) (result : Result ℕ JournalFault) → IsFollowed followed faulted before after wanted f g result → (events : List LiveEvent) × followed f events g
followed_some followed faulted before after wanted f g (Err NotBegun) r = ([], r.followed_none)
followed_some followed faulted before after wanted f g result r = (r.events, r.followed_all)
