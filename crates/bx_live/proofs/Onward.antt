-- Whatever is written belongs to the last event in the journal.
use Rattle.std.proofs.Common.{◌≡◌, ◌⊎◌, inl, inr, ℕ, zero, suc, ◌+◌, Some, None, List, [], ◌∷◌, ◌++◌, refl, sym, ap, ◌∙◌, subst, true, false, Bool, Result, Ok, ◌==◌, if◌then◌else◌}
use Rattle.std.proofs.lemmas.List.{append-nil, append_assoc}
use Rattle.arrayvec.specs.ArrayVec.{ArrayVec}
use Rattle.bx_events.specs.Events.{Event, Receive, LiveEvent, OnLink, WithoutLink, Amended, HeardByRulesTwo}
use Rattle.bx_frames.specs.declared.fault.LinkFault.{LinkFault}
use Rattle.bx_frames.specs.declared.frame.Frame.{Frame}
use Rattle.bx_frames.specs.declared.frame.Frame.TheVariants as frames
use Rattle.bx_day.specs.Day.{Day}
use Rattle.bx_day.specs.Course.{exchange_next, exchange_sent, exchange_text}
use Rattle.bx_day.specs.Outages.{live_happens, live_day_after}
use Rattle.bx_live.specs.declared.world.Begin.{Begin}
use Rattle.bx_live.specs.declared.world.Begin.TheVariants as begins
use Rattle.bx_live.specs.declared.world.Loss.{Loss}
use Rattle.bx_live.specs.Acts.{Act, Began, Logged, Synced, Wrote, Read, Took, logged_by}
use Rattle.bx_live.specs.Runs.{Place, Between, Logging, Receiving, Taking, Owing, Losing, IsDue, IsRun, next, day_at, owing, with_reply, replying, writing, begun, heard}
use Rattle.bx_live.specs.Written.{Filed, filed, filed_by, AreHeard, IsWrittenFor}
use Rattle.bx_live.proofs.Due.{by_answers}
use Rattle.bx_live.proofs.Days.{step_day}

-- ---- lists of acts, one after the other

days_on : (xs ys : List LiveEvent) (d : Day) → live_day_after (xs ++ ys) d ≡ live_day_after ys (live_day_after xs d)
days_on [] ys d = refl
days_on (OnLink e ∷ xs) ys d = days_on xs ys (exchange_next d e)
days_on (WithoutLink rules ∷ xs) ys d = days_on xs ys _
days_on (Amended kind line ∷ xs) ys d = days_on xs ys d
days_on (HeardByRulesTwo octets ∷ xs) ys d = days_on xs ys (live_happens d (HeardByRulesTwo octets)).day

pub logged_on : (xs ys : List Act) → logged_by (xs ++ ys) ≡ logged_by xs ++ logged_by ys
logged_on [] ys = refl
logged_on (Logged event true ∷ xs) ys = ap (λ es. event ∷ es) (logged_on xs ys)
logged_on (x ∷ xs) ys = logged_on xs ys

pub filed_on : (xs ys : List Act) (f : Filed) → filed_by (xs ++ ys) f ≡ filed_by ys (filed_by xs f)
filed_on [] ys f = refl
filed_on (Logged event true ∷ xs) ys f = filed_on xs ys (record { disk = f.disk; more = f.more ++ event ∷ [] })
filed_on (Synced true ∷ xs) ys f = filed_on xs ys (record { disk = f.disk ++ f.more; more = [] })
filed_on (x ∷ xs) ys f = filed_on xs ys f

-- all that is logged is on the disk, or after the last sync
all_filed : (xs : List Act) (f : Filed) → (filed_by xs f).disk ++ (filed_by xs f).more ≡ (f.disk ++ f.more) ++ logged_by xs
all_filed [] f = sym (append-nil (f.disk ++ f.more))
all_filed (Logged event true ∷ xs) f =
    all_filed xs (record { disk = f.disk; more = f.more ++ event ∷ [] })
    ∙ (ap (λ es. es ++ logged_by xs) (sym (append_assoc f.disk f.more (event ∷ []))) ∙ append_assoc (f.disk ++ f.more) (event ∷ []) (logged_by xs))
all_filed (Synced true ∷ xs) f = all_filed xs (record { disk = f.disk ++ f.more; more = [] }) ∙ ap (λ es. es ++ logged_by xs) (append-nil (f.disk ++ f.more))
all_filed (x ∷ xs) f = all_filed xs f

pub filed_law : (acts : List Act) → (filed acts).disk ++ (filed acts).more ≡ logged_by acts
filed_law acts = all_filed acts (record { disk = []; more = [] })

-- ---- what is owed

record IsOwed (d : Day) (acts : List Act) (unsynced : Bool) (text : List ℕ) : Type 0 where
  earlier : List LiveEvent
  event : Event
  later : List LiveEvent
  on_log : logged_by acts ≡ earlier ++ OnLink event ∷ later
  heard : AreHeard later
  is_text : text ≡ exchange_text (live_day_after earlier d) event
  synced : (unsynced ≡ true) ⊎ ((exchange_sent (live_day_after earlier d) event ≡ []) ⊎ ((filed acts).more ≡ []))

abbrev AreOwed : Day → List Act → Bool → List (List ℕ) → Type 0
AreOwed d acts unsynced [] = Unit {0}
AreOwed d acts unsynced (text ∷ texts) = IsOwed d acts unsynced text × AreOwed d acts unsynced texts

abbrev Owes : Day → List Act → Place → Type 0
Owes d acts (Receiving day room owed octets) = AreOwed d acts true owed
Owes d acts (Taking day room owed) = AreOwed d acts true owed
Owes d acts (Owing day room unsynced texts) = AreOwed d acts unsynced texts
Owes d acts p = Unit {0}

record Stands (d : Day) (acts : List Act) (p : Place) : Type 0 where
  day : day_at p ≡ live_day_after (logged_by acts) d
  owes : Owes d acts p

heard_after : (events : List LiveEvent) (octets : List ℕ) → AreHeard events → AreHeard (events ++ OnLink (Receive octets) ∷ [])
heard_after [] octets h = tt
heard_after (OnLink (Receive other) ∷ events) octets h = heard_after events octets h
heard_after (x ∷ events) octets h = absurd h

-- what is owed after other acts
owed_map : (d : Day) (acts after : List Act) (was is : Bool) → ((text : List ℕ) → IsOwed d acts was text → IsOwed d after is text) → (texts : List (List ℕ)) → AreOwed d acts was texts → AreOwed d after is texts
owed_map d acts after was is f [] owed = tt
owed_map d acts after was is f (text ∷ texts) (first, owed) = (f text first, owed_map d acts after was is f texts owed)

owed_after : (d : Day) (acts : List Act) (unsynced : Bool) (owed : List (List ℕ)) (text : List ℕ) → AreOwed d acts unsynced owed → (¬ (text ≡ []) → IsOwed d acts unsynced text) → AreOwed d acts unsynced (with_reply owed text)
owed_after d acts unsynced owed [] are one = are
owed_after d acts unsynced owed (octet ∷ text) are one = last owed are where
  last : (owed : List (List ℕ)) → AreOwed d acts unsynced owed → AreOwed d acts unsynced (owed ++ (octet ∷ text) ∷ [])
  last [] are = (one (λ e. cc), tt)
  last (other ∷ owed) (first, are) = (first, last owed are)

module _ (d : Day) (acts : List Act) where
  replying_owes : (day : Day) (owed : List (List ℕ)) (room : ℕ) → AreOwed d acts true owed → Owes d acts (replying day owed room)
  replying_owes day [] room owed = tt
  replying_owes day (text ∷ owed) zero are = are
  replying_owes day (text ∷ owed) (suc room) are = are

  writing_owes : (day : Day) (room : ℕ) (texts : List (List ℕ)) → AreOwed d acts false texts → Owes d acts (writing day room texts)
  writing_owes day room [] owed = tt
  writing_owes day room (text ∷ texts) are = are

  owing_owes : (d1 : Day) (room : ℕ) (earlier : List LiveEvent) (event : Event) (sent : List (ArrayVec ℕ)) (text : List ℕ) → logged_by acts ≡ earlier ++ OnLink event ∷ []
      → sent ≡ exchange_sent (live_day_after earlier d) event → text ≡ exchange_text (live_day_after earlier d) event → Owes d acts (owing d1 room sent text)
  owing_owes d1 room earlier event [] [] on messages octets = tt
  owing_owes d1 room earlier event [] (octet ∷ text) on messages octets = (record { earlier = earlier; event = event; later = []; on_log = on; heard = tt; is_text = octets; synced = inr (inl (sym messages)) }, tt)
  owing_owes d1 room earlier event (message ∷ sent) text on messages octets = (record { earlier = earlier; event = event; later = []; on_log = on; heard = tt; is_text = octets; synced = inl refl }, tt)

  begun_owes : (day : Day) (begin : Begin) → Owes d acts (begun day begin)
  begun_owes day begins.Ended = tt
  begun_owes day begin = tt

  either_owes : (b : Bool) (day : Day) (loss : Loss) → Owes d acts (if b then Between day else Losing day loss)
  either_owes true day loss = tt
  either_owes false day loss = tt

  heard_owes : (day : Day) (room : ℕ) (answer : Result Frame LinkFault) → Owes d acts (heard day room answer)
  heard_owes day room (Ok (frames.EndOfTurn said)) = either_owes (said == day.moment) day _
  heard_owes day room answer = tt

module _ (d : Day) (acts : List Act) where
  abbrev after_act : Act → List Act
  after_act act = acts ++ act ∷ []

  -- of what is owed after an act
  abbrev KeepsOwed : Place → Act → Type 0
  KeepsOwed p act = Stands d acts p → Owes d (after_act act) (next p act)

  owed_logged : (day : Day) (room : ℕ) (event : LiveEvent) (done : Bool) → KeepsOwed (Logging day room event) (Logged event done)
  owed_logged day room (OnLink e) true stands =
      owing_owes d (after_act (Logged (OnLink e) true)) (exchange_next day e) room (logged_by acts) e (exchange_sent day e) (exchange_text day e)
      (logged_on acts (Logged (OnLink e) true ∷ [])) (ap (λ x. exchange_sent x e) stands.day) (ap (λ x. exchange_text x e) stands.day)
  owed_logged day room event false stands = tt
  owed_logged day room event true stands = tt

  owed_received : (day : Day) (room : ℕ) (owed : List (List ℕ)) (octets : List ℕ) → KeepsOwed (Receiving day room owed octets) (Logged (OnLink (Receive octets)) true)
  owed_received day room owed octets stands =
      let e = Receive octets in
      let act = Logged (OnLink e) true in
      let text = exchange_text day e in
      let one : IsOwed d (after_act act) true text = record {
        earlier = logged_by acts;
        event = e;
        later = [];
        on_log = logged_on acts (act ∷ []);
        heard = tt;
        is_text = ap (λ x. exchange_text x e) stands.day;
        synced = inl refl;
      } in
      replying_owes d (after_act act) (exchange_next day e) (with_reply owed text) room
      (owed_after d (after_act act) true owed text (owed_map d acts (after_act act) true true (λ t o. record {
        earlier = o.earlier;
        event = o.event;
        later = o.later ++ OnLink e ∷ [];
        on_log = logged_on acts (act ∷ []) ∙ (ap (λ es. es ++ OnLink e ∷ []) o.on_log ∙ append_assoc o.earlier (OnLink o.event ∷ o.later) (OnLink e ∷ []));
        heard = heard_after o.later octets o.heard;
        is_text = o.is_text;
        synced = inl refl;
      }) owed stands.owes) (λ some. one))

  -- an act that puts nothing in the journal
  quiet_owed : (act : Act) → logged_by (act ∷ []) ≡ [] → (owed : List (List ℕ)) → AreOwed d acts true owed → AreOwed d (after_act act) true owed
  quiet_owed act none owed are = owed_map d acts (after_act act) true true (λ t o. record {
    earlier = o.earlier;
    event = o.event;
    later = o.later;
    on_log = logged_on acts (act ∷ []) ∙ (ap (λ es. logged_by acts ++ es) none ∙ (append-nil (logged_by acts) ∙ o.on_log));
    heard = o.heard;
    is_text = o.is_text;
    synced = inl refl;
  }) owed are

  owed_synced : (day : Day) (room : ℕ) (texts : List (List ℕ)) → KeepsOwed (Owing day room true texts) (Synced true)
  owed_synced day room texts stands = owed_map d acts (after_act (Synced true)) true false (λ t o. record {
    earlier = o.earlier;
    event = o.event;
    later = o.later;
    on_log = logged_on acts (Synced true ∷ []) ∙ (append-nil (logged_by acts) ∙ o.on_log);
    heard = o.heard;
    is_text = o.is_text;
    synced = inr (inr (ap (λ (f : Filed). f.more) (filed_on acts (Synced true ∷ []) (record { disk = []; more = [] }))));
  }) texts stands.owes

  owed_written : (day : Day) (room : ℕ) (text : List ℕ) (texts : List (List ℕ)) → KeepsOwed (Owing day room false (text ∷ texts)) (Wrote text true)
  owed_written day room text texts stands = writing_owes d (after_act (Wrote text true)) day room texts (owed_map d acts (after_act (Wrote text true)) false false (λ t o. record {
    earlier = o.earlier;
    event = o.event;
    later = o.later;
    on_log = logged_on acts (Wrote text true ∷ []) ∙ (append-nil (logged_by acts) ∙ o.on_log);
    heard = o.heard;
    is_text = o.is_text;
    synced = still_synced o.synced;
  }) texts stands.owes.1) where
    still_synced : {A B : Type 0} → A ⊎ (B ⊎ ((filed acts).more ≡ [])) → A ⊎ (B ⊎ ((filed (after_act (Wrote text true))).more ≡ []))
    still_synced (inl a) = inl a
    still_synced (inr (inl b)) = inr (inl b)
    still_synced (inr (inr none)) = inr (inr (ap (λ (f : Filed). f.more) (filed_on acts (Wrote text true ∷ []) (record { disk = []; more = [] })) ∙ none))

  keeps_owed : (p : Place) (act : Act) → IsDue p act → KeepsOwed p act
  keeps_owed = by_answers KeepsOwed
      (λ day begin stands. begun_owes d (after_act (Began (day.moment + 1) begin)) day begin) owed_logged
      (λ day room owed octets. (owed_received day room owed octets, λ stands. tt))
      (λ day room owed. ((λ message stands. quiet_owed (Took (Some message)) refl owed stands.owes), (λ stands. quiet_owed (Took None) refl owed stands.owes)))
      (λ day room texts. (owed_synced day room texts, λ stands. tt)) (λ day room text texts. (owed_written day room text texts, λ stands. tt))
      (λ day room answer stands. heard_owes d (after_act (Read room answer)) day room answer)
      (λ day. ((λ stands. tt), (λ fault stands. tt))) (λ day. ((λ stands. tt), (λ stands. tt))) (λ day. ((λ stands. tt), (λ stands. tt))) (λ day stands. tt)

  stands_on : (p : Place) (act : Act) → IsDue p act → Stands d acts p → Stands d (after_act act) (next p act)
  stands_on p act due stands = record {
    day = step_day p act due ∙ (ap (live_day_after (logged_by (act ∷ []))) stands.day ∙ (sym (days_on (logged_by acts) (logged_by (act ∷ [])) d) ∙ ap (λ es. live_day_after es d) (sym (logged_on acts (act ∷ [])))));
    owes = keeps_owed p act due stands;
  }

  written_now : (p : Place) (octets : List ℕ) (done : Bool) → IsDue p (Wrote octets done) → Stands d acts p → IsWrittenFor d acts octets
  written_now (Owing day room false (text ∷ texts)) octets done due stands =
      let o = stands.owes.0 in
      record {
        earlier = o.earlier;
        event = o.event;
        later = o.later;
        on_log = o.on_log;
        heard = o.heard;
        text = due ∙ o.is_text;
        synced = not_unsynced o.synced;
      } where
        not_unsynced : {A : Type 0} → (false ≡ true) ⊎ A → A
        not_unsynced (inl e) = cc
        not_unsynced (inr a) = a
  written_now p octets done due stands = absurd due

written_after : (d : Day) (acts : List Act) (p : Place) → Stands d acts p → (before following : List Act) (octets : List ℕ) (done : Bool) (to : Place) → IsRun p (before ++ Wrote octets done ∷ following) to → IsWrittenFor d (acts ++ before) octets
written_after d acts p stands [] following octets done to (due, goes) = subst (λ xs. IsWrittenFor d xs octets) (sym (append-nil acts)) (written_now d acts p octets done due stands)
written_after d acts p stands (act ∷ before) following octets done to (due, goes) =
    subst (λ xs. IsWrittenFor d xs octets) (append_assoc acts (act ∷ []) before) (written_after d (acts ++ act ∷ []) (next p act) (stands_on d acts p act due stands) before following octets done to goes)

pub written_law : (d : Day) (before following : List Act) (octets : List ℕ) (done : Bool) (to : Place) → IsRun (Between d) (before ++ Wrote octets done ∷ following) to → IsWrittenFor d before octets
written_law d before following octets done to run = written_after d [] (Between d) (record { day = refl; owes = tt }) before following octets done to run
