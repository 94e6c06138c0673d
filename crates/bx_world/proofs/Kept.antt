-- What a crash leaves of a run over the disk of a journal.
use Rattle.std.proofs.Common.{◌≡◌, inl, inr, ⊎_elim, ℕ, suc, ◌+◌, List, [], ◌∷◌, ◌++◌, length, take, refl, sym, ap, ◌∙◌, subst, true, false, Bool, Ok, arith, length-append}
use Rattle.std.proofs.lemmas.List.{append-nil, append_assoc, take-append-le}
use Rattle.bx_events.specs.Events.{LiveEvent, OnLink, Receive}
use Rattle.bx_day.specs.Day.{Day}
use Rattle.bx_journal.specs.Disk.{LeavesOnly}
use Rattle.bx_journal.specs.Logging.{IsSettled, IsPending, IsPrefix}
use Rattle.bx_journal.proofs.Prefixes.{leaves_then}
use Rattle.bx_journal.proofs.Moments.{started, weaker}
use Rattle.bx_journal.proofs.Logged.{pending}
use Rattle.bx_journal.specs.declared.head.Head.{Head}
use Rattle.bx_live.specs.Acts.{Act, Began, Dropped, Logged, Synced, Wrote, Read, Took, EndedDay, logged_by}
use Rattle.bx_live.specs.Runs.{Place, Between, Logging, Receiving, Owing, Over, Closing, IsDue, IsRun, next}
use Rattle.bx_live.specs.Written.{Filed, filed, filed_by}
use Rattle.bx_live.proofs.Due.{by_due}
use Rattle.bx_live.proofs.Onward.{filed_law, written_law}
use Rattle.bx_live.specs.Chains.{Chain, chain_one, chain_first}
use Rattle.bx_world.specs.Kept.{keeps_log, asked, Knows, IsSafe}
use Rattle.bx_live.specs.Logs.{OnDisk}

-- ---- what failed is the last act of a run

abbrev LastFails : List Act → Type 0
LastFails [] = Unit {0}
LastFails (Logged event true ∷ acts) = LastFails acts
LastFails (Logged event false ∷ acts) = acts ≡ []
LastFails (Synced true ∷ acts) = LastFails acts
LastFails (Synced false ∷ acts) = acts ≡ []
LastFails (act ∷ acts) = LastFails acts

over_none : (d : Day) (acts : List Act) (to : Place) → IsRun (Over d) acts to → acts ≡ []
over_none d [] to e = refl
over_none d (Began second begin ∷ acts) to (due, goes) = absurd due
over_none d (Dropped loss ∷ acts) to (due, goes) = absurd due
over_none d (Logged event done ∷ acts) to (due, goes) = absurd due
over_none d (Synced done ∷ acts) to (due, goes) = absurd due
over_none d (Wrote octets done ∷ acts) to (due, goes) = absurd due
over_none d (Read room answer ∷ acts) to (due, goes) = absurd due
over_none d (Took message ∷ acts) to (due, goes) = absurd due
over_none d (EndedDay ∷ acts) to (due, goes) = absurd due

-- a failed act leads to where nothing is due
abbrev pub Stops : Place → Act → Type 0
Stops p (Logged event false) = (d : Day) × (next p (Logged event false) ≡ Over d)
Stops p (Synced false) = (d : Day) × (next p (Synced false) ≡ Over d)
Stops p act = Unit {0}

pub stops : (p : Place) (act : Act) → IsDue p act → Stops p act
stops = by_due Stops (λ d begin. tt) stops_logged stops_received (λ d room owed message. tt) stops_synced (λ d room text texts done. tt) (λ d room answer. tt) (λ d loss. tt) stops_closed stops_ended (λ d. tt) where
  stops_logged : (d : Day) (room : ℕ) (event : LiveEvent) (done : Bool) → Stops (Logging d room event) (Logged event done)
  stops_logged d room event true = tt
  stops_logged d room event false = (d, refl)

  stops_received : (d : Day) (room : ℕ) (owed : List (List ℕ)) (octets : List ℕ) (done : Bool) → Stops (Receiving d room owed octets) (Logged (OnLink (Receive octets)) done)
  stops_received d room owed octets true = tt
  stops_received d room owed octets false = (d, refl)

  stops_synced : (d : Day) (room : ℕ) (texts : List (List ℕ)) (done : Bool) → Stops (Owing d room true texts) (Synced done)
  stops_synced d room texts true = tt
  stops_synced d room texts false = (d, refl)

  stops_closed : (d : Day) (done : Bool) → Stops (Between d) (Synced done)
  stops_closed d true = tt
  stops_closed d false = (d, refl)

  stops_ended : (d : Day) (done : Bool) → Stops (Closing d) (Synced done)
  stops_ended d true = tt
  stops_ended d false = (d, refl)

pub stopped : (p : Place) (act : Act) (acts : List Act) (to : Place) (d : Day) → next p act ≡ Over d → IsRun (next p act) acts to → acts ≡ []
stopped p act acts to d e goes = over_none d acts to (subst (λ (x : Place). IsRun x acts to) e goes)

last_fails : (p to : Place) (acts : List Act) → IsRun p acts to → LastFails acts
last_fails p to [] e = tt
last_fails p to (Logged event true ∷ acts) (due, goes) = last_fails (next p (Logged event true)) to acts goes
last_fails p to (Logged event false ∷ acts) (due, goes) = let s = stops p (Logged event false) due in stopped p (Logged event false) acts to s.0 s.1 goes
last_fails p to (Synced true ∷ acts) (due, goes) = last_fails (next p (Synced true)) to acts goes
last_fails p to (Synced false ∷ acts) (due, goes) = let s = stops p (Synced false) due in stopped p (Synced false) acts to s.0 s.1 goes
last_fails p to (Began second begin ∷ acts) (due, goes) = last_fails (next p (Began second begin)) to acts goes
last_fails p to (Dropped loss ∷ acts) (due, goes) = last_fails (next p (Dropped loss)) to acts goes
last_fails p to (Wrote octets done ∷ acts) (due, goes) = last_fails (next p (Wrote octets done)) to acts goes
last_fails p to (Read room answer ∷ acts) (due, goes) = last_fails (next p (Read room answer)) to acts goes
last_fails p to (Took message ∷ acts) (due, goes) = last_fails (next p (Took message)) to acts goes
last_fails p to (EndedDay ∷ acts) (due, goes) = last_fails (next p EndedDay) to acts goes

-- the same of what stands after some acts
after_fails : (before following : List Act) → LastFails (before ++ following) → keeps_log before ≡ true → LastFails following
after_fails [] following fails kept = fails
after_fails (Logged event true ∷ before) following fails kept = after_fails before following fails kept
after_fails (Logged event false ∷ before) following fails kept = cc
after_fails (Synced true ∷ before) following fails kept = after_fails before following fails kept
after_fails (Synced false ∷ before) following fails kept = cc
after_fails (Began second begin ∷ before) following fails kept = after_fails before following fails kept
after_fails (Dropped loss ∷ before) following fails kept = after_fails before following fails kept
after_fails (Wrote octets done ∷ before) following fails kept = after_fails before following fails kept
after_fails (Read room answer ∷ before) following fails kept = after_fails before following fails kept
after_fails (Took message ∷ before) following fails kept = after_fails before following fails kept
after_fails (EndedDay ∷ before) following fails kept = after_fails before following fails kept

not_none : {A : Type 0} (xs ys : List A) (y : A) → ¬ (xs ++ y ∷ ys ≡ [])
not_none [] ys y e = cc
not_none (x ∷ xs) ys y e = cc

-- where something follows, nothing failed
kept_before : (before following : List Act) (act : Act) → LastFails (before ++ act ∷ following) → keeps_log before ≡ true
kept_before [] following act fails = refl
kept_before (Logged event true ∷ before) following act fails = kept_before before following act fails
kept_before (Logged event false ∷ before) following act fails = absurd (not_none before following act fails)
kept_before (Synced true ∷ before) following act fails = kept_before before following act fails
kept_before (Synced false ∷ before) following act fails = absurd (not_none before following act fails)
kept_before (Began second begin ∷ before) following act fails = kept_before before following act fails
kept_before (Dropped loss ∷ before) following act fails = kept_before before following act fails
kept_before (Wrote octets done ∷ before) following act fails = kept_before before following act fails
kept_before (Read room answer ∷ before) following act fails = kept_before before following act fails
kept_before (Took message ∷ before) following act fails = kept_before before following act fails
kept_before (EndedDay ∷ before) following act fails = kept_before before following act fails

-- a chain of acts, cut in two
chain_split : {W : Type 0} (step : W → Act → W → Type 0) (s t : W) (xs ys : List Act) → Chain step s (xs ++ ys) t → (mid : W) × Chain step s xs mid × Chain step mid ys t
chain_split step s t [] ys chain = (s, refl, chain)
chain_split step s t (x ∷ xs) ys chain =
    let (mid, p, more) = chain_first step s t x (xs ++ ys) chain in
    let rest = chain_split step mid t xs ys more in
    (rest.0, chain_one step s mid rest.0 x xs p rest.1, rest.2)

-- ---- prefixes

-- more events, which are not in the journal
longer_by : (head : Head) (es more xs : List LiveEvent) (c : List ℕ) → IsPrefix head es more c → IsPrefix head es (more ++ xs) c
longer_by head es more xs c f = (f.0, omega (arith, f.1, length-append more xs), f.2 ∙ ap (λ (l : List LiveEvent). Ok (es ++ l)) (sym (take-append-le f.0 more xs f.1)))

take_past : (xs ys : List LiveEvent) (m : ℕ) → take (length xs + m) (xs ++ ys) ≡ xs ++ take m ys
take_past [] ys m = let e : 0 + m ≡ m = omega arith in ap (λ k. take k ys) e
take_past (x ∷ xs) ys m = let e : suc (length xs) + m ≡ suc (length xs + m) = omega arith in rw e (ap (λ (l : List LiveEvent). x ∷ l) (take_past xs ys m))

-- what was synced stands at the start of what was not
unsynced : (head : Head) (earlier disk more xs : List LiveEvent) (c : List ℕ) → IsPrefix head (earlier ++ (disk ++ more)) xs c → IsPrefix head (earlier ++ disk) (more ++ xs) c
unsynced head earlier disk more xs c f = (
  length more + f.0,
  omega (arith, f.1, length-append more xs),
  f.2 ∙ ap Ok (ap (λ (l : List LiveEvent). l ++ take f.0 xs) (sym (append_assoc earlier disk more)) ∙ append_assoc (earlier ++ disk) more (take f.0 xs)
      ∙ ap (λ (l : List LiveEvent). (earlier ++ disk) ++ l) (sym (take_past more xs f.0))),
)

known : (head : Head) (es more : List LiveEvent) (c : List ℕ) → IsPrefix head es more c → Knows head es c
known head es more c f = (take f.0 more, f.2)

module _ {D : Type 0} (holds may_leave : D → List ℕ → Type 0) (moment : D → ℕ) (left_since : D → ℕ → List ℕ → Type 0) (has_failed : D → Bool) (only_now : (disk : D) (c : List ℕ) → left_since disk (moment disk) c → may_leave disk c) (head : Head) (earlier : List LiveEvent) where
  abbrev Step : D → Act → D → Type 0
  Step = OnDisk holds may_leave moment left_since has_failed

  -- what the disk holds, by what was filed after the earlier events
  abbrev Holds : Filed → D → Type 0
  Holds f disk = IsPending holds may_leave disk head (earlier ++ f.disk) f.more

  synced_holds : (f : Filed) (disk : D) → IsPending holds may_leave disk head ((earlier ++ f.disk) ++ f.more) [] → Holds (record { disk = f.disk ++ f.more; more = [] }) disk
  synced_holds f disk p = subst (λ (es : List LiveEvent). IsPending holds may_leave disk head es []) (append_assoc earlier f.disk f.more) p

  held_on : (acts : List Act) (f : Filed) (u v : D) → keeps_log acts ≡ true → Chain Step u acts v → Holds f u → Holds (filed_by acts f) v
  held_on [] f u v kept e h = subst (λ (x : D). Holds f x) e h
  held_on (Logged event true ∷ acts) f u v kept chain h =
      let (mid, writes, more) = chain_first Step u v (Logged event true) acts chain in
      held_on acts (record { disk = f.disk; more = f.more ++ event ∷ [] }) mid v kept more (writes.written refl head (earlier ++ f.disk) f.more h)
  held_on (Logged event false ∷ acts) f u v kept chain h = cc
  held_on (Synced true ∷ acts) f u v kept chain h =
      let (mid, commits, more) = chain_first Step u v (Synced true) acts chain in
      held_on acts (record { disk = f.disk ++ f.more; more = [] }) mid v kept more (synced_holds f mid (commits.committed refl head (earlier ++ f.disk) f.more h))
  held_on (Synced false ∷ acts) f u v kept chain h = cc
  held_on (Began second begin ∷ acts) f u v kept chain h = let (mid, same, more) = chain_first Step u v (Began second begin) acts chain in held_on acts f mid v kept more (subst (λ (x : D). Holds f x) same h)
  held_on (Dropped loss ∷ acts) f u v kept chain h = let (mid, same, more) = chain_first Step u v (Dropped loss) acts chain in held_on acts f mid v kept more (subst (λ (x : D). Holds f x) same h)
  held_on (Wrote octets done ∷ acts) f u v kept chain h = let (mid, same, more) = chain_first Step u v (Wrote octets done) acts chain in held_on acts f mid v kept more (subst (λ (x : D). Holds f x) same h)
  held_on (Read room answer ∷ acts) f u v kept chain h = let (mid, same, more) = chain_first Step u v (Read room answer) acts chain in held_on acts f mid v kept more (subst (λ (x : D). Holds f x) same h)
  held_on (Took message ∷ acts) f u v kept chain h = let (mid, same, more) = chain_first Step u v (Took message) acts chain in held_on acts f mid v kept more (subst (λ (x : D). Holds f x) same h)
  held_on (EndedDay ∷ acts) f u v kept chain h = let (mid, same, more) = chain_first Step u v EndedDay acts chain in held_on acts f mid v kept more (subst (λ (x : D). Holds f x) same h)

  abbrev Leaves : Filed → List Act → D → D → Type 0
  Leaves f acts u v = LeavesOnly moment left_since u v (IsPrefix head (earlier ++ f.disk) (f.more ++ asked acts))

  -- nothing more was done
  at_once : (f : Filed) (u : D) → Holds f u → LeavesOnly moment left_since u u (IsPrefix head (earlier ++ f.disk) f.more)
  at_once f u h = started moment left_since u (IsPrefix head (earlier ++ f.disk) f.more) (λ c left. h.left c (only_now u c left))

  leaves_on : (acts : List Act) (f : Filed) (u v : D) → LastFails acts → Chain Step u acts v → Holds f u → Leaves f acts u v
  leaves_on [] f u v fails e h = subst (λ (x : D). LeavesOnly moment left_since u x (IsPrefix head (earlier ++ f.disk) (f.more ++ []))) e (weaker moment left_since u u _ _ (at_once f u h) (λ c prefix. longer_by head (earlier ++ f.disk) f.more [] c prefix))
  leaves_on (Logged event true ∷ acts) f u v fails chain h =
      let (mid, writes, more) = chain_first Step u v (Logged event true) acts chain in
      let rest = leaves_on acts (record { disk = f.disk; more = f.more ++ event ∷ [] }) mid v fails more (writes.written refl head (earlier ++ f.disk) f.more h) in
      let all : (f.more ++ event ∷ []) ++ asked acts ≡ f.more ++ event ∷ asked acts = append_assoc f.more (event ∷ []) (asked acts) in
      subst (λ (es : List LiveEvent). LeavesOnly moment left_since u v (IsPrefix head (earlier ++ f.disk) es)) all
      (leaves_then moment left_since u mid v _ _ (weaker moment left_since u mid _ _ (writes.any_moment head (earlier ++ f.disk) f.more h) (λ c prefix. longer_by head (earlier ++ f.disk) (f.more ++ event ∷ []) (asked acts) c prefix)) rest (λ c prefix. prefix))
  leaves_on (Logged event false ∷ acts) f u v fails chain h =
      let writes = subst (λ (xs : List Act). Chain Step u (Logged event false ∷ xs) v) fails chain in
      subst (λ (xs : List Act). LeavesOnly moment left_since u v (IsPrefix head (earlier ++ f.disk) (f.more ++ event ∷ asked xs))) (sym fails) (writes.any_moment head (earlier ++ f.disk) f.more h)
  leaves_on (Synced true ∷ acts) f u v fails chain h =
      let (mid, commits, more) = chain_first Step u v (Synced true) acts chain in
      let rest = leaves_on acts (record { disk = f.disk ++ f.more; more = [] }) mid v fails more (synced_holds f mid (commits.committed refl head (earlier ++ f.disk) f.more h)) in
      leaves_then moment left_since u mid v _ _ (weaker moment left_since u mid _ _ (commits.any_moment head (earlier ++ f.disk) f.more h) (λ c prefix. longer_by head (earlier ++ f.disk) f.more (asked acts) c prefix)) rest
      (λ c prefix. unsynced head earlier f.disk f.more (asked acts) c prefix)
  leaves_on (Synced false ∷ acts) f u v fails chain h =
      let commits = subst (λ (xs : List Act). Chain Step u (Synced false ∷ xs) v) fails chain in
      weaker moment left_since u v _ _ (commits.any_moment head (earlier ++ f.disk) f.more h) (λ c prefix. longer_by head (earlier ++ f.disk) f.more (asked acts) c prefix)
  leaves_on (Began second begin ∷ acts) f u v fails chain h =
      let (mid, same, more) = chain_first Step u v (Began second begin) acts chain in
      subst (λ (x : D). Leaves f acts x v) (sym same) (leaves_on acts f mid v fails more (subst (λ (x : D). Holds f x) same h))
  leaves_on (Dropped loss ∷ acts) f u v fails chain h =
      let (mid, same, more) = chain_first Step u v (Dropped loss) acts chain in
      subst (λ (x : D). Leaves f acts x v) (sym same) (leaves_on acts f mid v fails more (subst (λ (x : D). Holds f x) same h))
  leaves_on (Wrote octets done ∷ acts) f u v fails chain h =
      let (mid, same, more) = chain_first Step u v (Wrote octets done) acts chain in
      subst (λ (x : D). Leaves f acts x v) (sym same) (leaves_on acts f mid v fails more (subst (λ (x : D). Holds f x) same h))
  leaves_on (Read room answer ∷ acts) f u v fails chain h =
      let (mid, same, more) = chain_first Step u v (Read room answer) acts chain in
      subst (λ (x : D). Leaves f acts x v) (sym same) (leaves_on acts f mid v fails more (subst (λ (x : D). Holds f x) same h))
  leaves_on (Took message ∷ acts) f u v fails chain h =
      let (mid, same, more) = chain_first Step u v (Took message) acts chain in
      subst (λ (x : D). Leaves f acts x v) (sym same) (leaves_on acts f mid v fails more (subst (λ (x : D). Holds f x) same h))
  leaves_on (EndedDay ∷ acts) f u v fails chain h =
      let (mid, same, more) = chain_first Step u v EndedDay acts chain in
      subst (λ (x : D). Leaves f acts x v) (sym same) (leaves_on acts f mid v fails more (subst (λ (x : D). Holds f x) same h))

  abbrev nothing_filed : Filed
  nothing_filed = record { disk = []; more = [] }

  at_first : (first : D) → IsSettled holds may_leave first head earlier → Holds nothing_filed first
  at_first first settled = subst (λ (es : List LiveEvent). IsPending holds may_leave first head es []) (sym (append-nil earlier)) (pending holds may_leave first head earlier settled)

  pub prefix_law : (first mid last : D) (before following : List Act) (d : Day) (to : Place) → IsSettled holds may_leave first head earlier → IsRun (Between d) (before ++ following) to → keeps_log before ≡ true
      → Chain Step first before mid → Chain Step mid following last → LeavesOnly moment left_since mid last (IsPrefix head (earlier ++ (filed before).disk) ((filed before).more ++ asked following))
  prefix_law first mid last before following d to settled run kept so_far rest =
      leaves_on following (filed before) mid last (after_fails before following (last_fails (Between d) to (before ++ following) run) kept) rest (held_on before nothing_filed first mid kept so_far (at_first first settled))

  pub moments_law : (first last : D) (before following : List Act) (d : Day) (to : Place) → IsSettled holds may_leave first head earlier → IsRun (Between d) (before ++ following) to → keeps_log before ≡ true
      → Chain Step first (before ++ following) last → (mid : D) × Chain Step first before mid × LeavesOnly moment left_since mid last (IsPrefix head (earlier ++ (filed before).disk) ((filed before).more ++ asked following))
  moments_law first last before following d to settled run kept chain =
      let cut = chain_split Step first last before following chain in
      (cut.0, cut.1, prefix_law first cut.0 last before following d to settled run kept cut.1 cut.2)

  known_all : (u v : D) (acts more : List Act) → (filed acts).more ≡ [] → LeavesOnly moment left_since u v (IsPrefix head (earlier ++ (filed acts).disk) ((filed acts).more ++ asked more)) → LeavesOnly moment left_since u v (Knows head (earlier ++ logged_by acts))
  known_all u v acts more none leaves =
      let all : (filed acts).disk ≡ logged_by acts = sym (append-nil (filed acts).disk) ∙ (ap (λ (es : List LiveEvent). (filed acts).disk ++ es) (sym none) ∙ filed_law acts) in
      weaker moment left_since u v _ _ leaves (λ c prefix. subst (λ (es : List LiveEvent). Knows head (earlier ++ es) c) all (known head (earlier ++ (filed acts).disk) ((filed acts).more ++ asked more) c prefix))

  pub safe_law : (first mid last : D) (before following : List Act) (octets : List ℕ) (done : Bool) (d : Day) (to : Place) → IsSettled holds may_leave first head earlier → IsRun (Between d) (before ++ Wrote octets done ∷ following) to
      → Chain Step first before mid → Chain Step mid (Wrote octets done ∷ following) last → IsSafe d before octets (LeavesOnly moment left_since mid last (Knows head (earlier ++ logged_by before)))
  safe_law first mid last before following octets done d to settled run so_far rest =
      let belongs = written_law d before following octets done to run in
      let fails = last_fails (Between d) to (before ++ Wrote octets done ∷ following) run in
      let kept = kept_before before following (Wrote octets done) fails in
      let prefix = prefix_law first mid last before (Wrote octets done ∷ following) d to settled run kept so_far rest in
      record {
        belongs = belongs;
        safe = ⊎_elim (λ none. inl none) (λ filed_all. inr (known_all mid last before (Wrote octets done ∷ following) filed_all prefix)) belongs.synced;
      }
