-- Whatever is written in a run with sales belongs to an event that is logged.
use Rattle.std.proofs.Common.{◌≡◌, ◌⊎◌, inl, inr, Bool, true, false, ℕ, List, [], ◌∷◌, ◌++◌, Some, None, Ok, Err, refl, sym, ap, ◌∙◌, subst, append_assoc}
use Rattle.std.proofs.lemmas.List.{append-nil}
use Rattle.bx_day.specs.Day.{Day}
use Rattle.bx_day.specs.Outages.{live_happens, live_day_after}
use Rattle.bx_events.specs.Events.{LiveEvent, OnLink, Amended}
use Rattle.bx_events.specs.declared.amendment.Amendment.TheVariants.{Sold}
use Rattle.bx_live.specs.Acts.{Act, Logged, Synced, Wrote, logged_by}
use Rattle.bx_live.specs.Runs.{Place, Between, Over, IsDue, IsRun, next}
use Rattle.bx_live.specs.Written.{Filed, filed, filed_by, IsWrittenFor}
use Rattle.bx_live.proofs.Onward.{filed_on, logged_on, written_law}
use Rattle.bx_live.proofs.Steps as live
use Rattle.bx_planfile.specs.OneBooking.{row_on}
use Rattle.bx_sales.specs.Journal.{RunsThrough}
use Rattle.bx_sales.proofs.Journal.{through_more}
use Rattle.bx_sales.specs.Tags.{row_behind}
use Rattle.bx_market.specs.declared.market.Request.TheVariants.{Sell, Cancel, Change}
use Rattle.bx_market.specs.Deals.{Deal, Ran, Asked, Answered, ToldOfChange, Lost, Moved, acts_of}
use Rattle.bx_market.specs.Stands.{Stand, Within, Filing, Telling, Changing, Noted, Kept, Leaving, Left, asked_for, GoesByDeal, IsMarketRun, stand_day}
use Rattle.bx_market.specs.Told.{IsWrittenForEvent}
use Rattle.bx_market.proofs.Steps.{acts_more}
use Rattle.bx_market.proofs.Through.{IsLinkPlace, IsLinkStand, Through, keeps, links, none_amends}

-- ---- the run by the clock logs nothing that amends the plan

abbrev AreUnamended : List LiveEvent → Type 0
AreUnamended [] = Unit {0}
AreUnamended (Amended kind line ∷ events) = ⊥
AreUnamended (x ∷ events) = AreUnamended events

one_unamended : (p : Place) (act : Act) (acts : List Act) → IsLinkPlace p → IsDue p act → AreUnamended (logged_by acts) → AreUnamended (logged_by (act ∷ acts))
one_unamended p (Logged event false) acts link due rest = rest
one_unamended p (Logged (Amended kind line) true) acts link due rest = none_amends p kind line true link due
one_unamended p act acts link due rest = rest

all_unamended : (p q : Place) (acts : List Act) → IsLinkPlace p → IsRun p acts q → AreUnamended (logged_by acts)
all_unamended p q [] link e = tt
all_unamended p q (act ∷ acts) link (due, goes) = one_unamended p act acts link due (all_unamended (next p act) q acts (links p act due) goes)

first_unamended : (xs ys : List LiveEvent) → AreUnamended (xs ++ ys) → AreUnamended xs
first_unamended [] ys are = tt
first_unamended (Amended kind line ∷ xs) ys are = are
first_unamended (x ∷ xs) ys are = first_unamended xs ys are

-- so it goes through them as a day does whose plan stays
unamended_through : (channels : List Bool) (events : List LiveEvent) (d : Day) → AreUnamended events → RunsThrough channels row_on events d (live_day_after events d)
unamended_through channels [] d are = refl
unamended_through channels (Amended kind line ∷ events) d are = absurd are
unamended_through channels (x ∷ events) d are = unamended_through channels events (live_happens d x).day are

-- ---- what is on the disk after some acts, whatever was logged before them

same_unsynced : (acts : List Act) (f g : Filed) → f.more ≡ g.more → (filed_by acts f).more ≡ (filed_by acts g).more
same_unsynced [] f g e = e
same_unsynced (Logged event true ∷ acts) f g e = same_unsynced acts (record { disk = f.disk; more = f.more ++ event ∷ [] }) (record { disk = g.disk; more = g.more ++ event ∷ [] }) (ap (λ (es : List LiveEvent). es ++ event ∷ []) e)
same_unsynced (Synced true ∷ acts) f g e = same_unsynced acts (record { disk = f.disk ++ f.more; more = [] }) (record { disk = g.disk ++ g.more; more = [] }) refl
same_unsynced (x ∷ acts) f g e = same_unsynced acts f g e

-- where some events were logged that are on the disk, so is all that was logged before them
all_on_disk : (acts : List Act) (f g : Filed) → ¬ (f.more ++ logged_by acts ≡ []) → (filed_by acts f).more ≡ [] → (filed_by acts g).more ≡ []
all_on_disk [] f g some none = absurd (some (append-nil f.more ∙ none))
all_on_disk (Logged event true ∷ acts) f g some none =
    all_on_disk acts (record { disk = f.disk; more = f.more ++ event ∷ [] }) (record { disk = g.disk; more = g.more ++ event ∷ [] })
    (λ e. some (sym (append_assoc f.more (event ∷ []) (logged_by acts)) ∙ e)) none
all_on_disk (Synced true ∷ acts) f g some none = same_unsynced acts (record { disk = g.disk ++ g.more; more = [] }) (record { disk = f.disk ++ f.more; more = [] }) refl ∙ none
all_on_disk (x ∷ acts) f g some none = all_on_disk acts f g some none

some_logged : (xs ys : List LiveEvent) (event : LiveEvent) → ¬ (xs ++ event ∷ ys ≡ [])
some_logged [] ys event = λ e. cc
some_logged (x ∷ xs) ys event = λ e. cc

-- ---- a run with sales

abbrev nothing_filed : Filed
nothing_filed = record { disk = []; more = [] }

module _ (channels : List Bool) (d : Day) where
  -- the run by the clock has come here since it stood between two seconds
  record IsRunSince (acts : List Act) (p : Place) : Type 0 where
    before : List Act
    since : List Act
    start : Day
    are : acts ≡ before ++ since
    through : Through channels (logged_by before) d start
    goes : IsRun (Between start) since p

  -- nothing is written any more once something could not be logged
  abbrev HasRunSince : List Act → Stand → Type 0
  HasRunSince acts (Within p) = IsRunSince acts p ⊎ ((over : Day) × (p ≡ Over over))
  HasRunSince acts s = Unit {0}

  record StandsThere (acts : List Act) (from : Stand) : Type 0 where
    link : IsLinkStand channels from
    through : Through channels (logged_by acts) d (stand_day from)
    since : HasRunSince acts from

  named : (acts : List Act) (to other : Stand) → to ≡ other → HasRunSince acts other → HasRunSince acts to
  named acts to other e s = subst (HasRunSince acts) (sym e) s

  same_acts : (acts : List Act) (s : Stand) → HasRunSince acts s → HasRunSince (acts ++ []) s
  same_acts acts s h = subst (λ (l : List Act). HasRunSince l s) (sym (append-nil acts)) h

  -- it begins anew between two seconds
  begins_anew : (acts : List Act) (day : Day) → Through channels (logged_by acts) d day → IsRunSince (acts ++ []) (Between day)
  begins_anew acts day through = record { before = acts; since = []; start = day; are = refl; through = through; goes = refl }

  none_due : (p : Place) (act : Act) (over : Day) → p ≡ Over over → IsDue p act → ⊥
  none_due p act over e due = subst (λ (x : Place). IsDue x act) e due

  one_act : (acts : List Act) (p : Place) (act : Act) → HasRunSince acts (Within p) → IsDue p act → HasRunSince (acts ++ act ∷ []) (Within (next p act))
  one_act acts p act (inr (over, e)) due = absurd (none_due p act over e due)
  one_act acts p act (inl s) due = inl (record {
    before = s.before;
    since = s.since ++ act ∷ [];
    start = s.start;
    are = ap (λ (l : List Act). l ++ act ∷ []) s.are ∙ append_assoc s.before s.since (act ∷ []);
    through = s.through;
    goes = live.run_more (Between s.start) p (next p act) s.since (act ∷ []) s.goes (due, refl);
  })

  since_there : (acts : List Act) (from to : Stand) (deal : Deal) → StandsThere acts from → GoesByDeal channels from deal to → HasRunSince (acts ++ acts_of (deal ∷ [])) to
  since_there acts (Within p) to (Ran act) s (due, e) = named _ to _ e (one_act acts p act s.since due)
  since_there acts (Within (Between day)) to (Asked shown None) s (at, e) = named _ to (Within (Between day)) e (same_acts acts (Within (Between day)) s.since)
  since_there acts (Within (Between day)) to (Asked shown (Some (Sell batch))) s (at, e) = named _ to (asked_for day (Sell batch)) e tt
  since_there acts (Within (Between day)) to (Asked shown (Some (Cancel row))) s (at, e) = named _ to (asked_for day (Cancel row)) e tt
  since_there acts (Within (Between day)) to (Asked shown (Some (Change row booking))) s (at, e) = named _ to (asked_for day (Change row booking)) e tt
  since_there acts (Filing shown day tag batch sold) to (Ran (Logged (Amended Sold line) true)) s (d1, is, under, e) = named _ to (Filing shown d1 tag batch (sold ++ row_behind row_on line ∷ [])) e tt
  since_there acts (Filing shown day tag batch sold) to (Ran (Logged (Amended Sold line) false)) s e = named _ to (Within (Over day)) e (inr (day, refl))
  since_there acts (Filing shown day tag batch sold) to (Ran (Synced true)) s e = named _ to (Telling shown day tag batch sold) e tt
  since_there acts (Filing shown day tag batch sold) to (Ran (Synced false)) s e = named _ to (Within (Over day)) e (inr (day, refl))
  since_there acts (Filing shown day tag batch sold) to (Answered answers) s (none, are, told, e) = named _ to (Within (Between day)) e (inl (begins_anew acts day s.through))
  since_there acts (Telling shown day tag batch sold) to (Answered answers) s (are, told, e) = named _ to (Within (Between day)) e (inl (begins_anew acts day s.through))
  since_there acts (Changing shown request) to (Ran (Logged (Amended kind line) true)) s (day, is, tells, e) = named _ to (Noted shown day request) e tt
  since_there acts (Changing shown request) to (Ran (Logged (Amended kind line) false)) s e = named _ to (Within (Over shown)) e (inr (shown, refl))
  since_there acts (Changing shown request) to (ToldOfChange (Err why)) s (not, e) = named _ to (Within (Between shown)) e (inl (begins_anew acts shown s.through))
  since_there acts (Noted shown day request) to (Ran (Synced true)) s e = named _ to (Kept shown day request) e tt
  since_there acts (Noted shown day request) to (Ran (Synced false)) s e = named _ to (Within (Over day)) e (inr (day, refl))
  since_there acts (Kept shown day request) to (ToldOfChange (Ok done)) s e = named _ to (Within (Between day)) e (inl (begins_anew acts day s.through))
  since_there acts (Within (Between day)) to (Lost shown) s (at, e) = named _ to (Leaving day day) e tt
  since_there acts (Leaving shown day) to (Ran (Logged (Amended kind line) true)) s (d1, is, step, e) = named _ to (Leaving shown d1) e tt
  since_there acts (Leaving shown day) to (Ran (Logged (Amended kind line) false)) s e = named _ to (Within (Over day)) e (inr (day, refl))
  since_there acts (Leaving shown day) to (Ran (Synced true)) s e = named _ to (Left shown day) e tt
  since_there acts (Leaving shown day) to (Ran (Synced false)) s e = named _ to (Within (Over day)) e (inr (day, refl))
  since_there acts (Left shown day) to (Moved now whole) s (at, is, e) = named _ to (Within (Between day)) e (inl (begins_anew acts day s.through))
  since_there acts from to deal s e = absurd e

  stands_there : (acts : List Act) (from to : Stand) (deal : Deal) → StandsThere acts from → GoesByDeal channels from deal to → StandsThere (acts ++ acts_of (deal ∷ [])) to
  stands_there acts from to deal s goes =
      let k = keeps channels from to deal s.link goes in
      record {
        link = k.links;
        through = subst (λ (es : List LiveEvent). Through channels es d (stand_day to)) (sym (logged_on acts (acts_of (deal ∷ []))))
            (through_more channels row_on (logged_by acts) (logged_by (acts_of (deal ∷ []))) d (stand_day from) (stand_day to) s.through k.through);
        since = since_there acts from to deal s goes;
      }

  -- ---- what is written

  written_since : (acts : List Act) (p : Place) (octets : List ℕ) (s : IsRunSince acts p) → IsWrittenFor s.start s.since octets → IsWrittenForEvent channels d acts octets
  written_since acts p octets s w =
      let events : logged_by acts ≡ logged_by s.before ++ logged_by s.since = ap logged_by s.are ∙ logged_on s.before s.since in
      let unamended : AreUnamended w.earlier = first_unamended w.earlier (OnLink w.event ∷ w.later) (subst AreUnamended w.on_log (all_unamended (Between s.start) p s.since tt s.goes)) in
      record {
        earlier = logged_by s.before ++ w.earlier;
        event = w.event;
        later = w.later;
        logged = events ∙ (ap (λ (es : List LiveEvent). logged_by s.before ++ es) w.on_log ∙ sym (append_assoc (logged_by s.before) w.earlier (OnLink w.event ∷ w.later)));
        day = live_day_after w.earlier s.start;
        through = through_more channels row_on (logged_by s.before) w.earlier d s.start (live_day_after w.earlier s.start) s.through (unamended_through channels w.earlier s.start unamended);
        heard = w.heard;
        text = w.text;
        synced = on_disk w.synced;
      } where
        on_disk : {A : Type 0} → A ⊎ ((filed s.since).more ≡ []) → A ⊎ ((filed acts).more ≡ [])
        on_disk (inl none) = inl none
        on_disk (inr none) =
            let some : ¬ (logged_by s.since ≡ []) = λ e. some_logged w.earlier w.later (OnLink w.event) (sym w.on_log ∙ e) in
            let rest = all_on_disk s.since nothing_filed (filed_by s.before nothing_filed) some none in
            inr (ap (λ (l : List Act). (filed l).more) s.are ∙ (ap (λ (f : Filed). f.more) (filed_on s.before s.since nothing_filed) ∙ rest))

  written_there : (acts : List Act) (from to : Stand) (octets : List ℕ) (done : Bool) → StandsThere acts from → GoesByDeal channels from (Ran (Wrote octets done)) to → IsWrittenForEvent channels d acts octets
  written_there acts (Within p) to octets done s (due, e) = at_place s.since where
    at_place : HasRunSince acts (Within p) → IsWrittenForEvent channels d acts octets
    at_place (inr (over, is)) = absurd (none_due p (Wrote octets done) over is due)
    at_place (inl r) =
        let act = Wrote octets done in
        written_since acts p octets r (written_law r.start r.since [] octets done (next p act) (live.run_more (Between r.start) p (next p act) r.since (act ∷ []) r.goes (due, refl)))
  written_there acts from to octets done s e = absurd e

  written_after : (acts : List Act) (before after : List Deal) (octets : List ℕ) (done : Bool) (from to : Stand) → StandsThere acts from → IsMarketRun channels from (before ++ Ran (Wrote octets done) ∷ after) to → IsWrittenForEvent channels d (acts ++ acts_of before) octets
  written_after acts [] after octets done from to s (mid, goes, rest) = subst (λ (l : List Act). IsWrittenForEvent channels d l octets) (sym (append-nil acts)) (written_there acts from mid octets done s goes)
  written_after acts (deal ∷ before) after octets done from to s (mid, goes, rest) =
      let same : (acts ++ acts_of (deal ∷ [])) ++ acts_of before ≡ acts ++ acts_of (deal ∷ before) =
      append_assoc acts (acts_of (deal ∷ [])) (acts_of before) ∙ ap (λ (l : List Act). acts ++ l) (sym (acts_more (deal ∷ []) before)) in
      subst (λ (l : List Act). IsWrittenForEvent channels d l octets) same (written_after (acts ++ acts_of (deal ∷ [])) before after octets done mid to (stands_there acts from mid deal s goes) rest)

pub written_in_run : (channels : List Bool) (d : Day) (before after : List Deal) (octets : List ℕ) (done : Bool) (to : Stand) → IsMarketRun channels (Within (Between d)) (before ++ Ran (Wrote octets done) ∷ after) to → IsWrittenForEvent channels d (acts_of before) octets
written_in_run channels d before after octets done to run =
    written_after channels d [] before after octets done (Within (Between d)) to
    (record { link = tt; through = refl; since = inl (record { before = []; since = []; start = d; are = refl; through = refl; goes = refl }) }) run
