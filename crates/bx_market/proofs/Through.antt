-- The day of a run went through just the logged events and sales.
use Rattle.std.proofs.Common.{◌≡◌, ℕ, zero, suc, ◌+◌, ◌==◌, Bool, true, false, List, [], ◌∷◌, ◌++◌, Some, None, Result, Ok, Err, if◌then◌else◌, refl, sym, ap, ◌∙◌, subst}
use Rattle.arrayvec.specs.ArrayVec.{ArrayVec}
use Rattle.bx_day.specs.Day.{Day}
use Rattle.bx_day.specs.Course.{exchange_next, exchange_sent, exchange_text}
use Rattle.bx_events.specs.Events.{Receive, LiveEvent, OnLink, Amended}
use Rattle.bx_events.specs.declared.amendment.Amendment.{Amendment}
use Rattle.bx_events.specs.declared.amendment.Amendment.TheVariants.{Sold}
use Rattle.bx_frames.specs.declared.fault.LinkFault.{LinkFault}
use Rattle.bx_frames.specs.declared.frame.Frame.{Frame}
use Rattle.bx_frames.specs.declared.frame.Frame.TheVariants as frames
use Rattle.bx_live.specs.declared.world.Begin.{Begin}
use Rattle.bx_live.specs.declared.world.Begin.TheVariants as begins
use Rattle.bx_live.specs.declared.world.Loss.{Loss}
use Rattle.bx_live.specs.Acts.{Act, Began, Logged, Synced, Read, logged_by}
use Rattle.bx_live.specs.Runs.{Place, Between, Logging, Receiving, Owing, Hearing, Losing, Over, IsDue, next, day_at, owing, with_reply, replying, writing}
use Rattle.bx_live.proofs.Due.{by_answers}
use Rattle.bx_live.proofs.Days.{step_day}
use Rattle.bx_live.proofs.Onward.{logged_on}
use Rattle.bx_planfile.specs.OneBooking.{row_on}
use Rattle.bx_sales.specs.Journal.{RunsThrough}
use Rattle.bx_sales.proofs.Journal.{through_more}
use Rattle.bx_market.specs.declared.market.Request.TheVariants.{Sell, Cancel, Change}
use Rattle.bx_market.specs.Deals.{Deal, Ran, Asked, Answered, ToldOfChange, Lost, Moved, acts_of}
use Rattle.bx_market.specs.Stands.{Stand, Within, Filing, Telling, Changing, Noted, Kept, Leaving, Left, asked_for, GoesByDeal, IsMarketRun, stand_day}
use Rattle.bx_market.proofs.Steps.{acts_more}

-- ---- the run by the clock amends nothing

abbrev pub IsLinkPlace : Place → Type 0
IsLinkPlace (Logging d room (Amended kind line)) = ⊥
IsLinkPlace _ = Unit {0}

abbrev Links : Place → Act → Type 0
Links p act = IsLinkPlace (next p act)

owing_links : (d : Day) (room : ℕ) (sent : List (ArrayVec ℕ)) (text : List ℕ) → IsLinkPlace (owing d room sent text)
owing_links d room [] [] = tt
owing_links d room [] (octet ∷ text) = tt
owing_links d room (message ∷ sent) text = tt

begun_links : (d : Day) (begin : Begin) → Links (Between d) (Began (d.moment + 1) begin)
begun_links d begins.Ended = tt
begun_links d begin = tt

logged_links : (d : Day) (room : ℕ) (event : LiveEvent) (done : Bool) → Links (Logging d room event) (Logged event done)
logged_links d room (OnLink e) true = owing_links (exchange_next d e) room (exchange_sent d e) (exchange_text d e)
logged_links d room event false = tt
logged_links d room event true = tt

replying_links : (d : Day) (owed : List (List ℕ)) (room : ℕ) → IsLinkPlace (replying d owed room)
replying_links d [] room = tt
replying_links d (text ∷ owed) zero = tt
replying_links d (text ∷ owed) (suc room) = tt

writing_links : (d : Day) (room : ℕ) (texts : List (List ℕ)) → IsLinkPlace (writing d room texts)
writing_links d room [] = tt
writing_links d room (text ∷ texts) = tt

either_links : (b : Bool) (d : Day) (loss : Loss) → IsLinkPlace (if b then Between d else Losing d loss)
either_links true d loss = tt
either_links false d loss = tt

heard_links : (d : Day) (room : ℕ) (answer : Result Frame LinkFault) → Links (Hearing d room) (Read room answer)
heard_links d room (Ok (frames.EndOfTurn said)) = either_links (said == d.moment) d _
heard_links d room answer = tt

pub links : (p : Place) (act : Act) → IsDue p act → Links p act
links = by_answers Links begun_links logged_links
    (λ d room owed octets. (replying_links (exchange_next d (Receive octets)) (with_reply owed (exchange_text d (Receive octets))) room, tt))
    (λ d room owed. ((λ message. tt), tt)) (λ d room texts. (tt, tt)) (λ d room text texts. (writing_links d room texts, tt))
    heard_links (λ d. (tt, λ fault. tt)) (λ d. (tt, tt)) (λ d. (tt, tt)) (λ d. tt)

pub none_amends : (p : Place) (kind : Amendment) (line : List ℕ) (done : Bool) → IsLinkPlace p → IsDue p (Logged (Amended kind line) done) → ⊥
none_amends (Logging d room event) kind line done link due = subst (λ (e : LiveEvent). IsLinkPlace (Logging d room e)) (sym due) link
none_amends (Receiving d room owed octets) kind line done link due = cc
none_amends (Owing d room false (text ∷ texts)) kind line done link due = due
none_amends p kind line done link due = due

-- ---- one deal

module _ (channels : List Bool) where
  abbrev pub Through : List LiveEvent → Day → Day → Type 0
  Through events d d1 = RunsThrough channels row_on events d d1

  act_through : (p : Place) (act : Act) → IsLinkPlace p → IsDue p act → Through (logged_by (act ∷ [])) (day_at p) (day_at (next p act))
  act_through p (Logged event false) link due = step_day p (Logged event false) due
  act_through p (Logged (Amended kind line) true) link due = absurd (none_amends p kind line true link due)
  act_through p act link due = step_day p act due

  abbrev pub IsLinkStand : Stand → Type 0
  IsLinkStand (Within p) = IsLinkPlace p
  IsLinkStand s = Unit {0}

  pub record Keeps (from : Stand) (deal : Deal) (to : Stand) : Type 0 where
    pub links : IsLinkStand to
    pub through : Through (logged_by (acts_of (deal ∷ []))) (stand_day from) (stand_day to)

  quiet : (from to named : Stand) (deal : Deal) → logged_by (acts_of (deal ∷ [])) ≡ [] → to ≡ named → IsLinkStand named → stand_day named ≡ stand_day from → Keeps from deal to
  quiet from to named deal none e link same = record {
    links = subst IsLinkStand (sym e) link;
    through = subst (λ (es : List LiveEvent). Through es (stand_day from) (stand_day to)) (sym none) (ap stand_day e ∙ same);
  }

  pub keeps : (from to : Stand) (deal : Deal) → IsLinkStand from → GoesByDeal channels from deal to → Keeps from deal to
  keeps (Within p) to (Ran act) link (due, e) = record {
    links = subst IsLinkStand (sym e) (links p act due);
    through = subst (λ (s : Stand). Through (logged_by (act ∷ [])) (day_at p) (stand_day s)) (sym e) (act_through p act link due);
  }
  keeps (Within (Between d)) to (Asked shown None) link (at, e) = quiet _ to (Within (Between d)) _ refl e tt refl
  keeps (Within (Between d)) to (Asked shown (Some (Sell batch))) link (at, e) = quiet _ to (asked_for d (Sell batch)) _ refl e tt refl
  keeps (Within (Between d)) to (Asked shown (Some (Cancel row))) link (at, e) = quiet _ to (asked_for d (Cancel row)) _ refl e tt refl
  keeps (Within (Between d)) to (Asked shown (Some (Change row booking))) link (at, e) = quiet _ to (asked_for d (Change row booking)) _ refl e tt refl
  keeps (Filing shown d tag batch sold) to (Ran (Logged (Amended Sold line) true)) link (d1, is, under, e) = record { links = subst IsLinkStand (sym e) tt; through = (d1, is, ap stand_day e) }
  keeps (Filing shown d tag batch sold) to (Ran (Logged (Amended Sold line) false)) link e = quiet _ to (Within (Over d)) _ refl e tt refl
  keeps (Filing shown d tag batch sold) to (Ran (Synced true)) link e = quiet _ to (Telling shown d tag batch sold) _ refl e tt refl
  keeps (Filing shown d tag batch sold) to (Ran (Synced false)) link e = quiet _ to (Within (Over d)) _ refl e tt refl
  keeps (Filing shown d tag batch sold) to (Answered answers) link (none, are, told, e) = quiet _ to (Within (Between d)) _ refl e tt refl
  keeps (Telling shown d tag batch sold) to (Answered answers) link (are, told, e) = quiet _ to (Within (Between d)) _ refl e tt refl
  keeps (Changing shown request) to (Ran (Logged (Amended kind line) true)) link (d, is, tells, e) = record { links = subst IsLinkStand (sym e) tt; through = (d, is, ap stand_day e) }
  keeps (Changing shown request) to (Ran (Logged (Amended kind line) false)) link e = quiet _ to (Within (Over shown)) _ refl e tt refl
  keeps (Changing shown request) to (ToldOfChange (Err why)) link (not, e) = quiet _ to (Within (Between shown)) _ refl e tt refl
  keeps (Noted shown d request) to (Ran (Synced true)) link e = quiet _ to (Kept shown d request) _ refl e tt refl
  keeps (Noted shown d request) to (Ran (Synced false)) link e = quiet _ to (Within (Over d)) _ refl e tt refl
  keeps (Kept shown d request) to (ToldOfChange (Ok done)) link e = quiet _ to (Within (Between d)) _ refl e tt refl
  keeps (Within (Between d)) to (Lost shown) link (at, e) = quiet _ to (Leaving d d) _ refl e tt refl
  keeps (Leaving shown d) to (Ran (Logged (Amended kind line) true)) link (d1, is, step, e) = record { links = subst IsLinkStand (sym e) tt; through = (d1, is, ap stand_day e) }
  keeps (Leaving shown d) to (Ran (Logged (Amended kind line) false)) link e = quiet _ to (Within (Over d)) _ refl e tt refl
  keeps (Leaving shown d) to (Ran (Synced true)) link e = quiet _ to (Left shown d) _ refl e tt refl
  keeps (Leaving shown d) to (Ran (Synced false)) link e = quiet _ to (Within (Over d)) _ refl e tt refl
  keeps (Left shown d) to (Moved now whole) link (at, is, e) = quiet _ to (Within (Between d)) _ refl e tt refl
  keeps from to deal link e = absurd e

  -- ---- all deals

  first_logged : (deal : Deal) (deals : List Deal) → logged_by (acts_of (deal ∷ deals)) ≡ logged_by (acts_of (deal ∷ [])) ++ logged_by (acts_of deals)
  first_logged deal deals = ap logged_by (acts_more (deal ∷ []) deals) ∙ logged_on (acts_of (deal ∷ [])) (acts_of deals)

  pub run_through : (from to : Stand) (deals : List Deal) → IsLinkStand from → IsMarketRun channels from deals to → Through (logged_by (acts_of deals)) (stand_day from) (stand_day to)
  run_through from to [] link e = ap stand_day (sym e)
  run_through from to (deal ∷ deals) link (mid, goes, rest) =
      let k = keeps from mid deal link goes in
      subst (λ (es : List LiveEvent). Through es (stand_day from) (stand_day to)) (sym (first_logged deal deals))
      (through_more channels row_on (logged_by (acts_of (deal ∷ []))) (logged_by (acts_of deals)) (stand_day from) (stand_day mid) (stand_day to) k.through (run_through mid to deals k.links rest))
