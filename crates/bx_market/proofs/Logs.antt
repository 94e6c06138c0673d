-- Nothing is sold or changed outside the journal.
use Rattle.std.proofs.Common.{◌≡◌, inl, inr, Bool, true, false, List, [], ◌∷◌, ◌++◌, Option, Some, None, Result, Ok, Err, ℕ, refl, sym, ap, ◌∙◌, subst, append_assoc}
use Rattle.std.proofs.lemmas.List.{append-nil}
use Rattle.bx_base.specs.Bookings.{Row}
use Rattle.bx_day.specs.Day.{Day}
use Rattle.bx_events.specs.Events.{LiveEvent, OnLink, WithoutLink, Amended, HeardByRulesTwo}
use Rattle.bx_events.specs.declared.amendment.Amendment.{Amendment}
use Rattle.bx_events.specs.declared.amendment.Amendment.TheVariants.{Sold, SoldByRulesTwo}
use Rattle.bx_live.specs.Acts.{Act, Logged, Synced, logged_by}
use Rattle.bx_live.specs.Runs.{Between, Over}
use Rattle.bx_live.specs.Written.{Filed, filed, filed_by}
use Rattle.bx_live.proofs.Onward.{logged_on}
use Rattle.bx_planfile.specs.OneBooking.{row_on}
use Rattle.bx_sales.specs.Journal.{sold_in}
use Rattle.bx_market.specs.declared.market.Answer.{Answer}
use Rattle.bx_market.specs.Changes.{IsLineOf}
use Rattle.bx_market.specs.Deals.{Deal, Ran, Asked, Answered, ToldOfChange, Lost, Moved, acts_of}
use Rattle.bx_market.specs.Stands.{Stand, Within, Filing, Telling, Changing, Noted, Kept, Leaving, Left, asked_for, GoesByDeal, IsMarketRun}
use Rattle.bx_market.specs.Told.{AreUnder, IsToldOnLog, IsToldOfChange, IsToldOfLeaving}
use Rattle.bx_market.specs.declared.market.Batch.{Batch}
use Rattle.bx_market.specs.declared.market.Request.{Request}
use Rattle.bx_market.specs.declared.market.Request.TheVariants.{Sell, Cancel, Change}
use Rattle.bx_sales.specs.Amending.{AmendsDay}
use Rattle.bx_sales.specs.declared.changing.NoChange.{NoChange}
use Rattle.bx_sales.specs.Tags.{row_behind}
use Rattle.bx_sales.specs.declared.tag.Tag.{Tag}
use Rattle.bx_market.proofs.Steps.{acts_more}

filed_synced : (acts : List Act) (f : Filed) → (filed_by (acts ++ Synced true ∷ []) f).more ≡ []
filed_synced [] f = refl
filed_synced (Logged event true ∷ xs) f = filed_synced xs (record { disk = f.disk; more = f.more ++ event ∷ [] })
filed_synced (Synced true ∷ xs) f = filed_synced xs (record { disk = f.disk ++ f.more; more = [] })
filed_synced (x ∷ xs) f = filed_synced xs f

sold_on : (xs ys : List LiveEvent) → sold_in row_on (xs ++ ys) ≡ sold_in row_on xs ++ sold_in row_on ys
sold_on [] ys = refl
sold_on (Amended Sold line ∷ xs) ys = ap (λ (l : List Row). row_behind row_on line ∷ l) (sold_on xs ys)
sold_on (Amended SoldByRulesTwo line ∷ xs) ys = ap (λ (l : List Row). row_behind row_on line ∷ l) (sold_on xs ys)
sold_on (Amended kind line ∷ xs) ys = sold_on xs ys
sold_on (OnLink event ∷ xs) ys = sold_on xs ys
sold_on (WithoutLink rules ∷ xs) ys = sold_on xs ys
sold_on (HeardByRulesTwo octets ∷ xs) ys = sold_on xs ys

abbrev batch_of : Option Tag → List Row → Batch
batch_of tag bookings = record { tag = tag; bookings = bookings }

under_on : (tag : Option Tag) (xs ys : List LiveEvent) → AreUnder tag xs → AreUnder tag ys → AreUnder tag (xs ++ ys)
under_on tag [] ys first rest = rest
under_on tag (Amended kind line ∷ xs) ys (sale, is, first) rest = (sale, is, under_on tag xs ys first rest)
under_on tag (OnLink event ∷ xs) ys first rest = under_on tag xs ys first rest
under_on tag (WithoutLink rules ∷ xs) ys first rest = under_on tag xs ys first rest
under_on tag (HeardByRulesTwo octets ∷ xs) ys first rest = under_on tag xs ys first rest

-- the bookings that were sold since a batch was asked for
pub record AreSold (deals : List Deal) (shown : Day) (tag : Option Tag) (batch sold : List Row) : Type 0 where
  pub before : List Deal
  pub since : List Deal
  pub are : deals ≡ before ++ Asked shown (Some (Sell (batch_of tag batch))) ∷ since
  pub is : sold_in row_on (logged_by (acts_of since)) ≡ sold
  pub under : AreUnder tag (logged_by (acts_of since))

-- one deal more
sold_after : (deals : List Deal) (shown : Day) (tag : Option Tag) (batch sold : List Row) (act : Act) → AreUnder tag (logged_by (act ∷ [])) → AreSold deals shown tag batch sold
    → AreSold (deals ++ Ran act ∷ []) shown tag batch (sold ++ sold_in row_on (logged_by (act ∷ [])))
sold_after deals shown tag batch sold act one s = record {
  before = s.before;
  since = s.since ++ Ran act ∷ [];
  are = ap (λ (l : List Deal). l ++ Ran act ∷ []) s.are ∙ append_assoc s.before (Asked shown (Some (Sell (batch_of tag batch))) ∷ s.since) (Ran act ∷ []);
  is = ap (λ (l : List Act). sold_in row_on (logged_by l)) (acts_more s.since (Ran act ∷ []))
      ∙ (ap (sold_in row_on) (logged_on (acts_of s.since) (act ∷ []))
      ∙ (sold_on (logged_by (acts_of s.since)) (logged_by (act ∷ []))
      ∙ ap (λ (l : List Row). l ++ sold_in row_on (logged_by (act ∷ []))) s.is));
  under = subst (AreUnder tag) (sym (ap logged_by (acts_more s.since (Ran act ∷ [])) ∙ logged_on (acts_of s.since) (act ∷ [])))
      (under_on tag (logged_by (acts_of s.since)) (logged_by (act ∷ [])) s.under one);
}

pub record AreSynced (deals : List Deal) (shown : Day) (tag : Option Tag) (batch sold : List Row) : Type 0 where
  pub sold_since : AreSold deals shown tag batch sold
  pub on_disk : (filed (acts_of deals)).more ≡ []

-- ---- a change

-- a change was asked for, and just these events were logged since
pub record IsAskedFor (deals : List Deal) (shown : Day) (request : Request) (events : List LiveEvent) : Type 0 where
  pub before : List Deal
  pub since : List Deal
  pub are : deals ≡ before ++ Asked shown (Some request) ∷ since
  pub logged : logged_by (acts_of since) ≡ events

asked_after : (deals : List Deal) (shown : Day) (request : Request) (events : List LiveEvent) (act : Act) → IsAskedFor deals shown request events → IsAskedFor (deals ++ Ran act ∷ []) shown request (events ++ logged_by (act ∷ []))
asked_after deals shown request events act s = record {
  before = s.before;
  since = s.since ++ Ran act ∷ [];
  are = ap (λ (l : List Deal). l ++ Ran act ∷ []) s.are ∙ append_assoc s.before (Asked shown (Some request) ∷ s.since) (Ran act ∷ []);
  logged = ap logged_by (acts_more s.since (Ran act ∷ [])) ∙ (logged_on (acts_of s.since) (act ∷ []) ∙ ap (λ (l : List LiveEvent). l ++ logged_by (act ∷ [])) s.logged);
}

-- it is done, and in the journal
pub record IsFiled (channels : List Bool) (deals : List Deal) (shown d : Day) (request : Request) : Type 0 where
  pub kind : Amendment
  pub line : List ℕ
  pub asked : IsAskedFor deals shown request (Amended kind line ∷ [])
  pub tells : IsLineOf request kind line
  pub amended : AmendsDay channels row_on kind line shown d

pub record IsKept (channels : List Bool) (deals : List Deal) (shown d : Day) (request : Request) : Type 0 where
  pub change : IsFiled channels deals shown d request
  pub on_disk : (filed (acts_of deals)).more ≡ []

-- a channel was lost, where this day was shown
pub record IsChannelLost (deals : List Deal) (shown : Day) : Type 0 where
  pub before : List Deal
  pub since : List Deal
  pub are : deals ≡ before ++ Lost shown ∷ since

lost_after : (deals : List Deal) (shown : Day) (deal : Deal) → IsChannelLost deals shown → IsChannelLost (deals ++ deal ∷ []) shown
lost_after deals shown deal s = record {
  before = s.before;
  since = s.since ++ deal ∷ [];
  are = ap (λ (l : List Deal). l ++ deal ∷ []) s.are ∙ append_assoc s.before (Lost shown ∷ s.since) (deal ∷ []);
}

abbrev pub Stands : List Bool → List Deal → Stand → Type 0
Stands channels deals (Within p) = Unit {0}
Stands channels deals (Filing shown d tag batch sold) = AreSold deals shown tag batch sold
Stands channels deals (Telling shown d tag batch sold) = AreSynced deals shown tag batch sold
Stands channels deals (Changing shown request) = IsAskedFor deals shown request []
Stands channels deals (Noted shown d request) = IsFiled channels deals shown d request
Stands channels deals (Kept shown d request) = IsKept channels deals shown d request
Stands channels deals (Leaving shown d) = IsChannelLost deals shown
Stands channels deals (Left shown d) = IsChannelLost deals shown

named : (channels : List Bool) (deals : List Deal) (to other : Stand) → to ≡ other → Stands channels deals other → Stands channels deals to
named channels deals to other e s = subst (Stands channels deals) (sym e) s

just_asked : (deals : List Deal) (d shown : Day) (request : Request) → shown ≡ d → IsAskedFor (deals ++ Asked shown (Some request) ∷ []) d request []
just_asked deals d shown request at = record { before = deals; since = []; are = ap (λ (x : Day). deals ++ Asked x (Some request) ∷ []) at; logged = refl }

pub stands : (channels : List Bool) (deals : List Deal) (from to : Stand) (deal : Deal) → Stands channels deals from → GoesByDeal channels from deal to → Stands channels (deals ++ deal ∷ []) to
stands channels deals (Within p) to (Ran act) s (due, e) = named channels _ to _ e tt
stands channels deals (Within (Between d)) to (Asked shown None) s (at, e) = named channels _ to (Within (Between d)) e tt
stands channels deals (Within (Between d)) to (Asked shown (Some (Sell batch))) s (at, e) = named channels _ to (asked_for d (Sell batch)) e (record { before = deals; since = []; are = ap (λ (x : Day). deals ++ Asked x (Some (Sell batch)) ∷ []) at; is = refl; under = tt })
stands channels deals (Within (Between d)) to (Asked shown (Some (Cancel row))) s (at, e) = named channels _ to (asked_for d (Cancel row)) e (just_asked deals d shown (Cancel row) at)
stands channels deals (Within (Between d)) to (Asked shown (Some (Change row booking))) s (at, e) = named channels _ to (asked_for d (Change row booking)) e (just_asked deals d shown (Change row booking) at)
stands channels deals (Filing shown d tag batch sold) to (Ran (Logged (Amended Sold line) true)) s (d1, is, under, e) = named channels _ to (Filing shown d1 tag batch (sold ++ row_behind row_on line ∷ [])) e (sold_after deals shown tag batch sold (Logged (Amended Sold line) true) (refl, under, tt) s)
stands channels deals (Filing shown d tag batch sold) to (Ran (Logged (Amended Sold line) false)) s e = named channels _ to (Within (Over d)) e tt
stands channels deals (Filing shown d tag batch sold) to (Ran (Synced true)) s e = named channels _ to (Telling shown d tag batch sold) e (record {
  sold_since = subst (AreSold (deals ++ Ran (Synced true) ∷ []) shown tag batch) (append-nil sold) (sold_after deals shown tag batch sold (Synced true) tt s);
  on_disk = ap (λ (l : List Act). (filed l).more) (acts_more deals (Ran (Synced true) ∷ [])) ∙ filed_synced (acts_of deals) _;
})
stands channels deals (Filing shown d tag batch sold) to (Ran (Synced false)) s e = named channels _ to (Within (Over d)) e tt
stands channels deals (Filing shown d tag batch sold) to (Answered answers) s (none, are, told, e) = named channels _ to (Within (Between d)) e tt
stands channels deals (Telling shown d tag batch sold) to (Answered answers) s (are, told, e) = named channels _ to (Within (Between d)) e tt
stands channels deals (Changing shown request) to (Ran (Logged (Amended kind line) true)) s (d, is, tells, e) =
    named channels _ to (Noted shown d request) e (record { kind = kind; line = line; asked = asked_after deals shown request [] (Logged (Amended kind line) true) s; tells = tells; amended = is })
stands channels deals (Changing shown request) to (Ran (Logged (Amended kind line) false)) s e = named channels _ to (Within (Over shown)) e tt
stands channels deals (Changing shown request) to (ToldOfChange (Err why)) s (not, e) = named channels _ to (Within (Between shown)) e tt
stands channels deals (Noted shown d request) to (Ran (Synced true)) s e = named channels _ to (Kept shown d request) e (record {
  change = record { kind = s.kind; line = s.line; asked = asked_after deals shown request (Amended s.kind s.line ∷ []) (Synced true) s.asked; tells = s.tells; amended = s.amended };
  on_disk = ap (λ (l : List Act). (filed l).more) (acts_more deals (Ran (Synced true) ∷ [])) ∙ filed_synced (acts_of deals) _;
})
stands channels deals (Noted shown d request) to (Ran (Synced false)) s e = named channels _ to (Within (Over d)) e tt
stands channels deals (Kept shown d request) to (ToldOfChange (Ok done)) s e = named channels _ to (Within (Between d)) e tt
stands channels deals (Within (Between d)) to (Lost shown) s (at, e) = named channels _ to (Leaving d d) e (record { before = deals; since = []; are = ap (λ (x : Day). deals ++ Lost x ∷ []) at })
stands channels deals (Leaving shown d) to (Ran (Logged (Amended kind line) true)) s (d1, is, step, e) = named channels _ to (Leaving shown d1) e (lost_after deals shown (Ran (Logged (Amended kind line) true)) s)
stands channels deals (Leaving shown d) to (Ran (Logged (Amended kind line) false)) s e = named channels _ to (Within (Over d)) e tt
stands channels deals (Leaving shown d) to (Ran (Synced true)) s e = named channels _ to (Left shown d) e (lost_after deals shown (Ran (Synced true)) s)
stands channels deals (Leaving shown d) to (Ran (Synced false)) s e = named channels _ to (Within (Over d)) e tt
stands channels deals (Left shown d) to (Moved now whole) s (at, is, e) = named channels _ to (Within (Between d)) e tt
stands channels deals from to deal s e = absurd e

told_at : (channels : List Bool) (deals : List Deal) (from to : Stand) (answers : List Answer) → Stands channels deals from → GoesByDeal channels from (Answered answers) to → IsToldOnLog deals answers
told_at channels deals (Within p) to answers s e = absurd e
told_at channels deals (Filing shown d tag batch sold) to answers s (none, are, told, e) = record { shown = shown; batch = batch_of tag batch; before = s.before; since = s.since; are = s.are; sold = s.is ∙ (none ∙ sym are); under = s.under; on_disk = inl are }
told_at channels deals (Telling shown d tag batch sold) to answers s (are, told, e) =
    record { shown = shown; batch = batch_of tag batch; before = s.sold_since.before; since = s.sold_since.since; are = s.sold_since.are; sold = s.sold_since.is ∙ sym are; under = s.sold_since.under; on_disk = inr s.on_disk }
told_at channels deals from to answers s e = absurd e

pub told_on_log : (channels : List Bool) (done before following : List Deal) (answers : List Answer) (from to : Stand) → Stands channels done from → IsMarketRun channels from (before ++ Answered answers ∷ following) to → IsToldOnLog (done ++ before) answers
told_on_log channels done [] following answers from to s (mid, goes, rest) = subst (λ (l : List Deal). IsToldOnLog l answers) (sym (append-nil done)) (told_at channels done from mid answers s goes)
told_on_log channels done (deal ∷ before) following answers from to s (mid, goes, rest) =
    subst (λ (l : List Deal). IsToldOnLog l answers) (append_assoc done (deal ∷ []) before)
    (told_on_log channels (done ++ deal ∷ []) before following answers mid to (stands channels done from mid deal s goes) rest)

-- ---- what is told of a change

change_told_at : (channels : List Bool) (deals : List Deal) (from to : Stand) (answer : Result (Unit {0}) NoChange) → Stands channels deals from → GoesByDeal channels from (ToldOfChange answer) to → IsToldOfChange channels deals answer
change_told_at channels deals (Changing shown request) to (Err why) s (not, e) = record { shown = shown; request = request; before = s.before; since = s.since; are = s.are; told = (s.logged, not) }
change_told_at channels deals (Kept shown d request) to (Ok done) s e =
    let a = s.change.asked in
    record {
      shown = shown;
      request = request;
      before = a.before;
      since = a.since;
      are = a.are;
      told = record { kind = s.change.kind; line = s.change.line; logged = a.logged; tells = s.change.tells; day = d; amended = s.change.amended; on_disk = s.on_disk };
    }
change_told_at channels deals from to answer s e = absurd e

pub change_on_log : (channels : List Bool) (done before following : List Deal) (answer : Result (Unit {0}) NoChange) (from to : Stand) → Stands channels done from → IsMarketRun channels from (before ++ ToldOfChange answer ∷ following) to → IsToldOfChange channels (done ++ before) answer
change_on_log channels done [] following answer from to s (mid, goes, rest) = subst (λ (l : List Deal). IsToldOfChange channels l answer) (sym (append-nil done)) (change_told_at channels done from mid answer s goes)
change_on_log channels done (deal ∷ before) following answer from to s (mid, goes, rest) =
    subst (λ (l : List Deal). IsToldOfChange channels l answer) (append_assoc done (deal ∷ []) before)
    (change_on_log channels (done ++ deal ∷ []) before following answer mid to (stands channels done from mid deal s goes) rest)

-- ---- what is told of a channel that is lost

left_at : (channels : List Bool) (deals : List Deal) (from to : Stand) (now : Day) → Stands channels deals from → GoesByDeal channels from (Moved now true) to → IsToldOfLeaving channels deals now
left_at channels deals (Left shown d) to now s (at, is, e) = record { shown = shown; before = s.before; since = s.since; are = s.are; left = is refl }
left_at channels deals from to now s e = absurd e

pub left_on_log : (channels : List Bool) (done before following : List Deal) (now : Day) (from to : Stand) → Stands channels done from → IsMarketRun channels from (before ++ Moved now true ∷ following) to → IsToldOfLeaving channels (done ++ before) now
left_on_log channels done [] following now from to s (mid, goes, rest) = subst (λ (l : List Deal). IsToldOfLeaving channels l now) (sym (append-nil done)) (left_at channels done from mid now s goes)
left_on_log channels done (deal ∷ before) following now from to s (mid, goes, rest) =
    subst (λ (l : List Deal). IsToldOfLeaving channels l now) (append_assoc done (deal ∷ []) before)
    (left_on_log channels (done ++ deal ∷ []) before following now mid to (stands channels done from mid deal s goes) rest)
