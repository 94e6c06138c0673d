use Rattle.std.proofs.Common.{◌≡◌, ◌<◌, ◌∙◌, true, false, ℕ, sym, subst, ap, length}
use Rattle.std.proofs.lemmas.List.{get_or_default}
use Rattle.bx_calls.specs.Said.{said_under}
use Rattle.bx_day.specs.Day.{Day, is_live, is_unoffered, entry_at, no_entry}
use Rattle.bx_day.specs.Receipts.{hears, with_moved}
use Rattle.bx_day.specs.declared.entry.Entry.{Entry}
use Rattle.bx_day.specs.declared.entry.Moved.{Moved}
use Rattle.bx_day.specs.Invariant.{is_refused}
use Rattle.bx_day.specs.Reading.{IsExchange}
use Rattle.bx_day.proofs.Received.{hears_whole, heard_exchange}
use Rattle.bx_day.proofs.PutLemmas.{heard_begun, heard_accepted, live_turned}
use Rattle.bx_day.proofs.exchange.Exchange.follow.Goals as goal

pub put-requires-clause-whole : goal.put-requires-clause-whole
put-requires-clause-whole c = subst (λ (m : Moved). m.broken ≡ false) (sym (c.heard-moved.ensures 1 true)) (hears_whole (said_under c.args.rules 1 true c.args.message.now) c.moment-moment.result c.index.result.now.standing)

pub put-requires-clause-exchange : goal.put-requires-clause-exchange
put-requires-clause-exchange c =
    let d = c.args.self.now in
    let i = c.args.index in
    let m = said_under c.args.rules 1 true c.args.message.now in
    let es = c.self.inside.entries.items in
    let entries : es ≡ d.entries = ap (λ (x : Day). x.entries) c.self.view_is in
    let lt : i < length es = subst (λ (xs : _). i < length xs) (sym entries) c.requires.inside in
    let item : c.index.result.now ≡ entry_at d.entries i = c.index.ensures ∙ get_or_default es i c.index.result.now no_entry lt ∙ ap (λ (xs : _). entry_at xs i) entries in
    let moved : c.heard-moved.result ≡ hears m d.moment (entry_at d.entries i).standing = c.heard-moved.ensures 1 true ∙ ap (λ (t : ℕ). hears m t c.index.result.now.standing) c.moment-moment.ensures.value ∙ ap (λ (e : Entry). hears m d.moment e.standing) item in
    subst (λ (x : Moved). IsExchange (with_moved d i x).day) (sym moved) (heard_exchange d m i c.moment-moment.ensures.day)

pub put-requires-clause-turn : goal.put-requires-clause-turn
put-requires-clause-turn c = live_turned c.args.self.now (entry_at c.args.self.now.entries c.args.index) c.requires.live

pub put-requires-clause-begun : goal.put-requires-clause-begun
put-requires-clause-begun c =
    let d = c.args.self.now in
    let i = c.args.index in
    let es = c.self.inside.entries.items in
    let entries : es ≡ d.entries = ap (λ (x : Day). x.entries) c.self.view_is in
    let lt : i < length es = subst (λ (xs : _). i < length xs) (sym entries) c.requires.inside in
    let item : c.index.result.now ≡ entry_at d.entries i = c.index.ensures ∙ get_or_default es i c.index.result.now no_entry lt ∙ ap (λ (xs : _). entry_at xs i) entries in
    let live : is_live c.index.result.now.standing ≡ true = ap (λ (e : Entry). is_live e.standing) item ∙ c.requires.live in
    ap (λ (m : Moved). is_unoffered m.standing) (c.heard-moved.ensures 1 true) ∙ heard_begun (said_under c.args.rules 1 true c.args.message.now) c.moment-moment.result c.index.result.now.standing live

pub put-requires-clause-accepted : goal.put-requires-clause-accepted
put-requires-clause-accepted c =
    let d = c.args.self.now in
    let i = c.args.index in
    let es = c.self.inside.entries.items in
    let entries : es ≡ d.entries = ap (λ (x : Day). x.entries) c.self.view_is in
    let lt : i < length es = subst (λ (xs : _). i < length xs) (sym entries) c.requires.inside in
    let item : c.index.result.now ≡ entry_at d.entries i = c.index.ensures ∙ get_or_default es i c.index.result.now no_entry lt ∙ ap (λ (xs : _). entry_at xs i) entries in
    let live : is_live c.index.result.now.standing ≡ true = ap (λ (e : Entry). is_live e.standing) item ∙ c.requires.live in
    ap (λ (m : Moved). is_refused m.standing) (c.heard-moved.ensures 1 true) ∙ heard_accepted (said_under c.args.rules 1 true c.args.message.now) c.moment-moment.result c.index.result.now.standing live
