use Rattle.std.proofs.Common.{◌≡◌, ◌<◌, ℕ, Option, None, true, sym, subst, ◌∙◌, ap, length}
use Rattle.std.specs.Prelude.{IfSome}
use Rattle.std.proofs.lemmas.List.{get_or_default}
use Rattle.bx_calls.specs.PlainCalls.{PlainNetCall}
use Rattle.bx_calls.specs.NetTable.{net_answered}
use Rattle.bx_day.specs.Day.{Day, entry_at, no_entry}
use Rattle.bx_day.specs.Receipts.{is_open, with_moved}
use Rattle.bx_day.specs.Moves.{becomes}
use Rattle.bx_day.specs.declared.entry.Activity.TheVariants.{Never}
use Rattle.bx_day.specs.declared.entry.Standing.TheVariants.{OnCall}
use Rattle.bx_day.specs.declared.entry.Entry.{Entry}
use Rattle.bx_day.specs.Reading.{IsExchange}
use Rattle.bx_day.proofs.Received.{takes_exchange}
use Rattle.bx_day.proofs.exchange.Exchange.take.Goals as goal

pub put-requires-clause-exchange : goal.put-requires-clause-exchange
put-requires-clause-exchange c =
    let d = c.args.self.now in
    let i = c.in-Some.index in
    let es = c.self.inside.entries.items in
    let entries : es ≡ d.entries = ap (λ (x : Day). x.entries) c.self.view_is in
    let lt' : i < length d.entries = subst (λ (o : Option ℕ). IfSome o (λ n. n < length d.entries)) c.in-Some.is c.requires.inside in
    let opened : is_open d (entry_at d.entries i) ≡ true = subst (λ (o : Option ℕ). IfSome o (λ n. is_open d (entry_at d.entries n) ≡ true)) c.in-Some.is c.requires.open in
    let lt : i < length es = subst (λ (xs : _). i < length xs) (sym entries) lt' in
    let item : c.index.result.now ≡ entry_at d.entries i = c.index.ensures ∙ get_or_default es i c.index.result.now no_entry lt ∙ ap (λ (xs : _). entry_at xs i) entries in
    let channel : c.unwrap-channel.result ≡ (entry_at d.entries i).channel = subst (λ (o : Option ℕ). IfSome o (λ n. n ≡ c.index.result.now.channel)) c.unwrap-channel.ensures c.new.ensures.value ∙ ap (λ (e : Entry). e.channel) item in
    let call : c.answered-call.result.0 ≡ net_answered c.args.reference (entry_at d.entries i).channel = c.answered-call.ensures.call ∙ ap (net_answered c.args.reference) channel in
    subst (λ (x : PlainNetCall). IsExchange (with_moved d i (becomes (OnCall x Never) None)).day) (sym call) (takes_exchange d c.args.reference i opened c.moment-moment.ensures.day)
