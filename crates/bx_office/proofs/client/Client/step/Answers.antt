use Rattle.std.proofs.Common.{refl, rules, ◌≡◌, subst, List, ℕ, true}
use Rattle.http1.specs.Server.{ReadsAt}
use Rattle.bx_office.specs.Clients.{is_reading}
use Rattle.bx_office.specs.declared.client.Client.{Client}
use Rattle.bx_office.proofs.BodyReads.{kept_due, waited_due, asked_due}
use Rattle.bx_office.proofs.Taken.{head_taken}
use Rattle.bx_office.proofs.client.Client.step.Goals as goal

pub returns-in-Head-clause-due : goal.returns-in-Head-clause-due
returns-in-Head-clause-due c =
    let old = c.args.self.now in
    let read : Client = record old { server = c.read.new.self } in
    let input : c.as_slice.result.now ≡ old.unread.items = search rules in
    let reads = subst (λ (text : List ℕ). ReadsAt old.server.reading old.server text c.read.new.headers c.read.new.self c.in-Ok.read) input c.in-Ok.ensures.ok in
    head_taken old read c.begin.new.self c.read.new.headers c.in-Ok.read c.in-Head.head reads c.in-Head.is refl refl c.begin.ensures.stage

pub returns-in-Data-clause-due : goal.returns-in-Data-clause-due
returns-in-Data-clause-due c =
    let old = c.args.self.now in
    let input : c.as_slice.result.now ≡ old.unread.items = search rules in
    let reads = subst (λ (text : List ℕ). ReadsAt old.server.reading old.server text c.read.new.headers c.read.new.self c.in-Ok.read) input c.in-Ok.ensures.ok in
    let going : is_reading old ≡ true = search rules in
    kept_due old c.keep.new.self c.read.new.self c.read.new.headers c.in-Ok.read going reads c.in-Data.piece c.in-Data.is c.keep.ensures.stage

pub returns-in-NeedMore-clause-due : goal.returns-in-NeedMore-clause-due
returns-in-NeedMore-clause-due c =
    let old = c.args.self.now in
    let input : c.as_slice.result.now ≡ old.unread.items = search rules in
    let reads = subst (λ (text : List ℕ). ReadsAt old.server.reading old.server text c.read.new.headers c.read.new.self c.in-Ok.read) input c.in-Ok.ensures.ok in
    let going : is_reading old ≡ true = search rules in
    waited_due old c.wait.new.self c.read.new.self c.read.new.headers c.in-Ok.read going reads c.in-NeedMore.is c.wait.ensures.stage

pub returns-in-End-clause-due : goal.returns-in-End-clause-due
returns-in-End-clause-due c =
    let old = c.args.self.now in
    let input : c.as_slice.result.now ≡ old.unread.items = search rules in
    let reads = subst (λ (text : List ℕ). ReadsAt old.server.reading old.server text c.read.new.headers c.read.new.self c.in-Ok.read) input c.in-Ok.ensures.ok in
    let going : is_reading old ≡ true = search rules in
    asked_due old c.finish.new.self c.read.new.self c.read.new.headers c.in-Ok.read going reads c.in-End.field-0 c.in-End.is c.finish.ensures.stage
