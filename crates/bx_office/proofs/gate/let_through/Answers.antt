use Rattle.std.proofs.Common.{rules, ◌≡◌, true, false}
use Rattle.bx_office.specs.Targets.{text_of}
use Rattle.bx_office.specs.Gate.{is_typed, has_body, question_of, IsAsked}
use Rattle.bx_office.proofs.Sent.{untyped, typed_so}
use Rattle.bx_office.proofs.gate.let_through.Goals as goal

pub returns-then-not-is_typed : goal.returns-then-not-is_typed
returns-then-not-is_typed c =
    let asked : IsAsked c.args.place (question_of c.args.request) c.by-route.result = search rules in
    let other : is_typed c.by-route.result (text_of c.args.request.content) ≡ false = search rules in
    let parts = untyped c.by-route.result (text_of c.args.request.content) other in
    (record { route = c.by-route.result; asked = asked; with_body = parts.0 }, parts.1)

pub returns-then-request-2 : goal.returns-then-request-2
returns-then-request-2 c =
    let asked : IsAsked c.args.place (question_of c.args.request) c.by-route.result = search rules in
    let with_body : has_body c.by-route.result ≡ true = search rules in
    let typed : is_typed c.by-route.result (text_of c.args.request.content) ≡ true = search rules in
    (record { route = c.by-route.result; asked = asked; with_body = with_body }, typed_so c.by-route.result (text_of c.args.request.content) with_body typed, search rules)

pub returns-then-not-request : goal.returns-then-not-request
returns-then-not-request c =
    let asked : IsAsked c.args.place (question_of c.args.request) c.by-route.result = search rules in
    let with_body : has_body c.by-route.result ≡ true = search rules in
    let typed : is_typed c.by-route.result (text_of c.args.request.content) ≡ true = search rules in
    (record { route = c.by-route.result; asked = asked; with_body = with_body }, typed_so c.by-route.result (text_of c.args.request.content) with_body typed, search rules, search rules)

pub returns-then-not-is_keyed : goal.returns-then-not-is_keyed
returns-then-not-is_keyed c =
    let asked : IsAsked c.args.place (question_of c.args.request) c.by-route.result = search rules in
    let with_body : has_body c.by-route.result ≡ true = search rules in
    let typed : is_typed c.by-route.result (text_of c.args.request.content) ≡ true = search rules in
    (record { route = c.by-route.result; asked = asked; with_body = with_body }, typed_so c.by-route.result (text_of c.args.request.content) with_body typed, search rules, search rules, search rules)
