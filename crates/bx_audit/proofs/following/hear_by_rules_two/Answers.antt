use Rattle.std.proofs.Common.{ℕ, List, ap, ◌∙◌}
use Rattle.bx_calls.specs.Sending.{reply_list, spelled}
use Rattle.bx_events.specs.declared.rules.Rules.TheVariants.{Two}
use Rattle.bx_day.specs.Run.{receive_octets_by}
use Rattle.bx_frames.specs.Courses.{reply_messages}
use Rattle.bx_audit.proofs.Audited.{same_reply, captured_by_two}
use Rattle.bx_audit.proofs.following.hear_by_rules_two.Goals as goal

pub returns : goal.returns
returns g c =
    let x = c.args.captured.now in
    let heard = c.receive_by_rules_two-reply in
    let came = c.deref.ensures.0 in
    let day = heard.ensures.day ∙ ap (λ (l : List ℕ). (receive_octets_by Two x.end l).day) came in
    let sent = same_reply heard.result (receive_octets_by Two x.end c.deref.result.now).reply heard.ensures.reply ∙ ap (λ (l : List ℕ). spelled (reply_list (receive_octets_by Two x.end l).reply)) came in
    captured_by_two g.W.Write.contents x.first x.file c.keep.new.file c.keep_reply.new.file x.end heard.new.self c.args.octets.now.items c.turn.result (reply_messages heard.result) c.turn.ensures.value sent day c.keep.ensures c.keep_reply.ensures
