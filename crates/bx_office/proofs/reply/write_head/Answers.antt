use Rattle.std.proofs.Common.{◌≡◌, ap, sym, ◌∙◌, ℕ, List, ◌++◌, length, OnOk, codes}
use Rattle.httpdate.specs.Date.{date_text}
use Rattle.http1.specs.Fields.{Header}
use Rattle.http1.specs.Head.{header_parts}
use Rattle.http1.specs.Server.{planned_response, after_response}
use Rattle.http1.specs.declared.conn.BodySize.TheVariants.{Known}
use Rattle.bx_office.specs.Replies.{code_of, reason_phrase_of, type_of, reply_policy, header_fields_of}
use Rattle.bx_office.proofs.HeadFields.{seven_fields, eight_fields, head_told}
use Rattle.bx_office.proofs.reply.write_head.Goals as goal

pub returns-then-is_last-clause-text : goal.returns-then-is_last-clause-text
returns-then-is_last-clause-text c =
    let kind : header_parts c.field-kind.result ≡ (codes "content-type", type_of c.args.reply.kind) = c.field-kind.ensures ∙ ap (λ (t : List ℕ). (codes "content-type", t)) c.content_type.ensures in
    let policy : header_parts c.field-policy.result ≡ (codes "content-security-policy", reply_policy c.args.reply.kind) = c.field-policy.ensures ∙ ap (λ (t : List ℕ). (codes "content-security-policy", t)) c.policy_of.ensures in
    let dated : header_parts c.date_field-dated.result ≡ (codes "date", date_text c.args.date) = c.date_field-dated.ensures ∙ ap (λ (t : List ℕ). (codes "date", t)) c.to_bytes-octets.ensures in
    head_told (λ (code : ℕ) (reason : List ℕ) (fields : List Header). OnOk c.write_response.result (c.write_response.new.output.items ≡ c.args.out.now.items ++ planned_response c.args.server.now code reason (Known (length c.args.reply.body.now)) fields)) c.code-code.result (code_of c.args.reply.status) c.as_bytes-reason.result.now (reason_phrase_of c.args.reply.status) _ (header_fields_of c.args.date c.args.reply c.args.is_last)
    c.code-code.ensures (c.as_bytes-reason.ensures.value ∙ c.reason.ensures) ((eight_fields c.date_field-dated.result c.field-kind.result c.field-kept.result c.field-sniffed.result c.field-shared.result c.field-policy.result c.advice_field-advice.result c.field-last.result _ _ _ _ _ _ _ _ dated kind c.field-kept.ensures c.field-sniffed.ensures c.field-shared.ensures policy c.advice_field-advice.ensures c.field-last.ensures) ∙ ap (header_fields_of c.args.date c.args.reply) (sym c.if-is_last.true)) c.write_response.ensures.ok

pub returns-then-is_last-clause-next : goal.returns-then-is_last-clause-next
returns-then-is_last-clause-next c =
    let kind : header_parts c.field-kind.result ≡ (codes "content-type", type_of c.args.reply.kind) = c.field-kind.ensures ∙ ap (λ (t : List ℕ). (codes "content-type", t)) c.content_type.ensures in
    let policy : header_parts c.field-policy.result ≡ (codes "content-security-policy", reply_policy c.args.reply.kind) = c.field-policy.ensures ∙ ap (λ (t : List ℕ). (codes "content-security-policy", t)) c.policy_of.ensures in
    let dated : header_parts c.date_field-dated.result ≡ (codes "date", date_text c.args.date) = c.date_field-dated.ensures ∙ ap (λ (t : List ℕ). (codes "date", t)) c.to_bytes-octets.ensures in
    head_told (λ (code : ℕ) (reason : List ℕ) (fields : List Header). OnOk c.write_response.result (c.write_response.new.self ≡ after_response c.args.server.now code (Known (length c.args.reply.body.now)) fields)) c.code-code.result (code_of c.args.reply.status) c.as_bytes-reason.result.now (reason_phrase_of c.args.reply.status) _ (header_fields_of c.args.date c.args.reply c.args.is_last)
    c.code-code.ensures (c.as_bytes-reason.ensures.value ∙ c.reason.ensures) ((eight_fields c.date_field-dated.result c.field-kind.result c.field-kept.result c.field-sniffed.result c.field-shared.result c.field-policy.result c.advice_field-advice.result c.field-last.result _ _ _ _ _ _ _ _ dated kind c.field-kept.ensures c.field-sniffed.ensures c.field-shared.ensures policy c.advice_field-advice.ensures c.field-last.ensures) ∙ ap (header_fields_of c.args.date c.args.reply) (sym c.if-is_last.true)) c.write_response.ensures.next

pub returns-clause-text : goal.returns-clause-text
returns-clause-text c =
    let kind : header_parts c.field-kind.result ≡ (codes "content-type", type_of c.args.reply.kind) = c.field-kind.ensures ∙ ap (λ (t : List ℕ). (codes "content-type", t)) c.content_type.ensures in
    let policy : header_parts c.field-policy.result ≡ (codes "content-security-policy", reply_policy c.args.reply.kind) = c.field-policy.ensures ∙ ap (λ (t : List ℕ). (codes "content-security-policy", t)) c.policy_of.ensures in
    let dated : header_parts c.date_field-dated.result ≡ (codes "date", date_text c.args.date) = c.date_field-dated.ensures ∙ ap (λ (t : List ℕ). (codes "date", t)) c.to_bytes-octets.ensures in
    head_told (λ (code : ℕ) (reason : List ℕ) (fields : List Header). OnOk c.write_response-2.result (c.write_response-2.new.output.items ≡ c.args.out.now.items ++ planned_response c.args.server.now code reason (Known (length c.args.reply.body.now)) fields)) c.code-code.result (code_of c.args.reply.status) c.as_bytes-reason.result.now (reason_phrase_of c.args.reply.status) _ (header_fields_of c.args.date c.args.reply c.args.is_last)
    c.code-code.ensures (c.as_bytes-reason.ensures.value ∙ c.reason.ensures) ((seven_fields c.date_field-dated.result c.field-kind.result c.field-kept.result c.field-sniffed.result c.field-shared.result c.field-policy.result c.advice_field-advice.result _ _ _ _ _ _ _ dated kind c.field-kept.ensures c.field-sniffed.ensures c.field-shared.ensures policy c.advice_field-advice.ensures) ∙ ap (header_fields_of c.args.date c.args.reply) (sym c.if-is_last.false)) c.write_response-2.ensures.ok

pub returns-clause-next : goal.returns-clause-next
returns-clause-next c =
    let kind : header_parts c.field-kind.result ≡ (codes "content-type", type_of c.args.reply.kind) = c.field-kind.ensures ∙ ap (λ (t : List ℕ). (codes "content-type", t)) c.content_type.ensures in
    let policy : header_parts c.field-policy.result ≡ (codes "content-security-policy", reply_policy c.args.reply.kind) = c.field-policy.ensures ∙ ap (λ (t : List ℕ). (codes "content-security-policy", t)) c.policy_of.ensures in
    let dated : header_parts c.date_field-dated.result ≡ (codes "date", date_text c.args.date) = c.date_field-dated.ensures ∙ ap (λ (t : List ℕ). (codes "date", t)) c.to_bytes-octets.ensures in
    head_told (λ (code : ℕ) (reason : List ℕ) (fields : List Header). OnOk c.write_response-2.result (c.write_response-2.new.self ≡ after_response c.args.server.now code (Known (length c.args.reply.body.now)) fields)) c.code-code.result (code_of c.args.reply.status) c.as_bytes-reason.result.now (reason_phrase_of c.args.reply.status) _ (header_fields_of c.args.date c.args.reply c.args.is_last)
    c.code-code.ensures (c.as_bytes-reason.ensures.value ∙ c.reason.ensures) ((seven_fields c.date_field-dated.result c.field-kind.result c.field-kept.result c.field-sniffed.result c.field-shared.result c.field-policy.result c.advice_field-advice.result _ _ _ _ _ _ _ dated kind c.field-kept.ensures c.field-sniffed.ensures c.field-shared.ensures policy c.advice_field-advice.ensures) ∙ ap (header_fields_of c.args.date c.args.reply) (sym c.if-is_last.false)) c.write_response-2.ensures.next
