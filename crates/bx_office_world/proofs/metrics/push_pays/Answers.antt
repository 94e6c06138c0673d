use Rattle.std.proofs.Common.{◌≡◌, ◌++◌, codes}
use Rattle.bx_office_world.specs.Metrics.{sample}
use Rattle.bx_office_world.specs.Tallies.{is_such}
use Rattle.bx_office_world.specs.declared.tallies.Became.TheVariants.{Refused, Waiting, Live, Carried, Unanswered, Missed}
use Rattle.bx_records.specs.Totals.{pays_of}
use Rattle.bx_office_world.proofs.Pieces.{joined, joined_on}
use Rattle.bx_office_world.proofs.metrics.push_pays.Goals as goal

pub returns : goal.returns
returns c =
    let e0 : c.push.new.text.items ≡ c.args.text.now.items ++ (codes "# TYPE bx_pay gauge\n# HELP bx_pay What these bookings pay.\n") = c.in_ok-push.ensures in
    let e1 : c.push_pay.new.text.items ≡ c.args.text.now.items ++ ((codes "# TYPE bx_pay gauge\n# HELP bx_pay What these bookings pay.\n") ++ (sample (codes "bx_pay") Refused (pays_of (is_such Refused) c.args.entries.now))) = joined c.args.text.now.items (c.push.new.text.items) (c.push_pay.new.text.items) (codes "# TYPE bx_pay gauge\n# HELP bx_pay What these bookings pay.\n") (sample (codes "bx_pay") Refused (pays_of (is_such Refused) c.args.entries.now)) e0 c.in_ok-push_pay.ensures in
    let e2 : c.push_pay-2.new.text.items ≡ c.args.text.now.items ++ (((codes "# TYPE bx_pay gauge\n# HELP bx_pay What these bookings pay.\n") ++ (sample (codes "bx_pay") Refused (pays_of (is_such Refused) c.args.entries.now))) ++ (sample (codes "bx_pay") Waiting (pays_of (is_such Waiting) c.args.entries.now))) = joined c.args.text.now.items (c.push_pay.new.text.items) (c.push_pay-2.new.text.items) ((codes "# TYPE bx_pay gauge\n# HELP bx_pay What these bookings pay.\n") ++ (sample (codes "bx_pay") Refused (pays_of (is_such Refused) c.args.entries.now))) (sample (codes "bx_pay") Waiting (pays_of (is_such Waiting) c.args.entries.now)) e1 c.in_ok-push_pay-2.ensures in
    let e3 : c.push_pay-3.new.text.items ≡ c.args.text.now.items ++ ((((codes "# TYPE bx_pay gauge\n# HELP bx_pay What these bookings pay.\n") ++ (sample (codes "bx_pay") Refused (pays_of (is_such Refused) c.args.entries.now))) ++ (sample (codes "bx_pay") Waiting (pays_of (is_such Waiting) c.args.entries.now))) ++ (sample (codes "bx_pay") Live (pays_of (is_such Live) c.args.entries.now))) = joined c.args.text.now.items (c.push_pay-2.new.text.items) (c.push_pay-3.new.text.items) (((codes "# TYPE bx_pay gauge\n# HELP bx_pay What these bookings pay.\n") ++ (sample (codes "bx_pay") Refused (pays_of (is_such Refused) c.args.entries.now))) ++ (sample (codes "bx_pay") Waiting (pays_of (is_such Waiting) c.args.entries.now))) (sample (codes "bx_pay") Live (pays_of (is_such Live) c.args.entries.now)) e2 c.in_ok-push_pay-3.ensures in
    let e4 : c.push_pay-4.new.text.items ≡ c.args.text.now.items ++ (((((codes "# TYPE bx_pay gauge\n# HELP bx_pay What these bookings pay.\n") ++ (sample (codes "bx_pay") Refused (pays_of (is_such Refused) c.args.entries.now))) ++ (sample (codes "bx_pay") Waiting (pays_of (is_such Waiting) c.args.entries.now))) ++ (sample (codes "bx_pay") Live (pays_of (is_such Live) c.args.entries.now))) ++ (sample (codes "bx_pay") Carried (pays_of (is_such Carried) c.args.entries.now))) = joined c.args.text.now.items (c.push_pay-3.new.text.items) (c.push_pay-4.new.text.items) ((((codes "# TYPE bx_pay gauge\n# HELP bx_pay What these bookings pay.\n") ++ (sample (codes "bx_pay") Refused (pays_of (is_such Refused) c.args.entries.now))) ++ (sample (codes "bx_pay") Waiting (pays_of (is_such Waiting) c.args.entries.now))) ++ (sample (codes "bx_pay") Live (pays_of (is_such Live) c.args.entries.now))) (sample (codes "bx_pay") Carried (pays_of (is_such Carried) c.args.entries.now)) e3 c.in_ok-push_pay-4.ensures in
    let e5 : c.push_pay-5.new.text.items ≡ c.args.text.now.items ++ ((((((codes "# TYPE bx_pay gauge\n# HELP bx_pay What these bookings pay.\n") ++ (sample (codes "bx_pay") Refused (pays_of (is_such Refused) c.args.entries.now))) ++ (sample (codes "bx_pay") Waiting (pays_of (is_such Waiting) c.args.entries.now))) ++ (sample (codes "bx_pay") Live (pays_of (is_such Live) c.args.entries.now))) ++ (sample (codes "bx_pay") Carried (pays_of (is_such Carried) c.args.entries.now))) ++ (sample (codes "bx_pay") Unanswered (pays_of (is_such Unanswered) c.args.entries.now))) = joined c.args.text.now.items (c.push_pay-4.new.text.items) (c.push_pay-5.new.text.items) (((((codes "# TYPE bx_pay gauge\n# HELP bx_pay What these bookings pay.\n") ++ (sample (codes "bx_pay") Refused (pays_of (is_such Refused) c.args.entries.now))) ++ (sample (codes "bx_pay") Waiting (pays_of (is_such Waiting) c.args.entries.now))) ++ (sample (codes "bx_pay") Live (pays_of (is_such Live) c.args.entries.now))) ++ (sample (codes "bx_pay") Carried (pays_of (is_such Carried) c.args.entries.now))) (sample (codes "bx_pay") Unanswered (pays_of (is_such Unanswered) c.args.entries.now)) e4 c.in_ok-push_pay-5.ensures in
    joined_on c.push_pay-6.result c.args.text.now.items (c.push_pay-5.new.text.items) (c.push_pay-6.new.text.items) ((((((codes "# TYPE bx_pay gauge\n# HELP bx_pay What these bookings pay.\n") ++ (sample (codes "bx_pay") Refused (pays_of (is_such Refused) c.args.entries.now))) ++ (sample (codes "bx_pay") Waiting (pays_of (is_such Waiting) c.args.entries.now))) ++ (sample (codes "bx_pay") Live (pays_of (is_such Live) c.args.entries.now))) ++ (sample (codes "bx_pay") Carried (pays_of (is_such Carried) c.args.entries.now))) ++ (sample (codes "bx_pay") Unanswered (pays_of (is_such Unanswered) c.args.entries.now))) (sample (codes "bx_pay") Missed (pays_of (is_such Missed) c.args.entries.now)) e5 c.push_pay-6.ensures
