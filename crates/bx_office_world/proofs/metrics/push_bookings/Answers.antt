use Rattle.std.proofs.Common.{◌≡◌, ◌++◌, codes}
use Rattle.bx_office_world.specs.Metrics.{sample}
use Rattle.bx_office_world.specs.Tallies.{is_such}
use Rattle.bx_office_world.specs.declared.tallies.Became.TheVariants.{Refused, Waiting, Live, Carried, Unanswered, Missed}
use Rattle.bx_records.specs.Totals.{how_many}
use Rattle.bx_office_world.proofs.Pieces.{joined, joined_on}
use Rattle.bx_office_world.proofs.metrics.push_bookings.Goals as goal

pub returns : goal.returns
returns c =
    let e0 : c.push.new.text.items ≡ c.args.text.now.items ++ (codes "# TYPE bx_bookings gauge\n# HELP bx_bookings Bookings of the last plan, by what has become of them.\n") = c.in_ok-push.ensures in
    let e1 : c.push_count.new.text.items ≡ c.args.text.now.items ++ ((codes "# TYPE bx_bookings gauge\n# HELP bx_bookings Bookings of the last plan, by what has become of them.\n") ++ (sample (codes "bx_bookings") Refused (how_many (is_such Refused) c.args.entries.now))) = joined c.args.text.now.items (c.push.new.text.items) (c.push_count.new.text.items) (codes "# TYPE bx_bookings gauge\n# HELP bx_bookings Bookings of the last plan, by what has become of them.\n") (sample (codes "bx_bookings") Refused (how_many (is_such Refused) c.args.entries.now)) e0 c.in_ok-push_count.ensures in
    let e2 : c.push_count-2.new.text.items ≡ c.args.text.now.items ++ (((codes "# TYPE bx_bookings gauge\n# HELP bx_bookings Bookings of the last plan, by what has become of them.\n") ++ (sample (codes "bx_bookings") Refused (how_many (is_such Refused) c.args.entries.now))) ++ (sample (codes "bx_bookings") Waiting (how_many (is_such Waiting) c.args.entries.now))) = joined c.args.text.now.items (c.push_count.new.text.items) (c.push_count-2.new.text.items) ((codes "# TYPE bx_bookings gauge\n# HELP bx_bookings Bookings of the last plan, by what has become of them.\n") ++ (sample (codes "bx_bookings") Refused (how_many (is_such Refused) c.args.entries.now))) (sample (codes "bx_bookings") Waiting (how_many (is_such Waiting) c.args.entries.now)) e1 c.in_ok-push_count-2.ensures in
    let e3 : c.push_count-3.new.text.items ≡ c.args.text.now.items ++ ((((codes "# TYPE bx_bookings gauge\n# HELP bx_bookings Bookings of the last plan, by what has become of them.\n") ++ (sample (codes "bx_bookings") Refused (how_many (is_such Refused) c.args.entries.now))) ++ (sample (codes "bx_bookings") Waiting (how_many (is_such Waiting) c.args.entries.now))) ++ (sample (codes "bx_bookings") Live (how_many (is_such Live) c.args.entries.now))) = joined c.args.text.now.items (c.push_count-2.new.text.items) (c.push_count-3.new.text.items) (((codes "# TYPE bx_bookings gauge\n# HELP bx_bookings Bookings of the last plan, by what has become of them.\n") ++ (sample (codes "bx_bookings") Refused (how_many (is_such Refused) c.args.entries.now))) ++ (sample (codes "bx_bookings") Waiting (how_many (is_such Waiting) c.args.entries.now))) (sample (codes "bx_bookings") Live (how_many (is_such Live) c.args.entries.now)) e2 c.in_ok-push_count-3.ensures in
    let e4 : c.push_count-4.new.text.items ≡ c.args.text.now.items ++ (((((codes "# TYPE bx_bookings gauge\n# HELP bx_bookings Bookings of the last plan, by what has become of them.\n") ++ (sample (codes "bx_bookings") Refused (how_many (is_such Refused) c.args.entries.now))) ++ (sample (codes "bx_bookings") Waiting (how_many (is_such Waiting) c.args.entries.now))) ++ (sample (codes "bx_bookings") Live (how_many (is_such Live) c.args.entries.now))) ++ (sample (codes "bx_bookings") Carried (how_many (is_such Carried) c.args.entries.now))) = joined c.args.text.now.items (c.push_count-3.new.text.items) (c.push_count-4.new.text.items) ((((codes "# TYPE bx_bookings gauge\n# HELP bx_bookings Bookings of the last plan, by what has become of them.\n") ++ (sample (codes "bx_bookings") Refused (how_many (is_such Refused) c.args.entries.now))) ++ (sample (codes "bx_bookings") Waiting (how_many (is_such Waiting) c.args.entries.now))) ++ (sample (codes "bx_bookings") Live (how_many (is_such Live) c.args.entries.now))) (sample (codes "bx_bookings") Carried (how_many (is_such Carried) c.args.entries.now)) e3 c.in_ok-push_count-4.ensures in
    let e5 : c.push_count-5.new.text.items ≡ c.args.text.now.items ++ ((((((codes "# TYPE bx_bookings gauge\n# HELP bx_bookings Bookings of the last plan, by what has become of them.\n") ++ (sample (codes "bx_bookings") Refused (how_many (is_such Refused) c.args.entries.now))) ++ (sample (codes "bx_bookings") Waiting (how_many (is_such Waiting) c.args.entries.now))) ++ (sample (codes "bx_bookings") Live (how_many (is_such Live) c.args.entries.now))) ++ (sample (codes "bx_bookings") Carried (how_many (is_such Carried) c.args.entries.now))) ++ (sample (codes "bx_bookings") Unanswered (how_many (is_such Unanswered) c.args.entries.now))) = joined c.args.text.now.items (c.push_count-4.new.text.items) (c.push_count-5.new.text.items) (((((codes "# TYPE bx_bookings gauge\n# HELP bx_bookings Bookings of the last plan, by what has become of them.\n") ++ (sample (codes "bx_bookings") Refused (how_many (is_such Refused) c.args.entries.now))) ++ (sample (codes "bx_bookings") Waiting (how_many (is_such Waiting) c.args.entries.now))) ++ (sample (codes "bx_bookings") Live (how_many (is_such Live) c.args.entries.now))) ++ (sample (codes "bx_bookings") Carried (how_many (is_such Carried) c.args.entries.now))) (sample (codes "bx_bookings") Unanswered (how_many (is_such Unanswered) c.args.entries.now)) e4 c.in_ok-push_count-5.ensures in
    joined_on c.push_count-6.result c.args.text.now.items (c.push_count-5.new.text.items) (c.push_count-6.new.text.items) ((((((codes "# TYPE bx_bookings gauge\n# HELP bx_bookings Bookings of the last plan, by what has become of them.\n") ++ (sample (codes "bx_bookings") Refused (how_many (is_such Refused) c.args.entries.now))) ++ (sample (codes "bx_bookings") Waiting (how_many (is_such Waiting) c.args.entries.now))) ++ (sample (codes "bx_bookings") Live (how_many (is_such Live) c.args.entries.now))) ++ (sample (codes "bx_bookings") Carried (how_many (is_such Carried) c.args.entries.now))) ++ (sample (codes "bx_bookings") Unanswered (how_many (is_such Unanswered) c.args.entries.now))) (sample (codes "bx_bookings") Missed (how_many (is_such Missed) c.args.entries.now)) e5 c.push_count-6.ensures
