use Rattle.std.proofs.Common.{inr}
use Rattle.bx_live_commands.specs.Heads.{live_head}
use Rattle.bx_journal.specs.Files.{holds_unknown, may_leave_any, no_moment, any_since, has_failed_in}
use Rattle.bx_line_world.specs.Wires.{did_on}
use Rattle.bx_live_commands.specs.LiveDays.{has_office}
use Rattle.bx_live_commands.proofs.LineRuns.{journal_kept_by}
use Rattle.bx_live_commands.proofs.OpenOffices.{at_hand_of, is_open_at, runs_on, stops_on}
use Rattle.bx_live_commands.proofs.live_files.run_on_socket.Goals as goal

pub unlogged-requires : goal.unlogged-requires
unlogged-requires g c =
    journal_kept_by (live_head c.args.opening.digest c.args.hours) c.args.opening.channels c.args.opening.exchange c.in_ok-resumed.resumed.exchange c.in_ok-resumed.resumed.log c.args.request.journal c.in_ok-resumed.ensures.kept c.in-Err.ensures.failed

pub returns-in-Ok-clause-ran : goal.returns-in-Ok-clause-ran
returns-in-Ok-clause-ran g c = λ hours opens at. record {
  going = record { at_hand = at_hand_of c.args.request c.args.hours c.args.opening hours opens; resumed = c.in_ok-resumed.resumed.exchange; kept = c.in_ok-resumed.resumed.log; goes_on = c.in_ok-resumed.ensures.resumed; is_kept = c.in_ok-resumed.ensures.kept; given_up = c.in_ok-resumed.resumed.given_up.items; noted = c.in_ok-resumed.ensures.noted };
  turns = c.live_turns-turns.result;
  are_turns = rw (← is_open_at (has_office c.args.request) c.args.opening.channels c.args.hours.day c.args.request.rate c.args.premises at) (rw (← c.is_some-is_open.ensures) c.live_turns-turns.ensures);
  wire = c.new-wire.result;
  ran = runs_on did_on holds_unknown may_leave_any no_moment any_since has_failed_in c.new-wire.result c.args.hours.schedule c.in_ok-resumed.resumed.log c.live_turns-turns.result c.in_ok-resumed.resumed.exchange (has_office c.args.request) c.args.opening.channels c.args.hours.day c.args.request.rate c.args.premises _ _ _ at c.in-Ok.ensures.ran;
}

pub returns-in-Err-clause-stopped : goal.returns-in-Err-clause-stopped
returns-in-Err-clause-stopped g c = λ hours opens at. inr (
  c.unlogged.ensures,
  record {
    going = record { at_hand = at_hand_of c.args.request c.args.hours c.args.opening hours opens; resumed = c.in_ok-resumed.resumed.exchange; kept = c.in_ok-resumed.resumed.log; goes_on = c.in_ok-resumed.ensures.resumed; is_kept = c.in_ok-resumed.ensures.kept; given_up = c.in_ok-resumed.resumed.given_up.items; noted = c.in_ok-resumed.ensures.noted };
    turns = c.live_turns-turns.result;
    wire = c.new-wire.result;
    stopped = stops_on did_on holds_unknown may_leave_any no_moment any_since has_failed_in c.new-wire.result c.args.hours.schedule c.in_ok-resumed.resumed.log c.live_turns-turns.result c.in_ok-resumed.resumed.exchange (has_office c.args.request) c.args.opening.channels c.args.hours.day c.args.request.rate c.args.premises at c.in-Err.ensures.stopped;
  },
)
