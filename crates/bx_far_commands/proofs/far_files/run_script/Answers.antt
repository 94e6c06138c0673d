use Rattle.bx_far_commands.proofs.far_files.run_script.Goals as goal

pub returns-clause-ran : goal.returns-clause-ran
returns-clause-ran g c =
    let ran = c.in_ok-moment.ensures.ran c.in_ok-far.ensures.opened in
    (ran.0, record { file = c.in_ok-file.file; first = c.in_ok-first.first; opens = c.in_ok-file.ensures.opened; begins = c.in_ok-first.ensures.first; kept = record { closed = c.run_connected.new.file; keeps = ran.1; whole = c.is_whole.ensures } })
