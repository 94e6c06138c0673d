-- What was recovered of a journal's text.
use Rattle.std.proofs.Common.{◌≡◌, ℕ, List, Result, Ok, Err, ap}
use Rattle.bx_events.specs.Events.{LiveEvent}
use Rattle.bx_journal.specs.declared.fault.JournalFault.{JournalFault}
use Rattle.bx_journal.specs.Reading.{Recovery, with_whole}

-- the events of a recovery
pub the_events : (n m : ℕ) (read : Result (List LiveEvent) JournalFault) (events : List LiveEvent) → with_whole n read ≡ Ok (record { events = events; whole = m }) → read ≡ Ok events
the_events n m (Ok es) events e =
    let same : record { events = es; whole = n } ≡ record { events = events; whole = m } = cc in
    ap (λ (r : Recovery). Ok r.events) same
the_events n m (Err f) events e = absurd cc
