use Rattle.std.proofs.Common.{rules, codes, ◌≡◌, ◌-◌, true, false, length, take, drop, ap, ◌∙◌, arith}
use Rattle.std.proofs.lemmas.List.{take_all, length-drop}
use Rattle.std.specs.Str.{bytes_eq}
use Rattle.bx_journal.specs.Reading.{heard_on}
use Rattle.bx_journal.proofs.event_reading.event_on.Goals as goal

pub returns-then-eq-3 : goal.returns-then-eq-3
returns-then-eq-3 c =
    let line = c.args.line.now in
    let tick : bytes_eq line (codes "tick") ≡ false = search rules steps 1000000 in
    let down : bytes_eq line (codes "down") ≡ false = search rules steps 1000000 in
    let word : bytes_eq (take 6 line) (codes "heard ") ≡ true = search rules steps 1000000 in
    let all : take (length line - 6) (drop 6 line) ≡ drop 6 line = take_all (length line - 6) (drop 6 line) (omega (arith, length-drop 6 line)) in
    rw (tick, down, word) (c.heard_on.ensures ∙ ap (heard_on c.args.version) all)

pub returns-else-line-ge6 : goal.returns-else-line-ge6
returns-else-line-ge6 c =
    let line = c.args.line.now in
    let tick : bytes_eq line (codes "tick") ≡ false = search rules steps 1000000 in
    let down : bytes_eq line (codes "down") ≡ false = search rules steps 1000000 in
    let word : bytes_eq (take 6 line) (codes "heard ") ≡ false = search rules steps 1000000 in
    rw (tick, down, word) c.amendment_on.ensures
