use Rattle.std.proofs.Common.{rules, codes, ◌≡◌, ◌-◌, true, cond, length, take, drop, Err, ap, sym, ◌∙◌, arith}
use Rattle.std.proofs.lemmas.List.{take_all, length-drop}
use Rattle.std.specs.Str.{bytes_eq}
use Rattle.bx_journal.specs.declared.fault.JournalFault.TheVariants.{BadLine}
use Rattle.bx_journal.specs.Numbers.{number_on}
use Rattle.bx_journal.specs.Reading.{dated_by}
use Rattle.bx_journal.proofs.head_reading.dated_on.Goals as goal

pub returns-then-eq : goal.returns-then-eq
returns-then-eq c =
    let line = c.args.line.now in
    let test : bytes_eq (take 19 line) (codes "bx-journal 2 rules ") ≡ true = search rules steps 1000000 in
    let all : take (length line - 19) (drop 19 line) ≡ drop 19 line = take_all (length line - 19) (drop 19 line) (omega (arith, length-drop 19 line)) in
    c.dated_by.ensures ∙ ap (λ l. dated_by c.args.day (number_on l)) all ∙ sym (ap (λ b. cond b (dated_by c.args.day (number_on (drop 19 line))) (Err (BadLine 1))) test)
