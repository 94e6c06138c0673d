use Rattle.std.proofs.Common.{List, ℕ, ◌++◌, ◌∙◌, ap}
use Rattle.std.specs.Prelude.{codes}
use Rattle.bx_text.specs.Lines.{members_from}
use Rattle.bx_text.proofs.MemberSteps.{members_line}
use Rattle.bx_planfile.proofs.written_lines.channels_line.Goals as goal

pub returns-clause-text : goal.returns-clause-text
returns-clause-text c =
    members_line (codes "channels") c.append.new.line.items c.add_members.new.line.items c.push.new.self.items (members_from 0 c.args.channels)
    (c.append.ensures.items ∙ ap (λ (l : List ℕ). l ++ codes "channels") c.new-line.ensures) c.add_members.ensures.items c.push.ensures.items
