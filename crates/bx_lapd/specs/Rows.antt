-- Private: what a row answers in code, as a step of the table.
use Rattle.std.specs.Prelude.{◌≡◌, ◌++◌, option_to_list}
use Rattle.bx_lapd.specs.declared.row.Row.{Row}
use Rattle.bx_lapd.specs.Links.{Link, LinkStep}

pub record IsRow (s : LinkStep) (l : Link) (r : Row) : Type 0 where
  pub link : l ≡ s.link
  pub frames : option_to_list r.frame ≡ s.frames
  pub told : option_to_list r.first ++ option_to_list r.second ≡ s.told
