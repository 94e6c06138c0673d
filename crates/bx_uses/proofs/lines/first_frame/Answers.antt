use Rattle.std.proofs.Common.{◌≡◌, ◌∙◌, ℕ, ap, refl, true, get_or, List, ◌∷◌, []}
use Rattle.bx_lapd.specs.Links.{Link}
use Rattle.bx_lapd.specs.Table.{establish}
use Rattle.bx_lapd.specs.declared.frame.Frame.{Frame}
use Rattle.bx_lapd.specs.declared.frame.Frame.TheVariants.{Plain}
use Rattle.bx_lapd.specs.declared.words.LinkState.{LinkState}
use Rattle.bx_lapd.specs.declared.words.LinkState.TheVariants.{Assigned}
use Rattle.bx_lapd.specs.declared.words.Unnumbered.TheVariants.{Sabme}
use Rattle.bx_lapd.proofs.ReadBack.{reads_back}
use Rattle.bx_uses.proofs.lines.first_frame.Goals as goal

-- an end that is not linked sends SABME
sent : (state : LinkState) (l : Link) (now : ℕ) → state ≡ Assigned → (establish state l now).frames ≡ Plain Sabme true ∷ []
sent Assigned l now e = refl
sent _ l now e = cc

pub returns-in-len1 : goal.returns-in-len1
returns-in-len1 c =
    let frames = c.establish-done.ensures.step.frames ∙ sent c.new-end.result.link.state c.new-end.result.link c.args.now c.new-end.ensures.unlinked.state in
    let is : c.frame-item.result ≡ Plain Sabme true = c.frame-item.is ∙ ap (λ (xs : List Frame). get_or xs 0 c.frame-item.result) (c.frames.ensures ∙ frames) in
    rw c.write_frame.ensures (rw is (reads_back c.args.network (Plain Sabme true) tt (λ e. cc)))
