-- Private: events one after another, and what amends the plan, with what was captured of them.
use Rattle.std.proofs.Common.{ℕ, Bool, List, [], ◌∷◌, ◌++◌, refl, sym, ap, ◌∙◌, subst, append_assoc, Option}
use Rattle.bx_events.specs.Events.{LiveEvent, OnLink, WithoutLink, Amended, HeardByRulesTwo}
use Rattle.bx_capture.specs.Keeping.{keeps_nil, keeps_more}
use Rattle.bx_day.specs.Day.{Day}
use Rattle.bx_day.specs.Outages.{live_happens}
use Rattle.bx_day_openings.specs.Going.{GoesFrom}
use Rattle.bx_day_openings.specs.Joined.{goes_nothing, goes_more, was_right, noted_after}
use Rattle.bx_day_openings.specs.declared.amending.AmendmentFault.{AmendmentFault}
use Rattle.bx_audit.specs.Followed.{Taken, IsTaken, IsRecaptured, taken_from, HasRecaptured}
use Rattle.bx_audit.specs.LiveCaptures.{live_packets_for, CapturesThrough}
use Rattle.bx_audit.specs.declared.following.Recaptured.{Recaptured}

captures_more : (channels : List Bool) (first : ℕ) (xs ys : List LiveEvent) (a b c : Day) (os ps : List ℕ) → CapturesThrough channels first xs a b os → CapturesThrough channels first ys b c ps → CapturesThrough channels first (xs ++ ys) a c (os ++ ps)
captures_more channels first [] ys a b c os ps (same, none) more = subst (λ (l : List ℕ). CapturesThrough channels first ys a c (l ++ ps)) (sym none) (subst (λ (d : Day). CapturesThrough channels first ys d c ps) same more)
captures_more channels first (Amended kind line ∷ xs) ys a b c os ps (amended, is, rest) more = (amended, is, captures_more channels first xs ys amended b c os ps rest more)
captures_more channels first (OnLink event ∷ xs) ys a b c os ps (later, are, rest) more =
    (later ++ ps, ap (λ (l : List ℕ). l ++ ps) are ∙ append_assoc (live_packets_for first a (OnLink event)) later ps, captures_more channels first xs ys (live_happens a (OnLink event)).day b c later ps rest more)
captures_more channels first (HeardByRulesTwo came ∷ xs) ys a b c os ps (later, are, rest) more =
    (later ++ ps, ap (λ (l : List ℕ). l ++ ps) are ∙ append_assoc (live_packets_for first a (HeardByRulesTwo came)) later ps, captures_more channels first xs ys (live_happens a (HeardByRulesTwo came)).day b c later ps rest more)
captures_more channels first (WithoutLink rules ∷ xs) ys a b c os ps rest more = captures_more channels first xs ys (live_happens a (WithoutLink rules)).day b c os ps rest more

module _ {W : Type 0} (contents : W → Option (List ℕ)) where
  nothing_taken : (channels : List Bool) (a : Taken W) → IsTaken contents channels a [] a
  nothing_taken channels a = record { stays = refl; octets = []; through = (refl, refl); kept = keeps_nil contents a.file }

  taken_more : (channels : List Bool) (a b c : Taken W) (xs ys : List LiveEvent) → IsTaken contents channels a xs b → IsTaken contents channels b ys c → IsTaken contents channels a (xs ++ ys) c
  taken_more channels a b c xs ys p q = record {
    stays = q.stays ∙ p.stays;
    octets = p.octets ++ q.octets;
    through = captures_more channels a.first xs ys a.day b.day c.day p.octets q.octets p.through (subst (λ (n : ℕ). CapturesThrough channels n ys b.day c.day q.octets) p.stays q.through);
    kept = keeps_more contents a.file b.file c.file p.octets q.octets p.kept q.kept;
  }

  pub followed_nothing : (channels : List Bool) (fault : Option AmendmentFault) (a : Taken W) → IsRecaptured contents channels channels fault fault a [] a
  followed_nothing channels fault a = (refl, goes_nothing (IsTaken contents channels) (λ (t : Taken W). t.day) channels (nothing_taken channels) fault a)

  pub followed_on : (cs cs1 cs2 : List Bool) (s s1 s2 : Option AmendmentFault) (a b c : Taken W) (xs ys : List LiveEvent) → IsRecaptured contents cs cs1 s s1 a xs b → IsRecaptured contents cs1 cs2 s1 s2 b ys c → IsRecaptured contents cs cs2 s s2 a (xs ++ ys) c
  followed_on cs cs1 cs2 s s1 s2 a b c xs ys (same, p) (again, q) =
      let on = subst (λ (x : List Bool). GoesFrom (IsTaken contents x) (λ (t : Taken W). t.day) x s1 b ys c s2) same q in
      (again ∙ same, goes_more (IsTaken contents cs) (λ (t : Taken W). t.day) cs (taken_more cs) a b c xs ys s s1 s2 p on)

  -- the same of what follows a journal
  pub recaptured_nothing : (a : Recaptured W) → HasRecaptured contents a [] a
  recaptured_nothing a = (followed_nothing a.channels a.fault (taken_from a), λ whole. refl)

  pub recaptured_on : (a b c : Recaptured W) (xs ys : List LiveEvent) → HasRecaptured contents a xs b → HasRecaptured contents b ys c → HasRecaptured contents a (xs ++ ys) c
  recaptured_on a b c xs ys (p, notes) (q, notes') = (
    followed_on a.channels b.channels c.channels a.fault b.fault c.fault (taken_from a) (taken_from b) (taken_from c) xs ys p q,
    λ whole. noted_after a.given_up.items b.given_up.items c.given_up.items xs ys
        (notes (was_right (IsTaken contents b.channels) (λ (t : Taken W). t.day) b.channels (taken_from b) (taken_from c) ys b.fault c.fault q.1 whole)) (notes' whole),
  )
