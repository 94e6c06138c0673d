-- Private: outages that are noted, and days that are followed with them, one after another.
use Rattle.std.proofs.Common.{◌≡◌, ◌∙◌, ℕ, List, [], ◌∷◌, ◌++◌, refl, ap, ap₂, sym}
use Rattle.bx_day_chart.specs.declared.outages.Outage.{Outage}
use Rattle.bx_events.specs.Events.{Tick, Receive, LiveEvent, OnLink, WithoutLink, Amended, HeardByRulesTwo}
use Rattle.bx_day_openings.specs.Joined.{after_nothing, after_more}
use Rattle.bx_audit.specs.Chartings.{HasFollowed}
use Rattle.bx_audit.specs.Noted.{next_moment, noted_at, outages_from}
use Rattle.bx_audit.specs.Notings.{IsNoted, moment_after}
use Rattle.bx_audit.specs.declared.charting.Charting.{Charting}
use Rattle.bx_audit.specs.declared.noting.Noting.{Noting}

outages_more : (m : ℕ) (xs ys : List LiveEvent) (os : List Outage) → outages_from m (xs ++ ys) os ≡ outages_from (moment_after m xs) ys (outages_from m xs os)
outages_more m [] ys os = refl
outages_more m (OnLink Tick ∷ xs) ys os = outages_more (next_moment m) xs ys os
outages_more m (OnLink (Receive octets) ∷ xs) ys os = outages_more m xs ys os
outages_more m (WithoutLink rules ∷ xs) ys os = outages_more (next_moment m) xs ys (noted_at m os)
outages_more m (Amended kind line ∷ xs) ys os = outages_more m xs ys os
outages_more m (HeardByRulesTwo octets ∷ xs) ys os = outages_more m xs ys os

moment_more : (m : ℕ) (xs ys : List LiveEvent) → moment_after m (xs ++ ys) ≡ moment_after (moment_after m xs) ys
moment_more m [] ys = refl
moment_more m (OnLink Tick ∷ xs) ys = moment_more (next_moment m) xs ys
moment_more m (OnLink (Receive octets) ∷ xs) ys = moment_more m xs ys
moment_more m (WithoutLink rules ∷ xs) ys = moment_more (next_moment m) xs ys
moment_more m (Amended kind line ∷ xs) ys = moment_more m xs ys
moment_more m (HeardByRulesTwo octets ∷ xs) ys = moment_more m xs ys

noted_nothing : (a : Noting) → IsNoted a [] a
noted_nothing a whole = record { whole = whole; outages = refl; moment = refl }

noted_more : (a b c : Noting) (xs ys : List LiveEvent) → IsNoted a xs b → IsNoted b ys c → IsNoted a (xs ++ ys) c
noted_more a b c xs ys p q whole =
    let second = q whole in
    let first = p second.whole in
    record {
      whole = first.whole;
      outages = second.outages ∙ ap₂ (λ (m : ℕ) (os : List Outage). outages_from m ys os) first.moment first.outages ∙ sym (outages_more a.moment xs ys a.outages.spans.items);
      moment = second.moment ∙ ap (λ (m : ℕ). moment_after m ys) first.moment ∙ sym (moment_more a.moment xs ys);
    }

pub charted_nothing : (a : Charting) → HasFollowed a [] a
charted_nothing a = (after_nothing a.selling, noted_nothing a.noting)

pub charted_more : (a b c : Charting) (xs ys : List LiveEvent) → HasFollowed a xs b → HasFollowed b ys c → HasFollowed a (xs ++ ys) c
charted_more a b c xs ys p q = (after_more a.selling b.selling c.selling xs ys p.0 q.0, noted_more a.noting b.noting c.noting xs ys p.1 q.1)
