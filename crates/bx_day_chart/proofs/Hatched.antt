-- Hatched lanes, one after another.
use Rattle.std.proofs.Common.{◌≡◌, ◌∙◌, ◌+◌, ◌&&◌, ℕ, suc, Bool, true, false, List, [], ◌++◌, Option, Some, None, refl, ap, sym, append_assoc, append-nil, if◌then◌else◌, arith}
use Rattle.bx_base.specs.Channels.{has_channel}
use Rattle.bx_calendar.specs.declared.clock.Clock.{Clock}
use Rattle.bx_channels.specs.Marks.{is_marked}
use Rattle.bx_chart.specs.Bars.{lane_of}
use Rattle.bx_chart.specs.Hours.{Room}
use Rattle.bx_day.specs.Day.{Day}
use Rattle.bx_day_chart.specs.Maintenance.{hatch, hatches_below, since}

pub some_is : (b : Bool) (n c : ℕ) (r : Option ℕ) → r ≡ (if b then Some n else None) → r ≡ Some c → b ≡ true
some_is true n c r p q = refl
some_is false n c r p q = cc

pub same_channel : (b : Bool) (n c : ℕ) (r : Option ℕ) → r ≡ (if b then Some n else None) → r ≡ Some c → c ≡ n
same_channel true n c r p q = cc
same_channel false n c r p q = cc

pub none_is : (b : Bool) (n : ℕ) (r : Option ℕ) → r ≡ (if b then Some n else None) → ((c : ℕ) → r ≡ Some c → ⊥) → b ≡ false
none_is true n r p never = absurd (never n p)
none_is false n r p never = refl

module _ (room : Room) (clock : Option Clock) (d : Day) (channels : List Bool) (n : ℕ) (old text : List ℕ) (so_far : text ≡ old ++ hatches_below room clock d channels n) where
  abbrev there : Bool → List ℕ
  there b = if b then hatch room clock n (lane_of channels n) (since n 0 d.entries) else []

  next : (b : Bool) → (has_channel channels n && is_marked d.maintenance n) ≡ b → old ++ (hatches_below room clock d channels n ++ there b) ≡ old ++ hatches_below room clock d channels (n + 1)
  next b is = let q : suc n ≡ n + 1 = omega arith in ap (λ (x : Bool). old ++ (hatches_below room clock d channels n ++ there x)) (sym is) ∙ ap (λ (m : ℕ). old ++ hatches_below room clock d channels m) q

  pub hatch_added : (new : List ℕ) (lane second : ℕ) → (has_channel channels n && is_marked d.maintenance n) ≡ true → lane ≡ lane_of channels n → second ≡ since n 0 d.entries → new ≡ text ++ hatch room clock n lane second → new ≡ old ++ hatches_below room clock d channels (n + 1)
  hatch_added new lane second is in_lane from added =
      added
      ∙ ap (λ (t : List ℕ). t ++ hatch room clock n lane second) so_far
      ∙ append_assoc old (hatches_below room clock d channels n) (hatch room clock n lane second)
      ∙ ap (λ (l : ℕ). old ++ (hatches_below room clock d channels n ++ hatch room clock n l second)) in_lane
      ∙ ap (λ (s : ℕ). old ++ (hatches_below room clock d channels n ++ hatch room clock n (lane_of channels n) s)) from
      ∙ next true is

  pub no_hatch : (has_channel channels n && is_marked d.maintenance n) ≡ false → text ≡ old ++ hatches_below room clock d channels (n + 1)
  no_hatch is = so_far ∙ ap (λ (t : List ℕ). old ++ t) (sym (append-nil (hatches_below room clock d channels n))) ∙ next false is
