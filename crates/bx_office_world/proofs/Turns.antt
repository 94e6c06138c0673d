-- Who waits is answered, one after another.
use Rattle.std.proofs.Common.{◌≡◌, refl, sym, subst, ap, ◌∙◌, inl, inr, ℕ, ◌+◌, ◌<◌, ◌≤◌, ◌||◌, Bool, true, false, true≢false, List, [], ◌∷◌, ◌++◌, length, Option, Some, None, arith, length-append}
use Rattle.bx_market.specs.declared.market.Request.{Request}
use Rattle.bx_office_world.specs.declared.ledger.Keyed.{Keyed}
use Rattle.bx_day.specs.Day.{Day}
use Rattle.bx_office.specs.declared.gate.Route.{Route}
use Rattle.bx_office_door.specs.Guests.{first_asked}
use Rattle.bx_office_door.specs.declared.guest.Guest.{Guest}
use Rattle.bx_office_world.specs.Served.{is_long, has_long, EndsAtLong, IsTurn, IsRequestTaken, AreServed, IsServing}
use Rattle.bx_office_world.specs.TurnsTaken.{IsTurnTaken}
use Rattle.bx_office_world.specs.declared.serving.Desk.{Desk}
use Rattle.bx_office_world.specs.declared.serving.Pending.{Pending}

served_more : (desk : Desk) (requests : List Keyed) (d : Day) (told : List (ℕ × Route)) (turn : ℕ × Route) (old mid new : List Guest) → AreServed desk requests d told old mid → first_asked mid ≡ Some turn → IsTurn desk requests d turn.0 turn.1 mid new → AreServed desk requests d (told ++ turn ∷ []) old new
served_more desk requests d [] turn old mid new e f t = (subst (λ (gs : List Guest). first_asked gs ≡ Some turn) e f, new, subst (λ (gs : List Guest). IsTurn desk requests d turn.0 turn.1 gs new) e t, refl)
served_more desk requests d (x ∷ told) turn old mid new p f t = (p.0, p.1, p.2, served_more desk requests d told turn p.1 mid new p.3 f t)

-- ---- answers that take long

first_quick : (a b : Bool) → (a || b) ≡ false → a ≡ false
first_quick true b e = e
first_quick false b e = refl

rest_quick : (a b : Bool) → (a || b) ≡ false → b ≡ false
rest_quick true b e = absurd (true≢false e)
rest_quick false b e = e

-- after answers none of which takes long comes one of either kind
long_at_end : (rows : ℕ) (told : List (ℕ × Route)) (turn : ℕ × Route) → has_long rows told ≡ false → has_long rows (told ++ turn ∷ []) ≡ is_long rows turn.1
long_at_end rows [] turn e = or_false (is_long rows turn.1)
  where
    or_false : (b : Bool) → (b || false) ≡ b
    or_false true = refl
    or_false false = refl
long_at_end rows (x ∷ told) turn e = ap (λ (b : Bool). b || has_long rows (told ++ turn ∷ [])) (first_quick (is_long rows x.1) (has_long rows told) e) ∙ long_at_end rows told turn (rest_quick (is_long rows x.1) (has_long rows told) e)

-- .. and it is the last one
ends_at_long : (rows : ℕ) (told : List (ℕ × Route)) (turn : ℕ × Route) → has_long rows told ≡ false → EndsAtLong rows (told ++ turn ∷ [])
ends_at_long rows [] turn e = ((λ long. refl), tt)
ends_at_long rows (x ∷ told) turn e = ((λ long. absurd (true≢false (sym long ∙ first_quick (is_long rows x.1) (has_long rows told) e))), ends_at_long rows told turn (rest_quick (is_long rows x.1) (has_long rows told) e))

quick_ends : (rows : ℕ) (told : List (ℕ × Route)) → has_long rows told ≡ false → EndsAtLong rows told
quick_ends rows [] e = tt
quick_ends rows (x ∷ told) e = ((λ long. absurd (true≢false (sym long ∙ first_quick (is_long rows x.1) (has_long rows told) e))), quick_ends rows told (rest_quick (is_long rows x.1) (has_long rows told) e))

-- so many were answered, none of which took long
pub record SoFar (desk : Desk) (requests : List Keyed) (d : Day) (count : ℕ) (old new : List Guest) : Type 0 where
  pub told : List (ℕ × Route)
  pub many : length told ≡ count
  pub quick : has_long (length d.entries) told ≡ false
  pub served : AreServed desk requests d told old new

pub none_yet : (desk : Desk) (requests : List Keyed) (d : Day) (gs : List Guest) → SoFar desk requests d 0 gs gs
none_yet desk requests d gs = record { told = []; many = refl; quick = refl; served = refl }

pub one_more : (desk : Desk) (requests : List Keyed) (d : Day) (count number : ℕ) (route : Route) (old mid new : List Guest) → SoFar desk requests d count old mid → first_asked mid ≡ Some (number, route) → IsTurn desk requests d number route mid new → is_long (length d.entries) route ≡ false → SoFar desk requests d (count + 1) old new
one_more desk requests d count number route old mid new s f t e = record {
  told = s.told ++ (number, route) ∷ [];
  many = length-append s.told ((number, route) ∷ []) ∙ ap (λ (n : ℕ). n + 1) s.many;
  quick = long_at_end (length d.entries) s.told (number, route) s.quick ∙ e;
  served = served_more desk requests d s.told (number, route) old mid new s.served f t;
}

-- nobody waits any more, enough were answered, or the last answer took long
pub all_served : (desk : Desk) (requests : List Keyed) (d : Day) (count : ℕ) (old new : List Guest) → count ≤ 16 → SoFar desk requests d count old new → first_asked new ≡ None → IsServing desk requests d old new None
all_served desk requests d count old new le s e = record { told = s.told; few = omega (arith, s.many); one_long = quick_ends (length d.entries) s.told s.quick; served = s.served; next = inl e }

pub enough_served : (desk : Desk) (requests : List Keyed) (d : Day) (old new : List Guest) → SoFar desk requests d 16 old new → IsServing desk requests d old new None
enough_served desk requests d old new s = record { told = s.told; few = omega (arith, s.many); one_long = quick_ends (length d.entries) s.told s.quick; served = s.served; next = inr (inl s.many) }

pub long_served : (desk : Desk) (requests : List Keyed) (d : Day) (count number : ℕ) (route : Route) (old mid new : List Guest) → count < 16 → SoFar desk requests d count old mid → first_asked mid ≡ Some (number, route)
    → IsTurn desk requests d number route mid new → is_long (length d.entries) route ≡ true → IsServing desk requests d old new None
long_served desk requests d count number route old mid new le s f t e =
    let many : length (s.told ++ (number, route) ∷ []) ≡ count + 1 = length-append s.told ((number, route) ∷ []) ∙ ap (λ (n : ℕ). n + 1) s.many in
    record {
      told = s.told ++ (number, route) ∷ [];
      few = omega (arith, many);
      one_long = ends_at_long (length d.entries) s.told (number, route) s.quick;
      served = served_more desk requests d s.told (number, route) old mid new s.served f t;
      next = inr (inr (long_at_end (length d.entries) s.told (number, route) s.quick ∙ e));
    }

-- what is wanted next
pub next_wanted : (desk : Desk) (requests : List Keyed) (d : Day) (count : ℕ) (old mid new : List Guest) (number : ℕ) (route : Route) (next : Pending × Request) → count ≤ 16 → SoFar desk requests d count old mid → first_asked mid ≡ Some (number, route)
    → (new ≡ mid) × IsRequestTaken desk d number route mid next.0 next.1 → IsServing desk requests d old new (Some next)
next_wanted desk requests d count old mid new number route next le s f (same, taken) = record {
  told = s.told;
  few = omega (arith, s.many);
  one_long = quick_ends (length d.entries) s.told s.quick;
  served = subst (λ (gs : List Guest). AreServed desk requests d s.told old gs) (sym same) s.served;
  next = (s.quick, number, route, ap first_asked same ∙ f, subst (λ (gs : List Guest). IsRequestTaken desk d number route gs next.0 next.1) (sym same) taken);
}

-- nothing is wanted
pub not_taken : (desk : Desk) (requests : List Keyed) (d : Day) (number : ℕ) (route : Route) (old new : List Guest) (r : Option (Pending × Request)) → r ≡ None → IsTurnTaken desk requests d number route old new r → IsTurn desk requests d number route old new
not_taken desk requests d number route old new r is taken = subst (λ (x : Option (Pending × Request)). IsTurnTaken desk requests d number route old new x) is taken
