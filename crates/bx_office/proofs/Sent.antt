-- What has a body is CSV.
use Rattle.std.proofs.Common.{◌≡◌, refl, true, false, List, ℕ, Option}
use Rattle.bx_office.specs.Gate.{is_csv, is_typed, has_body}
use Rattle.bx_office.specs.declared.gate.Route.{Route}
use Rattle.bx_office.specs.declared.gate.Route.TheVariants.{Bookings, Change}

pub untyped : (route : Route) (content : Option (List ℕ)) → is_typed route content ≡ false → (has_body route ≡ true) × (is_csv content ≡ false)
untyped Bookings content e = (refl, e)
untyped (Change row) content e = (refl, e)
untyped _ content e = absurd cc

pub typed_so : (route : Route) (content : Option (List ℕ)) → has_body route ≡ true → is_typed route content ≡ true → is_csv content ≡ true
typed_so Bookings content with_body e = e
typed_so (Change row) content with_body e = e
typed_so _ content with_body e = absurd cc
