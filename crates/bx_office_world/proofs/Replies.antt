-- What a client is told.
use Rattle.std.proofs.Common.{◌≡◌, subst, ℕ, List, Option}
use Rattle.bx_office_world.specs.declared.metrics.Figures.{Figures}
use Rattle.bx_day.specs.Day.{Day}
use Rattle.bx_day.specs.declared.outcome.GivenUp.{GivenUp}
use Rattle.bx_day_chart.specs.Sights.{Sight}
use Rattle.bx_office.specs.declared.gate.Route.{Route}
use Rattle.bx_office.specs.declared.reply.Allowed.TheVariants as methods
use Rattle.bx_office.specs.declared.reply.Kind.{Kind}
use Rattle.bx_office.specs.declared.reply.Kind.TheVariants as kinds
use Rattle.bx_office.specs.declared.reply.Reply.{Reply}
use Rattle.bx_office.specs.declared.reply.Status.{Status}
use Rattle.bx_office_world.specs.Desk.{IsWritten}
use Rattle.bx_office_world.specs.Serving.{IsPlain}
use Rattle.bx_office_world.specs.declared.desk.Opened.{Opened}

pub plain : (status : Status) (reply : Reply) → reply.status ≡ status → reply.kind ≡ kinds.Text → reply.allowed ≡ methods.Unsaid → IsPlain status reply
plain status reply s k a = record { begins = s; kind = k; allowed = a }

-- what is written as it is sent
pub written_as : (opened : Opened) (d : Day) (g g' : List (Option GivenUp)) (figures : Figures) (sight : Sight) (q q' : List ℕ) (route : Route) (k k' : Kind) (t t' : List ℕ) → g ≡ g' → q ≡ q' → k ≡ k' → t ≡ t'
    → IsWritten opened d g figures sight q route k t → IsWritten opened d g' figures sight q' route k' t'
written_as opened d g g' figures sight q q' route k k' t t' eg eq ek et w =
    subst (λ (x : List ℕ). IsWritten opened d g' figures sight q' route k' x) et
    (subst (λ (x : Kind). IsWritten opened d g' figures sight q' route x t) ek
    (subst (λ (x : List ℕ). IsWritten opened d g' figures sight x route k t) eq
    (subst (λ (x : List (Option GivenUp)). IsWritten opened d x figures sight q route k t) eg w)))
