-- Which requests are let through, and where they go.
use Rattle.std.specs.Prelude.{◌≡◌, ◌∷◌, [], ◌==◌, ◌&&◌, ◌||◌, not, ℕ, Bool, true, false, List, codes, Option, Some, None, Result, Ok, Err}
use Rattle.std.specs.Str.{bytes_eq}
use Rattle.bx_office.specs.Targets.{text_of, past, path_asked, host_asked}
use Rattle.bx_office.specs.Hosts.{is_own_host, is_own_origin}
use Rattle.bx_office.specs.Keys.{is_keyed}
use Rattle.bx_office.specs.Rows.{IsPlanRow, booking_path}
use Rattle.bx_office.specs.declared.gate.Place.{Place}
use Rattle.bx_office.specs.declared.gate.Request.{Request}
use Rattle.bx_office.specs.declared.gate.Side.{Side}
use Rattle.bx_office.specs.declared.gate.Side.TheVariants.{Operators, Customers}
use Rattle.bx_office.specs.declared.gate.Route.{Route}
use Rattle.bx_office.specs.declared.gate.Route.TheVariants.{Home, Script, Style, Bookings, Quote, Free, Plan, Outcomes, Records, Chart, Metrics, Health, Ready, Office, Cancel, Change}
use Rattle.bx_office.specs.declared.gate.Refusal.{Refusal}
use Rattle.bx_office.specs.declared.gate.Refusal.TheVariants.{Doubled, OtherHost, OtherOrigin, UnknownMethod, NotFound, WrongMethod, NotCsv, Coded, NoLength, BadKey}

-- what the gate looks at of a request
pub record Question : Type 0 where
  pub method : List ℕ
  pub target : List ℕ
  pub host : Option (List ℕ)
  pub origin : Option (List ℕ)
  pub content : Option (List ℕ)
  pub key : Option (List ℕ)
  pub is_doubled : Bool
  pub is_coded : Bool
  pub has_length : Bool

abbrev pub question_of : Request → Question
question_of r = record {
  method = r.method.now;
  target = r.target.now;
  host = text_of r.host;
  origin = text_of r.origin;
  content = text_of r.content;
  key = text_of r.key;
  is_doubled = r.is_doubled;
  is_coded = r.is_coded;
  has_length = r.has_length;
}

-- ---- what there is

abbrev pub path_of : Route → List ℕ
path_of Home = codes "/"
path_of Script = codes "/office.js"
path_of Style = codes "/office.css"
path_of Bookings = codes "/bookings"
path_of Quote = codes "/quote"
path_of Free = codes "/free"
path_of Plan = codes "/plan"
path_of Outcomes = codes "/outcomes"
path_of Records = codes "/records"
path_of Chart = codes "/chart.svg"
path_of Metrics = codes "/metrics"
path_of Health = codes "/healthz"
path_of Ready = codes "/ready"
path_of Office = codes "*"
path_of (Cancel row) = booking_path row
path_of (Change row) = booking_path row

abbrev pub HasPlanRow : Route → Type 0
HasPlanRow (Cancel row) = IsPlanRow row
HasPlanRow (Change row) = IsPlanRow row
HasPlanRow _ = Unit {0}

-- what stands at a path: each page, and each booking of a row of a plan
abbrev pub StandsAt : Route → List ℕ → Type 0
StandsAt route path = (path ≡ path_of route) × HasPlanRow route

-- of two that stand at one path the first is told
abbrev pub is_first : Route → Bool
is_first (Cancel row) = false
is_first _ = true

-- what is there on a side: for operators all, and for customers what tells nothing of what others have booked
abbrev pub is_shown_to : Side → Route → Bool
is_shown_to Operators route = true
is_shown_to Customers Home = true
is_shown_to Customers Script = true
is_shown_to Customers Style = true
is_shown_to Customers Bookings = true
is_shown_to Customers Quote = true
is_shown_to Customers Free = true
is_shown_to Customers Health = true
is_shown_to Customers _ = false

-- the methods that HTTP has for what stands at a path (RFC 9110, section 9.3, and RFC 5789)
abbrev pub is_known : List ℕ → Bool
is_known method = bytes_eq method (codes "GET") || bytes_eq method (codes "HEAD") || bytes_eq method (codes "POST") || bytes_eq method (codes "PUT")
    || bytes_eq method (codes "DELETE") || bytes_eq method (codes "OPTIONS") || bytes_eq method (codes "TRACE") || bytes_eq method (codes "PATCH")

-- bookings are posted, a booking is deleted or put, the office as a whole is asked for its options, all else is got
abbrev pub takes : Route → List ℕ → Bool
takes Bookings method = bytes_eq method (codes "POST")
takes Office method = bytes_eq method (codes "OPTIONS")
takes (Cancel row) method = bytes_eq method (codes "DELETE")
takes (Change row) method = bytes_eq method (codes "PUT")
takes _ method = bytes_eq method (codes "GET") || bytes_eq method (codes "HEAD")

-- what stands at its path has this method
abbrev pub has_method : Route → List ℕ → Bool
has_method (Cancel row) method = bytes_eq method (codes "DELETE") || bytes_eq method (codes "PUT")
has_method (Change row) method = bytes_eq method (codes "DELETE") || bytes_eq method (codes "PUT")
has_method route method = takes route method

-- ---- what is sent

-- after the type come parameters, or nothing; white space may stand before that
abbrev pub ends_type : List ℕ → Bool
ends_type [] = true
ends_type (c ∷ rest) = (c == 59) || (((c == 32) || (c == 9)) && ends_type rest)

abbrev pub is_csv_type : Option (List ℕ) → Bool
is_csv_type None = false
is_csv_type (Some rest) = ends_type rest

abbrev pub is_csv : Option (List ℕ) → Bool
is_csv None = false
is_csv (Some content) = is_csv_type (past (codes "text/csv") content)

abbrev pub is_typed : Route → Option (List ℕ) → Bool
is_typed Bookings content = is_csv content
is_typed (Change row) content = is_csv content
is_typed _ content = true

abbrev pub has_body : Route → Bool
has_body Bookings = true
has_body (Change row) = true
has_body _ = false

-- ---- the answer of the gate: just one fits each request

-- each field that stands once does so, and the request names this office and comes from no page of another origin
pub record IsOwn (place : Place) (q : Question) : Type 0 where
  pub single : q.is_doubled ≡ false
  pub host : is_own_host place.address (host_asked q.host q.target) ≡ true
  pub origin : is_own_origin place.address (host_asked q.host q.target) q.origin ≡ true

-- .. and its method is known
pub record IsMeant (place : Place) (q : Question) : Type 0 where
  pub own : IsOwn place q
  pub known : is_known q.method ≡ true

-- .. and it asks for what is there on this side, as that is asked for
pub record IsAsked (place : Place) (q : Question) (route : Route) : Type 0 where
  pub meant : IsMeant place q
  pub there : StandsAt route (path_asked q.target)
  pub on_side : is_shown_to place.side route ≡ true
  pub taken : takes route q.method ≡ true

-- .. and that has a body
pub record IsSent (place : Place) (q : Question) : Type 0 where
  pub route : Route
  pub asked : IsAsked place q route
  pub with_body : has_body route ≡ true

-- what has a body says how long it is, it is not coded, and the key that it has is one
abbrev pub is_bare : Route → Question → Bool
is_bare route q = not (has_body route && q.is_coded) && (not (has_body route && not q.has_length) && not (has_body route && not (is_keyed q.key)))

abbrev pub IsGated : Place → Question → Result Route Refusal → Type 0
IsGated place q (Ok route) = IsAsked place q route × (is_typed route q.content ≡ true) × (is_bare route q ≡ true)
IsGated place q (Err Doubled) = q.is_doubled ≡ true
IsGated place q (Err OtherHost) = (q.is_doubled ≡ false) × (is_own_host place.address (host_asked q.host q.target) ≡ false)
IsGated place q (Err OtherOrigin) = (q.is_doubled ≡ false) × (is_own_host place.address (host_asked q.host q.target) ≡ true) × (is_own_origin place.address (host_asked q.host q.target) q.origin ≡ false)
IsGated place q (Err UnknownMethod) = IsOwn place q × (is_known q.method ≡ false)
IsGated place q (Err NotFound) = IsMeant place q × ((route : Route) → is_shown_to place.side route ≡ true → ¬ StandsAt route (path_asked q.target))
IsGated place q (Err (WrongMethod route)) = IsMeant place q × StandsAt route (path_asked q.target) × (is_first route ≡ true) × (is_shown_to place.side route ≡ true) × (has_method route q.method ≡ false)
IsGated place q (Err NotCsv) = IsSent place q × (is_csv q.content ≡ false)
IsGated place q (Err Coded) = IsSent place q × (is_csv q.content ≡ true) × (q.is_coded ≡ true)
IsGated place q (Err NoLength) = IsSent place q × (is_csv q.content ≡ true) × (q.is_coded ≡ false) × (q.has_length ≡ false)
IsGated place q (Err BadKey) = IsSent place q × (is_csv q.content ≡ true) × (q.is_coded ≡ false) × (q.has_length ≡ true) × (is_keyed q.key ≡ false)
