-- Private: how the answers begin to what is not let through, and to what is no request.
use Rattle.std.specs.Prelude.{◌∷◌, [], ◌==◌, ◌+◌, ◌&&◌, ◌||◌, nat_le, not, if◌then◌else◌, ℕ, Bool, true, false, List, take, drop, codes}
use Rattle.std.specs.Str.{bytes_eq}
use Rattle.std.specs.List.{prefix_len}
use Rattle.httparse.specs.declared.Error.TheVariants as Parser
use Rattle.http1.specs.declared.error.ReadError.{ReadError}
use Rattle.http1.specs.declared.error.ReadError.TheVariants as Read
use Rattle.bx_office.specs.declared.gate.Refusal.{Refusal}
use Rattle.bx_office.specs.declared.gate.Refusal.TheVariants.{Doubled, OtherHost, OtherOrigin, UnknownMethod, NotFound, WrongMethod, NotCsv, Coded, NoLength, BadKey}
use Rattle.bx_office.specs.declared.gate.Route.{Route}
use Rattle.bx_office.specs.declared.gate.Route.TheVariants.{Bookings, Office, Cancel, Change}
use Rattle.bx_office.specs.declared.reply.Status.{Status}
use Rattle.bx_office.specs.declared.reply.Status.TheVariants as Statuses
use Rattle.bx_office.specs.declared.reply.Allowed.{Allowed}
use Rattle.bx_office.specs.declared.reply.Allowed.TheVariants as Methods

abbrev pub refusal_status : Refusal → Status
refusal_status Doubled = Statuses.BadRequest
refusal_status OtherHost = Statuses.Forbidden
refusal_status OtherOrigin = Statuses.Forbidden
refusal_status UnknownMethod = Statuses.NotImplemented
refusal_status NotFound = Statuses.NotFound
refusal_status (WrongMethod route) = Statuses.MethodNotAllowed
refusal_status NotCsv = Statuses.UnsupportedMediaType
refusal_status Coded = Statuses.UnsupportedMediaType
refusal_status NoLength = Statuses.LengthRequired
refusal_status BadKey = Statuses.BadRequest

-- an answer that a method is another says which ones there are (RFC 9110, section 15.5.6), and one that a body is coded how it may be (15.5.16)
abbrev pub methods_of : Route → Allowed
methods_of Bookings = Methods.Post
methods_of Office = Methods.Options
methods_of (Cancel row) = Methods.Change
methods_of (Change row) = Methods.Change
methods_of _ = Methods.Get

abbrev pub refusal_allowed : Refusal → Allowed
refusal_allowed (WrongMethod route) = methods_of route
refusal_allowed Coded = Methods.Uncoded
refusal_allowed _ = Methods.Unsaid

-- ---- what is no request

abbrev pub word_len : List ℕ → ℕ
word_len text = prefix_len (λ c. not (c == 32)) text

abbrev pub past_space : List ℕ → List ℕ
past_space text = drop (word_len text + 1) text

abbrev pub begins_with_digit : List ℕ → Bool
begins_with_digit [] = false
begins_with_digit (c ∷ more) = nat_le 48 c && nat_le c 57

abbrev pub is_version : List ℕ → Bool
is_version text = bytes_eq (take 5 text) (codes "HTTP/") && begins_with_digit (drop 5 text)

-- the first line names a version of HTTP, after its method and its target
abbrev pub names_version : List ℕ → Bool
names_version input = is_version (past_space (past_space input))

abbrev pub is_blank : List ℕ → Bool
is_blank [] = true
is_blank (c ∷ more) = ((c == 13) || (c == 10)) && is_blank more

-- a version that is not read here is 505 (RFC 9110, section 15.6.6); a head past a limit is 414 or 431 (15.5.15, and RFC 6585, section 5)
abbrev pub fault_status : ReadError → List ℕ → Status
fault_status Read.UriTooLong input = if is_blank input then Statuses.BadRequest else Statuses.UriTooLong
fault_status Read.TooLarge input = Statuses.HeadTooLarge
fault_status (Read.Parse Parser.TooManyHeaders) input = Statuses.HeadTooLarge
fault_status (Read.Parse Parser.Version) input = if names_version input then Statuses.OtherVersion else Statuses.BadRequest
fault_status _ input = Statuses.BadRequest
