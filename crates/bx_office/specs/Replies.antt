-- What an answer is as octets.
use Rattle.std.specs.Prelude.{ℕ, Bool, true, false, List, [], ◌∷◌, ◌++◌, length, codes, decimal, if◌then◌else◌}
use Rattle.httpdate.specs.Date.{date_text}
use Rattle.httpdate.specs.declared.date.HttpDate.{HttpDate}
use Rattle.http1.specs.declared.conn.BodySize.TheVariants.{Known}
use Rattle.http1.specs.declared.server.Server.{Server}
use Rattle.http1.specs.Conn.{data_text, after_data, finish_text}
use Rattle.http1.specs.Fields.{Header}
use Rattle.http1.specs.Server.{writing, with_writing, planned_response, after_response}
use Rattle.bx_office.specs.declared.reply.Status.{Status}
use Rattle.bx_office.specs.declared.reply.Status.TheVariants as Statuses
use Rattle.bx_office.specs.declared.reply.Kind.{Kind}
use Rattle.bx_office.specs.declared.reply.Kind.TheVariants as Kinds
use Rattle.bx_office.specs.declared.reply.Allowed.{Allowed}
use Rattle.bx_office.specs.declared.reply.Allowed.TheVariants as Methods
use Rattle.bx_office.specs.declared.reply.Reply.{Reply}

abbrev pub code_of : Status → ℕ
code_of Statuses.Fine = 200
code_of Statuses.BadRequest = 400
code_of Statuses.Forbidden = 403
code_of Statuses.NotFound = 404
code_of Statuses.MethodNotAllowed = 405
code_of Statuses.RequestTimeout = 408
code_of Statuses.Conflict = 409
code_of Statuses.LengthRequired = 411
code_of Statuses.ContentTooLarge = 413
code_of Statuses.UriTooLong = 414
code_of Statuses.UnsupportedMediaType = 415
code_of Statuses.Unprocessable = 422
code_of Statuses.HeadTooLarge = 431
code_of Statuses.NotImplemented = 501
code_of Statuses.Unavailable = 503
code_of Statuses.OtherVersion = 505

abbrev pub reason_phrase_of : Status → List ℕ
reason_phrase_of Statuses.Fine = codes "OK"
reason_phrase_of Statuses.BadRequest = codes "Bad Request"
reason_phrase_of Statuses.Forbidden = codes "Forbidden"
reason_phrase_of Statuses.NotFound = codes "Not Found"
reason_phrase_of Statuses.MethodNotAllowed = codes "Method Not Allowed"
reason_phrase_of Statuses.RequestTimeout = codes "Request Timeout"
reason_phrase_of Statuses.Conflict = codes "Conflict"
reason_phrase_of Statuses.LengthRequired = codes "Length Required"
reason_phrase_of Statuses.ContentTooLarge = codes "Content Too Large"
reason_phrase_of Statuses.UriTooLong = codes "URI Too Long"
reason_phrase_of Statuses.UnsupportedMediaType = codes "Unsupported Media Type"
reason_phrase_of Statuses.Unprocessable = codes "Unprocessable Content"
reason_phrase_of Statuses.HeadTooLarge = codes "Request Header Fields Too Large"
reason_phrase_of Statuses.NotImplemented = codes "Not Implemented"
reason_phrase_of Statuses.Unavailable = codes "Service Unavailable"
reason_phrase_of Statuses.OtherVersion = codes "HTTP Version Not Supported"

abbrev pub type_of : Kind → List ℕ
type_of Kinds.Text = codes "text/plain; charset=utf-8"
type_of Kinds.Csv = codes "text/csv; charset=utf-8"
type_of Kinds.Html = codes "text/html; charset=utf-8"
type_of Kinds.Script = codes "text/javascript; charset=utf-8"
type_of Kinds.Style = codes "text/css; charset=utf-8"
type_of Kinds.Picture = codes "image/svg+xml"
type_of Kinds.Metrics = codes "application/openmetrics-text; version=1.0.0; charset=utf-8"

-- nothing is loaded from elsewhere, and no page of another origin shows it
abbrev pub page_policy : List ℕ
page_policy = codes "default-src 'none'; script-src 'self'; style-src 'self'; img-src 'self'; connect-src 'self'; base-uri 'none'; form-action 'none'; frame-ancestors 'none'"

-- a picture has its own two styles, each by its SHA-256 (CSP 3, section 2.3.1), and loads nothing at all
abbrev pub picture_policy : List ℕ
picture_policy = codes "default-src 'none'; style-src 'sha256-M/jgx+JukTEih3X3OsOlDO/XRUPJp63hsSRE2E/jUv4=' 'sha256-HKscL3gRVMMmN6Wrq5ISygC6aNvyh6qLUrjz3SceGcQ='; base-uri 'none'; form-action 'none'; frame-ancestors 'none'"

abbrev pub reply_policy : Kind → List ℕ
reply_policy Kinds.Picture = picture_policy
reply_policy _ = page_policy

abbrev pub allowed_of : Allowed → Header
allowed_of Methods.Unsaid = (codes "vary", codes "origin")
allowed_of Methods.Post = (codes "allow", codes "POST")
allowed_of Methods.Get = (codes "allow", codes "GET, HEAD")
allowed_of Methods.Options = (codes "allow", codes "OPTIONS")
allowed_of Methods.Change = (codes "allow", codes "DELETE, PUT")
allowed_of Methods.All = (codes "allow", codes "GET, HEAD, POST, PUT, DELETE, OPTIONS")
allowed_of Methods.Uncoded = (codes "accept-encoding", codes "identity")
allowed_of (Methods.After seconds) = (codes "vary", codes "origin")

-- in how many seconds to ask again
abbrev pub wait_of : Allowed → ℕ
wait_of (Methods.After seconds) = seconds
wait_of _ = 1

-- what is allowed; or when to ask again, where there is no answer now (RFC 9110, section 10.2.3)
abbrev pub advice_of : Status → Allowed → Header
advice_of Statuses.Unavailable allowed = (codes "retry-after", decimal (wait_of allowed))
advice_of _ allowed = allowed_of allowed

abbrev pub header_fields_of : HttpDate → Reply → Bool → List Header
header_fields_of date reply is_last = (codes "date", date_text date) ∷ (codes "content-type", type_of reply.kind) ∷ (codes "cache-control", codes "no-store") ∷ (codes "x-content-type-options", codes "nosniff")
    ∷ (codes "cross-origin-resource-policy", codes "same-origin") ∷ (codes "content-security-policy", reply_policy reply.kind) ∷ advice_of reply.status reply.allowed
    ∷ (if is_last then (codes "connection", codes "close") ∷ [] else [])

-- the head of an answer, and the connection after it
abbrev pub head_text : Server → HttpDate → Reply → Bool → List ℕ
head_text s date reply is_last = planned_response s (code_of reply.status) (reason_phrase_of reply.status) (Known (length reply.body.now)) (header_fields_of date reply is_last)

abbrev pub after_head : Server → HttpDate → Reply → Bool → Server
after_head s date reply is_last = after_response s (code_of reply.status) (Known (length reply.body.now)) (header_fields_of date reply is_last)

-- its body: one to `HEAD` has none
abbrev pub body_text : Bool → Server → List ℕ → List ℕ
body_text true s body = []
body_text false s body = data_text (writing s) body

abbrev pub after_body : Bool → Server → List ℕ → Server
after_body true s body = s
after_body false s body = with_writing s (after_data (writing s) (length body))

-- the octets of an answer, written at this date: to `HEAD` or not, and the last of the connection or not
abbrev pub reply_text : Server → HttpDate → Bool → Reply → Bool → List ℕ
reply_text s date is_head reply is_last = head_text s date reply is_last ++ body_text is_head (after_head s date reply is_last) reply.body.now
    ++ finish_text (writing (after_body is_head (after_head s date reply is_last) reply.body.now)) []
