-- What is answered before the day begins.
use Rattle.std.specs.Prelude.{◌≡◌, ℕ, Bool, true, false, List, codes, Option, Some, None}
use Rattle.bx_office.specs.Pages.{is_page, allowed_at}
use Rattle.bx_office.specs.Targets.{text_of}
use Rattle.bx_office.specs.declared.early.Eve.{Eve}
use Rattle.bx_office.specs.declared.gate.Route.{Route}
use Rattle.bx_office.specs.declared.gate.Route.TheVariants.{Health, Metrics}
use Rattle.bx_office.specs.declared.reply.Allowed.TheVariants as methods
use Rattle.bx_office.specs.declared.reply.Kind.{Kind}
use Rattle.bx_office.specs.declared.reply.Kind.TheVariants as kinds
use Rattle.bx_office.specs.declared.reply.Reply.{Reply}
use Rattle.bx_office.specs.declared.reply.Status.TheVariants as statuses

-- no second was late yet, and no channel is in maintenance
abbrev pub early_health : Bool → List ℕ
early_health true = codes "not begun\nlink up\nlate seconds 0\nchannels in maintenance 0\n"
early_health false = codes "not begun\nlink none\nlate seconds 0\nchannels in maintenance 0\n"

-- just this text is answered
pub record IsToldEarly (kind : Kind) (text : List ℕ) (reply : Reply) : Type 0 where
  pub status : reply.status ≡ statuses.Fine
  pub kind_is : reply.kind ≡ kind
  pub allowed : reply.allowed ≡ methods.Unsaid
  pub body : reply.body.now ≡ text

-- nothing is answered until then, which is in so many seconds
pub record IsPutOff (wait : ℕ) (reply : Reply) : Type 0 where
  pub status : reply.status ≡ statuses.Unavailable
  pub kind_is : reply.kind ≡ kinds.Text
  pub again : reply.allowed ≡ methods.After wait
  pub body : reply.body.now ≡ codes "the day has not begun\n"

abbrev pub AreToldEarly : Option (List ℕ) → ℕ → Reply → Type 0
AreToldEarly (Some figures) wait reply = IsToldEarly kinds.Metrics figures reply
AreToldEarly None wait reply = IsPutOff wait reply

-- how the day stands is told, and its figures; all else is put off
abbrev pub IsEarlyReply : Route → Eve → Reply → Type 0
IsEarlyReply Health eve reply = IsToldEarly kinds.Text (early_health eve.is_heard) reply
IsEarlyReply Metrics eve reply = AreToldEarly (text_of eve.figures) eve.wait reply
IsEarlyReply _ eve reply = IsPutOff eve.wait reply

abbrev pub IsPageReply : Route → Reply → Type 0
IsPageReply route reply = (reply.status ≡ statuses.Fine) × (reply.allowed ≡ allowed_at route)

abbrev pub IsReplyBefore : Bool → Route → Eve → Reply → Type 0
IsReplyBefore true route eve reply = IsPageReply route reply
IsReplyBefore false route eve reply = IsEarlyReply route eve reply

-- a page is answered whatever the day is, and all else at once before the day begins
abbrev pub IsAtOnce : Route → Option Eve → Option Reply → Type 0
IsAtOnce route None None = is_page route ≡ false
IsAtOnce route (Some eve) None = ⊥
IsAtOnce route None (Some reply) = (is_page route ≡ true) × IsPageReply route reply
IsAtOnce route (Some eve) (Some reply) = IsReplyBefore (is_page route) route eve reply
