-- What is written is read again, with the parts that it was written from.
use Rattle.std.proofs.Common.{◌≡◌, ◌<◌, ◌≤◌, ◌+◌, ◌*◌, ◌/◌, ◌%◌, ◌==◌, ◌∙◌, ℕ, nat_lt, Bool, true, false, cond, List, [], ◌∷◌, ◌++◌, length, length-append, Option, Some, None, option_map, Ok, refl, sym, ap, arith, inl, inr}
use Rattle.std.specs.List.{flat_map, AllByRecursion}
use Rattle.std.specs.Option.{IfSome}
use Rattle.std.proofs.lemmas.List.Concat.{flat_map-append}
use Rattle.std.proofs.lemmas.List.Elements.{All-from_recursion}
use Rattle.std.proofs.lemmas.Bool.{le-ltb, le-leb, lt-leb, ne_eqb, cases_Bool}
use Rattle.bx_channels.specs.ChannelNumbers.{IsChannel}
use Rattle.bx_channels.specs.Numbers.{IsNumber}
use Rattle.bx_q931.specs.Items.{plain_item, IsItem, item_octets}
use Rattle.bx_q931.specs.Elements.{is_shift, elements_of}
use Rattle.bx_q931.specs.Passing.{passed}
use Rattle.bx_q931.specs.Kinds.{kind_of, octet_of, IsNamed}
use Rattle.bx_q931.specs.References.{reference_of}
use Rattle.bx_q931.specs.Messages.{message_at}
use Rattle.bx_q931.specs.Values.{first_in, if_there, cause_in, state_in, called_in, channel_in, channel_if_there, is_channel}
use Rattle.bx_q931.specs.Outgoing.{Outgoing, IsOutgoing, cause_contents, state_contents, channel_contents, called_contents, bearer_contents, table_of, optional_item, items_of_table, out_items, out_octets, message_of}
use Rattle.bx_q931.specs.Inside.{optional_octets}
use Rattle.bx_q931.specs.Parts.{HasParts, channel_part}
use Rattle.bx_q931.specs.declared.kind.Kind.{Kind}
use Rattle.bx_q931.specs.declared.kind.Kind.TheVariants.{Alerting, CallProceeding, Progress, Setup, Connect, SetupAcknowledge, ConnectAcknowledge, Disconnect, Release, ReleaseComplete, Notify, StatusEnquiry, Information, Status, Other}
use Rattle.bx_q931.specs.declared.reference.Reference.TheVariants.{Value}
use Rattle.bx_q931.specs.declared.channel_field.ChannelField.TheVariants.{Named}
use Rattle.bx_q931.proofs.PassLemmas.{passed_is}
use Rattle.bx_q931.proofs.ValueLemmas.{number_decides}
use Rattle.bx_q931.proofs.GrammarLemmas.{message_is_read}

-- ---- the header

kind_again : (kind : Kind) → IsNamed kind → kind ≡ kind_of (octet_of kind)
kind_again Alerting h = refl
kind_again CallProceeding h = refl
kind_again Progress h = refl
kind_again Setup h = refl
kind_again Connect h = refl
kind_again SetupAcknowledge h = refl
kind_again ConnectAcknowledge h = refl
kind_again Disconnect h = refl
kind_again Release h = refl
kind_again ReleaseComplete h = refl
kind_again Notify h = refl
kind_again StatusEnquiry h = refl
kind_again Information h = refl
kind_again Status h = refl
kind_again (Other octet) h = absurd h

high_octet : (bit value : ℕ) → bit ≡ 0 → value < 32768 → value ≡ (bit + value / 256) % 128 * 256 + value % 256
high_octet bit value b h = omega arith

high_octet_set : (bit value : ℕ) → bit ≡ 128 → value < 32768 → value ≡ (bit + value / 256) % 128 * 256 + value % 256
high_octet_set bit value b h = omega arith

reference_again : (value : ℕ) (flag : Bool) → value ≤ 32767 → Value value flag ≡ reference_of ((cond flag 0x80 0 + value / 256) ∷ value % 256 ∷ [])
reference_again value true h =
    ap (λ n. Value n true) (high_octet_set 128 value refl (omega arith))
    ∙ ap (λ b. Value ((128 + value / 256) % 128 * 256 + value % 256) b) (sym (le-leb 128 (128 + value / 256) (omega arith)))
reference_again value false h =
    ap (λ n. Value n false) (high_octet 0 value refl (omega arith))
    ∙ ap (λ b. Value ((0 + value / 256) % 128 * 256 + value % 256) b) (sym (lt-leb 128 (0 + value / 256) (omega arith)))

-- ---- the items of a table, none of which is a shift

abbrev IsEntry : ℕ × Option (List ℕ) → Type 0
IsEntry p = (is_shift (plain_item p.0 []) ≡ false) × IfSome p.1 (λ contents. IsItem (plain_item p.0 contents))

items_of : (table : List (ℕ × Option (List ℕ))) → AllByRecursion IsEntry table → AllByRecursion IsItem (items_of_table table)
items_of [] h = tt
items_of ((id, None) ∷ table) h = items_of table h.1
items_of ((id, Some contents) ∷ table) h = (h.0.1, items_of table h.1)

-- the first of a kind in a table
abbrev or_else : Option (List ℕ) → Option (List ℕ) → Option (List ℕ)
or_else None d = d
or_else (Some x) d = Some x

abbrev first_entry : ℕ → List (ℕ × Option (List ℕ)) → Option (List ℕ)
first_entry id [] = None
first_entry id (p ∷ table) = cond (p.0 == id) (or_else p.1 (first_entry id table)) (first_entry id table)

first_passed : (id : ℕ) (table : List (ℕ × Option (List ℕ))) → AllByRecursion IsEntry table → first_in id (passed 0 None (items_of_table table)) ≡ first_entry id table
unfolding first_in passed
first_passed id [] h = refl
first_passed id ((other, None) ∷ table) h = elim (cases_Bool (other == id)) [
  | inl t ↦ rw t (first_passed id table h.1)
  | inr f ↦ rw f (first_passed id table h.1)
]
first_passed id ((other, Some contents) ∷ table) h = elim (cases_Bool (other == id)) [
  | inl t ↦ rw (h.0.0, t) refl
  | inr f ↦ rw (h.0.0, f) (first_passed id table h.1)
]

first_written : (id : ℕ) (table : List (ℕ × Option (List ℕ))) → AllByRecursion IsEntry table → first_in id (elements_of (items_of_table table)) ≡ first_entry id table
first_written id table h = ap (first_in id) (sym (passed_is (items_of_table table))) ∙ first_passed id table h

low : (id : ℕ) → id < 128 → is_shift (plain_item id []) ≡ false → (o : Option (List ℕ)) → IsEntry (id, o)
low id below element None = (element, tt)
low id below element (Some contents) = (element, λ above. absurd (omega (arith, below, above)))

empty : (b : Bool) → IsEntry (0xA1, cond b (Some []) None)
empty true = (refl, λ above. refl)
empty false = (refl, tt)

table_entries : (o : Outgoing) → AllByRecursion IsEntry (table_of o)
table_entries o = (
  empty o.sending_complete,
  (
    low 0x04 (omega arith) refl _,
    (
      low 0x08 (omega arith) refl _,
      (
        low 0x14 (omega arith) refl _,
        (
          low 0x18 (omega arith) refl _,
          (low 0x70 (omega arith) refl _, tt),
        ),
      ),
    ),
  ),
)

-- ---- at most 40 octets

abbrev table_octets : List (ℕ × Option (List ℕ)) → List ℕ
table_octets table = flat_map item_octets (items_of_table table)

table_length : (id : ℕ) (o : Option (List ℕ)) (table : List (ℕ × Option (List ℕ))) → length (table_octets ((id, o) ∷ table)) ≡ length (optional_octets id o) + length (table_octets table)
table_length id o table = ap length (flat_map-append item_octets (optional_item id o) (items_of_table table)) ∙ length-append (optional_octets id o) (table_octets table)

item_length : (id : ℕ) (contents : List ℕ) → length (item_octets (plain_item id contents) ++ []) ≤ 2 + length contents
item_length id contents = elim (cases_Bool (nat_lt id 128)) [
  | inl t ↦ rw t (omega (arith, length-append contents []))
  | inr f ↦ rw f (omega arith)
]

option_length : (id most : ℕ) (o : Option (List ℕ)) → IfSome o (λ contents. length contents ≤ most) → length (optional_octets id o) ≤ 2 + most
option_length id most None h = omega arith
option_length id most (Some contents) h = omega (arith, item_length id contents, h)

empty_length : (b : Bool) → length (optional_octets 0xA1 (cond b (Some []) None)) ≤ 1
empty_length true = omega arith
empty_length false = omega arith

bearer_length : (b : Bool) → IfSome (cond b (Some bearer_contents) None) (λ contents. length contents ≤ 2)
bearer_length true = omega arith
bearer_length false = tt

map_length : {A : Type 0} (f : A → List ℕ) (most : ℕ) → ((a : A) → length (f a) ≤ most) → (o : Option A) → IfSome (option_map f o) (λ contents. length contents ≤ most)
map_length f most h None = tt
map_length f most h (Some a) = h a

called_length : (o : Option (List ℕ)) → IfSome o IsNumber → IfSome (option_map called_contents o) (λ contents. length contents ≤ 16)
called_length None h = tt
called_length (Some digits) h = omega (arith, h.few)

pub few_octets : (o : Outgoing) → IfSome o.called IsNumber → length (out_octets o) ≤ 40
few_octets o h =
    let called : Option (List ℕ) = option_map called_contents o.called in
    let channel : Option (List ℕ) = option_map channel_contents o.channel in
    let state : Option (List ℕ) = option_map state_contents o.state in
    let cause : Option (List ℕ) = option_map cause_contents o.cause in
    let bearer : Option (List ℕ) = cond o.bearer (Some bearer_contents) None in
    omega (
      arith,
      empty_length o.sending_complete,
      option_length 0x04 2 bearer (bearer_length o.bearer),
      option_length 0x08 2 cause (map_length cause_contents 2 (λ c. omega arith) o.cause),
      option_length 0x14 1 state (map_length state_contents 1 (λ c. omega arith) o.state),
      option_length 0x18 3 channel (map_length channel_contents 3 (λ c. omega arith) o.channel),
      option_length 0x70 16 called (called_length o.called h),
      table_length 0xA1 (cond o.sending_complete (Some []) None) ((0x04, bearer) ∷ (0x08, cause) ∷ (0x14, state) ∷ (0x18, channel) ∷ (0x70, called) ∷ []),
      table_length 0x04 bearer ((0x08, cause) ∷ (0x14, state) ∷ (0x18, channel) ∷ (0x70, called) ∷ []),
      table_length 0x08 cause ((0x14, state) ∷ (0x18, channel) ∷ (0x70, called) ∷ []),
      table_length 0x14 state ((0x18, channel) ∷ (0x70, called) ∷ []),
      table_length 0x18 channel ((0x70, called) ∷ []),
      table_length 0x70 called [],
    )

-- ---- what is written is in the grammar

pub written_again : (o : Outgoing) → IsOutgoing o → IfSome o.called IsNumber → message_at (out_octets o) ≡ Ok (message_of o)
written_again o h called =
    let high = cond o.flag 0x80 0 + o.reference / 256 in
    message_is_read (out_octets o) (message_of o) (
      high ∷ o.reference % 256 ∷ [],
      octet_of o.kind,
      record {
        few = omega (arith, few_octets o called);
        short = omega arith;
        spelled = refl;
        each = All-from_recursion IsItem (out_items o) (items_of (table_of o) (table_entries o));
        reference_is = reference_again o.reference o.flag h.reference.1;
        kind_is = kind_again o.kind h.kind;
      },
    )

-- ---- its parts

or_none : (o : Option (List ℕ)) → or_else o None ≡ o
or_none None = refl
or_none (Some x) = refl

cause_again : (cause : Option (ℕ × ℕ)) → IfSome cause (λ c. (c.0 < 16) × (c.1 < 128)) → if_there cause_in (option_map cause_contents cause) ≡ option_map (λ c. c.1) cause
cause_again None h = refl
cause_again (Some (location, value)) h = rw (le-ltb (128 + location) 128 (omega arith)) (ap Some (omega (arith, h.1)))

state_again : (state : Option ℕ) → IfSome state (λ s. s < 64) → if_there state_in (option_map state_contents state) ≡ state
state_again None h = refl
state_again (Some s) h = ap Some (omega (arith, h))

called_again : (called : Option (List ℕ)) → IfSome called IsNumber → if_there called_in (option_map called_contents called) ≡ called
called_again None h = refl
called_again (Some digits) h = rw ((number_decides digits).1 h) refl

channel_number : (n : ℕ) → IsChannel n → is_channel ((128 + n) % 128) ≡ true
channel_number n h =
    let same : (128 + n) % 128 ≡ n = omega (arith, h.1) in
    rw (same, le-leb 1 n h.0, le-leb n 31 h.1, ne_eqb n 16 h.2) refl

numbered_again : (n : ℕ) (exclusive : Bool) → IsChannel n → channel_in (channel_contents (n, exclusive)) ≡ Named n exclusive
numbered_again n true h = rw (channel_number n h) (ap (λ k. Named k true) (omega (arith, h.1)))
numbered_again n false h = rw (channel_number n h) (ap (λ k. Named k false) (omega (arith, h.1)))

channel_again : (channel : Option (ℕ × Bool)) → IfSome channel (λ c. IsChannel c.0) → channel_if_there (option_map channel_contents channel) ≡ channel_part channel
channel_again None h = refl
channel_again (Some (n, exclusive)) h = numbered_again n exclusive h

pub has_parts : (o : Outgoing) → IsOutgoing o → IfSome o.channel (λ c. IsChannel c.0) → IfSome o.called IsNumber → HasParts (message_of o) o
has_parts o h channel called =
    let first = λ (id : ℕ). first_written id (table_of o) (table_entries o) in
    record {
      reference = refl;
      kind = refl;
      sending_complete = first 0xA1 ∙ or_none (cond o.sending_complete (Some []) None);
      bearer = first 0x04 ∙ or_none (cond o.bearer (Some bearer_contents) None);
      cause = ap (if_there cause_in) (first 0x08 ∙ or_none (option_map cause_contents o.cause)) ∙ cause_again o.cause h.cause;
      state = ap (if_there state_in) (first 0x14 ∙ or_none (option_map state_contents o.state)) ∙ state_again o.state h.state;
      channel = ap channel_if_there (first 0x18 ∙ or_none (option_map channel_contents o.channel)) ∙ channel_again o.channel channel;
      called = ap (if_there called_in) (first 0x70 ∙ or_none (option_map called_contents o.called)) ∙ called_again o.called called;
    }
