-- The two laws of the plan text: what is read is spelled so, and what is spelled so is read.
use Rattle.std.proofs.Common.{◌≡◌, ℕ, ◌+◌, ◌^◌, ◌<◌, ◌≤◌, lit<, Bool, List, [], ◌∷◌, ◌++◌, map, length, Option, Result, Ok, Err, refl, sym, ap, ◌∙◌, arith, subst}
use Rattle.std.specs.Prelude.{codes, decimal, IfOk}
use Rattle.std.specs.List.{flat_map}
use Rattle.std.proofs.lemmas.Grind.{flat_map-append}
use Rattle.bx_base.specs.Channels.{IsChannelSet}
use Rattle.bx_base.specs.Bookings.{Row}
use Rattle.bx_base.specs.Bound.{Charge, IsCharge, price_at}
use Rattle.bx_base.specs.PlanParts.{Parts, IsPlan, parts_of}
use Rattle.bx_base.specs.declared.plan.Plan.{Plan}
use Rattle.bx_planfile.specs.declared.version.Version.{Version}
use Rattle.bx_planfile.specs.declared.fault.PlanTextFault.{PlanTextFault}
use Rattle.bx_planfile.specs.declared.fault.PlanTextFault.TheVariants.{BadLine, OutOfLimits}
use Rattle.bx_text.specs.Lines.{line_text, members_from, named}
use Rattle.bx_planfile.specs.Text.{version_field, price_fields, booking_lines, plan_text, HasText, IsTextOf}
use Rattle.bx_planfile.specs.Forms.{header_form, channels_form, channel_set}
use Rattle.bx_planfile.specs.Reading.{◌>>=◌, Gives, or_fault, entries, Head, head_of, read_head, read_line, read_header, read_channels, read_count, read_total, read_end, read_bookings, read_prices, read_tail, read_all}
use Rattle.bx_planfile.proofs.PlainLines.{line_again, line_takes}
use Rattle.bx_planfile.proofs.ChannelSets.{set_is_listed, listed_gives}
use Rattle.bx_planfile.proofs.LineForms.{header_takes, header_again, channels_take, channels_again}
use Rattle.bx_planfile.proofs.LineLaws.{bind_ok, count_again, count_takes, ends_again, ends_so, ok_is, or_ok, plain_decimals, plain_named, plain_version, total_again, total_takes}
use Rattle.bx_planfile.proofs.ListLaws.{bookings_again, bookings_take, prices_again, prices_take}

-- ---- from the prices to the end

abbrev pub tail_lines : List Charge → ℕ → List (List (List ℕ))
tail_lines prices total = named (codes "prices") (length prices) ∷ (map price_fields prices ++ (named (codes "total") total ∷ (codes "end" ∷ []) ∷ []))

pub record ReadsTail (bytes : List ℕ) (x : List Charge × ℕ) : Type 0 where
  pub spelled : bytes ≡ flat_map line_text (tail_lines x.0 x.1)
  pub few : length x.0 ≤ 32000
  pub prices : (i : ℕ) → i < length x.0 → IsCharge (price_at x.0 i)
  pub total : x.1 ≤ 16000000000000

-- the text of the tail, line for line
tail_text : (prices : List Charge) (total : ℕ) → flat_map line_text (tail_lines prices total)
    ≡ line_text (named (codes "prices") (length prices)) ++ (flat_map line_text (map price_fields prices) ++ (line_text (named (codes "total") total) ++ (line_text (codes "end" ∷ []) ++ [])))
tail_text prices total = ap (λ (r : List ℕ). line_text (named (codes "prices") (length prices)) ++ r) (flat_map-append line_text (map price_fields prices) (named (codes "total") total ∷ (codes "end" ∷ []) ∷ []))

module _ (n count total : ℕ) (bytes r1 r2 r3 r4 rest : List ℕ) (f1 f2 f3 : List (List ℕ)) (prices : List Charge) where
  tail_from : read_line n bytes ≡ Ok (f1, r1) → read_count (codes "prices") 32000 n f1 ≡ Ok count → read_prices count (n + 1) r1 ≡ Ok (prices, r2)
      → read_line (n + 1 + count) r2 ≡ Ok (f2, r3) → read_total (n + 1 + count) f2 ≡ Ok total → read_line (n + 2 + count) r3 ≡ Ok (f3, r4) → read_end (n + 2 + count) f3 r4 ≡ Ok rest
      → ReadsTail bytes (prices, total)
  tail_from line1 count1 prices1 line2 total1 line3 end1 =
      let counted = count_takes (codes "prices") 32000 n f1 count (lit< tt) count1 in
      let listed = prices_take count (n + 1) r1 (prices, r2) prices1 in
      let totalled = total_takes (n + 1 + count) f2 total total1 in
      let ended = ends_so (n + 2 + count) f3 r4 rest end1 in
      let last_line : r3 ≡ line_text (codes "end" ∷ []) ++ [] = line_takes (n + 2 + count) r3 (f3, r4) line3 ∙ rw (ended.0, ended.1) refl in
      let total_line : r2 ≡ line_text (named (codes "total") total) ++ (line_text (codes "end" ∷ []) ++ []) = line_takes (n + 1 + count) r2 (f2, r3) line2 ∙ rw (totalled.0, last_line) refl in
      let price_text : r1 ≡ flat_map line_text (map price_fields prices) ++ (line_text (named (codes "total") total) ++ (line_text (codes "end" ∷ []) ++ [])) = listed.spelled ∙ rw total_line refl in
      let count_line : bytes ≡ line_text (named (codes "prices") (length prices)) ++ r1 = line_takes n bytes (f1, r1) line1 ∙ rw (counted.0, listed.len) refl in
      let whole : bytes ≡ flat_map line_text (tail_lines prices total) = count_line ∙ ap (λ (r : List ℕ). line_text (named (codes "prices") (length prices)) ++ r) price_text ∙ sym (tail_text prices total) in
      let few : length prices ≤ 32000 = rw listed.len counted.1 in
      record { spelled = whole; few = few; prices = listed.prices; total = totalled.1 }

tail_takes : (n : ℕ) (bytes : List ℕ) (x : List Charge × ℕ) → read_tail n bytes ≡ Ok x → ReadsTail bytes x
unfolding read_tail
tail_takes n bytes x e =
    let a = bind_ok (read_line n bytes) (λ line. read_count (codes "prices") 32000 n line.0 >>= λ count. read_prices count (n + 1) line.1 >>= λ prices. read_line (n + 1 + count) prices.1 >>= λ last. read_total (n + 1 + count) last.0 >>= λ total. read_line (n + 2 + count) last.1 >>= λ ending. read_end (n + 2 + count) ending.0 ending.1 >>= λ rest. Ok (prices.0, total)) x e in
    let b = bind_ok (read_count (codes "prices") 32000 n a.0.0) (λ count. read_prices count (n + 1) a.0.1 >>= λ prices. read_line (n + 1 + count) prices.1 >>= λ last. read_total (n + 1 + count) last.0 >>= λ total. read_line (n + 2 + count) last.1 >>= λ ending. read_end (n + 2 + count) ending.0 ending.1 >>= λ rest. Ok (prices.0, total)) x a.2 in
    let c = bind_ok (read_prices b.0 (n + 1) a.0.1) (λ prices. read_line (n + 1 + b.0) prices.1 >>= λ last. read_total (n + 1 + b.0) last.0 >>= λ total. read_line (n + 2 + b.0) last.1 >>= λ ending. read_end (n + 2 + b.0) ending.0 ending.1 >>= λ rest. Ok (prices.0, total)) x b.2 in
    let d = bind_ok (read_line (n + 1 + b.0) c.0.1) (λ last. read_total (n + 1 + b.0) last.0 >>= λ total. read_line (n + 2 + b.0) last.1 >>= λ ending. read_end (n + 2 + b.0) ending.0 ending.1 >>= λ rest. Ok (c.0.0, total)) x c.2 in
    let f = bind_ok (read_total (n + 1 + b.0) d.0.0) (λ total. read_line (n + 2 + b.0) d.0.1 >>= λ ending. read_end (n + 2 + b.0) ending.0 ending.1 >>= λ rest. Ok (c.0.0, total)) x d.2 in
    let g = bind_ok (read_line (n + 2 + b.0) d.0.1) (λ ending. read_end (n + 2 + b.0) ending.0 ending.1 >>= λ rest. Ok (c.0.0, f.0)) x f.2 in
    let h = bind_ok (read_end (n + 2 + b.0) g.0.0 g.0.1) (λ rest. Ok (c.0.0, f.0)) x g.2 in
    subst (λ (y : List Charge × ℕ). ReadsTail bytes y) {x = (c.0.0, f.0)} (cc h.2)
    (tail_from n b.0 f.0 bytes a.0.1 c.0.1 d.0.1 g.0.1 h.0 a.0.0 d.0.0 g.0.0 c.0.0 a.1 b.1 c.1 d.1 f.1 g.1 h.1)

tail_again : (n : ℕ) (prices : List Charge) (total : ℕ) → length prices ≤ 32000 → ((i : ℕ) → i < length prices → IsCharge (price_at prices i)) → total ≤ 16000000000000
    → read_tail n (flat_map line_text (tail_lines prices total)) ≡ Ok (prices, total)
unfolding read_tail
tail_again n prices total few limits le =
    let count = length prices in
    let end_line = line_text (codes "end" ∷ []) ++ [] in
    let following = line_text (named (codes "total") total) ++ end_line in
    let listed = flat_map line_text (map price_fields prices) ++ following in
    let first = line_again n (codes "prices") (decimal count ∷ []) listed (plain_named (codes "prices") count refl (omega arith)) in
    let last = line_again (n + 1 + count) (codes "total") (decimal total ∷ []) end_line (plain_named (codes "total") total refl (omega arith)) in
    let ending = line_again (n + 2 + count) (codes "end") [] [] refl in
    ap (read_tail n) (tail_text prices total)
    ∙ rw (first, count_again (codes "prices") 32000 n count (lit< tt) few, prices_again prices (n + 1) following limits, last, total_again (n + 1 + count) total le, ending, ends_again (n + 2 + count)) refl

-- ---- all lines

pub record ReadsAll (bytes : List ℕ) (parts : Parts) : Type 0 where
  pub version : Version
  pub plan : IsPlan parts
  pub told : HasText version parts
  pub spelled : bytes ≡ plan_text version parts

-- the text of a plan, line for line
whole_text : (version : Version) (parts : Parts) → plan_text version parts
    ≡ line_text (codes "bx-plan" ∷ version_field version ∷ []) ++ (line_text (codes "channels" ∷ map decimal (members_from 0 parts.channels)) ++ (line_text (named (codes "bookings") (length parts.rows))
    ++ (flat_map line_text (booking_lines version parts.rows parts.assigned) ++ flat_map line_text (tail_lines parts.prices parts.total))))
whole_text version parts =
    ap (λ (r : List ℕ). line_text (codes "bx-plan" ∷ version_field version ∷ []) ++ (line_text (codes "channels" ∷ map decimal (members_from 0 parts.channels)) ++ (line_text (named (codes "bookings") (length parts.rows)) ++ r)))
    (flat_map-append line_text (booking_lines version parts.rows parts.assigned) (tail_lines parts.prices parts.total))

header_line : (n : ℕ) (fs : List (List ℕ)) (version : Version) → read_header n fs ≡ Ok version → fs ≡ codes "bx-plan" ∷ version_field version ∷ []
unfolding read_header
header_line n fs version e = header_takes fs version (or_ok (BadLine n) (header_form fs) version e)

header_line_again : (n : ℕ) (version : Version) → read_header n (codes "bx-plan" ∷ version_field version ∷ []) ≡ Ok version
unfolding read_header
header_line_again n version = ap (or_fault (BadLine n)) (header_again version)

channels_line : (n : ℕ) (fs : List (List ℕ)) (bs : List Bool) → read_channels n fs ≡ Ok bs → (fs ≡ codes "channels" ∷ map decimal (members_from 0 bs)) × IsChannelSet bs
unfolding read_channels
channels_line n fs bs e =
    let a = bind_ok (or_fault (BadLine n) (channels_form fs)) (λ numbers. or_fault (OutOfLimits n) (channel_set numbers)) bs e in
    channels_take fs a.0 bs (or_ok (BadLine n) (channels_form fs) a.0 a.1) (or_ok (OutOfLimits n) (channel_set a.0) bs a.2)

channels_line_again : (n : ℕ) (bs : List Bool) → IsChannelSet bs → read_channels n (codes "channels" ∷ map decimal (members_from 0 bs)) ≡ Ok bs
unfolding read_channels
channels_line_again n bs h = let again = channels_again bs h in rw (again.0, again.1) refl

-- what stands before the bookings
record ReadsHead (bytes : List ℕ) (x : Head) : Type 0 where
  spelled : bytes ≡ line_text (codes "bx-plan" ∷ version_field x.version ∷ []) ++ (line_text (codes "channels" ∷ map decimal (members_from 0 x.channels)) ++ (line_text (named (codes "bookings") x.count) ++ x.rest))
  channels : IsChannelSet x.channels
  few : x.count ≤ 16000

module _ (version : Version) (count : ℕ) (bytes r1 r2 r3 : List ℕ) (f1 f2 f3 : List (List ℕ)) (channels : List Bool) where
  head_from : read_line 1 bytes ≡ Ok (f1, r1) → read_header 1 f1 ≡ Ok version → read_line 2 r1 ≡ Ok (f2, r2) → read_channels 2 f2 ≡ Ok channels → read_line 3 r2 ≡ Ok (f3, r3)
      → read_count (codes "bookings") 16000 3 f3 ≡ Ok count → ReadsHead bytes (head_of version channels count r3)
  head_from line1 header line2 set line3 counted1 =
      let head = header_line 1 f1 version header in
      let channelled = channels_line 2 f2 channels set in
      let counted = count_takes (codes "bookings") 16000 3 f3 count (lit< tt) counted1 in
      let third : r2 ≡ line_text (named (codes "bookings") count) ++ r3 = line_takes 3 r2 (f3, r3) line3 ∙ ap (λ (fs : List (List ℕ)). line_text fs ++ r3) counted.0 in
      let second : r1 ≡ line_text (codes "channels" ∷ map decimal (members_from 0 channels)) ++ r2 = line_takes 2 r1 (f2, r2) line2 ∙ ap (λ (fs : List (List ℕ)). line_text fs ++ r2) channelled.0 in
      let first : bytes ≡ line_text (codes "bx-plan" ∷ version_field version ∷ []) ++ r1 = line_takes 1 bytes (f1, r1) line1 ∙ ap (λ (fs : List (List ℕ)). line_text fs ++ r1) head in
      record { spelled = first ∙ rw (second, third) refl; channels = channelled.1; few = counted.1 }

head_takes : (bytes : List ℕ) (x : Head) → read_head bytes ≡ Ok x → ReadsHead bytes x
unfolding read_head
head_takes bytes x e =
    let a = bind_ok (read_line 1 bytes) (λ first. read_header 1 first.0 >>= λ version. read_line 2 first.1 >>= λ second. read_channels 2 second.0 >>= λ channels. read_line 3 second.1 >>= λ third. read_count (codes "bookings") 16000 3 third.0 >>= λ count. Ok (head_of version channels count third.1)) x e in
    let b = bind_ok (read_header 1 a.0.0) (λ version. read_line 2 a.0.1 >>= λ second. read_channels 2 second.0 >>= λ channels. read_line 3 second.1 >>= λ third. read_count (codes "bookings") 16000 3 third.0 >>= λ count. Ok (head_of version channels count third.1)) x a.2 in
    let c = bind_ok (read_line 2 a.0.1) (λ second. read_channels 2 second.0 >>= λ channels. read_line 3 second.1 >>= λ third. read_count (codes "bookings") 16000 3 third.0 >>= λ count. Ok (head_of b.0 channels count third.1)) x b.2 in
    let d = bind_ok (read_channels 2 c.0.0) (λ channels. read_line 3 c.0.1 >>= λ third. read_count (codes "bookings") 16000 3 third.0 >>= λ count. Ok (head_of b.0 channels count third.1)) x c.2 in
    let f = bind_ok (read_line 3 c.0.1) (λ third. read_count (codes "bookings") 16000 3 third.0 >>= λ count. Ok (head_of b.0 d.0 count third.1)) x d.2 in
    let g = bind_ok (read_count (codes "bookings") 16000 3 f.0.0) (λ count. Ok (head_of b.0 d.0 count f.0.1)) x f.2 in
    subst (λ (y : Head). ReadsHead bytes y) {x = head_of b.0 d.0 g.0 f.0.1} (cc g.2)
    (head_from b.0 g.0 bytes a.0.1 c.0.1 f.0.1 a.0.0 c.0.0 f.0.0 d.0 a.1 b.1 c.1 d.1 f.1 g.1)

module _ (bytes rest : List ℕ) (head : Head) (rows : List Row) (assigned : List (Option ℕ)) (prices : List Charge) (total : ℕ) where
  plan_from : read_head bytes ≡ Ok head → read_bookings head.version head.count 4 head.rest ≡ Ok (entries rows assigned rest) → read_tail (4 + head.count) rest ≡ Ok (prices, total)
      → ReadsAll bytes (record { rows = rows; channels = head.channels; assigned = assigned; prices = prices; total = total })
  plan_from head1 listed1 tail1 =
      let parts : Parts = record { rows = rows; channels = head.channels; assigned = assigned; prices = prices; total = total } in
      let prefix = head_takes bytes head head1 in
      let listed = bookings_take head.version head.count 4 head.rest (entries rows assigned rest) listed1 in
      let tail = tail_takes (4 + head.count) rest (prices, total) tail1 in
      let following : head.rest ≡ flat_map line_text (booking_lines head.version rows assigned) ++ flat_map line_text (tail_lines prices total) = listed.spelled ∙ ap (λ (r : List ℕ). flat_map line_text (booking_lines head.version rows assigned) ++ r) tail.spelled in
      let few : length rows ≤ 16000 = rw listed.rows prefix.few in
      let counted : head.count ≡ length rows = sym listed.rows in
      record {
        version = head.version;
        plan = record {
          rows = record { few = few; each = listed.bookings };
          channels = prefix.channels;
          one_each = listed.assigned ∙ sym listed.rows;
          assigned = listed.channels;
          few_prices = tail.few;
          prices = tail.prices;
          total = tail.total;
        };
        told = listed.told;
        spelled = prefix.spelled ∙ rw (following, counted) (sym (whole_text head.version parts));
      }

all_takes : (bytes : List ℕ) (x : Parts) → read_all bytes ≡ Ok x → ReadsAll bytes x
unfolding read_all
all_takes bytes x e =
    let a = bind_ok (read_head bytes) (λ head. read_bookings head.version head.count 4 head.rest >>= λ entries. read_tail (4 + head.count) entries.rest >>= λ tail. Ok (record { rows = entries.rows; channels = head.channels; assigned = entries.assigned; prices = tail.0; total = tail.1 })) x e in
    let b = bind_ok (read_bookings a.0.version a.0.count 4 a.0.rest) (λ entries. read_tail (4 + a.0.count) entries.rest >>= λ tail. Ok (record { rows = entries.rows; channels = a.0.channels; assigned = entries.assigned; prices = tail.0; total = tail.1 })) x a.2 in
    let c = bind_ok (read_tail (4 + a.0.count) b.0.rest) (λ tail. Ok (record { rows = b.0.rows; channels = a.0.channels; assigned = b.0.assigned; prices = tail.0; total = tail.1 })) x b.2 in
    subst (λ (y : Parts). ReadsAll bytes y) {x = record { rows = b.0.rows; channels = a.0.channels; assigned = b.0.assigned; prices = c.0.0; total = c.0.1 }} (cc c.2)
    (plan_from bytes b.0.rest a.0 b.0.rows b.0.assigned c.0.0 c.0.1 a.1 b.1 c.1)

pub all_again : (version : Version) (parts : Parts) → IsPlan parts → HasText version parts → read_all (plan_text version parts) ≡ Ok parts
unfolding read_all read_head
all_again version parts plan told =
    let count = length parts.rows in
    let tail = flat_map line_text (tail_lines parts.prices parts.total) in
    let listed = flat_map line_text (booking_lines version parts.rows parts.assigned) ++ tail in
    let third = line_text (named (codes "bookings") count) ++ listed in
    let numbers = members_from 0 parts.channels in
    let second = line_text (codes "channels" ∷ map decimal numbers) ++ third in
    let small = (set_is_listed numbers parts.channels (listed_gives parts.channels plan.channels)).small in
    let few : count < 2 ^ 64 = omega (arith, plan.rows.few) in
    let line1 = line_again 1 (codes "bx-plan") (version_field version ∷ []) second (plain_version version) in
    let line2 = line_again 2 (codes "channels") (map decimal numbers) third (plain_decimals numbers small) in
    let line3 = line_again 3 (codes "bookings") (decimal count ∷ []) listed (plain_named (codes "bookings") count refl few) in
    let rows = bookings_again version parts.rows parts.assigned 4 tail plan.one_each plan.rows.each told plan.assigned in
    let rest = tail_again (4 + count) parts.prices parts.total plan.few_prices plan.prices plan.total in
    ap read_all (whole_text version parts)
    ∙ rw (line1, header_line_again 1 version, line2, channels_line_again 2 parts.channels plan.channels, line3, count_again (codes "bookings") 16000 3 count (lit< tt) plan.rows.few, rows, rest) refl

-- ---- the laws of reading

pub is_within_limits : (bytes : List ℕ) (r : Result Plan PlanTextFault) → Gives parts_of r (read_all bytes) → IfOk r (λ plan. IsPlan (parts_of plan))
is_within_limits bytes (Ok plan) given = (all_takes bytes (parts_of plan) given).plan
is_within_limits bytes (Err e) given = tt

pub is_found : (bytes : List ℕ) (r : Result Plan PlanTextFault) → Gives parts_of r (read_all bytes) → IfOk r (λ plan. IsTextOf bytes (parts_of plan))
is_found bytes (Ok plan) given = let read = all_takes bytes (parts_of plan) given in (read.version, read.told, read.spelled)
is_found bytes (Err e) given = tt

pub is_only : (bytes : List ℕ) (r : Result Plan PlanTextFault) → Gives parts_of r (read_all bytes) → (parts : Parts) → IsPlan parts → IsTextOf bytes parts → Gives parts_of r (Ok parts)
is_only bytes r given parts plan text = subst (λ (f : Result Parts PlanTextFault). Gives parts_of r f) (ap read_all text.2 ∙ all_again text.0 parts plan text.1) given

-- one text is one plan's, in one version
pub same_version : (v w : Version) (a b : Parts) → plan_text v a ≡ plan_text w b → v ≡ w
same_version v w a b e =
    let after_v = line_text (codes "channels" ∷ map decimal (members_from 0 a.channels)) ++ (line_text (named (codes "bookings") (length a.rows)) ++ (flat_map line_text (booking_lines v a.rows a.assigned) ++ flat_map line_text (tail_lines a.prices a.total))) in
    let after_w = line_text (codes "channels" ∷ map decimal (members_from 0 b.channels)) ++ (line_text (named (codes "bookings") (length b.rows)) ++ (flat_map line_text (booking_lines w b.rows b.assigned) ++ flat_map line_text (tail_lines b.prices b.total))) in
    let first_v = ap (read_line 1) (whole_text v a) ∙ line_again 1 (codes "bx-plan") (version_field v ∷ []) after_v (plain_version v) in
    let first_w = ap (read_line 1) (whole_text w b) ∙ line_again 1 (codes "bx-plan") (version_field w ∷ []) after_w (plain_version w) in
    let same = ok_is (codes "bx-plan" ∷ version_field v ∷ [], after_v) (codes "bx-plan" ∷ version_field w ∷ [], after_w) (sym first_v ∙ ap (read_line 1) e ∙ first_w) in
    ok_is v w (sym (header_line_again 1 v) ∙ ap (λ (x : List (List ℕ) × List ℕ). read_header 1 x.0) same ∙ header_line_again 1 w)

pub same_parts : (v w : Version) (a b : Parts) → IsPlan a → IsPlan b → HasText v a → HasText w b → plan_text v a ≡ plan_text w b → a ≡ b
same_parts v w a b p q told told_b e = ok_is a b (sym (all_again v a p told) ∙ ap read_all e ∙ all_again w b q told_b)

pub same_plan : (v w : Version) (a b : Parts) → IsPlan a → IsPlan b → HasText v a → HasText w b → plan_text v a ≡ plan_text w b → (v ≡ w) × (a ≡ b)
same_plan v w a b p q told told_b e = (same_version v w a b e, same_parts v w a b p q told told_b e)
