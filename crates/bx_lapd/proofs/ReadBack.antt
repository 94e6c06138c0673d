-- What an end writes, the other end reads.
use Rattle.std.proofs.Common.{◌≡◌, ◌∙◌, ◌≢◌, ℕ, ◌+◌, ◌-◌, ◌*◌, ◌/◌, ◌%◌, ◌<◌, ◌≤◌, ◌==◌, not, Bool, true, false, List, [], ◌∷◌, ◌++◌, length, take, drop, Result, Ok, Err, refl, ap, length-append, arith, nat_lt, if◌then◌else◌}
use Rattle.std.proofs.lemmas.List.{take_at, drop_at}
use Rattle.std.proofs.lemmas.Bool.{eq-eqb, ne_eqb, le-ltb}
use Rattle.arrayvec.specs.ArrayVec.{ArrayVec}
use Rattle.bx_lapd.specs.declared.words.Supervisory.{Supervisory}
use Rattle.bx_lapd.specs.declared.words.Supervisory.TheVariants.{ReceiveReady, ReceiveNotReady, Reject}
use Rattle.bx_lapd.specs.declared.words.Unnumbered.{Unnumbered}
use Rattle.bx_lapd.specs.declared.words.Unnumbered.TheVariants as u
use Rattle.bx_lapd.specs.declared.frame.Frame.{Frame}
use Rattle.bx_lapd.specs.declared.frame.Frame.TheVariants.{Information, Numbered, Plain}
use Rattle.bx_lapd.specs.declared.refusal.Invalid.TheVariants.{Short, Check}
use Rattle.bx_lapd.specs.declared.refusal.Refusal.{Refusal}
use Rattle.bx_lapd.specs.declared.refusal.Refusal.TheVariants.{Dropped}
use Rattle.bx_lapd.specs.Codec.{fcs, bit_of, address, supervisory_octet, unnumbered_octet, is_command, with_fcs, read_control, read_body, is_checked, read_octets}
use Rattle.bx_lapd.specs.ReadBack.{ReadsBack}

-- ---- the check sequence

checked_again : (body : List ℕ) (a b : ℕ) → a ≡ fcs body % 256 → b ≡ fcs body / 256 → is_checked body (a ∷ b ∷ []) ≡ true
checked_again body a b x y = eq-eqb (a + 256 * b) (fcs body) (omega (arith, x, y))

-- octets with their check sequence are read as those before it
pub after_check : (network : Bool) (body : List ℕ) → 3 ≤ length body → read_octets network (with_fcs body) ≡ read_body network body
after_check network body l =
    let a = fcs body % 256 in
    let b = fcs body / 256 in
    let len : length (body ++ a ∷ b ∷ []) ≡ length body + 2 = length-append body (a ∷ b ∷ []) in
    let prefix : length body ≡ length (body ++ a ∷ b ∷ []) - 2 = omega (arith, len) in
    let long : nat_lt (length (body ++ a ∷ b ∷ [])) 5 ≡ false = le-ltb (length (body ++ a ∷ b ∷ [])) 5 (omega (arith, len)) in
    let first : take (length (body ++ a ∷ b ∷ []) - 2) (body ++ a ∷ b ∷ []) ≡ body = take_at body (a ∷ b ∷ []) (length (body ++ a ∷ b ∷ []) - 2) prefix in
    let last : drop (length (body ++ a ∷ b ∷ []) - 2) (body ++ a ∷ b ∷ []) ≡ a ∷ b ∷ [] = drop_at body (a ∷ b ∷ []) (length (body ++ a ∷ b ∷ []) - 2) prefix in
    let choose : Bool → List ℕ → List ℕ → Result Frame Refusal = λ short x y. if short then Err (Dropped Short) else if is_checked x y then read_body network x else Err (Dropped Check) in
    ap (λ (s : Bool). choose s (take (length (body ++ a ∷ b ∷ []) - 2) (body ++ a ∷ b ∷ [])) (drop (length (body ++ a ∷ b ∷ []) - 2) (body ++ a ∷ b ∷ []))) long
    ∙ ap (λ x. choose false x (drop (length (body ++ a ∷ b ∷ []) - 2) (body ++ a ∷ b ∷ []))) first
    ∙ ap (choose false body) last
    ∙ ap (λ (c : Bool). if c then read_body network body else Err (Dropped Check)) (checked_again body a b refl refl)

-- ---- numbers and bits

poll_again : (n : ℕ) (poll : Bool) → (((2 * (n % 128) + bit_of poll) % 2) == 1) ≡ poll
poll_again n true = eq-eqb ((2 * (n % 128) + 1) % 2) 1 (omega arith)
poll_again n false = ne_eqb ((2 * (n % 128) + 0) % 2) 1 (λ e. absurd (omega (arith, e)))

number_again : (n : ℕ) (poll : Bool) → n < 128 → (2 * (n % 128) + bit_of poll) / 2 ≡ n
number_again n true l = omega arith
number_again n false l = omega arith

sent_again : (n : ℕ) → n < 128 → 2 * (n % 128) / 2 ≡ n
sent_again n l = omega arith

no_unnumbered : (n : ℕ) → ((2 * (n % 128) % 4) == 3) ≡ false
no_unnumbered n = ne_eqb (2 * (n % 128) % 4) 3 (λ e. absurd (omega (arith, e)))

is_information : (n : ℕ) → ((2 * (n % 128) % 2) == 0) ≡ true
is_information n = eq-eqb (2 * (n % 128) % 2) 0 (omega arith)

-- ---- I frames

information_again : (ns nr : ℕ) (poll : Bool) (m : ArrayVec ℕ) → ns < 128 → nr < 128 → length m.items ≤ 260
    → read_control true (2 * (ns % 128)) ((2 * (nr % 128) + bit_of poll) ∷ m.items) ≡ Ok (Information poll ns nr m)
information_again ns nr poll m a b c =
    let second = 2 * (nr % 128) + bit_of poll in
    let short : nat_lt 260 (length m.items) ≡ false = le-ltb 260 (length m.items) c in
    rw no_unnumbered (rw is_information (rw short (
    ap (λ p. Ok (Information p (2 * (ns % 128) / 2) (second / 2) (record { items = m.items }))) (poll_again nr poll)
    ∙ ap (λ x. Ok (Information poll x (second / 2) (record { items = m.items }))) (sent_again ns a)
    ∙ ap (λ x. Ok (Information poll ns x (record { items = m.items }))) (number_again nr poll b))))

-- ---- supervisory frames

numbered_again : (kind : Supervisory) (command poll : Bool) (nr : ℕ) → nr < 128 → read_control command (supervisory_octet kind) ((2 * (nr % 128) + bit_of poll) ∷ []) ≡ Ok (Numbered kind command poll nr)
numbered_again ReceiveReady command poll nr l = ap (λ p. Ok (Numbered ReceiveReady command p ((2 * (nr % 128) + bit_of poll) / 2))) (poll_again nr poll) ∙ ap (λ x. Ok (Numbered ReceiveReady command poll x)) (number_again nr poll l)
numbered_again ReceiveNotReady command poll nr l = ap (λ p. Ok (Numbered ReceiveNotReady command p ((2 * (nr % 128) + bit_of poll) / 2))) (poll_again nr poll) ∙ ap (λ x. Ok (Numbered ReceiveNotReady command poll x)) (number_again nr poll l)
numbered_again Reject command poll nr l = ap (λ p. Ok (Numbered Reject command p ((2 * (nr % 128) + bit_of poll) / 2))) (poll_again nr poll) ∙ ap (λ x. Ok (Numbered Reject command poll x)) (number_again nr poll l)

-- ---- unnumbered frames

plain_again : (kind : Unnumbered) (poll : Bool) → kind ≢ u.Frmr → read_control (is_command kind) (unnumbered_octet kind + 16 * bit_of poll) [] ≡ Ok (Plain kind poll)
plain_again u.Sabme true n = refl
plain_again u.Sabme false n = refl
plain_again u.Dm true n = refl
plain_again u.Dm false n = refl
plain_again u.Ui true n = refl
plain_again u.Ui false n = refl
plain_again u.Disc true n = refl
plain_again u.Disc false n = refl
plain_again u.Ua true n = refl
plain_again u.Ua false n = refl
plain_again u.Frmr poll n = absurd (n refl)
plain_again u.Xid true n = refl
plain_again u.Xid false n = refl

-- ---- the address

body_again : (network command : Bool) (control : ℕ) (rest : List ℕ) → read_body (not network) (address network command ++ control ∷ rest) ≡ read_control command control rest
body_again true true control rest = refl
body_again true false control rest = refl
body_again false true control rest = refl
body_again false false control rest = refl

long_enough : (network command : Bool) (control : ℕ) (rest : List ℕ) → 3 ≤ length (address network command ++ control ∷ rest)
long_enough true true control rest = omega arith
long_enough true false control rest = omega arith
long_enough false true control rest = omega arith
long_enough false false control rest = omega arith

framed_again : (network command : Bool) (control : ℕ) (rest : List ℕ) → read_octets (not network) (with_fcs (address network command ++ control ∷ rest)) ≡ read_control command control rest
framed_again network command control rest = after_check (not network) (address network command ++ control ∷ rest) (long_enough network command control rest) ∙ body_again network command control rest

pub reads_back : ReadsBack
reads_back network (Information poll ns nr m) f s = framed_again network true (2 * (ns % 128)) ((2 * (nr % 128) + bit_of poll) ∷ m.items) ∙ information_again ns nr poll m f.0 f.1 f.2
reads_back network (Numbered kind command poll nr) f s = framed_again network command (supervisory_octet kind) ((2 * (nr % 128) + bit_of poll) ∷ []) ∙ numbered_again kind command poll nr f
reads_back network (Plain kind poll) f s = framed_again network (is_command kind) (unnumbered_octet kind + 16 * bit_of poll) [] ∙ plain_again kind poll s
