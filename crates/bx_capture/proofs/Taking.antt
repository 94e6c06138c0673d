-- What a file takes at a write, and of packets one after another.
use Rattle.std.proofs.Common.{◌≡◌, ℕ, ◌+◌, ◌<◌, ◌≤◌, true, false, List, [], ◌∷◌, ◌++◌, length, take, get_or, sym, ap, ◌∙◌, subst, arith, true≢false, Option, Result, Ok, Err}
use Rattle.std.specs.List.{flat_map}
use Rattle.std.proofs.lemmas.List.{append-nil, take_more, take_all}
use Rattle.std.proofs.lemmas.Grind.{flat_map-append}
use Rattle.arrayvec.specs.ArrayVec.{ArrayVec}
use Rattle.std.specs.Io.KnownBytes.{Appends}
use Rattle.bx_devices.specs.declared.watched.Watched.{Watched}
use Rattle.bx_devices.specs.declared.octets.WriteFailed.{WriteFailed}
use Rattle.bx_devices.specs.Watching.{device_of, is_faulted}
use Rattle.bx_events.specs.Events.{Event, Tick, Receive}
use Rattle.bx_text.specs.Writing.{Writes}
use Rattle.bx_frames.specs.Courses.{told}
use Rattle.bx_capture.specs.Packets.{packet}
use Rattle.bx_capture.specs.Captures.{packet_sent, packets_for, IsKept, Keeps}
use Rattle.bx_capture.specs.Keeping.{keeps_nil, keeps_more}
use Rattle.bx_capture.specs.declared.packet.Direction.TheVariants.{Received}

module _ {W : Type 0} (contents : W → Option (List ℕ)) where
  pub kept_by : (w w1 : Watched W) (text : List ℕ) (result : Result (Unit {0}) WriteFailed) → is_faulted w ≡ false → Writes contents w w1 result text → IsKept contents w w1 text
  kept_by w w1 text (Ok done) fine p = record {
    whole = λ e. p.written;
    part = (length text, omega arith, subst (Appends (contents (device_of w)) (contents (device_of w1))) (sym (take_all (length text) text (omega arith))) p.written);
    stopped = λ e. absurd (true≢false (sym e ∙ fine));
  }
  kept_by w w1 text (Err fault) fine p =
      let failed : is_faulted w1 ≡ true = search (p.faulted) in
      record {
        whole = λ e. absurd (true≢false (sym failed ∙ e));
        part = p.prefix;
        stopped = λ e. absurd (true≢false (sym e ∙ fine));
      }

  module _ {X : Type 0} (f : X → List ℕ) (xs : List X) (i : ℕ) (file file1 : Option (Watched W)) where
    pub all_kept : length xs ≤ i → Keeps contents file file1 (flat_map f (take i xs)) → Keeps contents file file1 (flat_map f xs)
    all_kept le so_far = subst (λ (l : List X). Keeps contents file file1 (flat_map f l)) (take_all i xs le) so_far

    pub one_kept : (file2 : Option (Watched W)) (x : X) → i < length xs → x ≡ get_or xs i x → Keeps contents file file1 (flat_map f (take i xs)) → Keeps contents file1 file2 (f x)
        → Keeps contents file file2 (flat_map f (take (i + 1) xs))
    one_kept file2 x lt at so_far next =
        let more : flat_map f (take (i + 1) xs) ≡ flat_map f (take i xs) ++ f x =
        ap (flat_map f) (take_more xs i x lt ∙ ap (λ (y : X). take i xs ++ y ∷ []) (sym at)) ∙ flat_map-append f (take i xs) (x ∷ [])
        ∙ ap (λ (l : List ℕ). flat_map f (take i xs) ++ l) (append-nil (f x)) in
        subst (Keeps contents file file2) (sym more) (keeps_more contents file file1 file2 (flat_map f (take i xs)) (f x) so_far next)

-- ---- an event

module _ {D W : Type 0} (next : D → Event → D) (sent : D → Event → List (ArrayVec ℕ)) (moment turn : D → ℕ) (contents : W → Option (List ℕ)) where
  -- of a message that was heard
  pub heard_kept : (file file1 file2 : Option (Watched W)) (first : ℕ) (d : D) (octets : List ℕ) (at : ℕ) {replies : List (ArrayVec ℕ)} → at ≡ turn d → replies ≡ sent d (Receive octets)
      → Keeps contents file file1 (packet (first + at) Received octets) → Keeps contents file1 file2 (flat_map (packet_sent (first + at)) replies)
      → Keeps contents file file2 (told next (packets_for next sent moment turn first) (Receive octets ∷ []) d)
  heard_kept file file1 file2 first d octets at {replies = replies} e f p q =
      let s = first + turn d in
      let text = packet s Received octets ++ flat_map (packet_sent s) (sent d (Receive octets)) in
      let same : packet (first + at) Received octets ++ flat_map (packet_sent (first + at)) replies ≡ text ++ [] =
      ap (λ (n : ℕ). packet (first + n) Received octets ++ flat_map (packet_sent (first + n)) replies) e ∙ ap (λ (l : List (ArrayVec ℕ)). packet s Received octets ++ flat_map (packet_sent s) l) f ∙ sym (append-nil text) in
      subst (Keeps contents file file2) same (keeps_more contents file file1 file2 (packet (first + at) Received octets) (flat_map (packet_sent (first + at)) replies) p q)

  -- of a tick
  pub tick_kept : (file file1 : Option (Watched W)) (first : ℕ) (d d1 : D) (at : ℕ) {messages : List (ArrayVec ℕ)} → d1 ≡ next d Tick → at ≡ moment d1 → messages ≡ sent d Tick
      → Keeps contents file file1 (flat_map (packet_sent (first + at)) messages) → Keeps contents file file1 (told next (packets_for next sent moment turn first) (Tick ∷ []) d)
  tick_kept file file1 first d d1 at {messages = messages} e f h p =
      let s = first + moment (next d Tick) in
      let text = flat_map (packet_sent s) (sent d Tick) in
      let same : flat_map (packet_sent (first + at)) messages ≡ text ++ [] =
      ap (λ (n : ℕ). flat_map (packet_sent (first + n)) messages) (f ∙ ap moment e) ∙ ap (flat_map (packet_sent s)) h ∙ sym (append-nil text) in
      subst (Keeps contents file file1) same p

  -- of a quiet second
  pub quiet_kept : (file : Option (Watched W)) (first : ℕ) (d : D) → [] ≡ sent d Tick → Keeps contents file file (told next (packets_for next sent moment turn first) (Tick ∷ []) d)
  quiet_kept file first d e =
      let s = first + moment (next d Tick) in
      let same : [] ≡ flat_map (packet_sent s) (sent d Tick) ++ [] = ap (λ (l : List (ArrayVec ℕ)). flat_map (packet_sent s) l ++ []) e in
      subst (Keeps contents file file) same (keeps_nil contents file)
