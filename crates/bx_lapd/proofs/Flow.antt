-- One direction of a link that is up, by counts: of the messages given, a are acknowledged, s is V(S), h were ever sent, and r delivered.
use Rattle.std.proofs.Common.{◌≡◌, ◌∙◌, ℕ, suc, ◌+◌, ◌-◌, ◌%◌, ◌≤◌, List, [], ◌∷◌, ◌++◌, length, take, drop, Some, sym, ap, drop-drop, length-append, arith}
use Rattle.std.proofs.lemmas.List.{take-append-le, drop-append-le}
use Rattle.arrayvec.specs.ArrayVec.{ArrayVec}
use Rattle.bx_lapd.specs.declared.frame.Frame.{Frame}
use Rattle.bx_lapd.specs.Links.{ahead, numbered_frames}
use Rattle.bx_lapd.proofs.Numbers.{ahead-is, next_number, further_number}
use Rattle.bx_lapd.proofs.Media.{message_at, take_at_next, Stand, Comes, comes_within, comes_given, comes_more, Confirms, confirms_within, confirms_more}

pub record Flow (given got : List (ArrayVec ℕ)) (va vs : ℕ) (queue : List (ArrayVec ℕ)) (vr : ℕ) (forth back : List Frame) (a s h r : ℕ) : Type 0 where
  pub va_is : va ≡ a % 128
  pub vs_is : vs ≡ s % 128
  pub vr_is : vr ≡ r % 128
  pub queue_is : queue ≡ drop a given
  pub got_is : got ≡ take r given
  pub sent : a ≤ s
  pub below : s ≤ h
  pub window : h ≤ a + 7
  pub few : h ≤ length given
  pub comes : Comes given r h forth
  pub confirms : Confirms a r back

pub flow_forth : (g e : List (ArrayVec ℕ)) (va vs : ℕ) (qu : List (ArrayVec ℕ)) (vr : ℕ) (forth back : List Frame) (a s h r : ℕ) (more : List Frame) → Flow g e va vs qu vr forth back a s h r → Comes g r h more → Flow g e va vs qu vr more back a s h r
flow_forth g e va vs qu vr forth back a s h r more f c = record { va_is = f.va_is; vs_is = f.vs_is; vr_is = f.vr_is; queue_is = f.queue_is; got_is = f.got_is; sent = f.sent; below = f.below; window = f.window; few = f.few; comes = c; confirms = f.confirms }

pub flow_back : (g e : List (ArrayVec ℕ)) (va vs : ℕ) (qu : List (ArrayVec ℕ)) (vr : ℕ) (forth back : List Frame) (a s h r : ℕ) (more : List Frame) → Flow g e va vs qu vr forth back a s h r → Confirms a r more → Flow g e va vs qu vr forth more a s h r
flow_back g e va vs qu vr forth back a s h r more f c = record { va_is = f.va_is; vs_is = f.vs_is; vr_is = f.vr_is; queue_is = f.queue_is; got_is = f.got_is; sent = f.sent; below = f.below; window = f.window; few = f.few; comes = f.comes; confirms = c }

-- N(R) that comes is valid, and acknowledges from a up to c
pub flow_span : (g e : List (ArrayVec ℕ)) (va vs : ℕ) (qu : List (ArrayVec ℕ)) (vr : ℕ) (forth back : List Frame) (a s h r nr c : ℕ) → Flow g e va vs qu vr forth back a s h r → nr ≡ c % 128 → a ≤ c → c ≤ h → ahead va nr ≡ c - a
flow_span g e va vs qu vr forth back a s h r nr c f x l m =
    let w = f.window in
    ap (λ v. ahead v nr) f.va_is ∙ ap (ahead (a % 128)) x ∙ ahead-is a c l (omega arith)

pub flow_outstanding : (g e : List (ArrayVec ℕ)) (va vs : ℕ) (qu : List (ArrayVec ℕ)) (vr : ℕ) (forth back : List Frame) (a s h r : ℕ) → Flow g e va vs qu vr forth back a s h r → ahead va vs ≡ s - a
flow_outstanding g e va vs qu vr forth back a s h r f = flow_span g e va vs qu vr forth back a s h r vs s f f.vs_is f.sent f.below

pub flow_acknowledged : (g e : List (ArrayVec ℕ)) (va vs : ℕ) (qu : List (ArrayVec ℕ)) (vr : ℕ) (forth back rest : List Frame) (a s h r nr c : ℕ) → Flow g e va vs qu vr forth back a s h r → s ≡ h → nr ≡ c % 128 → a ≤ c → Confirms c r rest → Flow g e nr vs (drop (ahead va nr) qu) vr forth rest c s h r
flow_acknowledged g e va vs qu vr forth back rest a s h r nr c f t x l conf =
    let w = comes_within g r h forth f.comes in
    let v = confirms_within c r rest conf in
    let fits = f.window in
    let gap : a + (c - a) ≡ c = omega arith in
    record {
      va_is = x;
      vs_is = f.vs_is;
      vr_is = f.vr_is;
      queue_is = ap (λ n. drop n qu) (flow_span g e va vs qu vr forth back a s h r nr c f x l (omega arith)) ∙ ap (drop (c - a)) f.queue_is ∙ drop-drop (c - a) a g ∙ ap (λ n. drop n g) gap;
      got_is = f.got_is;
      sent = omega arith;
      below = f.below;
      window = omega arith;
      few = f.few;
      comes = f.comes;
      confirms = conf;
    }

-- go back N
pub flow_gone_back : (g e : List (ArrayVec ℕ)) (va vs : ℕ) (qu : List (ArrayVec ℕ)) (vr : ℕ) (forth back : List Frame) (a s h r : ℕ) → Flow g e va vs qu vr forth back a s h r → Flow g e va va qu vr forth back a a h r
flow_gone_back g e va vs qu vr forth back a s h r f =
    let l = f.sent in
    let m = f.below in
    record { va_is = f.va_is; vs_is = f.va_is; vr_is = f.vr_is; queue_is = f.queue_is; got_is = f.got_is; sent = omega arith; below = omega arith; window = f.window; few = f.few; comes = f.comes; confirms = f.confirms }

pub flow_took : (g e : List (ArrayVec ℕ)) (va vs : ℕ) (qu : List (ArrayVec ℕ)) (vr : ℕ) (forth back rest : List Frame) (a s h r : ℕ) (m : ArrayVec ℕ) → Flow g e va vs qu vr forth back a s h r → message_at g r ≡ Some m → Comes g (suc r) h rest → Flow g (e ++ m ∷ []) va vs qu ((vr + 1) % 128) rest back a s h (suc r)
flow_took g e va vs qu vr forth back rest a s h r m f at c = record {
  va_is = f.va_is;
  vs_is = f.vs_is;
  vr_is = ap (λ v. (v + 1) % 128) f.vr_is ∙ next_number r;
  queue_is = f.queue_is;
  got_is = ap (λ xs. xs ++ m ∷ []) f.got_is ∙ sym (take_at_next g r m at);
  sent = f.sent;
  below = f.below;
  window = f.window;
  few = f.few;
  comes = c;
  confirms = confirms_more a r (suc r) back (omega arith) f.confirms;
}

pub flow_given : (g e : List (ArrayVec ℕ)) (va vs : ℕ) (qu : List (ArrayVec ℕ)) (vr : ℕ) (forth back : List Frame) (a s h r : ℕ) (m : ArrayVec ℕ) → Flow g e va vs qu vr forth back a s h r → Flow (g ++ m ∷ []) e va vs (qu ++ m ∷ []) vr forth back a s h r
flow_given g e va vs qu vr forth back a s h r m f =
    let one = f.sent in
    let two = f.below in
    let three = f.few in
    let four = comes_within g r h forth f.comes in
    let small : a ≤ length g = omega arith in
    let smaller : r ≤ length g = omega arith in
    record {
      va_is = f.va_is;
      vs_is = f.vs_is;
      vr_is = f.vr_is;
      queue_is = ap (λ xs. xs ++ m ∷ []) f.queue_is ∙ sym (drop-append-le a g (m ∷ []) small);
      got_is = f.got_is ∙ sym (take-append-le r g (m ∷ []) smaller);
      sent = f.sent;
      below = f.below;
      window = f.window;
      few = omega (arith, length-append g (m ∷ []));
      comes = comes_given g (m ∷ []) r h forth f.comes;
      confirms = f.confirms;
    }

-- these go out, from V(S) on
pub flow_sent : (g e : List (ArrayVec ℕ)) (va vs : ℕ) (qu : List (ArrayVec ℕ)) (vr : ℕ) (forth back : List Frame) (a s h r nr : ℕ) (ms : List (ArrayVec ℕ)) → Flow g e va vs qu vr forth back a s h r → Stand g s ms → h ≤ s + length ms → s + length ms ≤ a + 7 → s + length ms ≤ length g
    → Flow g e va ((vs + length ms) % 128) qu vr (forth ++ numbered_frames vs nr ms) back a (s + length ms) (s + length ms) r
flow_sent g e va vs qu vr forth back a s h r nr ms f st x y z =
    let one = f.sent in
    let two = f.window in
    record {
      va_is = f.va_is;
      vs_is = ap (λ v. (v + length ms) % 128) f.vs_is ∙ further_number s (length ms);
      vr_is = f.vr_is;
      queue_is = f.queue_is;
      got_is = f.got_is;
      sent = omega arith;
      below = omega arith;
      window = y;
      few = z;
      comes = comes_more g r h (s + length ms) s forth vs nr ms f.vs_is st (omega arith) x (omega arith) f.comes;
      confirms = f.confirms;
    }
