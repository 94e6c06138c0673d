-- Replies that are owed for messages that came together.
use Rattle.std.proofs.Common.{◌≡◌, ◌⊎◌, inl, inr, ℕ, zero, suc, ◌+◌, ◌<◌, ◌≤◌, ◌==◌, List, [], ◌∷◌, ◌++◌, length, drop, get_or, refl, sym, ap, ◌∙◌, arith, true, false, true≢false, Bool, Err}
use Rattle.std.proofs.lemmas.Bool.Decides.{nat_tests}
use Rattle.std.proofs.lemmas.List.{at_drop_more}
use Rattle.std.proofs.Math.ListN.{drop_of_length-le}
use Rattle.arrayvec.specs.ArrayVec.{ArrayVec}
use Rattle.bx_day.specs.Day.{Day}
use Rattle.bx_frames.specs.Frames.{frame_with}
use Rattle.bx_live.specs.Runs.{Place, Hearing, Taking, Owing, replying, writing}
use Rattle.bx_live.specs.Running.{RunsInside}
use Rattle.bx_live.specs.Acts.{Act}
use Rattle.bx_live.specs.Inside.{texts_of, owing_replies, or_stopped, heard_with}
use Rattle.bx_live.specs.declared.turn.Stop.{Stop}
use Rattle.bx_live.specs.declared.turn.Stop.TheVariants as stops

texts_after : (items : List (ArrayVec ℕ)) (reply : ArrayVec ℕ) → texts_of (items ++ reply ∷ []) ≡ texts_of items ++ frame_with reply ∷ []
texts_after [] reply = refl
texts_after (item ∷ items) reply = ap (λ (ts : List (List ℕ)). frame_with item ∷ ts) (texts_after items reply)

-- one more reply
pub texts_more : (items new : List (ArrayVec ℕ)) (reply : ArrayVec ℕ) → new ≡ items ++ reply ∷ [] → texts_of new ≡ texts_of items ++ frame_with reply ∷ []
texts_more items new reply e = ap texts_of e ∙ texts_after items reply

pub texts_some : (items : List (ArrayVec ℕ)) → ¬ (items ≡ []) → ¬ (texts_of items ≡ [])
texts_some [] some e = some refl
texts_some (item ∷ items) some e = cc

pub some_of : (items : List (ArrayVec ℕ)) (b : Bool) → b ≡ (length items == 0) → b ≡ false → ¬ (items ≡ [])
some_of [] b e f = λ none. cc
some_of (item ∷ items) b e f = λ none. cc

pub none_of : (items : List (ArrayVec ℕ)) (b : Bool) → b ≡ (length items == 0) → b ≡ true → items ≡ []
none_of [] b e f = refl
none_of (item ∷ items) b e f = let t : (length (item ∷ items) == 0) ≡ false = grind (arith, nat_tests) in absurd (true≢false (sym f ∙ (e ∙ t)))

pub texts_none : (items : List (ArrayVec ℕ)) → items ≡ [] → texts_of items ≡ []
texts_none items e = ap texts_of e

pub is_taking : (d : Day) (owed : List (List ℕ)) (room : ℕ) → ¬ (owed ≡ []) → ¬ (room ≡ 0) → replying d owed room ≡ Taking d room owed
is_taking d [] room some may = absurd (some refl)
is_taking d (text ∷ owed) zero some may = absurd (may refl)
is_taking d (text ∷ owed) (suc room) some may = refl

pub is_owing : (d : Day) (owed : List (List ℕ)) (room : ℕ) → ¬ (owed ≡ []) → Owing d room true owed ≡ owing_replies d room owed
is_owing d [] room some = absurd (some refl)
is_owing d (text ∷ owed) room some = refl

-- no message may come any more, or no reply is owed
pub is_gathered : (d : Day) (owed : List (List ℕ)) (room : ℕ) → (room ≡ 0) ⊎ (owed ≡ []) → replying d owed room ≡ owing_replies d room owed
is_gathered d [] room over = refl
is_gathered d (text ∷ owed) zero over = refl
is_gathered d (text ∷ owed) (suc room) (inl e) = cc
is_gathered d (text ∷ owed) (suc room) (inr e) = cc

-- the texts from an index on
pub texts_from : (items : List (ArrayVec ℕ)) (i : ℕ) (reply : ArrayVec ℕ) → i < length items → get_or items i reply ≡ reply → texts_of (drop i items) ≡ frame_with reply ∷ texts_of (drop (i + 1) items)
texts_from items i reply here is = at_drop_more texts_of items i reply here ∙ ap (λ (m : ArrayVec ℕ). frame_with m ∷ texts_of (drop (i + 1) items)) is

pub texts_end : (items : List (ArrayVec ℕ)) (i : ℕ) → length items ≤ i → texts_of (drop i items) ≡ []
texts_end items i end = ap texts_of (drop_of_length-le items end)

-- a run from where replies are owed, of which there are some
pub owing_some : {W : Type 0} {did : W → List Act → W → Type 0} {u v : W} {q : Place} (d : Day) (room : ℕ) (owed : List (List ℕ)) → ¬ (owed ≡ []) → RunsInside did u v (Owing d room true owed) q → RunsInside did u v (owing_replies d room owed) q
owing_some d room [] some run = absurd (some refl)
owing_some d room (text ∷ owed) some run = run

pub writing_some : {W : Type 0} {did : W → List Act → W → Type 0} {u v : W} {q : Place} (d : Day) (room : ℕ) (owed : List (List ℕ)) → ¬ (owed ≡ []) → RunsInside did u v (writing d room owed) q → RunsInside did u v (Owing d room false owed) q
writing_some d room [] some run = absurd (some refl)
writing_some d room (text ∷ owed) some run = run

-- a turn that stopped, by either name
pub stopped_with : (d : Day) (left : ℕ) (stop : Stop) → or_stopped {A = Unit {0}} (Hearing d left) d (Err stop) ≡ heard_with d (Err stop)
stopped_with d left (stops.Link fault) = refl
stopped_with d left stops.Log = refl
