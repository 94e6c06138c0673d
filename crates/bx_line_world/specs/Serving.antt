-- A data link that is served while an instant is waited for.
use Rattle.std.specs.Prelude.{◌≡◌, ◌⊎◌, ℕ, nat_le, ◌&&◌, ◌||◌, not, Bool, true, false, List, [], ◌∷◌, length, is_some}
use Rattle.arrayvec.specs.ArrayVec.{ArrayVec}
use Rattle.bx_lapd.specs.Links.{Link, is_link_up}
use Rattle.bx_lapd.specs.Table.{due_of}
use Rattle.bx_live.specs.Chains.{Chain}
use Rattle.bx_line_world.specs.Wires.{WireAct}
use Rattle.bx_line_world.specs.Posts.{is_lost, is_any}
use Rattle.bx_line_world.specs.Lines.{LineEvent, Asked, Given, Elapsed, Heard, Passed, Quiet, Serves}
use Rattle.bx_line_world.specs.declared.line.Line.{Line}
use Rattle.bx_line_world.specs.declared.post.Post.{Post}

-- a message is there, or one was lost
abbrev pub has_news : Post → Bool
has_news p = is_lost p.lost || is_any p.messages.items

-- the instant has come; or, in a turn, there is news
abbrev pub is_wait_over : {W : Type 0} → Line W → ℕ → Bool → Bool
is_wait_over s until in_turn = nat_le until s.shown || (in_turn && has_news s.post)

abbrev pub IsWait : ℕ → LineEvent → Type 0
IsWait until (Heard end octets shown) = end ≡ until
IsWait until (Passed end octets) = end ≡ until
IsWait until (Quiet end) = end ≡ until
IsWait until event = ⊥

-- a slice of a wait: the timer was looked at, the wait is not over, and a frame was waited for
pub record Slice {W : Type 0} (did : W → List WireAct → W → Type 0) (until : ℕ) (in_turn : Bool) (old : Line W) (came : LineEvent) (new : Line W) : Type 0 where
  pub between : Line W
  pub shown : ℕ
  pub looked : Serves did old (Elapsed shown) between
  pub goes_on : is_wait_over between until in_turn ≡ false
  pub is_wait : IsWait until came
  pub waited : Serves did between came new

-- a frame was heard that is there already, where there is no news: a wait that ends at once lasts the least slice
pub record Polls {W : Type 0} (did : W → List WireAct → W → Type 0) (old : Line W) (came : LineEvent) (new : Line W) : Type 0 where
  pub goes_on : has_news old.post ≡ false
  pub is_wait : IsWait 0 came
  pub waited : Serves did old came new

abbrev pub has_come : LineEvent → Bool
has_come (Heard until octets shown) = true
has_come (Passed until octets) = true
has_come event = false

-- the last of these brought nothing
abbrev pub ends_quiet : List LineEvent → Bool
ends_quiet [] = false
ends_quiet (came ∷ []) = not (has_come came)
ends_quiet (came ∷ after ∷ more) = ends_quiet (after ∷ more)

-- the frames that are there already were heard: until there is news, or none is there any more, or 64 were heard
pub record Polled {W : Type 0} (did : W → List WireAct → W → Type 0) (old new : Line W) : Type 0 where
  pub came : List LineEvent
  pub run : Chain (Polls did) old came new
  pub over : (has_news new.post ≡ true) ⊎ ((ends_quiet came ≡ true) ⊎ (length came ≡ 64))

-- so many slices, one after another
pub record Sliced {W : Type 0} (did : W → List WireAct → W → Type 0) (until : ℕ) (in_turn : Bool) (old new : Line W) (count : ℕ) : Type 0 where
  pub waits : List LineEvent
  pub run : Chain (Slice did until in_turn) old waits new
  pub counted : length waits ≡ count

-- a wait: slices, and a last look, at which it is over; or it was given up after 2^64 - 1 slices, which is never reached
pub record Served {W : Type 0} (did : W → List WireAct → W → Type 0) (until : ℕ) (in_turn : Bool) (old new : Line W) : Type 0 where
  pub count : ℕ
  pub before : Line W
  pub sliced : Sliced did until in_turn old before count
  pub shown : ℕ
  pub looked : Serves did before (Elapsed shown) new
  pub over : (is_wait_over new until in_turn ≡ true) ⊎ (count ≡ 18446744073709551615)

-- a link that is not there, and for which no attempt runs, is asked for
abbrev pub is_idle : Link → Bool
is_idle l = not (is_link_up l.state) && not (is_some (due_of l.timer))

abbrev pub AsksLink : {W : Type 0} → (W → List WireAct → W → Type 0) → Bool → Line W → Line W → Type 0
AsksLink did true old new = (shown : ℕ) × Serves did old (Asked shown) new
AsksLink did false old new = new ≡ old

-- a message was given
abbrev pub GivesMessage : {W : Type 0} → (W → List WireAct → W → Type 0) → Line W → ArrayVec ℕ → Line W → Type 0
GivesMessage did old message new = (shown : ℕ) × Serves did old (Given message shown) new
