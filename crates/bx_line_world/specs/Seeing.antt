-- Whether the other end is there: in each second of the clock it is asked, over a link of which nothing is unacknowledged, and it is seen
-- when it has answered.
use Rattle.std.specs.Prelude.{◌≡◌, ◌⊎◌, ℕ, ◌+◌, ◌%◌, ◌==◌, nat_le, min, max, ◌&&◌, ◌||◌, not, Bool, true, false, List, length}
use Rattle.bx_lapd.specs.Links.{is_at_rest}
use Rattle.bx_live.specs.Chains.{Chain}
use Rattle.bx_live.specs.declared.schedule.TheConstants.{SECOND}
use Rattle.bx_line_world.specs.Wires.{WireAct}
use Rattle.bx_line_world.specs.Posts.{is_lost, not_asked}
use Rattle.bx_line_world.specs.Lines.{LineEvent, Elapsed, Enquired, Serves}
use Rattle.bx_line_world.specs.Serving.{IsWait}
use Rattle.bx_line_world.specs.declared.line.Line.{Line}

-- it was asked, and has answered, and all that it was given is acknowledged
abbrev pub is_seen : {W : Type 0} → Line W → Bool
is_seen s = s.post.asked && is_at_rest s.end.link

-- it was not asked yet, and nothing stands in the way
abbrev pub is_to_ask : {W : Type 0} → Line W → Bool
is_to_ask s = not s.post.asked && is_at_rest s.end.link

-- whether a second of the clock begins at this instant, in nanoseconds
abbrev pub is_on_the_second : ℕ → Bool
is_on_the_second instant = instant % SECOND == 0

-- who was asked in the second before has to be asked anew
abbrev pub asked_anew : {W : Type 0} → Bool → Line W → Line W
asked_anew true s = record s { post = not_asked s.post }
asked_anew false s = s

-- Up to which reading of the clock it is waited for an answer: half a second after the instant of the second, and 50 milliseconds in any
-- case, where the second begins later
abbrev pub look_until : ℕ → ℕ → ℕ
look_until instant shown = max (min (instant + 500_000_000) 340282366920938463463374607431768211455) (min (shown + 50_000_000) 340282366920938463463374607431768211455)

-- the time is over; something was lost of which the day is not told; or the other end is seen
abbrev pub is_look_over : {W : Type 0} → Line W → ℕ → Bool
is_look_over s until = nat_le until s.shown || (is_lost s.post.lost || is_seen s)

-- it is asked
abbrev pub AsksEnd : {W : Type 0} → (W → List WireAct → W → Type 0) → Bool → Line W → Line W → Type 0
AsksEnd {W} did true old new = (shown : ℕ) × (between : Line W) × Serves did old (Enquired shown) between × (new ≡ record between { post = record between.post { asked = true } })
AsksEnd did false old new = new ≡ old

-- one look: at the timer; then the other end is asked, where it is to be; and a frame is waited for
pub record Looked {W : Type 0} (did : W → List WireAct → W → Type 0) (until : ℕ) (old : Line W) (came : LineEvent) (new : Line W) : Type 0 where
  pub between : Line W
  pub shown : ℕ
  pub timed : Serves did old (Elapsed shown) between
  pub goes_on : is_look_over between until ≡ false
  pub asked : Line W
  pub asks : AsksEnd did (is_to_ask between) between asked
  pub is_wait : IsWait until came
  pub waited : Serves did asked came new

-- so many looks, one after another
pub record LookedBy {W : Type 0} (did : W → List WireAct → W → Type 0) (until : ℕ) (old new : Line W) (count : ℕ) : Type 0 where
  pub came : List LineEvent
  pub run : Chain (Looked did until) old came new
  pub counted : length came ≡ count

-- looks, and a last one at the timer, at which it is over; or it was given up after 2^64 - 1 looks, which is never reached
pub record Sees {W : Type 0} (did : W → List WireAct → W → Type 0) (until : ℕ) (old new : Line W) : Type 0 where
  pub count : ℕ
  pub before : Line W
  pub looked : LookedBy did until old before count
  pub shown : ℕ
  pub timed : Serves did before (Elapsed shown) new
  pub over : (is_look_over new until ≡ true) ⊎ (count ≡ 18446744073709551615)
