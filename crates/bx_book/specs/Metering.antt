-- What a metered reader has seen.
use Rattle.std.specs.Prelude.{ℕ, Bool}
use Rattle.std.specs.declared.io.traits.Read as Reading
use Rattle.bx_devices.specs.declared.watched.Watched.{Watched}
use Rattle.bx_book.specs.declared.metered.Origin as Source
use Rattle.bx_book.specs.declared.metered.Metered.{Metered}
use Rattle.bx_devices.specs.Watching.{is_faulted, reads_of}
use Rattle.bx_book.specs.Passed.{is_spent}

module _ {R O : Type 0} {r : Reading.Ghosts R} {o : Source.Ghosts O} where
  abbrev pub watched_of : Metered R O r o → Watched R
  watched_of m = m.reader.now

  -- how many octets were passed on
  abbrev pub octets_of : Metered R O r o → ℕ
  octets_of m = m.octets

  -- whether a read came to the end
  abbrev pub has_ended : Metered R O r o → Bool
  has_ended m = m.has_ended

  -- whether nothing more is read of it
  abbrev pub has_stopped : Metered R O r o → Bool
  has_stopped m = is_spent (has_ended m) (is_faulted (watched_of m)) (octets_of m) (reads_of (watched_of m))
