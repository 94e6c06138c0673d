-- Records of fields, and a reader of them.
use Rattle.std.specs.Prelude.{◌≡◌, ℕ, true, List, [], unwrap_or}
use Rattle.csv.specs.Records.{field_at}
use Rattle.csv.specs.Reading.{Ready, default_config, reader_trim, reader_config, is_flexible}
use Rattle.csv.specs.declared.reader.Reader.{Reader}
use Rattle.csv.specs.declared.reader.Trim.TheVariants as trim

-- the field of a place, counted from 0, and an empty one beyond the last
abbrev pub field_of : List (List ℕ) → ℕ → List ℕ
field_of fields place = unwrap_or (field_at fields place) []

-- a reader with the defaults, but that rows may have any length, whose next read is of one record
pub record IsReading {R : Type 0} (reader : Reader R) : Type 0 where
  pub plain : reader_trim reader ≡ trim.None
  pub config : reader_config reader ≡ default_config
  pub flexible : is_flexible reader ≡ true
  pub ready : Ready reader
