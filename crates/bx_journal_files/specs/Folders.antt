-- The folder in which a file stands.
use Rattle.std.specs.Prelude.{ℕ, List, Option, Some, None, codes, length, ◌==◌, if◌then◌else◌}
use Rattle.std.specs.Path.{path_parent}

-- the name of a folder: that of the parent of a path, or of the one in which the program runs
abbrev pub folder_by : Option (List ℕ) → List ℕ
folder_by None = codes "."
folder_by (Some parent) = if length parent == 0 then codes "." else parent

-- the folder of the file of this name
abbrev pub folder_of : List ℕ → List ℕ
folder_of name = folder_by (path_parent name)
