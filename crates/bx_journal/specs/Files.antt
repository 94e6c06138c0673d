-- Files that a disk writes into.
use Rattle.std.specs.Prelude.{◌≡◌, ℕ, Bool, true, false, List, ◌++◌, Option, Some, None, IfSome}
use Rattle.std.proofs.Common.{refl, subst}
use Rattle.std.specs.Io.Buffered.{writer_contents, writer_inner, writer_buffer}
use Rattle.std.specs.Option.{option_map}
use Rattle.std.specs.declared.io.buffered.BufWriter.{BufWriter}
use Rattle.bx_journal.specs.declared.disk_files.SystemFile.{SystemFile}
use Rattle.bx_journal.specs.declared.file.FileDisk.{FileDisk}

-- the file of the system itself
abbrev pub file_inside : {F : Type 0} → SystemFile F → F
file_inside s = s.file

inside : (o : Option (List ℕ)) (g : List ℕ → List ℕ) (text : List ℕ) {P : Type 0} → ((xs : List ℕ) → o ≡ Some xs → P) → option_map g o ≡ Some text → P
inside None g text {P} by e = subst (λ (o : Option (List ℕ)). IfSome o (λ (xs : List ℕ). P)) e tt
inside (Some xs) g text by e = by xs refl

-- what a buffer is put before is told where all of it is
pub told_inside : {F A : Type 0} (contents : F → Option (List ℕ)) (is_told : Bool) → ((file : F) (text : List ℕ) → contents file ≡ Some text → is_told ≡ true) → (w : BufWriter F A) (text : List ℕ) → writer_contents contents w ≡ Some text → is_told ≡ true
told_inside contents is_told told w text e = inside (contents (writer_inner w)) (λ (xs : List ℕ). xs ++ writer_buffer w) text (λ xs is. told (writer_inner w) xs is) e

-- What is known of a disk on a file of the system, through a buffer or not: it tells nothing of what it holds, and a crash may leave
-- anything.
abbrev pub holds_unknown : {D : Type 0} → D → List ℕ → Type 0
holds_unknown disk text = None ≡ Some text

abbrev pub may_leave_any : {D : Type 0} → D → List ℕ → Type 0
may_leave_any disk c = false ≡ false

abbrev pub no_moment : {D : Type 0} → D → ℕ
no_moment disk = 0

abbrev pub any_since : {D : Type 0} → D → ℕ → List ℕ → Type 0
any_since disk t c = false ≡ false

-- ---- a disk on a file

-- a call of it has failed
abbrev pub has_failed_in : {F : Type 0} → FileDisk F → Bool
has_failed_in disk = disk.has_failed

-- it holds what the file tells
abbrev pub holds_in : {F : Type 0} → (F → Option (List ℕ)) → FileDisk F → List ℕ → Type 0
holds_in contents disk text = contents disk.file ≡ Some text

-- of a file that tells nothing a crash may leave anything
abbrev pub may_leave_in : {F : Type 0} → Bool → FileDisk F → List ℕ → Type 0
may_leave_in is_told disk c = is_told ≡ false
