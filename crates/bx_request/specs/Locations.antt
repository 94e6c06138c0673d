-- Files that are one, by where they stand.
use Rattle.std.specs.Prelude.{◌≡◌, ◌⊎◌, ⊤, ℕ, Bool, false, true, List, [], ◌∷◌, Option, Some, None, codes, All}
use Rattle.bx_request.specs.Uses.{uses_of}
use Rattle.bx_request.specs.declared.locations.Location.{Location}
use Rattle.bx_request.specs.declared.uses.FileUse.{FileUse}
use Rattle.bx_request.specs.declared.request.Request.{Request}

-- both are one place on one device
pub record IsOneLocation (one other : Location) : Type 0 where
  pub device : one.device ≡ other.device
  pub inode : one.inode ≡ other.inode
  pub rest : one.rest.now ≡ other.rest.now

-- the system has told of two names that their files are one
pub record IsOneFile (tells : List ℕ → Option Location → Type 0) (one other : List ℕ) : Type 0 where
  pub first : Location
  pub second : Location
  pub told_first : tells one (Some first)
  pub told_second : tells other (Some second)
  pub same : IsOneLocation first second

-- or that they are two; or of one of them not where it stands
pub record AreTwoFiles (tells : List ℕ → Option Location → Type 0) (one other : List ℕ) : Type 0 where
  pub first : Option Location
  pub second : Option Location
  pub told_first : tells one first
  pub told_second : tells other second
  pub apart : (a b : Location) → first ≡ Some a → second ≡ Some b → IsOneLocation a b → ⊥

-- ---- the files of a command

-- one of this name, which is written or not, is another one, and one of the two is written
abbrev pub Meets : (List ℕ → Option Location → Type 0) → List ℕ → Bool → FileUse → Type 0
Meets tells name is_written other = ((is_written ≡ true) ⊎ (other.is_written ≡ true)) × IsOneFile tells name other.name.now

-- or they are both read alone, or two
abbrev pub IsApart : (List ℕ → Option Location → Type 0) → List ℕ → Bool → Option FileUse → Type 0
IsApart tells name is_written None = ⊤
IsApart tells name is_written (Some other) = ((is_written ≡ false) × (other.is_written ≡ false)) ⊎ AreTwoFiles tells name other.name.now

-- it meets one of these, which has this name
abbrev pub MeetsAny : (List ℕ → Option Location → Type 0) → List ℕ → Bool → List (Option FileUse) → List ℕ → Type 0
MeetsAny tells name is_written [] met = ⊥
MeetsAny tells name is_written (None ∷ rest) met = MeetsAny tells name is_written rest met
MeetsAny tells name is_written (Some other ∷ rest) met = (Meets tells name is_written other × (met ≡ other.name.now)) ⊎ MeetsAny tells name is_written rest met

-- one of these meets one after it, which has this name
abbrev pub HaveMet : (List ℕ → Option Location → Type 0) → List (Option FileUse) → List ℕ → Type 0
HaveMet tells [] met = ⊥
HaveMet tells (None ∷ rest) met = HaveMet tells rest met
HaveMet tells (Some one ∷ rest) met = MeetsAny tells one.name.now one.is_written rest met ⊎ HaveMet tells rest met

-- or each two are apart
abbrev pub AreApart : (List ℕ → Option Location → Type 0) → List (Option FileUse) → Type 0
AreApart tells [] = ⊤
AreApart tells (None ∷ rest) = AreApart tells rest
AreApart tells (Some one ∷ rest) = All (IsApart tells one.name.now one.is_written) rest × AreApart tells rest

-- ---- before a command opens anything

-- no file that its words name, or that standard output goes to, is written and another one of these too, or what standard input comes from
pub record NoFileMeets (tells : List ℕ → Option Location → Type 0) (request : Request) : Type 0 where
  pub from_input : All (IsApart tells (codes "/dev/stdin") false) (uses_of request)
  pub from_output : All (IsApart tells (codes "/dev/stdout") true) (uses_of request)
  pub apart : AreApart tells (uses_of request)

-- or one is, of this name
abbrev pub IsMet : (List ℕ → Option Location → Type 0) → Request → List ℕ → Type 0
IsMet tells request met =
    MeetsAny tells (codes "/dev/stdin") false (uses_of request) met
    ⊎ MeetsAny tells (codes "/dev/stdout") true (uses_of request) met
    ⊎ HaveMet tells (uses_of request) met
