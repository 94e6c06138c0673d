-- Private: the fields that are left of a line, by what the code keeps of it.
use Rattle.std.specs.Prelude.{◌≡◌, ℕ, Bool, List, [], true, length, if◌then◌else◌}
use Rattle.bx_planfile.specs.declared.fields.Fields.TheInside.{Inside}
use Rattle.bx_planfile.specs.Lines.{fields_of}

abbrev pub left_of : Bool → List ℕ → List (List ℕ)
left_of is_done rest = if is_done then [] else fields_of rest

abbrev pub fields_left : Inside → List (List ℕ)
fields_left f = left_of f.is_done f.rest.now

-- where no field is left no octet is
abbrev pub IsFieldsInside : Inside → Type 0
IsFieldsInside f = f.is_done ≡ true → length f.rest.now ≡ 0
