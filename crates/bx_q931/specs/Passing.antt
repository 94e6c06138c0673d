-- The elements in one pass that carries the codeset along, as the code goes over them.
use Rattle.std.specs.Prelude.{ℕ, max, List, [], ◌∷◌, if◌then◌else◌, Option, Some, None, unwrap_or}
use Rattle.bx_q931.specs.Items.{PlainItem}
use Rattle.bx_q931.specs.Elements.{PlainElement, plain_element, is_shift, is_locking, named_codeset}

-- after locking shifts to this codeset and perhaps a shift for one element
unfoldable pub passed : ℕ → Option ℕ → List PlainItem → List PlainElement
passed locked single [] = []
passed locked single (i ∷ is) =
    if is_shift i
    then (if is_locking i then passed (max locked (named_codeset i)) single is else passed locked (Some (named_codeset i)) is)
    else plain_element (unwrap_or single locked) i ∷ passed locked None is
