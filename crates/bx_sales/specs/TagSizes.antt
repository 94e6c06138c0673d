-- Private: how many digits a key has in the line of a sale.
use Rattle.std.specs.Prelude.{◌≡◌, length}
use Rattle.bx_sales.specs.declared.tag.Tag.{Tag}

-- 32 digits each
abbrev pub IsTagSized : Tag → Type 0
IsTagSized tag = (length tag.key ≡ 32) × (length tag.body ≡ 32)
