-- Why a query names no call.
use Rattle.std.proofs.Common.{ℕ, List, inl, inr, ◌⊎◌, codes}
use Rattle.bx_book.specs.Rows.{Span}
use Rattle.bx_book.specs.declared.fault.BookFault.TheVariants.{EndNotAfterStart}
use Rattle.bx_office_world.specs.Quotes.{IsSecondOfQuery, IsNoSecond, IsNoCallOfQuery}
use Rattle.bx_office_world.specs.declared.fault.NoAnswer.{NoAnswer}
use Rattle.bx_office_world.specs.declared.fault.NoAnswer.TheVariants.{Book}

pub no_call : (query : List ℕ) (span : Span) (why : NoAnswer) → IsNoSecond query (codes "start") span why ⊎ ((start : ℕ) × IsSecondOfQuery query (codes "start") span start × IsNoSecond query (codes "end") span why) → IsNoCallOfQuery query span why
no_call query span (Book (EndNotAfterStart row)) (inl (value, text, found, decoded, p)) = absurd p
no_call query span (Book (EndNotAfterStart row)) (inr (start, starts, p)) = absurd p.4
no_call query span why p = p
