-- Why nothing was amended, or told of what channels would earn, as the commands say it.
use Rattle.std.proofs.Common.{◌≡◌, ◌↔◌, ℕ, List, Option, Some, None, Result, Err, subst, sym, ◌∙◌, refl, inl, inr}
use Rattle.std.specs.Prelude.{IfErr}
use Rattle.bx_base.specs.PlanParts.{Parts}
use Rattle.bx_plan_commands.specs.PlanRefusals.{IsUntold}
use Rattle.bx_planner.specs.Writing.{IsExplainRefusal, IsListRefusal}
use Rattle.bx_planner.specs.declared.writing.QuoteFault.{QuoteFault}
use Rattle.std.specs.Borrow.{Bor}
use Rattle.bx_book.specs.Rows.{Span}
use Rattle.bx_book.specs.Streams.{IsStreamFault}
use Rattle.bx_book.specs.declared.stream.StreamFault.{StreamFault}
use Rattle.bx_book.specs.declared.stream.StreamFault.TheVariants as stream
use Rattle.bx_devices.specs.Devices.{Reading, Writing}
use Rattle.bx_plan_commands.specs.Inside.{capacity_told_of}
use Rattle.bx_plan_commands.specs.Tables.{IsTableFault}
use Rattle.bx_plan_commands.specs.Capacity.{IsCapacityRefusal}
use Rattle.bx_plan_commands.specs.declared.earning.CapacityFault.{CapacityFault}
use Rattle.bx_plan_commands.specs.declared.earning.CapacityFault.TheVariants.{Unread, WriteFailed, Memory}

pub errors_alike : {A B : Type 0} (f g : B) (P : Type 0) → (◌≡◌ {A = Result A B} (Err f) (Err g) ↔ P) → (f ≡ g) ↔ P
errors_alike f g P (there, back) = ((λ e. there (cc e)), (λ p. cc (back p)))

pub same_fault : (input : Reading) (span : Span) (found told : StreamFault) → found ≡ told → IsStreamFault input span found → IsStreamFault input span told
same_fault input span found told e why = subst (IsStreamFault input span) e why

pub table_fault : (name : Bor (List ℕ)) (input : Reading) (output : Writing) (span : Span) (fault : CapacityFault) → IsCapacityRefusal input output span fault → IsTableFault name.now input output span (capacity_told_of name fault)
table_fault name input output span (Unread stream.ReadFailed) why = (refl, inl why)
table_fault name input output span (Unread stream.TooLong) why = (refl, inr why)
table_fault name input output span (Unread (stream.Book fault)) why = why
table_fault name input output span (Unread stream.Memory) why = inl why
table_fault name input output span WriteFailed why = why
table_fault name input output span Memory why = inr why

-- nothing was told of a row, or of all that is refused
pub untold_row : {T : Type 0} (row : Option ℕ) (n : ℕ) (plan : Parts) (output written : Writing) (r done : Result T QuoteFault) (fault : QuoteFault) → row ≡ Some n → written ≡ output → done ≡ r → done ≡ Err fault
    → IfErr r (IsExplainRefusal plan n output) → IsUntold row plan written fault
untold_row {T = T} row n plan output written r done fault is same is_r is_err why =
    subst (λ (o : Option ℕ). IsUntold o plan written fault) (sym is) (subst (λ (w : Writing). IsExplainRefusal plan n w fault) (sym same) (subst (λ (d : Result T QuoteFault). IfErr d (IsExplainRefusal plan n output)) (sym is_r ∙ is_err) why))

pub untold : {T : Type 0} (row : Option ℕ) (plan : Parts) (output written : Writing) (r done : Result T QuoteFault) (fault : QuoteFault) → row ≡ None → written ≡ output → done ≡ r → done ≡ Err fault
    → IfErr r (IsListRefusal plan output) → IsUntold row plan written fault
untold {T = T} row plan output written r done fault is same is_r is_err why =
    subst (λ (o : Option ℕ). IsUntold o plan written fault) (sym is) (subst (λ (w : Writing). IsListRefusal plan w fault) (sym same) (subst (λ (d : Result T QuoteFault). IfErr d (IsListRefusal plan output)) (sym is_r ∙ is_err) why))
