-- Private: what its functions promise one another.
use Rattle.std.specs.Prelude.{◌≡◌, ℕ, ◌==◌, ◌&&◌, not, Bool, true, List}
use Rattle.bx_devices.specs.Devices.{Writing}
use Rattle.bx_devices.specs.Octets.{AppendsPrefix}
use Rattle.bx_planner.specs.declared.writing.QuoteFault.{QuoteFault}
use Rattle.bx_planner.specs.declared.writing.QuoteFault.TheVariants as fault

-- whether a row other than that at i is in the one set, and not in the other
abbrev pub is_apart : (ℕ → Bool) → (ℕ → Bool) → ℕ → ℕ → Bool
is_apart one other i j = not (j == i) && (one j && not (other j))

-- a text was not written: the output failed, and a prefix of it was
abbrev pub IsWriteFault : Writing → List ℕ → QuoteFault → Type 0
IsWriteFault output text fault.WriteFailed = (output.is_faulted ≡ true) × AppendsPrefix output.before output.after text
IsWriteFault output text _ = ⊥
