-- Each row of a script that is read is within its limits, since its fields were looked at.
use Rattle.std.proofs.Common.{ℕ, ◌==◌, ◌&&◌, not, List, [], ◌∷◌, Option, Some, None, subst, nat_le, codes, length, option_map, option_and_then}
use Rattle.std.specs.List.{AllByRecursion, list_all}
use Rattle.std.specs.Str.{bytes_eq}
use Rattle.std.specs.Str.Parse.{digits_value}
use Rattle.std.specs.Char.{is_ascii_digit}
use Rattle.std.proofs.lemmas.Bool.{and_parts, leb-true, eqb-false, not-true}
use Rattle.bx_channels.specs.ChannelNumbers.{IsChannel}
use Rattle.bx_channels.specs.Numbers.{IsNumber}
use Rattle.bx_q931.specs.Values.{is_number, is_channel}
use Rattle.bx_q931.proofs.ValueLemmas.{number_decides}
use Rattle.bx_calls.specs.declared.user_state.Policy.{Policy}
use Rattle.bx_text.specs.Records.{field_of}
use Rattle.bx_text.specs.Rows.{AreRows}
use Rattle.bx_day.proofs.Tick.{by_cases}
use Rattle.bx_far.specs.ScriptRows.{number_of, is_channel_text, script_channel_of, script_seconds_of, policy_word, follows_row, calls_at, calls_row, policy_row, script_row_in, script_row_of, IsScriptRowOf}
use Rattle.bx_far.specs.ScriptTexts.{IsScript}
use Rattle.bx_far.specs.declared.row.ScriptRow.{ScriptRow}
use Rattle.bx_far.specs.declared.row.ScriptRow.TheVariants.{Follows}
use Rattle.bx_two_ends.specs.Scripts.{IsScriptRow}

abbrev Where : {X : Type 0} → (X → Type 0) → Option X → Type 0
Where P None = Unit {0}
Where P (Some x) = P x

-- what a value is made into, if there is one
made : {X : Type 0} (P : ScriptRow → Type 0) (f : X → Option ScriptRow) → ((x : X) → Where P (f x)) → (o : Option X) → Where P (option_and_then f o)
made P f h None = tt
made P f h (Some x) = h x

number_fits : (field : List ℕ) → Where IsNumber (number_of field)
number_fits field = by_cases (is_number field) _ _ (Where IsNumber) (λ q. (number_decides field).0 q) (λ _. tt)

channel_fits : (field : List ℕ) → Where IsChannel (script_channel_of field)
channel_fits field = by_cases (is_channel_text field) _ _ (Where IsChannel)
    (λ q.
    let n = digits_value 10 field in
    let p = and_parts (nat_le (length field) 2 && list_all is_ascii_digit field) (is_channel n) q in
    let r = and_parts (nat_le 1 n && nat_le n 31) (not (n == 16)) p.1 in
    let s = and_parts (nat_le 1 n) (nat_le n 31) r.0 in
    (leb-true 1 n s.0, leb-true n 31 s.1, eqb-false n 16 (not-true (n == 16) r.1)))
    (λ _. tt)

calls_fit : (moment : ℕ) (number : Option (List ℕ)) (channel : Option ℕ) → Where IsNumber number → Where IsChannel channel → Where IsScriptRow (calls_at moment number channel)
calls_fit moment (Some number) (Some channel) n c = (n, c)
calls_fit moment (Some number) None n c = tt
calls_fit moment None channel n c = tt

follows_fit : (called : List ℕ) (policy : Policy) → Where IsScriptRow (follows_row called policy)
follows_fit called policy = by_cases (bytes_eq called (codes "*")) _ _ (Where IsScriptRow) (λ _. tt) (λ _. numbered (number_of called))
  where
    numbered : (o : Option (List ℕ)) → Where IsScriptRow (option_map (λ number. Follows (Some number) policy) o)
    numbered None = tt
    numbered (Some number) = tt

policy_fits : (fields : List (List ℕ)) (seconds : ℕ) → Where IsScriptRow (policy_row fields seconds)
policy_fits fields seconds = by_cases (length (field_of fields 3) == 0) _ _ (Where IsScriptRow)
    (λ _. made IsScriptRow (follows_row (field_of fields 0)) (follows_fit (field_of fields 0)) (policy_word (field_of fields 1) seconds)) (λ _. tt)

calling_fits : (called : List ℕ) (moment : ℕ) (channel : List ℕ) → Where IsScriptRow (calls_row called moment channel)
calling_fits called moment channel = by_cases (moment == 0) _ _ (Where IsScriptRow) (λ _. tt) (λ _. calls_fit moment (number_of called) (script_channel_of channel) (number_fits called) (channel_fits channel))

row_fits : (columns : ℕ) (fields : List (List ℕ)) → Where IsScriptRow (script_row_of columns fields)
row_fits columns fields = made IsScriptRow (script_row_in columns fields)
    (λ seconds. by_cases ((columns == 4) && bytes_eq (field_of fields 1) (codes "call")) _ _ (Where IsScriptRow)
    (λ _. calling_fits (field_of fields 0) seconds (field_of fields 3)) (λ _. policy_fits fields seconds)) (script_seconds_of (field_of fields 2))

rows_fit : (columns : ℕ) (records : List (List (List ℕ))) (rows : List ScriptRow) → AreRows (IsScriptRowOf columns) records rows → AllByRecursion IsScriptRow rows
rows_fit columns [] [] h = tt
rows_fit columns [] (b ∷ bs) h = absurd h
rows_fit columns (r ∷ rs) [] h = absurd h
rows_fit columns (r ∷ rs) (b ∷ bs) h = (subst (Where IsScriptRow) h.0.row_is (row_fits columns r), rows_fit columns rs bs h.1)

pub scripts_fit : (text : List ℕ) (script : List ScriptRow) → IsScript text script → AllByRecursion IsScriptRow script
scripts_fit text script h = rows_fit h.columns h.leading.records script h.leading.are_rows
