-- A call of either side, with no word on how it lies in memory.
use Rattle.std.specs.Prelude.{ℕ}
use Rattle.bx_calls.specs.declared.net_state.NetOrigin.{NetOrigin}
use Rattle.bx_calls.specs.declared.net_state.NetState.{NetState}
use Rattle.bx_calls.specs.declared.user_state.UserOrigin.{UserOrigin}
use Rattle.bx_calls.specs.declared.user_state.UserState.{UserState}

pub record PlainNetCall : Type 0 where
  pub reference : ℕ
  pub channel : ℕ
  pub origin : NetOrigin
  pub state : NetState

pub record PlainUserCall : Type 0 where
  pub reference : ℕ
  pub channel : ℕ
  pub origin : UserOrigin
  pub state : UserState
