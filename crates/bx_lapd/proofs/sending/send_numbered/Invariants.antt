use Rattle.std.proofs.Common.{◌≡◌, ◌+◌, ◌<◌, ◌++◌, length, drop}
use Rattle.bx_lapd.specs.Links.{numbered_frames}
use Rattle.bx_lapd.proofs.sending.send_numbered.Given as goal

abbrev pub invariant-loop-message : goal.invariant-loop-message
invariant-loop-message l = record {
  small : l.next < 256;
  rest : l.out.frames ++ numbered_frames l.next l.received (drop l.message-index l.messages) ≡ l.initial.out.frames ++ numbered_frames l.sent l.received l.messages;
  told : l.out.told ≡ l.initial.out.told;
  count : length l.out.frames ≡ length l.initial.out.frames + l.message-index;
}
