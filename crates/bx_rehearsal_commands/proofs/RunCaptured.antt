-- What the world of a capture has taken of the acts of a run.
use Rattle.std.proofs.Common.{◌≡◌, ℕ, ◌+◌, min, Bool, List, [], ◌∷◌, ◌++◌, Option, Some, None, Ok, Err, refl, subst}
use Rattle.std.specs.List.{flat_map}
use Rattle.bx_capture.specs.Captures.{packet_sent, Keeps, is_unfaulted}
use Rattle.bx_capture.specs.Packets.{packet}
use Rattle.bx_capture.specs.Keeping.{keeps_nil, keeps_more}
use Rattle.bx_capture.specs.declared.packet.Direction.TheVariants.{Received}
use Rattle.bx_devices.specs.declared.watched.Watched.{Watched}
use Rattle.bx_frames.specs.declared.frame.Frame.TheVariants as frames
use Rattle.bx_live.specs.Acts.{Act, Began, Dropped, Logged, Synced, Wrote, Read, Took, EndedDay}
use Rattle.bx_world.specs.Captures.{Captures}
use Rattle.bx_live.specs.Chains.{Chain, chain_first}
use Rattle.bx_world.specs.declared.captured.CapturedWorld.{CapturedWorld}
use Rattle.bx_rehearsal_commands.specs.RunCaptures.{ArePackets, IsRunKept}

module _ {W F : Type 0} (contents : F → Option (List ℕ)) where
  -- the packets of acts from a world on, into the file
  pub record Taken (old : CapturedWorld W F) (acts : List Act) (file : Option (Watched F)) : Type 0 where
    pub packets : List ℕ
    pub of_acts : ArePackets old.first old.second acts packets
    pub keeps : Keeps contents old.file file packets

  -- an act that takes nothing
  still : (old mid : CapturedWorld W F) (acts : List Act) (file : Option (Watched F)) (act : Act) → mid.file ≡ old.file → mid.second ≡ old.second → mid.first ≡ old.first
      → ((first second : ℕ) (packets : List ℕ) → ArePackets first second acts packets → ArePackets first second (act ∷ acts) packets) → Taken mid acts file → Taken old (act ∷ acts) file
  still old mid acts file act same second first so taken = record {
    packets = taken.packets;
    of_acts = so old.first old.second taken.packets (subst (λ (n : ℕ). ArePackets n old.second acts taken.packets) first (subst (λ (n : ℕ). ArePackets mid.first n acts taken.packets) second taken.of_acts));
    keeps = subst (λ (o : Option (Watched F)). Keeps contents o file taken.packets) same taken.keeps;
  }

  pub taken_on : (acts : List Act) (old new : CapturedWorld W F) → Chain (Captures contents) old acts new → Taken old acts new.file
  taken_on [] old new e = record { packets = []; of_acts = refl; keeps = subst (λ (c : CapturedWorld W F). Keeps contents old.file c.file []) e (keeps_nil contents old.file) }
  taken_on (Began second begin ∷ acts) old new chain =
      let (mid, step, more) = chain_first (Captures contents) old new (Began second begin) acts chain in
      let taken = taken_on acts mid new more in
      record {
        packets = taken.packets;
        of_acts = subst (λ (n : ℕ). ArePackets n (min second 300000) acts taken.packets) step.first (subst (λ (n : ℕ). ArePackets mid.first n acts taken.packets) step.second taken.of_acts);
        keeps = subst (λ (o : Option (Watched F)). Keeps contents o new.file taken.packets) step.file taken.keeps;
      }
  taken_on (Wrote octets done ∷ acts) old new chain =
      let (mid, step, more) = chain_first (Captures contents) old new (Wrote octets done) acts chain in
      let taken = taken_on acts mid new more in
      let (messages, frames, keeps) = step.file in
      let here = flat_map (packet_sent (old.first + old.second)) messages in
      record {
        packets = here ++ taken.packets;
        of_acts = (messages, frames, (taken.packets, refl, subst (λ (n : ℕ). ArePackets n old.second acts taken.packets) step.first (subst (λ (n : ℕ). ArePackets mid.first n acts taken.packets) step.second taken.of_acts)));
        keeps = keeps_more contents old.file mid.file new.file here taken.packets keeps taken.keeps;
      }
  taken_on (Read room (Ok (frames.Message message)) ∷ acts) old new chain =
      let (mid, step, more) = chain_first (Captures contents) old new (Read room (Ok (frames.Message message))) acts chain in
      let taken = taken_on acts mid new more in
      let here = packet (old.first + old.second) Received message.items in
      record {
        packets = here ++ taken.packets;
        of_acts = (taken.packets, refl, subst (λ (n : ℕ). ArePackets n old.second acts taken.packets) step.first (subst (λ (n : ℕ). ArePackets mid.first n acts taken.packets) step.second taken.of_acts));
        keeps = keeps_more contents old.file mid.file new.file here taken.packets step.file taken.keeps;
      }
  taken_on (Read room (Ok (frames.EndOfTurn moment)) ∷ acts) old new chain =
      let (mid, step, more) = chain_first (Captures contents) old new (Read room (Ok (frames.EndOfTurn moment))) acts chain in still old mid acts new.file (Read room (Ok (frames.EndOfTurn moment))) step.file step.second step.first (λ first second packets p. p) (taken_on acts mid new more)
  taken_on (Read room (Ok frames.EndOfDay) ∷ acts) old new chain =
      let (mid, step, more) = chain_first (Captures contents) old new (Read room (Ok frames.EndOfDay)) acts chain in still old mid acts new.file (Read room (Ok frames.EndOfDay)) step.file step.second step.first (λ first second packets p. p) (taken_on acts mid new more)
  taken_on (Read room (Err fault) ∷ acts) old new chain =
      let (mid, step, more) = chain_first (Captures contents) old new (Read room (Err fault)) acts chain in still old mid acts new.file (Read room (Err fault)) step.file step.second step.first (λ first second packets p. p) (taken_on acts mid new more)
  taken_on (Took (Some message) ∷ acts) old new chain =
      let (mid, step, more) = chain_first (Captures contents) old new (Took (Some message)) acts chain in
      let taken = taken_on acts mid new more in
      let here = packet (old.first + old.second) Received message.items in
      record {
        packets = here ++ taken.packets;
        of_acts = (taken.packets, refl, subst (λ (n : ℕ). ArePackets n old.second acts taken.packets) step.first (subst (λ (n : ℕ). ArePackets mid.first n acts taken.packets) step.second taken.of_acts));
        keeps = keeps_more contents old.file mid.file new.file here taken.packets step.file taken.keeps;
      }
  taken_on (Took None ∷ acts) old new chain =
      let (mid, step, more) = chain_first (Captures contents) old new (Took None) acts chain in still old mid acts new.file (Took None) step.file step.second step.first (λ first second packets p. p) (taken_on acts mid new more)
  taken_on (Dropped loss ∷ acts) old new chain =
      let (mid, step, more) = chain_first (Captures contents) old new (Dropped loss) acts chain in still old mid acts new.file (Dropped loss) step.file step.second step.first (λ first second packets p. p) (taken_on acts mid new more)
  taken_on (Logged event done ∷ acts) old new chain =
      let (mid, step, more) = chain_first (Captures contents) old new (Logged event done) acts chain in still old mid acts new.file (Logged event done) step.file step.second step.first (λ first second packets p. p) (taken_on acts mid new more)
  taken_on (Synced done ∷ acts) old new chain =
      let (mid, step, more) = chain_first (Captures contents) old new (Synced done) acts chain in still old mid acts new.file (Synced done) step.file step.second step.first (λ first second packets p. p) (taken_on acts mid new more)
  taken_on (EndedDay ∷ acts) old new chain =
      let (mid, step, more) = chain_first (Captures contents) old new EndedDay acts chain in still old mid acts new.file EndedDay step.file step.second step.first (λ first second packets p. p) (taken_on acts mid new more)

  -- the same of a world that is captured from the first second on
  pub run_kept : (acts : List Act) (old new : CapturedWorld W F) (file : Option (Watched F)) (first : ℕ) (is_whole : Bool) → old.file ≡ file → old.first ≡ first → is_whole ≡ is_unfaulted new.file → Chain (Captures contents) old acts new
      → IsRunKept contents file first acts is_whole
  run_kept acts old new file first is_whole same at whole chain =
      let taken = taken_on acts old new chain in
      record {
        closed = new.file;
        before = old.second;
        packets = taken.packets;
        of_run = subst (λ (n : ℕ). ArePackets n old.second acts taken.packets) at taken.of_acts;
        keeps = subst (λ (o : Option (Watched F)). Keeps contents o new.file taken.packets) same taken.keeps;
        whole = whole;
      }
