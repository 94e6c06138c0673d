-- What an end has gone through so far, and what it goes through after that.
use Rattle.std.proofs.Common.{◌≡◌, ℕ, ◌+◌, ◌≤◌, List, [], ◌∷◌, ◌++◌, length, take, refl, sym, ap, ◌∙◌, subst, append_assoc, append-nil, length-append, arith, Option, Some, Result, Ok, Bool, true, ◌⊎◌, inl, inr}
use Rattle.std.proofs.Math.Seq.{take-append-add}
use Rattle.std.specs.Io.KnownBytes.{Appends}
use Rattle.std.proofs.KnownBytes.{Appends-nil, Appends-trans}
use Rattle.bx_devices.specs.declared.watched.Watched.{Watched}
use Rattle.bx_devices.specs.Watching.{device_of, is_faulted, reads_of}
use Rattle.bx_events.specs.Events.{Event}
use Rattle.bx_frames.specs.Courses.{after, told}
use Rattle.bx_frames.specs.Reading.{IsRead}
use Rattle.bx_frames.specs.Talks.{Talk, with_events, stop}
use Rattle.bx_frames.specs.Heard.{IsWholeTalk, BreaksOff, IsHeard, IsCutShort, Tells, TalksThrough}
use Rattle.bx_frames.specs.declared.fault.LinkFault.{LinkFault}
use Rattle.bx_frames.specs.declared.frame.Receiver.{Receiver}
use Rattle.bx_frames.proofs.ReadAnswers.{fails_after, either_first}
use Rattle.bx_frames.proofs.Events.{after_more, told_more, last_following}

pub with_more : (xs ys : List Event) (talk : Talk) → with_events xs (with_events ys talk) ≡ with_events (xs ++ ys) talk
with_more xs ys talk = ap (λ (l : List Event). record talk { events = l }) (sym (append_assoc xs ys talk.events))

-- these events were read of the text; whatever comes after what was read is heard after them
pub record IsBeyond (finds onward : List ℕ → Talk) (text : List ℕ) (events : List Event) (left : Option (List ℕ)) : Type 0 where
  pub read : List ℕ
  pub is_read : IsRead text read left
  pub splits : (more : List ℕ) → finds (read ++ more) ≡ with_events events (onward more)

-- an end has gone through these events without a fault
pub record SoFar {D R W : Type 0} (next : D → Event → D) (text : D → Event → List ℕ) (finds onward : List ℕ → Talk) (remaining : R → Option (List ℕ)) (contents : W → Option (List ℕ))
    (r r' : Watched R) (w w' : Watched W) (d d' : D) (events : List Event) : Type 0 where
  pub day : d' ≡ after next events d
  pub talk : (known : List ℕ) → remaining (device_of r) ≡ Some known → IsBeyond finds onward known events (remaining (device_of r'))
  pub written : Appends (contents (device_of w)) (contents (device_of w')) (told next text events d)
  pub reader : is_faulted r' ≡ is_faulted r
  pub counted : reads_of r ≤ reads_of r'
  pub writer : is_faulted w' ≡ is_faulted w

-- ---- what was heard, after what was heard before

module _ (finds onward : List ℕ → Talk) (xs : List Event) where
  pub read_on : (text : List ℕ) (left : Option (List ℕ)) (a : IsBeyond finds onward text xs left) (read : List ℕ) (later : Option (List ℕ)) → IsRead a.is_read.rest read later → IsRead text (a.read ++ read) later
  read_on text left a read later b = record { rest = b.rest; splits = a.is_read.splits ∙ ap (λ (l : List ℕ). a.read ++ l) b.splits ∙ sym (append_assoc a.read read b.rest); is_left = b.is_left }

  module _ (receiver : Receiver) (text : List ℕ) (ys : List Event) (result : Result Bool LinkFault) (left later : Option (List ℕ)) (a : IsBeyond finds onward text xs left) where
    pub heard_on : IsHeard receiver onward a.is_read.rest ys result later → IsHeard receiver finds text (xs ++ ys) result later
    heard_on (inl whole) =
        let e : finds text ≡ with_events xs (onward a.is_read.rest) = ap finds a.is_read.splits ∙ a.splits a.is_read.rest in
        inl (record {
          all = ap (λ (l : List Event). xs ++ l) whole.all ∙ sym (ap (λ (t : Talk). t.events) e);
          ending = whole.ending ∙ sym (ap (λ (t : Talk). t.ending) e);
          rest = whole.rest ∙ sym (ap (λ (t : Talk). Some t.rest) e);
        })
    heard_on (inr (inl (failed, torn))) =
        let e = a.splits torn.read in
        inr (inl (
          failed,
          record {
            read = a.read ++ torn.read;
            is_read = read_on text left a torn.read later torn.is_read;
            all = ap (λ (l : List Event). xs ++ l) torn.all ∙ sym (ap (λ (t : Talk). t.events) e);
            cut = ap (λ (t : Talk). t.ending) e ∙ torn.cut;
          },
        ))
    heard_on (inr (inr (failed, unread))) =
        let e = a.splits unread.read in
        inr (inr (
          failed,
          record {
            read = a.read ++ unread.read;
            is_read = read_on text left a unread.read later unread.is_read;
            all = ap (λ (l : List Event). xs ++ l) unread.all ∙ sym (ap (λ (t : Talk). t.events) e);
            following = ap (λ (t : Talk). t.following) e ∙ unread.following;
            rest = ap (λ (t : Talk). t.rest) e ∙ unread.rest;
            cut = cut_on unread.read e unread.cut;
          },
        )) where
          cut_on : (read : List ℕ) → finds (a.read ++ read) ≡ with_events xs (onward read) → BreaksOff receiver (onward read).ending ys → BreaksOff receiver (finds (a.read ++ read)).ending (xs ++ ys)
          cut_on read e (inl cut) = inl (ap (λ (t : Talk). t.ending) e ∙ cut)
          cut_on read e (inr (ended, last, far)) = inr (ap (λ (t : Talk). t.ending) e ∙ ended, last_following xs ys last, far)

-- ---- both

pub either_later : {P Q S : Type 0} → (Q → S) → P ⊎ Q → P ⊎ S
either_later f (inl p) = inl p
either_later f (inr q) = inr (f q)

module _ {D R W : Type 0} (next : D → Event → D) (text : D → Event → List ℕ) (finds : List ℕ → Talk) (remaining : R → Option (List ℕ)) (contents : W → Option (List ℕ)) (r : Watched R) (w : Watched W) (d : D) where
  pub nothing_yet : SoFar next text finds finds remaining contents r r w w d d []
  nothing_yet = record {
    day = refl;
    talk = λ known e. record { read = []; is_read = record { rest = known; splits = refl; is_left = e }; splits = λ more. refl };
    written = Appends-nil (contents (device_of w));
    reader = refl;
    counted = omega arith;
    writer = refl;
  }

module _ {D R W : Type 0} (next : D → Event → D) (text : D → Event → List ℕ) (finds onward : List ℕ → Talk) (remaining : R → Option (List ℕ)) (contents : W → Option (List ℕ))
    (r r1 r2 : Watched R) (w w1 w2 : Watched W) (d d1 d2 : D) (xs ys : List Event) (before : SoFar next text finds onward remaining contents r r1 w w1 d d1 xs) where
  day_on : d2 ≡ after next ys d1 → d2 ≡ after next (xs ++ ys) d
  day_on e = e ∙ ap (after next ys) before.day ∙ sym (after_more next xs ys d)

  told_on : (zs : List Event) → told next text xs d ++ told next text zs d1 ≡ told next text (xs ++ zs) d
  told_on zs = ap (λ (x : D). told next text xs d ++ told next text zs x) before.day ∙ sym (told_more next text xs zs d)

  appends_on : (zs : List Event) → Appends (contents (device_of w1)) (contents (device_of w2)) (told next text zs d1) → Appends (contents (device_of w)) (contents (device_of w2)) (told next text (xs ++ zs) d)
  appends_on zs p = subst (Appends (contents (device_of w)) (contents (device_of w2))) (told_on zs)
      (Appends-trans (contents (device_of w)) (contents (device_of w1)) (contents (device_of w2)) (told next text xs d) (told next text zs d1) before.written p)

  cut_short_on : IsCutShort next text (contents (device_of w1)) (contents (device_of w2)) d1 ys → IsCutShort next text (contents (device_of w)) (contents (device_of w2)) d (xs ++ ys)
  cut_short_on p =
      let a = contents (device_of w) in
      let c = contents (device_of w2) in
      let first = told next text xs d in
      let second = told next text ys d1 in
      record {
        before = xs ++ p.before;
        last = p.last;
        all = ap (λ (l : List Event). xs ++ l) p.all ∙ sym (append_assoc xs p.before (p.last ∷ []));
        count = length first + p.count;
        least = omega (arith, p.least, length-append first (told next text p.before d1), ap (λ (l : List ℕ). length l) (told_on p.before));
        most = omega (arith, p.most, length-append first second, ap (λ (l : List ℕ). length l) (told_on ys));
        written = subst (Appends a c) (sym (take-append-add first second p.count) ∙ ap (take (length first + p.count)) (told_on ys))
            (Appends-trans a (contents (device_of w1)) c first (take p.count second) before.written p.written);
      }

  tells_on : (result : Result Bool LinkFault) → Tells next text contents w1 w2 d1 ys result → Tells next text contents w w2 d (xs ++ ys) result
  tells_on result p = record {
    whole = either_later (appends_on ys) p.whole;
    part = λ e. cut_short_on (p.part e);
    faulted = p.faulted;
    unfaulted = either_first (λ q. q ∙ before.writer) p.unfaulted;
  }

  -- after what went well
  pub then_goes : (receiver : Receiver) (result : Result Bool LinkFault) → TalksThrough receiver next text onward remaining contents r1 r2 w1 w2 d1 d2 ys result → TalksThrough receiver next text finds remaining contents r r2 w w2 d d2 (xs ++ ys) result
  then_goes receiver result p = record {
    day = day_on p.day;
    talk = λ known e. let a = before.talk known e in heard_on finds onward xs receiver known ys result (remaining (device_of r1)) (remaining (device_of r2)) a (p.talk a.is_read.rest a.is_read.is_left);
    written = tells_on result p.written;
    faulted = λ e. fails_after r r1 r2 before.counted (p.faulted e);
    counted = omega (arith, before.counted, p.counted);
    unfaulted = either_first (λ q. q ∙ before.reader) p.unfaulted;
  }

  pub then_so_far : (later : List ℕ → Talk) → SoFar next text onward later remaining contents r1 r2 w1 w2 d1 d2 ys → SoFar next text finds later remaining contents r r2 w w2 d d2 (xs ++ ys)
  then_so_far later p = record {
    day = day_on p.day;
    talk = λ known e.
        let a = before.talk known e in
        let b = p.talk a.is_read.rest a.is_read.is_left in
        record {
          read = a.read ++ b.read;
          is_read = read_on finds onward xs known (remaining (device_of r1)) a b.read (remaining (device_of r2)) b.is_read;
          splits = λ more. ap finds (append_assoc a.read b.read more) ∙ a.splits (b.read ++ more) ∙ ap (with_events xs) (b.splits more) ∙ with_more xs ys (later more);
        };
    written = appends_on ys p.written;
    reader = p.reader ∙ before.reader;
    counted = omega (arith, before.counted, p.counted);
    writer = p.writer ∙ before.writer;
  }

-- nothing is to come
module _ {D R W : Type 0} (next : D → Event → D) (text : D → Event → List ℕ) (finds onward : List ℕ → Talk) (remaining : R → Option (List ℕ)) (contents : W → Option (List ℕ))
    (r r1 : Watched R) (w w1 : Watched W) (d d1 : D) (xs : List Event) (over : (more : List ℕ) → onward more ≡ stop (Ok true) more more) where
  is_whole : (text : List ℕ) (left : Option (List ℕ)) → IsBeyond finds onward text xs left → IsWholeTalk (finds text) xs (Ok true) left
  is_whole text left a =
      let e : finds text ≡ with_events xs (stop (Ok true) a.is_read.rest a.is_read.rest) = ap finds a.is_read.splits ∙ a.splits a.is_read.rest ∙ ap (with_events xs) (over a.is_read.rest) in
      record {
        all = sym (append-nil xs) ∙ sym (ap (λ (t : Talk). t.events) e);
        ending = sym (ap (λ (t : Talk). t.ending) e);
        rest = a.is_read.is_left ∙ sym (ap (λ (t : Talk). Some t.rest) e);
      }

  pub all_goes : (receiver : Receiver) → SoFar next text finds onward remaining contents r r1 w w1 d d1 xs → TalksThrough receiver next text finds remaining contents r r1 w w1 d d1 xs (Ok true)
  all_goes receiver p = record {
    day = p.day;
    talk = λ known e. inl (is_whole known (remaining (device_of r1)) (p.talk known e));
    written = record { whole = inr p.written; part = λ e. cc; faulted = λ e. cc; unfaulted = inl p.writer };
    faulted = λ e. cc;
    counted = p.counted;
    unfaulted = inl p.reader;
  }
