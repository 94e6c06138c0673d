-- On a live line a SETUP that is to be answered at once is, and nothing else is done otherwise than in a rehearsal.
use Rattle.std.proofs.Common.{◌≡◌, ℕ, ◌+◌, ◌==◌, ◌&&◌, ◌||◌, not, nat_lt, Bool, true, false, List, [], ◌∷◌, Option, Some, None, refl, sym, ap, ◌∙◌, is_some, if◌then◌else◌, arith}
use Rattle.std.proofs.lemmas.Bool.{false≢true, eq-eqb}
use Rattle.std.proofs.lemmas.Bool.Decides.{nat_tests}
use Rattle.bx_channels.specs.Marks.{is_marked}
use Rattle.bx_q931.specs.declared.channel_field.ChannelField.{ChannelField}
use Rattle.bx_q931.specs.declared.channel_field.ChannelField.TheVariants.{Absent, Named, AnyChannel, Unread}
use Rattle.bx_q931.specs.declared.kind.Kind.{Kind}
use Rattle.bx_q931.specs.declared.kind.Kind.TheVariants.{Setup}
use Rattle.bx_calls.specs.PlainCalls.{PlainUserCall}
use Rattle.bx_calls.specs.Said.{Said}
use Rattle.bx_calls.specs.Sending.{Answered, unchanged}
use Rattle.bx_calls.specs.Shared.{bool_eq}
use Rattle.bx_calls.specs.UserTable.{user_offered, user_second}
use Rattle.bx_calls.specs.declared.transition.Next.TheVariants.{Live}
use Rattle.bx_calls.specs.declared.user_state.Policy.{Policy}
use Rattle.bx_calls.specs.declared.user_state.Policy.TheVariants.{Answer, Busy, Silent, Alert, Proceed, Clear}
use Rattle.bx_calls.specs.declared.user_state.UserState.{UserState}
use Rattle.bx_calls.specs.declared.user_state.UserState.TheVariants.{ConnectRequest}
use Rattle.bx_far.specs.FarDay.{FarDay, first_call, far_names, far_follow, far_stray, far_called, far_called_on, far_takes, far_refuses, far_received_by, insert_call, is_on, is_taken, holder, settle_calls}
use Rattle.bx_far.specs.Laws.{IsPromptSetup, answered_now, IsAnsweredAtOnce, IsElseAsRehearsed}
use Rattle.bx_far.specs.LiveReceipts.{is_at_once, far_offered_live, far_received_live, far_receive_live}
use Rattle.bx_far.specs.Policies.{policy_of}
use Rattle.bx_far.proofs.LiveReceipts.{names_none, not_there, waits, offers_none, offers}

-- ---- a new call among the others

none_here : (test : PlainUserCall → Bool) (x : PlainUserCall) (xs : List PlainUserCall) → first_call test (x ∷ xs) ≡ None → (test x ≡ false) × (first_call test xs ≡ None)
none_here test x xs none = by (test x) refl none where
  by : (b : Bool) → test x ≡ b → (if b then Some x else first_call test xs) ≡ None → (test x ≡ false) × (first_call test xs ≡ None)
  by true passes e = absurd (false≢true (sym (ap is_some e)))
  by false passes e = (passes, e)

-- the only one that passes is found
found_there : (test : PlainUserCall → Bool) (new x : PlainUserCall) (xs more : List PlainUserCall) (b : Bool) → test new ≡ true → test x ≡ false → first_call test more ≡ Some new
    → first_call test (if b then new ∷ x ∷ xs else x ∷ more) ≡ Some new
found_there test new x xs more true passes other further = rw passes refl
found_there test new x xs more false passes other further = rw other further

found_new : (test : PlainUserCall → Bool) (new : PlainUserCall) (calls : List PlainUserCall) → test new ≡ true → first_call test calls ≡ None → first_call test (insert_call new calls) ≡ Some new
found_new test new [] passes none = rw passes refl
found_new test new (x ∷ xs) passes none =
    let others = none_here test x xs none in
    found_there test new x xs (insert_call new xs) (nat_lt new.channel x.channel) passes others.0 (found_new test new xs passes others.1)

-- the only one on its channel goes on in its place
settled_there : (new next x : PlainUserCall) (xs more settled : List PlainUserCall) (b : Bool) → is_on new.channel x ≡ false → settle_calls new.channel (Live next) more ≡ settled
    → settle_calls new.channel (Live next) (if b then new ∷ x ∷ xs else x ∷ more) ≡ (if b then next ∷ x ∷ xs else x ∷ settled)
settled_there new next x xs more settled true other further = rw (eq-eqb new.channel new.channel refl) refl
settled_there new next x xs more settled false other further = rw other (ap (λ ys. x ∷ ys) further)

settled_new : (new : PlainUserCall) (s : UserState) (calls : List PlainUserCall) → first_call (is_on new.channel) calls ≡ None
    → settle_calls new.channel (Live (record new { state = s })) (insert_call new calls) ≡ insert_call (record new { state = s }) calls
settled_new new s [] none = rw (eq-eqb new.channel new.channel refl) refl
settled_new new s (x ∷ xs) none =
    let others = none_here (is_on new.channel) x xs none in
    let next = record new { state = s } in
    settled_there new next x xs (insert_call new xs) (insert_call next xs) (nat_lt new.channel x.channel) others.0 (settled_new new s xs others.1)

neither : (a b : Bool) → (a || b) ≡ false → a ≡ false
neither true b e = e
neither false b e = refl

-- ---- a SETUP that is to be answered at once

module _ (d : FarDay) (m : Said) (called : Option (List ℕ)) (c : ℕ) (p : IsPromptSetup d m called c) where
  abbrev new : PlainUserCall
  new = user_offered m.reference c (Answer 0) d.moment

  abbrev taken : Answered FarDay
  taken = record { day = record d { calls = insert_call new d.calls }; reply = None }

  is_taken_so : far_stray d m called m.heard.kind ≡ taken
  is_taken_so =
      ap (far_stray d m called) p.kind
      ∙ (ap (λ (b : Bool). if b then unchanged d None else far_called d m called m.refused) p.flag
      ∙ (ap (far_called d m called) p.bearer
      ∙ (ap (far_called_on d m called) p.channel
      ∙ (ap (λ (b : Bool). if b then far_refuses d m 44 else far_takes d m c (policy_of d.script called)) p.free
      ∙ ap (far_takes d m c) p.policy))))

  names_new : far_names m new ≡ true
  names_new = ap (λ (b : Bool). b && bool_eq true (not m.flag)) (eq-eqb m.reference m.reference refl) ∙ ap (λ (b : Bool). bool_eq true (not b)) p.flag

  alone : first_call (is_on c) d.calls ≡ None
  alone = not_there (holder d c) (neither (is_some (holder d c)) (is_marked d.maintenance c) p.free)

  goes_on : far_follow taken.day c (user_second new d.moment) ≡ answered_now d m c
  goes_on = ap (λ (calls : List PlainUserCall). record { day = record d { calls = calls }; reply = (answered_now d m c).reply }) (settled_new new (ConnectRequest (d.moment + 4)) d.calls alone)

  pub prompt : far_receive_live d m called ≡ answered_now d m c
  prompt =
      names_none d m called p.first
      ∙ (ap (far_offered_live m (policy_of d.script called)) is_taken_so
      ∙ (offers m (policy_of d.script called) taken new (ap is_at_once p.policy) (found_new (far_names m) new d.calls names_new p.first)
      ∙ goes_on))

pub prompt_law : IsAnsweredAtOnce
prompt_law d m called c p = prompt d m called c p

-- ---- and any other message

zero_is : (n : ℕ) → (n == 0) ≡ true → n ≡ 0
zero_is n e = grind (arith, nat_tests)

answers_now : (policy : Policy) → is_at_once policy ≡ true → policy ≡ Answer 0
answers_now (Answer n) e = ap Answer (zero_is n e)
answers_now Busy e = absurd (false≢true e)
answers_now Silent e = absurd (false≢true e)
answers_now Alert e = absurd (false≢true e)
answers_now Proceed e = absurd (false≢true e)
answers_now (Clear n) e = absurd (false≢true e)

module _ (d : FarDay) (m : Said) (called : Option (List ℕ)) (other : (c : ℕ) → IsPromptSetup d m called c → ⊥) (first : first_call (far_names m) d.calls ≡ None) where
  abbrev policy : Policy
  policy = policy_of d.script called

  abbrev Same : Answered FarDay → Type 0
  Same done = far_offered_live m policy done ≡ done

  module _ (now : is_at_once policy ≡ true) (kind : m.heard.kind ≡ Setup) (flag : m.flag ≡ false) (bearer : m.refused ≡ None) where
    by_taken : (c : ℕ) (exclusive b : Bool) → m.heard.channel ≡ Named c exclusive → is_taken d c ≡ b → Same (if b then far_refuses d m 44 else far_takes d m c policy)
    by_taken c exclusive true channel held = offers_none m policy (far_refuses d m 44) first
    by_taken c exclusive false channel free = absurd (other c (record {
      kind = kind;
      flag = flag;
      first = first;
      bearer = bearer;
      exclusive = exclusive;
      channel = channel;
      free = free;
      policy = answers_now policy now;
    }))

    by_channel : (field : ChannelField) → m.heard.channel ≡ field → Same (far_called_on d m called field)
    by_channel Absent e = offers_none m policy (far_refuses d m 96) first
    by_channel AnyChannel e = offers_none m policy (far_refuses d m 44) first
    by_channel Unread e = offers_none m policy (far_refuses d m 44) first
    by_channel (Named c exclusive) e = by_taken c exclusive (is_taken d c) e refl

  module _ (now : is_at_once policy ≡ true) where
    by_bearer : m.heard.kind ≡ Setup → m.flag ≡ false → (cause : Option ℕ) → m.refused ≡ cause → Same (far_called d m called cause)
    by_bearer kind flag (Some cause) e = offers_none m policy (far_refuses d m cause) first
    by_bearer kind flag None e = by_channel now kind flag e m.heard.channel refl

    by_flag : m.heard.kind ≡ Setup → (b : Bool) → m.flag ≡ b → Same (if b then unchanged d None else far_called d m called m.refused)
    by_flag kind true e = offers_none m policy (unchanged d None) first
    by_flag kind false e = by_bearer kind e m.refused refl

    by_kind : (kind : Kind) → m.heard.kind ≡ kind → Same (far_stray d m called kind)
    by_kind Setup e = by_flag e m.flag refl
    by_kind kind e = offers_none m policy (far_stray d m called kind) first

  pub unprompted : Same (far_stray d m called m.heard.kind)
  unprompted = by (is_at_once policy) refl where
    by : (b : Bool) → is_at_once policy ≡ b → Same (far_stray d m called m.heard.kind)
    by true now = by_kind now m.heard.kind refl
    by false later = waits m policy (far_stray d m called m.heard.kind) later

pub rehearsed_law : IsElseAsRehearsed
rehearsed_law d m called other = by (first_call (far_names m) d.calls) refl where
  by : (o : Option PlainUserCall) → first_call (far_names m) d.calls ≡ o → far_received_live d m called o ≡ far_received_by d m called o
  by None first = unprompted d m called other first
  by (Some call) first = refl
