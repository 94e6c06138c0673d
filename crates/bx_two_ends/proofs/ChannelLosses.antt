-- The rest of a turn on a channel, from what the far end has said to it: whatever is lost of what both ends say, the ends are loose.
use Rattle.std.proofs.Common.{◌≡◌, ◌≢◌, inl, inr, ℕ, ◌+◌, ◌%◌, Bool, List, [], ◌∷◌, ◌++◌, Option, Some, None, refl, sym, ap, subst, ◌∙◌, if◌then◌else◌}
use Rattle.std.specs.Prelude.{option_map}
use Rattle.std.proofs.lemmas.Bool.{eq-eqb, ne_eqb}
use Rattle.bx_q931.specs.Outgoing.{Outgoing, plain}
use Rattle.bx_q931.specs.declared.kind.Kind.TheVariants.{Release}
use Rattle.bx_calls.specs.NetTable.{net_message}
use Rattle.bx_calls.specs.UserTable.{user_message, user_second}
use Rattle.bx_calls.specs.PlainCalls.{PlainNetCall, PlainUserCall}
use Rattle.bx_calls.specs.Saying.{with_kept_cause}
use Rattle.bx_two_ends.proofs.OneChannel.{Left, left_as, IsPart, heard_from, near_meets, near_meets_all, near_stepped, near_strays, far_meets, far_meets_all, far_passes, far_stepped, far_strays}
use Rattle.bx_two_ends.proofs.ChannelStates.{IsLoose, IsKeptOn, IsUnbrokenFar, TurnLeaves, asked_in, passed_in_turn, left_in}

-- ---- whom a message meets

pub near_named : (u : ℕ) (c : PlainNetCall) (o : Outgoing) → c.reference ≡ o.reference → near_meets u (Some c) o ≡ near_stepped (net_message c (heard_from o) u)
near_named u c o same = ap (λ b. if b then near_stepped (net_message c (heard_from o) u) else near_strays (Some c) o) (eq-eqb c.reference o.reference same)

pub near_other : (u : ℕ) (c : PlainNetCall) (o : Outgoing) → c.reference ≢ o.reference → near_meets u (Some c) o ≡ near_strays (Some c) o
near_other u c o other = ap (λ b. if b then near_stepped (net_message c (heard_from o) u) else near_strays (Some c) o) (ne_eqb c.reference o.reference other)

pub far_named : (u k : ℕ) (x : PlainUserCall) (o : Outgoing) → x.reference ≡ o.reference → far_meets u k (Some x) o ≡ far_stepped (user_message x (heard_from o) u)
far_named u k x o same = ap (λ b. if b then far_stepped (user_message x (heard_from o) u) else far_strays u k (Some x) o o.kind) (eq-eqb x.reference o.reference same)

pub far_other : (u k : ℕ) (x : PlainUserCall) (o : Outgoing) → x.reference ≢ o.reference → far_meets u k (Some x) o ≡ far_strays u k (Some x) o o.kind
far_other u k x o other = ap (λ b. if b then far_stepped (user_message x (heard_from o) u) else far_strays u k (Some x) o o.kind) (ne_eqb x.reference o.reference other)

-- RELEASE, whatever its cause
abbrev pub release_of : ℕ → Bool → Option (ℕ × ℕ) → Outgoing
release_of r flag cause = record (plain r flag Release) { cause = cause }

abbrev pub cause_at : ℕ → Option ℕ → Option (ℕ × ℕ)
cause_at location cause = option_map (λ c. (location, c % 128)) cause

pub release_is : (location : ℕ) (cause : Option ℕ) (r : ℕ) (flag : Bool) → with_kept_cause location cause (plain r flag Release) ≡ release_of r flag (cause_at location cause)
release_is location None r flag = refl
release_is location (Some cause) r flag = refl

-- ---- what is left after the replies

pub record Rest (Leaves : Option PlainNetCall → Option PlainUserCall → Type 0) (ends : ℕ → ℕ) (k u : ℕ) (start met : Option PlainNetCall) (far : Option PlainUserCall) (replies : List Outgoing) : Type 0 where
  pub leaves : Leaves met (far_meets_all u k far replies).call
  pub quiet : (far_meets_all u k far replies).said ≡ []
  pub kept : IsKeptOn ends u start met

-- the exchange, where start was after its tick, hears these: all of them, and any part
pub record Half (Leaves : Option PlainNetCall → Option PlainUserCall → Type 0) (ends : ℕ → ℕ) (k u : ℕ) (start near : Option PlainNetCall) (far : Option PlainUserCall) (said : List Outgoing) : Type 0 where
  pub whole : Rest Leaves ends k u start (near_meets_all u near said).call far (near_meets_all u near said).said
  pub cut : (received replies : List Outgoing) → IsPart received said → IsPart replies (near_meets_all u near received).said → Rest (IsLoose ends k u) ends k u start (near_meets_all u near received).call far replies

abbrev pub Any : Option PlainNetCall → Option PlainUserCall → Type 0
Any near far = Unit {0}

rest_none : (Leaves : Option PlainNetCall → Option PlainUserCall → Type 0) (ends : ℕ → ℕ) (k u : ℕ) (start met : Option PlainNetCall) (far : Option PlainUserCall) → Leaves met far → IsKeptOn ends u start met → Rest Leaves ends k u start met far []
rest_none Leaves ends k u start met far l kept = record { leaves = l; quiet = refl; kept = kept }

rest_one : (Leaves : Option PlainNetCall → Option PlainUserCall → Type 0) (ends : ℕ → ℕ) (k u : ℕ) (start met : Option PlainNetCall) (far after : Option PlainUserCall) (reply : Outgoing) → far_meets u k far reply ≡ left_as after → Leaves met after → IsKeptOn ends u start met → Rest Leaves ends k u start met far (reply ∷ [])
rest_one Leaves ends k u start met far after reply eq l kept = record { leaves = subst (λ (a : Left PlainUserCall). Leaves met a.call) (sym eq) l; quiet = ap (λ (a : Left PlainUserCall). a.said ++ []) eq; kept = kept }

pub half_none : (Leaves : Option PlainNetCall → Option PlainUserCall → Type 0) (ends : ℕ → ℕ) (k u : ℕ) (start near : Option PlainNetCall) (far : Option PlainUserCall) → Leaves near far → IsLoose ends k u near far → IsKeptOn ends u start near → Half Leaves ends k u start near far []
half_none Leaves ends k u start near far l loose kept = record {
  whole = rest_none Leaves ends k u start near far l kept;
  cut = λ received replies p q. cut_at received replies p (subst (λ xs. IsPart replies (near_meets_all u near xs).said) p q);
}
  where
    cut_at : (received replies : List Outgoing) → received ≡ [] → replies ≡ [] → Rest (IsLoose ends k u) ends k u start (near_meets_all u near received).call far replies
    cut_at received replies p q = subst (λ xs. Rest (IsLoose ends k u) ends k u start (near_meets_all u near xs).call far replies) (sym p) (subst (λ ys. Rest (IsLoose ends k u) ends k u start near far ys) (sym q) (rest_none (IsLoose ends k u) ends k u start near far loose kept))

-- one that the exchange says nothing to
pub half_then : (Leaves : Option PlainNetCall → Option PlainUserCall → Type 0) (ends : ℕ → ℕ) (k u : ℕ) (start near met : Option PlainNetCall) (far : Option PlainUserCall) (o : Outgoing) (os : List Outgoing) → near_meets u near o ≡ left_as met → Half Any ends k u start near far os → Half Leaves ends k u start met far os → Half Leaves ends k u start near far (o ∷ os)
half_then Leaves ends k u start near met far o os eq without with_it = record {
  whole = subst (λ (a : Left PlainNetCall). Rest Leaves ends k u start (near_meets_all u a.call os).call far (a.said ++ (near_meets_all u a.call os).said)) (sym eq) with_it.whole;
  cut = λ received replies p q. cut_at received replies q p;
}
  where
    cut_more : (replies rest : List Outgoing) → IsPart rest os → IsPart replies (near_meets_all u near (o ∷ rest)).said → Rest (IsLoose ends k u) ends k u start (near_meets_all u near (o ∷ rest)).call far replies
    cut_more replies rest p q = subst (λ (a : Left PlainNetCall). Rest (IsLoose ends k u) ends k u start (near_meets_all u a.call rest).call far replies) (sym eq) (with_it.cut rest replies p (subst (λ (a : Left PlainNetCall). IsPart replies (a.said ++ (near_meets_all u a.call rest).said)) eq q))

    cut_at : (received replies : List Outgoing) → IsPart replies (near_meets_all u near received).said → IsPart received (o ∷ os) → Rest (IsLoose ends k u) ends k u start (near_meets_all u near received).call far replies
    cut_at received replies q (inl p) = without.cut received replies p q
    cut_at received replies q (inr p) = subst (λ xs. Rest (IsLoose ends k u) ends k u start (near_meets_all u near xs).call far replies) (sym p.1) (cut_more replies p.0 p.2 (subst (λ xs. IsPart replies (near_meets_all u near xs).said) p.1 q))

-- one that the exchange answers, the last
pub half_last : (Leaves : Option PlainNetCall → Option PlainUserCall → Type 0) (ends : ℕ → ℕ) (k u : ℕ) (start near met : Option PlainNetCall) (far after : Option PlainUserCall) (o reply : Outgoing) → near_meets u near o ≡ record { call = met; said = reply ∷ [] } → far_meets u k far reply ≡ left_as after
    → Leaves met after → IsLoose ends k u near far → IsLoose ends k u met far → IsLoose ends k u met after → IsKeptOn ends u start near → IsKeptOn ends u start met → Half Leaves ends k u start near far (o ∷ [])
half_last Leaves ends k u start near met far after o reply eq back l loose half both kept kept_met = record {
  whole = subst (λ (a : Left PlainNetCall). Rest Leaves ends k u start a.call far (a.said ++ [])) (sym eq) (rest_one Leaves ends k u start met far after reply back l kept_met);
  cut = λ received replies p q. cut_at received replies q p;
}
  where
    some_replies : (replies : List Outgoing) → IsPart replies (reply ∷ []) → Rest (IsLoose ends k u) ends k u start met far replies
    some_replies replies (inl p) = subst (λ ys. Rest (IsLoose ends k u) ends k u start met far ys) (sym p) (rest_none (IsLoose ends k u) ends k u start met far half kept_met)
    some_replies replies (inr p) = subst (λ ys. Rest (IsLoose ends k u) ends k u start met far ys) (sym (p.1 ∙ ap (λ ys. reply ∷ ys) p.2)) (rest_one (IsLoose ends k u) ends k u start met far after reply back both kept_met)

    cut_one : (replies : List Outgoing) → IsPart replies (near_meets_all u near (o ∷ [])).said → Rest (IsLoose ends k u) ends k u start (near_meets_all u near (o ∷ [])).call far replies
    cut_one replies q = subst (λ (a : Left PlainNetCall). Rest (IsLoose ends k u) ends k u start a.call far replies) (sym eq) (some_replies replies (subst (λ (a : Left PlainNetCall). IsPart replies (a.said ++ [])) eq q))

    cut_none : (replies : List Outgoing) → replies ≡ [] → Rest (IsLoose ends k u) ends k u start near far replies
    cut_none replies q = subst (λ ys. Rest (IsLoose ends k u) ends k u start near far ys) (sym q) (rest_none (IsLoose ends k u) ends k u start near far loose kept)

    cut_at : (received replies : List Outgoing) → IsPart replies (near_meets_all u near received).said → IsPart received (o ∷ []) → Rest (IsLoose ends k u) ends k u start (near_meets_all u near received).call far replies
    cut_at received replies q (inl p) = subst (λ xs. Rest (IsLoose ends k u) ends k u start (near_meets_all u near xs).call far replies) (sym p) (cut_none replies (subst (λ xs. IsPart replies (near_meets_all u near xs).said) p q))
    cut_at received replies q (inr p) =
        let one : received ≡ o ∷ [] = p.1 ∙ ap (λ xs. o ∷ xs) p.2 in
        subst (λ xs. Rest (IsLoose ends k u) ends k u start (near_meets_all u near xs).call far replies) (sym one) (cut_one replies (subst (λ xs. IsPart replies (near_meets_all u near xs).said) one q))

-- ---- a turn: what the far end makes of what was said

abbrev pub IsUnbrokenThere : ℕ → Option PlainUserCall → Type 0
IsUnbrokenThere u None = Unit {0}
IsUnbrokenThere u (Some x) = IsUnbrokenFar (user_second x u).next

pub unbroken_in : (u : ℕ) (far : Option PlainUserCall) → IsUnbrokenThere u far → (x : PlainUserCall) → far ≡ Some x → IsUnbrokenFar (user_second x u).next
unbroken_in u far h x is = subst (IsUnbrokenThere u) is h

-- all of it comes, or a part
pub record Turn (Leaves : Option PlainNetCall → Option PlainUserCall → Type 0) (ends : ℕ → ℕ) (k t : ℕ) (far : Option PlainUserCall) (called : Left PlainNetCall) : Type 0 where
  pub whole : TurnLeaves Leaves ends k t far called called.said ((asked_in k t far called.said).said ++ (passed_in_turn k t far called.said).said) (left_in t called ((asked_in k t far called.said).said ++ (passed_in_turn k t far called.said).said)).said
  pub cut : (come received replies : List Outgoing) → IsPart come called.said → IsPart received ((asked_in k t far come).said ++ (passed_in_turn k t far come).said) → IsPart replies (left_in t called received).said → TurnLeaves (IsLoose ends k (t + 1)) ends k t far called come received replies

turn_part : (Leaves : Option PlainNetCall → Option PlainUserCall → Type 0) (ends : ℕ → ℕ) (k t : ℕ) (far : Option PlainUserCall) (called : Left PlainNetCall) (come received replies : List Outgoing) → IsUnbrokenThere (t + 1) (asked_in k t far come).call
    → Rest Leaves ends k (t + 1) called.call (left_in t called received).call (passed_in_turn k t far come).call replies → TurnLeaves Leaves ends k t far called come received replies
turn_part Leaves ends k t far called come received replies sound rest = record { unbroken = unbroken_in (t + 1) (asked_in k t far come).call sound; leaves = rest.leaves; quiet = rest.quiet; kept = rest.kept }

-- what the far end has said to these, and at its tick
abbrev HalfAfter : (Option PlainNetCall → Option PlainUserCall → Type 0) → (ℕ → ℕ) → ℕ → ℕ → Option PlainUserCall → Option PlainNetCall → List Outgoing → Type 0
HalfAfter Leaves ends k t far n come = Half Leaves ends k (t + 1) n n (passed_in_turn k t far come).call ((asked_in k t far come).said ++ (passed_in_turn k t far come).said)

half_unheard : (Leaves : Option PlainNetCall → Option PlainUserCall → Type 0) (ends : ℕ → ℕ) (k t : ℕ) (far : Option PlainUserCall) (n : Option PlainNetCall) (passed : Left PlainUserCall) → far_passes (t + 1) far ≡ passed → Half Leaves ends k (t + 1) n n passed.call passed.said → HalfAfter Leaves ends k t far n []
half_unheard Leaves ends k t far n passed eq h = subst (λ (a : Left PlainUserCall). Half Leaves ends k (t + 1) n n a.call a.said) (sym eq) h

half_heard : (Leaves : Option PlainNetCall → Option PlainUserCall → Type 0) (ends : ℕ → ℕ) (k t : ℕ) (far : Option PlainUserCall) (n : Option PlainNetCall) (m : Outgoing) (asked passed : Left PlainUserCall) → far_meets t k far m ≡ asked → far_passes (t + 1) asked.call ≡ passed
    → Half Leaves ends k (t + 1) n n passed.call ((asked.said ++ []) ++ passed.said) → HalfAfter Leaves ends k t far n (m ∷ [])
half_heard Leaves ends k t far n m asked passed eq next h = subst (λ (a : Left PlainUserCall). Half Leaves ends k (t + 1) n n (far_passes (t + 1) a.call).call ((a.said ++ []) ++ (far_passes (t + 1) a.call).said)) (sym eq)
    (subst (λ (a : Left PlainUserCall). Half Leaves ends k (t + 1) n n a.call ((asked.said ++ []) ++ a.said)) (sym next) h)

-- the exchange has said nothing
pub turn_quiet : (Leaves : Option PlainNetCall → Option PlainUserCall → Type 0) (ends : ℕ → ℕ) (k t : ℕ) (far : Option PlainUserCall) (n : Option PlainNetCall) (passed : Left PlainUserCall) → IsUnbrokenThere (t + 1) far → far_passes (t + 1) far ≡ passed → Half Leaves ends k (t + 1) n n passed.call passed.said → Turn Leaves ends k t far (left_as n)
turn_quiet Leaves ends k t far n passed sound eq h = record {
  whole = turn_part Leaves ends k t far (left_as n) [] (far_passes (t + 1) far).said (near_meets_all (t + 1) n (far_passes (t + 1) far).said).said sound after.whole;
  cut = λ come received replies p q r. subst (λ xs. IsPart received ((asked_in k t far xs).said ++ (passed_in_turn k t far xs).said) → TurnLeaves (IsLoose ends k (t + 1)) ends k t far (left_as n) xs received replies) (sym p) (λ q'. turn_part (IsLoose ends k (t + 1)) ends k t far (left_as n) [] received replies sound (after.cut received replies q' r)) q;
}
  where
    after : HalfAfter Leaves ends k t far n []
    after = half_unheard Leaves ends k t far n passed eq h

-- the exchange has said one message
pub turn_says : (Leaves : Option PlainNetCall → Option PlainUserCall → Type 0) (ends : ℕ → ℕ) (k t : ℕ) (far : Option PlainUserCall) (n : Option PlainNetCall) (m : Outgoing) (alone asked passed : Left PlainUserCall) → IsUnbrokenThere (t + 1) far → far_passes (t + 1) far ≡ alone → Half Any ends k (t + 1) n n alone.call alone.said
    → far_meets t k far m ≡ asked → IsUnbrokenThere (t + 1) asked.call → far_passes (t + 1) asked.call ≡ passed → Half Leaves ends k (t + 1) n n passed.call ((asked.said ++ []) ++ passed.said) → Turn Leaves ends k t far (record { call = n; said = m ∷ [] })
turn_says Leaves ends k t far n m alone asked passed sound quiet lost eq sound_asked next h = record {
  whole = turn_part Leaves ends k t far called (m ∷ []) ((asked_in k t far (m ∷ [])).said ++ (passed_in_turn k t far (m ∷ [])).said) (near_meets_all (t + 1) n ((asked_in k t far (m ∷ [])).said ++ (passed_in_turn k t far (m ∷ [])).said)).said sound_after after.whole;
  cut = λ come received replies p q r. cut_at come received replies q r p;
}
  where
    called : Left PlainNetCall
    called = record { call = n; said = m ∷ [] }

    after : HalfAfter Leaves ends k t far n (m ∷ [])
    after = half_heard Leaves ends k t far n m asked passed eq next h

    unheard : HalfAfter Any ends k t far n []
    unheard = half_unheard Any ends k t far n alone quiet lost

    sound_after : IsUnbrokenThere (t + 1) (far_meets t k far m).call
    sound_after = subst (λ (a : Left PlainUserCall). IsUnbrokenThere (t + 1) a.call) (sym eq) sound_asked

    cut_at : (come received replies : List Outgoing) → IsPart received ((asked_in k t far come).said ++ (passed_in_turn k t far come).said) → IsPart replies (near_meets_all (t + 1) n received).said → IsPart come (m ∷ []) → TurnLeaves (IsLoose ends k (t + 1)) ends k t far called come received replies
    cut_at come received replies q r (inl p) = subst (λ xs. IsPart received ((asked_in k t far xs).said ++ (passed_in_turn k t far xs).said) → TurnLeaves (IsLoose ends k (t + 1)) ends k t far called xs received replies) (sym p) (λ q'. turn_part (IsLoose ends k (t + 1)) ends k t far called [] received replies sound (unheard.cut received replies q' r)) q
    cut_at come received replies q r (inr p) = subst (λ xs. IsPart received ((asked_in k t far xs).said ++ (passed_in_turn k t far xs).said) → TurnLeaves (IsLoose ends k (t + 1)) ends k t far called xs received replies) (sym (p.1 ∙ ap (λ xs. m ∷ xs) p.2)) (λ q'. turn_part (IsLoose ends k (t + 1)) ends k t far called (m ∷ []) received replies sound_after (after.cut received replies q' r)) q
