-- The end that sends, over establishments: what it keeps is what was given from a place on, and what was ever sent lies below what an
-- establishment begins with.
use Rattle.std.proofs.Common.{◌≡◌, ◌∙◌, ◌⊎◌, inl, inr, ℕ, ◌+◌, ◌-◌, ◌%◌, ◌<◌, ◌≤◌, ◌==◌, ◌&&◌, ◌||◌, not, min, Bool, true, false, List, [], ◌∷◌, ◌++◌, length, take, drop, Option, None, refl, sym, ap, subst, append-nil, drop-drop, length-append, length-take, length-drop, arith, nat_lt, if◌then◌else◌}
use Rattle.std.proofs.lemmas.List.{drop-append-le, drop_all}
use Rattle.std.proofs.lemmas.Bool.{false≢true, true≢false, eqb-true, leb-true, and_from}
use Rattle.arrayvec.specs.ArrayVec.{ArrayVec}
use Rattle.bx_lapd.specs.declared.words.LinkState.{LinkState}
use Rattle.bx_lapd.specs.declared.words.LinkState.TheVariants.{Assigned, AwaitingEstablishment, AwaitingRelease, Established, TimerRecovery}
use Rattle.bx_lapd.specs.declared.words.Supervisory.{Supervisory}
use Rattle.bx_lapd.specs.declared.words.Supervisory.TheVariants.{ReceiveReady, ReceiveNotReady, Reject}
use Rattle.bx_lapd.specs.declared.words.Unnumbered.{Unnumbered}
use Rattle.bx_lapd.specs.declared.words.Unnumbered.TheVariants as u
use Rattle.bx_lapd.specs.declared.words.ErrorCode.{ErrorCode}
use Rattle.bx_lapd.specs.declared.words.ErrorCode.TheVariants as error
use Rattle.bx_lapd.specs.declared.words.Timer.{Timer}
use Rattle.bx_lapd.specs.declared.words.Timer.TheVariants.{T200, T203}
use Rattle.bx_lapd.specs.declared.frame.Frame.{Frame}
use Rattle.bx_lapd.specs.declared.frame.Frame.TheVariants.{Information, Numbered, Plain}
use Rattle.bx_lapd.specs.declared.indication.Indication.{Indication}
use Rattle.bx_lapd.specs.declared.indication.Indication.TheVariants.{LinkEstablished, LinkReleased, Delivered, LinkError}
use Rattle.bx_lapd.specs.Links.{t200, t203, Link, LinkStep, does, follows_step, ahead, outstanding, is_valid, numbered_frames, establishing, begun_link, assigned, discarded, acknowledged, is_established, is_recovering, is_link_up, running, acknowledges, flushes, flush, n200, is_at_rest}
use Rattle.bx_lapd.specs.Table.{establish, release, first_count, enquires, expires, established_anew, hear_sabme, hear_disc, confirmed, hear_ua, hear_dm, fails, hear_plain, answers, took, rejects, hear_message, timed, settled, hear_number, hear_information, is_not_ready, guided, recovered_link, hear_supervised, unasked, hear_numbered, link_heard, hear}
use Rattle.bx_lapd.proofs.AtRest.{at_rest_up}
use Rattle.bx_lapd.proofs.Numbers.{ahead-is, further_number}
use Rattle.bx_lapd.proofs.Media.{Stand, stand_drop}
use Rattle.bx_lapd.proofs.Lanes.{Lane, Ends, ends_later, lane_append, lane_numbered}

-- ---- what an end keeps

-- while numbers count: a messages of all given are acknowledged, s is V(S), h were ever sent, and number 0 was that of place b
pub record Tracks (va vs a s h b : ℕ) : Type 0 where
  pub va_is : va ≡ (a - b) % 128
  pub vs_is : vs ≡ (s - b) % 128
  pub base : b ≤ a
  pub sent : a ≤ s
  pub below : s ≤ h
  pub window : h ≤ a + 7

-- in state 5 numbers count where layer 3 did not ask: then the queue may be kept
abbrev pub Stands : LinkState → Bool → ℕ → ℕ → ℕ → ℕ → ℕ → ℕ → Type 0
Stands Established asked va vs a s h b = Tracks va vs a s h b
Stands TimerRecovery asked va vs a s h b = Tracks va vs a s h b
Stands AwaitingEstablishment false va vs a s h b = Tracks va vs a s h b
Stands AwaitingEstablishment true va vs a s h b = h ≤ a
Stands Assigned asked va vs a s h b = h ≤ a
Stands AwaitingRelease asked va vs a s h b = h ≤ a

pub record Spot : Type 0 where
  pub a : ℕ
  pub s : ℕ
  pub h : ℕ
  pub b : ℕ

pub record Source (g : List (ArrayVec ℕ)) (l : Link) (n : Spot) : Type 0 where
  pub queue : l.queue ≡ drop n.a g
  pub kept : n.a ≤ length g
  pub few : n.h ≤ length g
  pub vr : l.vr < 128
  pub stand : Stands l.state l.asked l.va l.vs n.a n.s n.h n.b

abbrev pub Ready : Link → Spot → Type 0
Ready l n = (n.s ≡ n.h) ⊎ ((is_established l.state && not l.busy) ≡ true)

-- a step of an end that was up or not, with this base and so many ever sent
pub record Sends (g : List (ArrayVec ℕ)) (up : Bool) (b h : ℕ) (s : LinkStep) : Type 0 where
  pub n : Spot
  pub source : Source g s.link n
  pub ready : Ready s.link n
  pub lane : (c : Option ℕ) (r : ℕ) → Ends up b h c r → Lane g c r (Ends (is_link_up s.link.state) n.b n.h) s.frames

-- the same, and V(S) is where it was
pub record Firm (g : List (ArrayVec ℕ)) (up : Bool) (b h : ℕ) (s : LinkStep) : Type 0 where
  pub n : Spot
  pub source : Source g s.link n
  pub tight : n.s ≡ n.h
  pub lane : (c : Option ℕ) (r : ℕ) → Ends up b h c r → Lane g c r (Ends (is_link_up s.link.state) n.b n.h) s.frames

pub ends_within : (up : Bool) (b h : ℕ) (c : Option ℕ) (r : ℕ) → Ends up b h c r → r ≤ h
ends_within true b h c r e = e.0
ends_within false b h c r e = e

down_ends : (up : Bool) (b h k : ℕ) (c d : Option ℕ) (r : ℕ) (now : Bool) (b2 : ℕ) → now ≡ false → h ≤ k → Ends up b h c r → Ends now b2 k d r
down_ends up b h k c d r true b2 e l x = absurd (true≢false e)
down_ends up b h k c d r false b2 e l x = let w = ends_within up b h c r x in omega arith

none_left : (g : List (ArrayVec ℕ)) → [] ≡ drop (length g) g
none_left g = sym (drop_all (length g) g (omega arith))

-- ---- links that go down, or stay down

-- nothing is kept any more
emptied_source : (g : List (ArrayVec ℕ)) (l m : Link) (n : Spot) → Source g l n → m.queue ≡ [] → m.vr ≡ l.vr → Stands m.state m.asked m.va m.vs (length g) n.h n.h n.b → Source g m (record { a = length g; s = n.h; h = n.h; b = n.b })
emptied_source g l m n x q v st = record { queue = q ∙ none_left g; kept = omega arith; few = x.few; vr = subst (λ y. y < 128) (sym v) x.vr; stand = st }

emptied_none : (g : List (ArrayVec ℕ)) (l m : Link) (n : Spot) (told : List Indication) (up : Bool) → Source g l n → m.queue ≡ [] → m.vr ≡ l.vr → Stands m.state m.asked m.va m.vs (length g) n.h n.h n.b → is_link_up m.state ≡ false → Sends g up n.b n.h (does m [] told)
emptied_none g l m n told up x q v st d = record {
  n = record { a = length g; s = n.h; h = n.h; b = n.b };
  source = emptied_source g l m n x q v st;
  ready = inl refl;
  lane = λ c r e. down_ends up n.b n.h n.h c c r (is_link_up m.state) n.b d (omega arith) e;
}

emptied_plain : (g : List (ArrayVec ℕ)) (l m : Link) (n : Spot) (kind : Unnumbered) (poll : Bool) (told : List Indication) (up : Bool) → Source g l n → m.queue ≡ [] → m.vr ≡ l.vr → Stands m.state m.asked m.va m.vs (length g) n.h n.h n.b → is_link_up m.state ≡ false → Sends g up n.b n.h (does m (Plain kind poll ∷ []) told)
emptied_plain g l m n kind poll told up x q v st d = record {
  n = record { a = length g; s = n.h; h = n.h; b = n.b };
  source = emptied_source g l m n x q v st;
  ready = inl refl;
  lane = λ c r e. down_ends up n.b n.h n.h c None r (is_link_up m.state) n.b d (omega arith) e;
}

-- what is kept stays
kept_source : (g : List (ArrayVec ℕ)) (l m : Link) (n : Spot) → Source g l n → m.queue ≡ l.queue → m.vr ≡ l.vr → Stands m.state m.asked m.va m.vs n.a n.s n.h n.b → Source g m n
kept_source g l m n x q v st = record { queue = q ∙ x.queue; kept = x.kept; few = x.few; vr = subst (λ y. y < 128) (sym v) x.vr; stand = st }

down_none : (g : List (ArrayVec ℕ)) (l m : Link) (n : Spot) (told : List Indication) (up : Bool) → Source g l n → n.s ≡ n.h → m.queue ≡ l.queue → m.vr ≡ l.vr → Stands m.state m.asked m.va m.vs n.a n.s n.h n.b → is_link_up m.state ≡ false → Sends g up n.b n.h (does m [] told)
down_none g l m n told up x t q v st d = record {
  n = n;
  source = kept_source g l m n x q v st;
  ready = inl t;
  lane = λ c r e. down_ends up n.b n.h n.h c c r (is_link_up m.state) n.b d (omega arith) e;
}

down_plain : (g : List (ArrayVec ℕ)) (l m : Link) (n : Spot) (kind : Unnumbered) (poll : Bool) (told : List Indication) (up : Bool) → Source g l n → n.s ≡ n.h → m.queue ≡ l.queue → m.vr ≡ l.vr → Stands m.state m.asked m.va m.vs n.a n.s n.h n.b → is_link_up m.state ≡ false → Sends g up n.b n.h (does m (Plain kind poll ∷ []) told)
down_plain g l m n kind poll told up x t q v st d = record {
  n = n;
  source = kept_source g l m n x q v st;
  ready = inl t;
  lane = λ c r e. down_ends up n.b n.h n.h c None r (is_link_up m.state) n.b d (omega arith) e;
}

-- ---- establishments that begin

begun_tracks : (a : ℕ) → Tracks 0 0 a a a a
begun_tracks a = record { va_is = omega arith; vs_is = omega arith; base = omega arith; sent = omega arith; below = omega arith; window = omega arith }

abbrev pub all_at : ℕ → Spot
all_at a = record { a = a; s = a; h = a; b = a }

begun_source : (g : List (ArrayVec ℕ)) (l : Link) (n : Spot) (now : ℕ) → Source g l n → Source g (begun_link l now) (all_at n.a)
begun_source g l n now x = record { queue = x.queue; kept = x.kept; few = x.kept; vr = omega arith; stand = begun_tracks n.a }

empty_source : (g : List (ArrayVec ℕ)) (l : Link) (now : ℕ) → Source g (begun_link (discarded l) now) (all_at (length g))
empty_source g l now = record { queue = none_left g; kept = omega arith; few = omega arith; vr = omega arith; stand = begun_tracks (length g) }

begun_ends : (up : Bool) (b h a : ℕ) (c d : Option ℕ) (r : ℕ) → h ≤ a → Ends up b h c r → Ends true a a d r
begun_ends up b h a c d r l e = let w = ends_within up b h c r e in ends_later d a a r (omega arith) (omega arith)

begun_none : (g : List (ArrayVec ℕ)) (l : Link) (n : Spot) (now : ℕ) (told : List Indication) (up : Bool) → Source g l n → n.h ≤ n.a → Sends g up n.b n.h (does (begun_link l now) [] told)
begun_none g l n now told up x k = record { n = all_at n.a; source = begun_source g l n now x; ready = inl refl; lane = λ c r e. begun_ends up n.b n.h n.a c c r k e }

begun_plain : (g : List (ArrayVec ℕ)) (l : Link) (n : Spot) (now : ℕ) (kind : Unnumbered) (poll : Bool) (told : List Indication) (up : Bool) → Source g l n → n.h ≤ n.a → Sends g up n.b n.h (does (begun_link l now) (Plain kind poll ∷ []) told)
begun_plain g l n now kind poll told up x k = record { n = all_at n.a; source = begun_source g l n now x; ready = inl refl; lane = λ c r e. begun_ends up n.b n.h n.a c None r k e }

empty_none : (g : List (ArrayVec ℕ)) (l : Link) (n : Spot) (now : ℕ) (told : List Indication) (up : Bool) → Source g l n → Sends g up n.b n.h (does (begun_link (discarded l) now) [] told)
empty_none g l n now told up x = record { n = all_at (length g); source = empty_source g l now; ready = inl refl; lane = λ c r e. begun_ends up n.b n.h (length g) c c r x.few e }

empty_plain : (g : List (ArrayVec ℕ)) (l : Link) (n : Spot) (now : ℕ) (kind : Unnumbered) (poll : Bool) (told : List Indication) (up : Bool) → Source g l n → Sends g up n.b n.h (does (begun_link (discarded l) now) (Plain kind poll ∷ []) told)
empty_plain g l n now kind poll told up x = record { n = all_at (length g); source = empty_source g l now; ready = inl refl; lane = λ c r e. begun_ends up n.b n.h (length g) c None r x.few e }

-- V(S) = V(A): nothing was sent that is not acknowledged
pub nothing_out : (va vs a s h b : ℕ) → Tracks va vs a s h b → s ≡ h → vs ≡ va → h ≤ a
nothing_out va vs a s h b t k e =
    let one = t.va_is in
    let two = t.vs_is in
    let three = t.base in
    let four = t.sent in
    let five = t.window in
    omega arith

-- ---- unnumbered frames, by the rows of the table

-- what stands in each state, of an end that was in it
stands_down : (l : Link) (st : LinkState) (va vs a s h b : ℕ) → l.state ≡ st → Stands l.state l.asked va vs a s h b → Stands st l.asked va vs a s h b
stands_down l st va vs a s h b e x = subst (λ y. Stands y l.asked va vs a s h b) e x

anew_sends : (g : List (ArrayVec ℕ)) (l : Link) (n : Spot) (same poll : Bool) (now : ℕ) → (l.vs == l.va) ≡ same → Source g l n → n.s ≡ n.h → Tracks l.va l.vs n.a n.s n.h n.b → Sends g (is_link_up l.state) n.b n.h (established_anew same l poll now)
anew_sends g l n true poll now e x t k = begun_plain g l n now u.Ua poll (LinkError error.PeerEstablishes ∷ []) (is_link_up l.state) x (nothing_out l.va l.vs n.a n.s n.h n.b k t (eqb-true l.vs l.va e))
anew_sends g l n false poll now e x t k = empty_plain g l n now u.Ua poll (LinkError error.PeerEstablishes ∷ LinkEstablished ∷ []) (is_link_up l.state) x

sabme_sends : (g : List (ArrayVec ℕ)) (l : Link) (n : Spot) (st : LinkState) (poll : Bool) (now : ℕ) → l.state ≡ st → Source g l n → n.s ≡ n.h → Sends g (is_link_up l.state) n.b n.h (hear_sabme st l poll now)
sabme_sends g l n AwaitingRelease poll now e x t = down_plain g l l n u.Dm poll [] (is_link_up l.state) x t refl refl x.stand (ap is_link_up e)
sabme_sends g l n AwaitingEstablishment poll now e x t = down_plain g l l n u.Ua poll [] (is_link_up l.state) x t refl refl x.stand (ap is_link_up e)
sabme_sends g l n Assigned poll now e x t = begun_plain g l n now u.Ua poll (LinkEstablished ∷ []) (is_link_up l.state) x (stands_down l Assigned l.va l.vs n.a n.s n.h n.b e x.stand)
sabme_sends g l n Established poll now e x t = anew_sends g l n (l.vs == l.va) poll now refl x t (stands_down l Established l.va l.vs n.a n.s n.h n.b e x.stand)
sabme_sends g l n TimerRecovery poll now e x t = anew_sends g l n (l.vs == l.va) poll now refl x t (stands_down l TimerRecovery l.va l.vs n.a n.s n.h n.b e x.stand)

disc_sends : (g : List (ArrayVec ℕ)) (l : Link) (n : Spot) (st : LinkState) (poll : Bool) → l.state ≡ st → Source g l n → n.s ≡ n.h → Sends g (is_link_up l.state) n.b n.h (hear_disc st l poll)
disc_sends g l n Assigned poll e x t = down_plain g l l n u.Dm poll [] (is_link_up l.state) x t refl refl x.stand (ap is_link_up e)
disc_sends g l n AwaitingEstablishment poll e x t = down_plain g l l n u.Dm poll [] (is_link_up l.state) x t refl refl x.stand (ap is_link_up e)
disc_sends g l n AwaitingRelease poll e x t = down_plain g l l n u.Ua poll [] (is_link_up l.state) x t refl refl x.stand (ap is_link_up e)
disc_sends g l n Established poll e x t = emptied_plain g l (discarded (assigned l)) n u.Ua poll (LinkReleased ∷ []) (is_link_up l.state) x refl refl x.few refl
disc_sends g l n TimerRecovery poll e x t = emptied_plain g l (discarded (assigned l)) n u.Ua poll (LinkReleased ∷ []) (is_link_up l.state) x refl refl x.few refl

confirmed_sends : (g : List (ArrayVec ℕ)) (l : Link) (n : Spot) (asked same : Bool) (now : ℕ) → l.asked ≡ asked → (l.vs == l.va) ≡ same → Source g l n → n.s ≡ n.h → Stands AwaitingEstablishment l.asked l.va l.vs n.a n.s n.h n.b → Sends g (is_link_up l.state) n.b n.h (confirmed asked same l now)
confirmed_sends g l n true same now e f x t k = begun_none g l n now (LinkEstablished ∷ []) (is_link_up l.state) x (subst (λ y. Stands AwaitingEstablishment y l.va l.vs n.a n.s n.h n.b) e k)
confirmed_sends g l n false true now e f x t k = begun_none g l n now [] (is_link_up l.state) x (nothing_out l.va l.vs n.a n.s n.h n.b (subst (λ y. Stands AwaitingEstablishment y l.va l.vs n.a n.s n.h n.b) e k) t (eqb-true l.vs l.va f))
confirmed_sends g l n false false now e f x t k = empty_none g l n now (LinkEstablished ∷ []) (is_link_up l.state) x

-- a link that a row leaves as it is, with something told
same_told : (g : List (ArrayVec ℕ)) (l : Link) (n : Spot) (told : List Indication) → Source g l n → n.s ≡ n.h → Sends g (is_link_up l.state) n.b n.h (does l [] told)
same_told g l n told x t = record { n = n; source = x; ready = inl t; lane = λ c r e. e }

ua_sends : (g : List (ArrayVec ℕ)) (l : Link) (n : Spot) (st : LinkState) (f : Bool) (now : ℕ) → l.state ≡ st → Source g l n → n.s ≡ n.h → Sends g (is_link_up l.state) n.b n.h (hear_ua st l f now)
ua_sends g l n AwaitingEstablishment true now e x t = confirmed_sends g l n l.asked (l.vs == l.va) now refl refl x t (stands_down l AwaitingEstablishment l.va l.vs n.a n.s n.h n.b e x.stand)
ua_sends g l n AwaitingRelease true now e x t = down_none g l (assigned l) n (LinkReleased ∷ []) (is_link_up l.state) x t refl refl (stands_down l AwaitingRelease l.va l.vs n.a n.s n.h n.b e x.stand) refl
ua_sends g l n Assigned true now e x t = same_told g l n (LinkError error.UaFinal ∷ []) x t
ua_sends g l n Established true now e x t = same_told g l n (LinkError error.UaFinal ∷ []) x t
ua_sends g l n TimerRecovery true now e x t = same_told g l n (LinkError error.UaFinal ∷ []) x t
ua_sends g l n Assigned false now e x t = same_told g l n (LinkError error.Ua ∷ []) x t
ua_sends g l n AwaitingEstablishment false now e x t = same_told g l n (LinkError error.Ua ∷ []) x t
ua_sends g l n AwaitingRelease false now e x t = same_told g l n (LinkError error.Ua ∷ []) x t
ua_sends g l n Established false now e x t = same_told g l n (LinkError error.Ua ∷ []) x t
ua_sends g l n TimerRecovery false now e x t = same_told g l n (LinkError error.Ua ∷ []) x t

-- an end that is up establishes the link anew by itself
goes_anew : (g : List (ArrayVec ℕ)) (l : Link) (n : Spot) (told : List Indication) (now : ℕ) → Source g l n → n.s ≡ n.h → Tracks l.va l.vs n.a n.s n.h n.b → Sends g (is_link_up l.state) n.b n.h (does (establishing l false now) (Plain u.Sabme true ∷ []) told)
goes_anew g l n told now x t k = down_plain g l (establishing l false now) n u.Sabme true told (is_link_up l.state) x t refl refl k refl

up_tracks : (l : Link) (st : LinkState) (va vs a s h b : ℕ) → l.state ≡ st → is_link_up st ≡ true → Stands l.state l.asked va vs a s h b → Tracks va vs a s h b
up_tracks l Established va vs a s h b e v x = stands_down l Established va vs a s h b e x
up_tracks l TimerRecovery va vs a s h b e v x = stands_down l TimerRecovery va vs a s h b e x
up_tracks l Assigned va vs a s h b e v x = absurd (false≢true v)
up_tracks l AwaitingEstablishment va vs a s h b e v x = absurd (false≢true v)
up_tracks l AwaitingRelease va vs a s h b e v x = absurd (false≢true v)

dm_sends : (g : List (ArrayVec ℕ)) (l : Link) (n : Spot) (st : LinkState) (f : Bool) (now : ℕ) → l.state ≡ st → Source g l n → n.s ≡ n.h → Sends g (is_link_up l.state) n.b n.h (hear_dm st l f now)
dm_sends g l n Assigned false now e x t = down_plain g l (establishing l true now) n u.Sabme true [] (is_link_up l.state) x t refl refl (stands_down l Assigned l.va l.vs n.a n.s n.h n.b e x.stand) refl
dm_sends g l n Assigned true now e x t = same_told g l n [] x t
dm_sends g l n AwaitingEstablishment true now e x t = emptied_none g l (discarded (assigned l)) n (LinkReleased ∷ []) (is_link_up l.state) x refl refl x.few refl
dm_sends g l n AwaitingEstablishment false now e x t = same_told g l n [] x t
dm_sends g l n AwaitingRelease true now e x t = down_none g l (assigned l) n (LinkReleased ∷ []) (is_link_up l.state) x t refl refl (stands_down l AwaitingRelease l.va l.vs n.a n.s n.h n.b e x.stand) refl
dm_sends g l n AwaitingRelease false now e x t = same_told g l n [] x t
dm_sends g l n Established true now e x t = same_told g l n (LinkError error.DmFinal ∷ []) x t
dm_sends g l n TimerRecovery true now e x t = goes_anew g l n (LinkError error.DmFinal ∷ []) now x t (stands_down l TimerRecovery l.va l.vs n.a n.s n.h n.b e x.stand)
dm_sends g l n Established false now e x t = goes_anew g l n (LinkError error.Dm ∷ []) now x t (stands_down l Established l.va l.vs n.a n.s n.h n.b e x.stand)
dm_sends g l n TimerRecovery false now e x t = goes_anew g l n (LinkError error.Dm ∷ []) now x t (stands_down l TimerRecovery l.va l.vs n.a n.s n.h n.b e x.stand)

frmr_sends : (g : List (ArrayVec ℕ)) (l : Link) (n : Spot) (up : Bool) (code : ErrorCode) (now : ℕ) → is_link_up l.state ≡ up → Source g l n → n.s ≡ n.h → Sends g (is_link_up l.state) n.b n.h (fails up l code now)
frmr_sends g l n true code now e x t = goes_anew g l n (LinkError code ∷ []) now x t (up_tracks l l.state l.va l.vs n.a n.s n.h n.b refl e x.stand)
frmr_sends g l n false code now e x t = same_told g l n [] x t

plain_sends : (g : List (ArrayVec ℕ)) (l : Link) (n : Spot) (kind : Unnumbered) (poll : Bool) (now : ℕ) → Source g l n → n.s ≡ n.h → Sends g (is_link_up l.state) n.b n.h (hear_plain kind l poll now)
plain_sends g l n u.Sabme poll now x t = sabme_sends g l n l.state poll now refl x t
plain_sends g l n u.Disc poll now x t = disc_sends g l n l.state poll refl x t
plain_sends g l n u.Ua poll now x t = ua_sends g l n l.state poll now refl x t
plain_sends g l n u.Dm poll now x t = dm_sends g l n l.state poll now refl x t
plain_sends g l n u.Frmr poll now x t = frmr_sends g l n (is_link_up l.state) error.Frmr now refl x t
plain_sends g l n u.Ui poll now x t = same_told g l n [] x t
plain_sends g l n u.Xid poll now x t = same_told g l n [] x t

-- ---- frames with N(R), of an end that is up

-- the same numbers and queue
like : (g : List (ArrayVec ℕ)) (l m : Link) (n : Spot) → m.queue ≡ l.queue → m.vr < 128 → Stands m.state m.asked m.va m.vs n.a n.s n.h n.b → Source g l n → Source g m n
like g l m n q v st x = record { queue = q ∙ x.queue; kept = x.kept; few = x.few; vr = v; stand = st }

firm_told : (g : List (ArrayVec ℕ)) (l : Link) (n : Spot) (told : List Indication) → Source g l n → n.s ≡ n.h → Firm g (is_link_up l.state) n.b n.h (does l [] told)
firm_told g l n told x t = record { n = n; source = x; tight = t; lane = λ c r e. e }

firm_answers : (g : List (ArrayVec ℕ)) (l : Link) (n : Spot) (poll : Bool) (told : List Indication) → Source g l n → n.s ≡ n.h → Firm g (is_link_up l.state) n.b n.h (answers poll l told)
firm_answers g l n true told x t = record { n = n; source = like g l (record l { owed = false }) n refl x.vr x.stand x; tight = t; lane = λ c r e. (x.vr, e) }
firm_answers g l n false told x t = firm_told g l n told x t

firm_rejects : (g : List (ArrayVec ℕ)) (l : Link) (n : Spot) (rejected poll : Bool) → Source g l n → n.s ≡ n.h → Firm g (is_link_up l.state) n.b n.h (rejects rejected l poll)
firm_rejects g l n true poll x t = firm_answers g l n poll [] x t
firm_rejects g l n false poll x t = record { n = n; source = like g l (record l { rejected = true; owed = false }) n refl x.vr x.stand x; tight = t; lane = λ c r e. (x.vr, e) }

firm_message : (g : List (ArrayVec ℕ)) (l : Link) (n : Spot) (b poll : Bool) (m : ArrayVec ℕ) → Source g l n → n.s ≡ n.h → Firm g (is_link_up l.state) n.b n.h (hear_message b l poll m)
firm_message g l n true poll m x t =
    let small : (l.vr + 1) % 128 < 128 = omega arith in
    firm_answers g (took l) n poll (Delivered m ∷ []) (like g l (took l) n refl small x.stand x) t
firm_message g l n false poll m x t = firm_rejects g l n l.rejected poll x t

-- ---- acknowledgements

number_back : (x nr : ℕ) → nr < 128 → (x + ahead (x % 128) nr) % 128 ≡ nr
number_back x nr l = omega arith

tracks_outstanding : (va vs a s h b : ℕ) → Tracks va vs a s h b → ahead va vs ≡ s - a
tracks_outstanding va vs a s h b t =
    let one = t.base in
    let two = t.sent in
    let three = t.below in
    let four = t.window in
    let gap : (s - b) - (a - b) ≡ s - a = omega arith in
    ap (λ v. ahead v vs) t.va_is ∙ ap (ahead ((a - b) % 128)) t.vs_is ∙ ahead-is (a - b) (s - b) (omega arith) (omega arith) ∙ gap

stands_up : (st : LinkState) (asked : Bool) (va vs a s h b : ℕ) → is_link_up st ≡ true → Tracks va vs a s h b → Stands st asked va vs a s h b
stands_up Established asked va vs a s h b e t = t
stands_up TimerRecovery asked va vs a s h b e t = t
stands_up Assigned asked va vs a s h b e t = absurd (false≢true e)
stands_up AwaitingEstablishment asked va vs a s h b e t = absurd (false≢true e)
stands_up AwaitingRelease asked va vs a s h b e t = absurd (false≢true e)

acknowledged_source : (g : List (ArrayVec ℕ)) (l : Link) (n : Spot) (nr : ℕ) → is_link_up l.state ≡ true → is_valid l nr ≡ true → nr < 128 → Source g l n → Source g (acknowledged l nr) (record n { a = n.a + ahead l.va nr })
acknowledged_source g l n nr up v small x =
    let t = up_tracks l l.state l.va l.vs n.a n.s n.h n.b refl up x.stand in
    let valid = leb-true (ahead l.va nr) (outstanding l) v in
    let out : ahead l.va l.vs ≡ n.s - n.a = tracks_outstanding l.va l.vs n.a n.s n.h n.b t in
    let one = t.base in
    let two = t.sent in
    let three = t.below in
    let four = t.window in
    let few = x.few in
    let moved : n.a + ahead l.va nr ≤ n.s = omega (arith, out, valid) in
    let same : n.a - n.b + ahead l.va nr ≡ n.a + ahead l.va nr - n.b = omega arith in
    record {
      queue = ap (drop (ahead l.va nr)) x.queue ∙ drop-drop (ahead l.va nr) n.a g;
      kept = omega arith;
      few = x.few;
      vr = x.vr;
      stand = stands_up l.state l.asked nr l.vs (n.a + ahead l.va nr) n.s n.h n.b up (record {
        va_is = sym (number_back (n.a - n.b) nr small) ∙ ap (λ y. (n.a - n.b + ahead y nr) % 128) (sym t.va_is) ∙ ap (λ y. y % 128) same;
        vs_is = t.vs_is;
        base = omega arith;
        sent = moved;
        below = t.below;
        window = omega arith;
      });
    }

-- a row that sends nothing, and after which the end is up as it was
quiet_sends : (g : List (ArrayVec ℕ)) (l m : Link) (n : Spot) (a s : ℕ) (told : List Indication) → is_link_up m.state ≡ is_link_up l.state → Source g m (record n { a = a; s = s }) → Ready m (record n { a = a; s = s }) → Sends g (is_link_up l.state) n.b n.h (does m [] told)
quiet_sends g l m n a s told e x r = record { n = record n { a = a; s = s }; source = x; ready = r; lane = λ c q y. subst (λ up. Ends up n.b n.h c q) (sym e) y }

source_timed : (g : List (ArrayVec ℕ)) (l : Link) (n : Spot) (idle same : Bool) (now : ℕ) → Source g l n → Source g (timed idle same l now) n
source_timed g l n true same now x = like g l (timed true same l now) n refl x.vr x.stand x
source_timed g l n false true now x = x
source_timed g l n false false now x = like g l (timed false false l now) n refl x.vr x.stand x

source_settled : (g : List (ArrayVec ℕ)) (l : Link) (n : Spot) (still same : Bool) (now : ℕ) → Source g l n → Source g (settled still same l now) n
source_settled g l n true same now x = x
source_settled g l n false same now x = source_timed g l n (l.vs == l.va) same now x

timed_state : (l : Link) (idle same : Bool) (now : ℕ) → (timed idle same l now).state ≡ l.state
timed_state l true same now = refl
timed_state l false true now = refl
timed_state l false false now = refl

settled_state : (l : Link) (still same : Bool) (now : ℕ) → (settled still same l now).state ≡ l.state
settled_state l true same now = refl
settled_state l false same now = timed_state l (l.vs == l.va) same now

number_sends : (g : List (ArrayVec ℕ)) (l : Link) (n : Spot) (b : Bool) (nr now : ℕ) → is_valid l nr ≡ b → is_link_up l.state ≡ true → nr < 128 → Source g l n → n.s ≡ n.h → Sends g (is_link_up l.state) n.b n.h (hear_number b l nr now)
number_sends g l n true nr now v up small x t =
    quiet_sends g l (settled (is_recovering l.state || l.busy) (nr == l.va) (acknowledged l nr) now) n (n.a + ahead l.va nr) n.s [] (ap is_link_up (settled_state (acknowledged l nr) (is_recovering l.state || l.busy) (nr == l.va) now))
    (source_settled g (acknowledged l nr) (record n { a = n.a + ahead l.va nr }) (is_recovering l.state || l.busy) (nr == l.va) now (acknowledged_source g l n nr up v small x)) (inl t)
number_sends g l n false nr now v up small x t = goes_anew g l n (LinkError error.WrongNumber ∷ []) now x t (up_tracks l l.state l.va l.vs n.a n.s n.h n.b refl up x.stand)

-- V(S) goes back to V(A), in state 7
back_source : (g : List (ArrayVec ℕ)) (l : Link) (n : Spot) (timer : Timer) → is_link_up l.state ≡ true → Source g l n → Source g (record l { state = Established; vs = l.va; timer = timer }) (record n { s = n.a })
back_source g l n timer up x =
    let t = up_tracks l l.state l.va l.vs n.a n.s n.h n.b refl up x.stand in
    let one = t.sent in
    let two = t.below in
    record { queue = x.queue; kept = x.kept; few = x.few; vr = x.vr; stand = record { va_is = t.va_is; vs_is = t.va_is; base = t.base; sent = omega arith; below = omega arith; window = t.window } }

guided_sends : (g : List (ArrayVec ℕ)) (l k : Link) (n : Spot) (kind : Supervisory) (same : Bool) (now : ℕ) → k.state ≡ Established → is_link_up k.state ≡ is_link_up l.state → k.busy ≡ is_not_ready kind → Source g k n → n.s ≡ n.h → Sends g (is_link_up l.state) n.b n.h (does (guided kind same k now) [] [])
guided_sends g l k n ReceiveReady same now e up b x t = quiet_sends g l (settled false same k now) n n.a n.s [] (ap is_link_up (settled_state k false same now) ∙ up) (source_settled g k n false same now x) (inl t)
guided_sends g l k n ReceiveNotReady same now e up b x t = quiet_sends g l (guided ReceiveNotReady same k now) n n.a n.s [] up (like g k (guided ReceiveNotReady same k now) n refl x.vr x.stand x) (inl t)
guided_sends g l k n Reject same now e up b x t =
    let y = back_source g k n (T203 (now + t203)) (ap is_link_up e) x in
    quiet_sends g l (guided Reject same k now) n n.a n.a [] up
    (record { queue = y.queue; kept = y.kept; few = y.few; vr = y.vr; stand = subst (λ st. Stands st k.asked k.va k.va n.a n.a n.h n.b) (sym e) y.stand })
    (inr (and_from (is_established k.state) (not k.busy) (ap is_established e) (ap not b)))

recovered_sends : (g : List (ArrayVec ℕ)) (l k : Link) (n : Spot) (f : Bool) (kind : Supervisory) (now : ℕ) → is_link_up k.state ≡ true → is_link_up k.state ≡ is_link_up l.state → k.busy ≡ is_not_ready kind → Source g k n → n.s ≡ n.h → Sends g (is_link_up l.state) n.b n.h (does (recovered_link f kind k now) [] [])
recovered_sends g l k n false kind now e up b x t = quiet_sends g l k n n.a n.s [] up x (inl t)
recovered_sends g l k n true ReceiveNotReady now e up b x t =
    quiet_sends g l (recovered_link true ReceiveNotReady k now) n n.a n.s [] (sym e ∙ up) (like g k (recovered_link true ReceiveNotReady k now) n refl x.vr (up_tracks k k.state k.va k.vs n.a n.s n.h n.b refl e x.stand) x) (inl t)
recovered_sends g l k n true ReceiveReady now e up b x t = quiet_sends g l (recovered_link true ReceiveReady k now) n n.a n.a [] (sym e ∙ up) (back_source g k n (T203 (now + t203)) e x) (inr (ap not b))
recovered_sends g l k n true Reject now e up b x t = quiet_sends g l (recovered_link true Reject k now) n n.a n.a [] (sym e ∙ up) (back_source g k n (T203 (now + t203)) e x) (inr (ap not b))

supervised_sends : (g : List (ArrayVec ℕ)) (l : Link) (n : Spot) (b : Bool) (st : LinkState) (kind : Supervisory) (f : Bool) (nr now : ℕ) → is_valid l nr ≡ b → l.state ≡ st → is_link_up st ≡ true → l.busy ≡ is_not_ready kind → nr < 128 → Source g l n → n.s ≡ n.h
    → Sends g (is_link_up l.state) n.b n.h (hear_supervised b st l kind f nr now)
supervised_sends g l n false st kind f nr now v e up b small x t = goes_anew g l n (LinkError error.WrongNumber ∷ []) now x t (up_tracks l l.state l.va l.vs n.a n.s n.h n.b refl (ap is_link_up e ∙ up) x.stand)
supervised_sends g l n true Established kind f nr now v e up b small x t = guided_sends g l (acknowledged l nr) (record n { a = n.a + ahead l.va nr }) kind (nr == l.va) now e refl b (acknowledged_source g l n nr (ap is_link_up e) v small x) t
supervised_sends g l n true TimerRecovery kind f nr now v e up b small x t = recovered_sends g l (acknowledged l nr) (record n { a = n.a + ahead l.va nr }) f kind now (ap is_link_up e) refl b (acknowledged_source g l n nr (ap is_link_up e) v small x) t
supervised_sends g l n true Assigned kind f nr now v e up b small x t = absurd (false≢true up)
supervised_sends g l n true AwaitingEstablishment kind f nr now v e up b small x t = absurd (false≢true up)
supervised_sends g l n true AwaitingRelease kind f nr now v e up b small x t = absurd (false≢true up)

-- ---- one row, and then another

sends_follows : (g : List (ArrayVec ℕ)) (up : Bool) (b h : ℕ) (s : LinkStep) (f : Link → LinkStep) → (one : Firm g up b h s) → Sends g (is_link_up s.link.state) one.n.b one.n.h (f s.link) → Sends g up b h (follows_step s f)
sends_follows g up b h s f one two = record {
  n = two.n;
  source = two.source;
  ready = two.ready;
  lane = λ c r e. lane_append g c r (Ends (is_link_up s.link.state) one.n.b one.n.h) (Ends (is_link_up (f s.link).link.state) two.n.b two.n.h) s.frames (f s.link).frames (one.lane c r e) (λ d q x. two.lane d q x);
}

firm_follows : (g : List (ArrayVec ℕ)) (up : Bool) (b h : ℕ) (s : LinkStep) (f : Link → LinkStep) → (one : Sends g up b h s) → Firm g (is_link_up s.link.state) one.n.b one.n.h (f s.link) → Firm g up b h (follows_step s f)
firm_follows g up b h s f one two = record {
  n = two.n;
  source = two.source;
  tight = two.tight;
  lane = λ c r e. lane_append g c r (Ends (is_link_up s.link.state) one.n.b one.n.h) (Ends (is_link_up (f s.link).link.state) two.n.b two.n.h) s.frames (f s.link).frames (one.lane c r e) (λ d q x. two.lane d q x);
}

answers_state : (poll : Bool) (l : Link) (told : List Indication) → (answers poll l told).link.state ≡ l.state
answers_state true l told = refl
answers_state false l told = refl

answers_busy : (poll : Bool) (l : Link) (told : List Indication) → (answers poll l told).link.busy ≡ l.busy
answers_busy true l told = refl
answers_busy false l told = refl

rejects_state : (rejected : Bool) (l : Link) (poll : Bool) → (rejects rejected l poll).link.state ≡ l.state
rejects_state true l poll = answers_state poll l []
rejects_state false l poll = refl

message_state : (b : Bool) (l : Link) (poll : Bool) (m : ArrayVec ℕ) → (hear_message b l poll m).link.state ≡ l.state
message_state true l poll m = answers_state poll (took l) (Delivered m ∷ [])
message_state false l poll m = rejects_state l.rejected l poll

information_sends : (g : List (ArrayVec ℕ)) (l : Link) (n : Spot) (poll : Bool) (ns nr : ℕ) (m : ArrayVec ℕ) (now : ℕ) → is_link_up l.state ≡ true → nr < 128 → Source g l n → n.s ≡ n.h → Sends g (is_link_up l.state) n.b n.h (hear_information l poll ns nr m now)
information_sends g l n poll ns nr m now up small x t =
    let s = hear_message (ns == l.vr) l poll m in
    let one = firm_message g l n (ns == l.vr) poll m x t in
    sends_follows g (is_link_up l.state) n.b n.h s (λ k. hear_number (is_valid k nr) k nr now) one
    (number_sends g s.link one.n (is_valid s.link nr) nr now refl (ap is_link_up (message_state (ns == l.vr) l poll m) ∙ up) small one.source one.tight)

numbered_sends : (g : List (ArrayVec ℕ)) (l : Link) (n : Spot) (kind : Supervisory) (command poll : Bool) (nr now : ℕ) → is_link_up l.state ≡ true → nr < 128 → Source g l n → n.s ≡ n.h → Sends g (is_link_up l.state) n.b n.h (hear_numbered l kind command poll nr now)
numbered_sends g l n kind command poll nr now up small x t =
    let b = record l { busy = is_not_ready kind } in
    let told = unasked (is_established l.state && not command && poll) in
    let s = answers (command && poll) b told in
    let one = firm_answers g b n (command && poll) told (like g l b n refl x.vr x.stand x) t in
    sends_follows g (is_link_up l.state) n.b n.h s (λ k. hear_supervised (is_valid k nr) k.state k kind (not command && poll) nr now) one
    (supervised_sends g s.link one.n (is_valid s.link nr) s.link.state kind (not command && poll) nr now refl refl (ap is_link_up (answers_state (command && poll) b told) ∙ up) (answers_busy (command && poll) b told) small one.source one.tight)

-- N(R) of a frame is below 128
abbrev pub HasNumber : Frame → Type 0
HasNumber (Information poll ns nr m) = nr < 128
HasNumber (Numbered kind command poll nr) = nr < 128
HasNumber (Plain kind poll) = Unit {0}

if_up : (g : List (ArrayVec ℕ)) (l : Link) (n : Spot) (b : Bool) (s : LinkStep) → (b ≡ true → Sends g (is_link_up l.state) n.b n.h s) → Source g l n → n.s ≡ n.h → Sends g (is_link_up l.state) n.b n.h (if b then s else does l [] [])
if_up g l n true s y x t = y refl
if_up g l n false s y x t = same_told g l n [] x t

heard_sends : (g : List (ArrayVec ℕ)) (l : Link) (n : Spot) (f : Frame) (now : ℕ) → HasNumber f → Source g l n → n.s ≡ n.h → Sends g (is_link_up l.state) n.b n.h (link_heard l f now)
heard_sends g l n (Plain kind poll) now small x t = plain_sends g l n kind poll now x t
heard_sends g l n (Information poll ns nr m) now small x t = if_up g l n (is_link_up l.state) (hear_information l poll ns nr m now) (λ up. information_sends g l n poll ns nr m now up small x t) x t
heard_sends g l n (Numbered kind command poll nr) now small x t = if_up g l n (is_link_up l.state) (hear_numbered l kind command poll nr now) (λ up. numbered_sends g l n kind command poll nr now up small x t) x t

-- ---- what goes out after each row

firm_acknowledges : (g : List (ArrayVec ℕ)) (l : Link) (n : Spot) (owed : Bool) → Source g l n → n.s ≡ n.h → Firm g (is_link_up l.state) n.b n.h (acknowledges l owed)
firm_acknowledges g l n true x t = record { n = n; source = like g l (record l { owed = false }) n refl x.vr x.stand x; tight = t; lane = λ c r e. (x.vr, e) }
firm_acknowledges g l n false x t = firm_told g l n [] x t

abbrev pub chosen : Bool → Link → List (ArrayVec ℕ)
chosen b l = if b then take (7 - outstanding l) (drop (outstanding l) l.queue) else []

firm_flushes : (g : List (ArrayVec ℕ)) (l : Link) (n : Spot) (now : ℕ) (ms : List (ArrayVec ℕ)) → l.state ≡ Established → Source g l n → Stand g n.s ms → n.h ≤ n.s + length ms → n.s + length ms ≤ n.a + 7 → n.s + length ms ≤ length g → Firm g (is_link_up l.state) n.b n.h (flushes l now ms)
firm_flushes g l n now [] e x st y z w =
    let t = up_tracks l Established l.va l.vs n.a n.s n.h n.b e refl x.stand in
    let below = t.below in
    firm_acknowledges g l n l.owed x (omega arith)
firm_flushes g l n now (m ∷ ms) e x st y z w =
    let t = up_tracks l Established l.va l.vs n.a n.s n.h n.b e refl x.stand in
    let base = t.base in
    let sent = t.sent in
    let below = t.below in
    let window = t.window in
    let k = n.s + length (m ∷ ms) in
    let same : n.s - n.b + length (m ∷ ms) ≡ k - n.b = omega arith in
    let v = record l { vs = (l.vs + length (m ∷ ms)) % 128; owed = false; timer = running l.timer now } in
    record {
      n = record n { s = k; h = k };
      source = record {
        queue = x.queue;
        kept = x.kept;
        few = w;
        vr = x.vr;
        stand = stands_up l.state l.asked l.va ((l.vs + length (m ∷ ms)) % 128) n.a k k n.b (ap is_link_up e) (record {
          va_is = t.va_is;
          vs_is = ap (λ y. (y + length (m ∷ ms)) % 128) t.vs_is ∙ further_number (n.s - n.b) (length (m ∷ ms)) ∙ ap (λ y. y % 128) same;
          base = t.base;
          sent = omega arith;
          below = omega arith;
          window = z;
        });
      };
      tight = refl;
      lane = λ c r q. subst (λ up. Lane g c r (Ends up n.b k) (numbered_frames l.vs l.vr (m ∷ ms))) (sym (ap is_link_up e))
          (lane_numbered g n.b n.h k n.s l.vs l.vr (m ∷ ms) c r (omega arith) t.vs_is x.vr st (omega arith) (omega arith) (omega arith) (subst (λ up. Ends up n.b n.h c r) (ap is_link_up e) q));
    }

established_state : (st : LinkState) (b : Bool) → (is_established st && b) ≡ true → st ≡ Established
established_state Established b e = refl
established_state TimerRecovery b e = absurd (false≢true e)
established_state Assigned b e = absurd (false≢true e)
established_state AwaitingEstablishment b e = absurd (false≢true e)
established_state AwaitingRelease b e = absurd (false≢true e)

firm_chosen : (g : List (ArrayVec ℕ)) (l : Link) (n : Spot) (now : ℕ) (b : Bool) → (b ≡ true → l.state ≡ Established) → Source g l n → (n.s ≡ n.h) ⊎ (b ≡ true) → Firm g (is_link_up l.state) n.b n.h (flushes l now (chosen b l))
firm_chosen g l n now false e x (inl t) = firm_acknowledges g l n l.owed x t
firm_chosen g l n now false e x (inr t) = absurd (false≢true t)
firm_chosen g l n now true e x ready =
    let t = up_tracks l Established l.va l.vs n.a n.s n.h n.b (e refl) refl x.stand in
    let one = t.sent in
    let two = t.below in
    let three = t.window in
    let four = x.few in
    let gap : n.a + (n.s - n.a) ≡ n.s = omega arith in
    let o : outstanding l ≡ n.s - n.a = tracks_outstanding l.va l.vs n.a n.s n.h n.b t in
    let ms = take (7 - (n.s - n.a)) (drop n.s g) in
    let same : chosen true l ≡ ms =
    ap (λ i. take (7 - i) (drop i l.queue)) o ∙ ap (λ xs. take (7 - (n.s - n.a)) (drop (n.s - n.a) xs)) x.queue ∙ ap (take (7 - (n.s - n.a))) (drop-drop (n.s - n.a) n.a g ∙ ap (λ i. drop i g) gap) in
    let len : length ms ≡ min (7 - (n.s - n.a)) (length g - n.s) = length-take (7 - (n.s - n.a)) (drop n.s g) ∙ ap (min (7 - (n.s - n.a))) (length-drop n.s g) in
    subst (λ xs. Firm g (is_link_up l.state) n.b n.h (flushes l now xs)) (sym same)
    (firm_flushes g l n now ms (e refl) x (stand_drop (7 - (n.s - n.a)) n.s g) (omega (arith, len)) (omega (arith, len)) (omega (arith, len)))

firm_flush : (g : List (ArrayVec ℕ)) (l : Link) (n : Spot) (now : ℕ) → Source g l n → Ready l n → Firm g (is_link_up l.state) n.b n.h (flush now l)
firm_flush g l n now x r = firm_chosen g l n now (is_established l.state && not l.busy) (established_state l.state (not l.busy)) x r

pub firm_hear : (g : List (ArrayVec ℕ)) (l : Link) (n : Spot) (f : Frame) (now : ℕ) → HasNumber f → Source g l n → n.s ≡ n.h → Firm g (is_link_up l.state) n.b n.h (hear l f now)
firm_hear g l n f now small x t =
    let one = heard_sends g l n f now small x t in
    firm_follows g (is_link_up l.state) n.b n.h (link_heard l f now) (flush now) one (firm_flush g (link_heard l f now).link one.n now one.source one.ready)

-- ---- what layer 3 asks, and time

given_source : (g : List (ArrayVec ℕ)) (l : Link) (n : Spot) (m : ArrayVec ℕ) → Source g l n → Source (g ++ m ∷ []) (record l { queue = l.queue ++ m ∷ [] }) n
given_source g l n m x = record {
  queue = ap (λ xs. xs ++ m ∷ []) x.queue ∙ sym (drop-append-le n.a g (m ∷ []) x.kept);
  kept = (let k = x.kept in omega (arith, length-append g (m ∷ [])));
  few = (let k = x.few in omega (arith, length-append g (m ∷ [])));
  vr = x.vr;
  stand = x.stand;
}

pub firm_give : (g : List (ArrayVec ℕ)) (l : Link) (n : Spot) (b : Bool) (m : ArrayVec ℕ) (now : ℕ) → Source g l n → n.s ≡ n.h
    → Firm (g ++ (if b then m ∷ [] else [])) (is_link_up l.state) n.b n.h (if b then flush now (record l { queue = l.queue ++ m ∷ [] }) else does l [] [])
firm_give g l n true m now x t = firm_flush (g ++ m ∷ []) (record l { queue = l.queue ++ m ∷ [] }) n now (given_source g l n m x) (inl t)
firm_give g l n false m now x t = subst (λ xs. Firm xs (is_link_up l.state) n.b n.h (does l [] [])) (sym (append-nil g)) (firm_told g l n [] x t)

-- rows after which V(S) is where it was
firm_emptied : (g : List (ArrayVec ℕ)) (l m : Link) (n : Spot) (told : List Indication) (up : Bool) → Source g l n → m.queue ≡ [] → m.vr ≡ l.vr → Stands m.state m.asked m.va m.vs (length g) n.h n.h n.b → is_link_up m.state ≡ false → Firm g up n.b n.h (does m [] told)
firm_emptied g l m n told up x q v st d = record { n = record { a = length g; s = n.h; h = n.h; b = n.b }; source = emptied_source g l m n x q v st; tight = refl; lane = λ c r e. down_ends up n.b n.h n.h c c r (is_link_up m.state) n.b d (omega arith) e }

firm_emptied_plain : (g : List (ArrayVec ℕ)) (l m : Link) (n : Spot) (kind : Unnumbered) (poll : Bool) (told : List Indication) (up : Bool) → Source g l n → m.queue ≡ [] → m.vr ≡ l.vr → Stands m.state m.asked m.va m.vs (length g) n.h n.h n.b → is_link_up m.state ≡ false → Firm g up n.b n.h (does m (Plain kind poll ∷ []) told)
firm_emptied_plain g l m n kind poll told up x q v st d = record { n = record { a = length g; s = n.h; h = n.h; b = n.b }; source = emptied_source g l m n x q v st; tight = refl; lane = λ c r e. down_ends up n.b n.h n.h c None r (is_link_up m.state) n.b d (omega arith) e }

firm_down : (g : List (ArrayVec ℕ)) (l m : Link) (n : Spot) (told : List Indication) (up : Bool) → Source g l n → n.s ≡ n.h → m.queue ≡ l.queue → m.vr ≡ l.vr → Stands m.state m.asked m.va m.vs n.a n.s n.h n.b → is_link_up m.state ≡ false → Firm g up n.b n.h (does m [] told)
firm_down g l m n told up x t q v st d = record { n = n; source = kept_source g l m n x q v st; tight = t; lane = λ c r e. down_ends up n.b n.h n.h c c r (is_link_up m.state) n.b d (omega arith) e }

firm_down_plain : (g : List (ArrayVec ℕ)) (l m : Link) (n : Spot) (kind : Unnumbered) (poll : Bool) (told : List Indication) (up : Bool) → Source g l n → n.s ≡ n.h → m.queue ≡ l.queue → m.vr ≡ l.vr → Stands m.state m.asked m.va m.vs n.a n.s n.h n.b → is_link_up m.state ≡ false → Firm g up n.b n.h (does m (Plain kind poll ∷ []) told)
firm_down_plain g l m n kind poll told up x t q v st d = record { n = n; source = kept_source g l m n x q v st; tight = t; lane = λ c r e. down_ends up n.b n.h n.h c None r (is_link_up m.state) n.b d (omega arith) e }

pub firm_establish : (g : List (ArrayVec ℕ)) (l : Link) (n : Spot) (st : LinkState) (now : ℕ) → l.state ≡ st → Source g l n → n.s ≡ n.h → Firm g (is_link_up l.state) n.b n.h (establish st l now)
firm_establish g l n AwaitingRelease now e x t = firm_told g l n [] x t
firm_establish g l n AwaitingEstablishment now e x t =
    firm_emptied g l (record (discarded l) { asked = true }) n [] (is_link_up l.state) x refl refl (subst (λ st. Stands st true l.va l.vs (length g) n.h n.h n.b) (sym e) x.few) (ap is_link_up e)
firm_establish g l n Assigned now e x t = firm_emptied_plain g l (establishing (discarded l) true now) n u.Sabme true [] (is_link_up l.state) x refl refl x.few refl
firm_establish g l n Established now e x t = firm_emptied_plain g l (establishing (discarded l) true now) n u.Sabme true [] (is_link_up l.state) x refl refl x.few refl
firm_establish g l n TimerRecovery now e x t = firm_emptied_plain g l (establishing (discarded l) true now) n u.Sabme true [] (is_link_up l.state) x refl refl x.few refl

abbrev pub releasing : Link → ℕ → Link
releasing l now = record (discarded l) { state = AwaitingRelease; rc = 0; busy = false; rejected = false; owed = false; timer = T200 (now + t200) }

pub firm_release : (g : List (ArrayVec ℕ)) (l : Link) (n : Spot) (st : LinkState) (now : ℕ) → Source g l n → n.s ≡ n.h → Firm g (is_link_up l.state) n.b n.h (release st l now)
firm_release g l n Assigned now x t = firm_told g l n (LinkReleased ∷ []) x t
firm_release g l n AwaitingRelease now x t = firm_told g l n [] x t
firm_release g l n AwaitingEstablishment now x t = firm_emptied_plain g l (releasing l now) n u.Disc true [] (is_link_up l.state) x refl refl x.few refl
firm_release g l n Established now x t = firm_emptied_plain g l (releasing l now) n u.Disc true [] (is_link_up l.state) x refl refl x.few refl
firm_release g l n TimerRecovery now x t = firm_emptied_plain g l (releasing l now) n u.Disc true [] (is_link_up l.state) x refl refl x.few refl

firm_enquires : (g : List (ArrayVec ℕ)) (l : Link) (n : Spot) (rc now : ℕ) → is_link_up l.state ≡ true → Source g l n → n.s ≡ n.h → Firm g (is_link_up l.state) n.b n.h (enquires l rc now)
firm_enquires g l n rc now up x t = record {
  n = n;
  source = like g l (enquires l rc now).link n refl x.vr (up_tracks l l.state l.va l.vs n.a n.s n.h n.b refl up x.stand) x;
  tight = t;
  lane = λ c r e. (x.vr, subst (λ y. Ends y n.b n.h c r) up e);
}

sabme_again : (g : List (ArrayVec ℕ)) (l : Link) (n : Spot) (now : ℕ) (b : Bool) → l.state ≡ AwaitingEstablishment → Source g l n → n.s ≡ n.h
    → Firm g (is_link_up l.state) n.b n.h (if b then does (record l { rc = l.rc + 1; timer = T200 (now + t200) }) (Plain u.Sabme true ∷ []) [] else does (discarded (assigned l)) [] (LinkError error.SabmeUnanswered ∷ LinkReleased ∷ []))
sabme_again g l n now true e x t = firm_down_plain g l (record l { rc = l.rc + 1; timer = T200 (now + t200) }) n u.Sabme true [] (is_link_up l.state) x t refl refl x.stand (ap is_link_up e)
sabme_again g l n now false e x t = firm_emptied g l (discarded (assigned l)) n (LinkError error.SabmeUnanswered ∷ LinkReleased ∷ []) (is_link_up l.state) x refl refl x.few refl

disc_again : (g : List (ArrayVec ℕ)) (l : Link) (n : Spot) (now : ℕ) (b : Bool) → l.state ≡ AwaitingRelease → Source g l n → n.s ≡ n.h
    → Firm g (is_link_up l.state) n.b n.h (if b then does (record l { rc = l.rc + 1; timer = T200 (now + t200) }) (Plain u.Disc true ∷ []) [] else does (assigned l) [] (LinkError error.DiscUnanswered ∷ LinkReleased ∷ []))
disc_again g l n now true e x t = firm_down_plain g l (record l { rc = l.rc + 1; timer = T200 (now + t200) }) n u.Disc true [] (is_link_up l.state) x t refl refl x.stand (ap is_link_up e)
disc_again g l n now false e x t = firm_down g l (assigned l) n (LinkError error.DiscUnanswered ∷ LinkReleased ∷ []) (is_link_up l.state) x t refl refl (stands_down l AwaitingRelease l.va l.vs n.a n.s n.h n.b e x.stand) refl

asks_again : (g : List (ArrayVec ℕ)) (l : Link) (n : Spot) (now : ℕ) (b : Bool) → is_link_up l.state ≡ true → Source g l n → n.s ≡ n.h
    → Firm g (is_link_up l.state) n.b n.h (if b then enquires l (l.rc + 1) now else does (establishing l false now) (Plain u.Sabme true ∷ []) (LinkError error.EnquiryUnanswered ∷ []))
asks_again g l n now true up x t = firm_enquires g l n (l.rc + 1) now up x t
asks_again g l n now false up x t = firm_down_plain g l (establishing l false now) n u.Sabme true (LinkError error.EnquiryUnanswered ∷ []) (is_link_up l.state) x t refl refl (up_tracks l l.state l.va l.vs n.a n.s n.h n.b refl up x.stand) refl

firm_expires : (g : List (ArrayVec ℕ)) (l : Link) (n : Spot) (st : LinkState) (now : ℕ) → l.state ≡ st → Source g l n → n.s ≡ n.h → Firm g (is_link_up l.state) n.b n.h (expires st l now)
firm_expires g l n Assigned now e x t = firm_told g l n [] x t
firm_expires g l n AwaitingEstablishment now e x t = sabme_again g l n now (nat_lt l.rc n200) e x t
firm_expires g l n AwaitingRelease now e x t = disc_again g l n now (nat_lt l.rc n200) e x t
firm_expires g l n Established now e x t = firm_enquires g l n (first_count l.timer) now (ap is_link_up e) x t
firm_expires g l n TimerRecovery now e x t = asks_again g l n now (nat_lt l.rc n200) (ap is_link_up e) x t

pub firm_elapse : (g : List (ArrayVec ℕ)) (l : Link) (n : Spot) (b : Bool) (now : ℕ) → Source g l n → n.s ≡ n.h → Firm g (is_link_up l.state) n.b n.h (if b then expires l.state l now else does l [] [])
firm_elapse g l n true now x t = firm_expires g l n l.state now refl x t
firm_elapse g l n false now x t = firm_told g l n [] x t

pub firm_poll : (g : List (ArrayVec ℕ)) (l : Link) (n : Spot) (b : Bool) (now : ℕ) → is_at_rest l ≡ b → Source g l n → n.s ≡ n.h → Firm g (is_link_up l.state) n.b n.h (if b then enquires l 0 now else does l [] [])
firm_poll g l n true now e x t = firm_enquires g l n 0 now (at_rest_up l e) x t
firm_poll g l n false now e x t = firm_told g l n [] x t
