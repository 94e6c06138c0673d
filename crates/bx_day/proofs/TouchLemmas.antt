-- A pass over some of the bookings, one by one.
use Rattle.std.proofs.Common.{◌≡◌, ◌≢◌, ℕ, zero, suc, ◌+◌, ◌≤◌, ◌<◌, ◌==◌, ◌&&◌, ◌||◌, Bool, true, false, List, [], ◌∷◌, length, Option, Some, None, arith, refl, sym, subst, ap, ap₂, ◌∙◌, inl, inr, slice_set, slice_index_or, length-set, replicate, if◌then◌else◌}
use Rattle.std.specs.Prelude.{is_some}
use Rattle.std.proofs.lemmas.Bool.{true≢false, false≢true, cases_eq, cases_lt, eqb-true, eq-eqb, or_cases, false_from_ne_true}
use Rattle.std.proofs.lemmas.List.{get_or-set_same, get_or-set_other}
use Rattle.bx_q931.specs.Outgoing.{Outgoing}
use Rattle.bx_channels.specs.Marks.{is_marked}
use Rattle.bx_day.specs.Day.{Day, entry_at, no_entry}
use Rattle.bx_day.specs.Ticks.{second_in, after_in, said_in, breaks_in}
use Rattle.bx_day.specs.Moves.{stays}
use Rattle.bx_day.specs.Invariant.{is_refused}
use Rattle.bx_day.specs.Passing.{Passed}
use Rattle.bx_day.specs.Reading.{IsExchange}
use Rattle.bx_day.specs.declared.entry.Entry.{Entry}
use Rattle.bx_day.specs.declared.entry.Moved.{Moved}
use Rattle.bx_day.proofs.Once.{says_once_in, none≢some}
use Rattle.bx_day.proofs.Passing.{refused_stays_in}
use Rattle.bx_day.proofs.SaidOnce.{said_alone}
use Rattle.bx_day.specs.declared.entry.Link.{Link}

-- ---- no booking yet, the same bookings, and one more

pub empty_at : (n c : ℕ) → ◌≡◌ {A = Option Outgoing} (slice_index_or (replicate n None) c None) None
empty_at zero c = refl
empty_at (suc n) zero = refl
empty_at (suc n) (suc c) = empty_at n c

pub none_passed : (link : Link) (d : Day) → Passed link d (λ i. false) d.entries d.maintenance (replicate 32 None)
none_passed link d = record {
  size = refl;
  rows = λ i lt. refl;
  channels = refl;
  kept = λ c h. h;
  broken = λ i lt done. absurd (false≢true done);
  whole = λ c h none. h;
  sizes = refl;
  said = λ c o is. absurd (none≢some o (sym (empty_at 32 c) ∙ is));
  silent = λ i lt done. absurd (false≢true done);
}

pub passed_as : (link : Link) (d : Day) (done done' : ℕ → Bool) (es : List Entry) (ms : List Bool) (ss : List (Option Outgoing)) → ((i : ℕ) → i < length d.entries → done' i ≡ done i) → Passed link d done es ms ss → Passed link d done' es ms ss
passed_as link d done done' es ms ss same p = record {
  size = p.size;
  rows = λ i lt. p.rows i lt ∙ ap (λ b. if b then after_in link d (entry_at d.entries i) else entry_at d.entries i) (sym (same i lt));
  channels = p.channels;
  kept = p.kept;
  broken = λ i lt is. p.broken i lt (sym (same i lt) ∙ is);
  whole = p.whole;
  sizes = p.sizes;
  said = p.said;
  silent = λ i lt is. p.silent i lt (sym (same i lt) ∙ is);
}

abbrev pub with_one : ℕ → (ℕ → Bool) → ℕ → Bool
with_one j done i = (i == j) || done i

-- each of these, or one of those before
pub one_or : (P : Type 0) (i j : ℕ) (b : Bool) → ((i == j) || b) ≡ true → (i ≡ j → P) → (i ≢ j → b ≡ true → P) → P
one_or P i j b h f g = elim (cases_eq i j) [
  | inl same ↦ f same
  | inr other ↦ g other (elim (or_cases (i == j) b h) [ inl is ↦ absurd (other (eqb-true i j is)) | inr before ↦ before ])
]

pub other_or : (i j : ℕ) (b : Bool) → i ≢ j → ((i == j) || b) ≡ b
other_or i j b other = ap (λ x. x || b) (false_from_ne_true (i == j) (λ is. other (eqb-true i j is)))

pub set_kept : (b : Bool) (ms : List Bool) (c k : ℕ) → is_marked ms k ≡ true → is_marked (if b then slice_set ms c true else ms) k ≡ true
set_kept false ms c k h = h
set_kept true ms c k h = elim (cases_eq k c) [
  | inl same ↦ (elim (cases_lt c (length ms)) [
    | inl less ↦ ap (is_marked (slice_set ms c true)) same ∙ get_or-set_same ms c true false less
    | inr le ↦ absurd (true≢false (sym h ∙ ap (is_marked ms) same ∙ beyond_set ms c le))
  ])
  | inr other ↦ get_or-set_other ms c k true false other ∙ h
]
  where
    beyond_set : (xs : List Bool) (n : ℕ) → length xs ≤ n → is_marked xs n ≡ false
    beyond_set [] n le = refl
    beyond_set (x ∷ xs) zero le = absurd (omega (arith, le))
    beyond_set (x ∷ xs) (suc n) le = beyond_set xs n (omega (arith, le))

pub set_size : (b : Bool) (ms : List Bool) (c : ℕ) → length (if b then slice_set ms c true else ms) ≡ length ms
set_size true ms c = length-set ms c true
set_size false ms c = refl

pub said_size : (b : Bool) (ss : List (Option Outgoing)) (c : ℕ) (o : Option Outgoing) → length (if b then slice_set ss c o else ss) ≡ length ss
said_size true ss c o = length-set ss c o
said_size false ss c o = refl

-- one booking more says o, and breaks its channel or not
pub record OneMore (link : Link) (d : Day) (j : ℕ) (broken : Bool) (o : Option Outgoing) : Type 0 where
  inside : j < length d.entries
  breaks : (second_in link d (entry_at d.entries j)).broken ≡ broken
  says : (second_in link d (entry_at d.entries j)).said ≡ o

pub whole_more : (link : Link) (d : Day) (j c k : ℕ) (b : Bool) (o : Option Outgoing) (ms : List Bool) → c ≡ (entry_at d.entries j).channel → OneMore link d j b o → breaks_in link d k (entry_at d.entries j) ≡ false → is_marked ms k ≡ false → is_marked (if b then slice_set ms c true else ms) k ≡ false
whole_more link d j c k false o ms on m unbroken h = h
whole_more link d j c k true o ms on m unbroken h = get_or-set_other ms c k true false (λ same. true≢false (sym (ap₂ (λ x y. x && y) m.breaks (eq-eqb (entry_at d.entries j).channel k (sym (same ∙ on)))) ∙ unbroken)) ∙ h

pub said_more : (link : Link) (d : Day) (j c k : ℕ) (b : Bool) (o : Option Outgoing) (x : Outgoing) (ss : List (Option Outgoing)) → IsExchange d → c ≡ (entry_at d.entries j).channel → c < length ss → OneMore link d j b o → ((n : ℕ) (y : Outgoing) → slice_index_or ss n None ≡ Some y → said_in link d n d.entries ≡ y ∷ []) → slice_index_or (if is_some o then slice_set ss c o else ss) k None ≡ Some x → said_in link d k d.entries ≡ x ∷ []
said_more link d j c k b None x ss h on lt m before is = before k x is
said_more link d j c k b (Some y) x ss h on lt m before is = elim (cases_eq k c) [
  | inl same ↦ (
      let there : Some y ≡ Some x = sym (get_or-set_same ss c (Some y) None lt) ∙ ap (λ n. slice_index_or (slice_set ss c (Some y)) n None) (sym same) ∙ is in
      said_alone link d k d.entries j x m.inside (sym on ∙ sym same) (m.says ∙ there) (says_once_in link d h k))
  | inr other ↦ before k x (sym (get_or-set_other ss c k (Some y) None other) ∙ is)
]

-- what was not said before is not said now, and the slot of the channel is not free where this one says something
pub silent_before : (ss : List (Option Outgoing)) (c k : ℕ) (o : Option Outgoing) → c < length ss → slice_index_or (if is_some o then slice_set ss c o else ss) k None ≡ None → slice_index_or ss k None ≡ None
silent_before ss c k None lt is = is
silent_before ss c k (Some y) lt is = elim (cases_eq k c) [
  | inl same ↦ absurd (none≢some y (sym is ∙ ap (λ n. slice_index_or (slice_set ss c (Some y)) n None) same ∙ get_or-set_same ss c (Some y) None lt))
  | inr other ↦ sym (get_or-set_other ss c k (Some y) None other) ∙ is
]

pub silent_now : (ss : List (Option Outgoing)) (c : ℕ) (o : Option Outgoing) → c < length ss → slice_index_or (if is_some o then slice_set ss c o else ss) c None ≡ None → o ≡ None
silent_now ss c None lt is = refl
silent_now ss c (Some y) lt is = absurd (none≢some y (sym is ∙ get_or-set_same ss c (Some y) None lt))

pub broken_now : (b : Bool) (ms : List Bool) (c : ℕ) → b ≡ true → c < length ms → is_marked (if b then slice_set ms c true else ms) c ≡ true
broken_now true ms c h lt = get_or-set_same ms c true false lt
broken_now false ms c h lt = absurd (false≢true h)

pub passed_more : (link : Link) (d : Day) (done : ℕ → Bool) (j c : ℕ) (m : Moved) (es es' : List Entry) (ms ms' : List Bool) (ss ss' : List (Option Outgoing)) → IsExchange d → j < length d.entries → m ≡ second_in link d (entry_at d.entries j) → c ≡ (entry_at d.entries j).channel → c ≤ 31
    → es' ≡ slice_set es j (record (entry_at d.entries j) { standing = m.standing }) → ms' ≡ (if m.broken then slice_set ms c true else ms) → ss' ≡ (if is_some m.said then slice_set ss c m.said else ss)
    → Passed link d done es ms ss → Passed link d (with_one j done) es' ms' ss'
passed_more link d done j c m es es' ms ms' ss ss' h inside is on high e-is m-is s-is p =
    let e = entry_at d.entries j in
    let one : OneMore link d j m.broken m.said = record { inside = inside; breaks = sym (ap (λ (x : Moved). x.broken) is); says = sym (ap (λ (x : Moved). x.said) is) } in
    let room : c < length ss = omega (arith, high, p.sizes) in
    rw (e-is, m-is, s-is) (record {
      size = length-set es j (record e { standing = m.standing }) ∙ p.size;
      rows = λ i lt. elim (cases_eq i j) [
        | inl same ↦ subst (λ n. entry_at (slice_set es j (record e { standing = m.standing })) n ≡ (if with_one j done n then after_in link d (entry_at d.entries n) else entry_at d.entries n)) (sym same)
            (get_or-set_same es j (record e { standing = m.standing }) no_entry (omega (arith, inside, p.size)) ∙ ap (λ (x : Moved). record e { standing = x.standing }) is ∙ sym (ap (λ b. if b || done j then after_in link d e else e) (eq-eqb j j refl)))
        | inr other ↦ get_or-set_other es j i (record e { standing = m.standing }) no_entry other ∙ p.rows i lt ∙ ap (λ b. if b then after_in link d (entry_at d.entries i) else entry_at d.entries i) (sym (other_or i j (done i) other))
      ];
      channels = set_size m.broken ms c ∙ p.channels;
      kept = λ k set. set_kept m.broken ms c k (p.kept k set);
      broken = λ i lt now small breaks. one_or _ i j (done i) now
          (λ same. (
          let at_c : (entry_at d.entries i).channel ≡ c = ap (λ n. (entry_at d.entries n).channel) same ∙ sym on in
          ap (is_marked (if m.broken then slice_set ms c true else ms)) at_c ∙ broken_now m.broken ms c (sym one.breaks ∙ ap (λ n. (second_in link d (entry_at d.entries n)).broken) (sym same) ∙ breaks) (omega (arith, small, at_c, p.channels))))
          (λ other before. set_kept m.broken ms c (entry_at d.entries i).channel (p.broken i lt before small breaks));
      whole = λ k unset none. whole_more link d j c k m.broken m.said ms on one (none j inside) (p.whole k unset none);
      sizes = said_size (is_some m.said) ss c m.said ∙ p.sizes;
      said = λ k x now. said_more link d j c k m.broken m.said x ss h on room one p.said now;
      silent = λ i lt now free. one_or _ i j (done i) now
          (λ same. (
          let at_c : (entry_at d.entries i).channel ≡ c = ap (λ n. (entry_at d.entries n).channel) same ∙ sym on in
          ap (λ n. (second_in link d (entry_at d.entries n)).said) same ∙ one.says ∙ silent_now ss c m.said room (ap (λ n. slice_index_or (if is_some m.said then slice_set ss c m.said else ss) n None) (sym at_c) ∙ free)))
          (λ other before. p.silent i lt before (silent_before ss c (entry_at d.entries i).channel m.said room free));
    })

-- a booking with no channel is refused, and stays as it is
pub passed_refused : (link : Link) (d : Day) (done : ℕ → Bool) (j : ℕ) (es : List Entry) (ms : List Bool) (ss : List (Option Outgoing)) → j < length d.entries → done j ≡ false → is_refused (entry_at d.entries j).standing ≡ true → Passed link d done es ms ss → Passed link d (with_one j done) es ms ss
passed_refused link d done j es ms ss inside undone refused p =
    let e = entry_at d.entries j in
    let stay : second_in link d e ≡ stays e.standing = refused_stays_in link (d.moment + 1) _ _ e e.standing refused in
    record {
      size = p.size;
      rows = λ i lt. elim (cases_eq i j) [
        | inl same ↦ p.rows i lt ∙ subst (λ n. (if done n then after_in link d (entry_at d.entries n) else entry_at d.entries n) ≡ (if with_one j done n then after_in link d (entry_at d.entries n) else entry_at d.entries n)) (sym same)
            (ap (λ b. if b then after_in link d e else e) undone ∙ ap (λ (x : Moved). record e { standing = x.standing }) (sym stay) ∙ sym (ap (λ b. if b || done j then after_in link d e else e) (eq-eqb j j refl)))
        | inr other ↦ p.rows i lt ∙ ap (λ b. if b then after_in link d (entry_at d.entries i) else entry_at d.entries i) (sym (other_or i j (done i) other))
      ];
      channels = p.channels;
      kept = p.kept;
      broken = λ i lt now small breaks. one_or _ i j (done i) now
          (λ same. absurd (true≢false (sym breaks ∙ ap (λ n. (second_in link d (entry_at d.entries n)).broken) same ∙ ap (λ (x : Moved). x.broken) stay)))
          (λ other before. p.broken i lt before small breaks);
      whole = p.whole;
      sizes = p.sizes;
      said = p.said;
      silent = λ i lt now free. one_or _ i j (done i) now
          (λ same. ap (λ n. (second_in link d (entry_at d.entries n)).said) same ∙ ap (λ (x : Moved). x.said) stay)
          (λ other before. p.silent i lt before free);
    }
