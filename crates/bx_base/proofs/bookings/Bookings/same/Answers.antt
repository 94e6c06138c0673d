use Rattle.std.proofs.Common.{◌≡◌, ℕ, Bool, true, false, List, length, take, ap, sym, ◌∙◌, refl, subst}
use Rattle.std.proofs.lemmas.Slice.Eq.{slice_eq-Decides}
use Rattle.std.proofs.lemmas.Bool.{and_parts, and_from, eqb-true, eq-eqb}
use Rattle.std.proofs.lemmas.Bool.Decides.{Decides-eqb}
use Rattle.std.proofs.Math.Seq.{take-append_seam}
use Rattle.std.proofs.Math.Bool.{beq}
use Rattle.std.specs.Bool.{Decides}
use Rattle.bx_channels.specs.Numbers.{padded}
use Rattle.bx_base.specs.Bookings.{Row, row_of}
use Rattle.bx_base.specs.contracts.booking.BookingPartialEq.TheImpl.{eq-value}
use Rattle.bx_base.proofs.bookings.Bookings.same.Goals as goal

same_number : (xs ys : List ℕ) → padded xs ≡ padded ys → length xs ≡ length ys → xs ≡ ys
same_number xs ys p l = sym (take-append_seam xs _) ∙ (ap (take (length xs)) p ∙ (rw l (take-append_seam ys _)))

same_flag : (a b : Bool) → beq a b ≡ true → a ≡ b
same_flag true true h = refl
same_flag false false h = refl
same_flag true false h = cc
same_flag false true h = cc

flag_itself : (a : Bool) → beq a a ≡ true
flag_itself true = refl
flag_itself false = refl

same_row : (s t : ℕ) (e f : ℕ) (p q : ℕ) (xs ys : List ℕ) (m n i j : Bool) → s ≡ t → e ≡ f → p ≡ q → xs ≡ ys → m ≡ n → i ≡ j → row_of s e p xs m i ≡ row_of t f q ys n j
same_row s t e f p q xs ys m n i j h1 h2 h3 h4 h5 h6 = cc

row_itself : (a : Row) → eq-value.it a a ≡ true
row_itself a =
    and_from _ _ (eq-eqb a.start a.start refl) (and_from _ _ (eq-eqb a.end a.end refl) (and_from _ _ (eq-eqb a.pay a.pay refl)
    (and_from _ _ (and_from _ _ ((slice_eq-Decides Decides-eqb (padded a.number) (padded a.number) _ refl).1 refl) (eq-eqb (length a.number) (length a.number) refl)) (and_from _ _ (flag_itself a.must) (flag_itself a.inward)))))

rows_decide : (a b : Row) → Decides (eq-value.it a b) (a ≡ b)
rows_decide a b = (
  λ h.
      let h1 = and_parts _ _ h in
      let h2 = and_parts _ _ h1.1 in
      let h3 = and_parts _ _ h2.1 in
      let h4 = and_parts _ _ h3.1 in
      let h5 = and_parts _ _ h4.0 in
      let h6 = and_parts _ _ h4.1 in
      let digits = (slice_eq-Decides Decides-eqb (padded a.number) (padded b.number) _ refl).0 h5.0 in
      same_row a.start b.start a.end b.end a.pay b.pay a.number b.number a.must b.must a.inward b.inward (eqb-true _ _ h1.0) (eqb-true _ _ h2.0) (eqb-true _ _ h3.0) (same_number a.number b.number digits (eqb-true _ _ h5.1)) (same_flag _ _ h6.0) (same_flag _ _ h6.1),
  λ e. subst (λ (r : Row). eq-value.it a r ≡ true) e (row_itself a),
)

pub returns : goal.returns
returns c =
    let d = slice_eq-Decides {E = eq-value.it} rows_decide c.self.inside.rows.items c.other.inside.rows.items c.eq.result c.eq.ensures in
    rw (← c.self.view_is, ← c.other.view_is) d
