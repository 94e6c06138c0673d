-- Frames written one after another.
use Rattle.std.proofs.Common.{◌≡◌, ◌+◌, ◌<◌, ◌≤◌, ℕ, [], ◌∷◌, ◌++◌, List, length, take, drop, get_or, Option, Result, Ok, Err, sym, ap, ◌∙◌, subst, arith, length-append}
use Rattle.std.specs.List.{flat_map}
use Rattle.std.specs.Io.KnownBytes.{Appends}
use Rattle.std.proofs.KnownBytes.{Appends-trans}
use Rattle.std.proofs.lemmas.List.{append-nil, take-append-le, take_more, take_all, take-append-drop}
use Rattle.std.proofs.lemmas.Grind.{flat_map-append}
use Rattle.std.proofs.Math.Seq.{take-append-add}
use Rattle.bx_devices.specs.declared.watched.Watched.{Watched}
use Rattle.bx_devices.specs.declared.octets.WriteFailed.{WriteFailed}
use Rattle.bx_devices.specs.Watching.{device_of}
use Rattle.bx_frames.specs.Writing.{Sends}

abbrev pub Written : Type 0
Written = Result (Unit {0}) WriteFailed

abbrev pub done : Written
done = Ok tt

abbrev pub stopped : WriteFailed → Written
stopped e = Err e

module _ {W : Type 0} (contents : W → Option (List ℕ)) where
  -- a text after one that was written
  pub sends_then : (a b d : Watched W) (r : Written) (s t : List ℕ) → Sends contents a b done s → Sends contents b d r t → Sends contents a d r (s ++ t)
  sends_then a b d (Ok x) s t p q = record {
    written = Appends-trans (contents (device_of a)) (contents (device_of b)) (contents (device_of d)) s t p.written q.written;
    part = tt;
    faulted = tt;
    unfaulted = q.unfaulted ∙ p.unfaulted;
  }
  sends_then a b d (Err e) s t p q = record {
    written = tt;
    part = (
      length s + q.part.0,
      omega (arith, length-append s t, q.part.1),
      subst (Appends (contents (device_of a)) (contents (device_of d))) (sym (take-append-add s t q.part.0))
          (Appends-trans (contents (device_of a)) (contents (device_of b)) (contents (device_of d)) s (take q.part.0 t) p.written q.part.2),
    );
    faulted = q.faulted;
    unfaulted = tt;
  }

  -- a text that was to be the prefix of another, where its writing failed
  pub sends_failed : (a b : Watched W) (e f : WriteFailed) (s rest whole : List ℕ) → whole ≡ s ++ rest → Sends contents a b (stopped e) s → Sends contents a b (stopped f) whole
  sends_failed a b e f s rest whole same p = record {
    written = tt;
    part = (
      p.part.0,
      omega (arith, p.part.1, length-append s rest, ap length same),
      subst (Appends (contents (device_of a)) (contents (device_of b))) (sym (ap (take p.part.0) same ∙ take-append-le p.part.0 s rest (omega (arith, p.part.1)))) p.part.2,
    );
    faulted = p.faulted;
    unfaulted = tt;
  }

module _ {X W : Type 0} (f : X → List ℕ) (contents : W → Option (List ℕ)) (xs : List X) (i : ℕ) where
  pub texts_written : (a b : Watched W) → length xs ≤ i → Sends contents a b done (flat_map f (take i xs)) → Sends contents a b done (flat_map f xs)
  texts_written a b le so_far = subst (λ (l : List X). Sends contents a b done (flat_map f l)) (take_all i xs le) so_far

  module _ (x : X) (lt : i < length xs) (at : x ≡ get_or xs i x) where
    texts_more : flat_map f (take (i + 1) xs) ≡ flat_map f (take i xs) ++ f x
    texts_more =
        ap (flat_map f) (take_more xs i x lt ∙ ap (λ (y : X). take i xs ++ y ∷ []) (sym at)) ∙ flat_map-append f (take i xs) (x ∷ [])
        ∙ ap (λ (l : List ℕ). flat_map f (take i xs) ++ l) (append-nil (f x))

    pub text_written : (a b d : Watched W) → Sends contents a b done (flat_map f (take i xs)) → Sends contents b d done (f x) → Sends contents a d done (flat_map f (take (i + 1) xs))
    text_written a b d so_far next = subst (λ (l : List ℕ). Sends contents a d done l) (sym texts_more) (sends_then contents a b d done (flat_map f (take i xs)) (f x) so_far next)

    pub text_failed : (a b d : Watched W) (e e' : WriteFailed) → Sends contents a b done (flat_map f (take i xs)) → Sends contents b d (stopped e) (f x) → Sends contents a d (stopped e') (flat_map f xs)
    text_failed a b d e e' so_far next =
        let both = sends_then contents a b d (stopped e) (flat_map f (take i xs)) (f x) so_far next in
        let whole : flat_map f xs ≡ (flat_map f (take i xs) ++ f x) ++ flat_map f (drop (i + 1) xs)
        = ap (flat_map f) (sym (take-append-drop (i + 1) xs)) ∙ flat_map-append f (take (i + 1) xs) (drop (i + 1) xs) ∙ ap (λ (l : List ℕ). l ++ flat_map f (drop (i + 1) xs)) texts_more in
        sends_failed contents a d e e' (flat_map f (take i xs) ++ f x) (flat_map f (drop (i + 1) xs)) (flat_map f xs) whole both
