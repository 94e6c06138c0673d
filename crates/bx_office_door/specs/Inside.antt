-- Private: acts that are cut so, one after another.
use Rattle.std.specs.Prelude.{◌≡◌, ℕ, List, [], ◌∷◌, ◌++◌, map, Option}
use Rattle.std.proofs.Common.{refl, sym, subst, ap, ◌∙◌}
use Rattle.std.proofs.lemmas.List.{map-append}
use Rattle.bx_line_world.specs.Wires.{WireAct, Shown, Sent, Waited}
use Rattle.bx_office_door.specs.Attending.{DoorAct, Attended, AreAttended, DidBeside, attended_by, shown_after, heard_after, heard_by}
use Rattle.bx_office_door.specs.Hearing.{is_heard}
use Rattle.bx_office_door.specs.Lending.{Lending}
use Rattle.bx_office_door.specs.Sliced.{sliced, DidInside}
use Rattle.bx_office_door.specs.declared.wire.OfficeWire.{OfficeWire}

module _ {W : Type 0} (did : W → List WireAct → W → Type 0) where
  pub did_inside_more : ((s t u : W) (xs ys : List WireAct) → did s xs t → did t ys u → did s (xs ++ ys) u) → (s t u : W) (xs ys : List WireAct) → DidInside did s xs t → DidInside did t ys u → DidInside did s (xs ++ ys) u
  did_inside_more more s t u xs ys p q = subst (λ (acts : List WireAct). did s acts u) (sym (map-append sliced xs ys)) (more s t u (map sliced xs) (map sliced ys) p q)

shown_more : (shown : ℕ) (xs ys : List WireAct) → shown_after shown (xs ++ ys) ≡ shown_after (shown_after shown xs) ys
shown_more shown [] ys = refl
shown_more shown (Shown nanos ∷ xs) ys = shown_more nanos xs ys
shown_more shown (Sent octets ∷ xs) ys = shown_more shown xs ys
shown_more shown (Waited most came ∷ xs) ys = shown_more shown xs ys

heard_more : (shown : ℕ) (heard : Option ℕ) (xs ys : List WireAct) → heard_after shown heard (xs ++ ys) ≡ heard_after (shown_after shown xs) (heard_after shown heard xs) ys
heard_more shown heard [] ys = refl
heard_more shown heard (Shown nanos ∷ xs) ys = heard_more nanos heard xs ys
heard_more shown heard (Sent octets ∷ xs) ys = heard_more shown heard xs ys
heard_more shown heard (Waited most came ∷ xs) ys = heard_more shown (heard_by shown heard came) xs ys

attended_more : (shown : ℕ) (heard : Option ℕ) (xs ys : List WireAct) → attended_by shown heard (xs ++ ys) ≡ attended_by shown heard xs ++ attended_by (shown_after shown xs) (heard_after shown heard xs) ys
attended_more shown heard [] ys = refl
attended_more shown heard (Shown nanos ∷ xs) ys = attended_more nanos heard xs ys
attended_more shown heard (Sent octets ∷ xs) ys = attended_more shown heard xs ys
attended_more shown heard (Waited most came ∷ xs) ys = ap (λ (acts : List DoorAct). Attended shown (is_heard heard shown) ∷ acts) (attended_more shown (heard_by shown heard came) xs ys)

module _ {S : Type 0} (lent : S → Lending → S → Type 0) where
  are_attended_more : (xs ys : List DoorAct) (a b c : S) → AreAttended lent xs a b → AreAttended lent ys b c → AreAttended lent (xs ++ ys) a c
  are_attended_more [] ys a b c same more = subst (λ (s : S). AreAttended lent ys s c) same more
  are_attended_more (Attended now heard ∷ xs) ys a b c (mid, once, rest) more = (mid, once, are_attended_more xs ys mid b c rest more)

module _ {W S : Type 0} (did : W → List WireAct → W → Type 0) (lent : S → Lending → S → Type 0) where
  pub beside_nothing : ((w : W) → did w [] w) → (s : OfficeWire W S) → DidBeside did lent s [] s
  beside_nothing still s = record { wire = still s.wire; door = refl; shown = refl; heard = refl }

  pub beside_more : ((s t u : W) (xs ys : List WireAct) → did s xs t → did t ys u → did s (xs ++ ys) u)
      → (s t u : OfficeWire W S) (xs ys : List WireAct) → DidBeside did lent s xs t → DidBeside did lent t ys u → DidBeside did lent s (xs ++ ys) u
  beside_more more s t u xs ys p q =
      let then : AreAttended lent (attended_by (shown_after s.shown xs) (heard_after s.shown s.heard xs) ys) t.door u.door = rw (← p.shown, ← p.heard) q.door in
      record {
        wire = did_inside_more did more s.wire t.wire u.wire xs ys p.wire q.wire;
        door = subst (λ (acts : List DoorAct). AreAttended lent acts s.door u.door) (sym (attended_more s.shown s.heard xs ys))
            (are_attended_more lent (attended_by s.shown s.heard xs) (attended_by (shown_after s.shown xs) (heard_after s.shown s.heard xs) ys) s.door t.door u.door p.door then);
        shown = q.shown ∙ ap (λ (n : ℕ). shown_after n ys) p.shown ∙ sym (shown_more s.shown xs ys);
        heard = q.heard ∙ ap (λ (n : ℕ). heard_after n t.heard ys) p.shown ∙ ap (λ (h : Option ℕ). heard_after (shown_after s.shown xs) h ys) p.heard ∙ sym (heard_more s.shown s.heard xs ys);
      }
