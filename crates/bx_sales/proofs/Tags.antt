-- What the line of a sale tells is read again.
use Rattle.std.proofs.Common.{◌≡◌, ℕ, ◌+◌, nat_le, true, false, List, ◌++◌, length, take, drop, codes, Some, None, refl, ap, ap₂, ◌∙◌, subst, if◌then◌else◌, arith, length-append}
use Rattle.std.specs.Str.{bytes_eq}
use Rattle.std.proofs.lemmas.Bool.{le-leb, and_from}
use Rattle.std.proofs.lemmas.List.{append_assoc}
use Rattle.std.proofs.Math.Seq.{take-append_seam, drop-append_seam, drop-append-add}
use Rattle.bx_sales.specs.declared.tag.Tag.{Tag}
use Rattle.bx_sales.specs.Tags.{tag_text, sale_text, is_tagged, IsReadBack}

-- without a key
pub plain_back : (booking : List ℕ) → is_tagged booking ≡ false → IsReadBack None booking (sale_text None booking)
plain_back booking plain = (ap (λ b. if b then drop 72 booking else booking) plain, ap (λ b. if b then Some (record { key = take 32 (drop 6 booking); body = take 32 (drop 39 booking) }) else None) plain)

module _ (tag : Tag) (key : length tag.key ≡ 32) (body : length tag.body ≡ 32) (booking : List ℕ) where
  size : length (tag_text tag) ≡ 72
  size = omega (arith, length-append tag.key (codes " " ++ (tag.body ++ codes " ")), length-append tag.body (codes " "), key, body)

  whole : is_tagged (tag_text tag ++ booking) ≡ true
  whole = and_from (nat_le 72 (length (tag_text tag ++ booking))) (bytes_eq (take 6 (tag_text tag ++ booking)) (codes "under "))
      (le-leb 72 (length (tag_text tag ++ booking)) (omega (arith, length-append (tag_text tag) booking, size))) refl

  behind : drop 72 (tag_text tag ++ booking) ≡ booking
  behind = subst (λ n. drop n (tag_text tag ++ booking) ≡ booking) size (drop-append_seam (tag_text tag) booking)

  the_key : take 32 (drop 6 (tag_text tag ++ booking)) ≡ tag.key
  the_key =
      ap (take 32) (append_assoc tag.key (codes " " ++ (tag.body ++ codes " ")) booking)
      ∙ subst (λ n. take n (tag.key ++ ((codes " " ++ (tag.body ++ codes " ")) ++ booking)) ≡ tag.key) key (take-append_seam tag.key ((codes " " ++ (tag.body ++ codes " ")) ++ booking))

  the_body : take 32 (drop 39 (tag_text tag ++ booking)) ≡ tag.body
  the_body =
      ap (λ (l : List ℕ). take 32 (drop 33 l)) (append_assoc tag.key (codes " " ++ (tag.body ++ codes " ")) booking)
      ∙ ap (take 32) (subst (λ n. drop (n + 1) (tag.key ++ ((codes " " ++ (tag.body ++ codes " ")) ++ booking)) ≡ (tag.body ++ codes " ") ++ booking) key
      (drop-append-add tag.key ((codes " " ++ (tag.body ++ codes " ")) ++ booking) 1))
      ∙ ap (take 32) (append_assoc tag.body (codes " ") booking)
      ∙ subst (λ n. take n (tag.body ++ (codes " " ++ booking)) ≡ tag.body) body (take-append_seam tag.body (codes " " ++ booking))

  pub tagged_back : IsReadBack (Some tag) booking (sale_text (Some tag) booking)
  tagged_back = (
    ap (λ b. if b then drop 72 (tag_text tag ++ booking) else tag_text tag ++ booking) whole ∙ behind,
    ap (λ b. if b then Some (record { key = take 32 (drop 6 (tag_text tag ++ booking)); body = take 32 (drop 39 (tag_text tag ++ booking)) }) else None) whole
        ∙ ap₂ (λ k b. Some (record { key = k; body = b })) the_key the_body,
  )
