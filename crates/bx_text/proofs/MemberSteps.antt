-- Lines with the members of a set of channels.
use Rattle.std.proofs.Common.{◌≡◌, ℕ, zero, suc, ◌+◌, ◌<◌, ◌≤◌, Bool, true, false, List, [], ◌∷◌, ◌++◌, length, take, map, refl, sym, ap, ◌∙◌, arith, append_assoc}
use Rattle.std.specs.Prelude.{decimal}
use Rattle.std.specs.List.{join_with_byte}
use Rattle.std.proofs.lemmas.List.{append-nil, take_all}
use Rattle.bx_base.specs.Channels.{has_channel}
use Rattle.bx_text.specs.Lines.{line_text, members_from, spaced}
use Rattle.bx_text.specs.Inside.{member_text}

-- a word and numbers, as fields and as they are added
join_spaced : (word : List ℕ) (numbers : List ℕ) → join_with_byte 32 (word ∷ map decimal numbers) ≡ word ++ spaced numbers
join_spaced word [] = sym (append-nil word)
join_spaced word (n ∷ ns) = ap (λ (r : List ℕ). word ++ (32 ∷ r)) (join_spaced (decimal n) ns)

-- a word, numbers after it, and the end of the line
pub members_line : (word leading line whole : List ℕ) (numbers : List ℕ) → leading ≡ word → line ≡ leading ++ spaced numbers → whole ≡ line ++ 10 ∷ [] → whole ≡ line_text (word ∷ map decimal numbers)
members_line word leading line whole numbers first added end = rw (end, added, first) (ap (λ (l : List ℕ). l ++ 10 ∷ []) (sym (join_spaced word numbers)))

-- one more place of a set
members_more : (bs : List Bool) (k n : ℕ) → n < length bs → spaced (members_from k (take (n + 1) bs)) ≡ spaced (members_from k (take n bs)) ++ member_text (has_channel bs n) (k + n)
members_more [] k n lt = absurd (omega arith)
members_more (true ∷ bs) k zero lt = let same : k + 0 ≡ k = omega arith in rw same (append-nil (32 ∷ decimal k))
members_more (false ∷ bs) k zero lt = refl
members_more (true ∷ bs) k (suc n) lt =
    let place : suc n + 1 ≡ suc (n + 1) = omega arith in
    let same : k + 1 + n ≡ k + suc n = omega arith in
    let more = members_more bs (k + 1) n (omega arith) in
    let here : spaced (members_from (k + 1) (take (n + 1) bs)) ≡ spaced (members_from (k + 1) (take n bs)) ++ member_text (has_channel bs n) (k + suc n) = rw same at more in
    rw place (ap (λ (r : List ℕ). (32 ∷ decimal k) ++ r) here ∙ sym (append_assoc (32 ∷ decimal k) (spaced (members_from (k + 1) (take n bs))) (member_text (has_channel bs n) (k + suc n))))
members_more (false ∷ bs) k (suc n) lt =
    let place : suc n + 1 ≡ suc (n + 1) = omega arith in
    let same : k + 1 + n ≡ k + suc n = omega arith in
    let more = members_more bs (k + 1) n (omega arith) in
    rw place (rw same at more)

pub member_added : (bs : List Bool) (n : ℕ) (leading before after : List ℕ) → n < length bs → before ≡ leading ++ spaced (members_from 0 (take n bs)) → after ≡ before ++ member_text (has_channel bs n) n
    → after ≡ leading ++ spaced (members_from 0 (take (n + 1) bs))
member_added bs n leading before after lt so_far added =
    let place : 0 + n ≡ n = omega arith in
    let more : spaced (members_from 0 (take (n + 1) bs)) ≡ spaced (members_from 0 (take n bs)) ++ member_text (has_channel bs n) n = rw place at (members_more bs 0 n lt) in
    added ∙ ap (λ (l : List ℕ). l ++ member_text (has_channel bs n) n) so_far ∙ append_assoc leading (spaced (members_from 0 (take n bs))) (member_text (has_channel bs n) n) ∙ ap (λ (r : List ℕ). leading ++ r) (sym more)

pub members_whole : (bs : List Bool) (n : ℕ) (leading line : List ℕ) → length bs ≤ n → line ≡ leading ++ spaced (members_from 0 (take n bs)) → line ≡ leading ++ spaced (members_from 0 bs)
members_whole bs n leading line le so_far = so_far ∙ ap (λ (l : List Bool). leading ++ spaced (members_from 0 l)) (take_all n bs le)
