-- Program headers that are copied one after another.
use Rattle.std.proofs.Common.{◌≡◌, ◌+◌, ◌<◌, ◌≤◌, ℕ, List, [], ◌∷◌, ◌++◌, length, take, take_all, get_or, sym, ap, ◌∙◌}
use Rattle.std.proofs.lemmas.List.{take_more}
use Rattle.elf_types.specs.declared.records.Phdr.{Phdr}

pub segment_listed : (l now next : List Phdr) (i : ℕ) (p : Phdr) → i < length l
    → p ≡ get_or l i p → now ≡ take i l → next ≡ now ++ p ∷ [] → next ≡ take (i + 1) l
segment_listed l now next i p there at so_far put =
    put
    ∙ ap (λ (m : List Phdr). m ++ p ∷ []) so_far
    ∙ ap (λ (q : Phdr). take i l ++ q ∷ []) at
    ∙ sym (take_more l i p there)

pub segments_listed : (l now : List Phdr) (i : ℕ) → length l ≤ i → now ≡ take i l → now ≡ l
segments_listed l now i all so_far = so_far ∙ take_all i l all
