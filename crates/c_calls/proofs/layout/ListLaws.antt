-- Headers that are listed one after another, with the sizes of the sections.
use Rattle.std.proofs.Common.{◌≡◌, ℕ, ◌+◌, ◌<◌, ◌≤◌, List, [], ◌∷◌, ◌++◌, length, take, take_all, get_or, refl, sym, ap, ◌∙◌, subst, arith, ⊎_elim, length-append}
use Rattle.std.specs.Prelude.{map}
use Rattle.std.proofs.Math.Seq.{get_or-append_seam}
use Rattle.std.proofs.lemmas.Bool.{cases_lt}
use Rattle.std.proofs.lemmas.List.{take_more, map-append, get_or_default, get_or_append_left}
use Rattle.elf_types.specs.declared.records.Shdr.{Shdr}
use Rattle.elf_object.specs.elf_ident.Front.{zero_shdr}
use Rattle.c_calls.specs.Layout.Listed.{size_listed, AreSizes}

-- ---- Records, each as a header

module _ {X Y : Type 0} (f : X → Y) (l : List X) where
  pub one_mapped : (now next : List Y) (i : ℕ) (x : X) (y : Y) → i < length l
      → now ≡ map f (take i l) → y ≡ f (get_or l i x) → next ≡ now ++ y ∷ []
      → next ≡ map f (take (i + 1) l)
  one_mapped now next i x y there so_far is put =
      put
      ∙ ap (λ (m : List Y). m ++ y ∷ []) so_far
      ∙ ap (λ (z : Y). map f (take i l) ++ z ∷ []) is
      ∙ sym (map-append f (take i l) (get_or l i x ∷ []))
      ∙ ap (λ (m : List X). map f m) (sym (take_more l i x there))

  pub all_mapped : (now : List Y) (i : ℕ) → length l ≤ i → now ≡ map f (take i l)
      → now ≡ map f l
  all_mapped now i all so_far = so_far ∙ ap (λ (m : List X). map f m) (take_all i l all)

-- ---- Sizes

pub record SizesBelow (headers : List Shdr) (sizes : List ℕ) (n : ℕ) : Type 0 where
  pub count : length sizes ≡ n
  pub each : (s : ℕ) → s < n → get_or sizes s 0 ≡ size_listed s (get_or headers s zero_shdr)

pub no_size : (headers : List Shdr) → SizesBelow headers [] 0
no_size headers = record { count = refl; each = λ s below. absurd (omega (arith, below)) }

pub one_size : (headers : List Shdr) (sizes next : List ℕ) (n size : ℕ) (d : Shdr)
    → n < length headers → SizesBelow headers sizes n
    → size ≡ size_listed n (get_or headers n d) → next ≡ sizes ++ size ∷ []
    → SizesBelow headers next (n + 1)
one_size headers sizes next n size d there so_far is put = record {
  count = ap (λ (l : List ℕ). length l) put ∙ length-append sizes (size ∷ [])
      ∙ ap (λ (k : ℕ). k + 1) so_far.count;
  each = λ s below. ap (λ (l : List ℕ). get_or l s 0) put
      ∙ ⊎_elim (λ less. get_or_append_left sizes (size ∷ []) 0 s
      (omega (arith, less, so_far.count)) ∙ so_far.each s less)
      (λ last. let same : n ≡ s = omega (arith, below, last) in
      subst (λ (k : ℕ). get_or (sizes ++ size ∷ []) k 0
      ≡ size_listed k (get_or headers k zero_shdr)) same
      (at_end ∙ is
      ∙ ap (size_listed n) (get_or_default headers n d zero_shdr there))) (cases_lt s n);
}
  where
    at_end : get_or (sizes ++ size ∷ []) n 0 ≡ size
    at_end =
        ap (λ (k : ℕ). get_or (sizes ++ size ∷ []) k 0) (sym so_far.count)
        ∙ get_or-append_seam sizes size [] 0

pub all_sizes : (headers : List Shdr) (sizes : List ℕ) (n : ℕ) → n ≡ length headers
    → SizesBelow headers sizes n → AreSizes headers sizes
all_sizes headers sizes n all so_far = record {
  count = so_far.count ∙ all;
  each = λ s there. so_far.each s (omega (arith, there, all));
}
