-- The sections of an object as parts, one after another.
use Rattle.std.proofs.Common.{◌≡◌, ◌++◌, ◌+◌, ◌-◌, ◌≤◌, ℕ, zero, suc, List, [], ◌∷◌, length, map, sym, ap, ◌∙◌, append_assoc, arith}
use Rattle.std.specs.List.{range_with_len}
use Rattle.std.proofs.lemmas.List.FromFn.{map-range_with_len_more}
use Rattle.elf_layout.specs.declared.parts.PartAt.{PartAt}
use Rattle.tool_objects.specs.elf_object.Object.{Object}
use Rattle.tool_objects.specs.elf_object.Layout.{section_numbers}
use Rattle.elf_lint_headers.specs.Layout.{home_part}

all_passed : (s n : ℕ) → 1 ≤ s → s ≤ n + 1 → n ≤ s → (1 ≤ n → s ≤ n) → s - 1 ≡ n - 1
all_passed s zero first most le within = omega (arith, first, most)
all_passed s (suc n) first most le within = let last = within (omega arith) in omega (arith, le, last)

module _ (o : Object) (before parts : List PartAt) (s : ℕ) (first : 1 ≤ s) (is : parts ≡ before ++ map (home_part o) (range_with_len 1 (s - 1))) where
  -- one more
  pub homes_more : (next : List PartAt) → next ≡ parts ++ home_part o s ∷ [] → next ≡ before ++ map (home_part o) (range_with_len 1 (s + 1 - 1))
  homes_more next more =
      let at : 1 + (s - 1) ≡ s = omega (arith, first) in
      let count : s - 1 + 1 ≡ s + 1 - 1 = omega (arith, first) in
      more ∙ ap (λ (l : List PartAt). l ++ home_part o s ∷ []) is
      ∙ append_assoc before (map (home_part o) (range_with_len 1 (s - 1))) (home_part o s ∷ [])
      ∙ ap (λ (l : List PartAt). before ++ l) (sym (map-range_with_len_more (home_part o) 1 (s - 1) s at))
      ∙ ap (λ (n : ℕ). before ++ map (home_part o) (range_with_len 1 n)) count

  -- all of them
  pub homes_all : s ≤ length o.sections + 1 → length o.sections ≤ s → (1 ≤ length o.sections → s ≤ length o.sections) → parts ≡ before ++ map (home_part o) (section_numbers o)
  homes_all most le within =
      let count = all_passed s (length o.sections) first most le within in
      is ∙ ap (λ (n : ℕ). before ++ map (home_part o) (range_with_len 1 n)) count
