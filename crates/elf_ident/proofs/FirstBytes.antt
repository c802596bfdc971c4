-- The first eight bytes tell what the whole file is.
use Rattle.std.proofs.Common.{◌≡◌, ℕ, List, length, take, drop, min, Option, Some, None, Ok, IfSome, Result, refl, sym, ap, ◌∙◌, arith, lit≤}
use Rattle.std.proofs.lemmas.List.{take-take, take_min}
use Rattle.elf_types.specs.declared.errors.ElfError.{ElfError}
use Rattle.elf_ident.specs.declared.file_kinds.FileKind.{FileKind}
use Rattle.elf_ident.specs.FileKinds.{file_kind}

first_eight : (xs : List ℕ) (n : ℕ) → n ≡ min (length xs) 8 → take n xs ≡ take 8 xs
first_eight xs n e = ap (λ (k : ℕ). take k xs) (let s : n ≡ min 8 (length xs) = omega arith in s) ∙ take_min 8 xs

pub file_kind-take : (xs : List ℕ) (n : ℕ) → n ≡ min (length xs) 8 → file_kind (take n xs) ≡ file_kind xs
unfolding file_kind
file_kind-take xs n e = rw (first_eight xs n e) (rw (take-take 8 8 xs (lit≤ tt), take-take 4 8 xs (lit≤ tt)) refl)

pub kind_of_start : (holds : Option (List ℕ)) (head : List ℕ) (n count len : ℕ) (k : FileKind)
    → IfSome holds (λ image. length image ≡ len) → count ≡ min len 8 → n ≡ count
    → IfSome holds (λ image. head ≡ take n (drop 0 image)) → k ≡ file_kind head
    → IfSome holds (λ image. ◌≡◌ {A = Result FileKind ElfError} (Ok (file_kind image)) (Ok k))
kind_of_start None head n count len k sized small same bytes is = tt
kind_of_start (Some image) head n count len k sized small same bytes is =
    ap Ok (sym (is ∙ ap file_kind bytes ∙ file_kind-take image n (rw (same, sized) small)))
