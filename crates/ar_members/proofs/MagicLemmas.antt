-- Where a walk begins, or why an archive is refused, by its length and its first line.
use Rattle.std.proofs.Common.{◌≡◌, ℕ, ◌^◌, ◌<◌, ◌≤◌, true, false, List, length, take, drop, nat_eq, Ok, Err, refl, sym, ap, ◌∙◌, arith}
use Rattle.std.specs.List.{starts_with}
use Rattle.std.specs.Cmp.Lexicographic.{pointwise}
use Rattle.std.proofs.lemmas.Bool.{lt-ltb, le-ltb}
use Rattle.std.proofs.lemmas.List.{take-take}
use Rattle.elf_types.specs.declared.constants.TheConstants.{ARMAG}
use Rattle.elf_types.specs.declared.errors.ElfError.TheVariants.{Short, Magic, TooLarge}
use Rattle.ar_members.specs.Magic.{is_archive, archive_refusal}
use Rattle.ar_members.specs.Archives.{first_walk, begun_walk}

pub begun_short : (bytes : List ℕ) → length bytes < 8 → begun_walk bytes ≡ Err Short
unfolding archive_refusal
begun_short bytes short = rw (lt-ltb (length bytes) 8 short) refl

-- the first line, as it was read
line_is : (bytes line : List ℕ) → line ≡ take 8 (drop 0 bytes) → is_archive bytes ≡ starts_with nat_eq line ARMAG
unfolding is_archive
line_is bytes line is =
    sym (ap (λ l. pointwise nat_eq ARMAG (take 8 l)) is ∙ ap (pointwise nat_eq ARMAG) (take-take 8 8 bytes (omega arith)))

module _ (bytes line : List ℕ) (long : 8 ≤ length bytes) (is : line ≡ take 8 (drop 0 bytes)) where
  pub begun_other : starts_with nat_eq line ARMAG ≡ false → begun_walk bytes ≡ Err Magic
  unfolding archive_refusal
  begun_other other = rw (le-ltb (length bytes) 8 long, line_is bytes line is, other) refl

  pub begun_large : starts_with nat_eq line ARMAG ≡ true → 2 ^ 40 < length bytes → begun_walk bytes ≡ Err TooLarge
  unfolding archive_refusal
  begun_large same large = rw (le-ltb (length bytes) 8 long, line_is bytes line is, same, lt-ltb (2 ^ 40) (length bytes) large) refl

  pub begun_first : starts_with nat_eq line ARMAG ≡ true → length bytes ≤ 2 ^ 40 → begun_walk bytes ≡ Ok first_walk
  unfolding archive_refusal
  begun_first same small = rw (le-ltb (length bytes) 8 long, line_is bytes line is, same, le-ltb (2 ^ 40) (length bytes) small) refl
