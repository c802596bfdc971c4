-- How many symbols a table has for which hash sections are built.
use Rattle.std.proofs.Common.{◌≡◌, ◌<◌, ◌^◌, ℕ, false, [], length, None, arith}
use Rattle.std.specs.Prelude.{nat_le}
use Rattle.std.proofs.lemmas.Bool.{leb-false}
use Rattle.elf_types.specs.declared.records.Kind.TheVariants as kinds
use Rattle.elf_types.specs.declared.errors.ElfError.TheVariants.{TooMany}
use Rattle.rebuild_model.specs.elf_object.Object.{Object}
use Rattle.rebuild_model.specs.elf_object.Answers.{items_at, count_at, syms_of, lend_refusal}
use Rattle.rebuild_model.proofs.elf_object.AnswerLaws.{lend_kind}
use Rattle.rebuild_model.proofs.elf_object.ItemCounts.{syms_counted}
use Rattle.rebuild_model.proofs.elf_object.PassedLaws.{none_first, none_rest, not_refused}
use Rattle.rebuild_model.specs.hash_model.Listed.{listed_names}
use Rattle.rebuild_model.specs.hash_model.BuiltHashes.{hash_refusal}
use Rattle.hash_build.proofs.ListedLaws.{names_long}

module _ (o : Object) (s : ℕ) (passed : hash_refusal o s ≡ None) where
  -- its symbols can be told
  pub symbols_passed : lend_refusal o kinds.Sym s 0 ≡ None
  unfolding hash_refusal
  symbols_passed = none_first (lend_refusal o kinds.Sym s 0) _ passed

  counted : nat_le (2 ^ 32) (count_at o s 0) ≡ false
  unfolding hash_refusal
  counted =
      not_refused (nat_le (2 ^ 32) (count_at o s 0)) TooMany
      (none_first _ [] (none_rest (lend_refusal o kinds.Sym s 0) _ passed))

  symbols_counted : length (syms_of (items_at o s 0)) ≡ count_at o s 0
  unfolding count_at
  symbols_counted =
      syms_counted (items_at o s 0) (lend_kind o kinds.Sym s 0 symbols_passed)

  -- and a word holds their number
  pub few_names : length (listed_names o s) < 2 ^ 32
  few_names =
      omega (
        arith,
        leb-false (2 ^ 32) (count_at o s 0) counted,
        symbols_counted,
        names_long o s,
      )
