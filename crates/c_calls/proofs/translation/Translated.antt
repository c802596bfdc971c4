-- What a translation in place says and leaves, by numbers.
use Rattle.std.proofs.Common.{◌≡◌, ℕ, List, Option, Some, None, Result, Ok, Err, refl}
use Rattle.elf_types.specs.declared.records.Class.{Class}
use Rattle.elf_types.specs.declared.records.Order.{Order}
use Rattle.elf_types.specs.declared.errors.ElfError.TheVariants as refusals
use Rattle.elf_xlate.specs.declared.content.Items.{Items}
use Rattle.elf_xlate.specs.declared.failure.XlateError.{XlateError}
use Rattle.elf_xlate.specs.declared.failure.XlateError.TheVariants as errors
use Rattle.elf_xlate.specs.Translation.{TranslatesInPlace}
use Rattle.c_records.specs.Codes.{code}
use Rattle.c_calls.specs.Translation.Translations.{Translates}

module _ (class : Class) (order : Order) (old new : List ℕ) where
  pub translated : (stated : Option Items) → TranslatesInPlace class order stated (Ok tt) old new
      → Translates class order stated 0 old new
  unfolding Translates
  translated (Some items) came = (refl, came.1)
  translated None came =
      let never : ◌≡◌ {A = Result (Unit {0}) XlateError} (Ok tt) (Err errors.Ragged) = came.0 in cc

  pub rejected : (stated : Option Items) (e : XlateError) (number : ℕ)
      → TranslatesInPlace class order stated (Err e) old new
      → number ≡ code (refusals.Ragged 0) → Translates class order stated number old new
  unfolding Translates
  rejected (Some items) e number came is =
      let never : ◌≡◌ {A = Result (Unit {0}) XlateError} (Err e) (Ok tt) = came.0 in cc
  rejected None e number came is = (is, came.1)
