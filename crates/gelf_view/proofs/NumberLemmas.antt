-- The number at a place, as it is read from the bytes that stand there.
use Rattle.std.proofs.Common.{◌≡◌, ℕ, List, take, drop, ap, arith}
use Rattle.std.proofs.lemmas.List.{take-take}
use Rattle.elf_types.specs.declared.records.Class.TheVariants.{C32}
use Rattle.elf_types.specs.declared.records.Order.{Order}
use Rattle.elf_descriptor.specs.elf_xlate.Numbers.{number_of, number_at}
use Rattle.elf_descriptor.specs.elf_xlate.Fields.{number_in}
use Rattle.elf_descriptor.specs.elf_xlate.Items.{half_of, half_fields, word_of, word_fields}

pub half_is : (order : Order) (bytes : List ℕ) (place width : ℕ) → width ≡ 2 → half_of C32 order (take width (drop place bytes)) ≡ number_at order bytes place 2
unfolding half_of half_fields number_in number_at
half_is order bytes place width is = ap (number_of order) (take-take 2 width (drop place bytes) (omega (arith, is)))

pub word_is : (order : Order) (bytes : List ℕ) (place width : ℕ) → width ≡ 4 → word_of C32 order (take width (drop place bytes)) ≡ number_at order bytes place 4
unfolding word_of word_fields number_in number_at
word_is order bytes place width is = ap (number_of order) (take-take 4 width (drop place bytes) (omega (arith, is)))
