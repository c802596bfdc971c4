-- Numbers at a place, and hashes that are shifted.
use Rattle.std.proofs.Common.{◌≡◌, ℕ, ◌/◌, ◌^◌, ◌<◌, ◌≤◌, List, take, drop, ap, arith}
use Rattle.std.proofs.lemmas.List.{take-take}
use Rattle.std.proofs.Math.Nat.{div-eq_of_lt, pow-le-pow_right}
use Rattle.elf_types.specs.declared.records.Class.TheVariants.{C32, C64}
use Rattle.elf_types.specs.declared.records.Order.{Order}
use Rattle.hash_model.specs.elf_xlate.Numbers.{number_of, number_at}
use Rattle.hash_model.specs.elf_xlate.Fields.{number_in}
use Rattle.hash_model.specs.elf_xlate.Items.{word_of, word_fields, addr_of, addr_fields}

pub word_is : (order : Order) (bytes : List ℕ) (place width : ℕ) → width ≡ 4 → word_of C32 order (take width (drop place bytes)) ≡ number_at order bytes place 4
unfolding word_of word_fields number_in number_at
word_is order bytes place width is = ap (number_of order) (take-take 4 width (drop place bytes) (omega (arith, is)))

pub addr_is : (order : Order) (bytes : List ℕ) (place width : ℕ) → width ≡ 8 → addr_of C64 order (take width (drop place bytes)) ≡ number_at order bytes place 8
unfolding addr_of addr_fields number_in number_at
addr_is order bytes place width is = ap (number_of order) (take-take 8 width (drop place bytes) (omega (arith, is)))

-- nothing is left of 32 bits that are shifted by 32 and more
pub shifted_out : (n k : ℕ) → n < 2 ^ 32 → 32 ≤ k → n / 2 ^ k ≡ 0
shifted_out n k few far =
    let wide = pow-le-pow_right {n = 2} (omega arith) {i = 32} {j = k} far in
    div-eq_of_lt (omega (arith, few, wide))
