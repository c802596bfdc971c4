-- The words of the command line.
use Rattle.std.specs.Prelude.{ℕ, List, Option, Some, None, codes, bytes_eq, if◌then◌else◌}
use Rattle.elf_types.specs.declared.records.Class.{Class}
use Rattle.elf_types.specs.declared.records.Class.TheVariants.{C32, C64}
use Rattle.elf_types.specs.declared.records.Order.{Order}
use Rattle.elf_types.specs.declared.records.Order.TheVariants.{Least, Greatest}
use Rattle.bench_translation.specs.declared.work.Way.{Way}
use Rattle.bench_translation.specs.declared.work.Way.TheVariants.{Decode, Encode}

-- what the first of two words stands for, what the other does, and None for all others
abbrev pub either_word : {X : Type 0} → List ℕ → X → List ℕ → X → List ℕ → Option X
either_word one x other y word =
    if bytes_eq word one then Some x else if bytes_eq word other then Some y else None

-- the way that a word names
unfoldable pub way_of : List ℕ → Option Way
way_of word = either_word (codes "decode") Decode (codes "encode") Encode word

-- the class
unfoldable pub class_of_word : List ℕ → Option Class
class_of_word word = either_word (codes "32") C32 (codes "64") C64 word

-- the byte order
unfoldable pub order_of_word : List ℕ → Option Order
order_of_word word = either_word (codes "little") Least (codes "big") Greatest word
