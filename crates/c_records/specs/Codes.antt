-- The numbers of the library's refusals. None is 0, which stands for an answer.
use Rattle.std.specs.Prelude.{ℕ}
use Rattle.elf_types.specs.declared.errors.ElfError.{ElfError}
use Rattle.elf_types.specs.declared.errors.ElfError.TheVariants as error

unfoldable pub code : ElfError → ℕ
code error.Memory = 1
code error.Read = 2
code error.Write = 3
code error.Short = 4
code error.Magic = 5
code error.Class = 6
code error.Order = 7
code error.Version = 8
code error.PhTable = 9
code error.ShTable = 10
code (error.NoSection x y) = 11
code (error.NoData x y) = 12
code (error.NoEntry x y) = 13
code (error.WrongKind x) = 14
code (error.OutOfFile x) = 15
code (error.Ragged x) = 16
code (error.Unfit x y) = 17
code (error.Overlap x y) = 18
code error.TooLarge = 19
code error.TooMany = 20
code error.FlagKept = 21
code (error.NotStrings x) = 22
code (error.NoString x y) = 23
code (error.Unended x) = 24
code (error.BadMember x) = 25
code (error.BadChain x) = 26
code error.Reserved = 27
code (error.BadAlign x) = 28
code (error.Unsorted x) = 29
