-- The texts under which numbers, parts and errors are shown, as lists of bytes.
use Rattle.std.specs.Prelude.{◌++◌, ℕ, List, [], codes, decimal, false}
use Rattle.std.specs.Fmt.{digits}
use Rattle.elf_types.specs.declared.records.Part.{Part}
use Rattle.elf_types.specs.declared.records.Part.TheVariants.{Object, Header, Segments, Section, Piece, Table}
use Rattle.elf_types.specs.declared.records.Kind.{Kind}
use Rattle.elf_types.specs.declared.records.Kind.TheVariants.{Empty, Bytes, Half, Word, Addr, Sym, Rel, Rela, Dyn}
use Rattle.elf_types.specs.declared.errors.ElfError.{ElfError}
use Rattle.elf_types.specs.declared.errors.ElfError.TheVariants.{Memory, Read, Write, Short, Magic, Class, Order, Version, PhTable, ShTable, NoSection, NoData, NoEntry, WrongKind, OutOfFile, Ragged, Unfit, Overlap, TooLarge, TooMany, FlagKept, NotStrings, NoString, Unended, BadMember, BadChain, Reserved, BadAlign, Unsorted}

-- the hexadecimal digits of a number, in small letters and without leading zeros
unfoldable pub hex : ℕ → List ℕ
hex n = digits 16 false n

-- a number between two texts
unfoldable pub numbered : List ℕ → ℕ → List ℕ → List ℕ
numbered before n after = (before ++ decimal n) ++ after

-- two numbers, each after a text
unfoldable pub numbered_twice : List ℕ → ℕ → List ℕ → ℕ → List ℕ
numbered_twice before a between b = ((before ++ decimal a) ++ between) ++ decimal b

-- a kind of items
unfoldable pub kind_text : Kind → List ℕ
kind_text Empty = codes "empty"
kind_text Bytes = codes "bytes"
kind_text Half = codes "half"
kind_text Word = codes "word"
kind_text Addr = codes "addr"
kind_text Sym = codes "sym"
kind_text Rel = codes "rel"
kind_text Rela = codes "rela"
kind_text Dyn = codes "dyn"

-- a part of an object
unfoldable pub part_text : Part → List ℕ
part_text Object = codes "object"
part_text Header = codes "header"
part_text Segments = codes "segments"
part_text (Section s) = numbered (codes "section ") s []
part_text (Piece s p) = numbered_twice (codes "piece ") s (codes " ") p
part_text Table = codes "table"

-- an item of a part that does not fit
unfoldable pub unfit_text : Part → ℕ → List ℕ
unfit_text part index = (codes "unfit " ++ part_text part) ++ numbered (codes " index ") index []

-- two parts that meet
unfoldable pub overlap_text : Part → Part → List ℕ
overlap_text a b = ((codes "overlap " ++ part_text a) ++ codes " ") ++ part_text b

-- a piece of another kind
unfoldable pub held_text : Kind → List ℕ
held_text kind = codes "held kind " ++ kind_text kind

-- an error that tells no number, by its name alone; no text of any other
unfoldable pub plain_text : ElfError → List ℕ
plain_text Memory = codes "out of memory"
plain_text Read = codes "read failed"
plain_text Write = codes "write failed"
plain_text Short = codes "too short"
plain_text Magic = codes "not an ELF image"
plain_text Class = codes "bad class"
plain_text Order = codes "bad byte order"
plain_text Version = codes "bad version"
plain_text PhTable = codes "bad program header table"
plain_text ShTable = codes "bad section header table"
plain_text TooLarge = codes "too large"
plain_text TooMany = codes "too many"
plain_text FlagKept = codes "flag kept"
plain_text Reserved = codes "section 0 reserved"
plain_text _ = []

-- an error with what it tells: numbers, parts or a kind; no text of any other
unfoldable pub telling_text : ElfError → List ℕ
telling_text (NoSection index count) =
    numbered_twice (codes "no section ") index (codes " of ") count
telling_text (NoData index count) = numbered_twice (codes "no piece ") index (codes " of ") count
telling_text (NoEntry index count) = numbered_twice (codes "no entry ") index (codes " of ") count
telling_text (WrongKind held) = held_text held
telling_text (OutOfFile section) = numbered (codes "section ") section (codes " out of file")
telling_text (Ragged section) = numbered (codes "section ") section (codes " ragged")
telling_text (Unfit part index) = unfit_text part index
telling_text (Overlap a b) = overlap_text a b
telling_text (NotStrings section) = numbered (codes "section ") section (codes " not strings")
telling_text (NoString offset size) =
    numbered_twice (codes "no string at ") offset (codes " of ") size
telling_text (Unended offset) = numbered (codes "string at ") offset (codes " has no end")
telling_text (BadMember at) = numbered (codes "bad member at ") at []
telling_text (BadChain at) = numbered (codes "bad chain at ") at []
telling_text (BadAlign align) = numbered (codes "bad alignment ") align []
telling_text (Unsorted at) = numbered (codes "symbols not in order at ") at []
telling_text _ = []

-- an error
unfoldable pub error_text : ElfError → List ℕ
error_text e = plain_text e ++ telling_text e
