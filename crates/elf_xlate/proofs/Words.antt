-- Words and lemmas that a proof takes together. The value of a word says nothing: what counts is that
-- a proof that unfolds it unfolds the others.
use Rattle.std.specs.Prelude.{Bool, true}
use Rattle.elf_xlate.specs.Headers.{ehdr_of, ehdr_fields, ehdr_fits, phdr_of, phdr_fields, phdr_fits, shdr_of, shdr_fields, shdr_fits}
use Rattle.elf_xlate.specs.Items.{half_fields, word_fields, addr_fields, sym_of, sym_fields, sym_fits, rel_of, rel_fields, rel_fits, rela_of, rela_fields, rela_fits, dyn_of, dyn_fields, dyn_fits}
use Rattle.elf_xlate.specs.Translation.{encoded, first_unfit}
use Rattle.elf_xlate.proofs.Signed.{passed_on}
use Rattle.elf_xlate.proofs.Tables.{rela_laid, dyn_laid}

-- the ELF header
unfoldable pub ehdr : Bool
unfolding ehdr_of ehdr_fields ehdr_fits
ehdr = true

-- a program header
unfoldable pub phdr : Bool
unfolding phdr_of phdr_fields phdr_fits
phdr = true

-- a section header
unfoldable pub shdr : Bool
unfolding shdr_of shdr_fields shdr_fits
shdr = true

-- a symbol
unfoldable pub sym : Bool
unfolding sym_of sym_fields sym_fits
sym = true

-- a relocation
unfoldable pub rel : Bool
unfolding rel_of rel_fields rel_fits
rel = true

-- a relocation with an addend
unfoldable pub rela : Bool
unfolding rela_of rela_fields rela_fits
rela = true

-- an entry of the dynamic section
unfoldable pub dynamic : Bool
unfolding dyn_of dyn_fields dyn_fits
dynamic = true

-- a number of two bytes
unfoldable pub half : Bool
unfolding half_fields
half = true

-- a number of four bytes
unfoldable pub word : Bool
unfolding word_fields
word = true

-- an address
unfoldable pub addr : Bool
unfolding addr_fields
addr = true

-- the items of a section, written
unfoldable pub items : Bool
unfolding encoded first_unfit
items = true

-- a record with a signed field is written
pub ruleset put_rela = (rela_laid, passed_on)

pub ruleset put_dyn = (dyn_laid, passed_on)
