-- What elfkit tells of itself where it is asked for help or for its version, after the standards
-- for command line interfaces of the GNU Coding Standards (section 4.8).
use Rattle.std.specs.Prelude.{◌++◌, ◌-◌, List, [], ◌∷◌, ℕ, Option, codes, length, drop, replicate}
use Rattle.std.specs.List.{flat_map}
use Rattle.std.specs.Str.{byte}
use Rattle.elf_types.specs.Tables.{value_in}
use Rattle.elfkit_words.specs.declared.usages.Usage.{Usage}
use Rattle.elfkit_words.specs.declared.usages.Usage.TheVariants.{Readelf, Nm, Size, Strings, Strip, Elflint, Calls, Selftest, Rehash, Copy, Unstrip, Lines, General}
use Rattle.elfkit_words.specs.declared.notices.Notice.{Notice}
use Rattle.elfkit_words.specs.declared.notices.Notice.TheVariants.{Help, Version}
use Rattle.elfkit_words.specs.Usages.{usage_line}

-- the first words that ask for a notice
unfoldable pub notices : List (List ℕ × Notice)
notices = (codes "--help", Help General) ∷ (codes "--version", Version) ∷ []

unfoldable pub notice_named : List ℕ → Option Notice
notice_named word = value_in notices word

-- a line: what is told of, in so many places behind two blanks, and what it does
unfoldable pub told_line : ℕ → List ℕ × List ℕ → List ℕ
told_line places row =
    codes "  " ++ row.0 ++ replicate (places - length row.0) (byte " ") ++ row.1 ++ codes "\n"

-- the letters of a command, each with its option-argument, in the order of its usage line
unfoldable pub letters_told : Usage → List (List ℕ × List ℕ)
letters_told Readelf =
    (codes "-h", codes "the ELF header") ∷
    (codes "-l", codes "program headers") ∷
    (codes "-S", codes "section headers") ∷
    (codes "-s", codes "symbols") ∷
    (codes "-r", codes "relocations") ∷
    (codes "-d", codes "the dynamic section") ∷
    (codes "-n", codes "notes") ∷
    (codes "-V", codes "symbol versions") ∷ []
letters_told Nm =
    (codes "-A", codes "write the file name before each symbol") ∷
    (codes "-g", codes "leave out local symbols") ∷
    (codes "-u", codes "list only undefined symbols") ∷
    (codes "-v", codes "sort by value, not by name") ∷
    (codes "-P", codes "portable form: name, letter, value and size") ∷
    (codes "-t d|o|x", codes "radix of values: decimal, octal or hexadecimal (default)") ∷ []
letters_told Strings =
    (codes "-a", codes "search the whole file, not only its allocated sections") ∷
    (codes "-n N", codes "write runs of at least N bytes, 1 to 4096, by default 4") ∷
    (codes "-t d|o|x", codes "write the offset of each run: decimal, octal or hexadecimal") ∷ []
letters_told Strip =
    (codes "-g", codes "remove debug sections only, keep symbols") ∷
    (codes "-R NAME", codes "also remove the sections of this name") ∷
    (codes "-f DEBUG", codes "write a second file, for a debugger, with what is removed") ∷
    (codes "-o OUT", codes "the file to write") ∷ []
letters_told Calls =
    (codes "-o OUT", codes "write the changed image to this new file") ∷
    (codes "-i", codes "change FILE in place") ∷ []
letters_told Selftest = (codes "-o OUT", codes "the file to write") ∷ []
letters_told Rehash = (codes "-o OUT", codes "the file to write") ∷ []
letters_told Copy =
    (codes "-R NAME", codes "remove the sections of this name") ∷
    (codes "-u NAME=FILE", codes "replace the bytes of a section by those of a file") ∷
    (codes "-n OLD=NEW", codes "rename a section") ∷
    (codes "-f NAME=BITS", codes "set the flags of a section to a number") ∷
    (codes "-a NAME=FILE", codes "add a section with the bytes of a file") ∷
    (codes "-o OUT", codes "the file to write") ∷ []
letters_told Unstrip = (codes "-o OUT", codes "the file to write") ∷ []
letters_told _ = []

-- the usage line of a command, and a line for each of its letters
unfoldable pub command_help : Usage → List ℕ
command_help usage =
    usage_line usage ++ codes "\n" ++ flat_map (told_line 14) (letters_told usage)

-- a usage line under the first one: blanks stand in place of `usage: `
unfoldable pub next_usage : Usage → List ℕ
next_usage usage = replicate 7 (byte " ") ++ drop 7 (usage_line usage) ++ codes "\n"

-- the commands in their order
unfoldable pub commands_told : List (List ℕ × List ℕ)
commands_told = (
  codes "readelf",
  codes "show headers, symbols, relocations, dynamic section, notes, versions",
) ∷
    (codes "nm", codes "list symbols with their values") ∷
    (codes "size", codes "sum the sizes of text, data and bss") ∷
    (codes "strings", codes "list runs of printable bytes") ∷
    (codes "strip", codes "copy without debug data and symbols") ∷
    (codes "elflint", codes "check files by 32 rules") ∷
    (codes "calls", codes "run a script of library calls on a file") ∷
    (codes "selftest", codes "make, change, write and reread an image") ∷
    (codes "rehash", codes "copy with the hash sections of dynamic symbols rebuilt") ∷
    (codes "copy", codes "copy with sections removed, replaced, renamed or added") ∷
    (codes "unstrip", codes "join the two files that strip -f makes") ∷
    (codes "lines", codes "show line tables of DWARF 2 to 4") ∷ []

-- those after the first, in the same order
unfoldable pub other_commands : List Usage
other_commands =
    Nm ∷ Size ∷ Strings ∷ Strip ∷ Elflint ∷ Calls ∷ Selftest ∷ Rehash ∷ Copy ∷ Unstrip ∷ Lines ∷ []

-- what elfkit is, how it is called, and a line for each command
unfoldable pub general_help : List ℕ
general_help =
    codes "elfkit shows, checks and changes ELF object files.\n\n"
    ++ usage_line Readelf ++ codes "\n"
    ++ flat_map next_usage other_commands
    ++ codes "       elfkit COMMAND --help\n       elfkit --version\n\n"
    ++ flat_map (told_line 10) commands_told

unfoldable pub help_text : Usage → List ℕ
help_text General = general_help
help_text usage = command_help usage

-- the name and the version
unfoldable pub version_text : List ℕ
version_text = codes "elfkit 1.0.0\n"

unfoldable pub notice_text : Notice → List ℕ
notice_text (Help usage) = help_text usage
notice_text Version = version_text
