-- The commands by their names, and the line that says how each is called.
use Rattle.std.specs.Prelude.{◌++◌, ◌==◌, List, [], ◌∷◌, ℕ, Bool, Option, codes}
use Rattle.std.specs.List.{list_any}
use Rattle.elf_types.specs.Tables.{value_in}
use Rattle.elfkit_words.specs.declared.usages.Usage.{Usage}
use Rattle.elfkit_words.specs.declared.usages.Usage.TheVariants.{Readelf, Nm, Size, Strings, Strip, Elflint, Calls, Selftest, Rehash, Copy, Unstrip, Lines, General}

-- the twelve commands
unfoldable pub commands : List (List ℕ × Usage)
commands =
    (codes "readelf", Readelf) ∷
    (codes "nm", Nm) ∷
    (codes "size", Size) ∷
    (codes "strings", Strings) ∷
    (codes "strip", Strip) ∷
    (codes "elflint", Elflint) ∷
    (codes "calls", Calls) ∷
    (codes "selftest", Selftest) ∷
    (codes "rehash", Rehash) ∷
    (codes "copy", Copy) ∷
    (codes "unstrip", Unstrip) ∷
    (codes "lines", Lines) ∷ []

-- the command that a word names
unfoldable pub command_named : List ℕ → Option Usage
command_named word = value_in commands word

-- the usage line of a command, and the one of a command line that names none
unfoldable pub usage_line : Usage → List ℕ
usage_line Readelf = codes "usage: elfkit readelf [-hlSsrdnV] FILE.."
usage_line Nm = codes "usage: elfkit nm [-AguvP] [-t d|o|x] FILE.."
usage_line Size = codes "usage: elfkit size FILE.."
usage_line Strings = codes "usage: elfkit strings [-a] [-n N] [-t d|o|x] FILE.."
usage_line Strip = codes "usage: elfkit strip [-g] [-R NAME].. [-f DEBUG] -o OUT FILE"
usage_line Elflint = codes "usage: elfkit elflint FILE.."
usage_line Calls = codes "usage: elfkit calls [-o OUT | -i] FILE SCRIPT"
usage_line Selftest = codes "usage: elfkit selftest -o OUT N"
usage_line Rehash = codes "usage: elfkit rehash -o OUT FILE"
usage_line Copy =
    codes "usage: elfkit copy [-R NAME].. [-u NAME=FILE].. [-n OLD=NEW].."
    ++ codes " [-f NAME=BITS].. [-a NAME=FILE].. -o OUT FILE"
usage_line Unstrip = codes "usage: elfkit unstrip -o OUT STRIPPED DEBUG"
usage_line Lines = codes "usage: elfkit lines FILE.."
usage_line General =
    codes "usage: elfkit readelf|nm|size|strings|strip|elflint|calls|selftest"
    ++ codes "|rehash|copy|unstrip|lines"

-- the letters of a command without an option-argument
unfoldable pub letters_alone : Usage → List ℕ
letters_alone Readelf = codes "hlSsrdnV"
letters_alone Nm = codes "AguvP"
letters_alone Strings = codes "a"
letters_alone Strip = codes "g"
letters_alone Calls = codes "i"
letters_alone _ = []

-- the letters of a command that take an option-argument
unfoldable pub letters_with_option_argument : Usage → List ℕ
letters_with_option_argument Nm = codes "t"
letters_with_option_argument Strings = codes "nt"
letters_with_option_argument Strip = codes "Rfo"
letters_with_option_argument Calls = codes "o"
letters_with_option_argument Selftest = codes "o"
letters_with_option_argument Rehash = codes "o"
letters_with_option_argument Copy = codes "Runfao"
letters_with_option_argument Unstrip = codes "o"
letters_with_option_argument _ = []

-- a letter without an option-argument, and one with it
abbrev pub stands_alone : Usage → ℕ → Bool
stands_alone usage letter = list_any (λ c. c == letter) (letters_alone usage)

abbrev pub takes_option_argument : Usage → ℕ → Bool
takes_option_argument usage letter =
    list_any (λ c. c == letter) (letters_with_option_argument usage)
