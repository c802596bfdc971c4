-- The reading of the words: the command with its options and operands, or what elfkit is to tell of
-- itself, or the usage line that is due.
use Rattle.std.specs.Prelude.{◌&&◌, ◌||◌, ◌==◌, List, [], ◌∷◌, ℕ, Bool, true, false, not, length, nat_le, nat_lt, bytes_eq, Option, Some, None, option_map, option_and_then, option_to_list, unwrap_or, ok_or, Result, Ok, Err, codes, if◌then◌else◌}
use Rattle.std.specs.List.{list_any, filter_map, position_or_len, before_first, after_first}
use Rattle.std.specs.Str.{byte}
use Rattle.elfkit_words.specs.declared.usages.Usage.{Usage}
use Rattle.elfkit_words.specs.declared.usages.Usage.TheVariants as usage
use Rattle.elfkit_words.specs.declared.splitting.CommandOption.{CommandOption}
use Rattle.elfkit_words.specs.declared.splitting.Split.{Split}
use Rattle.tool_text.specs.declared.radixes.Radix.{Radix}
use Rattle.tool_text.specs.declared.radixes.Radix.TheVariants.{Decimal, Octal, Hex}
use Rattle.readelf_tool.specs.declared.options.ReadelfParts.{ReadelfParts}
use Rattle.elfkit_words.specs.declared.commands.Command.{Command}
use Rattle.elfkit_words.specs.declared.commands.Command.TheVariants as command
use Rattle.calls_tool.specs.declared.update.outputs.CallsOutput.{CallsOutput}
use Rattle.calls_tool.specs.declared.update.outputs.CallsOutput.TheVariants.{To, InPlace}
use Rattle.rebuild_changes.specs.declared.options.NamedFile.{NamedFile}
use Rattle.rebuild_changes.specs.declared.options.Renaming.{Renaming}
use Rattle.rebuild_changes.specs.declared.options.NamedBits.{NamedBits}
use Rattle.rebuild_changes.specs.declared.options.CopyChanges.{CopyChanges}
use Rattle.elfkit_words.specs.declared.commands.Request.{Request}
use Rattle.elfkit_words.specs.declared.commands.Request.TheVariants.{Run, Tell}
use Rattle.elfkit_words.specs.declared.commands.WordsFault.{WordsFault}
use Rattle.elfkit_words.specs.declared.commands.WordsFault.TheVariants as fault
use Rattle.elfkit_words.specs.Numbers.{word_number_of, script_number_of}
use Rattle.elfkit_words.specs.declared.notices.Notice.{Notice}
use Rattle.elfkit_words.specs.declared.notices.Notice.TheVariants as notice
use Rattle.elf_types.specs.Tables.{value_in}
use Rattle.elfkit_words.specs.Usages.{command_named}
use Rattle.elfkit_words.specs.Notices.{notice_named}
use Rattle.elfkit_words.specs.Splitting.{split_of}
use Rattle.tool_text.specs.Arguments.{last, only_one, only_two}
use Rattle.rebuild_changes.specs.Names.{is_section_name}

infixl 10 ◌>>=◌
abbrev pub ◌>>=◌ : {A B : Type 0} → Option A → (A → Option B) → Option B
o >>= f = option_and_then f o

-- whether an option is there, and the option-arguments of a letter in the order of the words
unfoldable pub has_option : ℕ → List CommandOption → Bool
has_option letter options = list_any (λ o. o.letter == letter) options

abbrev pub option_argument_of : ℕ → CommandOption → Option (List ℕ)
option_argument_of letter option = if option.letter == letter then option.option_argument else None

unfoldable pub option_arguments : ℕ → List CommandOption → List (List ℕ)
option_arguments letter options = filter_map (option_argument_of letter) options

-- each option-argument must have a value, also where a later one counts
unfoldable pub all_values : {X : Type 0} → (List ℕ → Option X) → List (List ℕ) → Option (List X)
all_values value [] = Some []
all_values value (w ∷ ws) = do
  x ← value w
  xs ← all_values value ws
  Some (x ∷ xs)

-- FILE.. is one operand or more
unfoldable pub one_or_more : List (List ℕ) → Option (List (List ℕ))
one_or_more [] = None
one_or_more (file ∷ files) = Some (file ∷ files)

-- no two of the words are the same
unfoldable pub all_differ : List (List ℕ) → Bool
all_differ [] = true
all_differ (w ∷ ws) = not (list_any (λ v. bytes_eq w v) ws) && all_differ ws

-- d, o or x
unfoldable pub radix_of : List ℕ → Option Radix
radix_of word = value_in ((codes "d", Decimal) ∷ (codes "o", Octal) ∷ (codes "x", Hex) ∷ []) word

-- a number from low to high
unfoldable pub number_within : ℕ → ℕ → List ℕ → Option ℕ
number_within low high word = do
  n ← word_number_of word
  if nat_le low n && nat_le n high then Some n else None

-- the least length of a run in strings
unfoldable pub least_run_length : List ℕ → Option ℕ
least_run_length word = number_within 1 4096 word

-- at least one letter and one file
unfoldable pub readelf_parts_of : List CommandOption → ReadelfParts
readelf_parts_of options = record {
  header = has_option (byte "h") options;
  segments = has_option (byte "l") options;
  sections = has_option (byte "S") options;
  symbols = has_option (byte "s") options;
  relocations = has_option (byte "r") options;
  dynamic = has_option (byte "d") options;
  notes = has_option (byte "n") options;
  versions = has_option (byte "V") options;
}

unfoldable pub readelf_command : Split → Option Command
readelf_command split = do
  files ← one_or_more split.operands
  if length split.options == 0 then None else Some
      (command.Readelf (readelf_parts_of split.options) files)

-- the radix is hexadecimal where none is given
unfoldable pub nm_command : Split → Option Command
nm_command split = do
  files ← one_or_more split.operands
  radixes ← all_values radix_of (option_arguments (byte "t") split.options)
  Some (command.Nm (record {
    name_each = has_option (byte "A") split.options;
    globals = has_option (byte "g") split.options;
    undefined = has_option (byte "u") split.options;
    by_value = has_option (byte "v") split.options;
    portable = has_option (byte "P") split.options;
    radix = unwrap_or (last radixes) Hex;
  }) files)

unfoldable pub size_command : Split → Option Command
size_command split = do
  files ← one_or_more split.operands
  Some (command.Size files)

-- a run has at least four bytes where nothing else is given
unfoldable pub strings_command : Split → Option Command
strings_command split = do
  files ← one_or_more split.operands
  lengths ← all_values least_run_length (option_arguments (byte "n") split.options)
  radixes ← all_values radix_of (option_arguments (byte "t") split.options)
  Some (command.Strings (record {
    all = has_option (byte "a") split.options;
    least = unwrap_or (last lengths) 4;
    place = last radixes;
  }) files)

-- OUT, FILE and DEBUG differ
unfoldable pub strip_command : Split → Option Command
strip_command split = do
  file ← only_one split.operands
  out ← last (option_arguments (byte "o") split.options)
  let debug = last (option_arguments (byte "f") split.options)
  if all_differ (out ∷ file ∷ option_to_list debug)
      then Some (command.Strip (record {
        debug_only = has_option (byte "g") split.options;
        names = option_arguments (byte "R") split.options;
        debug = debug;
        out = out;
      }) file)
      else None

unfoldable pub elflint_command : Split → Option Command
elflint_command split = do
  files ← one_or_more split.operands
  Some (command.Elflint files)

-- Not both `-o` and `-i`, and OUT is neither FILE nor SCRIPT.
unfoldable pub output_of : Bool → Option (List ℕ) → List ℕ → List ℕ → Option (Option CallsOutput)
output_of false None file script = Some None
output_of true None file script = Some (Some InPlace)
output_of false (Some out) file script =
    if bytes_eq out file || bytes_eq out script then None else Some (Some (To out))
output_of true (Some out) file script = None

unfoldable pub calls_command : Split → Option Command
calls_command split = do
  files ← only_two split.operands
  let in_place = has_option (byte "i") split.options
  let out = last (option_arguments (byte "o") split.options)
  output ← output_of in_place out files.0 files.1
  Some (command.Calls output files.0 files.1)

unfoldable pub selftest_command : Split → Option Command
selftest_command split = do
  word ← only_one split.operands
  out ← last (option_arguments (byte "o") split.options)
  count ← number_within 1 60000 word
  Some (command.Selftest out count)

-- OUT is not FILE
unfoldable pub rehash_command : Split → Option Command
rehash_command split = do
  file ← only_one split.operands
  out ← last (option_arguments (byte "o") split.options)
  if all_differ (out ∷ file ∷ []) then Some (command.Rehash out file) else None

-- An option-argument of copy is split at its first `=`. Without one, or with nothing before it, it
-- is refused.
abbrev pub is_equals : ℕ → Bool
is_equals c = c == byte "="

unfoldable pub split_at_equals : List ℕ → Option (List ℕ × List ℕ)
split_at_equals word =
    if nat_lt 0 (position_or_len is_equals word)
    && nat_lt (position_or_len is_equals word) (length word)
    then Some (before_first is_equals word, after_first is_equals word)
    else None

-- NAME, NAME=FILE, OLD=NEW and NAME=BITS
unfoldable pub name_of : List ℕ → Option (List ℕ)
name_of word = if is_section_name word then Some word else None

unfoldable pub named_file_of : List ℕ → Option NamedFile
named_file_of word = do
  parts ← split_at_equals word
  if is_section_name parts.0 then Some (record { name = parts.0; file = parts.1 }) else None

unfoldable pub renaming_of : List ℕ → Option Renaming
renaming_of word = do
  parts ← split_at_equals word
  if is_section_name parts.0 && is_section_name parts.1
      then Some (record { old = parts.0; new = parts.1 })
      else None

unfoldable pub named_bits_of : List ℕ → Option NamedBits
named_bits_of word = do
  parts ← split_at_equals word
  bits ← script_number_of parts.1
  if is_section_name parts.0 then Some (record { name = parts.0; bits = bits }) else None

unfoldable pub changes_of : List CommandOption → Option CopyChanges
changes_of options = do
  remove ← all_values name_of (option_arguments (byte "R") options)
  update ← all_values named_file_of (option_arguments (byte "u") options)
  rename ← all_values renaming_of (option_arguments (byte "n") options)
  flags ← all_values named_bits_of (option_arguments (byte "f") options)
  add ← all_values named_file_of (option_arguments (byte "a") options)
  Some (record { remove = remove; update = update; rename = rename; flags = flags; add = add })

-- OUT is neither FILE nor a file of `-u` or `-a`
unfoldable pub is_file_of : List ℕ → List NamedFile → Bool
is_file_of word named = list_any (λ n. bytes_eq n.file word) named

unfoldable pub copy_command : Split → Option Command
copy_command split = do
  file ← only_one split.operands
  out ← last (option_arguments (byte "o") split.options)
  changes ← changes_of split.options
  if bytes_eq out file || is_file_of out changes.update || is_file_of out changes.add
      then None
      else Some (command.Copy changes out file)

-- OUT, STRIPPED and DEBUG differ
unfoldable pub unstrip_command : Split → Option Command
unstrip_command split = do
  files ← only_two split.operands
  out ← last (option_arguments (byte "o") split.options)
  if all_differ (out ∷ files.0 ∷ files.1 ∷ [])
      then Some (command.Unstrip out files.0 files.1)
      else None

unfoldable pub lines_command : Split → Option Command
lines_command split = do
  files ← one_or_more split.operands
  Some (command.Lines files)

-- each command's own rule
unfoldable pub of_split : Usage → Split → Option Command
of_split usage.Readelf split = readelf_command split
of_split usage.Nm split = nm_command split
of_split usage.Size split = size_command split
of_split usage.Strings split = strings_command split
of_split usage.Strip split = strip_command split
of_split usage.Elflint split = elflint_command split
of_split usage.Calls split = calls_command split
of_split usage.Selftest split = selftest_command split
of_split usage.Rehash split = rehash_command split
of_split usage.Copy split = copy_command split
of_split usage.Unstrip split = unstrip_command split
of_split usage.Lines split = lines_command split
of_split usage.General split = None

-- Where help on a command is asked for, its words are no more looked at.
unfoldable pub request_of : Usage → List (List ℕ) → Option Request
request_of usage words = do
  split ← split_of usage None words
  if split.asks_help
      then Some (Tell (notice.Help usage))
      else option_map Run (of_split usage split)

-- The first word is the command, or asks for a notice, whatever follows.
unfoldable pub request_of_words : List (List ℕ) → Result Request Usage
request_of_words [] = Err usage.General
request_of_words (name ∷ words) = of_name (notice_named name) (command_named name) words
  where
    of_name : Option Notice → Option Usage → List (List ℕ) → Result Request Usage
    of_name (Some notice) named words = Ok (Tell notice)
    of_name None None words = Err usage.General
    of_name None (Some usage) words = ok_or (request_of usage words) usage

-- the usage line by which words are refused; want of memory is free
abbrev pub stated_usage : WordsFault → Option Usage
stated_usage (fault.Usage usage) = Some usage
stated_usage fault.Memory = None
