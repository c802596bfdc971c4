-- What the program does, by the words and the bytes of the files.
use Rattle.std.specs.Prelude.{◌≡◌, ◌<◌, ℕ, List, Bool, true, false, IsTrue, Some, None, Result, Ok, Err}
use Rattle.elf_outside.specs.Names.{Map}
use Rattle.tool_output.specs.declared.statuses.Status.{Status}
use Rattle.tool_output.specs.declared.statuses.Status.TheVariants.{Done, BadWords}
use Rattle.tool_output.specs.Statuses.{status_code}
use Rattle.tool_output.specs.declared.outputs.Side.TheVariants.{Out}
use Rattle.tool_output.specs.Marks.{said}
use Rattle.tool_output.specs.Outcomes.{Outcome, only_says}
use Rattle.elfkit_words.specs.declared.usages.Usage.{Usage}
use Rattle.elfkit_words.specs.declared.notices.Notice.{Notice}
use Rattle.elfkit_words.specs.declared.commands.Request.{Request}
use Rattle.elfkit_words.specs.declared.commands.Request.TheVariants.{Run, Tell}
use Rattle.elfkit_words.specs.declared.commands.Command.{Command}
use Rattle.elfkit_words.specs.declared.commands.Command.TheVariants.{Readelf, Nm, Size, Strings, Strip, Elflint, Calls, Selftest, Rehash, Copy, Unstrip, Lines}
use Rattle.elfkit_words.specs.Usages.{usage_line}
use Rattle.elfkit_words.specs.Notices.{notice_text}
use Rattle.elfkit_words.specs.Reading.{request_of_words}
use Rattle.selftest_tool.specs.elfkit_outcomes.Selftest.{selftest_outcome}
use Rattle.selftest_tool.specs.elfkit_outcomes.Strip.{strip_outcome, unstrip_outcome}
use Rattle.selftest_tool.specs.elfkit_outcomes.Copy.{copy_outcome, rehash_outcome}
use Rattle.elfkit_run.specs.Sentences.{says}
use Rattle.elfkit_edit.specs.Calls.{calls_outcome, calls_update_outcome}
use Rattle.elfkit_edit.specs.elfkit_read.Readelf.{readelf_outcome}
use Rattle.elfkit_edit.specs.elfkit_read.Lines.{lines_outcome}
use Rattle.elfkit_edit.specs.elfkit_read.Elflint.{elflint_outcome}
use Rattle.elfkit_edit.specs.elfkit_read.Nm.{nm_outcome}
use Rattle.elfkit_edit.specs.elfkit_read.Size.{size_outcome}
use Rattle.elfkit_edit.specs.elfkit_read.Strings.{strings_outcome}

unfoldable pub command_outcome : Command → Map → Outcome
command_outcome (Readelf parts files) named = readelf_outcome parts files named
command_outcome (Nm options files) named = nm_outcome options files named
command_outcome (Size files) named = size_outcome files named
command_outcome (Strings options files) named = strings_outcome options files named
command_outcome (Strip options file) named = strip_outcome options named file
command_outcome (Elflint files) named = elflint_outcome files named
command_outcome (Calls None file script) named = calls_outcome file script named
command_outcome (Calls (Some output) file script) named =
    calls_update_outcome output file script named
command_outcome (Selftest out count) named = selftest_outcome out count
command_outcome (Rehash out file) named = rehash_outcome named out file
command_outcome (Copy changes out file) named = copy_outcome changes named out file
command_outcome (Unstrip out stripped debug) named = unstrip_outcome named out stripped debug
command_outcome (Lines files) named = lines_outcome files named

-- the usage line of words that are refused
unfoldable pub usage_outcome : Usage → Outcome
usage_outcome usage = says (usage_line usage) 2

-- what elfkit tells of itself
unfoldable pub notice_outcome : Notice → Outcome
notice_outcome notice = only_says (said Out (notice_text notice)) 0

-- what the words ask for
unfoldable pub request_outcome : Request → Map → Outcome
request_outcome (Run command) named = command_outcome command named
request_outcome (Tell notice) named = notice_outcome notice

unfoldable pub outcome_by : Result Request Usage → Map → Outcome
outcome_by (Ok request) named = request_outcome request named
outcome_by (Err usage) named = usage_outcome usage

-- the program
unfoldable pub program : List (List ℕ) → Map → Outcome
program words named = outcome_by (request_of_words words) named

-- ---- Words that make a run open files

-- it opens none on words that are refused or ask for a notice
unfoldable pub needs_files : Request → Bool
needs_files (Run command) = true
needs_files (Tell notice) = false

unfoldable pub opens_files : Result Request Usage → Bool
opens_files (Ok request) = needs_files request
opens_files (Err usage) = false

-- ---- Words that make a run write files

-- a command that writes one, or is to
unfoldable pub writes_files : Command → Bool
writes_files (Readelf parts files) = false
writes_files (Nm options files) = false
writes_files (Size files) = false
writes_files (Strings options files) = false
writes_files (Strip options file) = true
writes_files (Elflint files) = false
writes_files (Calls None file script) = false
writes_files (Calls (Some output) file script) = true
writes_files (Selftest out count) = true
writes_files (Rehash out file) = true
writes_files (Copy changes out file) = true
writes_files (Unstrip out stripped debug) = true
writes_files (Lines files) = false

-- words that are refused or ask for a notice write none
unfoldable pub needs_writes : Request → Bool
needs_writes (Run command) = writes_files command
needs_writes (Tell notice) = false

unfoldable pub hands_to_writes : Result Request Usage → Bool
hands_to_writes (Ok request) = needs_writes request
hands_to_writes (Err usage) = false

-- ---- The files

-- the files are told, where the words make a run open any
abbrev pub AreTold : List (List ℕ) → Bool → Type 0
AreTold words tells = IsTrue (opens_files (request_of_words words)) → IsTrue tells

-- ---- The statuses of a run that comes to its end

-- words that are refused end with their own, and those that are read do not
abbrev pub IsStatusOfRequest : Request → Status → Type 0
IsStatusOfRequest (Run command) status = status_code status < 2
IsStatusOfRequest (Tell notice) status = status ≡ Done

abbrev pub IsStatusOf : Result Request Usage → Status → Type 0
IsStatusOf (Ok request) status = IsStatusOfRequest request status
IsStatusOf (Err usage) status = status ≡ BadWords
