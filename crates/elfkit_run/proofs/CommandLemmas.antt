-- Commands by their words.
use Rattle.std.proofs.Common.{◌≡◌, ◌<◌, Bool, true, List, ℕ, Result, Ok, Err, IfOk, codes, refl, arith, lit<}
use Rattle.elf_outside.specs.Names.{Map}
use Rattle.tool_output.specs.declared.stops.Stop.{Stop}
use Rattle.elf_outside.specs.declared.sinks.Sink.{Ghosts as SinkGhosts}
use Rattle.elf_outside.specs.declared.file_sets.Files.{Ghosts as FilesGhosts}
use Rattle.tool_output.specs.declared.outputs.Outputs.{Outputs}
use Rattle.tool_output.specs.declared.outputs.Side.TheVariants.{Out, Error}
use Rattle.tool_output.specs.Marks.{said}
use Rattle.tool_output.specs.Steps.{Writes}
use Rattle.tool_output.specs.declared.statuses.Status.{Status}
use Rattle.tool_output.specs.Statuses.{status_code, refused_status}
use Rattle.tool_output.specs.Outcomes.{Does}
use Rattle.tool_output.specs.declared.statuses.Status.TheVariants.{Done, BadWords}
use Rattle.tool_output.proofs.StepLemmas.{stops_as, writes_went}
use Rattle.tool_output.proofs.OutcomeLemmas.{says_done}
use Rattle.elfkit_words.specs.Usages.{usage_line}
use Rattle.elfkit_words.specs.Notices.{notice_text}
use Rattle.elfkit_words.specs.declared.usages.Usage.{Usage}
use Rattle.elfkit_words.specs.declared.notices.Notice.{Notice}
use Rattle.elfkit_words.specs.declared.commands.Request.{Request}
use Rattle.elfkit_words.specs.declared.commands.Request.TheVariants.{Run, Tell}
use Rattle.elfkit_words.specs.Reading.{request_of_words}
use Rattle.elfkit_run.specs.Sentences.{text_line_of, says}
use Rattle.elfkit_run.specs.Program.{usage_outcome, notice_outcome, request_outcome, outcome_by, program, IsStatusOf}

-- the usage line of words that are refused
abbrev pub bad_words : {T : Type 0} → Result T Stop → Result Status Stop
bad_words (Ok said_so) = Ok BadWords
bad_words (Err stop) = Err stop

module _ {F D O E T : Type 0} (f : FilesGhosts F D) (o : SinkGhosts O) (e : SinkGhosts E) (usage : Usage) (named : Map) (a : F) (s t : Outputs O E) where
  does_usage : (result : Result T Stop) → Writes o e result s t (said Error (text_line_of (usage_line usage)))
      → Does f o e status_code (usage_outcome usage) (bad_words result) a a s t
  unfolding usage_outcome says
  does_usage (Ok said_so) h = says_done f o e a a s t status_code _ 2 (Ok BadWords) (writes_went o e BadWords s t _ h.ok) refl
  does_usage (Err stop) h = says_done f o e a a s t status_code _ 2 (Err stop) (stops_as o e stop s t _ h) tt

  pub usage_done : (words : List (List ℕ)) (text : List ℕ) (result : Result T Stop) → request_of_words words ≡ Err usage → text ≡ usage_line usage
      → Writes o e result s t (said Error (text_line_of text)) → Does f o e status_code (program words named) (bad_words result) a a s t
  unfolding program outcome_by
  usage_done words text result is line h = rw is (does_usage result (rw line at h))

-- what elfkit tells of itself
abbrev pub told : {T : Type 0} → Result T Stop → Result Status Stop
told (Ok said_so) = Ok Done
told (Err stop) = Err stop

module _ {F D O E T : Type 0} (f : FilesGhosts F D) (o : SinkGhosts O) (e : SinkGhosts E) (notice : Notice) (named : Map) (a : F) (s t : Outputs O E) where
  does_notice : (result : Result T Stop) → Writes o e result s t (said Out (notice_text notice))
      → Does f o e status_code (notice_outcome notice) (told result) a a s t
  unfolding notice_outcome
  does_notice (Ok said_so) h = says_done f o e a a s t status_code _ 0 (Ok Done) (writes_went o e Done s t _ h.ok) refl
  does_notice (Err stop) h = says_done f o e a a s t status_code _ 0 (Err stop) (stops_as o e stop s t _ h) tt

  pub notice_done : (text : List ℕ) (result : Result T Stop) → text ≡ notice_text notice
      → Writes o e result s t (said Out text)
      → Does f o e status_code (request_outcome (Tell notice) named) (told result) a a s t
  unfolding request_outcome
  notice_done text result line h = does_notice result (rw line at h)

-- no status of a step is 3 or more
pub below_three : (r : Result Request Usage) (answer : Result Status Stop) → IfOk answer (IsStatusOf r) → IfOk answer (λ status. status_code status < 3)
below_three (Ok (Run command)) (Ok status) h = omega (arith, h)
below_three (Ok (Tell notice)) (Ok status) h = rw h (lit< tt)
below_three (Err usage) (Ok status) h = rw h (lit< tt)
below_three r (Err stop) h = tt
