-- A run of strip that is done: OUT holds the image of what strip makes of FILE, and keeps what is
-- loaded.
use Rattle.std.proofs.Common.{◌≡◌, ℕ, ◌<◌, List, [], ◌∷◌, Option, Some, None, Result, Ok, sym, ap, ◌∙◌, subst, arith}
use Rattle.std.specs.Prelude.{codes}
use Rattle.elf_types.specs.Answers.{◌>>=◌}
use Rattle.elf_types.specs.declared.errors.ElfError.{ElfError}
use Rattle.elf_outside.specs.Names.{Map}
use Rattle.elf_ident.proofs.Refusals.{bind_ok}
use Rattle.elf_object.specs.Object.{Object}
use Rattle.rebuild_model.specs.Arranged.{Rebuilt}
use Rattle.rebuild_model.specs.Files.{file_of}
use Rattle.rebuild_model.specs.Rebuilt.{rebuilt}
use Rattle.rebuild_model.specs.Removed.{removed_sections}
use Rattle.rebuild_model.specs.Split.{debug_of}
use Rattle.tool_output.specs.Statuses.{status_code}
use Rattle.tool_output.specs.Outcomes.{FileWrite, Outcome, write_of, held_after}
use Rattle.tool_output.specs.Made.{Done, Complaint, made_file_alone, made_file, of_file, written_outcome}
use Rattle.elfkit_run.specs.elfkit_words.declared.commands.Command.TheVariants.{Strip}
use Rattle.elfkit_outcomes.specs.declared.options.StripOptions.{StripOptions}
use Rattle.elfkit_outcomes.specs.Files.{object_named}
use Rattle.elfkit_outcomes.specs.Strip.{strip_alone, strip_split, strip_done, strip_outcome}
use Rattle.law_files.specs.Strip.LoadedFiles.{LoadedFilesStay}
use Rattle.law_files.proofs.strip.FileLaws.{split_known}
use Rattle.law_files.proofs.strip.Written.{IsRead, object_known, of_file_ok, first_found, outcome_ended}
use Rattle.elfkit_run.specs.Program.{command_outcome, program}
use Rattle.law_run.specs.Loaded.{RunKeepsLoaded}
use Rattle.law_run.proofs.Requests.{command_stated}
use Rattle.law_run.proofs.Written.{IsRunOf, nothing_found, only_found}

-- ---- What strip writes

-- the debug file, where it writes one
pub record WritesDebug (o : Object) (w : FileWrite) : Type 0 where
  pub half : Object
  pub is_half : debug_of o ≡ Ok half
  pub is_bytes : file_of half ≡ Ok w.bytes

pub record WritesStripped (options : StripOptions) (o : Object) (done : Done) : Type 0 where
  pub made : Rebuilt
  pub is_made : rebuilt o (removed_sections options.debug_only options.names o) ≡ Ok made
  pub bytes : List ℕ
  pub is_bytes : file_of made.object ≡ Ok bytes
  pub later : List FileWrite
  pub writes : done.writes ≡ made_file options.out bytes ∷ later
  pub debug : (name : List ℕ) (w : FileWrite) → write_of later name ≡ Some w → WritesDebug o w

alone_writes : (options : StripOptions) (o : Object) (file : List ℕ) (done : Done)
    → strip_alone o (removed_sections options.debug_only options.names o) options.out file ≡ Ok done
    → WritesStripped options o done
unfolding strip_alone
alone_writes options o file done e =
    let removed = removed_sections options.debug_only options.names o in
    let image : Result (List ℕ) ElfError = rebuilt o removed >>= λ r. file_of r.object in
    let bytes = bind_ok (of_file file image) (λ bytes. Ok (made_file_alone options.out bytes)) done e in
    let whole : made_file_alone options.out bytes.0 ≡ done = let both = bytes.2 in cc in
    let object = bind_ok (rebuilt o removed) (λ r. file_of r.object) bytes.0
    (of_file_ok file image bytes.0 bytes.1) in
    record {
      made = object.0;
      is_made = object.1;
      bytes = bytes.0;
      is_bytes = object.2;
      later = [];
      writes = sym (ap (λ (d : Done). d.writes) whole);
      debug = λ name w found. absurd (nothing_found name w found);
    }

split_writes : (options : StripOptions) (debug : List ℕ) (o : Object) (file : List ℕ) (done : Done)
    → strip_split o (removed_sections options.debug_only options.names o) options.out debug file
    ≡ Ok done
    → WritesStripped options o done
split_writes options debug o file done e =
    let known = split_known o (removed_sections options.debug_only options.names o) options.out
    debug file done e in
    record {
      made = known.made;
      is_made = known.is_made;
      bytes = known.bytes;
      is_bytes = known.is_bytes;
      later = made_file debug known.debug_bytes ∷ [];
      writes = known.writes;
      debug = λ name w found. record {
        half = known.half;
        is_half = known.is_half;
        is_bytes = known.is_debug_bytes
            ∙ ap (λ (x : FileWrite). Ok x.bytes)
            (only_found (made_file debug known.debug_bytes) name w found).0;
      };
    }

pub record StripsObject (options : StripOptions) (named : Map) (file : List ℕ) (done : Done)
    : Type 0 where
  pub object : Object
  pub read : IsRead named file object
  pub writes : WritesStripped options object done

pub strip_known : (options : StripOptions) (named : Map) (file : List ℕ) (done : Done)
    → strip_done options named file ≡ Ok done → StripsObject options named file done
unfolding strip_done
strip_known options named file done e =
    let found = bind_ok (object_named named file) _ done e in
    record {
      object = found.0;
      read = object_known named file found.0 found.1;
      writes = by_debug found.0 options.debug found.2;
    }
  where
    by_debug : (o : Object) (debug : Option (List ℕ))
        → ◌≡◌ {A = Result Done Complaint} (elim debug [
          | None ↦ strip_alone o (removed_sections options.debug_only options.names o)
              options.out file
          | Some name ↦ strip_split o (removed_sections options.debug_only options.names o)
              options.out name file
        ]) (Ok done)
        → WritesStripped options o done
    by_debug o None h = alone_writes options o file done h
    by_debug o (Some name) h = split_writes options name o file done h

-- ---- A run that is done

pub strip_ended : (options : StripOptions) (named : Map) (file : List ℕ)
    → (strip_outcome options named file).status ≡ 0
    → (done : Done) × (strip_done options named file ≡ Ok done)
unfolding strip_outcome
strip_ended options named file ended =
    outcome_ended (codes "strip") (strip_done options named file) ended

pub strip_written : (options : StripOptions) (named : Map) (file bytes : List ℕ)
    (later : List FileWrite) (done : Done) → strip_done options named file ≡ Ok done
    → done.writes ≡ made_file options.out bytes ∷ later
    → write_of (strip_outcome options named file).writes options.out
    ≡ Some (made_file options.out bytes)
unfolding strip_outcome written_outcome
strip_written options named file bytes later done e writes =
    ap (λ (r : Result Done Complaint).
    write_of (written_outcome (codes "strip") r).writes options.out) e
    ∙ ap (λ (l : List FileWrite). write_of l options.out) writes
    ∙ first_found options.out bytes later

pub run_keeps_loaded : LoadedFilesStay → RunKeepsLoaded
unfolding command_outcome
run_keeps_loaded stay words status around delivered is =
    let old = around.named_old in
    let stated : program words old ≡ strip_outcome is.options old is.file =
    command_stated words (Strip is.options is.file) old is.asked in
    let run = subst (λ (x : Outcome). IsRunOf x status around) stated delivered in
    let code : status_code status ≡ 0 = ap status_code is.done in
    let below : status_code status < 3 = omega (arith, code) in
    let done = strip_ended is.options old is.file (sym (run.status_is below) ∙ code) in
    let known = strip_known is.options old is.file done.0 done.1 in
    let out = made_file is.options.out known.writes.bytes in
    let written = strip_written is.options old is.file known.writes.bytes known.writes.later done.0
    done.1 known.writes.writes in
    record {
      out = known.writes.bytes;
      is_out = run.files below is.options.out
          ∙ ap (λ (w : Option FileWrite). held_after w (old is.options.out)) written;
      same = stay is.options old is.file is.image is.headers out (record {
        held = is.held;
        bytes = is.bytes;
        is_front = is.is_front;
        usual = is.usual;
        written = written;
      });
    }
