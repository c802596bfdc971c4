-- The file that strip writes is the image of what it makes of FILE's object.
use Rattle.std.proofs.Common.{◌≡◌, ℕ, List, [], ◌∷◌, Option, Some, None, Result, Ok, refl, sym, ap, ◌∙◌}
use Rattle.std.specs.Prelude.{codes}
use Rattle.std.specs.Option.{option_map}
use Rattle.elf_types.specs.Answers.{answered, ◌>>=◌}
use Rattle.elf_types.specs.declared.errors.ElfError.{ElfError}
use Rattle.elf_outside.specs.Names.{Map}
use Rattle.elf_ident.specs.declared.fronts.Front.{Front}
use Rattle.elf_ident.specs.Front.{front}
use Rattle.elf_ident.proofs.Refusals.{answered_ok, bind_ok}
use Rattle.elf_object.specs.Object.{Object}
use Rattle.elf_object.specs.Open.{begun, begun_or_refused, opened}
use Rattle.rebuild_model.specs.Removed.{removed_sections}
use Rattle.rebuild_model.specs.Arranged.{Rebuilt}
use Rattle.rebuild_model.specs.Rebuilt.{rebuilt, stripped}
use Rattle.rebuild_model.specs.Split.{debug_of, removed_allocated}
use Rattle.rebuild_model.specs.Files.{file_of, file_made}
use Rattle.rebuild_model.specs.Laws.{LoadableBytesStay}
use Rattle.tool_output.specs.Outcomes.{FileWrite, write_of}
use Rattle.tool_output.specs.Made.{Done, Complaint, complaint, made_file_alone, made_file, of_file}
use Rattle.elfkit_outcomes.specs.declared.options.StripOptions.{StripOptions}
use Rattle.elfkit_outcomes.specs.Files.{object_named}
use Rattle.elfkit_outcomes.specs.Strip.{allocated_text, allocated_complaint, strip_alone, strip_split, strip_done, strip_outcome}
use Rattle.law_files.specs.Strip.LoadedFiles.{StripWrites, LoadedFilesStay}
use Rattle.law_files.proofs.strip.Written.{of_file_ok, object_known, first_written, outcome_done}

-- ---- The object of FILE

begun_as : (f : Front) (image : List ℕ) (o : Object) → front image ≡ Ok f → opened image ≡ Ok o
    → o ≡ begun f image
unfolding opened
begun_as f image o is e =
    let same : Ok o ≡ Ok (begun f image) =
    sym e ∙ ap (λ (x : Result Front ElfError). begun_or_refused x image) is in
    cc

pub named_opens : (named : Map) (file image : List ℕ) (o : Object) → named file ≡ Some image
    → object_named named file ≡ Ok o → opened image ≡ Ok o
named_opens named file image o held e =
    let read = object_known named file o e in
    let same : read.image ≡ image =
    let both : Some read.image ≡ Some image = sym read.held ∙ held in cc in
    ap opened (sym same) ∙ read.opens

object_is : (named : Map) (file image : List ℕ) (f : Front) (o : Object)
    → named file ≡ Some image → front image ≡ Ok f → object_named named file ≡ Ok o
    → o ≡ begun f image
object_is named file image f o held is e =
    begun_as f image o is (named_opens named file image o held e)

-- ---- The file OUT

-- the bytes that an update writes of what is made
abbrev image_made : Object → List ℕ → Result (List ℕ) ElfError
image_made o removed = rebuilt o removed >>= λ r. file_of r.object

alone_written : (o : Object) (removed out file : List ℕ) (done : Done) (w : FileWrite)
    → strip_alone o removed out file ≡ Ok done → write_of done.writes out ≡ Some w
    → image_made o removed ≡ Ok w.bytes
unfolding strip_alone
alone_written o removed out file done w e written =
    let bytes = bind_ok (of_file file (image_made o removed)) (λ bytes. Ok (made_file_alone out bytes)) done e
    in
    let whole : made_file_alone out bytes.0 ≡ done = let both = bytes.2 in cc in
    let same = ap (λ (x : FileWrite). x.bytes) (first_written out bytes.0 [] done.writes w
    (sym (ap (λ (d : Done). d.writes) whole)) written) in
    of_file_ok file (image_made o removed) bytes.0 bytes.1
    ∙ ap (λ (l : List ℕ). Ok l) (sym same)

none_mapped : {A B : Type 0} (f : A → B) (x : Option A) → option_map f x ≡ None → x ≡ None
none_mapped f None e = refl
none_mapped f (Some y) e = cc

-- what strip -f makes of an object, and the bytes of its two files
pub record IsSplitDone (o : Object) (removed out debug : List ℕ) (done : Done) : Type 0 where
  pub stays : removed_allocated o removed ≡ None
  pub made : Rebuilt
  pub is_made : rebuilt o removed ≡ Ok made
  pub half : Object
  pub is_half : debug_of o ≡ Ok half
  pub bytes : List ℕ
  pub is_bytes : file_of made.object ≡ Ok bytes
  pub debug_bytes : List ℕ
  pub is_debug_bytes : file_of half ≡ Ok debug_bytes
  pub writes : done.writes ≡ made_file out bytes ∷ made_file debug debug_bytes ∷ []

pub split_known : (o : Object) (removed out debug file : List ℕ) (done : Done)
    → strip_split o removed out debug file ≡ Ok done → IsSplitDone o removed out debug done
unfolding strip_split
split_known o removed out debug file done e =
    let whole = bind_ok (answered (allocated_complaint o removed file) o) _ done e in
    let object = answered_ok (allocated_complaint o removed file) o whole.0 whole.1 in
    let half = bind_ok (of_file file (rebuilt whole.0 removed)) _ done whole.2 in
    let debug_half = bind_ok (of_file file (debug_of whole.0)) _ done half.2 in
    let bytes = bind_ok (of_file file (file_of half.0.object)) _ done debug_half.2 in
    let debug_bytes = bind_ok (of_file file (file_of debug_half.0)) _ done bytes.2 in
    let files : Done = record {
      shown = [];
      writes = made_file out bytes.0 ∷ made_file debug debug_bytes.0 ∷ [];
    } in
    let all : files ≡ done = let both = debug_bytes.2 in cc in
    record {
      stays = none_mapped (λ s. complaint file (allocated_text s)) (removed_allocated o removed)
          object.0;
      made = half.0;
      is_made = ap (λ (x : Object). rebuilt x removed) object.1
          ∙ of_file_ok file (rebuilt whole.0 removed) half.0 half.1;
      half = debug_half.0;
      is_half = ap (λ (x : Object). debug_of x) object.1
          ∙ of_file_ok file (debug_of whole.0) debug_half.0 debug_half.1;
      bytes = bytes.0;
      is_bytes = of_file_ok file (file_of half.0.object) bytes.0 bytes.1;
      debug_bytes = debug_bytes.0;
      is_debug_bytes = of_file_ok file (file_of debug_half.0) debug_bytes.0 debug_bytes.1;
      writes = sym (ap (λ (d : Done). d.writes) all);
    }

split_written : (o : Object) (removed out debug file : List ℕ) (done : Done) (w : FileWrite)
    → strip_split o removed out debug file ≡ Ok done → write_of done.writes out ≡ Some w
    → image_made o removed ≡ Ok w.bytes
split_written o removed out debug file done w e written =
    let known = split_known o removed out debug file done e in
    let same = ap (λ (x : FileWrite). x.bytes)
    (first_written out known.bytes (made_file debug known.debug_bytes ∷ []) done.writes w
    known.writes written) in
    ap (λ (x : Result Rebuilt ElfError). x >>= λ r. file_of r.object) known.is_made
    ∙ known.is_bytes
    ∙ ap (λ (l : List ℕ). Ok l) (sym same)

-- ---- What strip gives

done_written : (options : StripOptions) (named : Map) (file image : List ℕ) (f : Front)
    (done : Done) (w : FileWrite) → named file ≡ Some image → front image ≡ Ok f
    → strip_done options named file ≡ Ok done → write_of done.writes options.out ≡ Some w
    → file_made (stripped options.debug_only options.names (begun f image)) ≡ Ok w.bytes
unfolding strip_done stripped
done_written options named file image f done w held is e written =
    let found = bind_ok (object_named named file) _ done e in
    let same = object_is named file image f found.0 held is found.1 in
    ap (λ (x : Object).
    image_made x (removed_sections options.debug_only options.names x)) (sym same)
    ∙ by_debug found.0 options.debug found.2
  where
    by_debug : (o : Object) (debug : Option (List ℕ))
        → ◌≡◌ {A = Result Done Complaint} (elim debug [
          | None ↦ strip_alone o (removed_sections options.debug_only options.names o)
              options.out file
          | Some name ↦ strip_split o (removed_sections options.debug_only options.names o)
              options.out name file
        ]) (Ok done)
        → image_made o (removed_sections options.debug_only options.names o) ≡ Ok w.bytes
    by_debug o None h =
        alone_written o (removed_sections options.debug_only options.names o) options.out file
        done w h written
    by_debug o (Some name) h =
        split_written o (removed_sections options.debug_only options.names o) options.out name
        file done w h written

outcome_written : (options : StripOptions) (named : Map) (file image : List ℕ) (f : Front)
    (w : FileWrite) → StripWrites options named file image f w
    → file_made (stripped options.debug_only options.names (begun f image)) ≡ Ok w.bytes
unfolding strip_outcome
outcome_written options named file image f w is =
    let done = outcome_done (codes "strip") (strip_done options named file) options.out w
    is.written in
    done_written options named file image f done.0 w is.held is.is_front done.1 done.2

pub loaded_files_stay : LoadableBytesStay → LoadedFilesStay
loaded_files_stay stay options named file image f out is k loaded inside fixed =
    stay image f options.debug_only options.names out.bytes is.bytes is.is_front is.usual
    (outcome_written options named file image f out is) k loaded inside fixed
