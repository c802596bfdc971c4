-- Of a command that makes files: the object of a file that it reads, and the files that it makes.
use Rattle.std.proofs.Common.{◌≡◌, ℕ, Bool, List, ◌∷◌, Some, Result, Ok, Err, refl, sym, ap, ◌∙◌, arith}
use Rattle.std.specs.Prelude.{codes, if◌then◌else◌}
use Rattle.std.proofs.lemmas.Slice.Eq.{bytes_eq-Decides}
use Rattle.elf_types.specs.declared.errors.ElfError.{ElfError}
use Rattle.elf_outside.specs.Names.{Map}
use Rattle.elf_ident.specs.declared.file_kinds.FileKind.{FileKind}
use Rattle.elf_ident.specs.declared.file_kinds.FileKind.TheVariants.{Archive, Elf, Other}
use Rattle.elf_ident.specs.FileKinds.{file_kind}
use Rattle.elf_ident.proofs.Refusals.{bind_ok, or_refused_ok}
use Rattle.elf_object.specs.Object.{Object}
use Rattle.elf_object.specs.Open.{opened}
use Rattle.tool_output.specs.Reports.{refusal_report}
use Rattle.tool_output.specs.Outcomes.{FileWrite, write_of}
use Rattle.tool_output.specs.Made.{Done, Complaint, complaint, made_file, of_file, written_outcome}
use Rattle.elfkit_outcomes.specs.tool_objects.Images.{object_by, file_object}
use Rattle.elfkit_outcomes.specs.Files.{bytes_named, object_named}

pub of_file_ok : {A : Type 0} (file : List ℕ) (r : Result A ElfError) (x : A)
    → of_file file r ≡ Ok x → r ≡ Ok x
of_file_ok file (Ok y) x e = cc
of_file_ok file (Err d) x e = cc

-- ---- A file that is read

pub bytes_known : (named : Map) (file bytes : List ℕ) → bytes_named named file ≡ Ok bytes
    → named file ≡ Some bytes
unfolding bytes_named
bytes_known named file bytes e =
    or_refused_ok (named file) (complaint file (codes "not found")) bytes e

opened_by : (kind : FileKind) (image : List ℕ) (o : Object) → object_by kind image ≡ Ok o
    → opened image ≡ Ok o
unfolding object_by
opened_by Archive image o e = cc
opened_by Elf image o e = e
opened_by Other image o e = e

-- the file holds an image, which opens as the object
pub record IsRead (named : Map) (file : List ℕ) (o : Object) : Type 0 where
  pub image : List ℕ
  pub held : named file ≡ Some image
  pub opens : opened image ≡ Ok o

pub object_known : (named : Map) (file : List ℕ) (o : Object) → object_named named file ≡ Ok o
    → IsRead named file o
unfolding object_named file_object
object_known named file o e =
    let read = bind_ok (bytes_named named file)
    (λ image. of_file file (object_by (file_kind image) image)) o e in
    record {
      image = read.0;
      held = bytes_known named file read.0 read.1;
      opens = opened_by (file_kind read.0) read.0 o
          (of_file_ok file (object_by (file_kind read.0) read.0) o read.2);
    }

-- ---- A file that is made

-- of files of which OUT is the first
pub first_found : (out bytes : List ℕ) (later : List FileWrite)
    → write_of (made_file out bytes ∷ later) out ≡ Some (made_file out bytes)
unfolding write_of
first_found out bytes later =
    ap (λ (b : Bool). if b then Some (made_file out bytes) else write_of later out)
    ((bytes_eq-Decides out out).1 refl)

pub first_written : (out bytes : List ℕ) (later writes : List FileWrite) (w : FileWrite)
    → writes ≡ made_file out bytes ∷ later → write_of writes out ≡ Some w
    → w ≡ made_file out bytes
first_written out bytes later writes w is e =
    let first : Some (made_file out bytes) ≡ Some w =
    sym (first_found out bytes later)
    ∙ ap (λ (l : List FileWrite). write_of l out) (sym is) ∙ e in
    let same : made_file out bytes ≡ w = cc in sym same

-- what gives a file is no complaint
pub outcome_done : (command : List ℕ) (r : Result Done Complaint) (out : List ℕ) (w : FileWrite)
    → write_of (written_outcome command r).writes out ≡ Some w
    → (done : Done) × (r ≡ Ok done) × (write_of done.writes out ≡ Some w)
unfolding written_outcome write_of
outcome_done command (Ok done) out w e = (done, refl, e)
outcome_done command (Err c) out w e = cc

-- neither is what ends with 0
pub outcome_ended : (command : List ℕ) (r : Result Done Complaint)
    → (written_outcome command r).status ≡ 0 → (done : Done) × (r ≡ Ok done)
unfolding written_outcome refusal_report
outcome_ended command (Ok done) e = (done, refl)
outcome_ended command (Err c) e = let clash : 1 ≡ 0 = e in absurd (omega (arith, clash))
