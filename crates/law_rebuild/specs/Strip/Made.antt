-- What is known of the objects that strip and unstrip make anew, besides that they are objects
-- (MadeAreObjects of rebuild_model): they can be written.
use Rattle.std.specs.Prelude.{◌≡◌, ℕ, Bool, true, false, List, None, Ok}
use Rattle.hash_model.specs.elf_ident.declared.fronts.Front.{Front}
use Rattle.hash_model.specs.elf_ident.Reading.{IsFittingFront}
use Rattle.hash_model.specs.elf_object.Object.{Object, is_dirty}
use Rattle.hash_model.specs.elf_object.Open.{begun}
use Rattle.hash_model.specs.elf_object.Refusal.{unfit_segment, unfit_item, content_refusal, placing_refusal, refusal}
use Rattle.hash_model.specs.elf_object.Valid.{IsObject}
use Rattle.hash_model.specs.elf_object.Sections.{is_among}
use Rattle.rebuild_model.specs.Removed.{removed_sections, removed_by_name}
use Rattle.rebuild_model.specs.Arranged.{Rebuilt}
use Rattle.rebuild_model.specs.Rebuilt.{rebuilt}
use Rattle.rebuild_model.specs.Split.{debug_of, unstripped}

-- an update has something to write, and is refused at most for the places of the parts
pub record IsWritable (o : Object) : Type 0 where
  pub dirty : is_dirty o ≡ true
  pub content : content_refusal o ≡ None
  pub refused : refusal o ≡ placing_refusal o

-- ---- Without some sections

-- the program headers and the own items of an object fit its class
pub record FitsClass (o : Object) : Type 0 where
  pub segments : unfit_segment o ≡ None
  pub items : unfit_item o ≡ None

-- what is made of it can be written, where section 0 stays
abbrev pub RebuiltIsWritable : Type 0
RebuiltIsWritable =
    (o : Object) (removed : List ℕ) (r : Rebuilt) → IsObject o → FitsClass o
    → is_among removed 0 ≡ false → rebuilt o removed ≡ Ok r → IsWritable r.object

-- an object that is begun fits its class, over any bytes
abbrev pub BegunFitsClass : Type 0
BegunFitsClass = (f : Front) (image : List ℕ) → IsFittingFront f → FitsClass (begun f image)

-- section 0 stays, whatever strip and copy remove
pub record FirstStays : Type 0 where
  pub strip : (debug_only : Bool) (names : List (List ℕ)) (o : Object)
      → is_among (removed_sections debug_only names o) 0 ≡ false
  pub copy : (names : List (List ℕ)) (o : Object) → is_among (removed_by_name names o) 0 ≡ false

-- ---- Split and combined

-- the debug half of an object whose program headers fit its class can be written, and so can what
-- two halves are combined to
pub record HalvesAreWritable : Type 0 where
  pub debug : (o p : Object) → IsObject o → unfit_segment o ≡ None → debug_of o ≡ Ok p
      → IsWritable p
  pub combined : (o d : Object) (r : Rebuilt) → IsObject o → IsObject d → unfit_segment o ≡ None
      → unstripped o d ≡ Ok r → IsWritable r.object
