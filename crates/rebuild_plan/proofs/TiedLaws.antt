-- What is known of an object in which nothing is dirty, where its source tells its bytes.
use Rattle.std.proofs.Common.{◌≡◌, Bool, false, List, ℕ, Option, None, Some, Result, Ok, Err, subst, refl}
use Rattle.std.specs.Prelude.{IsTrue, is_some}
use Rattle.elf_types.specs.declared.errors.ElfError.{ElfError}
use Rattle.law_rebuild.specs.elf_ident.declared.fronts.Front.{Front}
use Rattle.law_rebuild.specs.elf_ident.Front.{front}
use Rattle.law_rebuild.specs.elf_object.Object.{Object, is_dirty}
use Rattle.law_rebuild.specs.elf_object.Open.{begun, begun_or_refused, opened}
use Rattle.law_rebuild.specs.elf_object.Refusal.{unfit_item, unfit_segment}
use Rattle.law_rebuild.specs.elf_object.Valid.{IsObject, IsTied, as_opened}
use Rattle.law_rebuild.specs.Strip.Made.{FitsClass}
use Rattle.law_rebuild.proofs.strip.WritableLaws.{begun_fits_class}
use Rattle.law_rebuild.proofs.law_object.OpenLaws.{front_known, known_fits}
use Rattle.rebuild_tables.specs.elf_descriptor.Sound.{IsSound}
use Rattle.rebuild_tables.proofs.elf_update_plan.RowLaws.{ok_is}

-- it is that of its base
pub sound_tied : (o : Object) (image : Option (List ℕ)) (told : Bool) → told ≡ is_some image
    → IsSound image o → IsTrue told → IsTied o
sound_tied o None told same sound t =
    let never : IsTrue false = subst (λ (b : Bool). IsTrue b) same t in cc
sound_tied o (Some bytes) told same sound t = sound.tied refl

-- as which it was begun fits its class
opened_fits : (o : Object) → FitsClass (as_opened o) → FitsClass o
unfolding unfit_segment unfit_item
opened_fits o fit = record { segments = fit.segments; items = fit.items }

pub tied_fits : (o : Object) → IsObject o → is_dirty o ≡ false → IsTied o → FitsClass o
unfolding opened
tied_fits o is clean tied = by (front o.base) refl (tied clean)
  where
    by : (r : Result Front ElfError) → front o.base ≡ r
        → begun_or_refused r o.base ≡ Ok (as_opened o) → FitsClass o
    by (Ok f) at came =
        let same : begun f o.base ≡ as_opened o = ok_is (begun f o.base) (as_opened o) came in
        let fits = known_fits o.base f is.base (front_known o.base f at) in
        opened_fits o (subst FitsClass same (begun_fits_class f o.base fits.0))
    by (Err e) at came = cc

pub sound_fits : (o : Object) (image : Option (List ℕ)) (told : Bool) → told ≡ is_some image
    → IsSound image o → is_dirty o ≡ false → IsTrue told → FitsClass o
sound_fits o image told same sound clean t =
    tied_fits o sound.object clean (sound_tied o image told same sound t)
