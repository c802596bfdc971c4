-- An object of which the headers are listed, that an update writes where its places allow it.
use Rattle.std.specs.Prelude.{◌≡◌, ℕ, Bool, true, None, length}
use Rattle.rebuild_model.specs.elf_object.Object.{Object, is_dirty}
use Rattle.rebuild_model.specs.elf_object.Refusal.{content_refusal}
use Rattle.rebuild_model.specs.elf_object.Valid.{IsObject}
use Rattle.rebuild_image.specs.declared.listed.listed.HeaderListing.{HeaderListing}
use Rattle.rebuild_image.specs.Listed.Listing.{IsHeaderListing}

pub record IsLaidOut (o : Object) (x : HeaderListing) (layout : Bool) (base : ℕ) : Type 0 where
  pub object : IsObject o
  pub dirty : is_dirty o ≡ true
  pub content : content_refusal o ≡ None
  pub listed : IsHeaderListing o x
  pub layout_is : o.layout ≡ layout
  pub base_is : length o.base ≡ base
