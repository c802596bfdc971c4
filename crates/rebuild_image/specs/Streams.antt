-- What an image is written from, but for its sections.
use Rattle.std.specs.Prelude.{◌≡◌, ℕ, List, ◌++◌}
use Rattle.elf_types.specs.declared.records.Phdr.{Phdr}
use Rattle.rebuild_model.specs.elf_object.Object.{Object}
use Rattle.rebuild_model.specs.elf_object.Layout.{placed}
use Rattle.elf_update_to.specs.law_object.Writing.Ready.{IsReady}
use Rattle.rebuild_image.specs.declared.listed.listed.HeaderListing.{HeaderListing}
use Rattle.rebuild_image.specs.Listed.Listing.{IsHeaderListing}
use Rattle.elf_update_to.specs.Updates.{IsPlanned}
use Rattle.rebuild_image.specs.declared.streaming.Streamed.{Streamed}
use Rattle.rebuild_image.specs.Holding.{IsHeldFrontOf}

-- the plan is the object's, and its front is held, whatever is held behind it
pub record IsStreamed (o : Object) (old new : List ℕ) (streamed : Streamed) : Type 0 where
  pub planned : IsPlanned o streamed.planned
  pub bytes : List ℕ
  pub all : new ≡ old ++ bytes
  pub front : (more base : List ℕ) → IsHeldFrontOf (placed o) (new ++ more) base streamed.front

-- no object that an update writes has these headers with its places, and these program headers
abbrev pub IsNoFront : HeaderListing → List Phdr → Type 0
IsNoFront x phdrs =
    (o : Object) → IsReady o → IsHeaderListing (placed o) x → phdrs ≡ o.phdrs → ⊥
