-- The plan of listed headers is that of the object.
use Rattle.std.proofs.Common.{◌≡◌, ℕ, Bool, List, Result, Ok, Err, length, map, sym, ap, ◌∙◌, subst}
use Rattle.std.specs.Prelude.{IfSome}
use Rattle.elf_types.specs.declared.errors.ElfError.{ElfError}
use Rattle.elf_types.specs.declared.errors.ElfError.TheVariants.{Memory}
use Rattle.elf_types.specs.declared.records.Ehdr.{Ehdr}
use Rattle.elf_layout.specs.declared.parts.PartAt.{PartAt}
use Rattle.elf_layout.specs.declared.parts.Places.{Places}
use Rattle.elf_layout.specs.Capping.{capped}
use Rattle.elf_layout.specs.Layout.{placing, layout_refusal, MayWantMemory}
use Rattle.elf_layout.specs.Meeting.{ranks_by_position}
use Rattle.rebuild_model.specs.elf_object.Object.{Object, header_of}
use Rattle.rebuild_model.specs.elf_object.Layout.{parts_of}
use Rattle.elf_update_to.specs.law_object.Laws.{IsCappedAlike}
use Rattle.elf_update_to.specs.elf_update_plan.Placing.{ArePlaced, IsRefused, IsUnplaced}
use Rattle.elf_update_to.specs.elf_update_plan.Plans.{part_of_rank, stand_at}
use Rattle.elf_update_to.proofs.elf_update_plan.PlacingLaws.{unplaced, are_placed, not_placed, wants_as}
use Rattle.elf_update_to.specs.Updates.{IsPlanned}
use Rattle.elf_update_to.proofs.UpdateLaws.{is_planned, wants_passed}
use Rattle.rebuild_image.specs.declared.listed.listed.HeaderListing.{HeaderListing}
use Rattle.rebuild_image.specs.Planning.{IsLaidOut}

module _ (o : Object) (x : HeaderListing) (layout : Bool) (base : ℕ) (is : IsLaidOut o x layout base)
    (alike : IsCappedAlike o) where
  pub wanted : (e : ElfError) → e ≡ Memory → IsRefused o e
  wanted e want = wants_as o e is.dirty is.content want

  module _ (parts : List PartAt) (listed : parts ≡ map capped (parts_of o)) where
    placing_is : placing parts layout base x.header.class
        ≡ placing (map capped (parts_of o)) o.layout (length o.base) o.header.class
    unfolding header_of
    placing_is =
        ap (λ (l : List PartAt). placing l layout base x.header.class) listed
        ∙ ap (λ (b : Bool). placing (map capped (parts_of o)) b base x.header.class)
        (sym is.layout_is)
        ∙ ap (λ (n : ℕ). placing (map capped (parts_of o)) o.layout n x.header.class)
        (sym is.base_is)
        ∙ ap (λ (h : Ehdr). placing (map capped (parts_of o)) o.layout (length o.base) h.class)
        is.listed.header

    pub not_listed : (e : ElfError)
        → IfSome (layout_refusal e) (λ d. placing parts layout base x.header.class ≡ Err d)
        → (e ≡ Memory → MayWantMemory (placing parts layout base x.header.class)) → IsRefused o e
    not_listed e follows may =
        not_placed o is.dirty is.content alike e
        (subst (λ (r : Result Places ElfError). IsUnplaced r e) placing_is
        (unplaced (placing parts layout base x.header.class) e follows may))

    module _ (places : Places) (stand : placing parts layout base x.header.class ≡ Ok places) where
      placed_are : ArePlaced o (record { parts = parts; places = places })
      placed_are =
          are_placed o is.dirty is.content alike (record { parts = parts; places = places }) listed
          (sym placing_is ∙ stand)

      pub not_planned : (e : ElfError) → e ≡ Memory → IsRefused o e
      not_planned e want = wants_passed o e placed_are.passed want

      pub all_planned : (planned : List PartAt)
          → planned ≡ map (part_of_rank (stand_at parts places.at))
          (ranks_by_position (stand_at parts places.at))
          → IsPlanned o (record { parts = planned; places = places })
      all_planned planned by =
          is_planned o (record { parts = parts; places = places }) planned is.object is.dirty
          placed_are by
