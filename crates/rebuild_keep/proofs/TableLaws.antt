-- The table of the names that are made anew is all that is made of its section.
use Rattle.std.proofs.Common.{◌≡◌, ◌==◌, ℕ, Bool, List, Option, Some, None, if◌then◌else◌, refl, sym, ap, ◌∙◌, subst}
use Rattle.std.specs.Prelude.{IfSome}
use Rattle.std.specs.Borrow.{Bor}
use Rattle.rebuild_names.specs.elf_xlate.declared.content.Items.TheVariants as items
use Rattle.rebuild_making.specs.elf_object.Object.{Object}
use Rattle.rebuild_keep.specs.declared.naming.Names.{Names}
use Rattle.rebuild_keep.specs.declared.naming.Names.TheVariants.{Stay, Anew, TooLarge}
use Rattle.rebuild_keep.specs.declared.keepers.Keeper.{Keeper}
use Rattle.rebuild_keep.specs.Keepers.{kept_items_by, items_or_names, items_by, kept_refusal_by, refusal_or_none, refusal_by, IsNewNameTable, HasNewNameTable}

module _ (k : Keeper) (o : Object) (s : ℕ) where
  is_made : (names : Names) → k.names ≡ names → (table : List ℕ)
      → IsNewNameTable names (s == o.header.shstrndx) table → HasNewNameTable k o s table
  unfolding items_by refusal_by
  is_made Stay at table is = absurd is
  is_made (Anew names) at table is = record {
    is = ap (λ (n : Names). items_or_names n (s == o.header.shstrndx) (kept_items_by k o s)) at
        ∙ ap (λ (b : Bool). if b then items.Bytes names.table else kept_items_by k o s) is.0
        ∙ ap (λ (l : List ℕ). items.Bytes l) (sym is.1);
    passed = ap (λ (n : Names).
        refusal_or_none n (s == o.header.shstrndx) (kept_refusal_by k o s)) at
        ∙ ap (λ (b : Bool). if b then None else kept_refusal_by k o s) is.0;
  }
  is_made TooLarge at table is = absurd is

  pub table_had : (n : ℕ) (r : Option (Bor (List ℕ))) → n ≡ o.header.shstrndx
      → IfSome r (λ table. IsNewNameTable k.names (s == n) table.now)
      → IfSome r (λ table. HasNewNameTable k o s table.now)
  table_had n None index is = tt
  table_had n (Some table) index is =
      is_made k.names refl table.now
      (subst (λ (m : ℕ). IsNewNameTable k.names (s == m) table.now) index is)
