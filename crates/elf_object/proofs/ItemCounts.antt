-- The list in items of a kind has as many as are counted.
use Rattle.std.proofs.Common.{◌≡◌, length, refl}
use Rattle.elf_types.specs.declared.records.Kind.TheVariants as kinds
use Rattle.elf_ident.specs.elf_xlate.declared.content.Items.{Items}
use Rattle.elf_ident.specs.elf_xlate.declared.content.Items.TheVariants as items
use Rattle.elf_ident.specs.elf_xlate.Translation.{items_kind, items_count}
use Rattle.elf_object.specs.Answers.{halves_of, words_of, addrs_of, syms_of, rels_of, relas_of, dyns_of}

pub halves_counted : (l : Items) → items_kind l ≡ kinds.Half
    → length (halves_of l) ≡ items_count l
halves_counted (items.Half l) is = refl
halves_counted l is = cc

pub words_counted : (l : Items) → items_kind l ≡ kinds.Word → length (words_of l) ≡ items_count l
words_counted (items.Word l) is = refl
words_counted l is = cc

pub addrs_counted : (l : Items) → items_kind l ≡ kinds.Addr → length (addrs_of l) ≡ items_count l
addrs_counted (items.Addr l) is = refl
addrs_counted l is = cc

pub syms_counted : (l : Items) → items_kind l ≡ kinds.Sym → length (syms_of l) ≡ items_count l
syms_counted (items.Sym l) is = refl
syms_counted l is = cc

pub rels_counted : (l : Items) → items_kind l ≡ kinds.Rel → length (rels_of l) ≡ items_count l
rels_counted (items.Rel l) is = refl
rels_counted l is = cc

pub relas_counted : (l : Items) → items_kind l ≡ kinds.Rela → length (relas_of l) ≡ items_count l
relas_counted (items.Rela l) is = refl
relas_counted l is = cc

pub dyns_counted : (l : Items) → items_kind l ≡ kinds.Dyn → length (dyns_of l) ≡ items_count l
dyns_counted (items.Dyn l) is = refl
dyns_counted l is = cc
