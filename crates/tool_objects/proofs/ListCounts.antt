-- A list in items has as many as are counted.
use Rattle.std.proofs.Common.{◌≡◌, length, refl}
use Rattle.elf_types.specs.declared.records.Kind.TheVariants as kinds
use Rattle.gelf_view.specs.elf_xlate.declared.content.Items.{Items}
use Rattle.gelf_view.specs.elf_xlate.declared.content.Items.TheVariants as items
use Rattle.gelf_view.specs.elf_xlate.Translation.{items_kind, items_count}
use Rattle.gelf_view.specs.elf_object.Answers.{halves_of, syms_of, rels_of, relas_of, dyns_of}

pub halves_of_length : (content : Items) → items_kind content ≡ kinds.Half → length (halves_of content) ≡ items_count content
halves_of_length items.Empty is = cc
halves_of_length (items.Bytes l) is = cc
halves_of_length (items.Half l) is = refl
halves_of_length (items.Word l) is = cc
halves_of_length (items.Addr l) is = cc
halves_of_length (items.Sym l) is = cc
halves_of_length (items.Rel l) is = cc
halves_of_length (items.Rela l) is = cc
halves_of_length (items.Dyn l) is = cc

pub syms_of_length : (content : Items) → items_kind content ≡ kinds.Sym → length (syms_of content) ≡ items_count content
syms_of_length items.Empty is = cc
syms_of_length (items.Bytes l) is = cc
syms_of_length (items.Half l) is = cc
syms_of_length (items.Word l) is = cc
syms_of_length (items.Addr l) is = cc
syms_of_length (items.Sym l) is = refl
syms_of_length (items.Rel l) is = cc
syms_of_length (items.Rela l) is = cc
syms_of_length (items.Dyn l) is = cc

pub rels_of_length : (content : Items) → items_kind content ≡ kinds.Rel → length (rels_of content) ≡ items_count content
rels_of_length items.Empty is = cc
rels_of_length (items.Bytes l) is = cc
rels_of_length (items.Half l) is = cc
rels_of_length (items.Word l) is = cc
rels_of_length (items.Addr l) is = cc
rels_of_length (items.Sym l) is = cc
rels_of_length (items.Rel l) is = refl
rels_of_length (items.Rela l) is = cc
rels_of_length (items.Dyn l) is = cc

pub relas_of_length : (content : Items) → items_kind content ≡ kinds.Rela → length (relas_of content) ≡ items_count content
relas_of_length items.Empty is = cc
relas_of_length (items.Bytes l) is = cc
relas_of_length (items.Half l) is = cc
relas_of_length (items.Word l) is = cc
relas_of_length (items.Addr l) is = cc
relas_of_length (items.Sym l) is = cc
relas_of_length (items.Rel l) is = cc
relas_of_length (items.Rela l) is = refl
relas_of_length (items.Dyn l) is = cc

pub dyns_of_length : (content : Items) → items_kind content ≡ kinds.Dyn → length (dyns_of content) ≡ items_count content
dyns_of_length items.Empty is = cc
dyns_of_length (items.Bytes l) is = cc
dyns_of_length (items.Half l) is = cc
dyns_of_length (items.Word l) is = cc
dyns_of_length (items.Addr l) is = cc
dyns_of_length (items.Sym l) is = cc
dyns_of_length (items.Rel l) is = cc
dyns_of_length (items.Rela l) is = cc
dyns_of_length (items.Dyn l) is = refl
