-- What a number is added to, by the kind of the items.
use Rattle.std.proofs.Common.{◌≡◌, ℕ, map, refl}
use Rattle.elf_types.specs.declared.records.Kind.TheVariants as kinds
use Rattle.elf_xlate.specs.declared.content.Items.{Items}
use Rattle.elf_xlate.specs.declared.content.Items.TheVariants as items
use Rattle.elf_xlate.specs.Translation.{items_kind}
use Rattle.symbol_lookup.specs.elf_object.Answers.{bytes_of, halves_of, words_of, addrs_of, syms_of, rels_of, relas_of, dyns_of}
use Rattle.symbol_lookup.specs.elf_object.Runs.{added, more, more_sym, more_rel, more_rela, more_dyn}

pub bytes_added : (n : ℕ) (l : Items) → items_kind l ≡ kinds.Bytes → added n l ≡ items.Bytes (map (more 8 n) (bytes_of l))
unfolding added
bytes_added n (items.Bytes l) is = refl
bytes_added n l is = cc

pub halves_added : (n : ℕ) (l : Items) → items_kind l ≡ kinds.Half → added n l ≡ items.Half (map (more 16 n) (halves_of l))
unfolding added
halves_added n (items.Half l) is = refl
halves_added n l is = cc

pub words_added : (n : ℕ) (l : Items) → items_kind l ≡ kinds.Word → added n l ≡ items.Word (map (more 32 n) (words_of l))
unfolding added
words_added n (items.Word l) is = refl
words_added n l is = cc

pub addrs_added : (n : ℕ) (l : Items) → items_kind l ≡ kinds.Addr → added n l ≡ items.Addr (map (more 64 n) (addrs_of l))
unfolding added
addrs_added n (items.Addr l) is = refl
addrs_added n l is = cc

pub syms_added : (n : ℕ) (l : Items) → items_kind l ≡ kinds.Sym → added n l ≡ items.Sym (map (more_sym n) (syms_of l))
unfolding added
syms_added n (items.Sym l) is = refl
syms_added n l is = cc

pub rels_added : (n : ℕ) (l : Items) → items_kind l ≡ kinds.Rel → added n l ≡ items.Rel (map (more_rel n) (rels_of l))
unfolding added
rels_added n (items.Rel l) is = refl
rels_added n l is = cc

pub relas_added : (n : ℕ) (l : Items) → items_kind l ≡ kinds.Rela → added n l ≡ items.Rela (map (more_rela n) (relas_of l))
unfolding added
relas_added n (items.Rela l) is = refl
relas_added n l is = cc

pub dyns_added : (n : ℕ) (l : Items) → items_kind l ≡ kinds.Dyn → added n l ≡ items.Dyn (map (more_dyn n) (dyns_of l))
unfolding added
dyns_added n (items.Dyn l) is = refl
dyns_added n l is = cc
