-- A symbol table in another order: what lookups find in it, and what relocations name.
use Rattle.std.proofs.Common.{◌≡◌, ◌<◌, ℕ, List, length, Option, Some, None, Result, refl, sym, ap, ◌∙◌, subst, arith}
use Rattle.std.specs.Prelude.{slice_get}
use Rattle.std.specs.Option.{option_map}
use Rattle.std.specs.List.{position}
use Rattle.std.proofs.lemmas.List.Quantifiers.{position-Some}
use Rattle.elf_types.specs.Answers.{answered}
use Rattle.elf_types.specs.declared.constants.TheConstants.{SHT_REL, SHT_RELA}
use Rattle.elf_types.specs.declared.errors.ElfError.{ElfError}
use Rattle.elf_types.specs.declared.records.Kind.TheVariants as kinds
use Rattle.elf_xlate.specs.declared.content.Items.{Items}
use Rattle.rebuild_model.specs.elf_object.Object.{Object, section_at}
use Rattle.rebuild_model.specs.elf_object.Answers.{items_at, syms_of, rels_of, relas_of, lend_refusal}
use Rattle.rebuild_model.specs.elf_object.Strings.{is_name}
use Rattle.rebuild_model.specs.elf_object.Sections.{header_at}
use Rattle.rebuild_model.specs.hash_model.Listed.{listed_names, find_linear_answer}
use Rattle.rebuild_model.specs.Laws.{symbol_at, FoundAlike, LooksUpAlike, NamesAlike, rel_symbol, rela_symbol, RehashKeepsLookup}
use Rattle.hash_build.proofs.ListedLaws.{names_long}
use Rattle.hash_order.proofs.StoreLaws.{IsSameAt, same_items, same_lend}
use Rattle.law_hash.proofs.SameLaws.{SameStrings, names_same}

-- each symbol of section s has a new index; lookups and relocations go with it
pub record IsRenumbered (before after : Object) (s : ℕ) (new : ℕ → ℕ) : Type 0 where
  pub lent : lend_refusal after kinds.Sym s 0 ≡ lend_refusal before kinds.Sym s 0
  pub found : (name : List ℕ) → position (is_name name) (listed_names after s)
      ≡ option_map new (position (is_name name) (listed_names before s))
  pub symbols : (i : ℕ) → i < length (syms_of (items_at before s 0))
      → symbol_at after s (new i) ≡ symbol_at before s i
  pub rels : (n i : ℕ) → (header_at before n).stype ≡ SHT_REL → (header_at before n).link ≡ s
      → rel_symbol after n i ≡ option_map new (rel_symbol before n i)
  pub relas : (n i : ℕ) → (header_at before n).stype ≡ SHT_RELA → (header_at before n).link ≡ s
      → rela_symbol after n i ≡ option_map new (rela_symbol before n i)

-- an equal symbol stands at each new index
module _ (before after : Object) (s : ℕ) (new : ℕ → ℕ)
    (symbols : (i : ℕ) → i < length (syms_of (items_at before s 0))
    → symbol_at after s (new i) ≡ symbol_at before s i) where
  found_alike : (r : Option ElfError) (found : Option ℕ)
      → ((i : ℕ) → found ≡ Some i → i < length (syms_of (items_at before s 0)))
      → FoundAlike before after s (answered r found) (answered r (option_map new found))
  found_alike (Some e) found within = refl
  found_alike None None within = tt
  found_alike None (Some i) within = sym (symbols i (within i refl))

  pub looks_up : lend_refusal after kinds.Sym s 0 ≡ lend_refusal before kinds.Sym s 0
      → (name : List ℕ) → position (is_name name) (listed_names after s)
      ≡ option_map new (position (is_name name) (listed_names before s))
      → LooksUpAlike before after s name
  unfolding find_linear_answer
  looks_up lent name found =
      let stated : answered (lend_refusal after kinds.Sym s 0)
      (position (is_name name) (listed_names after s))
      ≡ answered (lend_refusal before kinds.Sym s 0)
      (option_map new (position (is_name name) (listed_names before s))) =
      ap (λ (r : Option ElfError). answered r (position (is_name name) (listed_names after s)))
      lent
      ∙ ap (λ (f : Option ℕ). answered (lend_refusal before kinds.Sym s 0) f) found in
      subst (λ (a : Result (Option ℕ) ElfError). FoundAlike before after s
      (answered (lend_refusal before kinds.Sym s 0)
      (position (is_name name) (listed_names before s))) a) (sym stated)
      (found_alike (lend_refusal before kinds.Sym s 0)
      (position (is_name name) (listed_names before s))
      (λ i there. omega (
        arith,
        (position-Some (is_name name) (listed_names before s) i None there).0,
        names_long before s,
      )))

  named : (x : Option ℕ) → NamesAlike before after s x (option_map new x)
  named None = tt
  named (Some i) = λ below. sym (symbols i below)

  -- a relocation names the symbol at the new index
  pub still_named : (x y : Option ℕ) → y ≡ option_map new x → NamesAlike before after s x y
  still_named x y is = subst (λ (z : Option ℕ). NamesAlike before after s x z) (sym is) (named x)

pub lookup_kept : (before after : Object) (s : ℕ) (new : ℕ → ℕ)
    → IsRenumbered before after s new → RehashKeepsLookup before after s
lookup_kept before after s new is = record {
  lookups = λ name. looks_up before after s new is.symbols is.lent name (is.found name);
  rels = λ n i stype link. still_named before after s new is.symbols (rel_symbol before n i)
      (rel_symbol after n i) (is.rels n i stype link);
  relas = λ n i stype link. still_named before after s new is.symbols (rela_symbol before n i)
      (rela_symbol after n i) (is.relas n i stype link);
}

-- ---- Tables that stay

-- the strings, the symbols of section s and all relocations are the same
pub record SameTables (o p : Object) (s : ℕ) : Type 0 where
  pub strings : SameStrings o p
  pub symbols : section_at p s ≡ section_at o s
  pub rels : (n : ℕ) → (header_at o n).stype ≡ SHT_REL → section_at p n ≡ section_at o n
  pub relas : (n : ℕ) → (header_at o n).stype ≡ SHT_RELA → section_at p n ≡ section_at o n

same_map : (x : Option ℕ) → x ≡ option_map (λ (i : ℕ). i) x
same_map None = refl
same_map (Some i) = refl

-- nothing is renumbered
pub not_renumbered : (o : Object) (s : ℕ) → IsRenumbered o o s (λ i. i)
not_renumbered o s = record {
  lent = refl;
  found = λ name. same_map (position (is_name name) (listed_names o s));
  symbols = λ i below. refl;
  rels = λ n i stype link. same_map (rel_symbol o n i);
  relas = λ n i stype link. same_map (rela_symbol o n i);
}

-- the same items and names, of section s and of the relocations that link to it
pub record SameItems (o p : Object) (s : ℕ) : Type 0 where
  pub lent : lend_refusal p kinds.Sym s 0 ≡ lend_refusal o kinds.Sym s 0
  pub items : items_at p s 0 ≡ items_at o s 0
  pub names : listed_names p s ≡ listed_names o s
  pub rels : (n : ℕ) → (header_at o n).stype ≡ SHT_REL → (header_at o n).link ≡ s
      → items_at p n 0 ≡ items_at o n 0
  pub relas : (n : ℕ) → (header_at o n).stype ≡ SHT_RELA → (header_at o n).link ≡ s
      → items_at p n 0 ≡ items_at o n 0

module _ (o p : Object) (s : ℕ) (same : SameTables o p s) where
  at : (n : ℕ) → section_at p n ≡ section_at o n → IsSameAt o p n
  at n section = record {
    header = same.strings.header;
    count = same.strings.count;
    section = section;
  }

  pub tables_items : SameItems o p s
  tables_items =
      let items = same_items o p s (at s same.symbols) in
      record {
        lent = same_lend o p s (at s same.symbols) kinds.Sym;
        items = items;
        names = names_same o p same.strings s items;
        rels = λ n type link. same_items o p n (at n (same.rels n type));
        relas = λ n type link. same_items o p n (at n (same.relas n type));
      }

-- the symbol of a relocation among items
abbrev pub rel_in : Items → ℕ → Option ℕ
rel_in items i = elim (slice_get (rels_of items) i) [ None ↦ None | Some r ↦ Some r.sym ]

abbrev pub rela_in : Items → ℕ → Option ℕ
rela_in items i = elim (slice_get (relas_of items) i) [ None ↦ None | Some r ↦ Some r.sym ]

module _ (before o p : Object) (s : ℕ) (new : ℕ → ℕ) (is : IsRenumbered before o s new)
    (stype : (n : ℕ) → (header_at o n).stype ≡ (header_at before n).stype)
    (links : (n : ℕ) → (header_at o n).link ≡ (header_at before n).link)
    (same : SameItems o p s) where
  pub still_renumbered : IsRenumbered before p s new
  still_renumbered = record {
    lent = same.lent ∙ is.lent;
    found = λ name. ap (position (is_name name)) same.names ∙ is.found name;
    symbols = λ i below. ap (λ (l : Items). slice_get (syms_of l) (new i)) same.items
        ∙ is.symbols i below;
    rels = λ n i type link. ap (λ (l : Items). rel_in l i)
        (same.rels n (stype n ∙ type) (links n ∙ link)) ∙ is.rels n i type link;
    relas = λ n i type link. ap (λ (l : Items). rela_in l i)
        (same.relas n (stype n ∙ type) (links n ∙ link)) ∙ is.relas n i type link;
  }
