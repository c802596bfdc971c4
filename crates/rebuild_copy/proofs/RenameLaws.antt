-- Sections that get other names, by their marks and by the index of their names.
use Rattle.std.proofs.Common.{◌≡◌, ◌&&◌, ◌||◌, ◌==◌, ◌<◌, not, ℕ, Bool, true, List, length, get_or, Option, Some, Result, Ok, Err, sym, ap, ◌∙◌, subst, refl}
use Rattle.std.specs.Prelude.{All, IfSome, IfErr, OnOk, slice_set}
use Rattle.std.specs.Str.{bytes_eq}
use Rattle.std.proofs.Math.ListN.{replicate}
use Rattle.elf_types.specs.declared.errors.ElfError.TheVariants.{Memory}
use Rattle.elf_object.specs.Object.{Object}
use Rattle.rebuild_model.specs.Copied.{names_in, with_name, CopyFault as StatedFault}
use Rattle.rebuild_select.specs.declared.sought.sections.NameIndex.{NameIndex}
use Rattle.rebuild_select.specs.Sought.Names.{is_sought}
use Rattle.rebuild_select.specs.Sought.Rows.{stands_under}
use Rattle.rebuild_changes.specs.declared.changes.NameBytes.{NameBytes}
use Rattle.rebuild_changes.specs.declared.faults.CopyFault.{CopyFault}
use Rattle.rebuild_changes.specs.declared.faults.CopyFault.TheVariants as faults
use Rattle.rebuild_changes.specs.Stated.{bytes_pair, stated_copy_fault, IsWithoutDeviceFault}
use Rattle.rebuild_edits.specs.Edits.Names.{mark_of, new_name, names_now}
use Rattle.rebuild_edits.proofs.edits.FindLaws.{names_unmarked}
use Rattle.rebuild_edits.proofs.edits.RenameLaws.{Renamed, renamed_at, renamed_end, renamed_none, no_mark, marked_names}
use Rattle.rebuild_copy.specs.Steps.{known}
use Rattle.rebuild_copy.specs.Indexes.{IsIndexOf, FindsNamed, RenamesTo}
use Rattle.rebuild_copy.proofs.IndexLaws.{named_there, names_long, moved_index}

-- ---- Want of memory

abbrev Wants : Result (Unit {0}) CopyFault → Type 0
Wants r = IfErr r (λ fault. fault ≡ faults.Strip Memory)

pub want_unread : (r : Result (Unit {0}) CopyFault) → Wants r → IsWithoutDeviceFault r
want_unread (Ok x) want = tt
want_unread (Err f) want =
    subst (λ (g : CopyFault). IsWithoutDeviceFault {T = Unit {0}} (Err g)) (sym want) tt

-- ---- A section that is taken from under a name and put under another

pub moved_both : (old mid new : NameIndex) (name bytes a b : List ℕ) (s : ℕ) → a ≡ name
    → b ≡ bytes → mid.sought ≡ old.sought
    → ((q : List ℕ) (t : ℕ) → stands_under mid q t
    ≡ (not (bytes_eq a q && s == t) && stands_under old q t))
    → ((q : List ℕ) (t : ℕ) → is_sought mid.sought q ≡ true → stands_under new q t
    ≡ ((bytes_eq b q && s == t) || stands_under mid q t))
    → (q : List ℕ) (t : ℕ) → is_sought old.sought q ≡ true → stands_under new q t
    ≡ ((bytes_eq bytes q && s == t)
    || (not (bytes_eq name q && s == t) && stands_under old q t))
moved_both old mid new name bytes a b s first second same removed put q t sought =
    put q t (subst (λ (l : List (List ℕ)). is_sought l q ≡ true) (sym same) sought)
    ∙ ap (λ (t' : Bool). (bytes_eq b q && s == t) || t') (removed q t)
    ∙ ap (λ (l : List ℕ). (bytes_eq l q && s == t)
    || (not (bytes_eq a q && s == t) && stands_under old q t)) second
    ∙ ap (λ (l : List ℕ). (bytes_eq bytes q && s == t)
    || (not (bytes_eq l q && s == t) && stands_under old q t)) first

-- ---- One change

module _ (p : Object) (renames : List NameBytes) (change : NameBytes) (marks : List ℕ) where
  abbrev answer : Result (List (Option (List ℕ))) StatedFault
  answer = with_name (names_now p marks renames) (bytes_pair change)

  pub renamed_to : (after : List ℕ) (s mark : ℕ) (old new : NameIndex)
      (r : Result (Unit {0}) CopyFault) → length marks ≡ length p.sections
      → new_name renames mark ≡ Some change.bytes → IsIndexOf old (names_now p marks renames)
      → FindsNamed (names_now p marks renames) change.name (Ok s) → new.sought ≡ old.sought
      → OnOk r (after ≡ slice_set marks s mark)
      → OnOk r ((q : List ℕ) (t : ℕ) → is_sought old.sought q ≡ true → stands_under new q t
      ≡ ((bytes_eq change.bytes q && s == t)
      || (not (bytes_eq change.name q && s == t) && stands_under old q t)))
      → Wants r → RenamesTo p renames answer r after new
  renamed_to after s mark old new (Ok x) long is index found same set moved want =
      let there = named_there p marks renames change.name s found.here in
      let named = renamed_at renames change (known p) (known p) marks s mark after long there is
      set (found.finds p) in
      record {
        finds = record {
          object = named.object;
          told = named.told;
          unread = tt;
          found = named.found;
        };
        indexed = subst (λ (l : List (Option (List ℕ))). IsIndexOf new l)
            (sym (ap (λ (l : List ℕ). names_now p l renames) set
            ∙ marked_names p marks renames s mark change.bytes long there is))
            (moved_index old new (names_now p marks renames) change.name change.bytes s same
            index found.here (names_long p marks renames s there) moved);
      }
  renamed_to after s mark old new (Err f) long is index found same set moved want = record {
    finds = record {
      object = refl;
      told = refl;
      unread = want_unread (Err f) want;
      found = λ t.
          subst (λ (g : CopyFault). IfSome (stated_copy_fault g) (λ d. answer ≡ Err d)) (sym want) tt;
    };
    indexed = tt;
  }

  pub renamed_not : (f : CopyFault) (index : NameIndex)
      → FindsNamed (names_now p marks renames) change.name (Err f)
      → RenamesTo p renames answer (Err f) marks index
  renamed_not f index found = record {
    finds = renamed_end renames change (known p) (known p) marks f (found.finds p);
    indexed = tt;
  }

-- ---- One after another

-- the marks and the index after so many changes
pub record FilledTo (renames : List NameBytes) (i : ℕ) (p : Object) (marks : List ℕ)
    (index : NameIndex) : Type 0 where
  pub renamed : Renamed renames i (known p) (known p) marks
  pub indexed : IsIndexOf index (names_now p marks renames)

pub filled_none : (renames : List NameBytes) (p : Object) (marks : List ℕ) (index : NameIndex)
    → marks ≡ replicate (length p.sections) 0 → IsIndexOf index (names_in p)
    → FilledTo renames 0 p marks index
filled_none renames p marks index zeros is = record {
  renamed = renamed_none renames (known p) marks zeros;
  indexed = subst (λ (l : List (Option (List ℕ))). IsIndexOf index l)
      (sym (names_unmarked p marks renames (λ k.
      ap (λ (l : List ℕ). mark_of l k) zeros ∙ no_mark (length p.sections) k))) is;
}

-- what is looked for of each is looked for of one
pub sought_at : (sought names : List (List ℕ)) (xs : List NameBytes) (i : ℕ) (x : NameBytes)
    → sought ≡ names → i < length xs → x ≡ get_or xs i x
    → All (λ n. is_sought names n.name ≡ true) xs → is_sought sought x.name ≡ true
sought_at sought names xs i x same below is all =
    ap (λ (l : List (List ℕ)). is_sought l x.name) same
    ∙ ap (λ (y : NameBytes). is_sought names y.name) is
    ∙ all i x below
