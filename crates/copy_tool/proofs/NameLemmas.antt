-- The changes of words: names, and the lists of each kind.
use Rattle.std.proofs.Common.{◌≡◌, ◌+◌, ◌<◌, ◌++◌, ◌∷◌, ℕ, Bool, true, false, List, [], length, map, take, get_or, Some, None, Result, Ok, Err, IfErr, IfOk, IfSome, OnOk, if◌then◌else◌, refl, sym, ap, ◌∙◌, append_assoc}
use Rattle.std.specs.List.{list_all}
use Rattle.std.proofs.lemmas.List.{map-append, map_more}
use Rattle.std.proofs.lemmas.List.Folds.{list_all-map}
use Rattle.rebuild_changes.specs.declared.options.CopyChanges.{CopyChanges}
use Rattle.rebuild_changes.specs.declared.options.NamedFile.{NamedFile}
use Rattle.rebuild_changes.specs.declared.options.Renaming.{Renaming}
use Rattle.rebuild_changes.specs.Names.{is_section_name}
use Rattle.rebuild_changes.specs.Names.{HasNames}
use Rattle.tool_output.specs.declared.stops.Stop.{Stop}
use Rattle.tool_output.specs.declared.stops.Stop.TheVariants.{Memory}
use Rattle.rebuild_files.specs.elfkit_outcomes.Copy.{changes_with}
use Rattle.rebuild_changes.specs.declared.changes.NameBits.{NameBits}
use Rattle.rebuild_changes.specs.declared.changes.NameBytes.{NameBytes}
use Rattle.rebuild_changes.specs.Stated.{bytes_pair, bits_pair, stated_changes}
use Rattle.copy_tool.specs.Files.{named_bytes, pairs, byte_names, file_names, list_if_all_found, seen_in}

-- ---- Lists, one item more

pub mapped_more : {X Y Z : Type 0} (g : X → Z) (h : Y → Z) (list : List X) (x : X) (ys : List Y)
    (i : ℕ) (y : Y) → i < length ys → y ≡ get_or ys i y → g x ≡ h y
    → map g list ≡ map h (take i ys) → map g (list ++ x ∷ []) ≡ map h (take (i + 1) ys)
mapped_more {X} {Y} {Z} g h list x ys i y lt item same so_far =
    map-append g list (x ∷ [])
    ∙ ap (λ (l : List Z). l ++ g x ∷ []) so_far
    ∙ ap (λ (z : Z). map h (take i ys) ++ z ∷ []) (same ∙ ap h item)
    ∙ sym (map_more h ys i y lt)

-- names behind others
pub names_more : (before now next : List (List ℕ)) (list : List NamedFile) (i : ℕ)
    (f : NamedFile) → i < length list → f ≡ get_or list i f → next ≡ now ++ f.name ∷ []
    → now ≡ before ++ file_names (take i list) → next ≡ before ++ file_names (take (i + 1) list)
names_more before now next list i f lt item is so_far =
    is
    ∙ ap (λ (l : List (List ℕ)). l ++ f.name ∷ []) so_far
    ∙ append_assoc before (file_names (take i list)) (f.name ∷ [])
    ∙ ap (λ (l : List (List ℕ)). before ++ l)
    (ap (λ (n : List ℕ). file_names (take i list) ++ n ∷ [])
    (ap (λ (x : NamedFile). x.name) item)
    ∙ sym (map_more (λ (x : NamedFile). x.name) list i f lt))

-- ---- What was filled

pub filled_true : {A : Type 0} (there : Bool) (x : A) → there ≡ true
    → list_if_all_found (Ok there) x ≡ Ok (Some x)
filled_true true x is = refl
filled_true false x is = cc

pub filled_false : {A : Type 0} (there : Bool) (x : A) → there ≡ false
    → list_if_all_found (Ok there) x ≡ Ok None
filled_false true x is = cc
filled_false false x is = refl

-- the list, where all are there
pub all_filled : (there : Bool) (list : List NameBytes)
    → list_if_all_found (Ok there) (pairs list)
    ≡ seen_in pairs (Ok (if there then Some list else None))
all_filled true list = refl
all_filled false list = refl

pub all_named : (there : Bool) (list : List NameBytes) (names : List (List ℕ))
    → (there ≡ true → byte_names list ≡ names)
    → IfSome (if there then Some list else None) (λ l. byte_names l ≡ names)
all_named true list names is = is refl
all_named false list names is = tt

pub pairs_more : (list : List NameBytes) (name bytes : List ℕ)
    → pairs (list ++ named_bytes name bytes ∷ []) ≡ pairs list ++ (name, bytes) ∷ []
pairs_more list name bytes =
    map-append bytes_pair list (named_bytes name bytes ∷ [])

pub names_one_more : (list : List NameBytes) (name bytes : List ℕ)
    → byte_names (list ++ named_bytes name bytes ∷ []) ≡ byte_names list ++ name ∷ []
names_one_more list name bytes =
    map-append (λ (n : NameBytes). n.name) list (named_bytes name bytes ∷ [])

-- bytes that were put behind others
module _ (list next : List NameBytes) (name bytes : List ℕ) where
  pub put_filled : (r : Result Bool Stop) → IfOk r (λ there. there ≡ true)
      → OnOk r (next ≡ list ++ named_bytes name bytes ∷ [])
      → OnOk (list_if_all_found r (pairs next))
      (list_if_all_found r (pairs next) ≡ Ok (Some (pairs list ++ (name, bytes) ∷ [])))
  put_filled (Ok true) there is =
      ap (λ (l : List (List ℕ × List ℕ)). Ok (Some l))
      (ap (λ (l : List NameBytes). pairs l) is ∙ pairs_more list name bytes)
  put_filled (Ok false) there is = cc
  put_filled (Err stop) there is = tt

  pub put_stops : (r : Result Bool Stop) → IfErr r (λ stop. stop ≡ Memory)
      → IfErr (list_if_all_found r (pairs next)) (λ stop. stop ≡ Memory)
  put_stops (Ok true) only = tt
  put_stops (Ok false) only = tt
  put_stops (Err stop) only = only

  pub put_names : (r : Result Bool Stop)
      → OnOk r (next ≡ list ++ named_bytes name bytes ∷ [])
      → IfOk r (λ there. there ≡ true → byte_names next ≡ byte_names list ++ name ∷ [])
  put_names (Ok there) is =
      λ yes. ap (λ (l : List NameBytes). byte_names l) is ∙ names_one_more list name bytes
  put_names (Err stop) is = tt

-- ---- The changes

pub changes_are : (words : CopyChanges) (remove : List (List ℕ)) (update : List NameBytes)
    (rename : List NameBytes) (flags : List NameBits) (add : List NameBytes)
    → remove ≡ words.remove → pairs rename ≡ map (λ r. (r.old, r.new)) words.rename
    → map bits_pair flags ≡ map (λ f. (f.name, f.bits)) words.flags
    → stated_changes (record {
      remove = remove;
      update = update;
      rename = rename;
      flags = flags;
      add = add;
    }) ≡ changes_with words (pairs update) (pairs add)
changes_are words remove update rename flags add same_remove same_rename same_flags =
    rw (same_remove, same_rename, same_flags) refl

-- ---- No NUL byte

-- a test of what is mapped alike
pub tested_alike : {X Y Z : Type 0} (test : Z → Bool) (g : X → Z) (h : Y → Z) (xs : List X)
    (ys : List Y) → map g xs ≡ map h ys → list_all (λ y. test (h y)) ys ≡ true
    → list_all (λ x. test (g x)) xs ≡ true
tested_alike {X} {Y} {Z} test g h xs ys same all =
    sym (list_all-map test g xs) ∙ ap (λ (l : List Z). list_all test l) same
    ∙ list_all-map test h ys ∙ all

pub added_are_plain : (words : CopyChanges) (add : List NameBytes) → HasNames words
    → byte_names add ≡ file_names words.add
    → list_all (λ n. is_section_name n.name) add ≡ true
added_are_plain words add names same =
    tested_alike is_section_name (λ (n : NameBytes). n.name) (λ (n : NamedFile). n.name) add
    words.add same names.add

pub renamed_are_plain : (words : CopyChanges) (rename : List NameBytes) → HasNames words
    → pairs rename ≡ map (λ r. (r.old, r.new)) words.rename
    → list_all (λ n. is_section_name n.bytes) rename ≡ true
renamed_are_plain words rename names same =
    tested_alike (λ (p : List ℕ × List ℕ). is_section_name p.1)
    bytes_pair (λ (r : Renaming). (r.old, r.new)) rename words.rename same names.rename_new
