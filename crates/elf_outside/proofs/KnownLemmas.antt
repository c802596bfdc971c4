-- What is known of files, by the set that keeps it.
use Rattle.std.proofs.Common.{◌≡◌, Bool, true, false, cond, List, [], refl, ap, ◌∙◌}
use Rattle.std.specs.List.{list_any}
use Rattle.std.specs.BTreeMap.{is_at}
use Rattle.std.specs.BTreeSet.{BTreeSet, contains, Updates}
use Rattle.elf_outside.specs.declared.real.open_files.Inode.{Inode}
use Rattle.elf_outside.specs.Known.{inode_cmp}

either_true : (b c : Bool) → c ≡ true → cond b true c ≡ true
either_true true c is = refl
either_true false c is = is

module _ (x y : BTreeSet Inode) (added : Inode) (updates : Updates inode_cmp x y added true) where
  pub knows_more : (inode : Inode) → contains inode_cmp x inode ≡ true
      → contains inode_cmp y inode ≡ true
  knows_more inode was =
      updates.0 inode ∙ either_true (is_at (inode_cmp added) inode) (contains inode_cmp x inode) was

  pub knows_added : contains inode_cmp y added ≡ true
  knows_added = updates.1

pub knows_none : (keys : List Inode) (inode : Inode) → keys ≡ []
    → list_any (is_at (inode_cmp inode)) keys ≡ false
knows_none keys inode none = ap (λ (l : List Inode). list_any (is_at (inode_cmp inode)) l) none
