-- What a lookup by a hash section needs covers each of its steps.
use Rattle.std.proofs.Common.{◌≡◌, ℕ, zero, suc, ◌<◌, Bool, true, false, not, cond, List, [], ◌∷◌, length, get_or, None, refl, sym, ap, ◌∙◌, subst, arith}
use Rattle.std.specs.Prelude.{◌==◌, IsTrue, Contains, is_none, filter, if◌then◌else◌}
use Rattle.std.specs.List.{list_any}
use Rattle.std.proofs.lemmas.Bool.{eqb-true}
use Rattle.std.proofs.lemmas.List.Elements.{Contains-append_left, Contains-append_right}
use Rattle.std.proofs.lemmas.List.Folds.{Any-from_list_any}
use Rattle.elf_types.specs.declared.records.Kind.TheVariants as kinds
use Rattle.hash_model.specs.elf_object.Object.{Object, piece_at}
use Rattle.hash_model.specs.elf_object.Answers.{lend_refusal}
use Rattle.hash_model.specs.elf_object.Due.{when_piece_clean, with_others}
use Rattle.symbol_lookup.specs.declared.walks.Links.{Links}
use Rattle.symbol_lookup.specs.declared.walks.Links.TheVariants as links
use Rattle.symbol_lookup.specs.Lookups.{Needs, link_of, linear_needs, hash_homes, sysv_needs, gnu_needs}
use Rattle.symbol_lookup.specs.Searches.{HasWords, HasBytes, HasLinks, HasTable, IsSysv, IsGnu, IsHashReadable, AreLinks}
use Rattle.symbol_lookup.proofs.LinearLaws.{linear_has}

-- ---- Lists of homes

kept : (test : ℕ → Bool) (l : List ℕ) (j k : ℕ) → test k ≡ true → j < length l → get_or l j k ≡ k → Contains (filter test l) k
kept test [] j k passes below at = absurd (omega arith)
kept test (x ∷ l) zero k passes below at =
    subst (λ (b : Bool). Contains (cond b (x ∷ filter test l) (filter test l)) k) (sym (ap test at ∙ passes)) (0, omega arith, at)
kept test (x ∷ l) (suc j) k passes below at = later (test x) (kept test l j k passes (omega arith) at)
  where
    later : (b : Bool) → Contains (filter test l) k → Contains (cond b (x ∷ filter test l) (filter test l)) k
    later false there = there
    later true there = (suc there.0, omega (arith, there.1), there.2)

in_first : (a b : List ℕ) (k : ℕ) → Contains a k → Contains (with_others a b) k
unfolding with_others
in_first a b k there = Contains-append_left a _ k there

in_other : (a b : List ℕ) (k : ℕ) → Contains b k → Contains (with_others a b) k
unfolding with_others
in_other a b k there = by_any (list_any (λ t. t == k) a) refl
  where
    by_any : (t : Bool) → list_any (λ t. t == k) a ≡ t → Contains (with_others a b) k
    by_any true known =
        let found = Any-from_list_any (λ t. t == k) a known in
        let same : found.1 ≡ k = eqb-true found.1 k found.4 in
        in_first a b k (subst (λ (n : ℕ). Contains a n) same (found.0, found.2, found.3))
    by_any false known = Contains-append_right a _ k (kept (λ s. not (list_any (λ t. t == s) a)) b there.0 k (ap not known) there.1 there.2)

alone : (clean : Bool) (s : ℕ) → IsTrue clean → Contains (if clean then s ∷ [] else []) s
alone true s is = (0, omega arith, refl)
alone false s is = cc

module _ (o : Object) (h : ℕ) where
  hash_home : IsTrue (is_none (piece_at o h 0).own) → Contains (hash_homes o h) h
  unfolding hash_homes when_piece_clean
  hash_home clean = in_first _ _ h (alone (is_none (piece_at o h 0).own) h clean)

  linked_home : (k : ℕ) → Contains (linear_needs o (link_of o h)).homes k → Contains (hash_homes o h) k
  unfolding hash_homes linear_needs
  linked_home k there = in_other _ _ k there

  pub sysv_words : HasWords (sysv_needs o h) o h
  unfolding sysv_needs
  sysv_words = record { table = (0, omega arith, refl); home = hash_home; chain = refl }

  pub sysv_table : HasTable (sysv_needs o h) o (link_of o h)
  unfolding sysv_needs
  sysv_table = record {
    table = (1, omega arith, refl);
    home = λ clean. linked_home (link_of o h) ((linear_has o (link_of o h)).home clean);
    strings = λ clean. linked_home (link_of o (link_of o h)) ((linear_has o (link_of o h)).strings clean);
  }

  pub gnu_bytes : HasBytes (gnu_needs o h) o h
  unfolding gnu_needs
  gnu_bytes = record { home = hash_home; chain = refl }

  pub gnu_table : HasTable (gnu_needs o h) o (link_of o h)
  unfolding gnu_needs
  gnu_table = record {
    table = (0, omega arith, refl);
    home = λ clean. linked_home (link_of o h) ((linear_has o (link_of o h)).home clean);
    strings = λ clean. linked_home (link_of o (link_of o h)) ((linear_has o (link_of o h)).strings clean);
  }

-- ---- The links of a walk

pub sysv_links : (n : Needs) (o : Object) (h : ℕ) (l : Links) → IsSysv l → HasWords n o h → HasLinks n o h l
sysv_links n o h (links.Sysv nbucket nchain) is has = has
sysv_links n o h (links.Gnu symoffset chains) is has = absurd is

pub sysv_there : (o : Object) (h : ℕ) (l : Links) → IsSysv l → lend_refusal o kinds.Word h 0 ≡ None → IsHashReadable o h l
sysv_there o h (links.Sysv nbucket nchain) is passed = passed
sysv_there o h (links.Gnu symoffset chains) is passed = absurd is

pub sysv_few : (l : Links) → IsSysv l → AreLinks l
sysv_few (links.Sysv nbucket nchain) is = tt
sysv_few (links.Gnu symoffset chains) is = absurd is

pub gnu_links : (n : Needs) (o : Object) (h : ℕ) (l : Links) → IsGnu l → HasBytes n o h → HasLinks n o h l
gnu_links n o h (links.Sysv nbucket nchain) is has = absurd is
gnu_links n o h (links.Gnu symoffset chains) is has = has

pub gnu_there : (o : Object) (h : ℕ) (l : Links) → IsGnu l → lend_refusal o kinds.Bytes h 0 ≡ None → IsHashReadable o h l
gnu_there o h (links.Sysv nbucket nchain) is passed = absurd is
gnu_there o h (links.Gnu symoffset chains) is passed = passed
