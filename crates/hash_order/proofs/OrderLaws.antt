-- What is planned and stored, one section after another, is the object that is stated.
use Rattle.std.proofs.Common.{◌≡◌, ◌+◌, ◌<◌, ◌≤◌, ℕ, zero, suc, Bool, true, false, not, List, length, Option, Some, None, refl, sym, ap, ◌∙◌, subst, arith}
use Rattle.std.specs.Prelude.{IsTrue, nat_lt, fold, ◌==◌, ◌&&◌, if◌then◌else◌}
use Rattle.std.specs.List.{range_with_len}
use Rattle.elf_types.specs.declared.records.Kind.{Kind}
use Rattle.elf_types.specs.declared.records.Shdr.{Shdr}
use Rattle.elf_types.specs.declared.records.Sym.{Sym}
use Rattle.elf_types.specs.declared.constants.TheConstants.{SHT_GROUP}
use Rattle.elf_xlate.specs.declared.content.Items.{Items}
use Rattle.elf_xlate.specs.declared.content.Items.TheVariants as items
use Rattle.symbol_lookup.specs.elf_object.Object.{Object, Section, section_at}
use Rattle.symbol_lookup.specs.elf_object.Answers.{items_at, syms_of}
use Rattle.symbol_lookup.specs.elf_object.Steps.{with_own, with_shdr}
use Rattle.symbol_lookup.specs.elf_object.Sections.{header_at}
use Rattle.symbol_lookup.specs.hash_model.Reordered.{kind_by_symbols, items_by_symbols, in_order, new_index, reordered, reordered_section, reorder_refusal}
use Rattle.hash_order.specs.declared.nexts.Next.{Next}
use Rattle.hash_order.specs.declared.nexts.Next.TheVariants as nexts
use Rattle.hash_order.specs.Plans.{planned_next, gets, stored, given_by, IsStatedNext, IsNoItems, IsPlan, BecomesOrdered}
use Rattle.hash_order.proofs.FollowLaws.{planned_by, planned_is, table_apart}
use Rattle.hash_order.proofs.StoreLaws.{IsSameAt, same_items, own_same, own_headers, gets_same, gets_count}

-- ---- Where the source tells its bytes

next_exact : (told : Bool) (x y : Next) → IsStatedNext told x y → IsTrue told → x ≡ y
next_exact told nexts.Stay nexts.Stay is t = refl
next_exact told (nexts.Items l) (nexts.Items m) is t = ap (λ (z : Items). nexts.Items z) (is.1 t)
next_exact told (nexts.Signature i) (nexts.Signature j) is t =
    ap (λ (z : ℕ). nexts.Signature z) is
next_exact told x y is t = absurd is

pub next_apart : (told : Bool) (x y : Next) → IsStatedNext told x y → IsNoItems y → IsNoItems x
next_apart told nexts.Stay y is apart = tt
next_apart told (nexts.Signature i) y is apart = tt
next_apart told (nexts.Items l) (nexts.Items m) is apart = apart
next_apart told (nexts.Items l) y is apart = absurd is

-- ---- Section by section

module _ (s : ℕ) (order : List ℕ) where
  abbrev section_by : Object → ℕ → Bool → Bool → Option Kind → Shdr → Items → Object
  section_by z k linked group kind h l =
      if not linked then z
      else (if group
      then (if nat_lt h.info (length order)
      then with_shdr z k (record h { info = new_index order h.info }) else z)
      else (elim kind as (λ (x : Option Kind). Object) [
        | None ↦ z
        | Some x ↦ with_own z k 0 (items_by_symbols order l)
      ]))

  section_is : (z : Object) (k : ℕ)
      → reordered_section s order z k
      ≡ section_by z k ((header_at z k).link == s)
      ((header_at z k).stype == SHT_GROUP && not (k == 0)) (kind_by_symbols (header_at z k).stype)
      (header_at z k) (items_at z k 0)
  unfolding reordered_section
  section_is z k = refl

module _ (o : Object) (s : ℕ) (order : List ℕ) (passed : reorder_refusal o s ≡ None)
    (below : s < length o.sections) where
  -- an object in which the sections from one on are as they were, but for the table's items
  record Agrees (z : Object) (k : ℕ) : Type 0 where
    header : z.header ≡ o.header
    count : length z.sections ≡ length o.sections
    headers : (m : ℕ) → k ≤ m → header_at z m ≡ header_at o m
    sections : (m : ℕ) → k ≤ m → (m ≡ s → ⊥) → section_at z m ≡ section_at o m

  -- what gets items is not the table
  other_section : (k : ℕ) (kind : Kind) → ((header_at o k).link == s) ≡ true
      → ((header_at o k).stype == SHT_GROUP && not (k == 0)) ≡ false
      → kind_by_symbols (header_at o k).stype ≡ Some kind → k ≡ s → ⊥
  other_section k kind link group by same =
      let here : IsNoItems (planned_next o s order k) =
      subst (λ (n : ℕ). IsNoItems (planned_next o s order n)) (sym same)
      (table_apart o s order passed below) in
      subst (λ (x : Next). IsNoItems x)
      (planned_is o s k order true false (Some kind) link group by) here

  signature_is : (z : Object) (k info : ℕ) (h : Shdr) → h ≡ header_at z k → (b : Bool)
      → (if b then with_shdr z k (record h { info = info }) else z)
      ≡ gets z k (if b then nexts.Signature info else nexts.Stay)
  signature_is z k info h same true =
      ap (λ (x : Shdr). with_shdr z k (record x { info = info })) same
  signature_is z k info h same false = refl

  module _ (z : Object) (k : ℕ) (agrees : Agrees z k) where
    by_tests : (linked group : Bool) (kind : Option Kind) → ((header_at o k).link == s) ≡ linked
        → ((header_at o k).stype == SHT_GROUP && not (k == 0)) ≡ group
        → kind_by_symbols (header_at o k).stype ≡ kind
        → section_by s order z k linked group kind (header_at o k) (items_at z k 0)
        ≡ gets z k (planned_by o s k order linked group kind)
    by_tests false group kind link is by = refl
    by_tests true true kind link is by =
        signature_is z k (new_index order (header_at o k).info) (header_at o k)
        (sym (agrees.headers k (omega arith))) (nat_lt (header_at o k).info (length order))
    by_tests true false None link is by = refl
    by_tests true false (Some kind) link is by =
        let same : IsSameAt o z k = record {
          header = agrees.header;
          count = agrees.count;
          section = agrees.sections k (omega arith) (other_section k kind link is by);
        } in
        ap (λ (l : Items). with_own z k 0 (items_by_symbols order l)) (same_items o z k same)

    section_gets : reordered_section s order z k ≡ gets z k (planned_next o s order k)
    section_gets =
        section_is s order z k
        ∙ ap (λ (h : Shdr). section_by s order z k (h.link == s)
        (h.stype == SHT_GROUP && not (k == 0)) (kind_by_symbols h.stype) h (items_at z k 0))
        (agrees.headers k (omega arith))
        ∙ by_tests ((header_at o k).link == s)
        ((header_at o k).stype == SHT_GROUP && not (k == 0))
        (kind_by_symbols (header_at o k).stype) refl refl refl
        ∙ ap (λ (x : Next). gets z k x) (sym (planned_is o s k order _ _ _ refl refl refl))

    agrees_more : (x : Next) → Agrees (gets z k x) (k + 1)
    agrees_more x = record {
      header = (gets_same z k (k + 1) x (λ same. absurd (omega (arith, same)))).header
          ∙ agrees.header;
      count = gets_count z k x ∙ agrees.count;
      headers = λ m from. ap (λ (c : Section). c.header)
          (gets_same z k m x (λ same. absurd (omega (arith, same, from)))).section
          ∙ agrees.headers m (omega (arith, from));
      sections = λ m from other.
          (gets_same z k m x (λ same. absurd (omega (arith, same, from)))).section
          ∙ agrees.sections m (omega (arith, from)) other;
    }

  module _ (given : ℕ → Next)
      (exact : (n : ℕ) → n < length o.sections → given n ≡ planned_next o s order n) where
    ordered : (n k : ℕ) (z : Object) → k + n ≡ length o.sections → Agrees z k
        → stored given k n z ≡ fold (reordered_section s order) z (range_with_len k n)
    unfolding stored
    ordered zero k z all agrees = refl
    ordered (suc n) k z all agrees =
        ordered n (k + 1) (gets z k (given k)) (omega (arith, all)) (agrees_more z k agrees (given k))
        ∙ ap (λ (y : Object). fold (reordered_section s order) y (range_with_len (k + 1) n))
        (ap (λ (x : Next). gets z k x) (exact k (omega (arith, all)))
        ∙ sym (section_gets z k agrees))

    begins : (symbols : List Sym) → Agrees (with_own o s 0 (items.Sym symbols)) 0
    begins symbols = record {
      header = (own_headers o s s (items.Sym symbols) below).header;
      count = (own_headers o s s (items.Sym symbols) below).count;
      headers = λ m from. (own_headers o s m (items.Sym symbols) below).section;
      sections = λ m from other. (own_same o s m (items.Sym symbols) other).section;
    }

    pub reordered_is : (symbols : List Sym)
        → symbols ≡ in_order order (syms_of (items_at o s 0))
        → stored given 0 (length o.sections) (with_own o s 0 (items.Sym symbols))
        ≡ reordered o s order
    unfolding reordered
    reordered_is symbols is =
        ordered (length o.sections) 0 (with_own o s 0 (items.Sym symbols)) (omega arith)
        (begins symbols)
        ∙ ap (λ (l : List Sym). fold (reordered_section s order) (with_own o s 0 (items.Sym l))
        (range_with_len 0 (length o.sections))) is

  -- ---- The object in the end

  pub becomes_ordered : (told : Bool) (new : Object) (symbols : List Sym) (plan : List Next)
      → length symbols ≡ length order
      → (IsTrue told → symbols ≡ in_order order (syms_of (items_at o s 0)))
      → IsPlan told o s order plan
      → new ≡ stored (given_by plan (length o.sections)) 0 (length o.sections)
      (with_own o s 0 (items.Sym symbols))
      → BecomesOrdered told o new s order
  becomes_ordered told new symbols plan count is planned_next object = record {
    symbols = symbols;
    count = count;
    given = given_by plan (length o.sections);
    each = planned_next.each;
    object = object;
    exact = λ t. object ∙ reordered_is (given_by plan (length o.sections))
        (λ n within. next_exact told _ _ (planned_next.each n within) t) symbols (is t);
  }
