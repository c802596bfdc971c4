-- The plan of a write by the ranks of the parts, as elf_layout sorts them.
use Rattle.std.proofs.Common.{◌≡◌, ℕ, suc, ◌+◌, ◌<◌, Bool, true, false, ◌&&◌, List, [], ◌∷◌, length, get_or, refl, sym, ap, ◌∙◌, subst, arith}
use Rattle.std.specs.Prelude.{nat_le, nat_lt, if◌then◌else◌, map, cond}
use Rattle.std.specs.List.{filter, enumerate_from, AllByRecursion}
use Rattle.std.proofs.lemmas.Bool.{ltb-true}
use Rattle.elf_object.specs.elf_layout.declared.parts.PartAt.{PartAt}
use Rattle.elf_object.specs.elf_layout.Meeting.{has_bytes, inserted_by, sorted_by, ranked_from, ranks_by_position}
use Rattle.elf_object.specs.Blocks.{Block}
use Rattle.elf_object.specs.Object.{Object}
use Rattle.elf_object.specs.Open.{no_block}
use Rattle.elf_object.specs.Layout.{placed_parts, placed}
use Rattle.elf_object.specs.Image.{part_blocks}
use Rattle.law_object.proofs.ImageLaws.{placed-dirty}
use Rattle.law_object.proofs.StandLaws.{IsBlockOf, AreBlocksOf, placed_blocks}
use Rattle.law_object.specs.Writing.Plan.{block_has_bytes, in_order, plan, block_of_rank}
use Rattle.law_object.proofs.writing.SortLaws.{each_sorted}
use Rattle.law_object.specs.Writing.Writing.{PlanByRank}

-- ---- Sorting what is looked up

map_inserted : {X Y : Type 0} (f : X → Y) (key : X → ℕ) (other : Y → ℕ) (x : X) (ys : List X) → other (f x) ≡ key x → AllByRecursion (λ y. other (f y) ≡ key y) ys → map f (inserted_by key x ys) ≡ inserted_by other (f x) (map f ys)
map_inserted f key other x [] here each = refl
map_inserted {X} {Y} f key other x (y ∷ ys) here each =
    by_test (nat_le (key x) (key y)) (map_inserted f key other x ys here each.1)
    ∙ ap (λ (k : ℕ). if nat_le k (key y) then f x ∷ f y ∷ map f ys else f y ∷ inserted_by other (f x) (map f ys)) (sym here)
    ∙ ap (λ (k : ℕ). if nat_le (other (f x)) k then f x ∷ f y ∷ map f ys else f y ∷ inserted_by other (f x) (map f ys)) (sym each.0)
  where
    by_test : (b : Bool) → map f (inserted_by key x ys) ≡ inserted_by other (f x) (map f ys) → map f (if b then x ∷ y ∷ ys else y ∷ inserted_by key x ys) ≡ (if b then f x ∷ f y ∷ map f ys else f y ∷ inserted_by other (f x) (map f ys))
    by_test true rest = refl
    by_test false rest = ap (λ (l : List Y). f y ∷ l) rest

map_sorted : {X Y : Type 0} (f : X → Y) (key : X → ℕ) (other : Y → ℕ) (xs : List X) → AllByRecursion (λ x. other (f x) ≡ key x) xs → map f (sorted_by key xs) ≡ sorted_by other (map f xs)
map_sorted f key other [] each = refl
map_sorted f key other (x ∷ xs) each =
    map_inserted f key other x (sorted_by key xs) each.0 (each_sorted key (λ y. other (f y) ≡ key y) xs each.1)
    ∙ ap (inserted_by other (f x)) (map_sorted f key other xs each.1)

-- ---- Blocks and their parts

pub same_filled : (b : Block) (p : PartAt) → IsBlockOf b p → has_bytes p ≡ block_has_bytes b
unfolding has_bytes
same_filled b p of = by_test p.filled of.len
  where
    by_test : (f : Bool) → length b.bytes ≡ (if f then p.len else 0) → (f && nat_lt 0 p.len) ≡ nat_lt 0 (length b.bytes)
    by_test true len = ap (nat_lt 0) (sym len)
    by_test false len = ap (nat_lt 0) (sym len)

-- the blocks of the parts that are not empty, looked up by rank
ranked_blocks : (g : ℕ → Block) (n : ℕ) (bs : List Block) (ps : List PartAt) → AreBlocksOf bs ps → ((i : ℕ) → i < length bs → g (n + i) ≡ get_or bs i no_block) → map (λ x. g x.0) (filter (λ x. has_bytes x.1) (enumerate_from n ps)) ≡ filter block_has_bytes bs
unfolding AreBlocksOf
ranked_blocks g n [] [] are at = refl
ranked_blocks g n [] (p ∷ ps) are at = absurd are
ranked_blocks g n (b ∷ bs) [] are at = absurd are
ranked_blocks g n (b ∷ bs) (p ∷ ps) are at =
    let start : n + 0 ≡ n = omega arith in
    let here : g n ≡ b = ap g (sym start) ∙ at 0 (omega arith) in
    let rest = ranked_blocks g (n + 1) bs ps are.1 (λ i h. let next : n + 1 + i ≡ n + suc i = omega arith in ap g next ∙ at (suc i) (omega arith)) in
    ap (λ (t : Bool). map (λ x. g x.0) (cond t ((n, p) ∷ filter (λ x. has_bytes x.1) (enumerate_from (n + 1) ps)) (filter (λ x. has_bytes x.1) (enumerate_from (n + 1) ps)))) (same_filled b p are.0)
    ∙ by_test (block_has_bytes b) here rest
  where
    by_test : (t : Bool) → g n ≡ b → map (λ x. g x.0) (filter (λ x. has_bytes x.1) (enumerate_from (n + 1) ps)) ≡ filter block_has_bytes bs → map (λ x. g x.0) (cond t ((n, p) ∷ filter (λ x. has_bytes x.1) (enumerate_from (n + 1) ps)) (filter (λ x. has_bytes x.1) (enumerate_from (n + 1) ps))) ≡ cond t (b ∷ filter block_has_bytes bs) (filter block_has_bytes bs)
    by_test true here rest = ap (λ (c : Block). c ∷ map (λ x. g x.0) (filter (λ x. has_bytes x.1) (enumerate_from (n + 1) ps))) here ∙ ap (λ (l : List Block). b ∷ l) rest
    by_test false here rest = rest

-- each stands where its part does
ranked_places : (g : ℕ → Block) (n : ℕ) (bs : List Block) (ps : List PartAt) → AreBlocksOf bs ps → ((i : ℕ) → i < length bs → g (n + i) ≡ get_or bs i no_block) → AllByRecursion (λ x. (g x.0).at ≡ x.1.at) (filter (λ x. has_bytes x.1) (enumerate_from n ps))
unfolding AreBlocksOf
ranked_places g n [] [] are at = tt
ranked_places g n [] (p ∷ ps) are at = absurd are
ranked_places g n (b ∷ bs) [] are at = absurd are
ranked_places g n (b ∷ bs) (p ∷ ps) are at =
    let start : n + 0 ≡ n = omega arith in
    let here : g n ≡ b = ap g (sym start) ∙ at 0 (omega arith) in
    let rest = ranked_places g (n + 1) bs ps are.1 (λ i h. let next : n + 1 + i ≡ n + suc i = omega arith in ap g next ∙ at (suc i) (omega arith)) in
    by_test (has_bytes p) refl here rest
  where
    by_test : (t : Bool) → has_bytes p ≡ t → g n ≡ b → AllByRecursion (λ x. (g x.0).at ≡ x.1.at) (filter (λ x. has_bytes x.1) (enumerate_from (n + 1) ps)) → AllByRecursion (λ x. (g x.0).at ≡ x.1.at) (cond t ((n, p) ∷ filter (λ x. has_bytes x.1) (enumerate_from (n + 1) ps)) (filter (λ x. has_bytes x.1) (enumerate_from (n + 1) ps)))
    by_test true e here rest = (ap (λ (c : Block). c.at) here ∙ are.0.at (ltb-true 0 (length b.bytes) (sym (same_filled b p are.0) ∙ e)), rest)
    by_test false e here rest = rest

-- ---- The law

map_map : {X Y Z : Type 0} (g : Y → Z) (f : X → Y) (l : List X) → map g (map f l) ≡ map (λ x. g (f x)) l
map_map g f [] = refl
map_map {X} {Y} {Z} g f (x ∷ l) = ap (λ (m : List Z). g (f x) ∷ m) (map_map g f l)

blocks_by_rank : (bs : List Block) (ps : List PartAt) → AreBlocksOf bs ps → in_order bs ≡ map (λ rank. get_or bs rank no_block) (ranks_by_position ps)
unfolding in_order ranks_by_position ranked_from
blocks_by_rank bs ps are =
    let g : ℕ → Block = λ rank. get_or bs rank no_block in
    let ranked : List (ℕ × PartAt) = filter (λ x. has_bytes x.1) (enumerate_from 0 ps) in
    let at : (i : ℕ) → i < length bs → get_or bs (0 + i) no_block ≡ get_or bs i no_block = λ i h. let start : 0 + i ≡ i = omega arith in ap (λ (k : ℕ). get_or bs k no_block) start in
    let places = ranked_places g 0 bs ps are at in
    sym (map_map g (λ x. x.0) (sorted_by (λ x. x.1.at) ranked)
    ∙ map_sorted (λ x. get_or bs x.0 no_block) (λ x. x.1.at) (λ b. b.at) ranked places
    ∙ ap (sorted_by (λ b. b.at)) (ranked_blocks g 0 bs ps are at))

pub plan_by_rank : (o : Object) → PlanByRank o
unfolding plan block_of_rank placed_parts
plan_by_rank o ready =
    let are = placed_blocks o ready.object.pad in
    blocks_by_rank (part_blocks (placed o)) (placed_parts o)
    (subst (λ (q : Object). AreBlocksOf (part_blocks q) (placed_parts o)) (sym (placed-dirty o ready.dirty)) are)
