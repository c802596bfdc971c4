-- The fields of a header, read one after the other, are those that stand at their places.
use Rattle.std.proofs.Common.{◌≡◌, ℕ, ◌+◌, ◌-◌, ◌<◌, ◌≤◌, Bool, true, false, not, ◌||◌, cond, if◌then◌else◌, eqb, ltb, List, [], ◌∷◌, length, get_or, take, drop, Result, Ok, Err, refl, sym, ap, subst, ◌∙◌, arith, inl, inr}
use Rattle.std.specs.Int.{Width, w16, w32, byte_len}
use Rattle.std.proofs.lemmas.Bool.{lt-ltb, le-ltb, cases_lt, cases_Bool}
use Rattle.std.proofs.lemmas.List.{length-drop, drop-drop, drop_more, drop_all}
use Rattle.elf_types.specs.declared.records.Class.{Class}
use Rattle.elf_types.specs.declared.records.Order.{Order}
use Rattle.line_table.specs.declared.faults.LineWhy.{LineWhy}
use Rattle.line_table.specs.declared.faults.LineWhy.TheVariants.{Cut, Version, Ops}
use Rattle.line_table.specs.declared.faults.UnitFault.{UnitFault}
use Rattle.elf_types.specs.Answers.{refused_if, first_refusal, answered, FollowsBy, ◌>>=◌}
use Rattle.line_table.specs.Reading.{byte_at, bytes_at, number, number_at}
use Rattle.line_table.specs.Header.{UnitHeader, field, signed_byte, operations_len, operations_at, operations_of, unit_header, tables_of, field_refusal, unit_header_at}
use Rattle.line_table.specs.Outcomes.{why_of}

-- a byte is there, or the bytes end before it
byte_step : {B : Type 0} (p q : ℕ) (body : List ℕ) (f : ℕ × List ℕ → Result B LineWhy) (t : Result B LineWhy) → q ≡ p + 1
    → (q ≤ length body → f (get_or body p 0, drop q body) ≡ t) → (length body < q → Err Cut ≡ t) → (byte_at (drop p body) >>= f) ≡ t
unfolding byte_at
byte_step p q body f t e good bad =
    elim (cases_lt p (length body)) [
      | inl lt ↦ rw (drop_more body p 0 lt, ← e) (good (omega arith))
      | inr le ↦ rw (drop_all p body le) (bad (omega arith))
    ]

bytes_step : {B : Type 0} (p n q : ℕ) (body : List ℕ) (f : List ℕ × List ℕ → Result B LineWhy) (t : Result B LineWhy) → q ≡ p + n → p ≤ length body
    → (q ≤ length body → f (take n (drop p body), drop q body) ≡ t) → (length body < q → Err Cut ≡ t) → (bytes_at n (drop p body) >>= f) ≡ t
unfolding bytes_at
bytes_step p n q body f t e inside good bad =
    elim (cases_lt (length body) q) [
      | inl lt ↦ let short : ltb (length (drop p body)) n ≡ true = lt-ltb _ _ (omega (arith, length-drop p body)) in rw short (bad lt)
      | inr le ↦
          let long : ltb (length (drop p body)) n ≡ false = le-ltb _ _ (omega (arith, length-drop p body)) in
          rw (long, drop-drop n p body, ← e) (good le)
    ]

number_step : {B : Type 0} (order : Order) (w : Width) (p q : ℕ) (body : List ℕ) (f : ℕ × List ℕ → Result B LineWhy) (t : Result B LineWhy) → q ≡ p + byte_len w → p ≤ length body
    → (q ≤ length body → f (field order w p body, drop q body) ≡ t) → (length body < q → Err Cut ≡ t) → (number_at order w (drop p body) >>= f) ≡ t
unfolding number_at field
number_step order w p q body f t e inside good bad =
    then_then (bytes_at (byte_len w) (drop p body)) (λ front. Ok (number order w front.0, front.1)) f
    ∙ bytes_step p (byte_len w) q body (λ front. f (number order w front.0, front.1)) t e inside good bad
  where
    then_then : {A B C : Type 0} (r : Result A LineWhy) (f : A → Result B LineWhy) (g : B → Result C LineWhy) → ((r >>= f) >>= g) ≡ (r >>= λ x. f x >>= g)
    then_then (Ok x) f g = refl
    then_then (Err e) f g = refl

-- whether a version is none of those that are read
abbrev other_version : ℕ → Bool
other_version version = ltb version 2 || ltb 4 version

-- a test alone refuses where it holds
one_refusal : {A : Type 0} (test : Bool) (why : LineWhy) (x : A) → cond test (Err why) (Ok x) ≡ answered (first_refusal (refused_if test why ∷ [])) x
one_refusal true why x = refl
one_refusal false why x = refl

-- what the causes of the fields make of a header
module _ {A : Type 0} (u : UnitHeader) (body : List ℕ) (x : A) where
  causes_short : length body < 2 → Err Cut ≡ answered (field_refusal u body) x
  unfolding field_refusal
  causes_short lt = rw (lt-ltb (length body) 2 lt) refl

  causes_version : 2 ≤ length body → other_version u.version ≡ true → Err Version ≡ answered (field_refusal u body) x
  unfolding field_refusal
  causes_version le e = rw (le-ltb (length body) 2 le, e) refl

  causes_cut : 2 ≤ length body → other_version u.version ≡ false → length body < tables_of u → Err Cut ≡ answered (field_refusal u body) x
  unfolding field_refusal
  causes_cut le e lt = rw (le-ltb (length body) 2 le, e, lt-ltb (length body) (tables_of u) lt) refl

  causes_none : 2 ≤ length body → other_version u.version ≡ false → tables_of u ≤ length body → cond (not (eqb (operations_of u.version body) 1)) (Err Ops) (Ok x) ≡ answered (field_refusal u body) x
  unfolding field_refusal
  causes_none le e long = rw (le-ltb (length body) 2 le, e, le-ltb (length body) (tables_of u) long) (one_refusal (not (eqb (operations_of u.version body) 1)) Ops x)

-- the fields behind maximum_operations_per_instruction
abbrev pub later_read : Class → Order → ℕ → ℕ → ℕ → ℕ → List ℕ → Result (UnitHeader × List ℕ) LineWhy
later_read class order version header_length minimum operations bytes = do
  default_is_stmt ← byte_at bytes
  line_base ← byte_at default_is_stmt.1
  line_range ← byte_at line_base.1
  opcode_base ← byte_at line_range.1
  counts ← bytes_at (opcode_base.0 - 1) opcode_base.1
  if not (eqb operations 1) then Err Ops else
      Ok (
        record {
          class = class;
          order = order;
          version = version;
          header_length = header_length;
          minimum_instruction_length = minimum;
          default_is_stmt = not (eqb default_is_stmt.0 0);
          line_base = signed_byte line_base.0;
          line_range = line_range.0;
          opcode_base = opcode_base.0;
          operand_counts = counts.0;
        },
        counts.1,
      )

-- all of the fields
abbrev pub fields_read : Class → Order → List ℕ → Result (UnitHeader × List ℕ) LineWhy
fields_read class order body = do
  version ← number_at order w16 body
  if ltb version.0 2 || ltb 4 version.0 then Err Version else do
    header_length ← number_at order w32 version.1
    minimum ← byte_at header_length.1
    operations ← operations_at version.0 minimum.1
    later_read class order version.0 header_length.0 minimum.0 operations.0 operations.1

-- a header whose later fields stand so many places further back
abbrev header_by : Class → Order → ℕ → ℕ → ℕ → ℕ → List ℕ → UnitHeader
header_by class order version header_length minimum more body =
    let opcode_base = get_or body (10 + more) 0 in
    record {
      class = class;
      order = order;
      version = version;
      header_length = header_length;
      minimum_instruction_length = minimum;
      default_is_stmt = not (eqb (get_or body (7 + more) 0) 0);
      line_base = signed_byte (get_or body (8 + more) 0);
      line_range = get_or body (9 + more) 0;
      opcode_base = opcode_base;
      operand_counts = take (opcode_base - 1) (drop (11 + more) body);
    }

-- the later fields, from their place on
later_step : (class : Class) (order : Order) (version header_length minimum operations more at : ℕ) (body : List ℕ) (t : Result (UnitHeader × List ℕ) LineWhy)
    → at ≡ 7 + more → at ≤ length body
    → (length body < 11 + more + (get_or body (10 + more) 0 - 1) → Err Cut ≡ t)
    → (11 + more + (get_or body (10 + more) 0 - 1) ≤ length body
    → cond (not (eqb operations 1)) (Err Ops) (Ok (header_by class order version header_length minimum more body, drop (11 + more + (get_or body (10 + more) 0 - 1)) body)) ≡ t)
    → later_read class order version header_length minimum operations (drop at body) ≡ t
later_step class order version header_length minimum operations more at body t e inside short long =
    rw e (byte_step (7 + more) (8 + more) body _ t (omega arith)
    (λ _. byte_step (8 + more) (9 + more) body _ t (omega arith)
    (λ _. byte_step (9 + more) (10 + more) body _ t (omega arith)
    (λ _. byte_step (10 + more) (11 + more) body _ t (omega arith)
    (λ le. bytes_step (11 + more) (get_or body (10 + more) 0 - 1) (11 + more + (get_or body (10 + more) 0 - 1)) body _ t refl le long short)
    (λ lt. short (omega arith)))
    (λ lt. short (omega arith)))
    (λ lt. short (omega arith)))
    (λ lt. short (omega arith)))

-- the fields of this header that stand before maximum_operations_per_instruction
module _ (class : Class) (order : Order) (body : List ℕ) where
  -- the header has a field more or not
  same_header : (more : ℕ) → operations_len (field order w16 0 body) ≡ more → unit_header class order body ≡ header_by class order (field order w16 0 body) (field order w32 2 body) (get_or body 6 0) more body
  unfolding unit_header
  same_header more e = ap (λ (m : ℕ). header_by class order (field order w16 0 body) (field order w32 2 body) (get_or body 6 0) m body) e

  same_version : (unit_header class order body).version ≡ field order w16 0 body
  unfolding unit_header
  same_version = refl

  same_tables : (more : ℕ) → operations_len (field order w16 0 body) ≡ more → tables_of (unit_header class order body) ≡ 11 + more + (get_or body (10 + more) 0 - 1)
  same_tables more e = ap tables_of (same_header more e) ∙ ap (λ (m : ℕ). 11 + m + (get_or body (10 + more) 0 - 1)) e

  goes_on : (operations more at : ℕ) → operations_len (field order w16 0 body) ≡ more → operations_of (field order w16 0 body) body ≡ operations
      → at ≡ 7 + more → at ≤ length body → other_version (field order w16 0 body) ≡ false
      → later_read class order (field order w16 0 body) (field order w32 2 body) (get_or body 6 0) operations (drop at body) ≡ unit_header_at class order body
  unfolding unit_header_at
  goes_on operations more at e f place inside known =
      let u : UnitHeader = unit_header class order body in
      let by : UnitHeader = header_by class order (field order w16 0 body) (field order w32 2 body) (get_or body 6 0) more body in
      let tables : ℕ = 11 + more + (get_or body (10 + more) 0 - 1) in
      let same : u ≡ by = same_header more e in
      let place_of_tables : tables_of u ≡ tables = same_tables more e in
      let known_version : other_version u.version ≡ false = ap other_version same_version ∙ known in
      let counted : operations_of u.version body ≡ operations = ap (λ (v : ℕ). operations_of v body) same_version ∙ f in
      later_step class order (field order w16 0 body) (field order w32 2 body) (get_or body 6 0) operations more at body (unit_header_at class order body) place inside
      (λ lt. causes_cut u body (u, drop (tables_of u) body) (omega arith) known_version (omega arith))
      (λ le. ap (λ (h : UnitHeader). cond (not (eqb operations 1)) (Err Ops) (Ok (h, drop tables body))) (sym same)
      ∙ ap (λ (k : ℕ). cond (not (eqb operations 1)) (Err Ops) (Ok (u, drop k body))) (sym place_of_tables)
      ∙ ap (λ (n : ℕ). cond (not (eqb n 1)) (Err Ops) (Ok (u, drop (tables_of u) body))) (sym counted)
      ∙ causes_none u body (u, drop (tables_of u) body) (omega arith) known_version (omega arith))

  -- the body ends before it has any header's fields
  cut_at : 2 ≤ length body → other_version (field order w16 0 body) ≡ false → length body < 11 → Err Cut ≡ unit_header_at class order body
  unfolding unit_header_at
  cut_at le known lt =
      let u : UnitHeader = unit_header class order body in
      let known_version : other_version u.version ≡ false = ap other_version same_version ∙ known in
      causes_cut u body (u, drop (tables_of u) body) le known_version (omega arith)

  version_at : 2 ≤ length body → other_version (field order w16 0 body) ≡ true → Err Version ≡ unit_header_at class order body
  unfolding unit_header_at
  version_at le other =
      let u : UnitHeader = unit_header class order body in
      causes_version u body (u, drop (tables_of u) body) le (ap other_version same_version ∙ other)

  short_at : length body < 2 → Err Cut ≡ unit_header_at class order body
  unfolding unit_header_at
  short_at lt = let u : UnitHeader = unit_header class order body in causes_short u body (u, drop (tables_of u) body) lt

  operations_step : 7 ≤ length body → other_version (field order w16 0 body) ≡ false
      → (operations_at (field order w16 0 body) (drop 7 body) >>= λ o. later_read class order (field order w16 0 body) (field order w32 2 body) (get_or body 6 0) o.0 o.1) ≡ unit_header_at class order body
  operations_step le known =
      elim (cases_Bool (eqb (field order w16 0 body) 4)) [
        | inl four ↦ rw four (byte_step 7 8 body _ (unit_header_at class order body) refl
            (λ le8. goes_on (get_or body 7 0) 1 8 (rw four refl) (rw four refl) refl le8 known)
            (λ lt. cut_at (omega arith) known (omega arith)))
        | inr plain ↦ rw plain (goes_on 1 0 7 (rw plain refl) (rw plain refl) refl le known)
      ]

  pub fields_read_is : fields_read class order body ≡ unit_header_at class order body
  fields_read_is =
      number_step order w16 0 2 body _ (unit_header_at class order body) refl (omega arith)
      (λ le2. elim (cases_Bool (other_version (field order w16 0 body))) [
        | inl other ↦ rw other (version_at le2 other)
        | inr known ↦ rw known (number_step order w32 2 6 body _ (unit_header_at class order body) refl le2
            (λ le6. byte_step 6 7 body _ (unit_header_at class order body) refl
            (λ le7. operations_step le7 known)
            (λ lt. cut_at le2 known (omega arith)))
            (λ lt. cut_at le2 known (omega arith)))
      ])
      short_at

pub as_read : {X : Type 0} (view : X → UnitHeader × List ℕ) (r : Result X UnitFault) (class : Class) (order : Order) (body : List ℕ) → FollowsBy view why_of r (fields_read class order body) → FollowsBy view why_of r (unit_header_at class order body)
as_read view r class order body h = subst (FollowsBy view why_of r) (fields_read_is class order body) h
